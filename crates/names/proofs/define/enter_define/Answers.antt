-- `enter_define`: the fact is made first, then the name enters.
use Rattle.names.proofs.DefineCase.{defines_by, top_level_fits}
use Rattle.names.proofs.define.enter_define.Goals as goal

pub enter_name-requires : goal.enter_name-requires
enter_name-requires c =
    let a = c.requires in
    (a.0, a.1, top_level_fits c.top_level.ensures)

pub returns : goal.returns
returns c = defines_by c.define_fact-fact.ensures c.top_level.ensures c.enter_name.ensures
