-- `enter_top_level_value`: what is hidden is marked, then the define enters.
use Rattle.names.proofs.DefineCase.{defined_still, enters_value}
use Rattle.names.proofs.define.enter_top_level_value.Goals as goal

pub enter_define-requires : goal.enter_define-requires
enter_define-requires c =
    let a = c.requires in
    (a.0, defined_still c.name.ensures c.shadow.ensures a.1)

pub returns : goal.returns
returns c = enters_value c.name.ensures c.shadow.ensures c.enter_define.ensures
