-- `enter_name`: the entry and the fact, then the name enters.
use Rattle.binders.proofs.EnterCase.{entry_new, enters_name}
use Rattle.binders.proofs.enter.enter_name.Goals as goal

pub enter_name-requires : goal.enter_name-requires
enter_name-requires c =
    let o = c.args in
    (c.requires.0, c.requires.1, entry_new o.g.base o.g.heaps o.j o.h c.depth-depth.result o.heap c.name_entry-e.ensures)

pub returns : goal.returns
returns c =
    enters_name c.depth-depth.ensures c.name_entry-e.ensures c.name_kind.ensures c.span_at.ensures c.new-fact.ensures
    c.enter_name.ensures
