-- `enter_name`: the name, its entry and its fact take their places, and the pass after it is told.
use Rattle.names.specs.Laws.Idents.{known_few}
use Rattle.names.proofs.KnownCase.{bounds}
use Rattle.names.proofs.DefineCase.{name_enters}
use Rattle.names.proofs.define.enter_name.Goals as goal

pub store-requires : goal.store-requires
store-requires c =
    let h = c.requires.1.here in
    (bounds h.good h.tied (known_few h.known h.place)).row

pub returns : goal.returns
returns c =
    rw c.name_in.ensures
    (name_enters c.name-name.ensures c.define_name-place.ensures c.store_entry.ensures c.store.ensures c.is_live_row-live.ensures
    c.with_row-q.ensures c.note_live.ensures)
