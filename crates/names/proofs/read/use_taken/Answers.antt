-- `use_taken`: what is known of the capture is read, then the capture and the entry are used.
use native.Mathlib.Omega.{arith}
use Rattle.names.proofs.KnownCase.{uses_are}
use Rattle.names.proofs.TakenCase.{takeable_place, takeable_cell, takeable_uses, uses-taken}
use borrow.Author.Rules.{rules}
use Rattle.names.proofs.read.use_taken.Goals as goal

pub load_capture-t-requires : goal.load_capture-t-requires
load_capture-t-requires c = let k = c.requires.2 in (k.works.long, takeable_place k)

pub use_capture-requires : goal.use_capture-requires
use_capture-requires c = let k = c.requires.2 in (k.works.long, takeable_place k, takeable_cell k)

pub store_entry-requires : goal.store_entry-requires
store_entry-requires c =
    let a = c.requires in
    let u = takeable_uses a.2 c.use_capture.ensures c.load_entry.ensures in
    (search rules, a.1, omega (arith, uses_are c.used_by.ensures, uses_are c.capture-e.ensures))

pub returns : goal.returns
returns c =
    uses-taken c.load_capture-t.ensures c.use_capture.ensures c.load_entry.ensures c.used_by.ensures c.capture-e.ensures
    c.store_entry.ensures
