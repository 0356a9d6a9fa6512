-- `text_of_input`: the text of the bytes that were read.
use Prim.Native.Nat.{ℕ}
use mathlib.Core.List.{List}
use mathlib.Core.Path.{◌≡◌}
use borrow.Author.Rules.{rules}
use Rattle.reading.specs.declared.reader.Reading.{Reading}
use Rattle.listing.specs.Answered.{TextIn}
use Rattle.facts.specs.Input.{Read, Printed}
use Rattle.facts.specs.Laws.Input.{printed_of}
use Rattle.facts.proofs.text_of_input.Goals as goal

printed_as : {r : Reading} {L T R T' R' d : List ℕ} {n : ℕ} → Read r L T R → T' ≡ T → R' ≡ R → TextIn r T' R' d n → Printed d n
printed_as {L = L} v p q w = printed_of {L = L} (rw (p, q) v) w

pub returns : goal.returns
returns g c = printed_as c.read_all.ensures.read (search rules) (search rules) c.text.ensures
