-- What was read goes on by what more is read, and gives the text that is printed.
use Rattle.std.specs.Prelude.{ℕ, List, ◌++◌}
use Rattle.reading.specs.declared.reader.Reading.{Reading}
use Rattle.listing.specs.Answered.{TextIn}
use Rattle.facts.specs.Input.{More, Read, Printed}

pub read-on : {r r' : Reading} {L T R L' T' R' : List ℕ} → Read r L T R → More r L T R r' L' T' R' → Read r' L' T' R'
read-on v w = record { bytes = v.bytes ++ w.bytes; holds = w.fed.is v.bytes v.holds }

pub printed_of : {r : Reading} {L T R d : List ℕ} {n : ℕ} → Read r L T R → TextIn r T R d n → Printed d n
printed_of {L = L} v w = record { bytes = v.bytes; is = w.is v.bytes L v.holds; inside = w.inside }
