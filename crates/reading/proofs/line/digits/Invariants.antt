-- `digits`: reading on from the value so far gives the whole.
use Prim.Native.Nat.{◌^◌, ◌<◌}
use mathlib.Core.Path.{◌≡◌}
use lib.ListN.{drop}
use Rattle.reading.specs.Reading as Reading
use Rattle.reading.proofs.line.digits.Given as goal

abbrev pub invariant-loop-i : goal.invariant-loop-i
invariant-loop-i l = record { few : l.value < 2 ^ 32; digits : Reading.digits l.v l.l ≡ Reading.digits l.value (drop l.i l.l) }
