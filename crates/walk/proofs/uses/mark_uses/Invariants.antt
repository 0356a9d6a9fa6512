-- `mark_uses`: the records are passed one by one, with the names that are due.
use Prim.Native.Nat.{◌≤◌}
use mathlib.Core.Path.{◌≡◌}
use lib.ListN.{length}
use Rattle.walk.proofs.Marking.{Sought}
use Rattle.walk.proofs.uses.mark_uses.Given as goal

abbrev pub invariant-loop-i : goal.invariant-loop-i
invariant-loop-i l = (l.i ≤ l.end) × (length l.marks ≡ length l.initial.marks) × Sought l.all l.first l.end l.due l.i l.marks
