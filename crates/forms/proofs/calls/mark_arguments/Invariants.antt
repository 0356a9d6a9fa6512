-- `mark_arguments`: the arguments are marked one after another.
use mathlib.Core.Path.{◌≡◌}
use lib.ListN.{length}
use Rattle.forms.proofs.CallsCase.{Marking}
use Rattle.forms.proofs.calls.mark_arguments.Given as goal

abbrev pub invariant-loop-i : goal.invariant-loop-i
invariant-loop-i l = (length l.facts ≡ length l.initial.facts) × Marking l.all l.first l.k l.p l.initial.facts l.work l.at l.i l.facts
