-- `enter_children`: the trees are gone through one after another.
use Prim.Native.Nat.{◌-◌}
use mathlib.Core.Path.{◌≡◌}
use lib.ListN.{length}
use Rattle.names.specs.Contract.{with_name, NamesRoom}
use Rattle.forms.proofs.ChildrenCase.{Going}
use Rattle.forms.proofs.defines.enter_children.Given as goal

abbrev pub invariant-loop-i : goal.invariant-loop-i
invariant-loop-i l =
    (length l.facts ≡ length l.initial.facts) × (length l.work ≡ length l.initial.work) × NamesRoom (with_name l.e l.p) (l.k - l.i)
    × Going l.classes l.all l.first l.k l.kind l.p l.initial.facts l.initial.work l.at l.i (with_name l.e l.p) l.facts l.work
