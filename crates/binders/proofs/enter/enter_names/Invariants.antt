-- `enter_names`: the names enter one after another, and nothing else of the pass changes.
use mathlib.Core.Path.{◌≡◌}
use Prim.Native.Nat.{◌≤◌, ◌-◌}
use Rattle.names.specs.Contract.{NamesRoom, name_in}
use Rattle.binders.specs.Enter.{with_names}
use Rattle.binders.proofs.NamesCase.{Coming}
use Rattle.binders.proofs.enter.enter_names.Given as goal

abbrev pub invariant-loop-j : goal.invariant-loop-j
invariant-loop-j l = record {
  few : l.h ≤ l.j;
  same : l.q ≡ with_names (record { name = name_in l.q; second = l.q.second }) l.fn.p;
  room : NamesRoom l.q (l.names.count - l.j);
  coming : Coming l.all l.names l.g l.fn.p l.initial.facts l.arguments l.initial.work l.j l.h l.q l.facts l.work;
}
