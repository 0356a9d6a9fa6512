-- `name_entry`, by its two ways.
use mathlib.Core.Path.{ap, ◌∙◌}
use native.Mathlib.Omega.{arith}
use Prim.Native.Nat.{ℕ, ◌+◌}
use Rattle.pass.specs.State.{heap_entry}
use Rattle.work.specs.Coded.{coded}
use Rattle.binders.proofs.EnterCase.{unwrap_zero}
use Rattle.binders.proofs.enter.name_entry.Goals as goal

pub overflow_add-h : goal.overflow_add-h
overflow_add-h c = omega (arith, c.unwrap_or.ensures, unwrap_zero c.args.g.heaps, c.requires.few, c.requires.heaps)

pub returns-then-heap : goal.returns-then-heap
returns-then-heap c =
    let o = c.args in
    rw c.if-heap.true (c.on_heap.ensures ∙ ap (λ (z : ℕ). coded (heap_entry o.j (o.h + z) o.depth)) (c.unwrap_or.ensures ∙ unwrap_zero o.g.heaps))
