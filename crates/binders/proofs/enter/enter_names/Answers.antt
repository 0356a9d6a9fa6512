-- `enter_names`: the names enter one after another.
use mathlib.Core.Bool.{cond}
use mathlib.Core.Path.{◌≡◌, refl, ap, ◌∙◌}
use Prim.Native.Nat.{suc}
use native.Mathlib.Numerals.{add-one}
use native.Mathlib.Omega.{arith}
use Rattle.work.specs.declared.Pass.{Pass}
use Rattle.work.specs.Passes.{with_second}
use Rattle.names.specs.Contract.{with_name}
use Rattle.binders.proofs.EnterCase.{heaps_below}
use Rattle.binders.proofs.NamesCase.{names-length, names_few, coming_starts, coming_ends, coming_goes, coming_room, coming_fits}
use Rattle.binders.proofs.enter.enter_names.Goals.{then-heap, else-heap}
use Rattle.binders.proofs.enter.enter_names.Goals as goal

pub loop-j-init : goal.loop-j-init
loop-j-init c = record { few = omega arith; same = refl; room = omega (arith, c.requires.room); coming = coming_starts }

pub overflow_add-at : goal.overflow_add-at
overflow_add-at c = record { fits = omega (arith, names_few c.requires) }

pub is_heap-heap-requires : goal.is_heap-heap-requires
is_heap-heap-requires c = (c.requires.inside, names-length c.requires)

pub note_heap-requires : goal.note_heap-requires
note_heap-requires c = omega (arith, names_few c.requires)

pub narrow-requires : goal.narrow-requires
narrow-requires c = omega (arith, names_few c.requires)

pub enter_name-e-requires : goal.enter_name-e-requires
enter_name-e-requires c =
    let v = c.loop-j.invariant in
    let q = coming_fits v.coming c.loop-j-test.true c.is_heap-heap.ensures c.note_heap.ensures c.requires v.room in (
      q.0,
      q.1,
      record { slot = omega (arith, c.requires.slots, c.narrow.ensures); few = c.requires.few; heaps = omega (arith, v.few, names_few c.requires) },
    )

pub loop-j-preserved : goal.loop-j-preserved
loop-j-preserved c =
    let v = c.loop-j.invariant in
    let b = c.is_heap-heap.ensures in
    let n = c.note_heap.ensures in
    let e = rw c.narrow.ensures at c.enter_name-e.ensures in
    let h : c.if-heap.h ≡ cond c.is_heap-heap.result (suc c.loop-j.h) c.loop-j.h = elim c.if-heap.branch [
      | then-heap w ↦ let t = w.if-heap.true in rw t (w.h-is ∙ add-one _)
      | else-heap w ↦ let t = w.if-heap.false in rw t w.h-is
    ] in
    record {
      few = omega (arith, heaps_below c.is_heap-heap.result c.loop-j.h h, v.few);
      same = ap (λ (q : Pass). with_name c.enter_name-e.result (with_second c.note_heap.new.second q)) v.same;
      room = coming_room v.coming c.loop-j-test.true b n e c.requires v.room;
      coming = coming_goes v.coming c.loop-j-test.true b n e h;
    }

pub returns : goal.returns
returns c =
    let v = c.loop-j.invariant in
    rw (c.name_in.ensures, ← v.same) (coming_ends v.coming c.loop-j-test.false)
