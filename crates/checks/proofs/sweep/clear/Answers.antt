-- `clear`: none of the checks applies to the records so far, and those at top level are listed.
use borrow.Author.Tests.{eqb-true, eq-eqb}
use native.Mathlib.Omega.{arith}
use Prim.Native.Nat.{◌≤◌}
use lib.ListN.{length-set}
use Rattle.scans.proofs.Telling.{tells_no, tells_without}
use Rattle.scans.proofs.Limiting.{tells_sound, names_at, children_at, names_few, children_few}
use Rattle.checks.proofs.Listing.{one_listed, list-end, more_tops, store_begin, store_later, store_one, stores}
use Rattle.checks.proofs.Standing.{stand_some, stand_last, stand_under}
use Rattle.checks.proofs.Sweeping.{sweep_begin, sweep_next, sweep_end, clear_sound, clear_near, clear_none}
use Rattle.checks.proofs.sweep.clear.Goals as goal

pub loop-i-init : goal.loop-i-init
loop-i-init c = (sweep_begin _ _ _ c.requires.rs_len_bound c.requires.rs_in_bounds c.len-n.ensures, store_begin _ _ 0)

pub returns-then-not-within-clause-tells : goal.returns-then-not-within-clause-tells
returns-then-not-within-clause-tells c =
    tells_without (tells_sound _ c.new-limits.ensures _ c.loop-i.invariant.0.few c.within.ensures) c.if-not-within.true (λ k. clear_sound c.loop-i.invariant.0 k (omega arith))

pub returns-then-not-within-clause-stores : goal.returns-then-not-within-clause-stores
returns-then-not-within-clause-stores c =
    stores c.loop-i.invariant.1 (more_tops c.loop-i.invariant.0.places.listed)

pub of-requires-clause-i_bound : goal.of-requires-clause-i_bound
of-requires-clause-i_bound c =
    let f = c.within.ensures.yes c.if-not-within.false in f.fields.known

pub of-requires-clause-fits : goal.of-requires-clause-fits
of-requires-clause-fits c =
    let f = c.within.ensures.yes c.if-not-within.false in omega (arith, names_few _ c.new-limits.ensures _ f)

pub overflow_add-due : goal.overflow_add-due
overflow_add-due c =
    omega (arith, c.of.ensures, names_few _ c.new-limits.ensures _ (c.within.ensures.yes c.if-not-within.false), c.taken.ensures, c.loop-i.invariant.0.few)

pub returns-then-inner-ge-DEEPEST-clause-tells : goal.returns-then-inner-ge-DEEPEST-clause-tells
returns-then-inner-ge-DEEPEST-clause-tells c =
    tells_no (λ k. let h = clear_near c.loop-i.invariant.0 k (omega arith) in omega arith)

pub returns-then-inner-ge-DEEPEST-clause-stores : goal.returns-then-inner-ge-DEEPEST-clause-stores
returns-then-inner-ge-DEEPEST-clause-stores c =
    stores c.loop-i.invariant.1 (more_tops c.loop-i.invariant.0.places.listed)

pub overflow_add-top : goal.overflow_add-top
overflow_add-top c =
    let a = c.loop-i.invariant.0.places.listed in
    let one : c.pick-top.result ≤ 1 = rw c.pick-top.ensures (search one_listed) in
    omega arith

pub of-requires-in-loop-i-clause-i_bound : goal.of-requires-in-loop-i-clause-i_bound
of-requires-in-loop-i-clause-i_bound c =
    let f = c.within.ensures.yes c.if-not-within.false in f.fields.known

pub of-requires-in-loop-i-clause-fits : goal.of-requires-in-loop-i-clause-fits
of-requires-in-loop-i-clause-fits c =
    let f = c.within.ensures.yes c.if-not-within.false in omega (arith, children_few _ c.new-limits.ensures _ f)

pub step-inner-requires-clause-le_word : goal.step-inner-requires-clause-le_word
step-inner-requires-clause-le_word c =
    let a = c.loop-i.invariant.0.places in stand_some a (omega arith)

pub step-inner-requires-clause-word_bound : goal.step-inner-requires-clause-word_bound
step-inner-requires-clause-word_bound c =
    let a = c.loop-i.invariant.0.places in a.few

pub step-inner-requires-clause-under_nonzero : goal.step-inner-requires-clause-under_nonzero
step-inner-requires-clause-under_nonzero c =
    let a = c.loop-i.invariant.0.places in stand_last a (omega arith)

pub step-inner-requires-clause-under_in_bounds : goal.step-inner-requires-clause-under_in_bounds
step-inner-requires-clause-under_in_bounds c =
    let a = c.loop-i.invariant.0.places in stand_under a (omega arith) (omega (arith, c.if-inner-ge-DEEPEST.false))

pub step-inner-requires-clause-children_bound : goal.step-inner-requires-clause-children_bound
step-inner-requires-clause-children_bound c =
    let a = c.loop-i.invariant.0.places in omega (arith, c.of-in-loop-i.ensures, children_few _ c.new-limits.ensures _ (c.within.ensures.yes c.if-not-within.false))

pub loop-i-preserved : goal.loop-i-preserved
loop-i-preserved c =
    let k = c.new-limits.ensures in
    let f = c.within.ensures.yes c.if-not-within.false in (
      rw c.pick-top.ensures
          (sweep_next c.loop-i.invariant.0 (omega arith) ((tells_sound _ k _ c.loop-i.invariant.0.few c.within.ensures).yes c.if-not-within.false)
          (rw (c.taken.ensures, c.of.ensures, names_at _ k _ f)) c.if-inner-ge-DEEPEST.false c.step-inner.ensures
          (rw c.of-in-loop-i.ensures (children_at _ k _ f))),
      let a = c.loop-i.invariant.0.places.listed in store_later (store_one c.loop-i.invariant.1 (omega arith) (omega arith)) (omega arith),
    )

pub shape_of-tops : goal.shape_of-tops
shape_of-tops c = simp length-set c.loop-i.invariant.1.long

pub returns-clause-tells : goal.returns-clause-tells
returns-clause-tells c =
    let a = c.loop-i.invariant.0 in
    let l = a.places.listed in record { yes = λ t. sweep_end a (omega arith) (eqb-true _ _ t); all = λ k. eq-eqb _ _ (clear_none a k (omega arith)) }

pub returns-clause-told : goal.returns-clause-told
returns-clause-told c =
    let a = c.loop-i.invariant.0 in
    let l = a.places.listed in λ _. list-end l c.len-n.ensures (omega arith)

pub returns-clause-stores : goal.returns-clause-stores
returns-clause-stores c =
    let a = c.loop-i.invariant.0 in
    let l = a.places.listed in stores (store_one c.loop-i.invariant.1 (omega arith) (omega arith)) (more_tops l)
