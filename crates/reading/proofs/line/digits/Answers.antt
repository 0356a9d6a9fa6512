-- `digits`: reading on from the value so far gives the whole.
use Prim.Native.Nat.{◌+◌}
use native.Mathlib.Omega.{arith}
use mathlib.Core.Path.{refl, ap, sym, ◌∙◌}
use lib.ListN.{drop}
use Rattle.std.proofs.lemmas.Grind.{common_steps}
use Rattle.reading.specs.Found.{found}
use Rattle.reading.proofs.Places.{digits_turn, digits_turn_as, digits-over, digits-end, fits_as, fits-none}
use Rattle.reading.proofs.line.digits.Goals as goal

pub returns-then-not-is_ascii_digit : goal.returns-then-not-is_ascii_digit
returns-then-not-is_ascii_digit c =
    let v = c.loop-i in
    fits_as v.value v.invariant.few
    (v.invariant.digits ∙ digits-over c.args.l.now v.value v.i c.loop-i-test.true (sym c.if-not-is_ascii_digit.ensures.value))
    (grind (arith, common_steps))

pub returns-in_err-checked_mul : goal.returns-in_err-checked_mul
returns-in_err-checked_mul c =
    let v = c.loop-i in
    let l = c.args.l.now in
    ap found c.from_residual.ensures
    ∙ fits-none _ (drop (v.i + 1) l) (omega (arith, c.in_err-checked_mul.ensures))
    (v.invariant.digits ∙ digits_turn l v.value v.i c.loop-i-test.true (sym c.if-not-is_ascii_digit.ensures.value))

pub returns-in_err-value : goal.returns-in_err-value
returns-in_err-value c =
    let v = c.loop-i in
    let l = c.args.l.now in
    ap found c.from_residual-in_err-value.ensures
    ∙ fits-none _ (drop (v.i + 1) l) (omega (arith, c.in_ok-checked_mul.ensures, c.in_err-value.ensures))
    (v.invariant.digits ∙ digits_turn l v.value v.i c.loop-i-test.true (sym c.if-not-is_ascii_digit.ensures.value))

pub loop-i-preserved : goal.loop-i-preserved
loop-i-preserved c =
    let v = c.loop-i in
    record {
      few = omega (arith, c.in_ok-checked_mul.ensures, c.in_ok-value.ensures);
      digits =
          v.invariant.digits
          ∙ digits_turn_as c.args.l.now v.value v.i _ c.loop-i-test.true (sym c.if-not-is_ascii_digit.ensures.value)
          (omega (arith, c.in_ok-checked_mul.ensures, c.in_ok-value.ensures));
    }

pub returns : goal.returns
returns c =
    let v = c.loop-i in
    fits_as v.value v.invariant.few (v.invariant.digits ∙ digits-end c.args.l.now v.value v.i c.loop-i-test.false) refl
