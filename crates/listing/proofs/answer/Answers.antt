-- `answer`: nothing without room; else by what the bytes say.
use mathlib.Core.Path.{refl}
use borrow.Author.Rules.{rules}
use native.Mathlib.Omega.{arith}
use Rattle.listing.proofs.Inputs.{bad_answered, good_answered}
use Rattle.listing.proofs.answer.Goals as goal

pub returns-then-out-lt-TEXT : goal.returns-then-out-lt-TEXT
returns-then-out-lt-TEXT c = record {
  is = λ h. absurd (omega arith);
  leaves = λ h. absurd (omega arith);
  any = λ h. absurd (omega arith);
  cramped = λ h. (refl, refl, refl);
  inside = omega arith;
  long = refl;
}

pub returns-in-Err : goal.returns-in-Err
returns-in-Err c =
    let v = c.bad_line in
    bad_answered c.finish.ensures (omega (arith, c.if-out-lt-TEXT.false)) v.auto.out c.in-Err.is v.ensures (search rules)

pub returns-in-Ok : goal.returns-in-Ok
returns-in-Ok c =
    let v = c.input_text in
    good_answered c.finish.ensures (omega (arith, c.if-out-lt-TEXT.false)) v.auto.out c.in-Ok.is v.ensures.input (search rules)
