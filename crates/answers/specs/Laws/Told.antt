-- An answer that is told is the only told one with its number and record.
use Rattle.std.specs.Prelude.{ℕ, ◌≡◌, refl, cond, eqb, Option, None, Some, Result, Ok, Err}
use Rattle.std.proofs.Common.{ap, sym, ◌∙◌}
use Rattle.tree.specs.Check.{Refusal}
use Rattle.checks.specs.declared.Refusal.TheVariants.{Ragged, TooMany, Field, Missing, Deep, NotAName, EmptyCall, Untested, Repeated}
use Rattle.work.specs.declared.SecondRefusal.TheVariants.{NoLambda, NoCapture}
use Rattle.answers.specs.declared.Refusal.{Refusal as Refused}
use Rattle.answers.specs.declared.Refusal.TheVariants.{Lengths, Unfit, NameTwice, ListsFull, Second}
use Rattle.answers.specs.Answer.{refusal_in, Told}

-- the refusal with a number and a record
abbrev refused : ℕ → ℕ → Refused
refused n i =
    cond (eqb n 2) (Unfit TooMany)
    (cond (eqb n 3) (Unfit (Field i))
    (cond (eqb n 4) (Unfit (Missing i))
    (cond (eqb n 5) (Unfit (Deep i))
    (cond (eqb n 6) (Unfit (NotAName i))
    (cond (eqb n 7) (Unfit (EmptyCall i))
    (cond (eqb n 16) (Unfit (Untested i))
    (cond (eqb n 8) (Unfit (Repeated i))
    (cond (eqb n 9) (NameTwice i)
    (cond (eqb n 10) (ListsFull i)
    (cond (eqb n 11) (Second (NoLambda i))
    (cond (eqb n 12) (Second (NoCapture i)) Lengths)))))))))))

abbrev answer : Option Refusal → Result (Unit {0}) Refused
answer None = Ok tt
answer (Some r) = Err (refused r.number r.at)

told_is : (a : Result (Unit {0}) Refused) → Told a → answer (refusal_in a) ≡ a
told_is (Ok u) t = refl
told_is (Err Lengths) t = refl
told_is (Err (Unfit Ragged)) t = absurd t
told_is (Err (Unfit TooMany)) t = refl
told_is (Err (Unfit (Field i))) t = refl
told_is (Err (Unfit (Missing i))) t = refl
told_is (Err (Unfit (Deep i))) t = refl
told_is (Err (Unfit (NotAName i))) t = refl
told_is (Err (Unfit (EmptyCall i))) t = refl
told_is (Err (Unfit (Untested i))) t = refl
told_is (Err (Unfit (Repeated i))) t = refl
told_is (Err (NameTwice i)) t = refl
told_is (Err (ListsFull i)) t = refl
told_is (Err (Second (NoLambda i))) t = refl
told_is (Err (Second (NoCapture i))) t = refl

pub told_once : (a b : Result (Unit {0}) Refused) → Told a → Told b → refusal_in a ≡ refusal_in b → a ≡ b
told_once a b t u e = sym (told_is a t) ∙ ap answer e ∙ told_is b u
