-- Which of the refusals 9 to 12 an operation answers: from what it ensures, and the claims of the definition.
use Rattle.std.specs.Prelude.{ℕ, List, [], ◌≡◌, refl, length, Option, None, Some}
use Rattle.std.proofs.Common.{ap, ◌∙◌}
use Rattle.tree.specs.Tree.{Trees}
use Rattle.tree.specs.Define.{inner_defines}
use Rattle.tree.specs.Check.{Refusal, or_else}
use Rattle.tree.specs.Accepted.{Accepted}
use Rattle.pass.specs.State.{Facts, Noted}
use Rattle.pass.specs.Run.{Outcome, outcome, fresh, settled, refused_first, or_second, fresh_outcome, settled_outcome}
use Rattle.r7rs.specs.Binding.{events}
use Rattle.execution.specs.Acceptance.{nine_in, ten_in, second_in, fresh_refusal, settled_refusal}
use Rattle.execution.proofs.Laws.Exact.Nine.{nine_exact}
use Rattle.execution.proofs.Laws.Exact.Ten.{ten_exact}
use Rattle.execution.proofs.Laws.Exact.Second.{second_exact}
use Rattle.promises.specs.Promises.{FreshRefuses, SettledRefuses}

-- 9 goes before 10: what holds of 10 and of the rest is asked where nothing before is refused
first_is : (n : Noted) (i j : Option ℕ) → n.nine ≡ i → (i ≡ None → n.ten ≡ j) → refused_first n ≡ or_else 9 i (or_else 10 j None)
first_is n (Some i) j e f = rw e
first_is n None (Some j) e f = rw (e, f refl)
first_is n None None e f = rw (e, f refl)

then_is : (i j : Option ℕ) (q o r : Option Refusal) → q ≡ or_else 9 i (or_else 10 j None) → (q ≡ None → o ≡ r) → or_second q o ≡ or_else 9 i (or_else 10 j r)
then_is (Some i) j q o r e f = rw e
then_is None (Some j) q o r e f = rw e
then_is None None q o r e f = rw e (f e)

refused_is : (q : Option Refusal) (f : Facts) → (outcome q f).refused ≡ q
refused_is None f = refl
refused_is (Some r) f = refl

fresh_is : (classes rs : List ℕ) (ts : Trees) → Accepted (length classes) rs ts → inner_defines ts ≡ []
    → refused_first (fresh classes ts).noted ≡ fresh_refusal ts
fresh_is classes rs ts a d =
    let nine = nine_exact classes rs ts a d in
    first_is (fresh classes ts).noted (nine_in (events ts)) (ten_in (events ts)) nine (λ e. ten_exact classes rs ts a d (nine ∙ e))

settled_is : (classes rs : List ℕ) (ts : Trees) → Accepted (length classes) rs ts → inner_defines ts ≡ []
    → or_second (refused_first (fresh classes ts).noted) (settled classes ts).noted.second ≡ settled_refusal ts
settled_is classes rs ts a d =
    then_is (nine_in (events ts)) (ten_in (events ts)) _ (settled classes ts).noted.second (second_in (events ts)) (fresh_is classes rs ts a d)
    (λ e. second_exact classes rs ts (record { accepted = a; not_refused = e }) d)

pub fresh_refuses : FreshRefuses
unfolding fresh_outcome
fresh_refuses classes rs t o ts x h a d = ap (λ (p : Outcome). p.refused) (x.answers.sound h ts a) ∙ refused_is _ _ ∙ fresh_is classes rs ts a d

pub settled_refuses : SettledRefuses
unfolding settled_outcome
settled_refuses classes rs t o ts x h a d = ap (λ (p : Outcome). p.refused) (x.answers.sound h ts a) ∙ refused_is _ _ ∙ settled_is classes rs ts a d
