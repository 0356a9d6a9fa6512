-- The numbers of refusals: 1 to 8 and 16 of the checks, 9 and 10 of a fresh run, 11 and 12 of a second one. So 0 is free to say that nothing is refused.
use Rattle.std.specs.Prelude.{ℕ, ◌≤◌, Bool, true, false, ◌||◌, List, [], ◌∷◌, ◌++◌, ◌≡◌, refl, length, eqb, Option, None, Some}
use Rattle.std.proofs.lemmas.Option.{same_Some, none-some}
use Rattle.std.proofs.Common.{true≢false, ap, sym, ◌∙◌, arith}
use Rattle.std.proofs.Math.Decide.{ℕ_discrete}
use Rattle.tree.specs.Tree.{Trees}
use Rattle.tree.specs.Define.{top_level}
use Rattle.tree.specs.Check.{Refusal, refusal, or_else, member, check1, check2, check3, check4, check5, check6, check7, check16, check8}
use Rattle.tree.proofs.Laws.Acceptance.{accepted}
use Rattle.semantic.specs.declared.IdentifierStatus.TheVariants.{Global}
use Rattle.pass.specs.State.{Facts, Noted, depth}
use Rattle.pass.specs.Run.{start, run, fresh, settled, refused_first, nine_or, ten_at, or_second, Tables, Outcome, outcome, fresh_outcome, settled_outcome, fitting, Answers, Fresh, Settled}
use Rattle.pass.specs.Visit.{enter_children}
use Rattle.pass_laws.specs.Laws.Changes.{◌⨾◌, keeps_noted}
use Rattle.pass_laws.specs.Laws.Visits.{stays, children_changes, tops_visited}
use Rattle.pass_laws.specs.Laws.Ranges.{trees_any}
use Rattle.pass_laws.specs.Laws.Scopes.{Any}

abbrev pub of_checks : List ℕ
of_checks = 1 ∷ 2 ∷ 3 ∷ 4 ∷ 5 ∷ 6 ∷ 7 ∷ 16 ∷ 8 ∷ []

abbrev pub of_fresh : List ℕ
of_fresh = 9 ∷ 10 ∷ []

abbrev pub of_second : List ℕ
of_second = 11 ∷ 12 ∷ []

-- the refusal, if any, has one of these numbers
pub record Among (l : List ℕ) (o : Option Refusal) : Type 0 where
  pub is : (r : Refusal) → o ≡ Some r → member r.number l ≡ true

among_none : {l : List ℕ} → Among l None
among_none = record { is = λ r e. absurd (none-some r e) }

among_some : {l : List ℕ} (r : Refusal) → member r.number l ≡ true → Among l (Some r)
among_some {l} r h =
    record { is = λ q e. ap (λ (n : ℕ). member n l) (sym (ap (λ (p : Refusal). p.number) (same_Some r q e))) ∙ h }

or-else : {l : List ℕ} (n : ℕ) (o : Option ℕ) {p : Option Refusal} → member n l ≡ true → Among l p → Among l (or_else n o p)
or-else n None h k = k
or-else n (Some i) h k = among_some (record { number = n; at = i }) h

or_right : (a : Bool) {b : Bool} → b ≡ true → (a || b) ≡ true
or_right true e = refl
or_right false e = e

member-left : (n : ℕ) (a b : List ℕ) → member n a ≡ true → member n (a ++ b) ≡ true
member-left n [] b e = absurd (true≢false (sym e))
member-left n (x ∷ a) b e = go (eqb n x) (member-left n a b) e
  where
    go : (q : Bool) → (member n a ≡ true → member n (a ++ b) ≡ true) → (q || member n a) ≡ true → (q || member n (a ++ b)) ≡ true
    go true k h = refl
    go false k h = k h

member_right : (n : ℕ) (a b : List ℕ) → member n b ≡ true → member n (a ++ b) ≡ true
member_right n [] b e = e
member_right n (x ∷ a) b e = or_right (eqb n x) (member_right n a b e)

among_left : {a : List ℕ} (b : List ℕ) {o : Option Refusal} → Among a o → Among (a ++ b) o
among_left {a} b h = record { is = λ r e. member-left r.number a b (h.is r e) }

among_right : (a : List ℕ) {b : List ℕ} {o : Option Refusal} → Among b o → Among (a ++ b) o
among_right a {b} h = record { is = λ r e. member_right r.number a b (h.is r e) }

pub checks-numbers : (names : ℕ) (rs : List ℕ) → Among of_checks (refusal names rs)
unfolding refusal
checks-numbers names rs =
    or-else 1 (check1 names rs) refl
    (or-else 2 (check2 names rs) refl
    (or-else 3 (check3 names rs) refl
    (or-else 4 (check4 names rs) refl
    (or-else 5 (check5 names rs) refl
    (or-else 6 (check6 names rs) refl
    (or-else 7 (check7 names rs) refl
    (or-else 16 (check16 names rs) refl
    (or-else 8 (check8 names rs) refl among_none))))))))

pub first-numbers : (n : Noted) → Among of_fresh (refused_first n)
first-numbers n = nine n.nine n.ten
  where
    ten : (t : Option ℕ) → Among of_fresh (ten_at t)
    ten None = among_none
    ten (Some i) = among_some (record { number = 10; at = i }) refl

    nine : (o t : Option ℕ) → Among of_fresh (nine_or o (ten_at t))
    nine None t = ten t
    nine (Some i) t = among_some (record { number = 9; at = i }) refl

-- 11 or 12
eleven_on : (n : ℕ) → 11 ≤ n → n ≤ 12 → member n of_second ≡ true
eleven_on n h k = go (ℕ_discrete n 11)
  where
    go : Dec (n ≡ 11) → member n of_second ≡ true
    go (yes e) = rw e
    go (no e) = let z : n ≡ 12 = omega arith in rw z

pub run-numbers : (classes : List ℕ) (ts : Trees) (f : Facts) → Among of_second (run classes ts f).noted.second
unfolding run start
run-numbers classes ts f =
    let us = top_level ts in
    let c = children_changes {own = Any} classes Global us (start f) (trees_any us) in
    let one : 1 ≤ depth (enter_children classes Global us (start f)) = stays c (omega arith) in
    let later = keeps_noted (c ⨾ tops_visited {own = Any} classes us (enter_children classes Global us (start f)) (trees_any us) one) in
    record { is = λ r e. let n = later.numbers (λ q k. absurd (none-some q k)) r e in eleven_on r.number n.0 n.1 }

either_numbers : {a b : List ℕ} (o p : Option Refusal) → Among a o → Among b p → Among (a ++ b) (or_second o p)
either_numbers {a} None p h k = among_right a k
either_numbers {b = b} (Some r) p h k = among_left b h

outcome-numbers : {l : List ℕ} (o : Option Refusal) (f : Facts) → Among l o → Among l (outcome o f).refused
outcome-numbers None f h = h
outcome-numbers (Some r) f h = h

module _ {outcome_of : List ℕ → Trees → Outcome} {classes rs : List ℕ} {t : Tables} {o : Outcome} {l : List ℕ} where
  answers_numbers : Answers outcome_of classes rs t o → ((ts : Trees) → Among l (outcome_of classes ts).refused) → Among (of_checks ++ l) o.refused
  answers_numbers x h = record { is = λ r e. by_checks r e (fitting rs t) refl (refusal (length classes) rs) refl }
    where
      said : (r : Refusal) → o.refused ≡ Some r → {u : Outcome} → o ≡ u → u.refused ≡ Some r
      said r e q = sym (ap (λ (p : Outcome). p.refused) q) ∙ e

      by_checks : (r : Refusal) → o.refused ≡ Some r → (fits : Bool) → fitting rs t ≡ fits → (q : Option Refusal) → refusal (length classes) rs ≡ q → member r.number (of_checks ++ l) ≡ true
      by_checks r e false f q k = (among_some {l = of_checks ++ l} (record { number = 1; at = 0 }) refl).is r (said r e (x.unfit f))
      by_checks r e true f (Some q) k = member-left r.number of_checks l ((checks-numbers (length classes) rs).is r (k ∙ said r e (x.unsound f q k)))
      by_checks r e true f None k =
          let (ts, a) = accepted (length classes) rs k in member_right r.number of_checks l ((h ts).is r (said r e (x.sound f ts a)))

module _ {classes rs : List ℕ} {t : Tables} {o : Outcome} where
  pub fresh-numbers : Fresh classes rs t o → Among (of_checks ++ of_fresh) o.refused
  unfolding fresh_outcome
  fresh-numbers x = answers_numbers x.answers (λ ts. outcome-numbers (refused_first (fresh classes ts).noted) _ (first-numbers (fresh classes ts).noted))

  pub settled-numbers : Settled classes rs t o → Among (of_checks ++ (of_fresh ++ of_second)) o.refused
  unfolding settled_outcome settled
  settled-numbers x =
      answers_numbers x.answers (λ ts.
      outcome-numbers _ _ (either_numbers (refused_first (fresh classes ts).noted) _ (first-numbers (fresh classes ts).noted) (run-numbers classes ts (fresh classes ts).facts)))
