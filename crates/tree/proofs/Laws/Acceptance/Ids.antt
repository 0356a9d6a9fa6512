-- Check 8 finds no record exactly where no id stands twice.
use Rattle.std.specs.Prelude.{ℕ, List, [], ◌∷◌, Bool, true, false, not, ◌&&◌, ◌||◌, ◌≡◌, refl, eqb, None}
use Rattle.std.proofs.Math.Bool.{and-false}
use Rattle.std.proofs.Common.{true≢false, sym, ◌∙◌, eqb-true, eq-eqb}
use Rattle.tree.specs.Record.{Record}
use Rattle.tree.specs.Check.{member, repeated}
use Rattle.tree.specs.Accepted.{All, Distinct}
use Rattle.tree.proofs.Laws.Acceptance.Tests.{neither, both-none, all_of, all_map, all_zip}

-- an id that is not 0 and stands among the earlier ones
abbrev again : List ℕ → Record → Bool
again seen r = not (eqb r.id 0) && member r.id seen

-- With one more earlier id, as tests: is the id 0, is it that one, is it another earlier one

split : (z e m : Bool) → (not z && (e || m)) ≡ false → (e ≡ true → z ≡ true) × ((not z && m) ≡ false)
split true e m h = (λ p. refl, refl)
split false true m h = absurd (true≢false h)
split false false m h = (λ p. p, h)

join : (z e m : Bool) → (e ≡ true → z ≡ true) → (not z && m) ≡ false → (not z && (e || m)) ≡ false
join true e m p h = refl
join false true m p h = sym (p refl)
join false false m p h = h

-- the same of the ids j and i
module _ (seen : List ℕ) (j : ℕ) (q : Record) where
  split_id : again (j ∷ seen) q ≡ false → (j ≡ q.id → j ≡ 0) × (again seen q ≡ false)
  split_id h =
      let s = split (eqb q.id 0) (eqb q.id j) (member q.id seen) h in
      (λ e. e ∙ eqb-true q.id 0 (s.0 (eq-eqb q.id j (sym e))), s.1)

  join_id : (j ≡ q.id → j ≡ 0) → again seen q ≡ false → again (j ∷ seen) q ≡ false
  join_id p h =
      join (eqb q.id 0) (eqb q.id j) (member q.id seen)
      (λ e. let same = sym (eqb-true q.id j e) in eq-eqb q.id 0 (sym same ∙ p same)) h

distinct_from : (l : List Record) (seen : List ℕ) → repeated seen l ≡ None → All (λ q. again seen q ≡ false) l × Distinct l
unfolding repeated
distinct_from [] seen e = (tt, tt)
distinct_from (r ∷ l) seen e =
    let h = neither (again seen r) (repeated (r.id ∷ seen) l) e in
    let (a, d) = distinct_from l (r.id ∷ seen) h.1 in
    ((h.0, all_map (λ q b. (split_id seen r.id q b).1) l a), (all_map (λ q b. (split_id seen r.id q b).0) l a, d))

none_from : (l : List Record) (seen : List ℕ) → All (λ q. again seen q ≡ false) l → Distinct l → repeated seen l ≡ None
unfolding repeated
none_from [] seen a d = refl
none_from (r ∷ l) seen a d =
    both-none a.0 (none_from l (r.id ∷ seen) (all_zip (λ q. join_id seen r.id q) l d.0 a.1) d.1)

pub repeated-none : (l : List Record) → repeated [] l ≡ None → Distinct l
repeated-none l e = (distinct_from l [] e).1

pub none-repeated : (l : List Record) → Distinct l → repeated [] l ≡ None
none-repeated l = none_from l [] (all_of (λ q. and-false (not (eqb q.id 0))) l)
