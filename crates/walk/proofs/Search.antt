-- A search through records in a row, with a number that each record may change.
use Prim.Native.Nat.{ℕ, suc, ◌+◌, ◌-◌, ◌≤◌, ◌<◌}
use mathlib.Core.List.{List, [], ◌∷◌}
use mathlib.Core.Bool.{Bool, true, false, ◌||◌}
use mathlib.Core.Path.{◌≡◌, refl, ap, ap₂, sym, ◌∙◌}
use native.Mathlib.Omega.{arith}
use lib.ListN.{length}
use Rattle.tree.specs.Record.{Record, records, nth}
use Rattle.tree.proofs.Laws.Stands.{tree_inside}
use Rattle.walk.specs.Contract.{SomeBody}
use Rattle.walk.proofs.Slice.{slice, slice-next}

module _ (test : ℕ → Record → Bool) (step : ℕ → Record → ℕ) where
  -- whether the test holds of some record, d being the number before the first
  abbrev pub scan : ℕ → List Record → Bool
  scan d [] = false
  scan d (r ∷ l) = test d r || scan (step d r) l

  -- the loop has come to record p with the number d: the answer is that of the m records that are left
  pub record At (rs : List ℕ) (answer : Bool) (d p m : ℕ) : Type 0 where
    pub rest : answer ≡ scan d (slice rs p m)
    pub within : p + m ≤ length (records rs)

  pub begin : (rs : List ℕ) (d p m : ℕ) → p + m ≤ length (records rs) → {q n : ℕ} → q ≡ p → n ≡ m → At rs (scan d (slice rs p m)) d q n
  begin rs d p m h eq en = record { rest = sym (ap₂ (λ (i j : ℕ). scan d (slice rs i j)) eq en); within = omega arith }

  module _ {rs : List ℕ} {answer : Bool} {d p : ℕ} where
    ahead : {m n : ℕ} → m ≡ suc n → At rs answer d p m → answer ≡ test d (nth rs p) || scan (step d (nth rs p)) (slice rs (p + 1) n)
    ahead {m} {n} e a = a.rest ∙ ap (λ (k : ℕ). scan d (slice rs p k)) e ∙ ap (scan d) (slice-next rs p n (omega (arith, a.within)))

    pub hit : {m : ℕ} → At rs answer d p m → 0 < m → test d (nth rs p) ≡ true → true ≡ answer
    hit {m} a h t = sym (ahead {n = m - 1} (omega arith) a ∙ ap (λ (b : Bool). b || scan (step d (nth rs p)) (slice rs (p + 1) (m - 1))) t)

    pub next : {m : ℕ} → At rs answer d p m → 0 < m → test d (nth rs p) ≡ false → {e q n : ℕ} → e ≡ step d (nth rs p) → q ≡ p + 1 → m ≡ n + 1 → At rs answer e q n
    next {m} a h t {e} {q} {n} ee eq en = record {
      rest = ahead {n = n} (omega arith) a
          ∙ ap (λ (b : Bool). b || scan (step d (nth rs p)) (slice rs (p + 1) n)) t
          ∙ ap (λ (k : ℕ). scan k (slice rs (p + 1) n)) (sym ee)
          ∙ ap (λ (k : ℕ). scan e (slice rs k n)) (sym eq);
      within = omega (arith, a.within);
    }

    pub end : {m : ℕ} → At rs answer d p m → m ≤ 0 → false ≡ answer
    end {m} a h = let z : m ≡ 0 = omega arith in sym (a.rest ∙ ap (λ (k : ℕ). scan d (slice rs p k)) z)

  -- The records of a tree, from `first` up to `stop`
  module _ (rs : List ℕ) (first stop : ℕ) where
    abbrev pub whole : Bool
    whole = scan 0 (slice rs first (stop - first))

    -- the loop has come to record i
    abbrev pub Upto : ℕ → ℕ → Type 0
    Upto d i = At rs whole d i (stop - i)

    pub start : SomeBody rs first stop → Upto 0 first
    start s = begin rs 0 first (stop - first) (omega (arith, tree_inside s.stands, s.ends)) refl refl
