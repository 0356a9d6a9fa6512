-- Laws of open records and places.
use Prim.Native.Nat.{ℕ, zero, suc, ◌+◌, ◌-◌, ◌≤◌, ◌<◌}
use mathlib.Core.List.{List, [], ◌∷◌}
use mathlib.Core.Path.{◌≡◌, refl, ap, sym, subst, ◌∙◌}
use native.Mathlib.Omega.{arith}
use native.Mathlib.Decide.{dec_lt}
use borrow.Author.Tests.{eq-eqb, ne_eqb}
use lib.ListN.{length, get_or, drop, drop_of_length-le}
use lib.Seq.{drop-cons}
use Rattle.tree.specs.Record.{Record}
use Rattle.tree.specs.Form.{names_of, others_of, children_of}
use Rattle.tree.proofs.Laws.Acceptance.Walk.{placing}
use Rattle.scans.specs.ToCome.{to_come, Live}
use Rattle.tree.specs.Place.{Open, closed, take_one, taken, after, placed, left}

-- the children to come of all open records
abbrev pub total : List Open → ℕ
total [] = 0
total (o ∷ s) = to_come o + total s

-- a record's children, none of them come yet
abbrev pub opened : Record → Open
opened r = record { names = names_of r.form r.count; others = others_of r.form r.count }

-- What closing does

pub closed_done : (o : Open) (s : List Open) → to_come o ≡ 0 → closed (o ∷ s) ≡ closed s
unfolding closed
closed_done o s h = rw (eq-eqb (to_come o) 0 h)

pub closed_open : (o : Open) (s : List Open) → 0 < to_come o → closed (o ∷ s) ≡ o ∷ s
unfolding closed
closed_open o s h = rw (ne_eqb (to_come o) 0 (λ e. omega arith))

-- what closing leaves, by cases: nothing, one closed record less, or all
module _ (P : List Open → List Open → Type 0) (none : P [] []) (done : (o : Open) (s : List Open) → to_come o ≡ 0 → P s (closed s) → P (o ∷ s) (closed s)) (some : (o : Open) (s : List Open) → 0 < to_come o → P (o ∷ s) (o ∷ s)) where
  either : (o : Open) (s : List Open) → P s (closed s) → Dec (0 < to_come o) → P (o ∷ s) (closed (o ∷ s))
  either o s p (yes h) = subst (P (o ∷ s)) (sym (closed_open o s h)) (some o s h)
  either o s p (no h) = subst (P (o ∷ s)) (sym (closed_done o s (omega arith))) (done o s (omega arith) p)

  pub by_closing : (s : List Open) → P s (closed s)
  unfolding closed
  by_closing [] = none
  by_closing (o ∷ s) = either o s (by_closing s) (dec_lt 0 (to_come o))

pub closed_live : (s : List Open) → Live (closed s)
closed_live = by_closing (λ s t. Live t) tt (λ o s h p. p) (λ o s h. h)

pub closed-total : (s : List Open) → total (closed s) ≡ total s
closed-total = by_closing (λ s t. total t ≡ total s) refl (λ o s h p. omega arith) (λ o s h. refl)

pub closed_few : (s : List Open) → length (closed s) ≤ length s
closed_few = by_closing (λ s t. length t ≤ length s) (omega arith) (λ o s h p. omega arith) (λ o s h. omega arith)

pub taken-one : (n k : ℕ) → to_come (take_one n k) ≡ n + k - 1
taken-one zero k = omega arith
taken-one (suc n) k = omega arith

pub taken-total : (s : List Open) → Live s → total (taken s) ≡ total s - 1
taken-total [] h = refl
taken-total (o ∷ s) h = omega (arith, taken-one o.names o.others)

pub after_live : (s : List Open) (r : Record) → Live (after s r)
unfolding after
after_live s r = closed_live (opened r ∷ taken s)

pub after-total : (s : List Open) (r : Record) → Live s → total (after s r) ≡ total s - 1 + children_of r.form r.count
unfolding after children_of
after-total s r h = closed-total (opened r ∷ taken s) ∙ omega (arith, taken-total s h)

pub none_open : (s : List Open) → Live s → total s ≡ 0 → length s ≡ 0
none_open [] h e = refl
none_open (o ∷ s) h e = absurd (omega arith)

pub some_open : (s : List Open) → 0 < total s → 0 < length s
some_open [] h = absurd (omega arith)
some_open (o ∷ s) h = omega arith

-- The records from record i on: the next takes its place, or there is none left

module _ (l : List Record) (d : Record) (i : ℕ) (s : List Open) where
  pub left-next : i < length l → left s (drop i l) ≡ left (after s (get_or l i d)) (drop (i + 1) l)
  unfolding left
  left-next h =
      let z : suc i ≡ i + 1 = omega arith in
      ap (left s) (drop-cons l i d h) ∙ ap (λ (k : ℕ). left (after s (get_or l i d)) (drop k l)) z

  pub left_end : length l ≤ i → left s (drop i l) ≡ s
  unfolding left
  left_end h = ap (left s) (drop_of_length-le l h)

  pub placed-next : i < length l → placed s (drop i l) ≡ placing s (get_or l i d) ∷ placed (after s (get_or l i d)) (drop (i + 1) l)
  unfolding placed
  placed-next h =
      let z : suc i ≡ i + 1 = omega arith in
      ap (placed s) (drop-cons l i d h) ∙ ap (λ (k : ℕ). placing s (get_or l i d) ∷ placed (after s (get_or l i d)) (drop k l)) z

  pub placed_end : length l ≤ i → placed s (drop i l) ≡ []
  unfolding placed
  placed_end h = ap (placed s) (drop_of_length-le l h)
