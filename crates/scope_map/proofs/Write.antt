-- The rows after a row is written.
use Prim.Native.Nat.{ℕ, ◌+◌, ◌*◌, ◌/◌, ◌%◌, ◌≤◌, ◌<◌}
use mathlib.Core.List.{List}
use mathlib.Core.Path.{◌≡◌, ap, ◌∙◌}
use native.Mathlib.Omega.{arith}
use lib.ListN.{length, get_or, set, drop, length-set}
use lib.Seq.{get_or-set_same, get_or-set_other, drop-set-lt}
use Rattle.scope_map.specs.Rows.{values_most, row_at, link_at, written}

module _ (t : List ℕ) (i x d v l : ℕ) where
  pub length-written : length (written t i x d v l) ≡ length t
  length-written = simp length-set

  pub drop-written : (k : ℕ) → 3 * i + 3 ≤ k → drop k (written t i x d v l) ≡ drop k t
  drop-written k h =
      drop-set-lt k (set (set t (3 * i) x) (3 * i + 1) d) (3 * i + 2) (v + values_most * l) (omega arith)
      ∙ drop-set-lt k (set t (3 * i) x) (3 * i + 1) d (omega arith)
      ∙ drop-set-lt k t (3 * i) x (omega arith)

  packed : 3 * i + 3 ≤ length t → get_or (written t i x d v l) (3 * i + 2) 0 ≡ v + values_most * l
  packed h =
      let a = set t (3 * i) x in
      let b = set a (3 * i + 1) d in
      get_or-set_same b (3 * i + 2) (v + values_most * l) 0 (omega (arith, length-set t (3 * i) x, length-set a (3 * i + 1) d))

  pub row_written : v < values_most → 3 * i + 3 ≤ length t → row_at (written t i x d v l) i ≡ record { name = x; layer = d; value = v }
  row_written g h =
      let n = v + values_most * l in
      let a = set t (3 * i) x in
      let b = set a (3 * i + 1) d in
      let p : get_or (set b (3 * i + 2) n) (3 * i) 0 ≡ x =
      get_or-set_other b (3 * i + 2) (3 * i) n 0 (λ e. omega arith)
      ∙ get_or-set_other a (3 * i + 1) (3 * i) d 0 (λ e. omega arith)
      ∙ get_or-set_same t (3 * i) x 0 (omega arith) in
      let q : get_or (set b (3 * i + 2) n) (3 * i + 1) 0 ≡ d =
      get_or-set_other b (3 * i + 2) (3 * i + 1) n 0 (λ e. omega arith) ∙ get_or-set_same a (3 * i + 1) d 0 (omega (arith, length-set t (3 * i) x)) in
      let r : n % values_most ≡ v = omega arith in
      rw (p, q, packed h, r)

  pub link_written : v < values_most → 3 * i + 3 ≤ length t → link_at (written t i x d v l) i ≡ l
  link_written g h =
      let r : (v + values_most * l) / values_most ≡ l = omega arith in
      ap (λ (n : ℕ). n / values_most) (packed h) ∙ r

  other_cell : (j : ℕ) → (j ≡ 3 * i → ⊥) → (j ≡ 3 * i + 1 → ⊥) → (j ≡ 3 * i + 2 → ⊥) → get_or (written t i x d v l) j 0 ≡ get_or t j 0
  other_cell j a b c =
      get_or-set_other (set (set t (3 * i) x) (3 * i + 1) d) (3 * i + 2) j (v + values_most * l) 0 c
      ∙ get_or-set_other (set t (3 * i) x) (3 * i + 1) j d 0 b
      ∙ get_or-set_other t (3 * i) j x 0 a

  others-cell : (k j : ℕ) → (k ≡ i → ⊥) → j < 3 → get_or (written t i x d v l) (3 * k + j) 0 ≡ get_or t (3 * k + j) 0
  others-cell k j h g = other_cell (3 * k + j) (λ e. h (omega arith)) (λ e. h (omega arith)) (λ e. h (omega arith))

  pub other_written : (k : ℕ) → (k ≡ i → ⊥) → row_at (written t i x d v l) k ≡ row_at t k
  other_written k h =
      let z : 3 * k + 0 ≡ 3 * k = omega arith in
      let p : get_or (written t i x d v l) (3 * k) 0 ≡ get_or t (3 * k) 0 = rw z at (others-cell k 0 h (omega arith)) in
      rw (p, others-cell k 1 h (omega arith), others-cell k 2 h (omega arith))

  pub other_link : (k : ℕ) → (k ≡ i → ⊥) → link_at (written t i x d v l) k ≡ link_at t k
  other_link k h = ap (λ (n : ℕ). n / values_most) (others-cell k 2 h (omega arith))
