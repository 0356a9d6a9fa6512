-- Counts: zeros to begin with, and one more in a turn of a loop.
use Rattle.std.specs.Prelude.{ℕ, zero, suc, ◌+◌, ◌≤◌, Bool, true, false, cond, ◌⊎◌, ◌≡◌, refl, replicate, None}
use Rattle.std.proofs.Common.{⊎_elim, arith}
use Rattle.lists.specs.Index.{Zeros, Empty}

pub zeros : (n : ℕ) → Zeros (replicate n 0)
zeros zero x = refl
zeros (suc n) zero = refl
zeros (suc n) (suc x) = zeros n x

pub empty : (n : ℕ) → Empty (replicate n None)
empty zero x = refl
empty (suc n) zero = refl
empty (suc n) (suc x) = empty n x

-- a count after a branch that adds one where b holds
pub counts : {T E : Type 0} (b : Bool) {n m : ℕ} → (T → b ≡ true) → (E → b ≡ false) → (T × (n ≡ m + 1)) ⊎ (E × (n ≡ m)) → n ≡ m + cond b 1 0
counts b t e = ⊎_elim (λ w. let q = t w.0 in rw q w.1) (λ w. let q = e w.0 in rw q (omega arith))

pub few : (b : Bool) {n m k : ℕ} → n ≡ m + cond b 1 0 → m ≤ k → n ≤ k + 1
few true e h = omega arith
few false e h = omega arith
