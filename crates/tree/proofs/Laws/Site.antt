-- The layer of a let's body: 2 in a let at layer 1, else that of the let.
use Rattle.std.specs.Prelude.{ℕ, suc, ◌≤◌, Bool, true, false, cond, ◌⊎◌, ◌≡◌, refl, eqb}
use Rattle.std.proofs.Common.{inl, inr, ⊎_elim, arith, eqb-true}
use Rattle.std.proofs.lemmas.Bool.{eqb-false}
use Rattle.tree.specs.Site.{let_layer}

pub let_cases : (d : ℕ) → ((d ≡ 1) × (let_layer d ≡ 2)) ⊎ (¬ (d ≡ 1) × (let_layer d ≡ d))
let_cases d = go (eqb d 1) refl
  where
    go : (b : Bool) → eqb d 1 ≡ b → ((d ≡ 1) × (cond b 2 d ≡ 2)) ⊎ (¬ (d ≡ 1) × (cond b 2 d ≡ d))
    go true e = inl (eqb-true d 1 e, refl)
    go false e = inr (eqb-false d 1 e, refl)

pub let_two : (d : ℕ) → 1 ≤ d → 2 ≤ let_layer d
let_two d l = ⊎_elim (λ c. omega arith) (λ c. omega arith) (let_cases d)

pub let_le : (d : ℕ) → d ≤ let_layer d
let_le d = ⊎_elim (λ c. omega arith) (λ c. omega arith) (let_cases d)

pub let_next : (d : ℕ) → 1 ≤ d → let_layer d ≤ suc d
let_next d l = ⊎_elim (λ c. omega arith) (λ c. omega arith) (let_cases d)
