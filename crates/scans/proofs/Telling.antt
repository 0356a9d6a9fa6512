-- Laws of answers that tell whether something holds.
use Prim.Native.Nat.{ℕ, ◌≤◌, ◌<◌}
use mathlib.Core.Bool.{Bool, true, false, ◌&&◌, true≢false}
use mathlib.Core.Path.{◌≡◌, refl, sym, ◌∙◌}
use borrow.Author.Tests.{leb-true, le-leb, ltb-true, lt-ltb}
use lib.Dec.{leb, ltb}
use Rattle.scans.specs.Tells.{Tells}

pub tells_no : {P : Type 0} → (P → ⊥) → Tells false P
tells_no n = record { yes = λ f. absurd (true≢false (sym f)); all = λ p. absurd (n p) }

pub tells_misses : {P : Type 0} {b : Bool} → Tells b P → b ≡ false → P → ⊥
tells_misses u z p = true≢false (sym (u.all p) ∙ z)

-- what needs P does not hold where P does not
pub tells_without : {P Q : Type 0} {b : Bool} → Tells b P → b ≡ false → (Q → P) → Tells false Q
tells_without u z f = tells_no (λ q. tells_misses u z (f q))

pub tells_same : {P Q : Type 0} {b : Bool} → Tells b P → (P → Q) → (Q → P) → Tells b Q
tells_same u f g = record { yes = λ t. f (u.yes t); all = λ q. u.all (g q) }

-- two answers that tell the same are the same
pub tells_alike : {P : Type 0} (a b : Bool) → Tells a P → Tells b P → a ≡ b
tells_alike true b u v = sym (v.all (u.yes refl))
tells_alike false true u v = u.all (v.yes refl)
tells_alike false false u v = refl

pub tells_itself : (b : Bool) → Tells b (b ≡ true)
tells_itself b = record { yes = λ t. t; all = λ t. t }

pub tells_le : (a b : ℕ) → Tells (leb a b) (a ≤ b)
tells_le a b = record { yes = leb-true a b; all = le-leb a b }

pub tells_lt : (a b : ℕ) → Tells (ltb a b) (a < b)
tells_lt a b = record { yes = ltb-true a b; all = lt-ltb a b }

both : {P Q : Type 0} (a b : Bool) → Tells a P → Tells b Q → Tells (a && b) (P × Q)
both true b u v = record { yes = λ t. (u.yes refl, v.yes t); all = λ p. v.all p.1 }
both false b u v = tells_no (λ p. true≢false (sym (u.all p.0)))

pub tells_both : {P Q : Type 0} {a b : Bool} → Tells a P → Tells b Q → Tells (a && b) (P × Q)
tells_both {a = a} {b} u v = both a b u v
