-- The part of a list from its k-th number on, as a slice's part reaches a callee.
use Rattle.std.specs.Prelude.{ℕ, ◌-◌, List, ◌≡◌, length, take, drop}
use Rattle.std.proofs.Common.{ap, ◌∙◌, arith, length-drop, take_all}

pub part : (l : List ℕ) (k : ℕ) → take (length l - k) (drop k l) ≡ drop k l
part l k = take_all (length l - k) (drop k l) (omega (arith, length-drop k l))

pub part_is : (l : List ℕ) {k j : ℕ} → k ≡ j → take (length l - k) (drop k l) ≡ drop j l
part_is l {k} e = part l k ∙ ap (λ (n : ℕ). drop n l) e

pub part_length : (l : List ℕ) (k : ℕ) → length (take (length l - k) (drop k l)) ≡ length l - k
part_length l k = ap length (part l k) ∙ length-drop k l
