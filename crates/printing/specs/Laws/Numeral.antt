-- The numeral of a number: its last digit, what stands in front of it, and how many digits there are.
use Rattle.std.specs.Prelude.{ℕ, zero, suc, ◌+◌, ◌*◌, ◌/◌, ◌%◌, ◌^◌, ◌≤◌, ◌<◌, List, [], ◌∷◌, ◌++◌, ◌≡◌, length}
use Rattle.std.proofs.Common.{⊎_elim, ap, sym, ◌∙◌, arith, lt-ltb, le-ltb, length-append}
use Rattle.printing.specs.Numeral.{numeral_in, numeral}
use Rattle.printing.specs.Laws.Below.{below_or}

in_small : (t n : ℕ) → n < 10 → numeral_in (suc t) n ≡ (48 + n) ∷ []
unfolding numeral_in
in_small t n h = rw (numeral_in, lt-ltb n 10 h)

in_more : (t n : ℕ) → 10 ≤ n → numeral_in (suc t) n ≡ numeral_in t (n / 10) ++ ((48 + n % 10) ∷ [])
unfolding numeral_in
in_more t n h = rw (numeral_in, le-ltb n 10 h)

enough : (t u n : ℕ) → n < t → n < u → numeral_in t n ≡ numeral_in u n
enough zero u n h g = absurd (omega arith)
enough (suc t) zero n h g = absurd (omega arith)
enough (suc t) (suc u) n h g =
    ⊎_elim
    (λ l. in_small t n l ∙ sym (in_small u n l))
    (λ l.
    let f : n / 10 < n = omega arith in
    in_more t n l ∙ ap (λ (m : List ℕ). m ++ ((48 + n % 10) ∷ [])) (enough t u (n / 10) (omega arith) (omega arith)) ∙ sym (in_more u n l))
    (below_or n 10)

pub numeral_small : (n : ℕ) → n < 10 → numeral n ≡ (48 + n) ∷ []
unfolding numeral
numeral_small n h = in_small n n h

pub numeral-more : (n : ℕ) → 10 ≤ n → numeral n ≡ numeral (n / 10) ++ ((48 + n % 10) ∷ [])
unfolding numeral
numeral-more n h =
    let f : n / 10 < n = omega arith in
    in_more n n h ∙ ap (λ (m : List ℕ). m ++ ((48 + n % 10) ∷ [])) (enough n (suc (n / 10)) (n / 10) f (omega arith))

-- one digit more
pub numeral_snoc : (v d : ℕ) → 0 < v → d < 10 → numeral (10 * v + d) ≡ numeral v ++ ((48 + d) ∷ [])
numeral_snoc v d h g =
    let q : (10 * v + d) / 10 ≡ v = omega arith in
    let r : (10 * v + d) % 10 ≡ d = omega arith in
    numeral-more (10 * v + d) (omega arith)
    ∙ ap (λ (k : ℕ). numeral k ++ ((48 + (10 * v + d) % 10) ∷ [])) q
    ∙ ap (λ (k : ℕ). numeral v ++ ((48 + k) ∷ [])) r

-- a number below 10 ^ k, k at least 1, takes at most k digits
pub numeral-length : (k n : ℕ) → n < 10 ^ suc k → length (numeral n) ≤ suc k
numeral-length zero n h = rw (numeral_small n (omega arith)) (omega arith)
numeral-length (suc k) n h =
    ⊎_elim
    (λ l. rw (numeral_small n l) (omega arith))
    (λ l.
    rw (numeral-more n l)
    (omega (arith, length-append (numeral (n / 10)) ((48 + n % 10) ∷ []), numeral-length k (n / 10) (omega arith))))
    (below_or n 10)
