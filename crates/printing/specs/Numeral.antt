-- A number as text: decimal, in ASCII, with no zero in front.
use Rattle.std.specs.Prelude.{ℕ, zero, suc, ◌+◌, ◌/◌, ◌%◌, true, false, List, [], ◌∷◌, ◌++◌, ltb}

-- the numeral of n, for more than n turns
unfoldable pub numeral_in : ℕ → ℕ → List ℕ
numeral_in zero n = []
numeral_in (suc turns) n = elim (ltb n 10) [ true ↦ (48 + n) ∷ [] | false ↦ numeral_in turns (n / 10) ++ ((48 + n % 10) ∷ []) ]

unfoldable pub numeral : ℕ → List ℕ
numeral n = numeral_in (suc n) n
