-- n numbers of a table from number a on, as a part lent to a callee; and the table when the part is back.
use Rattle.std.specs.Prelude.{ℕ, List, ◌++◌, take, drop}

abbrev pub region : List ℕ → ℕ → ℕ → List ℕ
region w a n = take n (drop a w)

abbrev pub replaced : List ℕ → ℕ → ℕ → List ℕ → List ℕ
replaced w a n ys = take a w ++ (ys ++ drop n (drop a w))
