-- What the checks leave of the table of starts.
use Rattle.std.specs.Prelude.{ℕ, ◌+◌, ◌≤◌, List, [], ◌∷◌, ◌⊎◌, ◌≡◌, length, drop, get_or, Some}
use Rattle.tree.specs.Record.{Record, records}
use Rattle.tree.specs.Place.{Open, after}
use Rattle.tree.specs.Check.{Refusal, refusal}

-- The records at top level, where no record is open

unfoldable pub at_top : List Open → ℕ → List ℕ → List ℕ
at_top [] i l = i ∷ l
at_top (o ∷ s) i l = l

-- the first of the records is number i, where s is open; and last the number after them all
unfoldable pub tops_in : List Open → ℕ → List Record → List ℕ
tops_in s i [] = i ∷ []
tops_in s i (r ∷ l) = at_top s i (tops_in (after s r) (i + 1) l)

-- What a pass over the records stores in a table: numbers up to the record count, and no more of them than the list of starts has. So behind that
-- list the table is as it was.
pub record Stores (rs table table' : List ℕ) : Type 0 where
  pub long : length table' ≡ length table
  pub rest : drop (length (tops_in [] 0 (records rs))) table' ≡ drop (length (tops_in [] 0 (records rs))) table
  pub small : (k : ℕ) → (get_or table' k 0 ≡ get_or table k 0) ⊎ (get_or table' k 0 ≤ length (records rs))

-- What the checks leave of a table, whatever they answer. After 1 and 2, and where it has no room for a start at each record and the end, it is as
-- it was. Where none refuses, `TellsStarts` says what is stored; after any other refusal that is free.
pub record Leaves (N : ℕ) (rs table table' : List ℕ) : Type 0 where
  pub stored : Stores rs table table'
  pub early : (r : Refusal) → refusal N rs ≡ Some r → r.number ≤ 2 → table' ≡ table
  pub short : length table ≤ length (records rs) → table' ≡ table
