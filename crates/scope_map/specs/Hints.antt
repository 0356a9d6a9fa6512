-- After the rows of the live names stand the hints, one for each name below 1,024: no row from the hint on has the name, so that a search for
-- it need not start at the newest row. A row's link is the hint as it was before the row, so that it can be put back.
use Rattle.std.specs.Prelude.{ℕ, suc, ◌+◌, ◌*◌, ◌≤◌, ◌<◌, List, cond, ◌≡◌, length, get_or, set, drop, ltb}
use Rattle.scope_map.specs.Rows.{row_at, link_at}

-- how many numbers the rows have, then the hints; and both
abbrev pub rows_length : ℕ
rows_length = 12288

abbrev pub hints_length : ℕ
hints_length = 1024

abbrev pub map_length : ℕ
map_length = 13312

-- n rows fit, and the hints stand after them
pub record Roomy (n : ℕ) (t : List ℕ) : Type 0 where
  pub rows : 3 * n ≤ rows_length
  pub long : map_length ≤ length t

abbrev pub hint_of : List ℕ → ℕ → ℕ
hint_of t x = get_or t (rows_length + x) 0

abbrev pub with_hint : List ℕ → ℕ → ℕ → List ℕ
with_hint t x n = cond (ltb x hints_length) (set t (rows_length + x) n) t

-- no row from row a on, before row b, has the name x
abbrev pub Free : List ℕ → ℕ → ℕ → ℕ → Type 0
Free t x a b = (k : ℕ) → a ≤ k → k < b → (row_at t k).name ≡ x → ⊥

-- of the first n rows: none from a name's hint on has the name, and between a row's link and the row none has its name
pub record Indexed (n : ℕ) (t : List ℕ) : Type 0 where
  pub hinted : (x : ℕ) → x < hints_length → Free t x (hint_of t x) n
  pub linked : (i : ℕ) → i < n → Free t (row_at t i).name (link_at t i) i

-- where a search for a name among n rows starts: no row from r on has it
pub record Bounds (n : ℕ) (t : List ℕ) (x r : ℕ) : Type 0 where
  pub over : Indexed n t → Free t x r n
  pub most : r ≤ n

-- What rows that enter or leave do to the table. What lies after the map is as it was.

pub record Inside (t t' : List ℕ) : Type 0 where
  pub long : length t' ≡ length t
  pub rest : drop map_length t' ≡ drop map_length t

-- a row enters after n rows
pub record Enters (t : List ℕ) (n x d v : ℕ) (t' : List ℕ) : Type 0 where
  pub inside : Inside t t'
  pub row : row_at t' n ≡ record { name = x; layer = d; value = v }
  pub others : (k : ℕ) → 3 * k + 3 ≤ rows_length → (k ≡ n → ⊥) → row_at t' k ≡ row_at t k
  pub index : Indexed n t → Indexed (n + 1) t'

-- the rows from row i on, of n, leave
pub record Leaves (t : List ℕ) (i n : ℕ) (t' : List ℕ) : Type 0 where
  pub inside : Inside t t'
  pub rows : (k : ℕ) → 3 * k + 3 ≤ rows_length → row_at t' k ≡ row_at t k
  pub index : Indexed n t → Indexed i t'

-- the rows from row i + 1 to row n enter after i rows, so that each moves down by one
pub record Moves (t : List ℕ) (i n : ℕ) (t' : List ℕ) : Type 0 where
  pub inside : Inside t t'
  pub under : (k : ℕ) → k < i → row_at t' k ≡ row_at t k
  pub over : (k : ℕ) → i ≤ k → k < n → row_at t' k ≡ row_at t (suc k)
  pub later : (k : ℕ) → n < k → 3 * k + 3 ≤ rows_length → row_at t' k ≡ row_at t k
  pub index : Indexed i t → Indexed n t'
