-- What the functions that read and write rows promise; those that hold for every kind of table are of `table`.
use Rattle.std.specs.Prelude.{ℕ, ◌+◌, ◌*◌, ◌<◌, List, true, ◌≡◌, length, get_or, set}
use Rattle.table.specs.Layout.{layout}
use Rattle.semantic.specs.Information.{NONE}
use Rattle.semantic.specs.Rows.{Row, Blank, Variable, row_width, put_row, ListEntry, put_list_entry}
use Rattle.semantic.specs.Amend.{amended}
use Rattle.semantic.specs.Kinds.{is_identifier}
use Rattle.semantic.specs.declared.SemanticInformation.{SemanticInformation}
use Rattle.semantic.specs.declared.ScopeInfo.{ScopeInfo}
pub use Rattle.table.specs.Leaves.{Stores, Amends, Tells}

-- number j of row i is x now, if the row is an identifier's: so is its fact changed by any f that does this to the numbers
pub record SetsNumber (F : List ℕ) (i j x : ℕ) (F' : List ℕ) : Type 0 where
  pub is : (f : SemanticInformation → SemanticInformation)
      → ((l : List Row) → F ≡ layout put_row l → i < length l
      → (v : SemanticInformation) → get_or l i Blank ≡ Variable v → put_row (Variable (f v)) ≡ set (put_row (Variable v)) j x)
      → Amends put_row Blank (amended f) F i F'

-- one use more of an identifier's fact in row i can be counted
pub record UsesFit (F : List ℕ) (i : ℕ) : Type 0 where
  pub fits : is_identifier (get_or F (row_width * i) 0) ≡ true → get_or F (row_width * i + 4) 0 < NONE

-- an entry of this name and this info is row i
pub record StoresListEntry (F : List ℕ) (i name : ℕ) (info : ScopeInfo) (F' : List ℕ) : Type 0 where
  pub is : (x : ListEntry) → x.binder.name ≡ name → x.info ≡ info → Stores put_list_entry F i x F'
