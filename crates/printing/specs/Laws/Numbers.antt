-- The line from a row's numbers is the line of the row.
use Rattle.std.specs.Prelude.{ℕ, ◌≡◌, refl}
use Rattle.semantic.specs.Rows.{Row, Blank, Variable, Function, CallSite, Let, put_row}
use Rattle.semantic.specs.Kinds.{row_kind}
use Rattle.printing.specs.Text.{row_text}
use Rattle.printing.specs.Numbers.{text_of}

pub row_text_lem : (i : ℕ) (r : Row) → text_of i (row_kind r) (put_row r) ≡ row_text i r
unfolding text_of row_text put_row
row_text_lem i Blank = refl
row_text_lem i (Variable v) = refl
row_text_lem i (Function v) = refl
row_text_lem i (CallSite v) = refl
row_text_lem i (Let v) = refl
