-- How many numbers a row and an entry are, and which numbers are no entry.
use Rattle.std.specs.Prelude.{◌≡◌, refl, length, replicate}
use Rattle.semantic.specs.Rows.{Row, Blank, Variable, Function, CallSite, Let, row_width, put_row, ListEntry, no_list_entry, list_entry_width, put_info, put_list_entry}

pub row_long : (r : Row) → length (put_row r) ≡ row_width
unfolding put_row
row_long Blank = refl
row_long (Variable v) = refl
row_long (Function v) = refl
row_long (CallSite v) = refl
row_long (Let v) = refl

pub list-entry_long : (i : ListEntry) → length (put_list_entry i) ≡ list_entry_width
unfolding put_list_entry put_info
list-entry_long i = refl

pub no_list-entry : put_list_entry no_list_entry ≡ replicate list_entry_width 0
unfolding put_list_entry put_info
no_list-entry = refl
