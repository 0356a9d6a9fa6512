-- What the functions that count calls promise, of every list of rows that the table holds.
use Rattle.std.specs.Prelude.{ℕ, ◌≤◌, List, ◌≡◌, take}
use Rattle.table.specs.Layout.{layout}
use Rattle.semantic.specs.Rows.{Row, put_row}
use Rattle.semantic.specs.Kinds.{is_call_site, is_tail_row}
use Rattle.printing.specs.declared.summary.Calls.{Calls}
use Rattle.printing.specs.Text.{count, summary_text}

pub record Counted (F : List ℕ) (r : Calls) : Type 0 where
  pub all : (l : List Row) → F ≡ layout put_row l → r.all ≡ count is_call_site l
  pub tail : (l : List Row) → F ≡ layout put_row l → r.tail ≡ count is_tail_row l

pub record Summed (F d : List ℕ) (r : ℕ) : Type 0 where
  pub is : (l : List Row) → F ≡ layout put_row l → take r d ≡ summary_text (count is_call_site l) (count is_tail_row l)
  pub short : r ≤ 128
