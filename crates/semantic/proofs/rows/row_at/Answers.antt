-- `row_at`: a row's numbers are its part of the table.
use Rattle.table.specs.Laws.Leaves.{tells_row}
use Rattle.semantic.specs.Rows.{Blank, row_width, put_row}
use Rattle.semantic.specs.Laws.Rows.{row_long}
use Rattle.semantic.proofs.rows.row_at.Goals as goal

pub returns : goal.returns
returns c = tells_row row_width put_row row_long Blank _ _ c.get.ensures
