-- `store`: the row's numbers are put in its place.
use mathlib.Core.Path.{ap, ◌∙◌}
use Rattle.std.proofs.lemmas.List.Edits.{sets}
use Rattle.table.specs.Laws.Leaves.{stores_row}
use Rattle.semantic.specs.Rows.{Blank, row_width, put_row}
use Rattle.semantic.specs.Laws.Rows.{row_long}
use Rattle.semantic.proofs.rows.store.Goals as goal

pub returns : goal.returns
returns g c = stores_row row_width put_row row_long Blank _ _ _ (c.put.ensures ∙ ap (sets _ _) c.numbers.ensures)
