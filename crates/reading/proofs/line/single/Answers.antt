-- `single`: its one field.
use mathlib.Core.List.{[]}
use mathlib.Core.Path.{ap, sym, ◌∙◌}
use Rattle.reading.specs.Found.{ones}
use Rattle.reading.proofs.Places.{line_ends, line_goes, field-none, field_then}
use Rattle.reading.proofs.line.single.Goals as goal

pub returns-in_err-field : goal.returns-in_err-field
returns-in_err-field c = field-none _ _ c.field_at.ensures [] c.in_err-field.was ∙ sym (ap ones c.from_residual.ensures)

pub returns-then-not-is_empty : goal.returns-then-not-is_empty
returns-then-not-is_empty c = field_then _ _ c.field_at.ensures [] c.in_ok-field.was (line_goes _ c.if-not-is_empty.ensures)

pub returns : goal.returns
returns c = field_then _ _ c.field_at.ensures [] c.in_ok-field.was (line_ends _ c.if-not-is_empty.ensures)
