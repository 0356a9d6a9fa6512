-- `record`: field after field.
use mathlib.Core.Path.{sym, ◌∙◌}
use lib.ListN.{drop}
use Rattle.printing.specs.Text.{record_marks}
use Rattle.reading.proofs.Places.{line_ends, line_goes, field-none, field_then}
use Rattle.reading.proofs.line.record.Goals as goal

pub returns-in_err-form : goal.returns-in_err-form
returns-in_err-form c = field-none _ _ c.field_at.ensures (drop 1 record_marks) c.in_err-form.was ∙ sym c.from_residual.ensures

pub returns-in_err-id : goal.returns-in_err-id
returns-in_err-id c = field_then _ _ c.field_at.ensures (drop 1 record_marks) c.in_ok-form.was (field-none _ _ c.field_at-2.ensures (drop 2 record_marks) c.in_err-id.was) ∙ sym c.from_residual-in_err-id.ensures

pub returns-in_err-name : goal.returns-in_err-name
returns-in_err-name c = field_then _ _ c.field_at.ensures (drop 1 record_marks) c.in_ok-form.was (field_then _ _ c.field_at-2.ensures (drop 2 record_marks) c.in_ok-id.was (field-none _ _ c.field_at-3.ensures (drop 3 record_marks) c.in_err-name.was)) ∙ sym c.from_residual-in_err-name.ensures

pub returns-in_err-count : goal.returns-in_err-count
returns-in_err-count c = field_then _ _ c.field_at.ensures (drop 1 record_marks) c.in_ok-form.was (field_then _ _ c.field_at-2.ensures (drop 2 record_marks) c.in_ok-id.was (field_then _ _ c.field_at-3.ensures (drop 3 record_marks) c.in_ok-name.was (field-none _ _ c.field_at-4.ensures (drop 4 record_marks) c.in_err-count.was))) ∙ sym c.from_residual-in_err-count.ensures

pub returns-in_err-from : goal.returns-in_err-from
returns-in_err-from c = field_then _ _ c.field_at.ensures (drop 1 record_marks) c.in_ok-form.was (field_then _ _ c.field_at-2.ensures (drop 2 record_marks) c.in_ok-id.was (field_then _ _ c.field_at-3.ensures (drop 3 record_marks) c.in_ok-name.was (field_then _ _ c.field_at-4.ensures (drop 4 record_marks) c.in_ok-count.was (field-none _ _ c.field_at-5.ensures (drop 5 record_marks) c.in_err-from.was)))) ∙ sym c.from_residual-in_err-from.ensures

pub returns-in_err-to : goal.returns-in_err-to
returns-in_err-to c = field_then _ _ c.field_at.ensures (drop 1 record_marks) c.in_ok-form.was (field_then _ _ c.field_at-2.ensures (drop 2 record_marks) c.in_ok-id.was (field_then _ _ c.field_at-3.ensures (drop 3 record_marks) c.in_ok-name.was (field_then _ _ c.field_at-4.ensures (drop 4 record_marks) c.in_ok-count.was (field_then _ _ c.field_at-5.ensures (drop 5 record_marks) c.in_ok-from.was (field-none _ _ c.field_at-6.ensures (drop 6 record_marks) c.in_err-to.was))))) ∙ sym c.from_residual-in_err-to.ensures

pub returns-then-not-is_empty : goal.returns-then-not-is_empty
returns-then-not-is_empty c = field_then _ _ c.field_at.ensures (drop 1 record_marks) c.in_ok-form.was (field_then _ _ c.field_at-2.ensures (drop 2 record_marks) c.in_ok-id.was (field_then _ _ c.field_at-3.ensures (drop 3 record_marks) c.in_ok-name.was (field_then _ _ c.field_at-4.ensures (drop 4 record_marks) c.in_ok-count.was (field_then _ _ c.field_at-5.ensures (drop 5 record_marks) c.in_ok-from.was (field_then _ _ c.field_at-6.ensures (drop 6 record_marks) c.in_ok-to.was (line_goes _ c.if-not-is_empty.ensures))))))

pub returns : goal.returns
returns c = field_then _ _ c.field_at.ensures (drop 1 record_marks) c.in_ok-form.was (field_then _ _ c.field_at-2.ensures (drop 2 record_marks) c.in_ok-id.was (field_then _ _ c.field_at-3.ensures (drop 3 record_marks) c.in_ok-name.was (field_then _ _ c.field_at-4.ensures (drop 4 record_marks) c.in_ok-count.was (field_then _ _ c.field_at-5.ensures (drop 5 record_marks) c.in_ok-from.was (field_then _ _ c.field_at-6.ensures (drop 6 record_marks) c.in_ok-to.was (line_ends _ c.if-not-is_empty.ensures))))))
