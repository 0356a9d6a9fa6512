-- `mark_argument`: an identifier that is its name's last use so far is marked.
use mathlib.Core.Path.{◌∙◌, sym}
use Rattle.forms.proofs.CallsCase.{argument_inside, mentioned, argument_fact, marked, unmarked, no_mention}
use Rattle.forms.proofs.calls.mark_argument.Goals.{else-form-eq-IDENTIFIER-via-then-form-eq-IDENTIFIER+else-is_last_use, else-form-eq-IDENTIFIER-via-else-form-eq-IDENTIFIER}
use Rattle.forms.proofs.calls.mark_argument.Goals as goal

pub form-requires : goal.form-requires
form-requires c = argument_inside _ _ _ _ _ c.requires

pub is_last_use-requires : goal.is_last_use-requires
is_last_use-requires c = mentioned _ _ _ _ _ (sym c.form.ensures ∙ c.if-form-eq-IDENTIFIER.true) c.requires

pub mark_last_usage-requires : goal.mark_last_usage-requires
mark_last_usage-requires c = argument_fact _ _ _ _ _ c.requires

pub returns-then-is_last_use : goal.returns-then-is_last_use
returns-then-is_last_use c = marked _ _ _ _ _ (sym c.form.ensures ∙ c.if-form-eq-IDENTIFIER.true) c.is_last_use.ensures c.if-is_last_use.true c.mark_last_usage.ensures

pub returns-else-form-eq-IDENTIFIER : goal.returns-else-form-eq-IDENTIFIER
returns-else-form-eq-IDENTIFIER c = elim c.else-form-eq-IDENTIFIER.branch [
  | else-form-eq-IDENTIFIER-via-then-form-eq-IDENTIFIER+else-is_last_use w ↦
      unmarked _ _ _ _ _ (sym c.form.ensures ∙ w.if-form-eq-IDENTIFIER.true) w.is_last_use.ensures w.if-is_last_use.false
  | else-form-eq-IDENTIFIER-via-else-form-eq-IDENTIFIER w ↦ no_mention _ _ _ _ _ (λ e. w.if-form-eq-IDENTIFIER.false (c.form.ensures ∙ e))
]
