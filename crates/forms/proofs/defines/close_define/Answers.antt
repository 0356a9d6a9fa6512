-- `close_define`: the define has entered, and the context is put back.
use mathlib.Core.Bool.{true≢false}
use mathlib.Core.Path.{sym, ◌∙◌}
use Rattle.forms.proofs.DefinesCase.{direct_closes, lambda_define_closes, value_closes}
use Rattle.forms.proofs.defines.close_define.Goals.{then-direct, else-direct}
use Rattle.forms.proofs.defines.close_define.Goals as goal

pub returns-then-b : goal.returns-then-b
returns-then-b c = elim c.if-direct.branch [
  | then-direct w ↦ direct_closes _ _ _ _ _ c.enter_inner_value-name.ensures w.if-direct.true
  | else-direct w ↦ lambda_define_closes _ _ _ _ _ c.enter_inner_value-name.ensures w.if-direct.false (sym w.value-is ∙ c.if-b.true)
]

pub returns-else-b : goal.returns-else-b
returns-else-b c = elim c.if-direct.branch [
  | then-direct w ↦ absurd (true≢false (sym w.if-direct.true ∙ sym w.value-is ∙ c.if-b.false))
  | else-direct w ↦ value_closes _ _ _ _ _ c.enter_inner_value-name.ensures w.if-direct.false (sym w.value-is ∙ c.if-b.false)
]
