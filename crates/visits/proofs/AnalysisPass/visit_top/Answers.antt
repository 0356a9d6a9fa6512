-- `visit_top`: a define, or any other form.
use mathlib.Core.Path.{sym, ◌∙◌}
use Rattle.visits.proofs.TopDefineCase.{inside, own-form, other_done}
use Rattle.visits.proofs.AnalysisPass.visit_top.Goals as goal

pub form-requires : goal.form-requires
form-requires c = inside c.requires

pub visit_top_define-requires : goal.visit_top_define-requires
visit_top_define-requires c = (c.requires, sym (own-form c.requires c.form.ensures) ∙ c.if-form-eq-DEFINE.true)

pub returns : goal.returns
returns c =
    (other_done (λ e. c.if-form-eq-DEFINE.false (own-form c.requires c.form.ensures ∙ e)) c.top.ensures c.visit.ensures.0, c.visit.ensures.1)
