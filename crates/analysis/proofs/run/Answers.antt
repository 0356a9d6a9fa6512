-- `run`: check 1, blank tables, the runs, and what is left.
use mathlib.Core.Path.{sym, ◌∙◌}
use Rattle.answers.specs.Laws.Lengths.{still_fits, fit_whole, fit_lengths}
use Rattle.analysis.proofs.Answers.{unfit_answers}
use Rattle.analysis.proofs.run.Goals as goal

pub returns-then-not-fit-clause-answers : goal.returns-then-not-fit-clause-answers
returns-then-not-fit-clause-answers c = unfit_answers (sym c.fit.ensures ∙ c.if-not-fit.true)

pub clear_start-requires : goal.clear_start-requires
clear_start-requires c = fit_lengths _ _ (sym c.fit.ensures ∙ c.if-not-fit.false)

pub returns-clause-told : goal.returns-clause-told
returns-clause-told c = c.run_checked-answer.ensures.told (fit_whole _ _ (sym c.fit.ensures ∙ c.if-not-fit.false))

pub clear_after-requires-clause-lengths : goal.clear_after-requires-clause-lengths
clear_after-requires-clause-lengths c =
    let e = c.run_checked-answer.ensures.same in
    let s = c.clear_start.ensures.same in
    let t = c.args.tables.now in
    still_fits t.facts.now t.captured.now t.arguments.now t.work.now _ _ _ _ (fit_lengths _ _ (sym c.fit.ensures ∙ c.if-not-fit.false))
    (e.facts_long ∙ s.facts_long) (e.captured_long ∙ s.captured_long) (e.arguments_long ∙ s.arguments_long) (e.work_long ∙ s.work_long)
