-- `amend_list`.
use mathlib.Core.Path.{refl, sym, ◌∙◌}
use native.Mathlib.Omega.{arith}
use borrow.Author.Rules.{scaled_Fits}
use Rattle.work.specs.Laws.Works.{spacious}
use Rattle.amending.proofs.AmendCase.{none-amended, none_right, amends_same}
use Rattle.amending.proofs.amend.amend_list.Goals as goal

pub returns-then-n-eq0 : goal.returns-then-n-eq0
returns-then-n-eq0 c = none-amended c.args.e (sym c.wide-n.ensures ∙ c.if-n-eq0.true)

pub returns-then-n-gt-FEW : goal.returns-then-n-gt-FEW
returns-then-n-gt-FEW c =
    amends_same c.ending_of-d.ensures.0 c.amend_long.ensures

pub overflow_mul-n : goal.overflow_mul-n
overflow_mul-n c =
    scaled_Fits _ 129 _ (omega (arith, c.if-n-gt-FEW.false)) (omega (arith, (spacious c.requires.2.tied.works).names))

pub above_bottom-requires : goal.above_bottom-requires
above_bottom-requires c =
    spacious c.requires.2.tied.works

pub overflow_mul-n-then-n-live-gt-SEARCHED : goal.overflow_mul-n-then-n-live-gt-SEARCHED
overflow_mul-n-then-n-live-gt-SEARCHED c =
    scaled_Fits _ 129 _ (omega (arith, c.if-n-gt-FEW.false)) (omega (arith, (spacious c.requires.2.tied.works).names))

pub returns-then-n-live-gt-SEARCHED-2 : goal.returns-then-n-live-gt-SEARCHED-2
returns-then-n-live-gt-SEARCHED-2 c =
    amends_same c.ending_of-d.ensures.0 c.amend_long-then-n-live-gt-SEARCHED-2.ensures

pub amend_rows-requires : goal.amend_rows-requires
amend_rows-requires c = (c.requires.0, c.ending_of-d.ensures.1, c.requires.2, none_right, λ x. refl)

pub returns : goal.returns
returns c =
    amends_same c.ending_of-d.ensures.0 c.amend_rows.ensures
