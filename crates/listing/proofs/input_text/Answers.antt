-- `input_text`: a refusal that needs no run, or the run.
use native.Mathlib.Omega.{arith}
use Rattle.listing.proofs.Inputs.{lengths_in, few, unfit_in, large_in, run_in}
use Rattle.listing.proofs.input_text.Goals as goal

pub returns-then-not-all_fit-clause-input : goal.returns-then-not-all_fit-clause-input
returns-then-not-all_fit-clause-input c =
    let v = c.refused_line in
    unfit_in c.all_fit.ensures c.if-not-all_fit.true v.ensures (omega (arith, v.ensures.short, v.auto.out, c.requires))

pub clear_all-requires : goal.clear_all-requires
clear_all-requires c = lengths_in _ _ _ c.all_fit.ensures c.if-not-all_fit.false

pub returns-then-too_many-clause-input : goal.returns-then-too_many-clause-input
returns-then-too_many-clause-input c =
    let v = c.refused_line-then-too_many in
    large_in c.all_fit.ensures c.if-not-all_fit.false c.too_many.ensures c.if-too_many.true c.clear_all.ensures.zeros v.ensures
    (omega (arith, v.ensures.short, v.auto.out, c.requires))

pub fresh_text-requires-clause-few : goal.fresh_text-requires-clause-few
fresh_text-requires-clause-few c = few c.all_fit.ensures c.if-not-all_fit.false c.too_many.ensures c.if-too_many.false

pub returns-clause-input : goal.returns-clause-input
returns-clause-input c =
    run_in (few c.all_fit.ensures c.if-not-all_fit.false c.too_many.ensures c.if-too_many.false) c.fresh_text.ensures.fresh
