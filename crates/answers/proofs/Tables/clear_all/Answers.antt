-- `clear_all`: tables of their set lengths become zeros.
use Rattle.answers.proofs.SetLengths.{all-zero}
use Rattle.answers.proofs.Tables.clear_all.Goals as goal

pub returns-clause-zeros : goal.returns-clause-zeros
returns-clause-zeros c =
    let s = c.args.self.now in
    all-zero s.facts.now s.captured.now s.arguments.now s.work.now _ _ _ _ c.requires c.clear.ensures c.clear-2.ensures c.clear-3.ensures c.clear-4.ensures
