-- `clear_start`: tables of their set lengths become blank.
use native.Mathlib.Omega.{arith}
use Rattle.answers.specs.Laws.Lengths.{long}
use Rattle.answers.proofs.Work.{all_rested}
use Rattle.answers.proofs.SetLengths.{all-blank}
use Rattle.answers.proofs.Tables.clear_start.Goals as goal

pub clear_names-requires : goal.clear_names-requires
clear_names-requires c = ((long _ c.requires).work, all_rested _)

pub clear_part-requires : goal.clear_part-requires
clear_part-requires c = (omega arith, omega (arith, c.clear_names.auto.work, (long _ c.requires).work))

pub returns-clause-blank : goal.returns-clause-blank
returns-clause-blank c =
    let s = c.args.self.now in
    all-blank s.facts.now s.captured.now s.arguments.now s.work.now _ _ _ _ c.requires
    c.clear.ensures c.clear-2.ensures c.clear-3.ensures c.clear_names.ensures c.clear_part.ensures
