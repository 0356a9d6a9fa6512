-- `run`: the names at top level enter, then its trees are visited.
use Rattle.visits.proofs.RunCase.{tops_enter, tops_fit, run_done}
use Rattle.visits.proofs.AnalysisPass.run.Goals as goal

pub enter_tops-requires : goal.enter_tops-requires
enter_tops-requires c = let o = c in (o.requires.0, tops_enter o.requires.1)

pub visit_tops-requires : goal.visit_tops-requires
visit_tops-requires c = let entered = c in tops_fit entered.enter_tops.ensures entered.requires.1

pub returns : goal.returns
returns c = (run_done c.enter_tops.ensures c.visit_tops.ensures.0, c.visit_tops.ensures.1)
