-- Order 7 of document 02: facts equal those of the expanded tree.
use Rattle.std.specs.Prelude.{[]}
use Rattle.tree.proofs.Laws.Expand.{nine_forms_in}
use Rattle.r7rs.proofs.Laws.Expansion.{events_expand, calls_in_lem}
use Rattle.r7rs.proofs.Laws.Alike.Runs.{run_alike}
use Rattle.pass_laws.specs.Laws.Expansion.{fresh_expand, settled_expand, inner_expand}
use Rattle.execution.specs.Claims.{FactsExpanded, JudgedExpanded, RunsExpanded}

pub facts_expanded : FactsExpanded
facts_expanded classes ts = (nine_forms_in ts, fresh_expand classes ts, settled_expand classes ts)

pub judged_expanded : JudgedExpanded
judged_expanded ts = (inner_expand [] ts, events_expand ts, calls_in_lem ts)

pub runs_expanded : RunsExpanded
runs_expanded = run_alike
