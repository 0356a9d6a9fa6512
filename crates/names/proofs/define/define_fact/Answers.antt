-- `define_fact`: a new fact, marked by the body, with what it shadows and its alias.
use Rattle.std.proofs.Common.{rules}
use Rattle.names.proofs.DefineCase.{define_fact_lem}
use Rattle.names.proofs.define.define_fact.Goals as goal

pub returns : goal.returns
returns c =
    define_fact_lem {j = c.mark_if-j.result} {l = c.mark_if.result} c.depth-depth.ensures c.name.ensures c.newest_id-hidden.ensures c.status_at.ensures c.span_at.ensures c.new-i.ensures
    (search rules) (search rules) c.shadows.ensures c.aliases_to.ensures
