-- `pop_from`: at the bottom, and above it.
use Rattle.scope_map.proofs.Cases.{pop_bottom, pop_newest}
use Rattle.scope_map.proofs.ScopeMap.pop_from.Goals as goal

pub returns-then-self-le1 : goal.returns-then-self-le1
returns-then-self-le1 c = pop_bottom c.if-self-le1.true

pub returns : goal.returns
returns c =
    let at-if1 = c in
    pop_newest _ at-if1.if-self-le1.false at-if1.requires.1 c.leave_rows.ensures
