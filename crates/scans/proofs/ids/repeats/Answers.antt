-- `repeats`: the id is compared along its bucket's chain, which the record then heads; with no id, neither.
use native.Mathlib.Omega.{arith}
use mathlib.Core.Bool.{cond}
use mathlib.Core.Path.{sym, ◌∙◌}
use lib.Dec.{eqb}
use lib.ListN.{get_or}
use Prim.Native.Nat.{◌+◌}
use Rattle.scans.proofs.Chaining.{Picked, picked}
use Rattle.scans.proofs.ids.repeats.Goals.{After-pick-last}
use Rattle.scans.proofs.ids.repeats.Goals as goal

-- what is picked of the links
at-pick : (c : After-pick-last) → let d = c in let s = d in
    let head = get_or s.args.newest.now d.bucket-b.result 0 in
    Picked s.args.rs.now s.args.newest.now s.args.before.now s.args.i d.id-id.result d.bucket-b.result c.pick-last.result
    (cond (eqb d.id-id.result 0) head (s.args.i + 1))
at-pick c =
    let d = c in
    let s = d in
    rw (c.pick-last.ensures, c.from-head.ensures) (picked s.requires.chains d.id-id.ensures d.bucket-b.ensures.value (omega arith) (omega arith))

pub stands-requires-clause-last_value : goal.stands-requires-clause-last_value
stands-requires-clause-last_value c = let k = at-pick (goal.at.stands-requires-clause-last_value c).After-pick-last in k.none

pub stands-requires-clause-chain : goal.stands-requires-clause-chain
stands-requires-clause-chain c = let k = at-pick (goal.at.stands-requires-clause-chain c).After-pick-last in k.chain

pub returns-then-stands-clause-value : goal.returns-then-stands-clause-value
returns-then-stands-clause-value c = sym c.if-stands.true ∙ (at-pick (goal.at.returns-then-stands-clause-value c).After-pick-last).along c.stands.ensures

pub overflow_cast-before : goal.overflow_cast-before
overflow_cast-before c = omega (arith, (at-pick (goal.at.overflow_cast-before c).After-pick-last).chain.within)

pub overflow_cast-newest : goal.overflow_cast-newest
overflow_cast-newest c =
    let p = c in
    rw (c.pick.ensures, p.from-head.ensures) (omega (arith, (at-pick (goal.at.overflow_cast-newest p).After-pick-last).within))

pub returns-clause-value : goal.returns-clause-value
returns-clause-value c =
    let p = c in sym c.if-stands.false ∙ (at-pick (goal.at.returns-clause-value c).After-pick-last).along c.stands.ensures

pub returns-clause-chained : goal.returns-clause-chained
returns-clause-chained c =
    let p = c in λ f. rw (c.pick.ensures, p.from-head.ensures) (at-pick (goal.at.returns-clause-chained p).After-pick-last).chained
