-- `is_used`.
use Rattle.amending.proofs.NowCase.{used-held, used_marked, used_searched}
use Rattle.amending.proofs.counts.is_used.Goals as goal

pub returns-then-d : goal.returns-then-d
returns-then-d c = used-held c.if-d.true

pub returns-in-Some : goal.returns-in-Some
returns-in-Some c = let h = c.in-Some.ensures.lookup.3 in rw (h.1 0) (used_marked c.if-d.false c.wide.ensures h.0)

pub returns-in-None : goal.returns-in-None
returns-in-None c = used_searched c.if-d.false c.uses_name.ensures
