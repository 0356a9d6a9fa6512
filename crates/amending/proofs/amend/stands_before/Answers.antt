-- `stands_before`.
use Rattle.amending.proofs.KeptCase.{stands_marked, stands_searched}
use Rattle.amending.proofs.amend.stands_before.Goals as goal

pub returns-in-Some : goal.returns-in-Some
returns-in-Some c = let h = c.in-Some.ensures.lookup.3 in rw (h.1 0) (stands_marked c.wide.ensures h.0)

pub returns-in-None : goal.returns-in-None
returns-in-None c = stands_searched c.search_rows.ensures
