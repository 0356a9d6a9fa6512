-- `count_used`.
use Rattle.amending.proofs.NowCase.{count-told, count_searched}
use Rattle.amending.proofs.counts.count_used.Goals as goal

pub returns-in-Some : goal.returns-in-Some
returns-in-Some c = let h = c.in-Some.ensures.lookup.3 in count-told c.wide.ensures h.0 (rw (h.1 0) at c.wide-in-Some.ensures)

pub returns-in-None : goal.returns-in-None
returns-in-None c = count_searched c.search_count.ensures
