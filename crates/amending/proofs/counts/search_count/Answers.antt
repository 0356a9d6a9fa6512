-- `search_count`.
use Rattle.amending.proofs.NowCase.{used_yes, used_no}
use Rattle.amending.proofs.counts.search_count.Goals as goal

pub returns-then-is_used : goal.returns-then-is_used
returns-then-is_used c = used_yes c.is_used.ensures c.if-is_used.true c.count_now.ensures

pub returns-else-is_used : goal.returns-else-is_used
returns-else-is_used c = used_no c.is_used.ensures c.if-is_used.false
