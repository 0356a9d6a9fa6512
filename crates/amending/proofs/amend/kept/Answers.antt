-- `kept`.
use Rattle.amending.proofs.KeptCase.{offer_here, offer_binder, kept_absent, kept_seen, kept_amended}
use Rattle.amending.proofs.amend.kept.Goals.{then-n-eq0-via-then-n-eq0, then-n-eq0-via-else-n-eq0+then-seen}
use Rattle.amending.proofs.amend.kept.Goals as goal

pub returns-then-n-eq0-clause-keeps_list_entry : goal.returns-then-n-eq0-clause-keeps_list_entry
returns-then-n-eq0-clause-keeps_list_entry c = elim c.then-n-eq0.branch [
  | then-n-eq0-via-then-n-eq0 w ↦ kept_absent w.if-n-eq0.true
  | then-n-eq0-via-else-n-eq0+then-seen w ↦ kept_seen w.if-seen.true
]

pub amended-requires : goal.amended-requires
amended-requires c = (record { rs = _; here = offer_here c.requires }, offer_binder c.requires c.offered-found.ensures)

pub returns-clause-keeps_list_entry : goal.returns-clause-keeps_list_entry
returns-clause-keeps_list_entry c = kept_amended c.if-n-eq0.false c.if-seen.false c.offered-found.ensures c.amended.ensures
