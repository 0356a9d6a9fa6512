-- `repeated_id`: ids in order do not repeat.
use Rattle.scans.proofs.Ordered.{none_repeats}
use Rattle.scans.proofs.ids.repeated_id.Goals.{then-ordered-via-then-ordered, then-ordered-via-else-ordered+then-ordered-2}
use Rattle.scans.proofs.ids.repeated_id.Goals as goal

pub returns-then-ordered : goal.returns-then-ordered
returns-then-ordered c = elim c.then-ordered.branch [
  | then-ordered-via-then-ordered w ↦ none_repeats (c.ordered.ensures.yes w.if-ordered.true)
  | then-ordered-via-else-ordered+then-ordered-2 w ↦ none_repeats (w.ordered-else-ordered.ensures.yes w.if-ordered-2.true)
]
