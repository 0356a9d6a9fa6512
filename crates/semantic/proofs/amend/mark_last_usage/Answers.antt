-- `mark_last_usage`: one number of the row changes.
use mathlib.Core.Path.{refl}
use Rattle.semantic.specs.Rows.{put_row}
use Rattle.semantic.specs.Information.{mark_last_usage}
use Rattle.semantic.proofs.amend.mark_last_usage.Goals as goal

pub returns : goal.returns
unfolding put_row
returns c = c.set_number.ensures.is mark_last_usage (λ l e h v q. refl)
