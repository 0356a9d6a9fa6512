-- `with_usage_count`: one number of the row changes.
use mathlib.Core.Path.{refl}
use Rattle.semantic.specs.Rows.{put_row}
use Rattle.semantic.specs.Information.{with_usage_count}
use Rattle.semantic.proofs.amend.with_usage_count.Goals as goal

pub returns : goal.returns
unfolding put_row
returns c = c.set_number.ensures.is (with_usage_count _) (λ l e h v q. refl)
