-- `end_parameter`: two numbers of the row change, one after the other.
use mathlib.Core.Path.{refl}
use Rattle.semantic.specs.Rows.{put_row}
use Rattle.semantic.specs.Information.{with_usage_count, shadows}
use Rattle.semantic.proofs.AmendCase.{amends_twice}
use Rattle.semantic.proofs.amend.end_parameter.Goals as goal

pub returns : goal.returns
unfolding put_row
returns c = let o = c.args in
    amends_twice (with_usage_count o.count) (shadows o.id)
    (c.set_number.ensures.is (with_usage_count o.count) (λ l e h v q. refl))
    (c.set_number-2.ensures.is (shadows o.id) (λ l e h v q. refl))
