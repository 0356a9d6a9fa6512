-- A call's head as what it is: what stands at the record that `core_at` reaches, and whether it is a constant.
use mathlib.Core.Bool.{false, true≢false}
use mathlib.Core.Path.{◌≡◌, refl}
use Rattle.tree.specs.Tree.{Tree}
use Rattle.tree.specs.Core.{core, peel}
use Rattle.tree.proofs.Laws.Core.{Peeled, same, none, peeled}
use Rattle.tree.proofs.Laws.Parts.{own}
use Rattle.forms.specs.Calls.{constant_record}

no_constant : {c t : Tree} → Peeled c t → constant_record (own t) ≡ false → c ≡ t
unfolding own
no_constant (same t) e = refl
no_constant (none n) e = absurd (true≢false e)

-- where no constant is reached, that is what the head is
pub reached : (t : Tree) → constant_record (own (peel t)) ≡ false → core t ≡ peel t
reached t e = no_constant (peeled t) e
