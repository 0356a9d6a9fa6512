-- What holds at places of `visit_set`.
use Prim.Native.Nat.{ℕ, ◌+◌, ◌≤◌}
use Rattle.tree.specs.Record.{nth}
use Rattle.tree.specs.Tree.{size}
use Rattle.visits.proofs.SetCase as set_case
use Rattle.visits.proofs.Views.{next_field}
use mathlib.Core.Path.{◌≡◌}
use Rattle.visits.proofs.AnalysisPass.+visits.Goals.{visit_set-After-name, visit_set-Start}

pub long : (t : ℕ) (c : visit_set-Start t) → 3 ≤ size c.requires.0.t
long t c =
    set_case.set_long c.requires.1 c.requires.0

pub tells : (t : ℕ) (c : visit_set-After-name t) → let o = c.args in
    c.name.result ≡ (nth o.s.now.all.now (o.at + 1)).name
tells t c =
    next_field c.requires.0 (λ r. r.name) c.name.ensures
