-- What holds at places of `visit`.
use Prim.Native.Nat.{ℕ}
use Rattle.tree.specs.Record.{nth}
use Rattle.visits.proofs.Views.{own_field}
use mathlib.Core.Path.{◌≡◌}
use Rattle.visits.proofs.AnalysisPass.+visits.Goals.{visit-After-form-form}

pub formed : (t : ℕ) (c : visit-After-form-form t) → let o = c.args in c.form-form.result ≡ (nth o.s.now.all.now o.at).form
formed t c =
    own_field c.requires (λ r. r.form) c.form-form.ensures
