-- `bound`: every row, or the rows below the hint.
use Prim.Native.Nat.{ℕ, ◌+◌}
use mathlib.Core.Path.{ap, ◌∙◌}
use native.Mathlib.Omega.{arith}
use lib.ListN.{get_or}
use Rattle.scope_map.proofs.Index.{bounds_hint}
use Rattle.scope_map.specs.Hints.{rows_length}
use Rattle.scope_map.proofs.bound.Goals as goal

pub returns-then-hint-n : goal.returns-then-hint-n
returns-then-hint-n c =
    let w = c in
    let t = w.args.t.now in
    bounds_hint (omega arith) (c.wide-hint.ensures ∙ ap (λ (i : ℕ). get_or t (rows_length + i) 0) w.wide.ensures) (omega arith)
