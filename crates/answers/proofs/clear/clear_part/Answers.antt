-- `clear_part`: a part of the table becomes zeros.
use mathlib.Core.List.{List, ◌++◌}
use mathlib.Core.Path.{ap, ◌∙◌}
use Prim.Native.Nat.{ℕ, ◌-◌}
use native.Mathlib.Omega.{arith}
use lib.ListN.{replicate, take, drop}
use Rattle.table.specs.Laws.Region.{region-length}
use Rattle.answers.specs.Clear.{zeroed}
use Rattle.answers.proofs.clear.clear_part.Goals as goal

pub returns : goal.returns
unfolding zeroed
returns c =
    let o = c in
    let w = o.args.work.now in
    let a = o.args.start in
    let n = o.args.end - a in
    ap (λ (l : List ℕ). take a w ++ (l ++ drop n (drop a w)))
    (c.clear.ensures ∙ ap (λ (k : ℕ). replicate k 0) (region-length w a n (omega (arith, o.requires.0, o.requires.1))))
