-- `clear_work`: two parts, and between them entries that are zero.
use mathlib.Core.Path.{◌≡◌, ap, ◌∙◌}
use native.Mathlib.Omega.{arith}
use Prim.Native.Nat.{ℕ, ◌+◌, ◌-◌, ◌*◌}
use Rattle.work.specs.Works.{work_long, entries_first, captures_first}
use Rattle.work.specs.Coded.{entry_width}
use Rattle.answers.specs.Clear.{zeroed}
use Rattle.answers.proofs.Work.{work_cleared}
use Rattle.answers.proofs.clear.clear_work.Goals as goal

pub returns : goal.returns
returns c =
    let k2 = c in
    let k1 = k2 in
    let o = k1 in
    let n = o.args.n in
    let w = o.args.work.now in
    let many : entries_first + entry_width * n - 0 ≡ entries_first + entry_width * n = omega arith in
    k2.clear_part-2.ensures
    ∙ ap (zeroed captures_first (work_long - captures_first)) (k1.clear_part.ensures ∙ ap (λ (j : ℕ). zeroed 0 j w) many)
    ∙ work_cleared w n o.requires.0 o.requires.1
