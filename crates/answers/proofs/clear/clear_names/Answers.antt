-- `clear_names`: the hints and the entries become zeros.
use mathlib.Core.Path.{◌≡◌, ap, ◌∙◌}
use native.Mathlib.Omega.{arith}
use Prim.Native.Nat.{ℕ, ◌+◌, ◌-◌, ◌*◌}
use Rattle.scope_map.specs.Hints.{rows_length, hints_length}
use Rattle.work.specs.Works.{entries_first}
use Rattle.work.specs.Coded.{entry_width}
use Rattle.answers.specs.Clear.{zeroed}
use Rattle.answers.proofs.Work.{names-cleared}
use Rattle.answers.proofs.clear.clear_names.Goals as goal

pub returns : goal.returns
returns c =
    let k3 = c in
    let k2 = k3 in
    let k1 = k2 in
    let o = k1 in
    let n = o.args.n in
    let many : entries_first + entry_width * n - entries_first ≡ entry_width * n = omega arith in
    let w = o.args.work.now in
    k3.clear_part-3.ensures
    ∙ ap (zeroed 46080 hints_length)
    (k2.clear_part-2.ensures
    ∙ ap (zeroed entries_first (entries_first + entry_width * n - entries_first)) k1.clear_part.ensures
    ∙ ap (λ (j : ℕ). zeroed entries_first j (zeroed rows_length hints_length w)) many)
    ∙ names-cleared w n o.requires.0 o.requires.1
