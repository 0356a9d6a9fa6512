-- `row_after`: the row's line, in the part behind the place.
use mathlib.Core.List.{List, ◌++◌}
use mathlib.Core.Path.{ap, ◌∙◌}
use native.Mathlib.Omega.{arith}
use Prim.Native.Nat.{ℕ, ◌-◌, ◌≤◌}
use lib.ListN.{length, take}
use Rattle.table.specs.Laws.Part.{part_length}
use Rattle.listing.proofs.Rows.{put-after}
use Rattle.listing.proofs.row_after.Goals as goal

pub returns : goal.returns
returns c =
    let c₁ = c in
    let c₂ = c₁ in
    let o = c₂.args in
    let d = o.out.now in
    let v = c₁.row_line-line in
    let k : v.result ≤ length v.new.out = omega (arith, v.ensures.short, v.auto.out, part_length d o.end, c₂.requires) in
    record {
      is = λ l e h.
          put-after d v.new.out o.end (length d - o.end) v.result (omega (arith, c₂.requires)) k
          ∙ ap (λ (t : List ℕ). take o.end d ++ t) (v.ensures.tells.is l e h);
      short = omega (arith, v.ensures.short);
    }
