-- `facts_text`: the rows, then the summary.
use Prim.Native.Nat.{◌-◌, ◌≤◌}
use native.Mathlib.Omega.{arith}
use lib.ListN.{length}
use Rattle.table.specs.Laws.Part.{part_length}
use Rattle.listing.proofs.Rows.{facts_in}
use Rattle.listing.proofs.facts_text.Goals as goal

pub overflow_add-result : goal.overflow_add-result
overflow_add-result c =
    let c₁ = c in
    let c₂ = c₁ in
    let c₃ = c₂ in
    omega (arith, c₁.summary-last.ensures.short, c₂.rows_text-end.ensures.short, c₃.requires)

pub returns : goal.returns
returns c =
    let c₁ = c in
    let c₂ = c₁ in
    let c₃ = c₂ in
    let v = c₂.rows_text-end in
    let w = c₁.summary-last in
    let d = v.new.out in
    let e : v.result ≤ length d = omega (arith, v.ensures.short, v.auto.out, c₃.requires) in
    let n : w.result ≤ length w.new.out =
    omega (arith, v.ensures.short, w.ensures.short, v.auto.out, w.auto.out, part_length d v.result, c₃.requires) in
    facts_in (length d - v.result) v.ensures w.ensures e n
