-- `count_row`.
use native.Mathlib.Omega.{arith}
use Rattle.work.specs.Laws.Works.{spacious}
use Rattle.amending.proofs.TallyCase.{row_past, row_unused, row-none, row_one}
use Rattle.amending.proofs.counts.count_row.Goals.{else-x-counts-via-then-x-counts+then-is_used+else-is_some, else-x-counts-via-then-x-counts+else-is_used, else-x-counts-via-else-x-counts}
use Rattle.amending.proofs.counts.count_row.Goals as goal

pub live_at-name-requires : goal.live_at-name-requires
live_at-name-requires c = (spacious c.requires.1.works, c.requires.2)

pub overflow_add-counts : goal.overflow_add-counts
overflow_add-counts c = omega (arith, c.requires.3 c.wide-x.result, c.requires.2, (spacious c.requires.1.works).names)

pub returns-then-is_some : goal.returns-then-is_some
returns-then-is_some c =
    row_one c.live_at-name.ensures _ c.requires.3 c.is_used.ensures c.captured_at.ensures c.is_some.ensures
    c.if-is_used.true c.wide-x.ensures c.if-is_some.true

pub returns-else-x-counts : goal.returns-else-x-counts
returns-else-x-counts c = elim c.else-x-counts.branch [
  | else-x-counts-via-else-x-counts w ↦ row_past c.live_at-name.ensures _ c.requires.3 c.wide-x.ensures w.if-x-counts.false
  | else-x-counts-via-then-x-counts+else-is_used w ↦ row_unused c.live_at-name.ensures _ c.requires.3 w.is_used.ensures w.if-is_used.false
  | else-x-counts-via-then-x-counts+then-is_used+else-is_some w ↦
      row-none c.live_at-name.ensures _ c.requires.3 w.is_used.ensures w.captured_at.ensures w.is_some.ensures w.if-is_used.true w.if-is_some.false
]
