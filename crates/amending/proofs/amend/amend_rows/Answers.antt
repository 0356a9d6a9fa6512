-- `amend_rows`: the rows from `first` up to `to` hold what is kept of the first k.
use native.Mathlib.Omega.{arith}
use Prim.Native.Nat.{◌+◌}
use mathlib.Core.Path.{◌≡◌}
use mathlib.Core.Bool.{cond}
use Rattle.lists.specs.Laws.Held.{captured_long}
use Rattle.lists.specs.Laws.Counting.{few}
use Rattle.amending.proofs.AmendCase.{keep-start, keep_row, keep-next, keep-ended, keep-held, amends}
use Rattle.amending.proofs.amend.amend_rows.Goals.{then-keep_row, else-keep_row}
use Rattle.amending.proofs.amend.amend_rows.Goals as goal

pub loop-k-init : goal.loop-k-init
loop-k-init c = record { after = omega arith; few = omega arith; keeping = keep-start c.requires.4 }

pub keep_row-requires : goal.keep_row-requires
keep_row-requires c =
    keep_row c.loop-k.invariant.keeping c.requires.1 c.requires.2 c.requires.3 (omega (arith, c.requires.0))

pub loop-k-preserved : goal.loop-k-preserved
loop-k-preserved c =
    let b = c.keep_row.result in
    let q : c.if-keep_row.to ≡ c.loop-k.to + cond b 1 0 = elim c.if-keep_row.branch [
      | then-keep_row w ↦ let e = w.if-keep_row.true in rw e w.to-is
      | else-keep_row w ↦ let e = w.if-keep_row.false in rw e (omega (arith, w.to-is))
    ] in
    record {
      after = omega (arith, q, c.loop-k.invariant.after);
      few = omega (arith, few b q c.loop-k.invariant.few);
      keeping = keep-next c.loop-k.invariant.keeping (omega (arith, c.requires.0)) c.keep_row.ensures q;
    }

pub clear_list_entries-requires : goal.clear_list_entries-requires
clear_list_entries-requires c =
    let h = keep-held c.loop-k.invariant.keeping c.requires.1 c.requires.2 c.requires.3 in
    (captured_long h.tied, h.tied.works.long, omega (arith, c.loop-k.invariant.few), omega (arith, c.requires.0))

pub returns : goal.returns
returns c =
    amends c.args.e c.wide-first.ensures c.wide-n.ensures c.requires.1 c.requires.3
    (keep-ended c.loop-k.invariant.keeping c.loop-k.auto.k-end c.loop-k-test.false) c.clear_list_entries.ensures
