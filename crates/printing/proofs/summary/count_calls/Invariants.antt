-- `count_calls`: after i rows the counts are those of the first i.
use Prim.Native.Nat.{◌≤◌}
use mathlib.Core.List.{List}
use mathlib.Core.Path.{◌≡◌}
use lib.ListN.{take}
use Rattle.table.specs.Layout.{layout}
use Rattle.semantic.specs.Rows.{Row, put_row}
use Rattle.semantic.specs.Kinds.{is_call_site, is_tail_row}
use Rattle.printing.specs.Text.{count}
use Rattle.printing.proofs.summary.count_calls.Given as goal

abbrev pub invariant-loop-i : goal.invariant-loop-i
invariant-loop-i l = record {
  few : l.calls.all ≤ l.i;
  fewer : l.calls.tail ≤ l.i;
  all : (k : List Row) → l.facts ≡ layout put_row k → l.calls.all ≡ count is_call_site (take l.i k);
  tail : (k : List Row) → l.facts ≡ layout put_row k → l.calls.tail ≡ count is_tail_row (take l.i k);
}
