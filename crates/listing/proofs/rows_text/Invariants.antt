-- `rows_text`: after i rows the buffer starts with their text.
use Prim.Native.Nat.{◌*◌, ◌≤◌}
use mathlib.Core.List.{List}
use mathlib.Core.Path.{◌≡◌}
use lib.ListN.{length, take}
use Rattle.table.specs.Layout.{layout}
use Rattle.semantic.specs.Rows.{Row, put_row}
use Rattle.printing.specs.Text.{rows_text}
use Rattle.listing.proofs.rows_text.Given as goal

abbrev pub invariant-loop-i : goal.invariant-loop-i
invariant-loop-i l = record {
  short : l.end ≤ 128 * l.i;
  long : length l.out ≡ length l.initial.out;
  text : (rows : List Row) → l.facts ≡ layout put_row rows → take l.end l.out ≡ rows_text 0 (take l.i rows);
}
