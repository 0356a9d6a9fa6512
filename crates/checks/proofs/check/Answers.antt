-- `check`: 1 and 2, then the pass that clears 3 to 7 and 16 and lists where the trees start, or all in order.
use native.Mathlib.Omega.{arith}
use mathlib.Core.Path.{sym, ◌∙◌}
use Prim.Native.Nat.{◌<◌}
use lib.ListN.{length}
use Rattle.tree.specs.Record.{records}
use Rattle.scans.proofs.Telling.{tells_misses}
use Rattle.checks.proofs.Listing.{list-told, leaves_all, leaves_stored}
use Rattle.checks.proofs.Order.{ragged, many-records, many-names, past_2, cleared, unrefused}
use Rattle.checks.proofs.check.Goals.{then-len-gt-MOST_RECORDS-via-then-len-gt-MOST_RECORDS, then-len-gt-MOST_RECORDS-via-else-len-gt-MOST_RECORDS+then-names-gt-MOST_NAMES, else-len-tops-via-then-len-tops+else-clear, else-len-tops-via-else-len-tops}
use Rattle.checks.proofs.check.Goals as goal

pub returns-then-rs-ne0-clause-result_value : goal.returns-then-rs-ne0-clause-result_value
returns-then-rs-ne0-clause-result_value c = ragged _ _ c.if-rs-ne0.true

pub returns-then-len-gt-MOST_RECORDS-clause-result_value : goal.returns-then-len-gt-MOST_RECORDS-clause-result_value
returns-then-len-gt-MOST_RECORDS-clause-result_value c = elim c.then-len-gt-MOST_RECORDS.branch [
  | then-len-gt-MOST_RECORDS-via-then-len-gt-MOST_RECORDS w ↦ many-records _ _ c.if-rs-ne0.false (omega (arith, w.if-len-gt-MOST_RECORDS.true))
  | then-len-gt-MOST_RECORDS-via-else-len-gt-MOST_RECORDS+then-names-gt-MOST_NAMES w ↦ many-names _ _ c.if-rs-ne0.false (omega (arith, w.if-len-gt-MOST_RECORDS.false)) w.if-names-gt-MOST_NAMES.true
]

pub returns-then-clear-clause-result_value : goal.returns-then-clear-clause-result_value
returns-then-clear-clause-result_value c =
    let N = c.args.names in
    let y = c.if-clear.true in c.last.ensures N ∙ sym (past_2 _ _ c.if-rs-ne0.false (omega arith) c.if-names-gt-MOST_NAMES.false ∙ cleared N _ (c.clear.ensures.tells.yes y))

pub returns-then-clear-clause-told : goal.returns-then-clear-clause-told
returns-then-clear-clause-told c =
    let N = c.args.names in
    let y = c.if-clear.true in λ e h. list-told (c.clear.ensures.told y)

pub returns-then-clear-clause-leaves : goal.returns-then-clear-clause-leaves
returns-then-clear-clause-leaves c =
    let N = c.args.names in
    let y = c.if-clear.true in leaves_stored (past_2 _ _ c.if-rs-ne0.false (omega arith) c.if-names-gt-MOST_NAMES.false) (omega arith) c.clear.ensures.stores

pub returns-clause-result_value : goal.returns-clause-result_value
returns-clause-result_value c = c.in_order.ensures ∙ sym (past_2 _ _ c.if-rs-ne0.false (omega arith) c.if-names-gt-MOST_NAMES.false)

-- with a table that is long enough, the pass did not clear what comes to the checks in order
pub returns-clause-told : goal.returns-clause-told
returns-clause-told c = λ z h.
    let k = unrefused c.args.names c.args.rs.now (past_2 c.args.names c.args.rs.now c.if-rs-ne0.false (omega arith) c.if-names-gt-MOST_NAMES.false ∙ sym c.in_order.ensures ∙ z) in
    absurd
    (elim c.else-len-tops.branch [
      | else-len-tops-via-then-len-tops+else-clear w ↦ tells_misses w.clear.ensures.tells w.if-clear.false k
      | else-len-tops-via-else-len-tops w ↦ omega (arith, w.if-len-tops.false, c.len-2.ensures)
    ])

pub returns-clause-leaves : goal.returns-clause-leaves
returns-clause-leaves c =
    let e = past_2 c.args.names c.args.rs.now c.if-rs-ne0.false (omega arith) c.if-names-gt-MOST_NAMES.false in
    elim c.else-len-tops.branch [
      | else-len-tops-via-then-len-tops+else-clear w ↦ let h : length (records c.args.rs.now) < length c.args.tops.now = omega (arith, w.if-len-tops.true, c.len-2.ensures) in rw w.tops-is (leaves_stored e h w.clear.ensures.stores)
      | else-len-tops-via-else-len-tops w ↦ rw w.tops-is leaves_all
    ]
