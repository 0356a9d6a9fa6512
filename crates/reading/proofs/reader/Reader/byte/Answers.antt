-- `byte`: by what it is and whether it has room.
use native.Mathlib.Omega.{arith}
use Rattle.reading.proofs.Bytes.{is_bad, not-bad, fed_lost, byte_line, byte_long, byte_kept}
use Rattle.reading.proofs.reader.Reader.byte.Goals as goal

pub returns-then-is_some-clause-feeds : goal.returns-then-is_some-clause-feeds
returns-then-is_some-clause-feeds c =
    let o = c.args.self.now in
    fed_lost o.state _ o.line.now o.classes.now o.records.now (is_bad c.if-is_some.ensures)

pub returns-then-x-eq10-clause-feeds : goal.returns-then-x-eq10-clause-feeds
returns-then-x-eq10-clause-feeds c =
    let o = c.args.self.now in
    byte_line o.state o.line.now o.classes.now o.records.now c.args.x c.if-x-eq10.true (not-bad c.if-is_some.ensures) c.end_line.ensures.turns.line
    c.end_line.ensures.turns.is

pub returns-then-n-self-clause-feeds : goal.returns-then-n-self-clause-feeds
returns-then-n-self-clause-feeds c =
    let o = c.args.self.now in
    byte_long o.state o.line.now o.classes.now o.records.now c.args.x c.if-x-eq10.false (not-bad c.if-is_some.ensures) c.if-n-self.true
    c.spoiled-self-then-n-self.ensures

pub returns-clause-feeds : goal.returns-clause-feeds
returns-clause-feeds c =
    let o = c.args.self.now in
    byte_kept o.state o.line.now o.classes.now o.records.now c.args.x c.if-x-eq10.false (not-bad c.if-is_some.ensures) (omega arith)
