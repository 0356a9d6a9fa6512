-- `feed`: after i bytes the reader has read those.
use Rattle.reading.proofs.Bytes.{fed_none, fed_turn, fed_whole}
use borrow.Author.Rules.{rules}
use Rattle.reading.proofs.Loans.{same_then}
use Rattle.reading.proofs.reader.Reader.feed.Goals as goal

pub loop-x-init : goal.loop-x-init
loop-x-init c =
    let o = c.args.self.now in
    record { same = search rules; feeds = fed_none o.state o.line.now o.classes.now o.records.now }

pub loop-x-preserved : goal.loop-x-preserved
loop-x-preserved c =
    let v = c.loop-x.invariant in
    let k = c.byte.ensures in
    record {
      same = same_then v.same k.same;
      feeds = fed_turn c.args.chunk.now c.loop-x.x-index c.loop-x-test.true v.feeds k.feeds;
    }

pub returns-clause-feeds : goal.returns-clause-feeds
returns-clause-feeds c = fed_whole c.args.chunk.now c.loop-x.x-index c.loop-x-test.false c.loop-x.invariant.feeds
