-- `read_all`: the reader has read some bytes, and reads some more.
use mathlib.Core.List.{[]}
use borrow.Author.Rules.{rules}
use Rattle.reading.proofs.Loans.{same_then}
use Rattle.facts.specs.Laws.Input.{read-on}
use Rattle.facts.proofs.read_all.Goals as goal

pub loop-init : goal.loop-init
loop-init g c =
    let o = c.args.reader.now in
    record { same = search rules; read = record { bytes = []; holds = c.requires.starts.is o.line.now o.classes.now o.records.now c.requires.room } }

pub returns-then-read_chunk-eq0-clause-read : goal.returns-then-read_chunk-eq0-clause-read
returns-then-read_chunk-eq0-clause-read g c = read-on c.loop.invariant.read c.read_chunk.ensures.more

pub returns-then-read_chunk-eq0-clause-same : goal.returns-then-read_chunk-eq0-clause-same
returns-then-read_chunk-eq0-clause-same g c = same_then c.loop.invariant.same c.read_chunk.ensures.same

pub loop-preserved : goal.loop-preserved
loop-preserved g c =
    record {
      same = same_then c.loop.invariant.same c.read_chunk.ensures.same;
      read = read-on c.loop.invariant.read c.read_chunk.ensures.more;
    }
