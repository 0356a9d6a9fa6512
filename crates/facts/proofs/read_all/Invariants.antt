-- `read_all`: the reader has read some bytes.
use Rattle.reading.specs.Reader.{SameLoans}
use Rattle.facts.specs.Input.{Read}
use Rattle.facts.proofs.read_all.Given as goal

abbrev pub invariant-loop : goal.invariant-loop
invariant-loop g l = record {
  same : SameLoans l.initial.reader l.reader;
  read : Read l.reader.state l.reader.line.now l.reader.classes.now l.reader.records.now;
}
