-- `feed`: after i bytes the reader has read those.
use lib.ListN.{take}
use Rattle.reading.specs.Reader.{SameLoans, Feeds}
use Rattle.reading.proofs.reader.Reader.feed.Given as goal

abbrev pub invariant-loop-x : goal.invariant-loop-x
invariant-loop-x l = record { same : SameLoans l.initial.self l.self; feeds : Feeds (take l.x-index l.chunk) l.initial.self l.self }
