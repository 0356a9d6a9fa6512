-- `entering`: by whether the lambda has a fact.
use Rattle.layers.proofs.LambdaEnter.{enters_first, enters_again}
use Rattle.layers.proofs.lambda.entering.Goals.{in-Some, in-None}
use Rattle.layers.proofs.lambda.entering.Goals as goal

pub heap_count-requires : goal.heap_count-requires
heap_count-requires c = ((c.requires.0 _ c.in-Some.is).0, c.requires.1)

pub returns : goal.returns
returns c = elim c.match-v.branch [
  | in-Some w ↦ let h = w.heap_count.ensures in rw w.heaps-is (enters_again w.in-Some.is c.requires.0 h.counts_heap h.few)
  | in-None w ↦ rw w.heaps-is (enters_first w.in-None.is w.no_list.ensures)
]
