-- `number_row`.
use mathlib.Core.Path.{refl}
use Rattle.lists.specs.Laws.Held.{captured_long}
use Rattle.amending.proofs.NumberCase.{row-taken, row-left, row-numbered}
use Rattle.amending.proofs.number.number_row.Goals as goal

pub load_list_entry-x-requires : goal.load_list_entry-x-requires
load_list_entry-x-requires c = (captured_long c.requires.0.held.tied, c.requires.0.held.tied.works.long, c.requires.0.inside)

pub take_row-requires : goal.take_row-requires
take_row-requires c = row-taken _ c.load_list_entry-x.ensures c.if-x-heap.true c.requires.0 refl

pub returns-then-x-heap-clause-numbers_row : goal.returns-then-x-heap-clause-numbers_row
returns-then-x-heap-clause-numbers_row c = row-numbered _ c.load_list_entry-x.ensures c.if-x-heap.true refl c.take_row.ensures

pub returns-else-x-heap-clause-numbers_row : goal.returns-else-x-heap-clause-numbers_row
returns-else-x-heap-clause-numbers_row c = row-left _ c.load_list_entry-x.ensures c.if-x-heap.false refl
