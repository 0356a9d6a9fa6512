-- `keep_row`.
use native.Mathlib.Omega.{arith}
use Rattle.lists.specs.Laws.Held.{captured_long, held_here}
use Rattle.amending.proofs.KeptRowCase.{keep_small, keep_index, row_gone, row_kept}
use Rattle.amending.proofs.amend.keep_row.Goals as goal

pub load_list_entry-x-requires : goal.load_list_entry-x-requires
load_list_entry-x-requires c =
    (captured_long c.requires.held.tied, c.requires.held.tied.works.long, c.requires.inside)

pub count_used-n-requires : goal.count_used-n-requires
count_used-n-requires c =
    (c.requires.ended, held_here c.requires.held)

pub returns-then-not-keeps : goal.returns-then-not-keeps
returns-then-not-keeps c =
    row_gone c.load_list_entry-x.ensures c.count_used-n.ensures c.keeps.ensures c.if-not-keeps.true

pub stands_before-before-requires : goal.stands_before-before-requires
stands_before-before-requires c =
    (captured_long c.requires.held.tied, c.requires.order, omega (arith, c.requires.most, c.requires.inside))

pub kept-y-requires : goal.kept-y-requires
kept-y-requires c =
    keep_index c.requires

pub store_list_entry-requires : goal.store_list_entry-requires
store_list_entry-requires c = (
  captured_long c.requires.held.tied,
  c.requires.held.tied.works.long,
  omega (arith, c.requires.most, c.requires.inside),
  keep_small c.requires c.load_list_entry-x.ensures c.kept-y.ensures.place,
)

pub returns : goal.returns
returns c =
    row_kept c.load_list_entry-x.ensures c.count_used-n.ensures c.keeps.ensures c.if-not-keeps.false
    c.stands_before-before.ensures c.kept-y.ensures.keeps_list_entry c.store_list_entry.ensures c.wide.ensures c.mark.ensures
    c.mark.auto.marks
