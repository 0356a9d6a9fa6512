-- `amend_long`.
use Rattle.lists.specs.Index.{names_most}
use Rattle.lists.specs.Laws.Held.{told_names, held_here}
use Rattle.lists.specs.Laws.Counting.{zeros, empty}
use Rattle.amending.proofs.TallyCase.{unmarked}
use Rattle.amending.proofs.AmendCase.{all_right}
use Rattle.amending.proofs.amend.amend_long.Goals as goal

pub index_names-requires : goal.index_names-requires
index_names-requires c =
    (told_names c.requires.1.lambda.names, held_here c.requires.2, empty names_most)

pub count_names-requires : goal.count_names-requires
count_names-requires c =
    (c.requires.1, held_here c.requires.2, zeros names_most)

pub amend_rows-requires : goal.amend_rows-requires
amend_rows-requires c =
    (c.requires.0, c.requires.1, c.requires.2, all_right c.index_names.ensures c.count_names.ensures, unmarked names_most)
