-- `count_names`.
use Rattle.lists.specs.Index.{names_most}
use Rattle.amending.proofs.TallyCase.{unmarked, tallied}
use Rattle.amending.proofs.counts.count_names.Goals as goal

pub mark_body-requires : goal.mark_body-requires
mark_body-requires c =
    (c.requires.0, unmarked names_most)

pub returns : goal.returns
returns c =
    tallied c.count_rows.ensures c.mark_body.ensures
