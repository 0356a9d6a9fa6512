-- `fresh_text`: the run of what was read, and the text of its answer.
use mathlib.Core.Path.{sym, ◌∙◌}
use lib.Seq.{length-take-le}
use Rattle.listing.proofs.Tables.{class_room, part_long, part-fits, facts_long}
use Rattle.listing.proofs.Runs.{fresh_in}
use Rattle.listing.proofs.fresh_text.Goals as goal

pub slice_bounds-fresh-end : goal.slice_bounds-fresh-end
slice_bounds-fresh-end c = sym (part_long c.requires.few)

pub slice_bounds-fresh-end-2 : goal.slice_bounds-fresh-end-2
slice_bounds-fresh-end-2 c = sym (length-take-le c.args.names c.args.classes.now (class_room c.requires.few))

pub returns-clause-fresh : goal.returns-clause-fresh
returns-clause-fresh c = fresh_in (part-fits c.requires.few) (part_long c.requires.few) c.fresh-a.ensures.answers c.outcome_text.ensures

pub outcome_text-requires : goal.outcome_text-requires
outcome_text-requires c = (c.fresh-a.auto.facts ∙ facts_long c.requires.few, c.requires.few.records, c.requires.text_length_in_bounds)
