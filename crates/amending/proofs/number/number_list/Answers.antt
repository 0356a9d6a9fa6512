-- `number_list`.
use Rattle.amending.specs.Numbered.{TellsMutated}
use Rattle.lists.specs.Laws.Held.{captured_long}
use Rattle.amending.proofs.NumberCase.{first-held, second_held, both, first_alone, none-numbered}
use mathlib.Core.Path.{subst}
use Rattle.amending.proofs.number.number_list.Goals as goal

pub returns-then-e-eq0 : goal.returns-then-e-eq0
returns-then-e-eq0 c = none-numbered c.args.e c.if-e-eq0.true

pub number_rows-q-requires : goal.number_rows-q-requires
number_rows-q-requires c =
    (c.requires.0, first-held c.args.e c.requires.0 c.requires.1 c.requires.2)

pub has_mutated-requires : goal.has_mutated-requires
has_mutated-requires c =
    let h = second_held c.args.e c.requires.0 c.number_rows-q.ensures c.requires.1 c.requires.2 in
    (c.requires.0, captured_long h.held.tied, h.held.tied.works.long)

pub returns-then-not-has_mutated : goal.returns-then-not-has_mutated
returns-then-not-has_mutated c =
    first_alone c.args.e c.requires.0 c.number_rows-q.ensures (subst (TellsMutated _ _ _) c.if-not-has_mutated.true c.has_mutated.ensures)

pub number_rows-requires : goal.number_rows-requires
number_rows-requires c =
    (c.requires.0, second_held c.args.e c.requires.0 c.number_rows-q.ensures c.requires.1 c.requires.2)

pub returns : goal.returns
returns c =
    both c.args.e c.requires.0 c.number_rows-q.ensures c.number_rows.ensures
