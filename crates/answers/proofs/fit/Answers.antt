-- `fit`: each length in turn.
use borrow.Author.Tests.{eq-eqb, ne_eqb}
use Rattle.pass.specs.Run.{fitting, lengths_fit}
use Rattle.answers.proofs.fit.Goals as goal

pub returns-then-records-ne0 : goal.returns-then-records-ne0
unfolding fitting lengths_fit
returns-then-records-ne0 c = rw (ne_eqb _ _ c.if-records-ne0.true)

pub returns-then-facts-ne-FACTS : goal.returns-then-facts-ne-FACTS
unfolding fitting lengths_fit
returns-then-facts-ne-FACTS c = rw (eq-eqb _ _ c.if-records-ne0.false, ne_eqb _ _ c.if-facts-ne-FACTS.true)

pub returns-then-captured-ne-LIST_ENTRIES : goal.returns-then-captured-ne-LIST_ENTRIES
unfolding fitting lengths_fit
returns-then-captured-ne-LIST_ENTRIES c = rw (eq-eqb _ _ c.if-records-ne0.false, eq-eqb _ _ c.if-facts-ne-FACTS.false, ne_eqb _ _ c.if-captured-ne-LIST_ENTRIES.true)

pub returns-then-arguments-ne-LIST_ENTRIES : goal.returns-then-arguments-ne-LIST_ENTRIES
unfolding fitting lengths_fit
returns-then-arguments-ne-LIST_ENTRIES c =
    rw (eq-eqb _ _ c.if-records-ne0.false, eq-eqb _ _ c.if-facts-ne-FACTS.false, eq-eqb _ _ c.if-captured-ne-LIST_ENTRIES.false, ne_eqb _ _ c.if-arguments-ne-LIST_ENTRIES.true)

pub returns : goal.returns
unfolding fitting lengths_fit
returns c =
    rw (eq-eqb _ _ c.if-records-ne0.false, eq-eqb _ _ c.if-facts-ne-FACTS.false, eq-eqb _ _ c.if-captured-ne-LIST_ENTRIES.false, eq-eqb _ _ c.if-arguments-ne-LIST_ENTRIES.false)
