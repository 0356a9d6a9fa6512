-- `is_ident_of`: by the form's number.
use borrow.Author.Tests.{ne_eqb}
use Rattle.tree.proofs.Laws.Stands.{root}
use Rattle.walk.proofs.Bodies.{named-below, ident_tells, other_tells}
use Rattle.walk.proofs.body.is_ident_of.Goals as goal

pub form-requires : goal.form-requires
form-requires c = (root c.requires.0.stands).inside

pub is_class-requires : goal.is_class-requires
is_class-requires c =
    (named-below c.requires.0 c.form.ensures c.if-form-eq-IDENTIFIER.true c.name.ensures, c.requires.1)

pub returns-then-form-eq-IDENTIFIER : goal.returns-then-form-eq-IDENTIFIER
returns-then-form-eq-IDENTIFIER c =
    ident_tells _ _ _ _ c.form.ensures c.if-form-eq-IDENTIFIER.true c.name.ensures c.is_class.ensures

pub returns-else-form-eq-IDENTIFIER : goal.returns-else-form-eq-IDENTIFIER
returns-else-form-eq-IDENTIFIER c = other_tells _ _ _ _ c.form.ensures c.if-form-eq-IDENTIFIER.false (ne_eqb _ 1 c.if-form-eq-IDENTIFIER.false)
