-- `all_fit`: each length in turn.
use mathlib.Core.Path.{◌∙◌}
use native.Mathlib.Omega.{arith}
use borrow.Author.Tests.{eq-eqb}
use Rattle.listing.specs.Listing.{all_fit}
use Rattle.listing.proofs.Tables.{unfit, whole-fits}
use Rattle.listing.proofs.all_fit.Goals as goal

pub returns-then-classes-ne-CLASS_TABLE : goal.returns-then-classes-ne-CLASS_TABLE
returns-then-classes-ne-CLASS_TABLE c = unfit _ _ _ c.then-classes-ne-CLASS_TABLE.either

pub returns : goal.returns
unfolding all_fit
returns c =
    rw (eq-eqb _ _ c.if-classes-ne-CLASS_TABLE.false, eq-eqb _ _ c.if-records-ne-RECORD_TABLE.false) (c.fit.ensures ∙ whole-fits _ _ (omega arith))
