-- `offered`.
use mathlib.Core.Path.{ap, ◌∙◌}
use Rattle.std.proofs.Common.{None, Some}
use Rattle.lists.proofs.GivenCase.{offers_told, offers_searched}
use Rattle.lists.proofs.index.offered.Goals as goal

pub returns-in-Some-Some : goal.returns-in-Some-Some
returns-in-Some-Some c =
    let h = rw c.in-Some-Some.field-0-is at c.in-Some-Some.ensures.lookup.3 in
    offers_told c.wide.ensures h.0 (ap Some (c.wide-in-Some-Some.ensures ∙ c.in-Some-Some.b-is) ∙ h.1 None)

pub returns-in-Some-None : goal.returns-in-Some-None
returns-in-Some-None c =
    let h = rw c.in-Some-None.field-0-is at c.in-Some-None.ensures.lookup.3 in
    offers_told c.wide.ensures h.0 (h.1 None)

pub returns-in-None : goal.returns-in-None
returns-in-None c = offers_searched c.search.ensures
