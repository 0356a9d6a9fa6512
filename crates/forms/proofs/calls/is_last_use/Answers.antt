-- `is_last_use`: the ids of the last use and of the identifier are compared.
use native.Mathlib.Omega.{arith}
use Rattle.std.proofs.Common.{◌≡◌}
use Rattle.std.proofs.lemmas.Bool.{eq-eqb}
use Rattle.forms.proofs.CallsCase.{not_found, binder_few, never_used, last-inside, is_last}
use Rattle.forms.proofs.calls.is_last_use.Goals as goal

pub returns-in_default : goal.returns-in_default
returns-in_default c = not_found _ _ _ c.name.ensures c.newest.ensures c.in_default.is

pub load_entry-last-requires : goal.load_entry-last-requires
load_entry-last-requires c = (c.requires.works.long, binder_few _ _ _ c.name.ensures c.newest.ensures c.in-Some.is c.requires)

pub returns-else-last-ne0 : goal.returns-else-last-ne0
returns-else-last-ne0 c =
    let z : c.load_entry-last.result.last ≡ 0 = omega arith in
    rw (eq-eqb _ _ z) (never_used _ _ _ c.name.ensures c.newest.ensures c.in-Some.is c.load_entry-last.ensures z)

pub id-requires : goal.id-requires
id-requires c = rw c.wide.ensures (last-inside _ _ _ c.name.ensures c.newest.ensures c.in-Some.is c.load_entry-last.ensures c.if-last-ne0.true c.requires)

pub returns-then-last-ne0 : goal.returns-then-last-ne0
returns-then-last-ne0 c =
    is_last _ _ _ c.name.ensures c.newest.ensures c.in-Some.is c.load_entry-last.ensures c.if-last-ne0.true (rw c.wide.ensures at c.id.ensures)
    c.id-then-last-ne0.ensures
