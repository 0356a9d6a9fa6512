-- `place`: the newest of the name is in the newest layer, or the name is not.
use Rattle.scope_map.proofs.Cases.{no_place, place_newest, place_under}
use Rattle.scope_map.proofs.ScopeMap.place.Goals as goal

pub returns-in-Some : goal.returns-in-Some
returns-in-Some c = place_newest c.get.ensures c.in-Some.is c.if-found-self.true

pub returns-in_default : goal.returns-in_default
returns-in_default c = place_under c.get.ensures c.in-Some.is c.if-found-self.false

pub returns-in_default-2 : goal.returns-in_default-2
returns-in_default-2 c = no_place c.get.ensures c.in_default.is
