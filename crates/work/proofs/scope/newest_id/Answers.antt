-- `newest_id`: the id of the record found, or none.
use Rattle.work.specs.Laws.Works.{spacious}
use Rattle.work.proofs.ScopeCase.{no_id, id_inside, the_id}
use Rattle.work.proofs.scope.newest_id.Goals as goal

pub newest-requires : goal.newest-requires
newest-requires c = spacious c.requires.works

pub returns-in-None : goal.returns-in-None
returns-in-None c = no_id _ c.newest.ensures c.in-None.is

pub id-requires : goal.id-requires
id-requires c =
    id_inside _ c.newest.ensures c.in-Some.is c.requires

pub returns-in-Some : goal.returns-in-Some
returns-in-Some c = the_id _ c.newest.ensures c.in-Some.is c.id.ensures
