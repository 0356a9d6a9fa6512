-- `enclosing_of`: by whether the name has a capture.
use Rattle.work.specs.Laws.Works.{spacious}
use Rattle.amending.proofs.KeptCase.{enclosing_none, enclosing_inside, enclosing_some}
use Rattle.amending.proofs.amend.enclosing_of.Goals as goal

pub newest_capture-requires : goal.newest_capture-requires
newest_capture-requires c = spacious c.requires.here.works

pub load_capture-requires : goal.load_capture-requires
load_capture-requires c = (c.requires.here.works.long, enclosing_inside c.newest_capture.ensures c.in-Some.is c.requires.here)

pub returns-in-Some : goal.returns-in-Some
returns-in-Some c = enclosing_some c.newest_capture.ensures c.in-Some.is c.load_capture.ensures

pub returns-in-None : goal.returns-in-None
returns-in-None c = enclosing_none c.newest_capture.ensures c.in-None.is
