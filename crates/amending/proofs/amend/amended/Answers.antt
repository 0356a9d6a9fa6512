-- `amended`: by whether the name gives a binder.
use Rattle.amending.proofs.KeptCase.{amended-none, amended-some, amended-inside}
use Rattle.amending.proofs.amend.amended.Goals as goal

pub returns-in_default : goal.returns-in_default
returns-in_default c = amended-none _ _ _ c.in_default.is

pub load_entry-requires : goal.load_entry-requires
load_entry-requires c = (c.requires.0.here.works.long, amended-inside c.in-Some.is c.requires.1)

pub returns : goal.returns
returns c = amended-some _ _ c.args.v c.in-Some.is c.load_entry.ensures c.enclosing_in.ensures
