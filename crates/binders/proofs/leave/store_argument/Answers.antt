-- `store_argument`: the entry, as a list keeps it.
use Rattle.binders.proofs.ArgumentsCase.{binder_inside, binder_few, binder_info, argument_stored}
use Rattle.binders.proofs.leave.store_argument.Goals as goal

pub load_entry-e-requires : goal.load_entry-e-requires
load_entry-e-requires c = (c.requires.0.here.tied.works.long, binder_few c.requires.0)

pub name-requires : goal.name-requires
name-requires c = binder_inside c.requires.0

pub info_of-requires : goal.info_of-requires
info_of-requires c = binder_info c.requires.0 c.load_entry-e.ensures

pub returns : goal.returns
returns c = argument_stored c.load_entry-e.ensures c.name.ensures c.info_of.ensures c.store_list_entry.ensures
