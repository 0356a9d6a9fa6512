-- `load_entry`: the row is read, and read back.
use Rattle.work.specs.Entries.{entry_of}
use Rattle.work.proofs.EntryCase.{loads_entry}
use Rattle.work.proofs.entries.load_entry.Goals as goal

pub returns : goal.returns
unfolding entry_of
returns c = loads_entry _ _ c.requires.1 c.get.ensures
