-- `name_at`: the row's first number.
use Rattle.semantic.proofs.ListEntryCase.{name_told}
use Rattle.semantic.proofs.list_entries.name_at.Goals as goal

pub returns : goal.returns
returns c = name_told _ _
