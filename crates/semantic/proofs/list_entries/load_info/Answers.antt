-- `load_info`: the row is read, and read back.
use mathlib.Core.Path.{refl}
use Rattle.table.specs.Laws.Leaves.{tells_row}
use Rattle.semantic.specs.Rows.{no_list_entry, list_entry_width, put_list_entry}
use Rattle.semantic.specs.Laws.Rows.{list-entry_long}
use Rattle.semantic.proofs.ListEntryCase.{info_told}
use Rattle.semantic.proofs.list_entries.load_info.Goals as goal

pub returns : goal.returns
returns c = info_told _ _ (tells_row list_entry_width put_list_entry list-entry_long no_list_entry _ _ c.get.ensures) refl
