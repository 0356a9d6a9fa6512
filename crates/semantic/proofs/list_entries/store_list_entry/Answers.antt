-- `store_list_entry`: the row's numbers are put in its place.
use Rattle.semantic.specs.Rows.{put_info}
use Rattle.semantic.proofs.ListEntryCase.{list-entry-row, stores_list-entry}
use Rattle.semantic.proofs.list_entries.store_list_entry.Goals as goal

pub returns : goal.returns
unfolding put_info
returns c =
    let m = c in
    let o = m.args in
    stores_list-entry o.t.now o.i o.name o.info (list-entry-row o.name o.info m.marks.ensures) c.put.ensures
