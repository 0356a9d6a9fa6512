-- `put`: the part of the table that was copied to holds the row.
use Rattle.std.proofs.Common.{◌+◌, ◌-◌, ◌≡◌, length, sym, arith}
use Rattle.table.specs.Laws.Region.{sets_replaced}
use Rattle.table.proofs.put.Goals as goal

pub returns : goal.returns
returns c =
    let e : c.args.first + length c.args.row.now - c.args.first ≡ length c.args.row.now = omega arith in
    rw (e, c.copy_from_slice.ensures.after) (sym (sets_replaced c.args.t.now c.args.first c.args.row.now c.requires))
