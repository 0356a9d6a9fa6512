-- `define_name`: the map of records has the name, and the rest of the table stays.
use Rattle.work.proofs.ScopeCase.{names-length, names_room, defines}
use native.Mathlib.Omega.{arith}
use Rattle.work.proofs.scope.define_name.Goals as goal

pub slice_bounds-define_at-end-2 : goal.slice_bounds-define_at-end-2
slice_bounds-define_at-end-2 c = names-length c.requires.0

pub define_at-requires : goal.define_at-requires
define_at-requires c =
    let o = c in
    (record { rows = omega (arith, o.requires.1); long = (names_room o.requires.0).long }, omega (arith, o.requires.2, c.narrow.ensures))

pub returns : goal.returns
returns c =
    let d = c.define_at in
    defines c.requires.0 d.auto.t
    c.narrow.ensures d.ensures
