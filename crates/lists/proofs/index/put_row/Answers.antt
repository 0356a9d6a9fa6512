-- `put_row`.
use native.Mathlib.Omega.{arith}
use Rattle.work.specs.Laws.Works.{spacious}
use Rattle.lists.proofs.IndexCase.{put_past, put_in, tells_some, value_inside}
use Rattle.lists.proofs.index.put_row.Goals as goal

pub live_at-r-requires : goal.live_at-r-requires
live_at-r-requires c = (spacious c.requires.0.here.works, c.requires.1)

pub load_entry-requires : goal.load_entry-requires
load_entry-requires c = (c.requires.0.here.works.long, omega (arith, c.wide.ensures, value_inside c.requires.0.here c.live_at-r.ensures))

pub returns-then-x-index : goal.returns-then-x-index
returns-then-x-index c =
    put_in c.live_at-r.ensures c.wide-x.ensures c.wide.ensures (tells_some c.load_entry.ensures c.wide.ensures c.then_some.ensures)

pub returns-else-x-index : goal.returns-else-x-index
returns-else-x-index c = put_past c.live_at-r.ensures c.wide-x.ensures c.if-x-index.false
