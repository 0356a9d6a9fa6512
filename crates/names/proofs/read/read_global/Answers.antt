-- `read_global`: one use more of the entry and of the binder's fact, then the fact.
use native.Mathlib.Omega.{arith}
use Rattle.names.proofs.KnownCase.{binder_bounds, here_bounds, binder_uses, used-fits, row_still}
use Rattle.names.proofs.ReadCase.{reads_global}
use Rattle.names.proofs.read.read_global.Goals as goal

pub used-e-requires : goal.used-e-requires
used-e-requires c = omega (arith, binder_uses c.requires c.load_entry.ensures)

pub store_entry-requires : goal.store_entry-requires
store_entry-requires c =
    let k = binder_bounds c.requires in
    (k.long, k.few, used-fits c.used-e.ensures (binder_uses c.requires c.load_entry.ensures))

pub one_use_more-requires : goal.one_use_more-requires
one_use_more-requires c =
    let k = binder_bounds c.requires in
    (k.row, k.fits)

pub store-requires : goal.store-requires
store-requires c = row_still (here_bounds c.requires) c.one_use_more.auto.facts

pub returns : goal.returns
returns c =
    reads_global c.id.ensures c.span_at.ensures c.load_entry.ensures c.used-e.ensures c.store_entry.ensures
    c.one_use_more.ensures c.global_fact-fact.ensures c.store.ensures
