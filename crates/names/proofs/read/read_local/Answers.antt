-- `read_local`: the entry is used, last by this, then the fact.
use native.Mathlib.Omega.{arith}
use Rattle.names.proofs.KnownCase.{binder_bounds, here_bounds, binder_uses, uses_are, used-fits, row_still}
use Rattle.names.proofs.ReadCase.{reads_local}
use Rattle.names.proofs.read.read_local.Goals as goal

pub used-requires : goal.used-requires
used-requires c = omega (arith, binder_uses c.requires c.load_entry.ensures)

pub put_use-requires : goal.put_use-requires
put_use-requires c =
    let k = binder_bounds c.requires in
    let f = used-fits c.used.ensures (binder_uses c.requires c.load_entry.ensures) in
    (k.long, k.few, omega (arith, uses_are c.used_by-e.ensures), k.row)

pub store-requires : goal.store-requires
store-requires c = row_still (here_bounds c.requires) c.put_use.auto.facts

pub returns : goal.returns
returns c =
    reads_local c.id.ensures c.span_at.ensures c.load_entry.ensures c.used.ensures c.used_by-e.ensures c.put_use.ensures
    c.local_fact-fact.ensures c.store.ensures
