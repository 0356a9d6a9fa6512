-- `mutate`: the newest entry is used and mutated, and its binder's fact marked.
use native.Mathlib.Omega.{arith}
use Rattle.names.proofs.KnownCase.{newest_bounds, entry-uses, uses_are, used-fits, told_at, told_none}
use Rattle.names.proofs.ReadCase.{mutates, mutates_none}
use Rattle.names.proofs.read.mutate.Goals as goal

pub returns-in_default : goal.returns-in_default
returns-in_default c = mutates_none (told_none c.newest.ensures c.in_default.is)

pub load_entry-requires : goal.load_entry-requires
load_entry-requires c =
    let k = newest_bounds c.requires.good c.args.name c.requires.tied (told_at c.newest.ensures c.in-Some.is) in
    (k.long, k.few)

pub used-requires : goal.used-requires
used-requires c =
    let a = c.requires in
    omega (arith, entry-uses a.good a.tied.works c.load_entry.ensures)

pub store_entry-requires : goal.store_entry-requires
store_entry-requires c =
    let k = newest_bounds c.requires.good c.args.name c.requires.tied (told_at c.newest.ensures c.in-Some.is) in
    let f = used-fits c.used.ensures (entry-uses c.requires.good c.requires.tied.works c.load_entry.ensures) in
    (k.long, k.few, omega (arith, uses_are c.mutate-e.ensures))

pub mark_set-requires : goal.mark_set-requires
mark_set-requires c = (newest_bounds c.requires.good c.args.name c.requires.tied (told_at c.newest.ensures c.in-Some.is)).row

pub returns : goal.returns
returns c =
    mutates (told_at c.newest.ensures c.in-Some.is) c.load_entry.ensures c.used.ensures c.mutate-e.ensures
    c.store_entry.ensures c.mark_set.ensures
