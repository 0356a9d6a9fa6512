-- `read_taken`: the capture and the entry are used, the binder's fact takes the capture's uses, then the fact and refusal 12.
use native.Mathlib.Omega.{arith}
use native.Mathlib.Numerals.{add-one}
use Rattle.names.specs.Laws.Idents.{known_few}
use Rattle.names.proofs.KnownCase.{bounds, row_still}
use Rattle.names.proofs.TakenCase.{row-inside_captured, loaded_uses, loaded_row, reads-taken}
use Rattle.names.proofs.read.read_taken.Goals as goal

pub load_info-v-requires : goal.load_info-v-requires
load_info-v-requires c = row-inside_captured c.requires

pub overflow_add-t : goal.overflow_add-t
overflow_add-t c = omega (arith, loaded_uses c.requires c.use_taken-t.ensures)

pub with_usage_count-requires : goal.with_usage_count-requires
with_usage_count-requires c = loaded_row c.requires c.use_taken-t.ensures c.wide.ensures

pub store-requires : goal.store-requires
store-requires c =
    let h = c.requires.here in
    row_still (bounds h.good h.tied (known_few h.known h.place)) c.with_usage_count.auto.facts

pub returns : goal.returns
returns c =
    reads-taken c.load_info-v.ensures c.use_taken-t.ensures c.wide.ensures (add-one _) c.with_usage_count.ensures c.depth.ensures
    c.span_at.ensures c.taken_fact-fact.ensures c.store.ensures c.note_taken.ensures
