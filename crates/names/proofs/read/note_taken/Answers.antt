-- `note_taken`: 12 where there is a read offset and no capture offset.
use Rattle.std.proofs.lemmas.Bool.{eq-eqb, ne_eqb}
use Rattle.names.proofs.TakenCase.{both, not_first, not_second, number, no_number, notes, notes_none}
use Rattle.names.proofs.read.note_taken.Goals.{else-v-ne-NONE-via-then-v-ne-NONE+else-v-eq-NONE, else-v-ne-NONE-via-else-v-ne-NONE}
use Rattle.names.proofs.read.note_taken.Goals as goal

pub returns-then-v-eq-NONE : goal.returns-then-v-eq-NONE
returns-then-v-eq-NONE c = notes (both (number c.if-v-ne-NONE.true) (eq-eqb _ _ c.if-v-eq-NONE.true)) c.narrow.ensures c.or.ensures

pub returns-else-v-ne-NONE : goal.returns-else-v-ne-NONE
returns-else-v-ne-NONE c = notes_none (elim c.else-v-ne-NONE.branch [
  | else-v-ne-NONE-via-then-v-ne-NONE+else-v-eq-NONE w ↦ not_second (number w.if-v-ne-NONE.true) (ne_eqb _ _ w.if-v-eq-NONE.false)
  | else-v-ne-NONE-via-else-v-ne-NONE w ↦ not_first _ (no_number w.if-v-ne-NONE.false)
])
