-- An entry as the code holds it, changed; and as it is read from its row.
use Rattle.std.specs.Prelude.{ℕ, suc, ◌/◌, ◌%◌, List, true, get_or, eqb}
use Rattle.work.specs.declared.entries.Entry.{Entry as Coded}

abbrev pub with_uses : Coded → ℕ → Coded
with_uses e n = record { captured = e.captured; mutated = e.mutated; uses = n; last = e.last; slot = e.slot; heap = e.heap; depth = e.depth }

abbrev pub with_last : Coded → ℕ → Coded
with_last e i = record { captured = e.captured; mutated = e.mutated; uses = e.uses; last = i; slot = e.slot; heap = e.heap; depth = e.depth }

abbrev pub used_more : Coded → Coded
used_more e = with_uses e (suc e.uses)

abbrev pub used_last : ℕ → Coded → Coded
used_last i e = with_last e (suc i)

abbrev pub now_captured : Coded → Coded
now_captured e = record { captured = true; mutated = e.mutated; uses = e.uses; last = e.last; slot = e.slot; heap = e.heap; depth = e.depth }

abbrev pub now_mutated : Coded → Coded
now_mutated e = record { captured = e.captured; mutated = true; uses = e.uses; last = e.last; slot = e.slot; heap = e.heap; depth = e.depth }

unfoldable pub entry_of : List ℕ → Coded
entry_of r = record {
  captured = eqb (get_or r 0 0 % 2) 1;
  mutated = eqb (get_or r 0 0 / 2 % 2) 1;
  uses = get_or r 0 0 / 4;
  last = get_or r 1 0;
  slot = get_or r 2 0;
  heap = get_or r 3 0;
  depth = get_or r 4 0;
}
