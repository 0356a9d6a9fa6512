-- What is held, and the names told.
use Rattle.std.specs.Prelude.{ℕ, ◌*◌, List, ◌≡◌, length}
use Rattle.std.proofs.Common.{ap, ◌∙◌}
use Rattle.tree.specs.Tree.{Ident}
use Rattle.pass.specs.State.{State}
use Rattle.work.specs.Laws.Works.{captured_many}
use Rattle.work.specs.Scope.{KnownHere}
use Rattle.work.specs.Tied.{Tied, Raw}
use Rattle.work.specs.declared.Pass.{Pass}
use Rattle.walk.specs.Contract.{SomeNames}
use Rattle.walk.specs.declared.uses.Names.{Names}
use Rattle.lists.specs.Contract.{Told, Held}
use Rattle.table.specs.Laws.Layout.{length-layout}
use Rattle.semantic.specs.Rows.{list_entry_width, put_list_entry}
use Rattle.semantic.specs.Laws.Rows.{list-entry_long}
use Rattle.pass.specs.Run.{list_entries_length}

pub told : {rs : List ℕ} {n : Names} (h : SomeNames rs n) → Told rs n h.xs
told h = record { many = h.names; stand = h.stand; count = h.many }

pub told_names : {rs : List ℕ} {n : Names} {xs : List Ident} → Told rs n xs → SomeNames rs n
told_names {xs = xs} h = record { names = h.many; xs = xs; stand = h.stand; many = h.count }

pub held_here : {rs : List ℕ} {p : Pass} {C w : List ℕ} → Held rs p C w → KnownHere rs p w
held_here h = record { s = h.s; works = h.tied.works; binders = h.good.sound.binders }

-- the table's length
pub captured_long : {z : Raw} {s : State} → Tied z s → length z.captured ≡ list_entries_length
captured_long {z} {s} t =
    ap length t.captured ∙ length-layout list_entry_width put_list_entry list-entry_long s.facts.captured ∙ ap (λ (n : ℕ). list_entry_width * n) (captured_many t.works)
