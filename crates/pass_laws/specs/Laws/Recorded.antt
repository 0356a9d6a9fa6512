-- The fresh run records the static meaning: for trees within the limits, with no inner define and no refusal 9 noted, the rows are those of
-- Static.antt, given what is presumed of each use.
use Rattle.std.specs.Prelude.{ℕ, ◌≤◌, List, [], ◌≡◌, None}
use Rattle.std.proofs.Common.{sym, subst}
use Rattle.tree.specs.Tree.{Trees, sizes, Nums}
use Rattle.tree.specs.Define.{inner_defines}
use Rattle.r7rs.specs.Binding.{events, uses, top}
use Rattle.pass_laws.specs.Static.{Presumption, Top}
use Rattle.pass.specs.Run.{rows_most, fresh}
use Rattle.pass_laws.specs.Laws.Says.{Presumes}
use Rattle.pass_laws.specs.Laws.Presumed.{unshared, Unshared, presumes}
use Rattle.pass_laws.specs.Laws.Script.{fresh_script, top_level_lem, walk_top}

pub recorded : (classes : List ℕ) (P : Presumption) (ts : Trees) → Nums 0 ts → sizes ts ≤ rows_most → inner_defines ts ≡ [] → (fresh classes ts).noted.nine ≡ None
    → Presumes P (events ts) → Top (fresh classes ts).facts.rows P ts
unfolding events
recorded classes P ts n h d e u =
    top_level_lem (fresh classes ts).facts.rows P ts
    ((fresh_script classes P ts n h d e).means (subst (Presumes P) (sym (walk_top ts top)) u))

-- presuming of each name whether it is set, where none is set that an inner lambda mentions: demand 3
pub recorded_unshared : (classes : List ℕ) (ts : Trees) → Nums 0 ts → sizes ts ≤ rows_most → inner_defines ts ≡ [] → (fresh classes ts).noted.nine ≡ None
    → Unshared (uses ts) → Top (fresh classes ts).facts.rows (unshared (uses ts)) ts
unfolding uses
recorded_unshared classes ts n h d e u = recorded classes (unshared (uses ts)) ts n h d e (presumes (uses ts) u (events ts) (λ v m. m))
