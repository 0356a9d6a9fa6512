-- What a visit may rely on holds of the state after it too, but for the room that its own records took.
use Rattle.std.specs.Prelude.{ℕ, suc, ◌+◌, ◌≤◌, ◌<◌, List, length}
use Rattle.std.proofs.Common.{◌∙◌, arith}
use Rattle.tree.specs.Tree.{Ident, Tree, Trees, many, size, sizes}
use Rattle.pass.specs.State.{State}
use Rattle.pass.specs.Visit.{Flags, visit, visit_arguments}
use Rattle.pass.specs.Run.{rows_most}
use Rattle.pass_laws.specs.Sound.{Sound}
use Rattle.pass_laws.specs.Stage.{entering}
use Rattle.pass_laws.specs.Visitable.{Ample, Visitable, VisitableArguments}
use Rattle.pass_laws.specs.Laws.Sound.Runs.{visit_sound, arguments_sound}
use Rattle.pass_laws.specs.Laws.Visitable.Live.{visit_live, arguments_live}
use Rattle.pass_laws.specs.Laws.Visitable.Further.{Further, further_visit, further_arguments}
use Rattle.pass_laws.specs.Laws.Visitable.Opens.{opens, opens_arguments}

-- j of n records later m are left, of which q may enter a name
pub record Remaining (j n m q : ℕ) (g : Flags) (t : State) : Type 0 where
  pub records : j + m ≤ n
  pub live : length t.scope.names.live + q ≤ suc rows_most
  pub height : g.height + m ≤ rows_most
  pub counter : g.counter + m ≤ rows_most

pub ample_on : {j n r m q : ℕ} {f g : Flags} {s t : State} → Further j s t → Ample n r f s → Remaining j n m q g t → Ample m q g t
ample_on {j} p a l = record {
  rows = p.lengths.rows ∙ a.rows;
  captured = p.lengths.captured ∙ a.captured;
  arguments = p.lengths.arguments ∙ a.arguments;
  uses = a.uses + j;
  counted = p.counted a.uses a.counted;
  few = omega (arith, a.few, l.records);
  live = l.live;
  layers = omega (arith, p.layers, a.layers, l.records);
  capture_layers = omega (arith, p.capture_layers, a.capture_layers, l.records);
  height = l.height;
  counter = l.counter;
}

module _ {P : Ident → Type 0} (small : (x : Ident) → P x → x.at < rows_most) (classes : List ℕ) where
  module _ {i : ℕ} {t : Tree} {f : Flags} {s : State} (w : Visitable P i t f s) where
    pub visited_sound : Sound P (visit classes t f s)
    visited_sound = visit_sound small classes t f s w.holds (opens classes i t w.num f s w.stage) w.sound

    pub visited_further : Further (size t) s (visit classes t f s)
    visited_further = further_visit classes w.stage.layered t f

    pub visited_live : length (visit classes t f s).scope.names.live + suc (entering t) ≤ length s.scope.names.live + size t
    visited_live = visit_live classes i t w.num f s w.stage.layered.scope

  module _ {i : ℕ} {ts : Trees} {f : Flags} {s : State} (w : VisitableArguments P i ts f s) where
    pub arguments_visited_sound : Sound P (visit_arguments classes ts f s)
    arguments_visited_sound = arguments_sound small classes ts f s w.holds (opens_arguments classes i ts w.num f s w.stage) w.sound

    pub arguments_visited_further : Further (sizes ts) s (visit_arguments classes ts f s)
    arguments_visited_further = further_arguments classes w.stage.layered ts f

    pub arguments_visited_live : length (visit_arguments classes ts f s).scope.names.live + many ts ≤ length s.scope.names.live + sizes ts
    arguments_visited_live = arguments_live classes i ts w.num f s w.stage.layered.scope
