-- The top level: what may be relied on as its names enter, and then at each of its trees.
use Rattle.std.specs.Prelude.{ℕ, ◌+◌, ◌<◌, List, ◌≡◌}
use Rattle.std.proofs.Common.{sym, ◌∙◌, arith}
use Rattle.tree.specs.Tree.{Ident, Node, Tree, Trees, ident, const, if, letin, define, lambda, sequence, call, set!, cons, size, Num}
use Rattle.tree.proofs.Laws.Tree.{size_pos}
use Rattle.pass.specs.State.{State, with_context}
use Rattle.pass.specs.Read.{enter_top_level_value}
use Rattle.pass.specs.Visit.{top_flags, visit_top}
use Rattle.pass.specs.Run.{rows_most}
use Rattle.pass_laws.specs.Sound.{Holds}
use Rattle.pass_laws.specs.Visitable.{Visitable, VisitableTops}
use Rattle.pass_laws.specs.Laws.Tops.{spread_end}
use Rattle.pass_laws.specs.Laws.Sound.Known.{sound_context, sound_value}
use Rattle.pass_laws.specs.Laws.Sound.Runs.{top_sound}
use Rattle.pass_laws.specs.Laws.Stage.Arguments.{entered-one, entered_few}
use Rattle.pass_laws.specs.Laws.Stage.Top.{lambda_define-body, value_define-body}
use Rattle.pass_laws.specs.Laws.Stage.Tops as stage
use Rattle.pass_laws.specs.Laws.Visitable.Live.{value_live, top_live}
use Rattle.pass_laws.specs.Laws.Visitable.Further.{further_same, further_context, further_value, further_top}
use Rattle.pass_laws.specs.Laws.Visitable.Opens.{opens_top}
use Rattle.pass_laws.specs.Laws.Visitable.Visited.{ample_on}

-- a tree stands at one record
pub one_place : {i k : ℕ} (t : Tree) → Num i t → Num k t → i ≡ k
unfolding Num
one_place (ident x) m n = sym m ∙ n
one_place (const a q) m n = sym m ∙ n
one_place (if a b c d) m n = sym m.0 ∙ n.0
one_place (letin a xs es b) m n = sym m.0 ∙ n.0
one_place (define a x b) m n = sym m.0 ∙ n.0
one_place (lambda a xs b) m n = sym m.0 ∙ n.0
one_place (sequence a es) m n = sym m.0 ∙ n.0
one_place (call a e es) m n = sym m.0 ∙ n.0
one_place (set! a x e) m n = sym m.0 ∙ n.0

module _ {P : Ident → Type 0} (small : (x : Ident) → P x → x.at < rows_most) (classes : List ℕ) where
  module _ (i j : ℕ) (s : State) where
    -- The first tree, at its record k; then those after it

    module _ (k : ℕ) (t : Tree) (ts : Trees) (n : Num k t) (w : VisitableTops P i j (cons t ts) s) where
      at_place : w.spread.0 ≡ k
      at_place = one_place t w.spread.2 n

      pub first-top : Visitable P k t top_flags s
      unfolding size Holds
      first-top =
          let e = at_place in
          let g = w.spread.1 in
          let d = spread_end (w.spread.0 + size t) j ts w.spread.3 in
          record {
            num = n;
            inside = omega arith;
            holds = w.holds.0;
            sound = w.sound;
            ample = ample_on further_same w.ample (omega (arith, entered_few ts, entered-one t));
            stage = rw (← e) (stage.first-top classes i j t ts w.spread s w.stage);
          }

      pub next_tops : VisitableTops P (k + size t) j ts (visit_top classes t s)
      unfolding size Holds
      next_tops =
          let e = at_place in
          let g = w.spread.1 in
          let d = spread_end (w.spread.0 + size t) j ts w.spread.3 in
          let v = first-top in
          let h = w.stage.layered in
          record {
            spread = rw (← e) w.spread.3;
            inside = w.inside;
            holds = w.holds.1;
            sound = top_sound small classes t s w.holds.0 (opens_top classes k t n s v.stage) w.sound;
            ample = ample_on (further_top classes h t) w.ample (omega (arith, top_live classes k t n s h, entered_few ts, entered-one t, size_pos t));
            stage = rw (← e) (stage.next_tops classes i j t ts w.spread s w.stage);
          }

  -- The body of a define

  module _ (k : ℕ) (m : Node) (x : Ident) (b : Tree) (s : State) (w : Visitable P k (define m x b) top_flags s) where
    pub top_lambda_body : Visitable P (k + 2) b top_flags (with_context x.id s)
    unfolding Num size Holds
    top_lambda_body = record {
      num = w.num.2;
      inside = omega arith;
      holds = w.holds.1;
      sound = sound_context small x.id w.sound;
      ample = ample_on (further_context w.stage.layered.scope x.id) w.ample (omega arith);
      stage = lambda_define-body classes k m x b s w.num w.stage;
    }

    pub top_value_body : Visitable P (k + 2) b top_flags (enter_top_level_value classes x b s)
    unfolding Num size Holds
    top_value_body = record {
      num = w.num.2;
      inside = omega arith;
      holds = w.holds.1;
      sound = sound_value small classes x b w.holds.0 w.sound;
      ample = ample_on (further_value w.stage.layered.scope classes x b) w.ample (omega (arith, value_live classes x b s));
      stage = value_define-body classes k m x b s w.num w.stage;
    }
