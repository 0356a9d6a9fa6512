-- A tree at top level: its visit has the laws of every visit, also where it is a define.
use Rattle.std.specs.Prelude.{ℕ, suc, ◌+◌, ◌*◌, ◌≤◌, ◌<◌, List, Bool, ◌≡◌, length}
use Rattle.std.proofs.Math.Bool.{true, false}
use Rattle.std.proofs.Math.Path.{refl}
use Rattle.std.proofs.Common.{arith}
use Rattle.tree.specs.Tree.{Ident, Node, Tree, define, size, Num}
use Rattle.semantic.specs.Information.{NONE}
use Rattle.semantic.specs.Rows.{Row}
use Rattle.pass.specs.State.{State, with_context}
use Rattle.pass.specs.Read.{enter_top_level_value}
use Rattle.pass.specs.Visit.{top_flags, is_lambda, visit, visit_top_define, visit_top}
use Rattle.pass.specs.Run.{list_entries_most}
use Rattle.pass_laws.specs.Stage.{Blocks, BlocksIn, due, entering, Layered, FunctionWithin, LetWithin, Made, Stage}
use Rattle.pass_laws.specs.Laws.Changes.{context, keeps_lengths}
use Rattle.pass_laws.specs.Laws.Names.{value_changes}
use Rattle.pass_laws.specs.Laws.Moves.{by}
use Rattle.pass_laws.specs.Laws.Scopes.{Any}
use Rattle.pass_laws.specs.Laws.Cases.{by_top}
use Rattle.pass_laws.specs.Laws.Stage.Lists.{Lasting}
use Rattle.pass_laws.specs.Laws.Stage.Still.{Stored, Stacked, as_full, as_stacked, stored-then, stacked_then}
use Rattle.pass_laws.specs.Laws.Stage.Entering.{apart_steps}
use Rattle.pass_laws.specs.Laws.Stage.Arguments.{few, value_due, visit_due}
use Rattle.pass_laws.specs.Laws.Stage.Captured.{visit_top_lem}
use Rattle.pass_laws.specs.Laws.Stage.Captures.{next, layered_next, visit_stacked}
use Rattle.pass_laws.specs.Laws.Stage.Filled.{Filled, ◌⟫◌, stored_filled, visit_filled}
use Rattle.pass_laws.specs.Laws.Stage.Blocks.{changes_lasting, blank, blocks_last}
use Rattle.pass_laws.specs.Laws.Stage.Second.{made, visit_stored}
use Rattle.pass_laws.specs.Laws.Stage.Ends.{Ends}
use Rattle.pass_laws.specs.Laws.Stage.Makes.{Hence, hence_of, hence_before, visit_makes}
use Rattle.pass_laws.specs.Laws.Stage.Onward.{onward}
use Rattle.pass_laws.specs.Laws.Preserved.{value_preserves}

-- from s, where the tree t at record k is to be visited, to u
pub record Visited (k : ℕ) (t : Tree) (s u : State) : Type 0 where
  pub stacked : Stacked s u
  pub spared : suc (due u + entering t) ≤ due s + size t
  pub top : due s + size t ≤ suc list_entries_most → u.facts.captured_top ≤ s.facts.captured_top + list_entries_most * size t
  pub filled : Filled s u
  pub stored : Made s t → Stored s u

module _ (classes : List ℕ) where
  any-visited : (k : ℕ) (t : Tree) → Num k t → (s : State) → Layered s → Visited k t s (visit classes t top_flags s)
  any-visited k t n s h =
      record {
        stacked = visit_stacked classes t top_flags s h;
        spared = visit_due classes k t n top_flags s h.scope;
        top = visit_top_lem classes k t n top_flags s h.scope;
        filled = visit_filled classes t top_flags s;
        stored = visit_stored classes k t n top_flags s h.scope;
      }

  -- a define

  value_keeps : (k : ℕ) (x : Ident) (b : Tree) (s : State) → x.at < k → (m : ℕ) → Lasting k m s (enter_top_level_value classes x b s)
  value_keeps k x b s h m = changes_lasting (value_changes {own = λ y. y ≡ x.at} classes x b s refl) (λ y l u e. omega arith)

  value_layered : (x : Ident) (b : Tree) (s : State) → Layered s → Layered (enter_top_level_value classes x b s)
  value_layered x b s h = next h (value_changes {own = Any} classes x b s tt) (value_preserves apart_steps classes x b s).stacked

  define-visited : (l : Bool) (k : ℕ) (m : Node) (x : Ident) (b : Tree) → Num k (define m x b) → (s : State) → Layered s
      → Visited k (define m x b) s (visit_top_define classes l x b s)
  unfolding Num size Blocks
  define-visited true k m x b n s h =
      let t = with_context x.id s in
      let g : Layered t = layered_next h h.scope (as_stacked refl) in
      let p = any-visited (k + 2) b n.2 t g in
      record {
        stacked = record { depth = p.stacked.depth; layers = p.stacked.layers };
        spared = omega (arith, p.spared, few (is_lambda b));
        top = λ l. omega (arith, p.top (omega arith));
        filled = stored_filled (apart_steps.context x.id s).stored ⟫ p.filled ⟫ stored_filled (apart_steps.context NONE _).stored;
        stored = λ v. stored-then (apart_steps.context x.id s).stored (stored-then (p.stored v) (apart_steps.context NONE _).stored);
      }
  define-visited false k m x b n s h =
      let t = enter_top_level_value classes x b s in
      let a = value_preserves apart_steps classes x b s in
      let p = any-visited (k + 2) b n.2 t (value_layered x b s h) in
      let c = value_keeps (k + 2) x b s (omega (arith, n.1)) (k + 2 + size b) in
      record {
        stacked = stacked_then a.stacked p.stacked;
        spared = omega (arith, p.spared, few (is_lambda b), (value_due classes x b s).by);
        top = λ l. omega (arith, a.stored.captured, p.top (omega (arith, (value_due classes x b s).by)));
        filled = stored_filled a.stored ⟫ p.filled;
        stored = λ v. stored-then a.stored (p.stored (blocks_last made (k + 2) b n.2 c v));
      }

  pub top_laws : (k : ℕ) (t : Tree) → Num k t → (s : State) → Layered s → Visited k t s (visit_top classes t s)
  top_laws k t n s h =
      by_top classes (λ u v. Num k u → Visited k u s (v s)) (λ u m. any-visited k u m s h) (λ m x b p. define-visited (is_lambda b) k m x b p s h) t n

  -- what it leaves of its lambdas and lets
  module _ {F L : Row → Type 0} {c a : ℕ} (ends : Ends F L c a) (k : ℕ) (s : State) (h : Layered s) where
    -- at the end u of the visit of t
    abbrev Makes : Tree → State → Type 0
    Makes t u =
        Num k t → k + size t ≤ length s.facts.rows → BlocksIn F L s t → (w : State) → Hence c a k (k + size t) u w
        → BlocksIn (FunctionWithin c a) (LetWithin a) w t

    define_makes : (l : Bool) (m : Node) (x : Ident) (b : Tree) → Makes (define m x b) (visit_top_define classes l x b s)
    unfolding Num size Blocks
    define_makes true m x b n l v w q =
        visit_makes classes ends (k + 2) b n.2 top_flags (with_context x.id s) h.scope (omega arith) v w
        (hence_before q (omega arith) (omega arith) (stored_filled (apart_steps.context NONE _).stored) (by (context NONE)))
    define_makes false m x b n l v w q =
        let t = enter_top_level_value classes x b s in
        let c = value_keeps (k + 2) x b s (omega (arith, n.1)) (k + 2 + size b) in
        visit_makes classes ends (k + 2) b n.2 top_flags t (value_layered x b s h).scope
        (omega (arith, (keeps_lengths (value_changes {own = Any} classes x b s tt)).rows)) (blocks_last ends.kind (k + 2) b n.2 c v) w
        (hence_of q (k + 2) (k + 2 + size b) (omega arith) (omega arith))

    pub top_makes : (t : Tree) → Num k t → k + size t ≤ length s.facts.rows → BlocksIn F L s t
        → (w : State) → Hence c a k (k + size t) (visit_top classes t s) w → BlocksIn (FunctionWithin c a) (LetWithin a) w t
    top_makes = by_top classes (λ t v. Makes t (v s)) (λ t n. visit_makes classes ends k t n top_flags s h.scope) (λ m x b. define_makes (is_lambda b) m x b)

  -- the body of a define

  pub lambda_define-body : (k : ℕ) (m : Node) (x : Ident) (b : Tree) (s : State) → Num k (define m x b) → Stage k (define m x b) top_flags s
      → Stage (k + 2) b top_flags (with_context x.id s)
  unfolding size Blocks
  lambda_define-body k m x b s n w =
      onward w (omega arith) (omega arith) (layered_next w.layered w.layered.scope (as_stacked refl)) (as_stacked refl)
      (record { at = λ y l u. refl }) (λ u. u) (λ v. v) (λ v. as_full refl refl refl refl) (omega arith) (λ z. omega arith)

  pub value_define-body : (k : ℕ) (m : Node) (x : Ident) (b : Tree) (s : State) → Num k (define m x b) → Stage k (define m x b) top_flags s
      → Stage (k + 2) b top_flags (enter_top_level_value classes x b s)
  unfolding size Blocks Num
  value_define-body k m x b s n w =
      let a = value_preserves apart_steps classes x b s in
      let c = value_keeps (k + 2) x b s (omega (arith, n.1)) (k + 2 + size b) in
      let o : Lasting 0 k s (enter_top_level_value classes x b s) =
      changes_lasting (value_changes {own = λ y. y ≡ x.at} classes x b s refl) (λ y l u e. omega (arith, e, n.1)) in
      onward w (omega arith) (omega arith) (value_layered x b s w.layered) a.stacked o
      (λ u. blocks_last blank (k + 2) b n.2 c u) (λ v. blocks_last made (k + 2) b n.2 c v) (λ v. a.stored) (omega (arith, (value_due classes x b s).by))
      (λ z. omega (arith, a.stored.captured))
