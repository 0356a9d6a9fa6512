-- How far counts and layers can have grown from one place of a walk to a later one, by the records between them.
use Rattle.std.specs.Prelude.{ℕ, ◌+◌, ◌≤◌, List, Bool, refl, Option}
use Rattle.std.proofs.Common.{arith}
use Rattle.tree.specs.Tree.{Ident, Node, Tree, Trees, size, sizes}
use Rattle.tree.proofs.Laws.Site.{let_next}
use Rattle.semantic.specs.declared.IdentifierStatus.{IdentifierStatus}
use Rattle.pass.specs.State.{State, with_context, depth}
use Rattle.pass.specs.Read.{enter_top_level_value, mutate}
use Rattle.pass.specs.Lambda.{open_lambda, open_let}
use Rattle.pass.specs.Visit.{Flags, open_define, enter_children, clear_context, visit, visit_arguments, visit_top}
use Rattle.pass_laws.specs.Sound.{Counted}
use Rattle.pass_laws.specs.Stage.{Layered}
use Rattle.pass_laws.specs.Laws.Changes.{Changes, context, Lengths, untouched, lengths_trans, keeps_lengths, keeps_depth}
use Rattle.pass_laws.specs.Laws.Names.{value_changes, mutate_changes}
use Rattle.pass_laws.specs.Laws.Scopes.{Any, names-any, lambda_depth, let_depth}
use Rattle.pass_laws.specs.Laws.Visits.{before_changes, children_changes, clear_changes, top-visited}
use Rattle.pass_laws.specs.Laws.Ranges.{tree_any, trees_any}
use Rattle.pass_laws.specs.Laws.Moves.{moves_lengths, into_lambda, into_let}
use Rattle.pass_laws.specs.Laws.Keeps.{visited, visited_arguments}
use Rattle.pass_laws.specs.Laws.Sound.Counted.{asking_nothing, counting, counted_grow, counted_context, counted_value, counted-mutate, counted_open_lambda, counted_open_let, counted_clear}
use Rattle.pass_laws.specs.Laws.Sound.Calls.{each_before}
use Rattle.pass_laws.specs.Laws.Sound.Growth.{visit_grows, arguments_grow, top_grows}
use Rattle.pass_laws.specs.Laws.Sound.Runs.{visit_counted, arguments_counted, enter-counted, top-counted}
use Rattle.pass_laws.specs.Laws.Stage.Still.{Apart, still_steps}
use Rattle.pass_laws.specs.Laws.Stage.Entering.{apart_steps}
use Rattle.pass_laws.specs.Laws.Stage.Captures.{lambda_opened}
use Rattle.pass_laws.specs.Laws.Preserved.{clear_preserves, mutate_preserves, before_preserves, value_preserves, children_preserves, open_let_preserves}

-- from s to t, j records later
pub record Further (j : ℕ) (s t : State) : Type 0 where
  pub lengths : Lengths s t
  pub counted : (k : ℕ) → Counted k s → Counted (k + j) t
  pub layers : depth t ≤ depth s + j
  pub capture_layers : t.captures.depth ≤ s.captures.depth + j

pub further_then : {j k : ℕ} {s t u : State} → Further j s t → Further k t u → Further (j + k) s u
further_then {j} {k} p q = record {
  lengths = lengths_trans p.lengths q.lengths;
  counted = λ n c. counted_grow (omega arith) (q.counted (n + j) (p.counted n c));
  layers = omega (arith, p.layers, q.layers);
  capture_layers = omega (arith, p.capture_layers, q.capture_layers);
}

pub further_wide : {j k : ℕ} {s t : State} → j ≤ k → Further j s t → Further k s t
further_wide e p = record {
  lengths = p.lengths;
  counted = λ n c. counted_grow (omega arith) (p.counted n c);
  layers = omega (arith, p.layers);
  capture_layers = omega (arith, p.capture_layers);
}

pub further_same : {s : State} → Further 0 s s
further_same = record {
  lengths = untouched refl refl;
  counted = λ n c. counted_grow (omega arith) c;
  layers = omega arith;
  capture_layers = omega arith;
}

-- no layer opens
apart : {j : ℕ} {s t : State} → Changes Any s t → Apart s t → 1 ≤ depth s → ((k : ℕ) → Counted k s → Counted (k + j) t) → Further j s t
apart c a h n = record {
  lengths = keeps_lengths c;
  counted = n;
  layers = omega (arith, keeps_depth c h);
  capture_layers = omega (arith, a.stacked.depth);
}

module _ {s : State} (h : 1 ≤ depth s) where
  pub further_context : (c : ℕ) → Further 0 s (with_context c s)
  further_context c = apart (context c) (apart_steps.context c s) h (λ k n. counted_grow (omega arith) (counted_context c n))

  pub further_clear : (x : Ident) → Further 0 s (clear_context x s)
  further_clear x = apart (clear_changes x s) (clear_preserves still_steps x s).apart h (λ k n. counted_grow (omega arith) (counted_clear x n))

  pub further_mutate : (x : ℕ) → Further 1 s (mutate x s)
  further_mutate x = apart (mutate_changes x s) (mutate_preserves still_steps x s).apart h (λ k n. counted_grow (omega arith) (counted-mutate x n))

  module _ (classes : List ℕ) where
    pub further_before : (direct lambda : Bool) (x : Ident) (b : Tree) → Further 0 s (open_define classes direct lambda x b s)
    further_before direct lambda x b =
        apart (before_changes classes direct lambda x b s tt) (before_preserves apart_steps classes direct lambda x b s) h
        (λ k n. counted_grow (omega arith) (each_before asking_nothing (counting.none k) classes direct lambda x b tt n))

    pub further_value : (x : Ident) (b : Tree) → Further 0 s (enter_top_level_value classes x b s)
    further_value x b =
        apart (value_changes classes x b s tt) (value_preserves apart_steps classes x b s) h (λ k n. counted_grow (omega arith) (counted_value classes x b n))

    pub further_children : (kind : IdentifierStatus) (ts : Trees) → Further 0 s (enter_children classes kind ts s)
    further_children kind ts =
        apart (children_changes classes kind ts s (trees_any ts)) (children_preserves apart_steps classes kind ts s) h (λ k n. counted_grow (omega arith) (enter-counted classes kind ts s n))

-- into a body

module _ {s : State} (h : 1 ≤ depth s) where
  pub further_let : (n : Node) (xs : List Ident) (height : ℕ) (function : Option Node) → Further 1 s (open_let n xs height function s)
  further_let n xs height function =
      let a = open_let_preserves apart_steps n xs height function s in
      record {
        lengths = moves_lengths (into_let {own = Any} n xs height function s (names-any xs));
        counted = λ k c. counted_grow (omega arith) (counted_open_let n xs height function c);
        layers = omega (arith, let_depth n xs height function s h, let_next (depth s) h);
        capture_layers = omega (arith, a.stacked.depth);
      }

  pub further_lambda : (n : Node) (xs : List Ident) → Further 1 s (open_lambda n xs s)
  further_lambda n xs = record {
    lengths = moves_lengths (into_lambda {own = Any} n xs s (names-any xs));
    counted = λ k c. counted_grow (omega arith) (counted_open_lambda n xs c);
    layers = omega (arith, lambda_depth n xs s h);
    capture_layers = omega (arith, (lambda_opened n xs s).depth);
  }

-- past a visit

module _ (classes : List ℕ) {s : State} (h : Layered s) where
  pub further_visit : (t : Tree) (f : Flags) → Further (size t) s (visit classes t f s)
  further_visit t f =
      let g = visit_grows classes t f s h.scope in
      record {
        lengths = keeps_lengths (visited classes t f s h.scope);
        counted = λ k c. visit_counted classes t f s c;
        layers = omega (arith, g.layers h.scope);
        capture_layers = omega (arith, g.capture_layers h.captures);
      }

  pub further_arguments : (ts : Trees) (f : Flags) → Further (sizes ts) s (visit_arguments classes ts f s)
  further_arguments ts f =
      let g = arguments_grow classes ts f s h.scope in
      record {
        lengths = keeps_lengths (visited_arguments classes ts f s h.scope);
        counted = λ k c. arguments_counted classes ts f s c;
        layers = omega (arith, g.layers h.scope);
        capture_layers = omega (arith, g.capture_layers h.captures);
      }

  pub further_top : (t : Tree) → Further (size t) s (visit_top classes t s)
  further_top t =
      let g = top_grows classes t s h.scope in
      record {
        lengths = keeps_lengths (top-visited {own = Any} classes t s (tree_any t) h.scope);
        counted = λ k c. top-counted classes t s c;
        layers = omega (arith, g.layers h.scope);
        capture_layers = omega (arith, g.capture_layers h.captures);
      }
