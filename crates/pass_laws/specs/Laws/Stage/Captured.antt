-- How far the captured entries may be counted: each lambda adds at most as many as there are names live.
use Rattle.std.specs.Prelude.{ℕ, suc, ◌+◌, ◌*◌, ◌≤◌, List, [], ◌∷◌, map, Bool, true, false, cond, not, ◌&&◌, ◌≡◌, refl, length, ltb, Option, None, Some}
use Rattle.std.proofs.Common.{◌∙◌, arith}
use Rattle.tree.specs.Check.{member}
use Rattle.tree.specs.Tree.{Ident, Node, Tree, Trees, ident, const, if, letin, define, lambda, sequence, call, set!, nil, cons, many, size, sizes, Num, Nums, begins, ands, whens}
use Rattle.tree.specs.Core.{cores}
use Rattle.scope_map.specs.ScopeMap.{ScopeMap, Live, newest_layer}
use Rattle.semantic.specs.Information.{NONE}
use Rattle.semantic.specs.Rows.{Row, ListEntry}
use Rattle.semantic.specs.declared.FunctionInformation.{FunctionInformation}
use Rattle.semantic.specs.declared.IdentifierStatus.TheVariants.{LocallyDefinedFunction}
use Rattle.pass.specs.State.{Capture, State, with_context, insert, row_at, entry_at, list_entry_of, newest, depth}
use Rattle.pass.specs.Read.{mutate}
use Rattle.pass.specs.Lists.{add_captured, captured_in, captured_vars, sort_by_id, store_arguments, rewrite_captured}
use Rattle.pass.specs.Lambda.{function_in, open_lambda, make_function, amend_function, function_ends, name_in, list_entries_of, mark_lasts, close_scope, close_captures, end_parameters, close_lambda, at_bottom, open_let, entered, make_let, close_let}
use Rattle.pass.specs.Visit.{Flags, not_tail, same_tail, pushed, let_body_flags, body_flags, argument_flags, is_lambda, head_flags, is_nil, child_flags, define_flags, clear_context, open_define, enter_children, visit, visit_arguments, visit_children, in_begin, in_and, is_alone, visit_tested}
use Rattle.pass.specs.Run.{list_entries_most}
use Rattle.pass_laws.specs.Stage.{due, enterings}
use Rattle.pass_laws.specs.Laws.Order.{sorted_length}
use Rattle.pass_laws.specs.Laws.Scopes.{Any, lambda_depth, let_stays}
use Rattle.pass_laws.specs.Laws.Visits.{stays, before_changes, children_changes, clear_changes}
use Rattle.pass_laws.specs.Laws.Ranges.{trees_any}
use Rattle.pass_laws.specs.Laws.Keeps.{visited, visited_arguments}
use Rattle.pass_laws.specs.Laws.Cases.{by_let}
use Rattle.pass_laws.specs.Laws.Stage.Still.{◌⨾◌, still_steps}
use Rattle.pass_laws.specs.Laws.Stage.Entering.{apart_steps}
use Rattle.pass_laws.specs.Laws.Stage.Arguments.{open_lambda_due, open_let_due, children_due, before-due, still_due, visit_due, arguments_due, entered-one, entered_few}
use Rattle.pass_laws.specs.Laws.Stage.Filled.{put, ends_stored, open_lambda_stored}
use Rattle.pass_laws.specs.Laws.Preserved.{close_layer_preserves, leaving_preserves, read_preserves, open_let_preserves, before_preserves, after_preserves, children_preserves, call_preserves, clear_preserves, mutate_preserves}

-- The list of a lambda that ends

add_long : (b : Bool) (s : State) (o : Option Ident) (l : List ListEntry) → length (add_captured b s o l) ≤ suc (length l)
add_long false s o l = omega arith
add_long true s None l = omega arith
add_long true s (Some x) l = pick (entry_at s x.at).captured
  where
    pick : (c : Bool) → length (cond c (list_entry_of x (entry_at s x.at) ∷ l) l) ≤ suc (length l)
    pick true = omega arith
    pick false = omega arith

vars_in_long : (ps : List ℕ) (s : State) (l : List (Live Ident)) → length (captured_in ps s l) ≤ length l
unfolding captured_in
vars_in_long ps s [] = omega arith
vars_in_long ps s (e ∷ l) =
    omega (arith, add_long (ltb 1 e.layer && not (member e.name ps)) s (newest s e.name) (captured_in ps s l), vars_in_long ps s l)

pub vars_long : (ps : List ℕ) (s : State) → length (captured_vars ps s) ≤ length s.scope.names.live
unfolding captured_vars
vars_long ps s = vars_in_long ps s s.scope.names.live

-- its end

function_top : (f : Option FunctionInformation) (n : Node) (b : Tree) (escapes : Bool) (now arguments : List ListEntry) (m : ScopeMap Capture) (s : State)
    → (function_ends f n b escapes now arguments m s).facts.captured_top ≤ s.facts.captured_top + length now
unfolding make_function amend_function rewrite_captured store_arguments insert
function_top None n b escapes now arguments m s = omega (arith, (put n.at (sort_by_id now) s).captured, sorted_length now)
function_top (Some v) n b escapes now arguments m s = omega arith

close_lambda_top : (n : Node) (xs : List Ident) (b : Tree) (escapes : Bool) (s : State)
    → (close_lambda n xs b escapes s).facts.captured_top ≤ s.facts.captured_top + length s.scope.names.live
unfolding close_lambda
close_lambda_top n xs b escapes s =
    let layer = newest_layer s.scope.names in
    let now = captured_vars (map name_in xs) s in
    let t = end_parameters xs (mark_lasts layer (close_captures (close_scope s))) in
    omega (
      arith,
      (ends_stored xs layer s).captured,
      function_top (function_in (row_at s n.at)) n b escapes now (list_entries_of s layer) s.captures t,
      vars_long (map name_in xs) s,
    )

-- A let adds none

make_let_top : (r : Row) (n : Node) (l : List ListEntry) (height : ℕ) (function : Option Node) (s : State)
    → (make_let r n l height function s).facts.captured_top ≡ s.facts.captured_top
unfolding store_arguments insert
make_let_top r n l height function s = by_let (λ t. t.facts.captured_top ≡ s.facts.captured_top) r n l height function s (λ e. refl) refl

close_let_top : (opened : Bool) (n : Node) (xs : List Ident) (height : ℕ) (function : Option Node) (s : State)
    → (close_let opened n xs height function s).facts.captured_top ≡ s.facts.captured_top
unfolding close_let
close_let_top opened n xs height function s =
    (close_layer_preserves apart_steps opened _).stored.captured ∙ make_let_top (row_at s n.at) n (entered xs s) height function _ ∙ (leaving_preserves apart_steps xs s).stored.captured

-- The visits, while there is room for the argument entries of what is visited

module _ (classes : List ℕ) where
  mutual
    unfolding visit Num size

    pub visit_top_lem : (i : ℕ) (t : Tree) → Num i t → (f : Flags) (s : State) → 1 ≤ depth s → due s + size t ≤ suc list_entries_most
        → (visit classes t f s).facts.captured_top ≤ s.facts.captured_top + list_entries_most * size t
    visit_top_lem i (ident x) n f s h l = omega (arith, (read_preserves still_steps classes x s).apart.stored.captured)
    visit_top_lem i (const m q) n f s h l = omega arith
    visit_top_lem i (if m a b c) n f s h l =
        let u = visit classes a (not_tail f) s in
        let v = visit classes b (same_tail f) u in
        let g = stays (visited classes a (not_tail f) s h) h in
        let k = stays (visited classes b (same_tail f) u g) g in
        let p = visit_due classes (i + 1) a n.1 (not_tail f) s h in
        let q = visit_due classes (i + 1 + size a) b n.2 (same_tail f) u g in
        omega (
          arith,
          visit_top_lem (i + 1) a n.1 (not_tail f) s h (omega arith),
          visit_top_lem (i + 1 + size a) b n.2 (same_tail f) u g (omega arith),
          visit_top_lem (i + 1 + size a + size b) c n.3 (same_tail f) v k (omega arith),
        )
    visit_top_lem i (letin m xs es b) n f s h l =
        let t = with_context NONE s in
        let e = visit_arguments classes es (not_tail f) t in
        let u = with_context s.context e in
        let v = open_let m xs f.height f.function u in
        let g : 1 ≤ depth u = stays (visited_arguments classes es (not_tail f) t h) h in
        let k = let_body_flags (many es) f in
        let w = visit classes b k v in
        let p = arguments_due classes (i + 1 + length xs) es n.3 (not_tail f) t h in
        let q = (open_let_due m xs f.height f.function u).by in
        omega (
          arith,
          arguments_top_lem (i + 1 + length xs) es n.3 (not_tail f) t h (omega arith),
          (open_let_preserves apart_steps m xs f.height f.function u).stored.captured,
          visit_top_lem (i + 1 + length xs + sizes es) b n.4 k v (let_stays m xs f.height f.function u g) (omega (arith, n.1)),
          close_let_top (at_bottom s) m xs f.height f.function w,
        )
    visit_top_lem i (define m x b) n f s h l =
        let u = open_define classes f.direct (is_lambda b) x b s in
        let g = stays (before_changes {own = Any} classes f.direct (is_lambda b) x b s tt) h in
        let w = visit classes b (define_flags f) u in
        omega (
          arith,
          (before_preserves apart_steps classes f.direct (is_lambda b) x b s).stored.captured,
          visit_top_lem (i + 2) b n.2 (define_flags f) u g (omega (arith, (before-due classes f.direct (is_lambda b) x b s).by)),
          (after_preserves apart_steps classes f.direct (is_lambda b) s.context x b w).stored.captured,
        )
    visit_top_lem i (lambda m xs b) n f s h l =
        let u = open_lambda m xs s in
        let k = body_flags m (length xs) f in
        let g : 1 ≤ depth u = omega (arith, lambda_depth m xs s h) in
        let w = visit classes b k u in
        let p = (open_lambda_due m xs s).by in
        omega (
          arith,
          (open_lambda_stored m xs s).captured,
          visit_top_lem (i + 1 + length xs) b n.2 k u g (omega arith),
          visit_due classes (i + 1 + length xs) b n.2 k u g,
          close_lambda_top m xs b f.escape w,
        )
    visit_top_lem i (sequence (begins m) es) n f s h l =
        let u = enter_children classes LocallyDefinedFunction (cores es) s in
        omega (
          arith,
          (children_preserves apart_steps classes LocallyDefinedFunction (cores es) s).stored.captured,
          children_top (i + 1) es n.1 (in_begin f) u (stays (children_changes {own = Any} classes _ (cores es) s (trees_any (cores es))) h)
              (omega (arith, (children_due classes es s).by)),
        )
    visit_top_lem i (sequence (ands m) es) n f s h l = omega (arith, children_top (i + 1) es n.1 (in_and (is_alone es) f) s h (omega arith))
    visit_top_lem i (sequence (whens b m) es) n f s h l = omega (arith, tested-top (i + 1) es n.1 f s h (omega arith))
    visit_top_lem i (call m e es) n f s h l =
        let u = visit_arguments classes es (argument_flags f) s in
        let k = head_flags e (many es) f in
        let v = visit classes e k u in
        let p = arguments_due classes (i + 1 + size e) es n.2 (argument_flags f) s h in
        omega (
          arith,
          arguments_top_lem (i + 1 + size e) es n.2 (argument_flags f) s h (omega arith),
          visit_top_lem (i + 1) e n.1 k u (stays (visited_arguments classes es (argument_flags f) s h) h) (omega arith),
          (call_preserves still_steps m e es f v).apart.stored.captured,
        )
    visit_top_lem i (set! m x e) n f s h l =
        let u = clear_context x s in
        let v = visit classes e (not_tail f) u in
        omega (
          arith,
          (clear_preserves still_steps x s).apart.stored.captured,
          visit_top_lem (i + 2) e n.2 (not_tail f) u (stays (clear_changes {own = Any} x s) h) (omega (arith, (still_due (clear_preserves still_steps x s)).by)),
          (mutate_preserves still_steps x.name v ⨾ read_preserves still_steps classes x (mutate x.name v)).apart.stored.captured,
        )

    pub arguments_top_lem : (i : ℕ) (ts : Trees) → Nums i ts → (f : Flags) (s : State) → 1 ≤ depth s → due s + sizes ts ≤ suc list_entries_most
        → (visit_arguments classes ts f s).facts.captured_top ≤ s.facts.captured_top + list_entries_most * sizes ts
    arguments_top_lem i nil n f s h l = omega arith
    arguments_top_lem i (cons t ts) n f s h l =
        let u = visit classes t f s in
        let p = visit_due classes i t n.0 f s h in
        omega (
          arith,
          visit_top_lem i t n.0 f s h (omega arith),
          arguments_top_lem (i + size t) ts n.1 (pushed f) u (stays (visited classes t f s h) h) (omega arith),
        )

    tested-top : (i : ℕ) (ts : Trees) → Nums i ts → (f : Flags) (s : State) → 1 ≤ depth s → due s + sizes ts ≤ list_entries_most
        → (visit_tested classes ts f s).facts.captured_top ≤ s.facts.captured_top + list_entries_most * sizes ts
    tested-top i nil n f s h l = omega arith
    tested-top i (cons t ts) n f s h l =
        let v = visit classes t (not_tail f) s in
        let k = stays (visited classes t (not_tail f) s h) h in
        let u = enter_children classes LocallyDefinedFunction (cores ts) v in
        let g = stays (children_changes {own = Any} classes LocallyDefinedFunction (cores ts) v (trees_any (cores ts))) k in
        let p = visit_due classes i t n.0 (not_tail f) s h in
        omega (
          arith,
          visit_top_lem i t n.0 (not_tail f) s h (omega arith),
          (children_preserves apart_steps classes LocallyDefinedFunction (cores ts) v).stored.captured,
          children_top (i + size t) ts n.1 (in_begin f) u g (omega (arith, (children_due classes ts v).by)),
        )

    pub children_top : (i : ℕ) (ts : Trees) → Nums i ts → (f : Flags) (s : State) → 1 ≤ depth s → due s + sizes ts ≤ list_entries_most + enterings ts
        → (visit_children classes ts f s).facts.captured_top ≤ s.facts.captured_top + list_entries_most * sizes ts
    children_top i nil n f s h l = omega arith
    children_top i (cons t ts) n f s h l =
        let g = child_flags (is_nil ts) f in
        let u = visit classes t g s in
        let p = visit_due classes i t n.0 g s h in
        let q = entered-one t in
        let r = entered_few ts in
        omega (
          arith,
          visit_top_lem i t n.0 g s h (omega arith),
          children_top (i + size t) ts n.1 f u (stays (visited classes t g s h) h) (omega arith),
        )
