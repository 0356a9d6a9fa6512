-- The second run: where every lambda and every let has its fact, no list is stored, none gets longer, and 10 is not noted.
use Rattle.std.specs.Prelude.{ℕ, ◌+◌, ◌≤◌, List, Bool, ◌≡◌, refl, Option, None, Some}
use Rattle.std.proofs.Common.{subst, ◌∙◌, arith}
use Rattle.std.proofs.Math.ListN.{length}
use Rattle.tree.specs.Tree.{Ident, Node, Tree, Trees, ident, const, if, letin, define, lambda, sequence, call, set!, nil, cons, many, size, sizes, Num, Nums, begins, ands, whens}
use Rattle.tree.specs.Core.{cores}
use Rattle.scope_map.specs.ScopeMap.{ScopeMap}
use Rattle.semantic.specs.Information.{NONE}
use Rattle.semantic.specs.Rows.{Row, ListEntry}
use Rattle.semantic.specs.declared.FunctionInformation.{FunctionInformation}
use Rattle.semantic.specs.declared.IdentifierStatus.TheVariants.{LocallyDefinedFunction}
use Rattle.pass.specs.State.{Capture, State, with_context, row_at, depth}
use Rattle.pass.specs.Lambda.{function_in, open_lambda, function_ends, close_lambda, at_bottom, open_let, entered, make_let, close_let}
use Rattle.pass.specs.Visit.{Flags, not_tail, same_tail, pushed, let_body_flags, body_flags, argument_flags, is_lambda, head_flags, is_nil, child_flags, define_flags, open_define, enter_children, clear_context, visit, visit_arguments, visit_children, in_begin, in_and, is_alone, visit_tested}
use Rattle.pass.specs.Run.{list_entries_most}
use Rattle.pass_laws.specs.Stage.{Blocks, ListsWithin, FunctionWithin, LetWithin, Made, MadeAll}
use Rattle.pass_laws.specs.Laws.Rows.{key}
use Rattle.pass_laws.specs.Laws.Scopes.{Any, lambda_depth, let_stays}
use Rattle.pass_laws.specs.Laws.Visits.{stays, before_changes, children_changes, clear_changes}
use Rattle.pass_laws.specs.Laws.Ranges.{trees_any}
use Rattle.pass_laws.specs.Laws.Keeps.{keeps, visited, visited_arguments}
use Rattle.pass_laws.specs.Laws.Cases.{by_let}
use Rattle.pass_laws.specs.Laws.Stage.Still.{Stored, as_full, stored-then, ◌⨾◌, still_steps}
use Rattle.pass_laws.specs.Laws.Stage.Entering.{apart_steps}
use Rattle.pass_laws.specs.Laws.Stage.Filled.{amend-stored, ends_stored, open_lambda_stored}
use Rattle.pass_laws.specs.Laws.Stage.Blocks.{Kind, within, blocks_last, blocks_last-all}
use Rattle.pass_laws.specs.Laws.Stage.Children.{children_blocks}
use Rattle.pass_laws.specs.Laws.Stage.Reached.{to-next, to_second, to_third, to_let_body, to_define_body, to_lambda_body, to-head, to_set}
use Rattle.pass_laws.specs.Laws.Preserved.{leaving_preserves, close_layer_preserves, read_preserves, open_let_preserves, before_preserves, after_preserves, children_preserves, call_preserves, clear_preserves, mutate_preserves}

pub made : Kind (FunctionWithin list_entries_most list_entries_most) (LetWithin list_entries_most)
made = within list_entries_most list_entries_most

infixl 40 ◌⟫◌
◌⟫◌ : {s t u : State} → Stored s t → Stored t u → Stored s u
p ⟫ q = stored-then p q

-- A lambda's end

function_stored : (f : Option FunctionInformation) (n : Node) (b : Tree) (escapes : Bool) (now arguments : List ListEntry) (m : ScopeMap Capture) {s t : State}
    → function_in (row_at s n.at) ≡ f → ListsWithin list_entries_most list_entries_most f → Stored s t → Stored s (function_ends f n b escapes now arguments m t)
function_stored None n b escapes now arguments m e h p = absurd h
function_stored (Some v) n b escapes now arguments m e h p = amend-stored n b now m v e p

close_lambda_stored : (n : Node) (xs : List Ident) (b : Tree) (escapes : Bool) (s : State)
    → FunctionWithin list_entries_most list_entries_most (row_at s n.at) → Stored s (close_lambda n xs b escapes s)
unfolding close_lambda
close_lambda_stored n xs b escapes s h = function_stored (function_in (row_at s n.at)) n b escapes _ _ s.captures refl h (ends_stored xs _ s)

-- A let's end

make_let_stored : (r : Row) (n : Node) (l : List ListEntry) (height : ℕ) (function : Option Node) (s : State)
    → LetWithin list_entries_most r → Stored s (make_let r n l height function s)
make_let_stored r n l height function s h =
    by_let (Stored s) r n l height function s (λ e. absurd (subst (LetWithin list_entries_most) e h)) (as_full refl refl refl refl)

close_let_stored : (opened : Bool) (n : Node) (xs : List Ident) (height : ℕ) (function : Option Node) (s : State)
    → LetWithin list_entries_most (row_at s n.at) → Stored s (close_let opened n xs height function s)
unfolding close_let
close_let_stored opened n xs height function s h =
    (leaving_preserves apart_steps xs s).stored ⟫ make_let_stored (row_at s n.at) n (entered xs s) height function _ h ⟫ (close_layer_preserves apart_steps opened _).stored

-- The visits

module _ (classes : List ℕ) where
  -- the fact is still there when the body has been visited
  pub lambda_row : (i : ℕ) (m : Node) (xs : List Ident) (b : Tree) → Num i (lambda m xs b) → (f : Flags) (s : State) → 1 ≤ depth s
      → key (row_at (visit classes b f (open_lambda m xs s)) m.at) ≡ key (row_at s m.at)
  unfolding Num
  lambda_row i m xs b n f s h =
      let e = n.0 in
      keeps classes (i + 1 + length xs) b n.2 f (open_lambda m xs s) (omega (arith, lambda_depth m xs s h)) m.at (λ l u. omega arith)
      ∙ (to_lambda_body classes i m xs b n s).before.at m.at (omega arith) (omega arith)

  pub let_row : (i : ℕ) (m : Node) (xs : List Ident) (es : Trees) (b : Tree) → Num i (letin m xs es b) → (f g : Flags) (s : State) → 1 ≤ depth s
      → let u = with_context s.context (visit_arguments classes es (not_tail f) (with_context NONE s)) in
      key (row_at (visit classes b g (open_let m xs f.height f.function u)) m.at) ≡ key (row_at s m.at)
  unfolding Num
  let_row i m xs es b n f g s h =
      let e = n.0 in
      let u = with_context s.context (visit_arguments classes es (not_tail f) (with_context NONE s)) in
      let d : 1 ≤ depth u = stays (visited_arguments classes es (not_tail f) (with_context NONE s) h) h in
      keeps classes (i + 1 + length xs + sizes es) b n.4 g (open_let m xs f.height f.function u) (let_stays m xs f.height f.function u d)
      m.at (λ l u. omega arith)
      ∙ (to_let_body classes i m xs es b n f s h).before.at m.at (omega arith) (omega arith)

  mutual
    unfolding visit Num Blocks

    pub visit_stored : (i : ℕ) (t : Tree) → Num i t → (f : Flags) (s : State) → 1 ≤ depth s → Made s t → Stored s (visit classes t f s)
    visit_stored i (ident x) n f s h b = (read_preserves still_steps classes x s).apart.stored
    visit_stored i (const m q) n f s h b = as_full refl refl refl refl
    visit_stored i (if m t u v) n f s h b =
        let p = visited classes t (not_tail f) s h in
        let q = visited classes u (same_tail f) _ (stays p h) in
        visit_stored (i + 1) t n.1 (not_tail f) s h b.0
        ⟫ visit_stored (i + 1 + size t) u n.2 (same_tail f) (visit classes t (not_tail f) s) (stays p h)
        (blocks_last made (i + 1 + size t) u n.2 (to_second classes i m t u v n f s h).part b.1)
        ⟫ visit_stored (i + 1 + size t + size u) v n.3 (same_tail f) (visit classes u (same_tail f) (visit classes t (not_tail f) s)) (stays q (stays p h))
        (blocks_last made (i + 1 + size t + size u) v n.3 (to_third classes i m t u v n f s h).part b.2)
    visit_stored i (letin m xs es t) n f s h b =
        let u = with_context s.context (visit_arguments classes es (not_tail f) (with_context NONE s)) in
        let g : 1 ≤ depth u = stays (visited_arguments classes es (not_tail f) (with_context NONE s) h) h in
        let w = open_let m xs f.height f.function u in
        let k = let_body_flags (many es) f in
        (apart_steps.context NONE s).stored ⟫ arguments_all-stored (i + 1 + length xs) es n.3 (not_tail f) (with_context NONE s) h b.1
        ⟫ (apart_steps.context s.context _).stored ⟫ (open_let_preserves apart_steps m xs f.height f.function u).stored
        ⟫ visit_stored (i + 1 + length xs + sizes es) t n.4 k w (let_stays m xs f.height f.function u g)
        (blocks_last made (i + 1 + length xs + sizes es) t n.4 (to_let_body classes i m xs es t n f s h).part b.2)
        ⟫ close_let_stored (at_bottom s) m xs f.height f.function (visit classes t k w)
        (made.letin (row_at (visit classes t k w) m.at) (row_at s m.at) (let_row i m xs es t n f k s h) b.0)
    visit_stored i (define m x t) n f s h b =
        let u = open_define classes f.direct (is_lambda t) x t s in
        let g = stays (before_changes {own = Any} classes f.direct (is_lambda t) x t s tt) h in
        (before_preserves apart_steps classes f.direct (is_lambda t) x t s).stored
        ⟫ visit_stored (i + 2) t n.2 (define_flags f) u g (blocks_last made (i + 2) t n.2 (to_define_body classes i m x t n f s).part b)
        ⟫ (after_preserves apart_steps classes f.direct (is_lambda t) s.context x t _).stored
    visit_stored i (lambda m xs t) n f s h b =
        let u = open_lambda m xs s in
        let k = body_flags m (length xs) f in
        open_lambda_stored m xs s
        ⟫ visit_stored (i + 1 + length xs) t n.2 k u (omega (arith, lambda_depth m xs s h))
        (blocks_last made (i + 1 + length xs) t n.2 (to_lambda_body classes i m xs t n s).part b.1)
        ⟫ close_lambda_stored m xs t f.escape (visit classes t k u)
        (made.function (row_at (visit classes t k u) m.at) (row_at s m.at) (lambda_row i m xs t n k s h) b.0)
    visit_stored i (sequence (begins m) es) n f s h b =
        (children_preserves apart_steps classes _ (cores es) s).stored
        ⟫ children_stored (i + 1) es n.1 (in_begin f) (enter_children classes LocallyDefinedFunction (cores es) s)
        (stays (children_changes {own = Any} classes _ (cores es) s (trees_any (cores es))) h) (children_blocks classes made (i + 1) es n.1 s b)
    visit_stored i (sequence (ands m) es) n f s h b = children_stored (i + 1) es n.1 (in_and (is_alone es) f) s h b
    visit_stored i (sequence (whens q m) es) n f s h b = tested-stored (i + 1) es n.1 f s h b
    visit_stored i (call m e es) n f s h b =
        arguments_all-stored (i + 1 + size e) es n.2 (argument_flags f) s h b.1
        ⟫ visit_stored (i + 1) e n.1 (head_flags e (many es) f) (visit_arguments classes es (argument_flags f) s)
        (stays (visited_arguments classes es (argument_flags f) s h) h)
        (blocks_last made (i + 1) e n.1 (to-head classes i m e es n f s h).part b.0)
        ⟫ (call_preserves still_steps m e es f _).apart.stored
    visit_stored i (set! m x e) n f s h b =
        (clear_preserves still_steps x s).apart.stored
        ⟫ visit_stored (i + 2) e n.2 (not_tail f) (clear_context x s) (stays (clear_changes {own = Any} x s) h)
        (blocks_last made (i + 2) e n.2 (to_set i (i + 2) (size e) x s).part b)
        ⟫ (mutate_preserves still_steps x.name _ ⨾ read_preserves still_steps classes x _).apart.stored

    pub arguments_all-stored : (i : ℕ) (ts : Trees) → Nums i ts → (f : Flags) (s : State) → 1 ≤ depth s → MadeAll s ts
        → Stored s (visit_arguments classes ts f s)
    arguments_all-stored i nil n f s h b = as_full refl refl refl refl
    arguments_all-stored i (cons t ts) n f s h b =
        visit_stored i t n.0 f s h b.0
        ⟫ arguments_all-stored (i + size t) ts n.1 (pushed f) (visit classes t f s) (stays (visited classes t f s h) h)
        (blocks_last-all made (i + size t) ts n.1 (to-next classes i t ts n f s h).part b.1)

    pub tested-stored : (i : ℕ) (ts : Trees) → Nums i ts → (f : Flags) (s : State) → 1 ≤ depth s → MadeAll s ts → Stored s (visit_tested classes ts f s)
    tested-stored i nil n f s h b = as_full refl refl refl refl
    tested-stored i (cons t ts) n f s h b =
        let u = visit classes t (not_tail f) s in
        visit_stored i t n.0 (not_tail f) s h b.0
        ⟫ (children_preserves apart_steps classes _ (cores ts) u).stored
        ⟫ children_stored (i + size t) ts n.1 (in_begin f) (enter_children classes LocallyDefinedFunction (cores ts) u)
        (stays (children_changes {own = Any} classes _ (cores ts) u (trees_any (cores ts))) (stays (visited classes t (not_tail f) s h) h))
        (children_blocks classes made (i + size t) ts n.1 u (blocks_last-all made (i + size t) ts n.1 (to-next classes i t ts n (not_tail f) s h).part b.1))

    pub children_stored : (i : ℕ) (ts : Trees) → Nums i ts → (f : Flags) (s : State) → 1 ≤ depth s → MadeAll s ts → Stored s (visit_children classes ts f s)
    children_stored i nil n f s h b = as_full refl refl refl refl
    children_stored i (cons t ts) n f s h b =
        let g = child_flags (is_nil ts) f in
        visit_stored i t n.0 g s h b.0
        ⟫ children_stored (i + size t) ts n.1 f (visit classes t g s) (stays (visited classes t g s h) h)
        (blocks_last-all made (i + size t) ts n.1 (to-next classes i t ts n g s h).part b.1)
