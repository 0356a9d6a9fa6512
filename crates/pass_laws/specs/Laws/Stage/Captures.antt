-- A visit leaves the layers of the captures as they were: a lambda opens one and closes it.
use Rattle.std.specs.Prelude.{ℕ, zero, suc, ◌+◌, ◌-◌, ◌≤◌, List, [], ◌∷◌, ◌++◌, Bool, true, false, cond, ◌≡◌, refl, length, replicate, eqb, ltb, Option, None, Some}
use Rattle.std.proofs.Common.{ap, sym, subst, ◌∙◌, arith, lt-ltb, eq-eqb, ne_eqb}
use Rattle.tree.specs.Tree.{Ident, Node, Tree, Trees, ident, const, if, letin, define, lambda, sequence, call, set!, nil, cons, many, begins, ands, whens}
use Rattle.tree.specs.Accepted.{All}
use Rattle.tree.specs.Core.{cores}
use Rattle.scope_map.specs.ScopeMap.{ScopeMap, Live, below_layer, pop_layer, newest_layer}
use Rattle.semantic.specs.Information.{NONE}
use Rattle.semantic.specs.Rows.{Row, ListEntry}
use Rattle.semantic.specs.declared.FunctionInformation.{FunctionInformation}
use Rattle.semantic.specs.declared.IdentifierStatus.TheVariants.{LocallyDefinedFunction}
use Rattle.pass.specs.State.{Capture, State, with_context, row_at, insert, depth}
use Rattle.pass.specs.Lists.{captured_most, store_captured, store_arguments, rewrite_captured}
use Rattle.pass.specs.Lambda.{function_in, open_captures, open_lambda, close_captures, make_function, amend_function, function_ends, close_lambda, at_bottom, open_let, entered, make_let, close_let}
use Rattle.pass.specs.Visit.{Flags, not_tail, same_tail, pushed, let_body_flags, body_flags, argument_flags, is_lambda, head_flags, is_nil, child_flags, define_flags, visit, visit_arguments, visit_children, in_begin, in_and, is_alone, visit_tested}
use Rattle.pass_laws.specs.Stage.{layers_of, Layered}
use Rattle.pass_laws.specs.Laws.Changes.{Changes}
use Rattle.pass_laws.specs.Laws.Scopes.{Any, lambda_depth, let_stays}
use Rattle.pass_laws.specs.Laws.Visits.{stays, before_changes, children_changes, clear_changes}
use Rattle.pass_laws.specs.Laws.Ranges.{trees_any}
use Rattle.pass_laws.specs.Laws.Keeps.{visited, visited_arguments}
use Rattle.pass_laws.specs.Laws.Cases.{by_let}
use Rattle.pass_laws.specs.Laws.Stage.Still.{Stacked, as_stacked, stacked_then, ◌⨾◌, still_steps}
use Rattle.pass_laws.specs.Laws.Stage.Entering.{apart_steps, open_scope_apart, close_scope_apart}
use Rattle.pass_laws.specs.Laws.Stage.Numbering.{Opened, open_opened}
use Rattle.pass_laws.specs.Laws.Preserved.{leaving_preserves, close_layer_preserves, parameters_preserves, lasts_preserves, ended_preserves, open_let_preserves, read_preserves, before_preserves, after_preserves, children_preserves, call_preserves, clear_preserves, mutate_preserves}

-- the layers that are left of a list when the layer d goes
abbrev drop_layer : ℕ → List ℕ → List ℕ
drop_layer d [] = []
drop_layer d (k ∷ l) = cond (eqb k d) (drop_layer d l) (k ∷ l)

below_layers : (d : ℕ) (l : List (Live Capture)) → layers_of (below_layer d l) ≡ drop_layer d (layers_of l)
unfolding below_layer
below_layers d [] = refl
below_layers d (e ∷ l) = pick (eqb e.layer d) (below_layers d l)
  where
    pick : (b : Bool) → layers_of (below_layer d l) ≡ drop_layer d (layers_of l)
        → layers_of (cond b (below_layer d l) (e ∷ l)) ≡ cond b (drop_layer d (layers_of l)) (e.layer ∷ layers_of l)
    pick true h = h
    pick false h = refl

drop-new : (d k : ℕ) (l : List ℕ) → drop_layer d (replicate k d ++ l) ≡ drop_layer d l
drop-new d zero l = refl
drop-new d (suc k) l = rw (eq-eqb d d refl) (drop-new d k l)

drop-old : (d : ℕ) (l : List ℕ) → All (λ k. k ≤ d) l → drop_layer (suc d) l ≡ l
drop-old d [] a = refl
drop-old d (k ∷ l) a = rw (ne_eqb k (suc d) (λ e. omega (arith, a.0)))

pop_depth : (m : ScopeMap Capture) → 2 ≤ m.depth → (pop_layer m).depth ≡ m.depth - 1
pop_depth m h = rw (lt-ltb 1 m.depth h)

pop_live : (m : ScopeMap Capture) → 2 ≤ m.depth → (pop_layer m).live ≡ below_layer m.depth m.live
pop_live m h = rw (lt-ltb 1 m.depth h)

-- a layer that was opened closes
closed : {s t u : State} → Layered s → Opened (suc s.captures.depth) s t → Stacked t u → Stacked s (close_captures u)
unfolding close_captures
closed {s} {t} {u} h p q =
    let d = s.captures.depth in
    let e : u.captures.depth ≡ suc d = q.depth ∙ p.depth in
    let g = h.captures in
    record {
      depth = pop_depth u.captures (omega arith) ∙ omega arith;
      layers =
          ap layers_of (pop_live u.captures (omega arith))
          ∙ below_layers u.captures.depth u.captures.live
          ∙ ap (λ (k : ℕ). drop_layer k (layers_of u.captures.live)) e
          ∙ ap (drop_layer (suc d)) (q.layers ∙ p.layers)
          ∙ drop-new (suc d) p.more (layers_of s.captures.live)
          ∙ drop-old d (layers_of s.captures.live) h.within;
    }

-- Lists that are stored or amended are none of the captures

infixl 40 ◌⟫◌
◌⟫◌ : {s t u : State} → Stacked s t → Stacked t u → Stacked s u
p ⟫ q = stacked_then p q

row_stacked : (i : ℕ) (r : Row) (s : State) → Stacked s (insert i r s)
unfolding insert
row_stacked i r s = as_stacked refl

captured_stacked : (i : ℕ) (l : List ListEntry) (s : State) → Stacked s (store_captured i l s)
unfolding store_captured
captured_stacked i l s = pick (ltb captured_most (s.facts.captured_top + length l)) (as_stacked refl) (as_stacked refl)
  where
    pick : (b : Bool) {t u : State} → Stacked s t → Stacked s u → Stacked s (cond b t u)
    pick true p q = p
    pick false p q = q

arguments_stacked : (l : List ListEntry) (s : State) → Stacked s (store_arguments l s)
unfolding store_arguments
arguments_stacked l s = as_stacked refl

function_stacked : (f : Option FunctionInformation) (n : Node) (b : Tree) (escapes : Bool) (now arguments : List ListEntry) (m : ScopeMap Capture) (s : State)
    → Stacked s (function_ends f n b escapes now arguments m s)
unfolding make_function amend_function rewrite_captured
function_stacked None n b escapes now arguments m s = captured_stacked n.at _ s ⟫ arguments_stacked arguments _ ⟫ row_stacked n.at _ _
function_stacked (Some v) n b escapes now arguments m s = as_stacked refl ⟫ row_stacked n.at _ _

make_let_stacked : (r : Row) (n : Node) (l : List ListEntry) (height : ℕ) (function : Option Node) (s : State) → Stacked s (make_let r n l height function s)
make_let_stacked r n l height function s =
    by_let (Stacked s) r n l height function s (λ e. arguments_stacked l s ⟫ row_stacked n.at _ _) (as_stacked refl)

close_let_stacked : (opened : Bool) (n : Node) (xs : List Ident) (height : ℕ) (function : Option Node) (s : State)
    → Stacked s (close_let opened n xs height function s)
unfolding close_let
close_let_stacked opened n xs height function s =
    (leaving_preserves apart_steps xs s).stacked ⟫ make_let_stacked (row_at s n.at) n (entered xs s) height function _ ⟫ (close_layer_preserves apart_steps opened _).stacked

-- into a lambda: a layer more
pub lambda_opened : (n : Node) (xs : List Ident) (s : State) → Opened (suc s.captures.depth) s (open_lambda n xs s)
unfolding open_lambda
lambda_opened n xs s =
    let f = function_in (row_at s n.at) in
    let p = open_opened f s in
    let q = (open_scope_apart (open_captures f s)).stacked ⟫ (parameters_preserves apart_steps f xs _).stacked in
    record { depth = q.depth ∙ p.depth; more = p.more; layers = q.layers ∙ p.layers }

pub close_lambda_stacked : (n : Node) (xs : List Ident) (b : Tree) (escapes : Bool) {s t u : State}
    → Layered s → Opened (suc s.captures.depth) s t → Stacked t u → Stacked s (close_lambda n xs b escapes u)
unfolding close_lambda
close_lambda_stacked n xs b escapes {u = u} h p q =
    let layer = newest_layer u.scope.names in
    closed h p (q ⟫ (close_scope_apart u).stacked) ⟫ (lasts_preserves still_steps layer _ ⨾ ended_preserves still_steps xs _).apart.stacked
    ⟫ function_stacked (function_in (row_at u n.at)) n b escapes _ _ u.captures _

-- What comes after a visit has its layers too

pub layered_next : {s t : State} → Layered s → 1 ≤ depth t → Stacked s t → Layered t
layered_next {s} {t} h g p =
    record {
      scope = g;
      captures = omega (arith, h.captures, p.depth);
      within =
          subst (λ (k : ℕ). All (λ j. j ≤ k) (layers_of t.captures.live)) (sym p.depth)
          (subst (λ (l : List ℕ). All (λ j. j ≤ s.captures.depth) l) (sym p.layers) h.within);
    }

pub next : {own : ℕ → Type 0} {s t : State} → Layered s → Changes own s t → Stacked s t → Layered t
next h c p = layered_next h (stays c h.scope) p

all_more : (d k : ℕ) (l : List ℕ) → All (λ j. j ≤ d) l → All (λ j. j ≤ suc d) (replicate k (suc d) ++ l)
all_more d zero [] a = tt
all_more d zero (j ∷ l) a = (omega (arith, a.0), all_more d zero l a.1)
all_more d (suc k) l a = (omega arith, all_more d k l a)

-- in a lambda's body
pub layered_in_lambda : (n : Node) (xs : List Ident) (s : State) → Layered s → Layered (open_lambda n xs s)
layered_in_lambda n xs s h =
    let p = lambda_opened n xs s in
    let d = s.captures.depth in
    let t = open_lambda n xs s in
    record {
      scope = omega (arith, lambda_depth n xs s h.scope);
      captures = omega (arith, p.depth);
      within =
          subst (λ (k : ℕ). All (λ j. j ≤ k) (layers_of t.captures.live)) (sym p.depth)
          (subst (λ (l : List ℕ). All (λ j. j ≤ suc d) l) (sym p.layers) (all_more d p.more (layers_of s.captures.live) h.within));
    }

-- in a let's body
pub layered_in_let : (n : Node) (xs : List Ident) (height : ℕ) (function : Option Node) (s : State) → Layered s → Layered (open_let n xs height function s)
layered_in_let n xs height function s h =
    layered_next h (let_stays n xs height function s h.scope) (open_let_preserves apart_steps n xs height function s).stacked

-- The visits

module _ (classes : List ℕ) where
  mutual
    unfolding visit

    pub visit_stacked : (t : Tree) (f : Flags) (s : State) → Layered s → Stacked s (visit classes t f s)
    visit_stacked (ident x) f s h = (read_preserves still_steps classes x s).apart.stacked
    visit_stacked (const n q) f s h = as_stacked refl
    visit_stacked (if n a b c) f s h =
        let p = visit_stacked a (not_tail f) s h in
        let g = next h (visited classes a (not_tail f) s h.scope) p in
        let q = visit_stacked b (same_tail f) _ g in
        p ⟫ q ⟫ visit_stacked c (same_tail f) _ (next g (visited classes b (same_tail f) _ g.scope) q)
    visit_stacked (letin n xs es b) f s h =
        let u = with_context s.context (visit_arguments classes es (not_tail f) (with_context NONE s)) in
        let h0 = layered_next {t = with_context NONE s} h h.scope (as_stacked refl) in
        let p = arguments_stacked_visited es (not_tail f) (with_context NONE s) h0 in
        let g = next h0 (visited_arguments classes es (not_tail f) _ h.scope) p in
        let h1 : Layered u = layered_next g g.scope (as_stacked refl) in
        let q = (open_let_preserves apart_steps n xs f.height f.function u).stacked in
        as_stacked refl ⟫ p ⟫ as_stacked refl ⟫ q
        ⟫ visit_stacked b (let_body_flags (many es) f) _ (layered_in_let n xs f.height f.function u h1)
        ⟫ close_let_stacked (at_bottom s) n xs f.height f.function _
    visit_stacked (define n x b) f s h =
        let p = (before_preserves apart_steps classes f.direct (is_lambda b) x b s).stacked in
        let g = next h (before_changes {own = Any} classes f.direct (is_lambda b) x b s tt) p in
        p ⟫ visit_stacked b (define_flags f) _ g ⟫ (after_preserves apart_steps classes f.direct (is_lambda b) s.context x b _).stacked
    visit_stacked (lambda n xs b) f s h =
        close_lambda_stacked n xs b f.escape h (lambda_opened n xs s) (visit_stacked b (body_flags n (length xs) f) _ (layered_in_lambda n xs s h))
    visit_stacked (sequence (begins n) es) f s h =
        let p = (children_preserves apart_steps classes LocallyDefinedFunction (cores es) s).stacked in
        p ⟫ children_stacked es (in_begin f) _ (next h (children_changes {own = Any} classes _ (cores es) s (trees_any (cores es))) p)
    visit_stacked (sequence (ands n) es) f s h = children_stacked es (in_and (is_alone es) f) s h
    visit_stacked (sequence (whens b n) es) f s h = tested_stacked es f s h
    visit_stacked (call n e es) f s h =
        let p = arguments_stacked_visited es (argument_flags f) s h in
        let g = next h (visited_arguments classes es (argument_flags f) s h.scope) p in
        p ⟫ visit_stacked e (head_flags e (many es) f) _ g ⟫ (call_preserves still_steps n e es f _).apart.stacked
    visit_stacked (set! n x e) f s h =
        let p = (clear_preserves still_steps x s).apart.stacked in
        p ⟫ visit_stacked e (not_tail f) _ (next h (clear_changes {own = Any} x s) p) ⟫ (mutate_preserves still_steps x.name _ ⨾ read_preserves still_steps classes x _).apart.stacked

    pub arguments_stacked_visited : (ts : Trees) (f : Flags) (s : State) → Layered s → Stacked s (visit_arguments classes ts f s)
    arguments_stacked_visited nil f s h = as_stacked refl
    arguments_stacked_visited (cons t ts) f s h =
        let p = visit_stacked t f s h in p ⟫ arguments_stacked_visited ts (pushed f) _ (next h (visited classes t f s h.scope) p)

    pub children_stacked : (ts : Trees) (f : Flags) (s : State) → Layered s → Stacked s (visit_children classes ts f s)
    children_stacked nil f s h = as_stacked refl
    children_stacked (cons t ts) f s h =
        let g = child_flags (is_nil ts) f in
        let p = visit_stacked t g s h in p ⟫ children_stacked ts f _ (next h (visited classes t g s h.scope) p)

    pub tested_stacked : (ts : Trees) (f : Flags) (s : State) → Layered s → Stacked s (visit_tested classes ts f s)
    tested_stacked nil f s h = as_stacked refl
    tested_stacked (cons t ts) f s h =
        let p = visit_stacked t (not_tail f) s h in
        let g = next h (visited classes t (not_tail f) s h.scope) p in
        let q = (children_preserves apart_steps classes LocallyDefinedFunction (cores ts) _).stacked in
        p ⟫ q ⟫ children_stacked ts (in_begin f) _ (next g (children_changes {own = Any} classes _ (cores ts) _ (trees_any (cores ts))) q)
