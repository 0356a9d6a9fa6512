-- Every tree leaves one of its records unused: the argument entries stored and the names live grow by less than its size.
use Rattle.std.specs.Prelude.{ℕ, suc, ◌+◌, ◌-◌, ◌≤◌, Bool, cond, ◌≡◌, refl, length, eqb, ltb, Option, None, Some}
use mathlib.Core.List.{List, [], ◌∷◌, ◌++◌}
use Rattle.std.proofs.Math.Bool.{true, false}
use Rattle.std.proofs.Common.{ap, arith, lt-ltb, length-append}
use Rattle.tree.specs.Tree.{Ident, Node, Tree, Trees, ident, const, if, letin, define, lambda, sequence, call, set!, nil, cons, many, bit, size, sizes, Num, Nums, begins, ands, whens}
use Rattle.tree.proofs.Laws.Tree.{size_pos}
use Rattle.tree.specs.Core.{core, and_of, cores}
use Rattle.scope_map.specs.ScopeMap.{ScopeMap, Live, layer_in, below_layer, pop_layer, newest_layer, remove}
use Rattle.scope_map.proofs.Laws.Size.{define-size, remove-size, pop_size}
use Rattle.semantic.specs.Information.{NONE}
use Rattle.semantic.specs.Rows.{Row, ListEntry}
use Rattle.semantic.specs.declared.FunctionInformation.{FunctionInformation}
use Rattle.semantic.specs.declared.IdentifierStatus.{IdentifierStatus}
use Rattle.semantic.specs.declared.IdentifierStatus.TheVariants.{Global, Local, LocallyDefinedFunction}
use Rattle.pass.specs.State.{Entry, Capture, State, with_context, with_names, insert, row_at, entry_at, depth, newest}
use Rattle.pass.specs.Read.{enter, enter_define, enter_top_level_value, mutate}
use Rattle.pass.specs.Lists.{captured_most, store_captured, store_arguments, rewrite_captured}
use Rattle.pass.specs.Lambda.{is_heap, note_heap, enter_name, enter_names, function_in, open_captures, open_scope, enter_parameters, open_lambda, list_entries_of, close_scope, close_captures, make_function, amend_function, function_ends, close_lambda, open_layer, close_layer, at_bottom, open_let, leave_names, entered, make_let, close_let}
use Rattle.pass.specs.Visit.{Flags, not_tail, same_tail, pushed, let_body_flags, body_flags, argument_flags, is_lambda, head_flags, is_nil, child_flags, define_flags, clear_context, open_define, close_define, enter_child, enter_children, visit, visit_arguments, visit_children, in_begin, in_and, is_alone, visit_tested}
use Rattle.pass_laws.specs.Stage.{due, entering, enterings, entering_form}
use Rattle.pass_laws.specs.Laws.Changes.{keeps_depth}
use Rattle.pass_laws.specs.Laws.Scopes.{Any, lambda_depth, let_stays}
use Rattle.pass_laws.specs.Laws.Visits.{stays, before_changes, children_changes, clear_changes}
use Rattle.pass_laws.specs.Laws.Ranges.{trees_any}
use Rattle.pass_laws.specs.Laws.Keeps.{visited, visited_arguments}
use Rattle.pass_laws.specs.Laws.Cases.{by_let, by_child}
use Rattle.pass_laws.specs.Laws.Stage.Still.{Still, still, ◌⨾◌, still_steps, enter-names, open_listed}
use Rattle.pass_laws.specs.Laws.Preserved.{shadow_preserves, lasts_preserves, ended_preserves, last_preserves, read_preserves, call_preserves, clear_preserves, mutate_preserves}

-- at most k more
pub record Grown (k : ℕ) (s t : State) : Type 0 where
  pub by : due t ≤ due s + k

infixl 40 ◌⟫◌
pub ◌⟫◌ : {j k : ℕ} {s t u : State} → Grown j s t → Grown k t u → Grown (j + k) s u
p ⟫ q = record { by = omega (arith, p.by, q.by) }

pub at_most : {j k : ℕ} {s t : State} → j ≤ k → Grown j s t → Grown k s t
at_most h p = record { by = omega (arith, p.by) }

-- by a test
either : {k : ℕ} {s t u : State} (b : Bool) → Grown k s t → Grown k s u → Grown k s (cond b t u)
either true p q = p
either false p q = q

-- the same names live, and as many entries stored
same_due : {s t : State} → t.facts.arguments_top ≡ s.facts.arguments_top → t.scope.names ≡ s.scope.names → Grown 0 s t
same_due a n = let e = ap (λ (m : ScopeMap Ident). length m.live) n in record { by = omega arith }

pub still_due : {s t : State} → Still s t → Grown 0 s t
still_due p = same_due p.apart.stored.arguments p.names

pub none-due : (s : State) → Grown 0 s s
none-due s = still_due still

row-due : (i : ℕ) (r : Row) (s : State) → Grown 0 s (insert i r s)
unfolding insert
row-due i r s = same_due refl refl

-- A name enters

enter-due : (x : Ident) (e : Entry) (s : State) → Grown 1 s (enter x e s)
enter-due x e s =
    let p = enter-names x e s in
    let l = ap (λ (m : ScopeMap Ident). length m.live) p.live in
    record { by = omega (arith, l, p.apart.stored.arguments, define-size x.name x s.scope.names) }

module _ (classes : List ℕ) where
  pub define-due : (k : IdentifierStatus) (a : ℕ) (x : Ident) (b : Tree) (s : State) → Grown 1 s (enter_define classes k a x b s)
  unfolding enter_define
  define-due k a x b s = enter-due x _ s ⟫ row-due x.at _ _

  pub value_due : (x : Ident) (b : Tree) (s : State) → Grown 1 s (enter_top_level_value classes x b s)
  unfolding enter_top_level_value
  value_due x b s = still_due (shadow_preserves still_steps classes (newest s x.name) s) ⟫ define-due Global _ x b _

heap_due : (o : Option ℕ) (x : Ident) (s : State) → Grown 0 s (note_heap o x s)
heap_due None x s = same_due refl refl
heap_due (Some n) x s = same_due refl refl

module _ (kind : IdentifierStatus) (base : ℕ) (heaps : Option ℕ) (before : List ListEntry) where
  name_due : (b : Bool) (x : Ident) (j h : ℕ) (s : State) → Grown 1 s (enter_name kind base heaps before b x j h s)
  unfolding enter_name
  name_due true x j h s = heap_due heaps x s ⟫ enter-due x _ _ ⟫ row-due x.at _ _
  name_due false x j h s = enter-due x _ s ⟫ row-due x.at _ _

  names-due : (xs : List Ident) (j h : ℕ) (s : State) → Grown (length xs) s (enter_names kind base heaps before xs j h s)
  unfolding enter_names
  names-due [] j h s = none-due s
  names-due (x ∷ xs) j h s = at_most (omega arith) (name_due (is_heap before j) x j h s ⟫ names-due xs (suc j) _ _)

-- Lambda

parameters-due : (f : Option FunctionInformation) (xs : List Ident) (s : State) → Grown (length xs) s (enter_parameters f xs s)
unfolding enter_parameters
parameters-due None xs s = names-due _ _ _ _ xs 0 0 s
parameters-due (Some v) xs s = names-due _ _ _ _ xs 0 0 s

pub open_lambda_due : (n : Node) (xs : List Ident) (s : State) → Grown (length xs) s (open_lambda n xs s)
unfolding open_lambda open_scope
open_lambda_due n xs s =
    let f = function_in (row_at s n.at) in
    let p = open_listed f s in
    let q : Grown 0 s (open_scope (open_captures f s)) =
    record { by = omega (arith, p.stored.arguments, ap (λ (m : ScopeMap Ident). length m.live) p.names) } in
    at_most (omega arith) (q ⟫ parameters-due f xs _)

pub layer_size : (d : ℕ) (l : List (Live Ident)) → length (layer_in d l) + length (below_layer d l) ≡ length l
unfolding layer_in below_layer
layer_size d [] = refl
layer_size d (e ∷ l) = pick (eqb e.layer d) (layer_size d l)
  where
    pick : (b : Bool) → length (layer_in d l) + length (below_layer d l) ≡ length l
        → length (cond b (layer_in d l ++ (e ∷ [])) []) + length (cond b (below_layer d l) (e ∷ l)) ≡ suc (length l)
    pick true h = omega (arith, h, length-append (layer_in d l) (e ∷ []))
    pick false h = omega arith

pub list_entries_long : (s : State) (l : List (Live Ident)) → length (list_entries_of s l) ≡ length l
list_entries_long s [] = refl
list_entries_long s (e ∷ l) = ap suc (list_entries_long s l)

store_arguments_lem : (l : List ListEntry) (s : State) → Grown (length l) s (store_arguments l s)
unfolding store_arguments
store_arguments_lem l s = record { by = omega arith }

store_captured_lem : (i : ℕ) (l : List ListEntry) (s : State) → Grown 0 s (store_captured i l s)
unfolding store_captured
store_captured_lem i l s = either (ltb captured_most (s.facts.captured_top + length l)) (same_due refl refl) (same_due refl refl)

popped_live : (m : ScopeMap Ident) → 2 ≤ m.depth → length (pop_layer m).live ≡ length (below_layer m.depth m.live)
popped_live m h = rw (lt-ltb 1 m.depth h)

-- a lambda ends, its layer popped: names that leave the scope become entries
function_due : (f : Option FunctionInformation) (n : Node) (b : Tree) (escapes : Bool) (now arguments : List ListEntry) (m : ScopeMap Capture) (s : State)
    → Grown (length arguments) s (function_ends f n b escapes now arguments m s)
unfolding make_function amend_function rewrite_captured
function_due None n b escapes now arguments m s =
    at_most (omega arith) (store_captured_lem n.at _ s ⟫ store_arguments_lem arguments _ ⟫ row-due n.at _ _)
function_due (Some v) n b escapes now arguments m s = at_most (omega arith) (same_due refl refl ⟫ row-due n.at _ _)

pub close_lambda_due : (n : Node) (xs : List Ident) (b : Tree) (escapes : Bool) (s : State) → 2 ≤ depth s → Grown 0 s (close_lambda n xs b escapes s)
unfolding close_lambda close_scope close_captures
close_lambda_due n xs b escapes s h =
    let layer = newest_layer s.scope.names in
    let p : Grown (0 + length (list_entries_of s layer)) (close_captures (close_scope s)) (close_lambda n xs b escapes s) =
    still_due (lasts_preserves still_steps layer (close_captures (close_scope s)) ⨾ ended_preserves still_steps xs _)
    ⟫ function_due (function_in (row_at s n.at)) n b escapes _ (list_entries_of s layer) s.captures _ in
    record { by = omega (arith, p.by, list_entries_long s layer, layer_size (depth s) s.scope.names.live, popped_live s.scope.names h) }

-- Let

open_layer_due : (b : Bool) (s : State) → Grown 0 s (open_layer b s)
unfolding open_layer open_scope
open_layer_due true s = record { by = omega arith }
open_layer_due false s = none-due s

close_layer_due : (b : Bool) (s : State) → Grown 0 s (close_layer b s)
unfolding close_layer close_scope
close_layer_due true s = record { by = omega (arith, pop_size s.scope.names) }
close_layer_due false s = none-due s

pub open_let_due : (n : Node) (xs : List Ident) (height : ℕ) (function : Option Node) (s : State) → Grown (length xs) s (open_let n xs height function s)
unfolding open_let
open_let_due n xs height function s = at_most (omega arith) (open_layer_due (at_bottom s) s ⟫ names-due _ height _ _ xs 0 0 _)

leave_names-due : (xs : List Ident) (s : State) → Grown 0 s (leave_names xs s)
unfolding leave_names
leave_names-due [] s = none-due s
leave_names-due (x ∷ xs) s =
    let p : Grown 0 s (with_names (remove x.name s.scope.names) s) = record { by = omega (arith, remove-size x.name s.scope.names) } in
    p ⟫ still_due (last_preserves still_steps (entry_at s x.at).last_used _) ⟫ leave_names-due xs _

pub entered_long : (xs : List Ident) (s : State) → length (entered xs s) ≡ length xs
unfolding entered
entered_long [] s = refl
entered_long (x ∷ xs) s = ap suc (entered_long xs s)

make_let_due : (r : Row) (n : Node) (l : List ListEntry) (height : ℕ) (function : Option Node) (s : State) → Grown (length l) s (make_let r n l height function s)
make_let_due r n l height function s =
    by_let (Grown (length l) s) r n l height function s (λ e. at_most (omega arith) (store_arguments_lem l s ⟫ row-due n.at _ _))
    (at_most (omega arith) (none-due s))

pub close_let_due : (opened : Bool) (n : Node) (xs : List Ident) (height : ℕ) (function : Option Node) (s : State)
    → Grown (length xs) s (close_let opened n xs height function s)
unfolding close_let
close_let_due opened n xs height function s =
    at_most (omega (arith, entered_long xs s))
    (leave_names-due xs s ⟫ make_let_due (row_at s n.at) n (entered xs s) height function _ ⟫ close_layer_due opened _)

-- The visits

pub few : (b : Bool) → bit b ≤ 1
few true = omega arith
few false = omega arith

-- no more names enter before the visits than there are records
form-one : (t : Tree) → entering_form t ≤ 1
form-one (ident x) = omega arith
form-one (const n q) = omega arith
form-one (if n a b c) = omega arith
form-one (letin n xs es b) = omega arith
form-one (define n x b) = few (is_lambda b)
form-one (lambda n xs b) = omega arith
form-one (sequence n es) = omega arith
form-one (call n h es) = omega arith
form-one (set! n x e) = omega arith

pub entered-one : (t : Tree) → entering t ≤ 1
entered-one t = form-one (core t)

-- an and of one child enters the name that the child does
and-entering : (m : Node) (es : Trees) → entering_form (and_of es m) ≤ enterings es
and-entering m nil = omega arith
and-entering m (cons t nil) = omega arith
and-entering m (cons t (cons u us)) = omega arith

pub entered_few : (ts : Trees) → enterings ts ≤ sizes ts
unfolding size
entered_few nil = omega arith
entered_few (cons t ts) = omega (arith, entered-one t, size_pos t, entered_few ts)

module _ (classes : List ℕ) where
  child_due : (t : Tree) (s : State) → Grown (entering_form t) s (enter_child classes LocallyDefinedFunction t s)
  child_due t =
      by_child classes (λ u g. (s : State) → Grown (entering_form u) s (g s)) LocallyDefinedFunction (λ u s. at_most (omega arith) (none-due s))
      (λ n x b e s. rw e (define-due classes LocallyDefinedFunction NONE x b s)) t

  pub children_due : (ts : Trees) (s : State) → Grown (enterings ts) s (enter_children classes LocallyDefinedFunction (cores ts) s)
  unfolding enter_children
  children_due nil s = none-due s
  children_due (cons t ts) s = child_due (core t) s ⟫ children_due ts _

  pub before-due : (direct lambda : Bool) (x : Ident) (b : Tree) (s : State) → Grown 1 s (open_define classes direct lambda x b s)
  before-due true true x b s = at_most (omega arith) (same_due refl refl)
  before-due true false x b s = at_most (omega arith) (same_due refl refl)
  before-due false true x b s = define-due classes Local NONE x b s ⟫ same_due refl refl
  before-due false false x b s = at_most (omega arith) (none-due s)

  -- a define enters one name, before its body or after it, or none where a begin has entered it
  define-visited : (direct lambda : Bool) (c : ℕ) (x : Ident) (b : Tree) {k : ℕ} {s t : State}
      → Grown k (open_define classes direct lambda x b s) t → Grown (1 + k) s (close_define classes direct lambda c x b t)
  define-visited true true c x b p = at_most (omega arith) (same_due refl refl ⟫ p ⟫ same_due refl refl)
  define-visited true false c x b p = at_most (omega arith) (same_due refl refl ⟫ p ⟫ define-due classes Local NONE x b _ ⟫ same_due refl refl)
  define-visited false true c x b {s = s} p =
      at_most (omega arith) (define-due classes Local NONE x b s ⟫ same_due refl refl ⟫ p ⟫ same_due refl refl)
  define-visited false false c x b p = at_most (omega arith) (p ⟫ define-due classes Local NONE x b _)

  mutual
    unfolding visit Num size

    pub visit_due : (i : ℕ) (t : Tree) → Num i t → (f : Flags) (s : State) → 1 ≤ depth s
        → suc (due (visit classes t f s) + entering t) ≤ due s + size t
    visit_due i (ident x) n f s h = omega (arith, (still_due (read_preserves still_steps classes x s)).by)
    visit_due i (const m q) n f s h = omega arith
    visit_due i (if m a b c) n f s h =
        let u = visit classes a (not_tail f) s in
        let v = visit classes b (same_tail f) u in
        let g = stays (visited classes a (not_tail f) s h) h in
        omega (
          arith,
          visit_due (i + 1) a n.1 (not_tail f) s h,
          visit_due (i + 1 + size a) b n.2 (same_tail f) u g,
          visit_due (i + 1 + size a + size b) c n.3 (same_tail f) v (stays (visited classes b (same_tail f) u g) g),
        )
    visit_due i (letin m xs es b) n f s h =
        let u = with_context s.context (visit_arguments classes es (not_tail f) (with_context NONE s)) in
        let v = open_let m xs f.height f.function u in
        let g : 1 ≤ depth u = stays (visited_arguments classes es (not_tail f) (with_context NONE s) h) h in
        let w = visit classes b (let_body_flags (many es) f) v in
        omega (
          arith,
          n.1,
          arguments_due (i + 1 + length xs) es n.3 (not_tail f) (with_context NONE s) h,
          (open_let_due m xs f.height f.function u).by,
          visit_due (i + 1 + length xs + sizes es) b n.4 (let_body_flags (many es) f) v (let_stays m xs f.height f.function u g),
          (close_let_due (at_bottom s) m xs f.height f.function w).by,
        )
    visit_due i (define m x b) n f s h =
        let u = open_define classes f.direct (is_lambda b) x b s in
        let g = stays (before_changes {own = Any} classes f.direct (is_lambda b) x b s tt) h in
        let w = visit classes b (define_flags f) u in
        let p : Grown (size b - 1) u w = record { by = omega (arith, visit_due (i + 2) b n.2 (define_flags f) u g, size_pos b) } in
        omega (arith, (define-visited f.direct (is_lambda b) s.context x b {s = s} p).by, few (is_lambda b), size_pos b)
    visit_due i (lambda m xs b) n f s h =
        let u = open_lambda m xs s in
        let d = lambda_depth m xs s h in
        let w = visit classes b (body_flags m (length xs) f) u in
        let e = keeps_depth (visited classes b (body_flags m (length xs) f) u (omega arith)) (omega arith) in
        omega (
          arith,
          (open_lambda_due m xs s).by,
          visit_due (i + 1 + length xs) b n.2 (body_flags m (length xs) f) u (omega arith),
          (close_lambda_due m xs b f.escape w (omega arith)).by,
        )
    visit_due i (sequence (begins m) es) n f s h =
        let u = enter_children classes LocallyDefinedFunction (cores es) s in
        let g = stays (children_changes {own = Any} classes LocallyDefinedFunction (cores es) s (trees_any (cores es))) h in
        omega (arith, (children_due es s).by, children_visited-due (i + 1) es n.1 (in_begin f) u g)
    visit_due i (sequence (ands m) es) n f s h = omega (arith, children_visited-due (i + 1) es n.1 (in_and (is_alone es) f) s h, and-entering m es)
    visit_due i (sequence (whens b m) es) n f s h = omega (arith, tested-due (i + 1) es n.1 f s h)
    visit_due i (call m e es) n f s h =
        let u = visit_arguments classes es (argument_flags f) s in
        let g = stays (visited_arguments classes es (argument_flags f) s h) h in
        let v = visit classes e (head_flags e (many es) f) u in
        omega (
          arith,
          arguments_due (i + 1 + size e) es n.2 (argument_flags f) s h,
          visit_due (i + 1) e n.1 (head_flags e (many es) f) u g,
          (still_due (call_preserves still_steps m e es f v)).by,
        )
    visit_due i (set! m x e) n f s h =
        let u = clear_context x s in
        let g = stays (clear_changes {own = Any} x s) h in
        let v = visit classes e (not_tail f) u in
        omega (
          arith,
          (still_due (clear_preserves still_steps x s)).by,
          visit_due (i + 2) e n.2 (not_tail f) u g,
          (still_due (mutate_preserves still_steps x.name v)).by,
          (still_due (read_preserves still_steps classes x (mutate x.name v))).by,
        )

    pub arguments_due : (i : ℕ) (ts : Trees) → Nums i ts → (f : Flags) (s : State) → 1 ≤ depth s
        → due (visit_arguments classes ts f s) + many ts ≤ due s + sizes ts
    arguments_due i nil n f s h = omega arith
    arguments_due i (cons t ts) n f s h =
        let u = visit classes t f s in
        omega (arith, visit_due i t n.0 f s h, arguments_due (i + size t) ts n.1 (pushed f) u (stays (visited classes t f s h) h))

    -- a test and what follows it
    tested-due : (i : ℕ) (ts : Trees) → Nums i ts → (f : Flags) (s : State) → 1 ≤ depth s
        → due (visit_tested classes ts f s) ≤ due s + sizes ts
    tested-due i nil n f s h = omega arith
    tested-due i (cons t ts) n f s h =
        let v = visit classes t (not_tail f) s in
        let k = stays (visited classes t (not_tail f) s h) h in
        let u = enter_children classes LocallyDefinedFunction (cores ts) v in
        let g = stays (children_changes {own = Any} classes LocallyDefinedFunction (cores ts) v (trees_any (cores ts))) k in
        omega (
          arith,
          visit_due i t n.0 (not_tail f) s h,
          (children_due ts v).by,
          children_visited-due (i + size t) ts n.1 (in_begin f) u g,
        )

    pub children_visited-due : (i : ℕ) (ts : Trees) → Nums i ts → (f : Flags) (s : State) → 1 ≤ depth s
        → due (visit_children classes ts f s) + enterings ts ≤ due s + sizes ts
    children_visited-due i nil n f s h = omega arith
    children_visited-due i (cons t ts) n f s h =
        let g = child_flags (is_nil ts) f in
        let u = visit classes t g s in
        omega (arith, visit_due i t n.0 g s h, children_visited-due (i + size t) ts n.1 f u (stays (visited classes t g s h) h))
