-- How many names are live after a visit: each tree leaves at least one of its records unused, so its names fit in the records before its end.
use Rattle.std.specs.Prelude.{ℕ, suc, ◌+◌, ◌≤◌, List, Bool, true, false, length, eqb}
use Rattle.std.proofs.Common.{ap, sym, arith}
use Rattle.tree.specs.Tree.{Ident, Tree, Trees, ident, const, if, letin, define, lambda, sequence, call, set!, nil, cons, many, size, sizes, begins, ands, whens}
use Rattle.tree.specs.Define.{top_of, top_level}
use Rattle.tree.proofs.Laws.Tree.{sizes_⊕}
use Rattle.tree.specs.Core.{core, cores}
use Rattle.tree.proofs.Laws.Core.{many-cores, size_core, sizes_cores}
use Rattle.semantic.specs.Information.{NONE}
use Rattle.semantic.specs.declared.IdentifierStatus.TheVariants.{Local}
use Rattle.semantic.specs.declared.IdentifierStatus.{IdentifierStatus}
use Rattle.pass.specs.State.{State, with_context, depth}
use Rattle.pass.specs.Lambda.{at_bottom}
use Rattle.pass.specs.Visit.{Flags, top_flags, not_tail, same_tail, pushed, let_body_flags, body_flags, argument_flags, is_lambda, head_flags, is_nil, child_flags, define_flags, open_define, close_define, enter_child, enter_children, visit, visit_arguments, visit_children, visit_top_define, visit_top, in_begin, in_and, is_alone, visit_tested}
use Rattle.pass_laws.specs.Sound.{Grows}
use Rattle.pass_laws.specs.Laws.Scopes.{Any, lambda_depth, let_stays}
use Rattle.pass_laws.specs.Laws.Visits.{call_changes, clear_changes}
use Rattle.pass_laws.specs.Laws.Sound.Rooms.{grows_none, grows_then, grows_wide, grows_quiet, grows_read, grows_mutate, grows_define, grows_value, grows_lambda, grows_let}
use Rattle.pass_laws.specs.Laws.Cases.{by_child}

-- one after another, in a state with a bottom layer
next : {a b c d : ℕ} {s t u : State} → 1 ≤ depth s → Grows a b s t → (1 ≤ depth t → Grows c d t u) → Grows (a + c) (b + d) s u
next h p q = grows_then p (q (omega (arith, p.layers h)))

-- what stands at top level has no more records than the trees
pub top_sizes : (ts : Trees) → sizes (top_level ts) ≤ sizes ts
unfolding top_level top_of size
top_sizes nil = omega arith
top_sizes (cons t ts) = omega (arith, sizes_⊕ (top_of (core t)) (top_level ts), top-size (core t), size_core t, top_sizes ts)
  where
    top-size : (t : Tree) → sizes (top_of t) ≤ size t
    top-size (ident x) = omega arith
    top-size (const n q) = omega arith
    top-size (if n a b c) = omega arith
    top-size (letin n xs es b) = omega arith
    top-size (define n x b) = omega arith
    top-size (lambda n xs b) = omega arith
    top-size (sequence (begins n) es) = omega (arith, sizes_cores es)
    top-size (sequence (ands n) es) = omega arith
    top-size (sequence (whens b n) es) = omega arith
    top-size (call n g es) = omega arith
    top-size (set! n x e) = omega arith

-- contexts tell nothing
context : {a b : ℕ} {s t : State} (c : ℕ) → Grows a b s t → Grows a b s (with_context c t)
context c p = record { live = p.live; layers = p.layers; capture_layers = p.capture_layers }

from_context : {a b : ℕ} {s t : State} (c : ℕ) → Grows a b (with_context c s) t → Grows a b s t
from_context c p = record { live = p.live; layers = p.layers; capture_layers = p.capture_layers }

module _ (classes : List ℕ) where
  -- a name enters before the body of its define, or after it, or has entered
  around : {a c : ℕ} (direct lambda : Bool) (k : ℕ) (x : Ident) (b : Tree) (s : State) {t : State} → Grows a c (open_define classes direct lambda x b s) t
      → Grows a (suc c) s (close_define classes direct lambda k x b t)
  around true true k x b s p = grows_wide (omega arith) (context k (from_context x.id p))
  around true false k x b s {t} p = grows_wide (omega arith) (grows_then (from_context x.id p) (context k (grows_define classes Local NONE x b t)))
  around false true k x b s p = grows_wide (omega arith) (grows_then (context x.id (grows_define classes Local NONE x b s)) (context k p))
  around false false k x b s {t} p = grows_wide (omega arith) (grows_then p (grows_define classes Local NONE x b t))

  before_bottom : (direct lambda : Bool) (x : Ident) (b : Tree) (s : State) → 1 ≤ depth s → 1 ≤ depth (open_define classes direct lambda x b s)
  before_bottom true true x b s h = h
  before_bottom true false x b s h = h
  before_bottom false true x b s h = omega (arith, (grows_define classes Local NONE x b s).layers h)
  before_bottom false false x b s h = h

  -- names that enter before the visits

  pub grows_child : (kind : IdentifierStatus) (t : Tree) (s : State) → Grows 0 1 s (enter_child classes kind t s)
  grows_child kind t s =
      by_child classes (λ u g. Grows 0 1 s (g s)) kind (λ u. grows_wide (omega arith) grows_none) (λ n x b e. grows_define classes kind NONE x b s) t

  pub grows_children : (kind : IdentifierStatus) (ts : Trees) (s : State) → Grows 0 (many ts) s (enter_children classes kind ts s)
  unfolding enter_children
  grows_children kind nil s = grows_none
  grows_children kind (cons t ts) s = grows_wide (omega arith) (grows_then (grows_child kind t s) (grows_children kind ts _))

  -- The visits

  mutual
    unfolding visit size

    pub visit_grows : (t : Tree) (f : Flags) (s : State) → 1 ≤ depth s → Grows 1 (size t) s (visit classes t f s)
    visit_grows (ident x) f s h = grows_wide (omega arith) (grows_read classes x s)
    visit_grows (const n q) f s h = grows_wide (omega arith) grows_none
    visit_grows (if n a b c) f s h =
        let ab = next h (visit_grows a (not_tail f) s h) (λ k. visit_grows b (same_tail f) _ k) in
        grows_wide (omega arith) (next h ab (λ k. visit_grows c (same_tail f) _ k))
    visit_grows (letin n xs es b) f s h =
        let t = with_context s.context (visit_arguments classes es (not_tail f) (with_context NONE s)) in
        let args : Grows (many es) (sizes es) s t = context s.context (from_context NONE (arguments_grow es (not_tail f) (with_context NONE s) h)) in
        let bottom = ap (λ (d : ℕ). eqb d 1) (sym (args.layers h)) in
        grows_wide (omega arith) (next h args (λ k. grows_let (at_bottom s) n xs f.height f.function t bottom
        (visit_grows b (let_body_flags (many es) f) _ (let_stays n xs f.height f.function t k))))
    visit_grows (define n x b) f s h =
        let deep = before_bottom f.direct (is_lambda b) x b s h in
        grows_wide (omega arith) (around f.direct (is_lambda b) s.context x b s (visit_grows b (define_flags f) _ deep))
    visit_grows (lambda n xs b) f s h =
        grows_wide (omega arith) (grows_lambda n xs b f.escape s (visit_grows b (body_flags n (length xs) f) _ (omega (arith, lambda_depth n xs s h))))
    visit_grows (sequence (begins n) es) f s h = grows_wide (omega (arith, many-cores es)) (next h (grows_children _ (cores es) s) (λ k. children_grow es (in_begin f) _ k))
    visit_grows (sequence (ands n) es) f s h = grows_wide (omega arith) (children_grow es (in_and (is_alone es) f) s h)
    visit_grows (sequence (whens b n) es) f s h = tested_grow es f s h
    visit_grows (call n g es) f s h =
        let p = next h (arguments_grow es (argument_flags f) s h) (λ k. visit_grows g (head_flags g (many es) f) _ k) in
        grows_wide (omega arith) (grows_then p (grows_quiet (call_changes {own = Any} n g es f _ (λ c. tt))))
    visit_grows (set! n x e) f s h =
        let p = next h (grows_quiet (clear_changes {own = Any} x s)) (λ k. visit_grows e (not_tail f) _ k) in
        grows_wide (omega arith) (grows_then (grows_then p (grows_mutate x.name _)) (grows_read classes x _))

    pub arguments_grow : (ts : Trees) (f : Flags) (s : State) → 1 ≤ depth s → Grows (many ts) (sizes ts) s (visit_arguments classes ts f s)
    arguments_grow nil f s h = grows_none
    arguments_grow (cons t ts) f s h = grows_wide (omega arith) (next h (visit_grows t f s h) (λ k. arguments_grow ts (pushed f) _ k))

    pub children_grow : (ts : Trees) (f : Flags) (s : State) → 1 ≤ depth s → Grows (many ts) (sizes ts) s (visit_children classes ts f s)
    children_grow nil f s h = grows_none
    children_grow (cons t ts) f s h = grows_wide (omega arith) (next h (visit_grows t (child_flags (is_nil ts) f) s h) (λ k. children_grow ts f _ k))

    tested_grow : (ts : Trees) (f : Flags) (s : State) → 1 ≤ depth s → Grows 1 (1 + sizes ts) s (visit_tested classes ts f s)
    tested_grow nil f s h = grows_wide (omega arith) grows_none
    tested_grow (cons t ts) f s h =
        let p = next h (visit_grows t (not_tail f) s h) (λ k. grows_children _ (cores ts) _) in
        grows_wide (omega (arith, many-cores ts)) (next h p (λ k. children_grow ts (in_begin f) _ k))

  -- The top level

  top-define : (l : Bool) (x : Ident) (b : Tree) (s : State) → 1 ≤ depth s → Grows 1 (suc (size b)) s (visit_top_define classes l x b s)
  top-define true x b s h = grows_wide (omega arith) (context NONE (from_context x.id (visit_grows b top_flags (with_context x.id s) h)))
  top-define false x b s h = grows_wide (omega arith) (next h (grows_value classes x b s) (λ k. visit_grows b top_flags _ k))

  pub top_grows : (t : Tree) (s : State) → 1 ≤ depth s → Grows 1 (size t) s (visit_top classes t s)
  unfolding visit_top size
  top_grows (ident x) s h = visit_grows (ident x) top_flags s h
  top_grows (const n q) s h = grows_wide (omega arith) grows_none
  top_grows (if n a b c) s h = visit_grows (if n a b c) top_flags s h
  top_grows (letin n xs es b) s h = visit_grows (letin n xs es b) top_flags s h
  top_grows (define n x b) s h = grows_wide (omega arith) (top-define (is_lambda b) x b s h)
  top_grows (lambda n xs b) s h = visit_grows (lambda n xs b) top_flags s h
  top_grows (sequence n es) s h = visit_grows (sequence n es) top_flags s h
  top_grows (call n g es) s h = visit_grows (call n g es) top_flags s h
  top_grows (set! n x e) s h = visit_grows (set! n x e) top_flags s h
