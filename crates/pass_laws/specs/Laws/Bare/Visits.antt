-- The visits.
use Rattle.std.specs.Prelude.{ℕ, List, Bool, cond, ◌≡◌, length, Option, None, Some, option_map}
use Rattle.std.proofs.Math.Bool.{true, false}
use Rattle.std.proofs.Math.Path.{refl, ap}
use Rattle.std.proofs.Common.{sym, ◌∙◌}
use Rattle.std.proofs.Math.ListN.{length-map}
use Rattle.tree.specs.Tree.{Ident, Node, Tree, Trees, ident, const, if, letin, define, lambda, sequence, call, set!, nil, cons, many, begins, ands, whens}
use Rattle.tree.specs.Core.{core, cores}
use Rattle.semantic.specs.Information.{NONE}
use Rattle.semantic.specs.Rows.{Row, Blank, Variable, Function, CallSite, Let}
use Rattle.semantic.specs.declared.IdentifierStatus.TheVariants.{Local, LocallyDefinedFunction}
use Rattle.semantic.specs.declared.IdentifierStatus.{IdentifierStatus}
use Rattle.pass.specs.State.{Entry, State, with_context}
use Rattle.pass.specs.Visit.{Flags, not_tail, same_tail, pushed, let_body_flags, body_flags, argument_flags, is_lambda, head_flags, is_nil, child_flags, define_flags, last_use_of, same_ident, mark_argument, mark_arguments, refers_in, is_self, call_fact, mark_if_tail, close_call, clear_context, open_define, close_define, enter_if_lambda, enter_child, enter_children, visit, visit_arguments, visit_children, in_begin, in_and, is_alone, visit_tested}
use Rattle.pass.specs.Bare.{bare_node, bare_ident, bare, bares, bare_row, bare_state, ◌↝◌}
use Rattle.pass_laws.specs.Laws.Bare.Maps.{map_cond}
use Rattle.pass_laws.specs.Laws.Bare.Looks.{bare-many, bare-nil, bare_looks, bare_core, bare-cores}
use Rattle.pass_laws.specs.Laws.Bare.Steps.{bare-entry, bare_context_set, bare_context_back, steps}
use Rattle.pass_laws.specs.Laws.Bare.Reads.{bare-enter-define, bare-read, bare-mutate}
use Rattle.pass_laws.specs.Laws.Bare.Lambdas.{bare_open_lambda, bare_close_lambda}
use Rattle.pass_laws.specs.Laws.Bare.Lets.{bare_open_let, bare_close_let}

abbrev pub bare_flags : Flags → Flags
bare_flags f = record {
  tail = f.tail;
  escape = f.escape;
  height = f.height;
  counter = f.counter;
  function = option_map bare_node f.function;
  direct = f.direct;
}

-- Call

last_use : (s : State) (o : Option Ident) → last_use_of (bare_state s) (option_map bare_ident o) ≡ option_map bare_ident (last_use_of s o)
last_use s None = refl
last_use s (Some b) = ap (λ (e : Entry). e.last_used) (bare-entry s b.at)

same_ident_lem : (o : Option Ident) (x : Ident) → same_ident (option_map bare_ident o) (bare_ident x) ≡ same_ident o x
same_ident_lem None x = refl
same_ident_lem (Some y) x = refl

mark_argument_lem : (t : Tree) → mark_argument t ↝ mark_argument (bare t)
unfolding bare
mark_argument_lem (ident x) s = simp (map_cond bare_state, steps, last_use, same_ident_lem)
mark_argument_lem (const n q) s = refl
mark_argument_lem (if n a b c) s = refl
mark_argument_lem (letin n xs es b) s = refl
mark_argument_lem (define n x b) s = refl
mark_argument_lem (lambda n xs b) s = refl
mark_argument_lem (sequence n es) s = refl
mark_argument_lem (call n h es) s = refl
mark_argument_lem (set! n x e) s = refl

mark_arguments_lem : (ts : Trees) → mark_arguments ts ↝ mark_arguments (bares ts)
unfolding mark_arguments bare
mark_arguments_lem nil s = refl
mark_arguments_lem (cons t ts) s = mark_arguments_lem ts _ ∙ rw (mark_argument_lem t s)

if_tail : (b : Bool) (ts : Trees) → mark_if_tail b ts ↝ mark_if_tail b (bares ts)
if_tail true ts s = mark_arguments_lem ts s
if_tail false ts s = refl

refers_in_lem : (r : Row) → refers_in (bare_row r) ≡ refers_in r
refers_in_lem Blank = refl
refers_in_lem (Variable v) = refl
refers_in_lem (Function v) = refl
refers_in_lem (CallSite v) = refl
refers_in_lem (Let v) = refl

call_fact_lem : (h : Tree) (n : Node) (tail : Bool) (k : ℕ) → call_fact h n tail k ↝ call_fact (bare h) (bare_node n) tail k
unfolding bare
call_fact_lem (ident x) n tail k s = simp (steps, refers_in_lem)
call_fact_lem (const m q) n tail k s = refl
call_fact_lem (if m a b c) n tail k s = simp steps
call_fact_lem (letin m xs es b) n tail k s = simp steps
call_fact_lem (define m x b) n tail k s = simp steps
call_fact_lem (lambda m xs b) n tail k s = simp steps
call_fact_lem (sequence m es) n tail k s = simp steps
call_fact_lem (call m h es) n tail k s = simp steps
call_fact_lem (set! m x e) n tail k s = simp steps

pub bare_close_call : (n : Node) (h : Tree) (es : Trees) (f : Flags) → close_call n h es f ↝ close_call (bare_node n) (bare h) (bares es) (bare_flags f)
unfolding close_call
bare_close_call n h es f s = rw (bare_core h, ← bare-cores es) (simp (call_fact_lem, if_tail, steps))

-- set!

is_self_lem : (s : State) (x : Ident) → is_self (bare_state s) (bare_ident x) ≡ is_self s x
is_self_lem s x = simp (steps, refers_in_lem)

clear_context_lem : (x : Ident) → clear_context x ↝ clear_context (bare_ident x)
unfolding clear_context bare_state
clear_context_lem x s =
    map_cond bare_state (is_self s x) (with_context NONE s) s ∙ ap (λ (b : Bool). cond b (with_context NONE (bare_state s)) (bare_state s)) (sym (is_self_lem s x))

module _ (classes : List ℕ) where
  -- Define

  pub bare_lambda_is : (b : Tree) → is_lambda (bare b) ≡ is_lambda b
  bare_lambda_is b = rw (bare_core b) (bare_looks classes (core b)).is_lambda

  before-define : (direct l : Bool) (x : Ident) (b : Tree) → open_define classes direct l x b ↝ open_define classes direct l (bare_ident x) (bare b)
  unfolding bare_state
  before-define true true x b s = refl
  before-define true false x b s = refl
  before-define false true x b s = ap (with_context x.id) (bare-enter-define classes Local NONE x b s)
  before-define false false x b s = refl

  after-define : (direct l : Bool) (s : State) (x : Ident) (b : Tree) (t : State)
      → bare_state (close_define classes direct l s.context x b t) ≡ close_define classes direct l (bare_state s).context (bare_ident x) (bare b) (bare_state t)
  unfolding bare_state
  after-define true true s x b t = refl
  after-define true false s x b t = ap (with_context s.context) (bare-enter-define classes Local NONE x b t)
  after-define false true s x b t = refl
  after-define false false s x b t = bare-enter-define classes Local NONE x b t

  module _ (kind : IdentifierStatus) where
    if_lambda : (l : Bool) (x : Ident) (b : Tree) → enter_if_lambda classes kind l x b ↝ enter_if_lambda classes kind l (bare_ident x) (bare b)
    if_lambda true x b s = bare-enter-define classes kind NONE x b s
    if_lambda false x b s = refl

    enter_child_lem : (t : Tree) → enter_child classes kind t ↝ enter_child classes kind (bare t)
    unfolding bare
    enter_child_lem (ident x) s = refl
    enter_child_lem (const n q) s = refl
    enter_child_lem (if n a b c) s = refl
    enter_child_lem (letin n xs es b) s = refl
    enter_child_lem (define n x b) s = rw (bare_lambda_is b) (if_lambda (is_lambda b) x b s)
    enter_child_lem (lambda n xs b) s = refl
    enter_child_lem (sequence n es) s = refl
    enter_child_lem (call n h es) s = refl
    enter_child_lem (set! n x e) s = refl

    pub bare-enter_children : (ts : Trees) → enter_children classes kind ts ↝ enter_children classes kind (bares ts)
    unfolding enter_children bare
    bare-enter_children nil s = refl
    bare-enter_children (cons t ts) s = bare-enter_children ts _ ∙ rw (enter_child_lem t s)

  -- Each form, given its parts

  abbrev BareVisit : Tree → Type 0
  BareVisit t = (f : Flags) → visit classes t f ↝ visit classes (bare t) (bare_flags f)

  abbrev BareArguments : Trees → Type 0
  BareArguments ts = (f : Flags) → visit_arguments classes ts f ↝ visit_arguments classes (bares ts) (bare_flags f)

  abbrev BareChildren : Trees → Type 0
  BareChildren ts = (f : Flags) → visit_children classes ts f ↝ visit_children classes (bares ts) (bare_flags f)

  bare_if : (n : Node) (a b c : Tree) → BareVisit a → BareVisit b → BareVisit c → BareVisit (if n a b c)
  unfolding visit bare
  bare_if n a b c p q r f s = r (same_tail f) _ ∙ rw (q (same_tail f) _, p (not_tail f) s)

  bare_let : (n : Node) (xs : List Ident) (es : Trees) (b : Tree) → BareArguments es → BareVisit b → BareVisit (letin n xs es b)
  unfolding visit bare
  bare_let n xs es b p q f s =
      let r = p (not_tail f) (with_context NONE s) ∙ ap (visit_arguments classes (bares es) (bare_flags (not_tail f))) (bare_context_set NONE s) in
      bare_close_let s n xs f.height f.function _
      ∙ rw (q (let_body_flags (many es) f) _, bare_open_let n xs f.height f.function _, bare_context_back s _ r, bare-many es)

  bare-define : (n : Node) (x : Ident) (b : Tree) → BareVisit b → BareVisit (define n x b)
  unfolding visit bare
  bare-define n x b p f s =
      after-define f.direct (is_lambda b) s x b _
      ∙ rw (p (define_flags f) _, before-define f.direct (is_lambda b) x b s, bare_lambda_is b)

  bare_lambda : (n : Node) (xs : List Ident) (b : Tree) → BareVisit b → BareVisit (lambda n xs b)
  unfolding visit bare
  bare_lambda n xs b p f s =
      bare_close_lambda n xs b f.escape _ ∙ rw (p (body_flags n (length xs) f) _, bare_open_lambda n xs s, length-map xs bare_ident)

  bare_begin : (n : Node) (es : Trees) → BareChildren es → BareVisit (sequence (begins n) es)
  unfolding visit bare
  bare_begin n es p f s = p (in_begin f) _ ∙ rw (bare-enter_children LocallyDefinedFunction (cores es) s, bare-cores es)

  bare-and_flags : (es : Trees) (f : Flags) → in_and (is_alone (bares es)) (bare_flags f) ≡ bare_flags (in_and (is_alone es) f)
  unfolding bare
  bare-and_flags nil f = refl
  bare-and_flags (cons t nil) f = refl
  bare-and_flags (cons t (cons u us)) f = refl

  bare_ands : (n : Node) (es : Trees) → BareChildren es → BareVisit (sequence (ands n) es)
  unfolding visit bare
  bare_ands n es p f s = rw (bare-and_flags es f) (p (in_and (is_alone es) f) s)

  abbrev BareTested : Trees → Type 0
  BareTested ts = (f : Flags) → visit_tested classes ts f ↝ visit_tested classes (bares ts) (bare_flags f)

  bare-when : (q : Bool) (n : Node) (es : Trees) → BareTested es → BareVisit (sequence (whens q n) es)
  unfolding visit bare
  bare-when q n es p f s = p f s

  bare_no_test : BareTested nil
  unfolding visit bare
  bare_no_test f s = refl

  bare-test : (t : Tree) (ts : Trees) → BareVisit t → BareChildren ts → BareTested (cons t ts)
  unfolding visit bare
  bare-test t ts p q f s = q (in_begin f) _ ∙ rw (bare-enter_children LocallyDefinedFunction (cores ts) _, bare-cores ts, p (not_tail f) s)

  bare_call : (n : Node) (h : Tree) (es : Trees) → BareVisit h → BareArguments es → BareVisit (call n h es)
  unfolding visit bare
  bare_call n h es p q f s =
      bare_close_call n h es f _ ∙ rw (p (head_flags h (many es) f) _, q (argument_flags f) s, bare_lambda_is h, bare-many es)

  bare_set : (n : Node) (x : Ident) (e : Tree) → BareVisit e → BareVisit (set! n x e)
  unfolding visit bare
  bare_set n x e p f s = bare-read classes x _ ∙ rw (bare-mutate x.name _, p (not_tail f) _, clear_context_lem x s)

  bare_leaf : (x : Ident) → BareVisit (ident x)
  unfolding visit bare
  bare_leaf x f s = bare-read classes x s

  bare_const : (n : Node) (q : Bool) → BareVisit (const n q)
  unfolding visit bare
  bare_const n q f s = refl

  bare-none : BareArguments nil × BareChildren nil
  unfolding visit bare
  bare-none = (λ f s. refl, λ f s. refl)

  bare_argument : (t : Tree) (ts : Trees) → BareVisit t → BareArguments ts → BareArguments (cons t ts)
  unfolding visit bare
  bare_argument t ts p q f s = q (pushed f) _ ∙ rw (p f s)

  bare_child : (t : Tree) (ts : Trees) → BareVisit t → BareChildren ts → BareChildren (cons t ts)
  unfolding visit bare
  bare_child t ts p q f s = q f _ ∙ rw (p (child_flags (is_nil ts) f) s, ← bare-nil ts)

  -- The visits

  mutual
    pub bare_visit : (t : Tree) → BareVisit t
    bare_visit (ident x) = bare_leaf x
    bare_visit (const n q) = bare_const n q
    bare_visit (if n a b c) = bare_if n a b c (bare_visit a) (bare_visit b) (bare_visit c)
    bare_visit (letin n xs es b) = bare_let n xs es b (bare_arguments es) (bare_visit b)
    bare_visit (define n x b) = bare-define n x b (bare_visit b)
    bare_visit (lambda n xs b) = bare_lambda n xs b (bare_visit b)
    bare_visit (sequence (begins n) es) = bare_begin n es (bare_children es)
    bare_visit (sequence (ands n) es) = bare_ands n es (bare_children es)
    bare_visit (sequence (whens q n) es) = bare-when q n es (bare-tested es)
    bare_visit (call n h es) = bare_call n h es (bare_visit h) (bare_arguments es)
    bare_visit (set! n x e) = bare_set n x e (bare_visit e)

    bare_arguments : (ts : Trees) → BareArguments ts
    bare_arguments nil = bare-none.0
    bare_arguments (cons t ts) = bare_argument t ts (bare_visit t) (bare_arguments ts)

    bare_children : (ts : Trees) → BareChildren ts
    bare_children nil = bare-none.1
    bare_children (cons t ts) = bare_child t ts (bare_visit t) (bare_children ts)

    bare-tested : (ts : Trees) → BareTested ts
    bare-tested nil = bare_no_test
    bare-tested (cons t ts) = bare-test t ts (bare_visit t) (bare_children ts)
