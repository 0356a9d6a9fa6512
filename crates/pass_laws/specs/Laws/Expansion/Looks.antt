-- What an expression is, its expansion is: where the pass asks, it is told the same.
use Rattle.std.specs.Prelude.{ℕ, List, Bool, true, false, ◌&&◌, ◌≡◌, ltb}
use Rattle.std.proofs.Math.Path.{refl, ap}
use Rattle.std.proofs.Common.{ap₂, ◌∙◌}
use Rattle.tree.specs.Tree.{Ident, Node, Tree, Trees, ident, const, if, letin, define, lambda, sequence, call, set!, nil, cons, Sequence, begins, ands, whens}
use Rattle.tree.specs.Core.{core, and_of, cores}
use Rattle.tree.specs.Expand.{expand, expands, expand_and, expand_tested}
use Rattle.semantic.specs.Information.{NONE}
use Rattle.semantic.specs.declared.IdentifierStatus.TheVariants.{Global, Local}
use Rattle.semantic.specs.declared.IdentifierStatus.{IdentifierStatus}
use Rattle.pass.specs.State.{State, with_context, depth}
use Rattle.pass.specs.Read.{is_ident_of, first_is_ident_of, is_builtin, is_required, alias, define_fact, enter_define, enter_top_level_value}
use Rattle.pass.specs.Visit.{Flags, is_lambda_form, is_lambda, mark_argument, mark_arguments, mark_if_tail, call_fact, close_call, open_define, close_define, enter_if_lambda, enter_child, enter_children}

mutual
  -- what one tree is, the other is, where it is asked
  pub data Looks : Tree → Tree → Type 0 where
    l_ident : (x : Ident) → Looks (ident x) (ident x)
    l_const : {n m : Node} {q p : Bool} → Looks (const n q) (const m p)
    l_if : {n m : Node} {a b c d e f : Tree} → Looks (if n a b c) (if m d e f)
    l_let : {n m : Node} {xs ys : List Ident} {es fs : Trees} {b c : Tree} → Looks (letin n xs es b) (letin m ys fs c)
    l-define : {n : Node} (x : Ident) {b c : Tree} → Looks (core b) (core c) → Looks (define n x b) (define n x c)
    l_lambda : {n m : Node} {xs ys : List Ident} {b c : Tree} → Looks (lambda n xs b) (lambda m ys c)
    l_begin : {n m : Sequence} {es fs : Trees} → Looks (sequence n es) (sequence m fs)
    l_call : {n m : Node} {h k : Tree} {es fs : Trees} → Looks (core h) (core k) → LooksFirst es fs → Looks (call n h es) (call m k fs)
    l-set : {n m : Node} {x y : Ident} {e f : Tree} → Looks (set! n x e) (set! m y f)
    l-branches : {n : Node} {m : Sequence} {a b c : Tree} {es : Trees} → Looks (if n a b c) (sequence m es)

  pub data LooksFirst : Trees → Trees → Type 0 where
    no_first : LooksFirst nil nil
    a_first : {t u : Tree} {ts us : Trees} → Looks (core t) (core u) → LooksFirst (cons t ts) (cons u us)

mutual
  unfolding expand

  pub looks : (t : Tree) → Looks (core (expand t)) (core t)
  looks (ident x) = l_ident x
  looks (const n q) = l_const
  looks (if n a b c) = l_if
  looks (letin n xs es b) = l_let
  looks (define n x b) = l-define x (looks b)
  looks (lambda n xs b) = l_lambda
  looks (sequence (begins n) es) = l_begin
  looks (sequence (ands n) es) = looks_and es n
  looks (sequence (whens q n) es) = looks_tested es q n
  looks (call n h es) = l_call (looks h) (looks_first es)
  looks (set! n x e) = l-set

  looks_first : (ts : Trees) → LooksFirst (expands ts) ts
  looks_first nil = no_first
  looks_first (cons t ts) = a_first (looks t)

  looks_and : (ts : Trees) (n : Node) → Looks (core (expand_and ts n)) (and_of ts n)
  looks_and nil n = l_const
  looks_and (cons t nil) n = looks t
  looks_and (cons t (cons u us)) n = l-branches

  looks_tested : (ts : Trees) (q : Bool) (n : Node) → Looks (core (expand_tested ts q n)) (sequence (whens q n) ts)
  looks_tested nil true n = l-branches
  looks_tested nil false n = l-branches
  looks_tested (cons t ts) true n = l-branches
  looks_tested (cons t ts) false n = l-branches

-- What is asked

pub same_lambda : {t u : Tree} → Looks t u → is_lambda_form t ≡ is_lambda_form u
same_lambda (l_ident x) = refl
same_lambda l_const = refl
same_lambda l_if = refl
same_lambda l_let = refl
same_lambda (l-define x l) = refl
same_lambda l_lambda = refl
same_lambda l_begin = refl
same_lambda (l_call l f) = refl
same_lambda l-set = refl
same_lambda l-branches = refl

pub same_alias : {t u : Tree} → Looks t u → alias t ≡ alias u
same_alias (l_ident x) = refl
same_alias l_const = refl
same_alias l_if = refl
same_alias l_let = refl
same_alias (l-define x l) = refl
same_alias l_lambda = refl
same_alias l_begin = refl
same_alias (l_call l f) = refl
same_alias l-set = refl
same_alias l-branches = refl

same_argument : {t u : Tree} → Looks t u → (s : State) → mark_argument t s ≡ mark_argument u s
same_argument (l_ident x) s = refl
same_argument l_const s = refl
same_argument l_if s = refl
same_argument l_let s = refl
same_argument (l-define x l) s = refl
same_argument l_lambda s = refl
same_argument l_begin s = refl
same_argument (l_call l f) s = refl
same_argument l-set s = refl
same_argument l-branches s = refl

same_arguments : (ts : Trees) (s : State) → mark_arguments (cores (expands ts)) s ≡ mark_arguments (cores ts) s
unfolding mark_arguments expand
same_arguments nil s = refl
same_arguments (cons t ts) s = same_arguments ts _ ∙ ap (mark_arguments (cores ts)) (same_argument (looks t) s)

same_if_tail : (b : Bool) (ts : Trees) (s : State) → mark_if_tail b (cores (expands ts)) s ≡ mark_if_tail b (cores ts) s
same_if_tail true ts s = same_arguments ts s
same_if_tail false ts s = refl

same_fact : {t u : Tree} → Looks t u → (n : Node) (tail : Bool) (k : ℕ) (s : State) → call_fact t n tail k s ≡ call_fact u n tail k s
same_fact (l_ident x) n tail k s = refl
same_fact l_const n tail k s = refl
same_fact l_if n tail k s = refl
same_fact l_let n tail k s = refl
same_fact (l-define x l) n tail k s = refl
same_fact l_lambda n tail k s = refl
same_fact l_begin n tail k s = refl
same_fact (l_call l f) n tail k s = refl
same_fact l-set n tail k s = refl
same_fact l-branches n tail k s = refl

pub same_call : (n : Node) (h : Tree) (es : Trees) (f : Flags) (s : State) → close_call n (expand h) (expands es) f s ≡ close_call n h es f s
unfolding close_call
same_call n h es f s =
    let tail = f.tail && ltb 1 (depth s) in
    same_fact (looks h) n tail f.counter _ ∙ ap (call_fact (core h) n tail f.counter) (same_if_tail tail es s)

module _ (classes : List ℕ) where
  pub same_ident_lem : (k : ℕ) {t u : Tree} → Looks t u → is_ident_of classes k t ≡ is_ident_of classes k u
  same_ident_lem k (l_ident x) = refl
  same_ident_lem k l_const = refl
  same_ident_lem k l_if = refl
  same_ident_lem k l_let = refl
  same_ident_lem k (l-define x l) = refl
  same_ident_lem k l_lambda = refl
  same_ident_lem k l_begin = refl
  same_ident_lem k (l_call l f) = refl
  same_ident_lem k l-set = refl
  same_ident_lem k l-branches = refl

  same_first : (k : ℕ) {ts us : Trees} → LooksFirst ts us → first_is_ident_of classes k ts ≡ first_is_ident_of classes k us
  same_first k no_first = refl
  same_first k (a_first l) = same_ident_lem k l

  same_builtin : {t u : Tree} → Looks t u → is_builtin classes t ≡ is_builtin classes u
  same_builtin (l_ident x) = refl
  same_builtin l_const = refl
  same_builtin l_if = refl
  same_builtin l_let = refl
  same_builtin (l-define x l) = refl
  same_builtin l_lambda = refl
  same_builtin l_begin = refl
  same_builtin (l_call l f) = ap₂ (λ (a b : Bool). a && b) (same_ident_lem 2 l) (same_first 4 f)
  same_builtin l-set = refl
  same_builtin l-branches = refl

  same_required : {t u : Tree} → Looks t u → is_required classes t ≡ is_required classes u
  same_required (l_ident x) = refl
  same_required l_const = refl
  same_required l_if = refl
  same_required l_let = refl
  same_required (l-define x l) = refl
  same_required l_lambda = refl
  same_required l_begin = refl
  same_required (l_call l f) = same_ident_lem 8 l
  same_required l-set = refl
  same_required l-branches = refl

  pub same_define : (k : IdentifierStatus) (a : ℕ) (x : Ident) (b c : Tree) → Looks (core b) (core c) → (s : State)
      → enter_define classes k a x b s ≡ enter_define classes k a x c s
  unfolding enter_define define_fact
  same_define k a x b c l s = rw (same_builtin l, same_required l)

  pub same_value : (x : Ident) (b c : Tree) → Looks (core b) (core c) → (s : State) → enter_top_level_value classes x b s ≡ enter_top_level_value classes x c s
  unfolding enter_top_level_value
  same_value x b c l s = rw (same_alias l, same_define Global _ x b c l _)

  module _ (kind : IdentifierStatus) where
    pub same_child : {t u : Tree} → Looks t u → (s : State) → enter_child classes kind t s ≡ enter_child classes kind u s
    same_child (l_ident x) s = refl
    same_child l_const s = refl
    same_child l_if s = refl
    same_child l_let s = refl
    same_child (l-define x {b} {c} l) s = rw (same_lambda l) (go (is_lambda c))
      where
        go : (q : Bool) → enter_if_lambda classes kind q x b s ≡ enter_if_lambda classes kind q x c s
        go true = same_define kind NONE x b c l s
        go false = refl
    same_child l_lambda s = refl
    same_child l_begin s = refl
    same_child (l_call l f) s = refl
    same_child l-set s = refl
    same_child l-branches s = refl

    pub same_children : (ts : Trees) (s : State) → enter_children classes kind (cores (expands ts)) s ≡ enter_children classes kind (cores ts) s
    unfolding enter_children expand
    same_children nil s = refl
    same_children (cons t ts) s = same_children ts _ ∙ ap (enter_children classes kind (cores ts)) (same_child (looks t) s)

  pub same_before : (direct q : Bool) (x : Ident) (b : Tree) (s : State) → open_define classes direct q x (expand b) s ≡ open_define classes direct q x b s
  same_before true true x b s = refl
  same_before true false x b s = refl
  same_before false true x b s = ap (with_context x.id) (same_define Local NONE x (expand b) b (looks b) s)
  same_before false false x b s = refl

  pub same_after : (direct q : Bool) (c : ℕ) (x : Ident) (b : Tree) (s : State) → close_define classes direct q c x (expand b) s ≡ close_define classes direct q c x b s
  same_after true true c x b s = refl
  same_after true false c x b s = ap (with_context c) (same_define Local NONE x (expand b) b (looks b) s)
  same_after false true c x b s = refl
  same_after false false c x b s = same_define Local NONE x (expand b) b (looks b) s
