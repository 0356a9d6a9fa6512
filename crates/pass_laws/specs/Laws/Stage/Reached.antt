-- The places of a walk: from the start of a tree's visit to that of a part's, neither its own record, nor any before it, nor one of the part is written.
use Rattle.std.specs.Prelude.{ℕ, ◌+◌, ◌≤◌, ◌<◌, List}
use native.Mathlib.Omega.{arith}
use Rattle.std.proofs.Math.ListN.{length}
use Rattle.tree.specs.Tree.{Ident, Node, Tree, Trees, if, letin, define, lambda, call, cons, size, sizes, Num, Nums}
use Rattle.semantic.specs.Information.{NONE}
use Rattle.semantic.specs.declared.IdentifierStatus.TheVariants.{LocallyDefinedFunction}
use Rattle.pass.specs.State.{State, with_context, depth}
use Rattle.tree.specs.Core.{cores}
use Rattle.pass.specs.Lambda.{open_lambda, open_let}
use Rattle.pass.specs.Visit.{Flags, not_tail, same_tail, argument_flags, is_lambda, clear_context, open_define, enter_children, visit, visit_arguments}
use Rattle.pass_laws.specs.Laws.Changes.{Changes, same, ◌⨾◌, context}
use Rattle.pass_laws.specs.Laws.Moves.{Moves, by, ◌⨟◌, moves_key, into_lambda, into_let}
use Rattle.pass_laws.specs.Laws.Visits.{stays, before_changes, children_changes, clear_changes, visit_changes, arguments_visited, writes_cores}
use Rattle.pass_laws.specs.Laws.Ranges.{names_writes, tree_writes, trees_writes}
use Rattle.pass_laws.specs.Laws.Keeps.{Off}
use Rattle.pass_laws.specs.Laws.Stage.Lists.{Lasting}

-- from i on, but not the m records from k on
abbrev Beside : ℕ → ℕ → ℕ → ℕ → Type 0
Beside i k m x = (i ≤ x) × Off k (k + m) x

pub record Reached (i k m : ℕ) (s t : State) : Type 0 where
  pub before : Lasting 0 i s t
  pub part : Lasting k (k + m) s t

reached : {i k m : ℕ} {s t : State} → Moves (Beside i k m) s t → Reached i k m s t
reached c =
    record {
      before = record { at = λ x l h. moves_key c x (λ o. omega (arith, o.0)) };
      part = record { at = λ x l h. moves_key c x (λ o. o.1 l h) };
    }

pub at_once : (i k m : ℕ) (s : State) → Reached i k m s s
at_once i k m s = reached (by same)

module _ (classes : List ℕ) where
  -- past a tree
  pub past : (i k m j : ℕ) (t : Tree) → Num j t → i ≤ j → ((x : ℕ) → j ≤ x → x < j + size t → Off k (k + m) x)
      → (f : Flags) (s : State) → 1 ≤ depth s → Changes (Beside i k m) s (visit classes t f s)
  past i k m j t n g o f s h = visit_changes classes t f s (tree_writes (Beside i k m) j t n (λ x l u. (omega arith, o x l u))) h

  past_all : (i k m j : ℕ) (ts : Trees) → Nums j ts → i ≤ j → ((x : ℕ) → j ≤ x → x < j + sizes ts → Off k (k + m) x)
      → (f : Flags) (s : State) → 1 ≤ depth s → Changes (Beside i k m) s (visit_arguments classes ts f s)
  past_all i k m j ts n g o f s h = arguments_visited classes ts f s (trees_writes (Beside i k m) j ts n (λ x l u. (omega arith, o x l u))) h

  -- from a tree to what is after it
  pub to-rest : (i : ℕ) (t : Tree) (m : ℕ) → Num i t → (f : Flags) (s : State) → 1 ≤ depth s → Reached i (i + size t) m s (visit classes t f s)
  to-rest i t m n f s h = reached (by (past i (i + size t) m i t n (omega arith) (λ x l u p q. omega arith) f s h))

  pub to-next : (i : ℕ) (t : Tree) (ts : Trees) → Nums i (cons t ts) → (f : Flags) (s : State) → 1 ≤ depth s
      → Reached i (i + size t) (sizes ts) s (visit classes t f s)
  unfolding Num
  to-next i t ts n f s h = to-rest i t (sizes ts) n.0 f s h

  -- to the children of a begin
  pub to_children : (i : ℕ) (es : Trees) → Nums i es → (s : State) → Lasting 0 i s (enter_children classes LocallyDefinedFunction (cores es) s)
  to_children i es n s =
      (reached {k = 0} {m = 0}
      (by (children_changes classes _ (cores es) s (writes_cores _ _ es (trees_writes (Beside i 0 0) i es n (λ x l u. (omega arith, λ p q. omega arith))))))).before

  -- the parts of an if
  pub to_second : (i : ℕ) (m : Node) (a b c : Tree) → Num i (if m a b c) → (f : Flags) (s : State) → 1 ≤ depth s
      → Reached (i + 1) (i + 1 + size a) (size b) s (visit classes a (not_tail f) s)
  unfolding Num
  to_second i m a b c n f s h =
      reached (by (past (i + 1) (i + 1 + size a) (size b) (i + 1) a n.1 (omega arith) (λ x l u p q. omega arith) (not_tail f) s h))

  pub to_third : (i : ℕ) (m : Node) (a b c : Tree) → Num i (if m a b c) → (f : Flags) (s : State) → 1 ≤ depth s
      → Reached (i + 1) (i + 1 + size a + size b) (size c) s (visit classes b (same_tail f) (visit classes a (not_tail f) s))
  unfolding Num
  to_third i m a b c n f s h =
      let k = i + 1 + size a + size b in
      let p = past (i + 1) k (size c) (i + 1) a n.1 (omega arith) (λ x l u p q. omega arith) (not_tail f) s h in
      reached (by (p ⨾ past (i + 1) k (size c) (i + 1 + size a) b n.2 (omega arith) (λ x l u p q. omega arith) (same_tail f) _ (stays p h)))

  -- those of a let
  pub to_let_body : (i : ℕ) (m : Node) (xs : List Ident) (es : Trees) (b : Tree) → Num i (letin m xs es b) → (f : Flags) (s : State) → 1 ≤ depth s
      → Reached (i + 1) (i + 1 + length xs + sizes es) (size b) s
      (open_let m xs f.height f.function (with_context s.context (visit_arguments classes es (not_tail f) (with_context NONE s))))
  unfolding Num
  to_let_body i m xs es b n f s h =
      let k = i + 1 + length xs + sizes es in
      let p = past_all (i + 1) k (size b) (i + 1 + length xs) es n.3 (omega arith) (λ x l u p q. omega arith) (not_tail f) (with_context NONE s) h in
      reached (by (context NONE ⨾ p ⨾ context s.context) ⨟ into_let m xs f.height f.function _
      (names_writes (Beside (i + 1) k (size b)) (i + 1) xs n.2 (λ x l u. (omega arith, λ p q. omega arith))))

  -- the body of a define and of a lambda
  pub to_define_body : (i : ℕ) (m : Node) (x : Ident) (b : Tree) → Num i (define m x b) → (f : Flags) (s : State)
      → Reached (i + 1) (i + 2) (size b) s (open_define classes f.direct (is_lambda b) x b s)
  unfolding Num
  to_define_body i m x b n f s = reached (by (before_changes classes f.direct (is_lambda b) x b s (omega (arith, n.1), λ p q. omega (arith, n.1))))

  pub to_lambda_body : (i : ℕ) (m : Node) (xs : List Ident) (b : Tree) → Num i (lambda m xs b) → (s : State)
      → Reached (i + 1) (i + 1 + length xs) (size b) s (open_lambda m xs s)
  unfolding Num
  to_lambda_body i m xs b n s =
      reached (into_lambda m xs s (names_writes (Beside (i + 1) (i + 1 + length xs) (size b)) (i + 1) xs n.1 (λ x l u. (omega arith, λ p q. omega arith))))

  -- the head of a call
  pub to-head : (i : ℕ) (m : Node) (e : Tree) (es : Trees) → Num i (call m e es) → (f : Flags) (s : State) → 1 ≤ depth s
      → Reached (i + 1) (i + 1) (size e) s (visit_arguments classes es (argument_flags f) s)
  unfolding Num
  to-head i m e es n f s h =
      reached (by (past_all (i + 1) (i + 1) (size e) (i + 1 + size e) es n.2 (omega arith) (λ x l u p q. omega arith) (argument_flags f) s h))

-- the expression of a set!
pub to_set : (i k m : ℕ) (x : Ident) (s : State) → Reached i k m s (clear_context x s)
to_set i k m x s = reached (by (clear_changes x s))
