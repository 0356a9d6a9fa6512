-- `Counted` of what functions of the pass answer: a set! adds 1 to the bound on counts of uses, nothing else here adds to it.
use Rattle.std.specs.Prelude.{ℕ, suc, ◌≤◌, List, Option, None, Some}
use Rattle.std.proofs.Common.{arith}
use Rattle.tree.specs.Tree.{Ident, Node, Tree}
use Rattle.tree.specs.Accepted.{All}
use Rattle.semantic.specs.Rows.{ListEntry}
use Rattle.semantic.specs.Kinds.{function_in}
use Rattle.semantic.specs.declared.FunctionInformation.{FunctionInformation}
use Rattle.semantic.specs.declared.IdentifierStatus.{IdentifierStatus}
use Rattle.pass.specs.State.{State, with_context, row_at}
use Rattle.pass.specs.Read.{enter_top_level_value, mutate}
use Rattle.pass.specs.Lambda.{enter_names, open_lambda, open_let}
use Rattle.pass.specs.Visit.{clear_context}
use Rattle.pass_laws.specs.Sound.{Lawful, Counting, anything, Counted, Listed}
use Rattle.pass_laws.specs.Laws.All.{all_of}
use Rattle.pass_laws.specs.Laws.Sound.Each.{each_context}
use Rattle.pass_laws.specs.Laws.Sound.Names.{each_value, each_grow, each_mutate}
use Rattle.pass_laws.specs.Laws.Sound.Scopes.{each_names, each_open_lambda, each_open_let}
use Rattle.pass_laws.specs.Laws.Sound.Calls.{each_clear}

pub asking_nothing : Lawful anything
asking_nothing = record { absent = tt; made = λ b e p. tt; changed = λ x v e p. tt; taken = λ r x q p. tt }

pub counting : Counting (λ k n. n ≤ k)
counting = record { none = λ k. omega arith; keep = λ k m n e h. omega arith; more = λ k n h. omega arith }

pub counted_grow : {k m : ℕ} {s : State} → k ≤ m → Counted k s → Counted m s
counted_grow {k} {m} e h = each_grow counting k m e h

pub any_listed : (f : Option FunctionInformation) → Listed (λ r. Unit {0}) f
any_listed None = tt
any_listed (Some v) = λ r a b. tt

pub any-names : (xs : List Ident) → All (λ x. Unit {0}) xs
any-names xs = all_of _ (λ x. tt) xs

module _ {k : ℕ} where
  few : 0 ≤ k
  few = omega arith

  module _ (classes : List ℕ) where
    pub counted_value : (x : Ident) (b : Tree) {s : State} → Counted k s → Counted k (enter_top_level_value classes x b s)
    counted_value x b h = each_value few classes x b tt h

  pub counted-mutate : (x : ℕ) {s : State} → Counted k s → Counted (suc k) (mutate x s)
  counted-mutate x h = each_mutate counting k x h

  pub counted-names : (kind : IdentifierStatus) (base : ℕ) (heaps : Option ℕ) (before : List ListEntry) (xs : List Ident) (j n : ℕ) {s : State}
      → Counted k s → Counted k (enter_names kind base heaps before xs j n s)
  counted-names kind base heaps before xs j n h = each_names asking_nothing few kind base heaps before xs j n (any-names xs) h

  pub counted_context : (c : ℕ) {s : State} → Counted k s → Counted k (with_context c s)
  counted_context c h = each_context c h

  pub counted_open_lambda : (n : Node) (xs : List Ident) {s : State} → Counted k s → Counted k (open_lambda n xs s)
  counted_open_lambda n xs {s} h = each_open_lambda asking_nothing few n xs (any_listed (function_in (row_at s n.at))) (any-names xs) h

  pub counted_open_let : (n : Node) (xs : List Ident) (height : ℕ) (function : Option Node) {s : State} → Counted k s
      → Counted k (open_let n xs height function s)
  counted_open_let n xs height function h = each_open_let asking_nothing few n xs height function (any-names xs) h

  pub counted_clear : (x : Ident) {s : State} → Counted k s → Counted k (clear_context x s)
  counted_clear x h = each_clear asking_nothing few x h
