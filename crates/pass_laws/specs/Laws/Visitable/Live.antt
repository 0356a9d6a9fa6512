-- How many names are live once some have entered, and after a visit.
use Rattle.std.specs.Prelude.{ℕ, suc, ◌+◌, ◌≤◌, List, Bool, length, Option}
use Rattle.std.proofs.Common.{arith}
use Rattle.tree.specs.Tree.{Ident, Node, Tree, Trees, many, size, sizes, Num, Nums}
use Rattle.tree.specs.Core.{cores}
use Rattle.semantic.specs.declared.IdentifierStatus.TheVariants.{Global, LocallyDefinedFunction}
use Rattle.pass.specs.State.{State, depth}
use Rattle.pass.specs.Read.{enter_top_level_value}
use Rattle.pass.specs.Lambda.{open_lambda, open_let}
use Rattle.pass.specs.Visit.{Flags, open_define, enter_children, visit, visit_arguments, visit_top}
use Rattle.pass_laws.specs.Stage.{entering, enterings, Layered}
use Rattle.pass_laws.specs.Laws.Stage.Still.{Stored}
use Rattle.pass_laws.specs.Laws.Stage.Entering.{apart_steps}
use Rattle.pass_laws.specs.Laws.Stage.Arguments.{Grown, value_due, children_due, before-due, open_let_due, open_lambda_due, visit_due, arguments_due}
use Rattle.pass_laws.specs.Laws.Stage.Filled.{open_lambda_stored, visit_filled, arguments_filled}
use Rattle.pass_laws.specs.Laws.Stage.Top.{top_laws}
use Rattle.pass_laws.specs.Laws.Stage.Tops.{tops_due}
use Rattle.pass_laws.specs.Laws.Preserved.{open_let_preserves, before_preserves, children_preserves, value_preserves}

abbrev living : State → ℕ
living s = length s.scope.names.live

-- where no argument entry is stored
live_more : {k : ℕ} {s t : State} → Grown k s t → Stored s t → living t ≤ living s + k
live_more g p = omega (arith, g.by, p.arguments)

pub lambda_live : (n : Node) (xs : List Ident) (s : State) → living (open_lambda n xs s) ≤ living s + length xs
lambda_live n xs s = live_more (open_lambda_due n xs s) (open_lambda_stored n xs s)

pub let_live : (n : Node) (xs : List Ident) (height : ℕ) (function : Option Node) (s : State) → living (open_let n xs height function s) ≤ living s + length xs
let_live n xs height function s = live_more (open_let_due n xs height function s) (open_let_preserves apart_steps n xs height function s).stored

module _ (classes : List ℕ) where
  pub visit_live : (i : ℕ) (t : Tree) → Num i t → (f : Flags) (s : State) → 1 ≤ depth s
      → living (visit classes t f s) + suc (entering t) ≤ living s + size t
  visit_live i t n f s h = omega (arith, visit_due classes i t n f s h, (visit_filled classes t f s).arguments)

  pub arguments_live : (i : ℕ) (ts : Trees) → Nums i ts → (f : Flags) (s : State) → 1 ≤ depth s
      → living (visit_arguments classes ts f s) + many ts ≤ living s + sizes ts
  arguments_live i ts n f s h = omega (arith, arguments_due classes i ts n f s h, (arguments_filled classes ts f s).arguments)

  pub before_live : (direct lambda : Bool) (x : Ident) (b : Tree) (s : State) → living (open_define classes direct lambda x b s) ≤ living s + 1
  before_live direct lambda x b s = live_more (before-due classes direct lambda x b s) (before_preserves apart_steps classes direct lambda x b s).stored

  pub children_live : (ts : Trees) (s : State) → living (enter_children classes LocallyDefinedFunction (cores ts) s) ≤ living s + enterings ts
  children_live ts s = live_more (children_due classes ts s) (children_preserves apart_steps classes _ (cores ts) s).stored

  -- At top level

  pub tops_live : (ts : Trees) (s : State) → living (enter_children classes Global ts s) ≤ living s + enterings ts
  tops_live ts s = live_more (tops_due classes ts s) (children_preserves apart_steps classes Global ts s).stored

  pub value_live : (x : Ident) (b : Tree) (s : State) → living (enter_top_level_value classes x b s) ≤ living s + 1
  value_live x b s = live_more (value_due classes x b s) (value_preserves apart_steps classes x b s).stored

  pub top_live : (k : ℕ) (t : Tree) → Num k t → (s : State) → Layered s → living (visit_top classes t s) + suc (entering t) ≤ living s + size t
  top_live k t n s h = let p = top_laws classes k t n s h in omega (arith, p.spared, p.filled.arguments)
