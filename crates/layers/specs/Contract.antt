-- What the functions that open and close a lambda or a let promise, of every state that the tables hold.
use Rattle.std.specs.Prelude.{ℕ, ◌+◌, ◌≤◌, ◌<◌, List, Bool, ◌≡◌, length, Option, None, Some}
use Rattle.tree.specs.Tree.{Ident, Node, Tree}
use Rattle.scope_map.specs.ScopeMap.{newest_layer}
use Rattle.semantic.specs.Rows.{Blank}
use Rattle.semantic.specs.Kinds.{function_in, let_in}
use Rattle.semantic.specs.declared.FunctionInformation.{FunctionInformation}
use Rattle.semantic.specs.declared.LetInformation.{LetInformation}
use Rattle.pass.specs.State.{State, row_at}
use Rattle.pass.specs.Lambda.{open_lambda, close_lambda, open_let, close_let}
use Rattle.pass.specs.Run.{rows_most, list_entries_most}
use Rattle.work.specs.Tied.{raw, Tied, Fits}
use Rattle.work.specs.declared.Pass.{Pass}
use Rattle.walk.specs.declared.uses.Names.{Names}
use Rattle.names.specs.Contract.{NamesRoom}
use Rattle.lists.specs.Contract.{Told, Inside}
use Rattle.amending.specs.Contract.{CapturesRoom, HasBody}
use Rattle.amending.specs.declared.amend.Lambda.{Lambda}
use Rattle.flags.specs.Flags.{AroundIs}
use Rattle.flags.specs.declared.Around.{Around}

-- the depth of both maps can grow by one
pub record Shallow (p : Pass) : Type 0 where
  pub scope : p.scope.depth < 4294967295
  pub captures : p.captures.depth < 4294967295

-- Lambda

-- the lists of a lambda's fact, if it has one, lie inside, and the captures have room for the captured one
abbrev pub ListsFit : Pass → State → ℕ → Type 0
ListsFit p s at = (v : FunctionInformation) → function_in (row_at s at) ≡ Some v → Inside v.captured_vars × Inside v.arguments × CapturesRoom p v.captured_vars

pub record LambdaFits (rs : List ℕ) (at : ℕ) (n : Names) (p : Pass) (F C A w : List ℕ) : Type 0 where
  pub s : State
  pub xs : List Ident
  pub told : Told rs n xs
  pub fits : Fits rs (raw p F C A w) s
  pub few : at < rows_most
  pub room : NamesRoom p n.count
  pub shallow : Shallow p
  pub lists : ListsFit p s at

pub record OpensLambda (rs : List ℕ) (at : ℕ) (n : Names) (p : Pass) (F C A w : List ℕ) (p' : Pass) (F' C' w' : List ℕ) : Type 0 where
  pub is : (s : State) (xs : List Ident) (m : Node) → m.at ≡ at → Told rs n xs → Fits rs (raw p F C A w) s → ListsFit p s at
      → Tied (raw p' F' C' A w') (open_lambda m xs s)

-- at its end: the argument list has room where the fact is made, and the captured list lies inside where it is amended
pub record EndFits (p : Pass) (s : State) (at : ℕ) : Type 0 where
  pub made : function_in (row_at s at) ≡ None → s.facts.arguments_top + length (newest_layer s.scope.names) ≤ list_entries_most
  pub amended : (v : FunctionInformation) → function_in (row_at s at) ≡ Some v → Inside v.captured_vars
  pub captured : p.captured_top + list_entries_most < 4294967296

pub record LambdaEnds (rs : List ℕ) (at : ℕ) (d : Lambda) (p : Pass) (F C A w : List ℕ) : Type 0 where
  pub s : State
  pub xs : List Ident
  pub b : Tree
  pub told : Told rs d.names xs
  pub body : HasBody rs d b
  pub fits : Fits rs (raw p F C A w) s
  pub few : at < rows_most
  pub ends : EndFits p s at

pub record ClosesLambda (rs : List ℕ) (at : ℕ) (d : Lambda) (escapes : Bool) (p : Pass) (F C A w : List ℕ) (p' : Pass) (F' C' A' w' : List ℕ) : Type 0 where
  pub is : (s : State) (xs : List Ident) (b : Tree) (m : Node) → m.at ≡ at → Told rs d.names xs → HasBody rs d b → Fits rs (raw p F C A w) s → EndFits p s at
      → Tied (raw p' F' C' A' w') (close_lambda m xs b escapes s)

-- Let

pub record LetFits (rs : List ℕ) (at : ℕ) (n : Names) (height : ℕ) (a : Option Around) (p : Pass) (F C A w : List ℕ) : Type 0 where
  pub s : State
  pub xs : List Ident
  pub function : Option Node
  pub told : Told rs n xs
  pub fits : Fits rs (raw p F C A w) s
  pub around : AroundIs a function
  pub few : at < rows_most
  pub room : NamesRoom p n.count
  pub shallow : Shallow p
  pub slots : height + n.count < 4294967296
  pub list : (v : LetInformation) → let_in (row_at s at) ≡ Some v → Inside v.arguments
  pub outer : (m : Node) → function ≡ Some m → (m.at < rows_most) × ((v : FunctionInformation) → function_in (row_at s m.at) ≡ Some v → Inside v.captured_vars)

pub record OpensLet (rs : List ℕ) (at : ℕ) (n : Names) (height : ℕ) (a : Option Around) (p : Pass) (F C A w : List ℕ) (p' : Pass) (F' w' : List ℕ) : Type 0 where
  pub is : (s : State) (xs : List Ident) (m : Node) (function : Option Node) → m.at ≡ at → AroundIs a function → Told rs n xs
      → Fits rs (raw p F C A w) s → Tied (raw p' F' C A w') (open_let m xs height function s)

pub record LetEnds (rs : List ℕ) (at : ℕ) (n : Names) (a : Option Around) (p : Pass) (F A w : List ℕ) : Type 0 where
  pub captured : List ℕ
  pub s : State
  pub xs : List Ident
  pub function : Option Node
  pub told : Told rs n xs
  pub fits : Fits rs (raw p F captured A w) s
  pub around : AroundIs a function
  pub few : at < rows_most
  pub room : row_at s at ≡ Blank → s.facts.arguments_top + n.count ≤ list_entries_most

pub record ClosesLet (rs : List ℕ) (opened : Bool) (at : ℕ) (n : Names) (height : ℕ) (a : Option Around) (p : Pass) (F A w : List ℕ) (p' : Pass) (F' A' w' : List ℕ) : Type 0 where
  pub is : (C : List ℕ) (s : State) (xs : List Ident) (m : Node) (function : Option Node) → m.at ≡ at → AroundIs a function → Told rs n xs
      → Fits rs (raw p F C A w) s → Tied (raw p' F' C A' w') (close_let opened m xs height function s)
