-- What the functions of a let promise.
use Rattle.std.specs.Prelude.{ℕ, ◌+◌, ◌≤◌, ◌<◌, List, Bool, true, false, ◌≡◌, Option, Some}
use Rattle.tree.specs.Tree.{Ident, Node}
use Rattle.semantic.specs.Rows.{Blank, ListEntry}
use Rattle.semantic.specs.Kinds.{function_in, let_in}
use Rattle.semantic.specs.declared.ListAt.{ListAt}
use Rattle.semantic.specs.declared.FunctionInformation.{FunctionInformation}
use Rattle.semantic.specs.declared.LetInformation.{LetInformation}
use Rattle.pass.specs.State.{State, row_at}
use Rattle.pass.specs.Lists.{list_in}
use Rattle.pass.specs.Lambda.{heaps_around, let_arguments, function_id, entered, make_let}
use Rattle.pass.specs.Run.{rows_most, list_entries_most}
use Rattle.work.specs.Tied.{raw, Tied, Fits}
use Rattle.work.specs.declared.Pass.{Pass}
use Rattle.walk.specs.declared.uses.Names.{Names}
use Rattle.lists.specs.Contract.{Told, Inside}
use Rattle.flags.specs.Flags.{AroundIs}
use Rattle.binders.specs.Enter.{FewHeaps}
use Rattle.flags.specs.declared.Around.{Around}

-- the lambda around, and its list
pub record AroundFits (a : Option Around) (F C : List ℕ) : Type 0 where
  pub rs : List ℕ
  pub p : Pass
  pub arguments : List ℕ
  pub work : List ℕ
  pub s : State
  pub function : Option Node
  pub around : AroundIs a function
  pub fits : Fits rs (raw p F C arguments work) s
  pub outer : (m : Node) → function ≡ Some m → (m.at < rows_most) × ((v : FunctionInformation) → function_in (row_at s m.at) ≡ Some v → Inside v.captured_vars)

pub record TellsHeaps (a : Option Around) (F C : List ℕ) (r : Option ℕ) : Type 0 where
  pub is : (rs : List ℕ) (p : Pass) (A w : List ℕ) (s : State) (function : Option Node) → AroundIs a function → Fits rs (raw p F C A w) s
      → r ≡ heaps_around s function
  pub few : FewHeaps r

pub record TellsFunction (a : Option Around) (r : ℕ) : Type 0 where
  pub is : (function : Option Node) → AroundIs a function → r ≡ function_id function

-- the list of the let's fact, if it has one
pub record LetAt (at : ℕ) (F : List ℕ) : Type 0 where
  pub rs : List ℕ
  pub p : Pass
  pub captured : List ℕ
  pub arguments : List ℕ
  pub work : List ℕ
  pub s : State
  pub fits : Fits rs (raw p F captured arguments work) s
  pub few : at < rows_most
  pub list : (v : LetInformation) → let_in (row_at s at) ≡ Some v → Inside v.arguments

pub record TellsLet (at : ℕ) (F : List ℕ) (r : ListAt) : Type 0 where
  pub is : (rs : List ℕ) (p : Pass) (C A w : List ℕ) (s : State) → Fits rs (raw p F C A w) s → list_in s.facts.arguments r ≡ let_arguments s (row_at s at)
  pub inside : Inside r

-- the fact is made, if there is none
abbrev pub make_if : Bool → Node → List ListEntry → ℕ → Option Node → State → State
make_if true n l height function s = make_let Blank n l height function s
make_if false n l height function s = s

pub record MakeFits (rs : List ℕ) (blank : Bool) (at : ℕ) (n : Names) (a : Option Around) (p : Pass) (F A w : List ℕ) : Type 0 where
  pub captured : List ℕ
  pub s : State
  pub xs : List Ident
  pub told : Told rs n xs
  pub fits : Fits rs (raw p F captured A w) s
  pub few : at < rows_most
  pub room : blank ≡ true → s.facts.arguments_top + n.count ≤ list_entries_most

pub record MakesLet (rs : List ℕ) (blank : Bool) (at : ℕ) (n : Names) (height : ℕ) (a : Option Around) (p : Pass) (F A w : List ℕ) (p' : Pass) (F' A' : List ℕ) : Type 0 where
  pub is : (C : List ℕ) (s : State) (xs : List Ident) (m : Node) (function : Option Node) → m.at ≡ at → AroundIs a function → Told rs n xs
      → Fits rs (raw p F C A w) s → Tied (raw p' F' C A' w) (make_if blank m (entered xs s) height function s)
