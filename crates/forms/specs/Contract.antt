-- What the functions of calls, set!s and defines promise, of every state that the tables hold.
use Rattle.std.specs.Prelude.{ℕ, ◌+◌, List, Bool, true, false, ◌≡◌, length}
use Rattle.tree.specs.Tree.{Ident, Node, Tree, Trees, define, call, many, size}
use Rattle.tree.specs.Core.{cores}
use Rattle.tree.specs.Stands.{Stands, StandAll}
use Rattle.semantic.specs.Information.{NONE}
use Rattle.semantic.specs.declared.IdentifierStatus.{IdentifierStatus}
use Rattle.semantic.specs.declared.IdentifierStatus.TheVariants.{Local}
use Rattle.pass.specs.State.{State}
use Rattle.pass.specs.Read.{enter_define}
use Rattle.pass.specs.Visit.{Flags, is_lambda, close_call, clear_context, open_define, close_define, enter_child, enter_children}
use Rattle.work.specs.Passes.{in_context}
use Rattle.work.specs.Tied.{raw, Tied, Fits}
use Rattle.work.specs.declared.Pass.{Pass}
use Rattle.walk.specs.Contract.{body_of}
use Rattle.walk.specs.declared.body.Body.{Body as Says}
use Rattle.names.specs.Contract.{NamesRoom, with_name}
use Rattle.forms.specs.declared.defines.EnteredDefine.{EnteredDefine}

-- Call

pub record CallFits (rs : List ℕ) (at first k : ℕ) (p : Pass) (F w : List ℕ) : Type 0 where
  pub names : ℕ
  pub captured : List ℕ
  pub arguments : List ℕ
  pub s : State
  pub n : Node
  pub h : Tree
  pub es : Trees
  pub stands : Stands names rs at (call n h es)
  pub place : first ≡ at + 1 + size h
  pub count : k ≡ many es
  pub fits : Fits rs (raw p F captured arguments w) s

pub record ClosesCall (rs : List ℕ) (at first k : ℕ) (tail : Bool) (counter : ℕ) (p : Pass) (F w : List ℕ) (F' : List ℕ) : Type 0 where
  pub is : (N : ℕ) (C A : List ℕ) (s : State) (n : Node) (h : Tree) (es : Trees) (f : Flags) → Stands N rs at (call n h es) → first ≡ at + 1 + size h
      → k ≡ many es → tail ≡ f.tail → counter ≡ f.counter → Fits rs (raw p F C A w) s → Tied (raw p F' C A w) (close_call n h es f s)

-- set!
pub record ClearsContext (at : ℕ) (p : Pass) (F : List ℕ) (p' : Pass) : Type 0 where
  pub is : (rs C A w : List ℕ) (s : State) (x : Ident) → x.at ≡ at → Fits rs (raw p F C A w) s → Tied (raw p' F C A w) (clear_context x s)

-- Define

pub record DefineFits (rs : List ℕ) (at : ℕ) (p : Pass) (F w : List ℕ) : Type 0 where
  pub names : ℕ
  pub captured : List ℕ
  pub arguments : List ℕ
  pub s : State
  pub n : Node
  pub x : Ident
  pub t : Tree
  pub stands : Stands names rs at (define n x t)
  pub fits : Fits rs (raw p F captured arguments w) s
  pub room : NamesRoom p 1

-- the pass with what it changed
abbrev pub with_define : EnteredDefine → Pass → Pass
with_define d p = in_context d.context (with_name d.name p)

pub record OpensDefine (rs : List ℕ) (at : ℕ) (direct : Bool) (b : Says) (p : Pass) (F w : List ℕ) (p' : Pass) (F' w' : List ℕ) : Type 0 where
  pub is : (classes C A : List ℕ) (s : State) (n : Node) (x : Ident) (t : Tree) → Stands (length classes) rs at (define n x t) → b ≡ body_of classes t
      → Fits rs (raw p F C A w) s → Tied (raw p' F' C A w') (open_define classes direct (is_lambda t) x t s)

pub record ClosesDefine (rs : List ℕ) (at : ℕ) (direct : Bool) (context : ℕ) (b : Says) (p : Pass) (F w : List ℕ) (p' : Pass) (F' w' : List ℕ) : Type 0 where
  pub is : (classes C A : List ℕ) (s : State) (n : Node) (x : Ident) (t : Tree) → Stands (length classes) rs at (define n x t) → b ≡ body_of classes t
      → Fits rs (raw p F C A w) s → Tied (raw p' F' C A w') (close_define classes direct (is_lambda t) context x t s)

-- a value define enters, after its body

abbrev pub enter_inner_value : List ℕ → Bool → Ident → Tree → State → State
enter_inner_value classes true x b s = s
enter_inner_value classes false x b s = enter_define classes Local NONE x b s

pub record EntersInnerValue (rs : List ℕ) (at : ℕ) (b : Says) (p : Pass) (F w : List ℕ) (p' : Pass) (F' w' : List ℕ) : Type 0 where
  pub is : (classes C A : List ℕ) (s : State) (n : Node) (x : Ident) (t : Tree) → Stands (length classes) rs at (define n x t) → b ≡ body_of classes t
      → Fits rs (raw p F C A w) s → Tied (raw p' F' C A w') (enter_inner_value classes (is_lambda t) x t s)

-- the lambda defines among k trees
pub record ChildrenFit (N : ℕ) (rs : List ℕ) (first k : ℕ) (p : Pass) (F w : List ℕ) : Type 0 where
  pub captured : List ℕ
  pub arguments : List ℕ
  pub s : State
  pub es : Trees
  pub stand : StandAll N rs first es
  pub count : k ≡ many es
  pub fits : Fits rs (raw p F captured arguments w) s
  pub room : NamesRoom p k

pub record EntersChildren (classes rs : List ℕ) (first k : ℕ) (kind : IdentifierStatus) (p : Pass) (F w : List ℕ) (p' : Pass) (F' w' : List ℕ) : Type 0 where
  pub is : (C A : List ℕ) (s : State) (es : Trees) → StandAll (length classes) rs first es → k ≡ many es → Fits rs (raw p F C A w) s
      → Tied (raw p' F' C A w') (enter_children classes kind (cores es) s)

pub record ChildFits (N : ℕ) (rs : List ℕ) (at : ℕ) (p : Pass) (F w : List ℕ) : Type 0 where
  pub captured : List ℕ
  pub arguments : List ℕ
  pub s : State
  pub t : Tree
  pub stands : Stands N rs at t
  pub fits : Fits rs (raw p F captured arguments w) s
  pub room : NamesRoom p 1

pub record EntersChild (classes rs : List ℕ) (at : ℕ) (kind : IdentifierStatus) (p : Pass) (F w : List ℕ) (p' : Pass) (F' w' : List ℕ) : Type 0 where
  pub is : (C A : List ℕ) (s : State) (t : Tree) → Stands (length classes) rs at t → Fits rs (raw p F C A w) s
      → Tied (raw p' F' C A w') (enter_child classes kind t s)
