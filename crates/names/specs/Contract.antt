-- What the functions that read, set and define names promise, of every state that the tables hold.
use Rattle.std.specs.Prelude.{ℕ, ◌+◌, ◌*◌, ◌≤◌, ◌<◌, List, ◌≡◌}
use Rattle.tree.specs.Tree.{Ident, Tree}
use Rattle.scope_map.specs.Hints.{rows_length}
use Rattle.semantic.specs.Rows.{Variable}
use Rattle.semantic.specs.declared.IdentifierStatus.{IdentifierStatus}
use Rattle.semantic.specs.declared.SemanticInformation.{SemanticInformation}
use Rattle.pass.specs.State.{State, Entry, insert}
use Rattle.pass.specs.Read.{enter, enter_define, enter_top_level_value, mutate, rule_of}
use Rattle.work.specs.Coded.{coded}
use Rattle.work.specs.Works.{Works}
use Rattle.work.specs.Passes.{in_scope, with_notes}
use Rattle.work.specs.Tied.{raw, Tied, Good, Here}
use Rattle.work.specs.declared.Pass.{Pass}
use Rattle.work.specs.declared.entries.Entry.{Entry as Coded}
use Rattle.names.specs.Rules.{Same}
use Rattle.walk.specs.Contract.{body_of}
use Rattle.walk.specs.declared.body.Body.{Body}
use Rattle.names.specs.declared.define.EnteredName.{EnteredName}
use Rattle.names.specs.declared.read.Rule.{Rule}

-- one name more has room
abbrev pub Room : Pass → Type 0
Room p = 3 * p.scope.length + 3 ≤ rows_length

-- so have k
abbrev pub NamesRoom : Pass → ℕ → Type 0
NamesRoom p k = 3 * (p.scope.length + k) ≤ rows_length

-- the pass with what a name that entered changed
abbrev pub with_name : EnteredName → Pass → Pass
with_name e p = in_scope (record { depth = p.scope.depth; length = e.length }) (with_notes e.nine p.ten p.second p)

-- what it changed, in the pass after it
abbrev pub name_in : Pass → EnteredName
name_in q = record { length = q.scope.length; nine = q.nine }

-- Some state is held, and the record at holds an identifier. What the function is not lent is any table.

pub record Defined (rs : List ℕ) (at : ℕ) (p : Pass) (F w : List ℕ) : Type 0 where
  pub captured : List ℕ
  pub arguments : List ℕ
  pub s : State
  pub x : Ident
  pub here : Here rs at (raw p F captured arguments w) s x

pub record Readable (N : ℕ) (rs : List ℕ) (at : ℕ) (p : Pass) (F C w : List ℕ) : Type 0 where
  pub arguments : List ℕ
  pub s : State
  pub x : Ident
  pub here : Here rs at (raw p F C arguments w) s x
  pub named : x.name < N

-- a state becomes f of it and of the identifier at the record
pub record Does (rs : List ℕ) (at : ℕ) (p : Pass) (F C w : List ℕ) (f : Ident → State → State) (p' : Pass) (F' w' : List ℕ) : Type 0 where
  pub is : (A : List ℕ) (s : State) (x : Ident) → Here rs at (raw p F C A w) s x → Tied (raw p' F' C A w') (f x s)

-- the name at the record enters, with this entry and this fact
pub record EntersName (rs : List ℕ) (at : ℕ) (e : Coded) (v : SemanticInformation) (p : Pass) (F w : List ℕ) (p' : Pass) (F' w' : List ℕ) : Type 0 where
  pub is : (C : List ℕ) (u : Entry) → e ≡ coded u → Does rs at p F C w (λ x s. insert x.at (Variable v) (enter x u s)) p' F' w'

pub record DefinesBy (b : Body) (kind : IdentifierStatus) (a : ℕ) (rs : List ℕ) (at : ℕ) (p : Pass) (F w : List ℕ) (p' : Pass) (F' w' : List ℕ) : Type 0 where
  pub is : (classes : List ℕ) (t : Tree) (C : List ℕ) → b ≡ body_of classes t
      → Does rs at p F C w (λ x s. enter_define classes kind a x t s) p' F' w'

pub record EntersValue (b : Body) (rs : List ℕ) (at : ℕ) (p : Pass) (F w : List ℕ) (p' : Pass) (F' w' : List ℕ) : Type 0 where
  pub is : (classes : List ℕ) (t : Tree) (C : List ℕ) → b ≡ body_of classes t
      → Does rs at p F C w (λ x s. enter_top_level_value classes x t s) p' F' w'

-- which rule decides
pub record Decided (p : Pass) (w : List ℕ) : Type 0 where
  pub rs : List ℕ
  pub s : State
  pub works : Works p w s
  pub good : Good rs s

pub record Decides (p : Pass) (w : List ℕ) (name : ℕ) (r : Rule) : Type 0 where
  pub is : (rs : List ℕ) (s : State) → Works p w s → Good rs s → Same s name r (rule_of s name)

-- set!
pub record Settable (p : Pass) (F w : List ℕ) : Type 0 where
  pub rs : List ℕ
  pub captured : List ℕ
  pub arguments : List ℕ
  pub s : State
  pub good : Good rs s
  pub tied : Tied (raw p F captured arguments w) s

pub record Mutates (name : ℕ) (p : Pass) (F w : List ℕ) (F' w' : List ℕ) : Type 0 where
  pub is : (rs C A : List ℕ) (s : State) → Good rs s → Tied (raw p F C A w) s → Tied (raw p F' C A w') (mutate name s)
