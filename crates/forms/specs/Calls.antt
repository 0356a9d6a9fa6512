-- What the functions of a call promise, as it closes.
use Rattle.std.specs.Prelude.{ℕ, List, Bool, ◌&&◌, ◌||◌, ◌≡◌, eqb}
use Rattle.tree.specs.Record.{Record}
use Rattle.tree.specs.Tree.{Ident, Node, Tree, Trees, call, many}
use Rattle.tree.specs.Core.{core, cores}
use Rattle.tree.specs.Stands.{Stands, StandAll}
use Rattle.pass.specs.State.{State, newest}
use Rattle.pass.specs.Visit.{last_use_of, same_ident, mark_argument, mark_arguments, mark_if_tail, is_self, call_fact}
use Rattle.work.specs.Known.{Known}
use Rattle.work.specs.Works.{Works}
use Rattle.work.specs.Tied.{raw, Tied, Good, Fits}
use Rattle.work.specs.declared.Pass.{Pass}

-- the record holds an identifier, and a good state is held
pub record Mentioned (rs : List ℕ) (at : ℕ) (p : Pass) (w : List ℕ) : Type 0 where
  pub s : State
  pub x : Ident
  pub known : Known rs x
  pub place : x.at ≡ at
  pub works : Works p w s
  pub good : Good rs s

pub record IsLast (rs : List ℕ) (at : ℕ) (p : Pass) (w : List ℕ) (r : Bool) : Type 0 where
  pub is : (s : State) (x : Ident) → Known rs x → x.at ≡ at → Works p w s → Good rs s → r ≡ same_ident (last_use_of s (newest s x.name)) x

-- one argument, and k of them from the record `first` on

pub record ArgumentFits (rs : List ℕ) (at : ℕ) (p : Pass) (F w : List ℕ) : Type 0 where
  pub names : ℕ
  pub captured : List ℕ
  pub arguments : List ℕ
  pub s : State
  pub t : Tree
  pub stands : Stands names rs at t
  pub fits : Fits rs (raw p F captured arguments w) s

pub record MarksArgument (rs : List ℕ) (at : ℕ) (p : Pass) (F w : List ℕ) (F' : List ℕ) : Type 0 where
  pub is : (N : ℕ) (C A : List ℕ) (s : State) (t : Tree) → Stands N rs at t → Fits rs (raw p F C A w) s → Tied (raw p F' C A w) (mark_argument t s)

pub record ArgumentsFit (rs : List ℕ) (first k : ℕ) (p : Pass) (F w : List ℕ) : Type 0 where
  pub names : ℕ
  pub captured : List ℕ
  pub arguments : List ℕ
  pub s : State
  pub es : Trees
  pub stand : StandAll names rs first es
  pub count : k ≡ many es
  pub fits : Fits rs (raw p F captured arguments w) s

pub record MarksArguments (rs : List ℕ) (first k : ℕ) (p : Pass) (F w : List ℕ) (F' : List ℕ) : Type 0 where
  pub is : (N : ℕ) (C A : List ℕ) (s : State) (es : Trees) → StandAll N rs first es → k ≡ many es → Fits rs (raw p F C A w) s
      → Tied (raw p F' C A w) (mark_arguments (cores es) s)

pub record MarksIfTail (rs : List ℕ) (first k : ℕ) (tail : Bool) (p : Pass) (F w : List ℕ) (F' : List ℕ) : Type 0 where
  pub is : (N : ℕ) (C A : List ℕ) (s : State) (es : Trees) → StandAll N rs first es → k ≡ many es → Fits rs (raw p F C A w) s
      → Tied (raw p F' C A w) (mark_if_tail tail (cores es) s)

-- the fact at the record refers to the define that the walk is in
pub record TellsSelf (at : ℕ) (p : Pass) (F : List ℕ) (r : Bool) : Type 0 where
  pub is : (rs C A w : List ℕ) (s : State) (x : Ident) → x.at ≡ at → Fits rs (raw p F C A w) s → r ≡ is_self s x

-- a constant's record: an and of none is #t
abbrev pub constant_record : Record → Bool
constant_record r = eqb r.form 2 || eqb r.form 10 && eqb r.count 0

-- the call's own fact, after its arguments
pub record Called (rs : List ℕ) (at : ℕ) (p : Pass) (F : List ℕ) : Type 0 where
  pub names : ℕ
  pub captured : List ℕ
  pub arguments : List ℕ
  pub work : List ℕ
  pub s : State
  pub n : Node
  pub h : Tree
  pub es : Trees
  pub stands : Stands names rs at (call n h es)
  pub fits : Fits rs (raw p F captured arguments work) s

pub record MakesCall (rs : List ℕ) (at : ℕ) (tail : Bool) (k : ℕ) (p : Pass) (F : List ℕ) (F' : List ℕ) : Type 0 where
  pub is : (N : ℕ) (C A w : List ℕ) (s : State) (n : Node) (h : Tree) (es : Trees) → Stands N rs at (call n h es) → Fits rs (raw p F C A w) s
      → Tied (raw p F' C A w) (call_fact (core h) n tail k s)
