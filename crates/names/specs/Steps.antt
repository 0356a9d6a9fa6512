-- What the steps of a define and of a read promise, of every state that the tables hold.
use Rattle.std.specs.Prelude.{ℕ, List, Bool, ◌≡◌, Option}
use Rattle.tree.specs.Tree.{Ident, Tree}
use Rattle.scope_map.specs.ScopeMap.{get}
use Rattle.semantic.specs.declared.IdentifierStatus.{IdentifierStatus}
use Rattle.semantic.specs.declared.ScopeInfo.{ScopeInfo}
use Rattle.semantic.specs.declared.SemanticInformation.{SemanticInformation}
use Rattle.pass.specs.State.{State, Entry, Capture, newest, entry_at, put_entry, last_entry, captured_entry, depth}
use Rattle.pass.specs.Read.{Rule, taken_capture, capture_rule, read_by, count_uses, use_capture, note_taken, define_fact, shadow, is_prelude}
use Rattle.pass.specs.Run.{rows_most}
use Rattle.work.specs.Known.{Known}
use Rattle.work.specs.Coded.{coded, capture_of}
use Rattle.work.specs.Works.{Works}
use Rattle.work.specs.Passes.{with_second}
use Rattle.work.specs.Scope.{BindersKnown}
use Rattle.work.specs.Tied.{raw, Tied, Good, Here, row_count}
use Rattle.work.specs.declared.Pass.{Pass}
use Rattle.work.specs.declared.SecondRefusal.{SecondRefusal}
use Rattle.work.specs.declared.captures.Capture.{Capture as CodedCapture}
use Rattle.work.specs.declared.entries.Entry.{Entry as Coded}
use Rattle.walk.specs.Contract.{body_of}
use Rattle.walk.specs.declared.body.Body.{Body}
use Rattle.names.specs.Rules.{Same, Stands}
use Rattle.names.specs.declared.read.Rule.{Rule as Decision}

-- the fact of a define whose name stands at the record
pub record DefineFact (b : Body) (kind : IdentifierStatus) (alias : ℕ) (rs : List ℕ) (at : ℕ) (p : Pass) (w : List ℕ) (r : SemanticInformation) : Type 0 where
  pub is : (classes : List ℕ) (t : Tree) (s : State) (x : Ident) → b ≡ body_of classes t → Known rs x → x.at ≡ at → Works p w s → BindersKnown rs s
      → r ≡ define_fact classes kind alias x t s

-- the fact of the name's newest entry is marked: what is held at a record of that name is held still
pub record Shadows (name : ℕ) (p : Pass) (F w F' : List ℕ) : Type 0 where
  pub here : (rs : List ℕ) (at : ℕ) (classes C A : List ℕ) (s : State) (x : Ident) → name ≡ x.name → Here rs at (raw p F C A w) s x
      → Here rs at (raw p F' C A w) (shadow classes (newest s x.name) s) x

-- which rule decides, for a binder at b that is neither global nor local
pub record DecidesCapture (p : Pass) (w : List ℕ) (name b : ℕ) (r : Decision) : Type 0 where
  pub is : (s : State) (y : Ident) → Works p w s → y.at ≡ b → Same s name r (capture_rule y (get s.captures name))

-- a state is held, the record at holds an identifier, and the record b another
pub record Bound (rs : List ℕ) (at b : ℕ) (F w : List ℕ) : Type 0 where
  pub p : Pass
  pub captured : List ℕ
  pub arguments : List ℕ
  pub s : State
  pub x : Ident
  pub y : Ident
  pub here : Here rs at (raw p F captured arguments w) s x
  pub known : Known rs y
  pub bound : y.at ≡ b

-- what a read is told of the identifier x: whether its name is a prelude's, or the depth of the scope

abbrev pub ToldPrelude : Bool → List ℕ → Ident → State → Type 0
ToldPrelude b classes x s = b ≡ is_prelude classes x.name

abbrev pub ToldDepth : ℕ → List ℕ → Ident → State → Type 0
ToldDepth d classes x s = d ≡ depth s

-- the identifier at the record is read by a rule of the binder at b, where Q holds of it
pub record ReadsBy (rule : Ident → Rule) (Q : List ℕ → Ident → State → Type 0) (rs : List ℕ) (at b : ℕ) (F w F' w' : List ℕ) : Type 0 where
  pub is : (classes : List ℕ) (p : Pass) (C A : List ℕ) (s : State) (x y : Ident) → Here rs at (raw p F C A w) s x → Known rs y → y.at ≡ b → Q classes x s
      → Tied (raw p F' C A w') (read_by classes (rule y) x s)

-- e is the entry of the binder at b, and the binder's fact takes its uses
pub record PutsUse (b : ℕ) (e : Coded) (F w F' w' : List ℕ) : Type 0 where
  pub is : (p : Pass) (C A : List ℕ) (s : State) (y : Ident) (v : Entry) → y.at ≡ b → row_count s ≡ rows_most → e ≡ coded v → Tied (raw p F C A w) s
      → Tied (raw p F' C A w') (count_uses v.usage_count y (put_entry y.at v s))

-- refusal 12, or not, of every pass that had this noted before
pub record NotesTaken (v : ScopeInfo) (at : ℕ) (before r : Option SecondRefusal) : Type 0 where
  pub is : (p : Pass) (w : List ℕ) (s : State) (x : Ident) → p.second ≡ before → x.at ≡ at → Works p w s → Works (with_second r p) w (note_taken v x s)

-- A capture that is taken

-- some state is held, and a capture stands at the place
pub record Takeable (place : ℕ) (w : List ℕ) : Type 0 where
  pub p : Pass
  pub rs : List ℕ
  pub s : State
  pub name : ℕ
  pub row : ℕ
  pub c : Capture
  pub works : Works p w s
  pub good : Good rs s
  pub stands : Stands s name place row c

pub record UsesTaken (at b place : ℕ) (w : List ℕ) (t : CodedCapture) (w' : List ℕ) : Type 0 where
  pub loaded : (p : Pass) (s : State) (name row : ℕ) (c : Capture) → Works p w s → Stands s name place row c → t ≡ capture_of c
  pub is : (p : Pass) (s : State) (x y : Ident) (row : ℕ) (c : Capture) → x.at ≡ at → y.at ≡ b → Works p w s → Stands s x.name place row c
      → Works p w' (put_entry y.at (captured_entry (last_entry x (entry_at s y.at))) (use_capture x.name s))

pub record TakenBound (rs : List ℕ) (at b place row : ℕ) (p : Pass) (F C w : List ℕ) : Type 0 where
  pub arguments : List ℕ
  pub s : State
  pub x : Ident
  pub y : Ident
  pub c : Capture
  pub here : Here rs at (raw p F C arguments w) s x
  pub known : Known rs y
  pub bound : y.at ≡ b
  pub stands : Stands s x.name place row c

pub record ReadsTaken (rs : List ℕ) (at b place row : ℕ) (p : Pass) (F C w : List ℕ) (r : Option SecondRefusal) (F' w' : List ℕ) : Type 0 where
  pub is : (classes A : List ℕ) (s : State) (x y : Ident) (c : Capture) → Here rs at (raw p F C A w) s x → Known rs y → y.at ≡ b
      → Stands s x.name place row c
      → Tied (raw (with_second r p) F' C A w') (read_by classes (taken_capture y c) x s)
