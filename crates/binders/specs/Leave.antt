-- What the functions by which names leave promise, of every state that the tables hold.
use Rattle.std.specs.Prelude.{ℕ, ◌+◌, ◌≤◌, ◌<◌, List, ◌≡◌, length, set, Option}
use Rattle.table.specs.Layout.{layout}
use Rattle.tree.specs.Tree.{Ident}
use Rattle.scope_map.specs.ScopeMap.{newest_layer}
use Rattle.semantic.specs.Rows.{ListEntry, put_list_entry}
use Rattle.pass.specs.State.{State, entry_at, list_entry_of}
use Rattle.pass.specs.Lists.{store_arguments}
use Rattle.pass.specs.Lambda.{mark_last, list_entries_of, mark_lasts, end_parameters, leave_names, entered}
use Rattle.pass.specs.Run.{list_entries_most}
use Rattle.work.specs.Known.{Known}
use Rattle.work.specs.Coded.{last_code}
use Rattle.work.specs.Tied.{raw, Tied, Fits, Here}
use Rattle.work.specs.declared.Pass.{Pass}
use Rattle.walk.specs.declared.uses.Names.{Names}
use Rattle.lists.specs.Contract.{Told}

-- A good state is held, by tables of which some are any

pub record Marked (p : Pass) (F w : List ℕ) : Type 0 where
  pub rs : List ℕ
  pub captured : List ℕ
  pub arguments : List ℕ
  pub s : State
  pub fits : Fits rs (raw p F captured arguments w) s

-- the last use that the number tells is marked
pub record MarksLast (last : ℕ) (F F' : List ℕ) : Type 0 where
  pub is : (rs : List ℕ) (p : Pass) (C A w : List ℕ) (s : State) (o : Option Ident) → last ≡ last_code o → Fits rs (raw p F C A w) s
      → Tied (raw p F' C A w) (mark_last o s)

pub record MarksLasts (p : Pass) (F w F' : List ℕ) : Type 0 where
  pub is : (rs C A : List ℕ) (s : State) → Fits rs (raw p F C A w) s → Tied (raw p F' C A w) (mark_lasts (newest_layer s.scope.names) s)

-- Argument lists

-- a list has room in its table
pub record LayerFits (rs : List ℕ) (p : Pass) (A w : List ℕ) : Type 0 where
  pub facts : List ℕ
  pub captured : List ℕ
  pub s : State
  pub fits : Fits rs (raw p facts captured A w) s
  pub room : s.facts.arguments_top + length (newest_layer s.scope.names) ≤ list_entries_most

pub record NamesStore (rs : List ℕ) (n : Names) (p : Pass) (A w : List ℕ) : Type 0 where
  pub facts : List ℕ
  pub captured : List ℕ
  pub s : State
  pub xs : List Ident
  pub told : Told rs n xs
  pub fits : Fits rs (raw p facts captured A w) s
  pub room : s.facts.arguments_top + n.count ≤ list_entries_most

-- the binder at b is known, and its entry is held
pub record BinderFits (rs : List ℕ) (b : ℕ) (w : List ℕ) : Type 0 where
  pub p : Pass
  pub facts : List ℕ
  pub captured : List ℕ
  pub arguments : List ℕ
  pub s : State
  pub x : Ident
  pub here : Here rs b (raw p facts captured arguments w) s x

-- the binder at b becomes row `to`
pub record StoresArgument (rs : List ℕ) (b to : ℕ) (A w A' : List ℕ) : Type 0 where
  pub is : (p : Pass) (F C B : List ℕ) (l : List ListEntry) (s : State) (x : Ident) → Known rs x → x.at ≡ b → Fits rs (raw p F C B w) s → A ≡ layout put_list_entry l
      → to < length l → A' ≡ layout put_list_entry (set l to (list_entry_of x (entry_at s b)))

pub record StoresLayer (rs : List ℕ) (p : Pass) (A w : List ℕ) (p' : Pass) (A' : List ℕ) : Type 0 where
  pub is : (F C : List ℕ) (s : State) → Fits rs (raw p F C A w) s → Tied (raw p' F C A' w) (store_arguments (list_entries_of s (newest_layer s.scope.names)) s)

pub record StoresNames (rs : List ℕ) (n : Names) (p : Pass) (A w : List ℕ) (p' : Pass) (A' : List ℕ) : Type 0 where
  pub is : (F C : List ℕ) (s : State) (xs : List Ident) → Told rs n xs → Fits rs (raw p F C A w) s → Tied (raw p' F C A' w) (store_arguments (entered xs s) s)

-- Names at their end

pub record NamesEnd (rs : List ℕ) (n : Names) (p : Pass) (F w : List ℕ) : Type 0 where
  pub captured : List ℕ
  pub arguments : List ℕ
  pub s : State
  pub xs : List Ident
  pub told : Told rs n xs
  pub fits : Fits rs (raw p F captured arguments w) s

pub record EndsParameters (rs : List ℕ) (n : Names) (p : Pass) (F w F' : List ℕ) : Type 0 where
  pub is : (C A : List ℕ) (s : State) (xs : List Ident) → Told rs n xs → Fits rs (raw p F C A w) s → Tied (raw p F' C A w) (end_parameters xs s)

pub record LeavesNames (rs : List ℕ) (n : Names) (p : Pass) (F w : List ℕ) (p' : Pass) (F' w' : List ℕ) : Type 0 where
  pub is : (C A : List ℕ) (s : State) (xs : List Ident) → Told rs n xs → Fits rs (raw p F C A w) s → Tied (raw p' F' C A w') (leave_names xs s)
