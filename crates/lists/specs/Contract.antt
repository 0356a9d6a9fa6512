-- What the functions over captured lists promise, of every state that the tables hold.
use Rattle.std.specs.Prelude.{ℕ, ◌+◌, ◌≤◌, List, map, ◌≡◌, length, set, Some}
use Rattle.tree.specs.Tree.{Ident}
use Rattle.tree.specs.Stands.{NamesStand}
use Rattle.semantic.specs.Rows.{ListEntry}
use Rattle.semantic.specs.declared.ListAt.{ListAt}
use Rattle.semantic.specs.declared.ScopeInfo.{ScopeInfo}
use Rattle.pass.specs.State.{State, Entry, list_entry_at, list_entry_of, with_captured}
use Rattle.pass.specs.Lists.{captured_vars, sort_by_id, store_captured}
use Rattle.pass.specs.Lambda.{name_in}
use Rattle.pass.specs.Run.{list_entries_most}
use Rattle.work.specs.Known.{Known}
use Rattle.work.specs.Coded.{coded}
use Rattle.work.specs.Tied.{raw, Tied, Good}
use Rattle.work.specs.declared.Pass.{Pass}
use Rattle.work.specs.declared.entries.Entry.{Entry as Coded}
use Rattle.walk.specs.declared.uses.Names.{Names}
use Rattle.lists.specs.declared.rows.ListEntry.{ListEntry as Coded-as-ListEntry}

-- the names xs are the ones told
pub record Told (rs : List ℕ) (n : Names) (xs : List Ident) : Type 0 where
  pub many : ℕ
  pub stand : NamesStand many rs n.first xs
  pub count : length xs ≡ n.count

-- a list lies inside its table
abbrev pub Inside : ListAt → Type 0
Inside e = e.first + e.length ≤ list_entries_most

-- Captured entries, each with its binder's record

pub record ListEntryIs (i : Coded-as-ListEntry) (x : ListEntry) : Type 0 where
  pub name : i.name ≡ x.binder.name
  pub binder : i.binder ≡ x.binder.at
  pub info : i.info ≡ x.info

pub record LoadsListEntry (C w : List ℕ) (r : ℕ) (i : Coded-as-ListEntry) : Type 0 where
  pub is : (p : Pass) (F A : List ℕ) (s : State) → Tied (raw p F C A w) s → ListEntryIs i (list_entry_at s r)

pub record StoresListEntry (C w : List ℕ) (r : ℕ) (i : Coded-as-ListEntry) (C' w' : List ℕ) : Type 0 where
  pub is : (p : Pass) (F A : List ℕ) (s : State) (x : ListEntry) → ListEntryIs i x → Tied (raw p F C A w) s
      → Tied (raw p F C' A w') (with_captured (set s.facts.captured r x) s)

-- an entry as a list keeps it
pub record Infos (rs : List ℕ) (b : ℕ) (e : Coded) (r : ScopeInfo) : Type 0 where
  pub is : (x : Ident) (v : Entry) → Known rs x → x.at ≡ b → e ≡ coded v → ((y : Ident) → v.last_used ≡ Some y → Known rs y) → r ≡ (list_entry_of x v).info

-- Some state is held, by tables of which the facts and the arguments are any; and it is good

pub record Held (rs : List ℕ) (p : Pass) (C w : List ℕ) : Type 0 where
  pub facts : List ℕ
  pub arguments : List ℕ
  pub s : State
  pub good : Good rs s
  pub tied : Tied (raw p facts C arguments w) s

-- a state becomes f of it, if it is good
pub record Becomes (rs : List ℕ) (p : Pass) (C w : List ℕ) (f : State → State) (p' : Pass) (C' w' : List ℕ) : Type 0 where
  pub is : (F A : List ℕ) (s : State) → Good rs s → Tied (raw p F C A w) s → Tied (raw p' F C' A w') (f s)

-- the list of a lambda that ends, with the parameters xs
pub record StoresList (rs : List ℕ) (at : ℕ) (n : Names) (p : Pass) (C w : List ℕ) (p' : Pass) (C' w' : List ℕ) : Type 0 where
  pub is : (xs : List Ident) → Told rs n xs → Becomes rs p C w (λ s. store_captured at (sort_by_id (captured_vars (map name_in xs) s)) s) p' C' w'
