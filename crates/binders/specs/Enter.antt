-- What the functions by which names enter promise, of every state that the tables hold.
use Rattle.std.specs.Prelude.{ℕ, ◌+◌, ◌≤◌, ◌<◌, List, Bool, cond, ◌≡◌, length, Option}
use Rattle.table.specs.Layout.{layout}
use Rattle.tree.specs.Tree.{Ident}
use Rattle.semantic.specs.Information.{new}
use Rattle.semantic.specs.Rows.{Variable, ListEntry, put_list_entry}
use Rattle.semantic.specs.declared.IdentifierStatus.{IdentifierStatus}
use Rattle.semantic.specs.declared.IdentifierStatus.TheVariants.{HeapAllocated}
use Rattle.semantic.specs.declared.ListAt.{ListAt}
use Rattle.pass.specs.State.{State, Entry, insert, local_entry, heap_entry, depth}
use Rattle.pass.specs.Read.{span, enter}
use Rattle.pass.specs.Lists.{list_in}
use Rattle.pass.specs.Lambda.{is_heap, or_zero, note_heap, enter_names}
use Rattle.pass.specs.Run.{list_entries_most}
use Rattle.work.specs.Passes.{with_second}
use Rattle.work.specs.Works.{Works}
use Rattle.work.specs.Tied.{raw, Tied, Fits}
use Rattle.work.specs.declared.Pass.{Pass}
use Rattle.work.specs.declared.SecondRefusal.{SecondRefusal}
use Rattle.walk.specs.declared.uses.Names.{Names}
use Rattle.names.specs.Contract.{NamesRoom, with_name, Does}
use Rattle.lists.specs.Contract.{Told, Inside}
use Rattle.binders.specs.declared.enter.Entering.{Entering}
use Rattle.binders.specs.declared.enter.EnteredNames.{EnteredNames}

abbrev pub FewHeaps : Option ℕ → Type 0
FewHeaps o = or_zero o ≤ list_entries_most

-- whether the entry at place j of a list is captured and mutated
pub record TellsHeap (A : List ℕ) (before : ListAt) (j : ℕ) (r : Bool) : Type 0 where
  pub is : (l : List ListEntry) → A ≡ layout put_list_entry l → length l ≡ list_entries_most → r ≡ is_heap (list_in l before) j

-- One name enters

-- by whether it is on the heap: what is noted first, its entry, and how it enters then

abbrev pub noted_name : Bool → Option ℕ → Ident → State → State
noted_name heap heaps x s = cond heap (note_heap heaps x s) s

abbrev pub name_entry : Bool → ℕ → Option ℕ → ℕ → ℕ → ℕ → Entry
name_entry heap base heaps j h d = cond heap (heap_entry j (h + or_zero heaps) d) (local_entry (base + j) d)

abbrev pub entered_name : Bool → IdentifierStatus → ℕ → Option ℕ → ℕ → ℕ → Ident → State → State
entered_name heap kind base heaps j h x s =
    insert x.at (Variable (new (cond heap HeapAllocated kind) (depth s) (span x))) (enter x (name_entry heap base heaps j h (depth s)) s)

pub record NotesHeap (heap : Bool) (heaps : Option ℕ) (at : ℕ) (before r : Option SecondRefusal) : Type 0 where
  pub is : (p : Pass) (w : List ℕ) (s : State) (x : Ident) → p.second ≡ before → x.at ≡ at → Works p w s → Works (with_second r p) w (noted_name heap heaps x s)

pub record EntersName (heap : Bool) (g : Entering) (rs : List ℕ) (at j h : ℕ) (p : Pass) (F w : List ℕ) (p' : Pass) (F' w' : List ℕ) : Type 0 where
  pub is : (C : List ℕ) → Does rs at p F C w (entered_name heap g.kind g.base g.heaps j h) p' F' w'

-- what its offsets may be
pub record SlotsFit (g : Entering) (j h : ℕ) : Type 0 where
  pub slot : g.base + j < 4294967296
  pub few : FewHeaps g.heaps
  pub heaps : h ≤ list_entries_most

-- Names enter one after another

pub record NamesFit (rs : List ℕ) (n : Names) (g : Entering) (p : Pass) (F A w : List ℕ) : Type 0 where
  pub captured : List ℕ
  pub s : State
  pub xs : List Ident
  pub told : Told rs n xs
  pub fits : Fits rs (raw p F captured A w) s
  pub room : NamesRoom p n.count
  pub inside : Inside g.before
  pub slots : g.base + n.count < 4294967296
  pub few : FewHeaps g.heaps

pub record EntersNames (rs : List ℕ) (n : Names) (g : Entering) (p : Pass) (F A w : List ℕ) (p' : Pass) (F' w' : List ℕ) : Type 0 where
  pub is : (C : List ℕ) (s : State) (xs : List Ident) → Told rs n xs → Fits rs (raw p F C A w) s
      → Tied (raw p' F' C A w') (enter_names g.kind g.base g.heaps (list_in s.facts.arguments g.before) xs 0 0 s)

-- the pass with what they changed
abbrev pub with_names : EnteredNames → Pass → Pass
with_names e p = with_second e.second (with_name e.name p)
