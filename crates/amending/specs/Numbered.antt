-- A lambda's list numbered, row by row: what the code holds, and what its functions promise.
use Rattle.std.specs.Prelude.{ℕ, zero, suc, ◌+◌, ◌≤◌, ◌<◌, List, Bool, true, false, cond, not, ◌≡◌, length, get_or, set, ltb, Option}
use Rattle.table.specs.Layout.{layout}
use Rattle.semantic.specs.Rows.{ListEntry, no_list_entry, put_list_entry}
use Rattle.semantic.specs.ListEntries.{on_info}
use Rattle.semantic.specs.declared.ListAt.{ListAt}
use Rattle.semantic.specs.declared.ScopeInfo.{ScopeInfo}
use Rattle.pass.specs.State.{State, list_entry_at}
use Rattle.pass.specs.Lists.{near, capture_from, heap_from, parent_from, numbered_capture, numbered_heap, number_row, number_rows}
use Rattle.pass.specs.Run.{list_entries_most}
use Rattle.work.specs.Tied.{raw, Tied, Good}
use Rattle.work.specs.declared.Pass.{Pass}
use Rattle.work.specs.declared.captures.Capture.{Capture as CodedCapture}
use Rattle.lists.specs.declared.rows.ListEntry.{ListEntry as Coded}
use Rattle.amending.specs.declared.number.Offsets.{Offsets}
use Rattle.lists.specs.Contract.{ListEntryIs, Held}

pub record TellsNear (p : Pass) (C w : List ℕ) (x : ℕ) (r : Option ScopeInfo) : Type 0 where
  pub is : (rs F A : List ℕ) (s : State) → Good rs s → Tied (raw p F C A w) s → r ≡ near s x

-- the offsets of the newest capture, where it is near, else an entry's own number and slot
abbrev pub offsets_from : Option ScopeInfo → ℕ → ℕ → Offsets
offsets_from o i slot = record { capture = capture_from o i; heap = heap_from o slot; parent = parent_from o slot }

-- mutated entries are numbered on the heap, others as captures
abbrev pub numbered_by : Bool → ℕ → Option ScopeInfo → ScopeInfo → ScopeInfo
numbered_by true = numbered_heap
numbered_by false = numbered_capture

abbrev pub is_due : Bool → ListEntry → Bool
is_due heap x = cond heap x.info.mutated (not x.info.mutated)

-- the entry in row r, which has this slot, takes its offsets
pub record PutsOffsets (C : List ℕ) (heap : Bool) (r i : ℕ) (o : Option ScopeInfo) (slot : ℕ) (C' : List ℕ) : Type 0 where
  pub is : (l : List ListEntry) → C ≡ layout put_list_entry l → r < length l → (get_or l r no_list_entry).info.stack_offset ≡ slot
      → C' ≡ layout put_list_entry (set l r (on_info (numbered_by heap i o) (get_or l r no_list_entry)))

abbrev pub taken_by : Coded → Bool → CodedCapture
taken_by x enclosing = record { binder = x.binder; id = x.info.id; uses = x.info.usage_count; enclosing = enclosing }

-- One row

abbrev pub numbered_row : Bool → ℕ → ℕ → State → State
numbered_row heap r i s = number_row heap (numbered_by heap) r i (list_entry_at s r) s

-- x is the entry in row r, and there is room for one capture more
pub record TakeHeld (r : ℕ) (x : Coded) (p : Pass) (C w : List ℕ) : Type 0 where
  pub rs : List ℕ
  pub held : Held rs p C w
  pub list_entry : ListEntryIs x (list_entry_at held.s r)
  pub inside : r < list_entries_most
  pub room : length held.s.captures.live < list_entries_most

pub record TakesRow (heap : Bool) (r i : ℕ) (x : Coded) (p : Pass) (C w : List ℕ) (q : Pass) (C' w' : List ℕ) : Type 0 where
  pub is : (rs F A : List ℕ) (s : State) → Good rs s → Tied (raw p F C A w) s → ListEntryIs x (list_entry_at s r) → Tied (raw q F C' A w') (numbered_row heap r i s)

pub record RowHeld (heap : Bool) (r : ℕ) (p : Pass) (C w : List ℕ) : Type 0 where
  pub rs : List ℕ
  pub held : Held rs p C w
  pub inside : r < list_entries_most
  pub room : length held.s.captures.live + cond (is_due heap (list_entry_at held.s r)) 1 0 ≤ list_entries_most

-- it is numbered, if it is due
abbrev pub row_done : Bool → ℕ → ℕ → State → State
row_done heap r i s = cond (is_due heap (list_entry_at s r)) (numbered_row heap r i s) s

pub record NumbersRow (heap : Bool) (r i : ℕ) (p : Pass) (C w : List ℕ) (o : Pass × ℕ) (C' w' : List ℕ) : Type 0 where
  pub is : (rs F A : List ℕ) (s : State) → Good rs s → Tied (raw p F C A w) s → Tied (raw o.0 F C' A w') (row_done heap r i s)
  pub next : (rs F A : List ℕ) (s : State) → Good rs s → Tied (raw p F C A w) s → o.1 ≡ cond (is_due heap (list_entry_at s r)) (suc i) i

-- Rows one after another

-- how many of the k rows from r on are due
unfoldable pub due : Bool → ℕ → ℕ → State → ℕ
due heap zero r s = 0
due heap (suc k) r s = cond (is_due heap (list_entry_at s r)) 1 0 + due heap k (suc r) s

pub record RowsHeld (heap : Bool) (k r : ℕ) (p : Pass) (C w : List ℕ) : Type 0 where
  pub rs : List ℕ
  pub held : Held rs p C w
  pub room : length held.s.captures.live + due heap k r held.s ≤ list_entries_most

abbrev pub rows_done : Bool → ℕ → ℕ → ℕ → State → State
rows_done heap k r i s = number_rows heap (numbered_by heap) k r i s

pub record NumbersRows (heap : Bool) (e : ListAt) (p : Pass) (C w : List ℕ) (q : Pass) (C' w' : List ℕ) : Type 0 where
  pub is : (rs F A : List ℕ) (s : State) → Good rs s → Tied (raw p F C A w) s → Tied (raw q F C' A w') (rows_done heap e.length e.first 0 s)

-- whether any entry of the list is mutated: the second pass has something due
pub record TellsMutated (C w : List ℕ) (e : ListAt) (r : Bool) : Type 0 where
  pub is : (p : Pass) (F A : List ℕ) (s : State) → Tied (raw p F C A w) s → r ≡ ltb 0 (due true e.length e.first s)
