-- What the pass works on: the facts, the scope, the captures, the define that it is in, and the refusals noted. `Analysis` and `AnalysisPass`.
use Rattle.std.specs.Prelude.{ℕ, suc, List, Bool, true, false, get_or, set, Option, None, Some}
use Rattle.tree.specs.Tree.{Ident}
use Rattle.tree.specs.Check.{Refusal}
use Rattle.scope_map.specs.ScopeMap.{ScopeMap, Live, get}
use Rattle.semantic.specs.Information.{NONE}
use Rattle.semantic.specs.Rows.{Row, Blank, ListEntry, no_list_entry}
use Rattle.semantic.specs.declared.SemanticInformation.{SemanticInformation}
use Rattle.semantic.specs.declared.ScopeInfo.{ScopeInfo}
pub use Rattle.semantic.specs.Amend.{amended}

-- what the pass knows of a live name: its `ScopeInfo`, as far as it changes while the name lives
pub record Entry : Type 0 where
  pub captured : Bool
  pub mutated : Bool
  pub usage_count : ℕ
  pub last_used : Option Ident
  pub stack_offset : ℕ
  pub heap_offset : ℕ  -- also the read heap offset
  pub depth : ℕ

-- the facts; each list of captured or argument entries is some rows of its table, one after another
pub record Facts : Type 0 where
  pub rows : List Row
  pub captured : List ListEntry
  pub captured_top : ℕ  -- how many captured entries all lists have
  pub arguments : List ListEntry
  pub arguments_top : ℕ

-- the live names with their binders, and the entry of each binder, at its record's place
pub record Scope : Type 0 where
  pub names : ScopeMap Ident
  pub entries : List Entry

-- the first record of each refusal of a run
pub record Noted : Type 0 where
  pub nine : Option ℕ
  pub ten : Option ℕ
  pub second : Option Refusal  -- 11 or 12

-- what a lambda takes from around it, on a second run: an entry of its captured list, with a count of uses of its own
pub record Capture : Type 0 where
  pub binder : Ident
  pub row : ℕ  -- of the captured entries
  pub usage_count : ℕ
  pub from_enclosing : Bool  -- the lambda around takes the name too

pub record State : Type 0 where
  pub facts : Facts
  pub scope : Scope
  pub captures : ScopeMap Capture
  pub context : ℕ  -- `defining_context`: the id of the define that the walk is in, or NONE
  pub noted : Noted

-- One part changed

abbrev pub with_facts : Facts → State → State
with_facts f s = record { facts = f; scope = s.scope; captures = s.captures; context = s.context; noted = s.noted }

abbrev pub with_scope : Scope → State → State
with_scope c s = record { facts = s.facts; scope = c; captures = s.captures; context = s.context; noted = s.noted }

abbrev pub with_captures : ScopeMap Capture → State → State
with_captures m s = record { facts = s.facts; scope = s.scope; captures = m; context = s.context; noted = s.noted }

abbrev pub with_context : ℕ → State → State
with_context c s = record { facts = s.facts; scope = s.scope; captures = s.captures; context = c; noted = s.noted }

abbrev pub with_noted : Noted → State → State
with_noted n s = record { facts = s.facts; scope = s.scope; captures = s.captures; context = s.context; noted = n }

abbrev pub with_rows : List Row → State → State
with_rows l s = with_facts (record {
  rows = l;
  captured = s.facts.captured;
  captured_top = s.facts.captured_top;
  arguments = s.facts.arguments;
  arguments_top = s.facts.arguments_top;
}) s

abbrev pub with_captured : List ListEntry → State → State
with_captured l s = with_facts (record {
  rows = s.facts.rows;
  captured = l;
  captured_top = s.facts.captured_top;
  arguments = s.facts.arguments;
  arguments_top = s.facts.arguments_top;
}) s

-- the entry at a row of the captured entries
abbrev pub list_entry_at : State → ℕ → ListEntry
list_entry_at s r = get_or s.facts.captured r no_list_entry

abbrev pub info_at : State → ℕ → ScopeInfo
info_at s r = (list_entry_at s r).info

abbrev pub with_names : ScopeMap Ident → State → State
with_names m s = with_scope (record { names = m; entries = s.scope.entries }) s

abbrev pub with_entries : List Entry → State → State
with_entries l s = with_scope (record { names = s.scope.names; entries = l }) s

-- Rows

abbrev pub row_at : State → ℕ → Row
row_at s i = get_or s.facts.rows i Blank

unfoldable pub insert : ℕ → Row → State → State
insert i r s = with_rows (set s.facts.rows i r) s

-- the identifier's fact at the record i is changed, if it has one
unfoldable pub amend : (SemanticInformation → SemanticInformation) → ℕ → State → State
amend f i s = insert i (amended f (row_at s i)) s

-- Entries

abbrev pub no_entry : Entry
no_entry = record {
  captured = false;
  mutated = false;
  usage_count = 0;
  last_used = None;
  stack_offset = 0;
  heap_offset = 0;
  depth = 0;
}

abbrev pub entry_at : State → ℕ → Entry
entry_at s i = get_or s.scope.entries i no_entry

unfoldable pub put_entry : ℕ → Entry → State → State
put_entry i e s = with_entries (set s.scope.entries i e) s

-- `ScopeInfo::new_top_level`, `new_local` and `new_heap_allocated_var`
abbrev pub top_level_entry : Entry
top_level_entry = record {
  captured = false;
  mutated = false;
  usage_count = 0;
  last_used = None;
  stack_offset = NONE;
  heap_offset = NONE;
  depth = 1;
}

abbrev pub local_entry : ℕ → ℕ → Entry
local_entry slot d = record {
  captured = false;
  mutated = false;
  usage_count = 0;
  last_used = None;
  stack_offset = slot;
  heap_offset = NONE;
  depth = d;
}

abbrev pub heap_entry : ℕ → ℕ → ℕ → Entry
heap_entry slot heap d = record {
  captured = true;
  mutated = true;
  usage_count = 0;
  last_used = None;
  stack_offset = slot;
  heap_offset = heap;
  depth = d;
}

-- an entry that is used once more; by x last; captured; mutated
abbrev pub used_entry : Entry → Entry
used_entry e = record {
  captured = e.captured;
  mutated = e.mutated;
  usage_count = suc e.usage_count;
  last_used = e.last_used;
  stack_offset = e.stack_offset;
  heap_offset = e.heap_offset;
  depth = e.depth;
}

abbrev pub last_entry : Ident → Entry → Entry
last_entry x e = record {
  captured = e.captured;
  mutated = e.mutated;
  usage_count = e.usage_count;
  last_used = Some x;
  stack_offset = e.stack_offset;
  heap_offset = e.heap_offset;
  depth = e.depth;
}

abbrev pub captured_entry : Entry → Entry
captured_entry e = record {
  captured = true;
  mutated = e.mutated;
  usage_count = e.usage_count;
  last_used = e.last_used;
  stack_offset = e.stack_offset;
  heap_offset = e.heap_offset;
  depth = e.depth;
}

abbrev pub mutated_entry : Entry → Entry
mutated_entry e = record {
  captured = e.captured;
  mutated = true;
  usage_count = e.usage_count;
  last_used = e.last_used;
  stack_offset = e.stack_offset;
  heap_offset = e.heap_offset;
  depth = e.depth;
}

-- an entry as a list keeps it
abbrev pub id_of : Option Ident → ℕ
id_of None = NONE
id_of (Some x) = x.id

abbrev pub list_entry_of : Ident → Entry → ListEntry
list_entry_of b e = record {
  binder = b;
  info = record {
    id = b.id;
    captured = e.captured;
    usage_count = e.usage_count;
    last_used = id_of e.last_used;
    stack_offset = e.stack_offset;
    escapes = false;
    capture_offset = NONE;
    captured_from_enclosing = false;
    mutated = e.mutated;
    heap_offset = e.heap_offset;
    read_capture_offset = NONE;
    read_heap_offset = e.heap_offset;
    parent_heap_offset = NONE;
    local_heap_offset = NONE;
    depth = e.depth;
  };
}

-- The newest entry of a name

abbrev pub binder_in : Option (Live Ident) → Option Ident
binder_in None = None
binder_in (Some e) = Some e.value

-- the binder of the name's newest entry
abbrev pub newest : State → ℕ → Option Ident
newest s x = binder_in (get s.scope.names x)

abbrev pub depth : State → ℕ
depth s = s.scope.names.depth

-- Refusals: the first one is kept

abbrev pub or_kept : {A : Type 0} → Option A → A → Option A
or_kept (Some a) b = Some a
or_kept None b = Some b

abbrev pub note_nine : ℕ → State → State
note_nine i s = with_noted (record { nine = or_kept s.noted.nine i; ten = s.noted.ten; second = s.noted.second }) s

abbrev pub note_ten : ℕ → State → State
note_ten i s = with_noted (record { nine = s.noted.nine; ten = or_kept s.noted.ten i; second = s.noted.second }) s

abbrev pub note_second : ℕ → ℕ → State → State
note_second n i s = with_noted (record { nine = s.noted.nine; ten = s.noted.ten; second = or_kept s.noted.second (record { number = n; at = i }) }) s
