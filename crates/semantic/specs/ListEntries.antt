-- The fields of an entry changed, as a second run does.
use Rattle.std.specs.Prelude.{ℕ, Bool}
use Rattle.semantic.specs.Rows.{ListEntry}
use Rattle.semantic.specs.declared.ScopeInfo.{ScopeInfo}

abbrev pub on_info : (ScopeInfo → ScopeInfo) → ListEntry → ListEntry
on_info f i = record { binder = i.binder; info = f i.info }

-- its capture offset, and where it is read
abbrev pub with_capture_offsets : ℕ → ℕ → ScopeInfo → ScopeInfo
with_capture_offsets offset read v = record {
  id = v.id;
  captured = v.captured;
  usage_count = v.usage_count;
  last_used = v.last_used;
  stack_offset = v.stack_offset;
  escapes = v.escapes;
  capture_offset = offset;
  captured_from_enclosing = v.captured_from_enclosing;
  mutated = v.mutated;
  heap_offset = v.heap_offset;
  read_capture_offset = read;
  read_heap_offset = v.read_heap_offset;
  parent_heap_offset = v.parent_heap_offset;
  local_heap_offset = v.local_heap_offset;
  depth = v.depth;
}

-- its heap offset, where it is read, its parent's and its own
abbrev pub with_heap_offsets : ℕ → ℕ → ℕ → ℕ → ScopeInfo → ScopeInfo
with_heap_offsets heap read parent local v = record {
  id = v.id;
  captured = v.captured;
  usage_count = v.usage_count;
  last_used = v.last_used;
  stack_offset = v.stack_offset;
  escapes = v.escapes;
  capture_offset = v.capture_offset;
  captured_from_enclosing = v.captured_from_enclosing;
  mutated = v.mutated;
  heap_offset = heap;
  read_capture_offset = v.read_capture_offset;
  read_heap_offset = read;
  parent_heap_offset = parent;
  local_heap_offset = local;
  depth = v.depth;
}

abbrev pub with_enclosing : Bool → ScopeInfo → ScopeInfo
with_enclosing b v = record {
  id = v.id;
  captured = v.captured;
  usage_count = v.usage_count;
  last_used = v.last_used;
  stack_offset = v.stack_offset;
  escapes = v.escapes;
  capture_offset = v.capture_offset;
  captured_from_enclosing = b;
  mutated = v.mutated;
  heap_offset = v.heap_offset;
  read_capture_offset = v.read_capture_offset;
  read_heap_offset = v.read_heap_offset;
  parent_heap_offset = v.parent_heap_offset;
  local_heap_offset = v.local_heap_offset;
  depth = v.depth;
}

abbrev pub with_heap : ℕ → ScopeInfo → ScopeInfo
with_heap h v = record {
  id = v.id;
  captured = v.captured;
  usage_count = v.usage_count;
  last_used = v.last_used;
  stack_offset = v.stack_offset;
  escapes = v.escapes;
  capture_offset = v.capture_offset;
  captured_from_enclosing = v.captured_from_enclosing;
  mutated = v.mutated;
  heap_offset = h;
  read_capture_offset = v.read_capture_offset;
  read_heap_offset = v.read_heap_offset;
  parent_heap_offset = v.parent_heap_offset;
  local_heap_offset = v.local_heap_offset;
  depth = v.depth;
}
