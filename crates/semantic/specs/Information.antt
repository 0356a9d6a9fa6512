-- The builder methods of `SemanticInformation`: a fact made anew, and one field of it changed.
use Rattle.std.specs.Prelude.{ℕ, Bool, true, false}
use Rattle.semantic.specs.declared.IdentifierStatus.{IdentifierStatus}
use Rattle.semantic.specs.declared.Span.{Span}
use Rattle.semantic.specs.declared.SemanticInformation.{SemanticInformation}

-- no id, no number
abbrev pub NONE : ℕ
NONE = 4294967295

-- a fact with nothing but its kind, its depth and its place
abbrev pub new : IdentifierStatus → ℕ → Span → SemanticInformation
new kind depth span = record { kind = kind; set_bang = false; depth = depth; shadows = NONE; usage_count = 0; span = span; refers_to = NONE; aliases_to = NONE; builtin = false; last_usage = false; stack_offset = NONE; escapes = false; capture_index = NONE; read_capture_offset = NONE; captured_from_enclosing = false; heap_offset = NONE; read_heap_offset = NONE; is_shadowed = false; is_required_identifier = false }

abbrev pub shadows : ℕ → SemanticInformation → SemanticInformation
shadows a i = record { kind = i.kind; set_bang = i.set_bang; depth = i.depth; shadows = a; usage_count = i.usage_count; span = i.span; refers_to = i.refers_to; aliases_to = i.aliases_to; builtin = i.builtin; last_usage = i.last_usage; stack_offset = i.stack_offset; escapes = i.escapes; capture_index = i.capture_index; read_capture_offset = i.read_capture_offset; captured_from_enclosing = i.captured_from_enclosing; heap_offset = i.heap_offset; read_heap_offset = i.read_heap_offset; is_shadowed = i.is_shadowed; is_required_identifier = i.is_required_identifier }

abbrev pub with_usage_count : ℕ → SemanticInformation → SemanticInformation
with_usage_count a i = record { kind = i.kind; set_bang = i.set_bang; depth = i.depth; shadows = i.shadows; usage_count = a; span = i.span; refers_to = i.refers_to; aliases_to = i.aliases_to; builtin = i.builtin; last_usage = i.last_usage; stack_offset = i.stack_offset; escapes = i.escapes; capture_index = i.capture_index; read_capture_offset = i.read_capture_offset; captured_from_enclosing = i.captured_from_enclosing; heap_offset = i.heap_offset; read_heap_offset = i.read_heap_offset; is_shadowed = i.is_shadowed; is_required_identifier = i.is_required_identifier }

abbrev pub refers_to : ℕ → SemanticInformation → SemanticInformation
refers_to a i = record { kind = i.kind; set_bang = i.set_bang; depth = i.depth; shadows = i.shadows; usage_count = i.usage_count; span = i.span; refers_to = a; aliases_to = i.aliases_to; builtin = i.builtin; last_usage = i.last_usage; stack_offset = i.stack_offset; escapes = i.escapes; capture_index = i.capture_index; read_capture_offset = i.read_capture_offset; captured_from_enclosing = i.captured_from_enclosing; heap_offset = i.heap_offset; read_heap_offset = i.read_heap_offset; is_shadowed = i.is_shadowed; is_required_identifier = i.is_required_identifier }

abbrev pub aliases_to : ℕ → SemanticInformation → SemanticInformation
aliases_to a i = record { kind = i.kind; set_bang = i.set_bang; depth = i.depth; shadows = i.shadows; usage_count = i.usage_count; span = i.span; refers_to = i.refers_to; aliases_to = a; builtin = i.builtin; last_usage = i.last_usage; stack_offset = i.stack_offset; escapes = i.escapes; capture_index = i.capture_index; read_capture_offset = i.read_capture_offset; captured_from_enclosing = i.captured_from_enclosing; heap_offset = i.heap_offset; read_heap_offset = i.read_heap_offset; is_shadowed = i.is_shadowed; is_required_identifier = i.is_required_identifier }

abbrev pub mark_builtin : SemanticInformation → SemanticInformation
mark_builtin i = record { kind = i.kind; set_bang = i.set_bang; depth = i.depth; shadows = i.shadows; usage_count = i.usage_count; span = i.span; refers_to = i.refers_to; aliases_to = i.aliases_to; builtin = true; last_usage = i.last_usage; stack_offset = i.stack_offset; escapes = i.escapes; capture_index = i.capture_index; read_capture_offset = i.read_capture_offset; captured_from_enclosing = i.captured_from_enclosing; heap_offset = i.heap_offset; read_heap_offset = i.read_heap_offset; is_shadowed = i.is_shadowed; is_required_identifier = i.is_required_identifier }

abbrev pub mark_required : SemanticInformation → SemanticInformation
mark_required i = record { kind = i.kind; set_bang = i.set_bang; depth = i.depth; shadows = i.shadows; usage_count = i.usage_count; span = i.span; refers_to = i.refers_to; aliases_to = i.aliases_to; builtin = i.builtin; last_usage = i.last_usage; stack_offset = i.stack_offset; escapes = i.escapes; capture_index = i.capture_index; read_capture_offset = i.read_capture_offset; captured_from_enclosing = i.captured_from_enclosing; heap_offset = i.heap_offset; read_heap_offset = i.read_heap_offset; is_shadowed = i.is_shadowed; is_required_identifier = true }

abbrev pub with_offset : ℕ → SemanticInformation → SemanticInformation
with_offset a i = record { kind = i.kind; set_bang = i.set_bang; depth = i.depth; shadows = i.shadows; usage_count = i.usage_count; span = i.span; refers_to = i.refers_to; aliases_to = i.aliases_to; builtin = i.builtin; last_usage = i.last_usage; stack_offset = a; escapes = i.escapes; capture_index = i.capture_index; read_capture_offset = i.read_capture_offset; captured_from_enclosing = i.captured_from_enclosing; heap_offset = i.heap_offset; read_heap_offset = i.read_heap_offset; is_shadowed = i.is_shadowed; is_required_identifier = i.is_required_identifier }

abbrev pub with_capture_index : ℕ → SemanticInformation → SemanticInformation
with_capture_index a i = record { kind = i.kind; set_bang = i.set_bang; depth = i.depth; shadows = i.shadows; usage_count = i.usage_count; span = i.span; refers_to = i.refers_to; aliases_to = i.aliases_to; builtin = i.builtin; last_usage = i.last_usage; stack_offset = i.stack_offset; escapes = i.escapes; capture_index = a; read_capture_offset = i.read_capture_offset; captured_from_enclosing = i.captured_from_enclosing; heap_offset = i.heap_offset; read_heap_offset = i.read_heap_offset; is_shadowed = i.is_shadowed; is_required_identifier = i.is_required_identifier }

abbrev pub with_read_capture_offset : ℕ → SemanticInformation → SemanticInformation
with_read_capture_offset a i = record { kind = i.kind; set_bang = i.set_bang; depth = i.depth; shadows = i.shadows; usage_count = i.usage_count; span = i.span; refers_to = i.refers_to; aliases_to = i.aliases_to; builtin = i.builtin; last_usage = i.last_usage; stack_offset = i.stack_offset; escapes = i.escapes; capture_index = i.capture_index; read_capture_offset = a; captured_from_enclosing = i.captured_from_enclosing; heap_offset = i.heap_offset; read_heap_offset = i.read_heap_offset; is_shadowed = i.is_shadowed; is_required_identifier = i.is_required_identifier }

abbrev pub with_heap_offset : ℕ → SemanticInformation → SemanticInformation
with_heap_offset a i = record { kind = i.kind; set_bang = i.set_bang; depth = i.depth; shadows = i.shadows; usage_count = i.usage_count; span = i.span; refers_to = i.refers_to; aliases_to = i.aliases_to; builtin = i.builtin; last_usage = i.last_usage; stack_offset = i.stack_offset; escapes = i.escapes; capture_index = i.capture_index; read_capture_offset = i.read_capture_offset; captured_from_enclosing = i.captured_from_enclosing; heap_offset = a; read_heap_offset = i.read_heap_offset; is_shadowed = i.is_shadowed; is_required_identifier = i.is_required_identifier }

abbrev pub with_read_heap_offset : ℕ → SemanticInformation → SemanticInformation
with_read_heap_offset a i = record { kind = i.kind; set_bang = i.set_bang; depth = i.depth; shadows = i.shadows; usage_count = i.usage_count; span = i.span; refers_to = i.refers_to; aliases_to = i.aliases_to; builtin = i.builtin; last_usage = i.last_usage; stack_offset = i.stack_offset; escapes = i.escapes; capture_index = i.capture_index; read_capture_offset = i.read_capture_offset; captured_from_enclosing = i.captured_from_enclosing; heap_offset = i.heap_offset; read_heap_offset = a; is_shadowed = i.is_shadowed; is_required_identifier = i.is_required_identifier }

abbrev pub with_captured_from_enclosing : Bool → SemanticInformation → SemanticInformation
with_captured_from_enclosing a i = record { kind = i.kind; set_bang = i.set_bang; depth = i.depth; shadows = i.shadows; usage_count = i.usage_count; span = i.span; refers_to = i.refers_to; aliases_to = i.aliases_to; builtin = i.builtin; last_usage = i.last_usage; stack_offset = i.stack_offset; escapes = i.escapes; capture_index = i.capture_index; read_capture_offset = i.read_capture_offset; captured_from_enclosing = a; heap_offset = i.heap_offset; read_heap_offset = i.read_heap_offset; is_shadowed = i.is_shadowed; is_required_identifier = i.is_required_identifier }

abbrev pub mark_set : SemanticInformation → SemanticInformation
mark_set i = record { kind = i.kind; set_bang = true; depth = i.depth; shadows = i.shadows; usage_count = i.usage_count; span = i.span; refers_to = i.refers_to; aliases_to = i.aliases_to; builtin = i.builtin; last_usage = i.last_usage; stack_offset = i.stack_offset; escapes = i.escapes; capture_index = i.capture_index; read_capture_offset = i.read_capture_offset; captured_from_enclosing = i.captured_from_enclosing; heap_offset = i.heap_offset; read_heap_offset = i.read_heap_offset; is_shadowed = i.is_shadowed; is_required_identifier = i.is_required_identifier }

abbrev pub mark_last_usage : SemanticInformation → SemanticInformation
mark_last_usage i = record { kind = i.kind; set_bang = i.set_bang; depth = i.depth; shadows = i.shadows; usage_count = i.usage_count; span = i.span; refers_to = i.refers_to; aliases_to = i.aliases_to; builtin = i.builtin; last_usage = true; stack_offset = i.stack_offset; escapes = i.escapes; capture_index = i.capture_index; read_capture_offset = i.read_capture_offset; captured_from_enclosing = i.captured_from_enclosing; heap_offset = i.heap_offset; read_heap_offset = i.read_heap_offset; is_shadowed = i.is_shadowed; is_required_identifier = i.is_required_identifier }

abbrev pub mark_shadowed : SemanticInformation → SemanticInformation
mark_shadowed i = record { kind = i.kind; set_bang = i.set_bang; depth = i.depth; shadows = i.shadows; usage_count = i.usage_count; span = i.span; refers_to = i.refers_to; aliases_to = i.aliases_to; builtin = i.builtin; last_usage = i.last_usage; stack_offset = i.stack_offset; escapes = i.escapes; capture_index = i.capture_index; read_capture_offset = i.read_capture_offset; captured_from_enclosing = i.captured_from_enclosing; heap_offset = i.heap_offset; read_heap_offset = i.read_heap_offset; is_shadowed = true; is_required_identifier = i.is_required_identifier }
