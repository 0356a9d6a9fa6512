-- Facts and entries from the numbers of their rows.
use Rattle.std.specs.Prelude.{ℕ, ◌/◌, ◌%◌, List, get_or, eqb}
use Rattle.semantic.specs.declared.IdentifierStatus.{IdentifierStatus}
use Rattle.semantic.specs.declared.SemanticInformation.{SemanticInformation}
use Rattle.semantic.specs.declared.FunctionInformation.{FunctionInformation}
use Rattle.semantic.specs.declared.LetInformation.{LetInformation}
use Rattle.semantic.specs.declared.ScopeInfo.{ScopeInfo}

-- an identifier's fact, but for its kind
abbrev pub information_of : IdentifierStatus → List ℕ → SemanticInformation
information_of kind row = record {
  kind = kind;
  set_bang = eqb (get_or row 1 0) 1;
  depth = get_or row 2 0;
  shadows = get_or row 3 0;
  usage_count = get_or row 4 0;
  span = record { start = get_or row 5 0; end = get_or row 6 0 };
  refers_to = get_or row 7 0;
  aliases_to = get_or row 8 0;
  builtin = eqb (get_or row 9 0) 1;
  last_usage = eqb (get_or row 10 0) 1;
  stack_offset = get_or row 11 0;
  escapes = eqb (get_or row 12 0) 1;
  capture_index = get_or row 13 0;
  read_capture_offset = get_or row 14 0;
  captured_from_enclosing = eqb (get_or row 15 0) 1;
  heap_offset = get_or row 16 0;
  read_heap_offset = get_or row 17 0;
  is_shadowed = eqb (get_or row 18 0) 1;
  is_required_identifier = eqb (get_or row 19 0) 1;
}

abbrev pub function_of : List ℕ → FunctionInformation
function_of row = record {
  captured_vars = record { first = get_or row 1 0; length = get_or row 2 0 };
  arguments = record { first = get_or row 3 0; length = get_or row 4 0 };
  escapes = eqb (get_or row 5 0) 1;
  aliases_to = get_or row 6 0;
  depth = get_or row 7 0;
}

abbrev pub let_of : List ℕ → LetInformation
let_of row = record {
  stack_offset = get_or row 1 0;
  function_context = get_or row 2 0;
  arguments = record { first = get_or row 3 0; length = get_or row 4 0 };
}

abbrev pub info_of : List ℕ → ScopeInfo
info_of row = record {
  id = get_or row 1 0;
  captured = eqb (get_or row 2 0 % 2) 1;
  usage_count = get_or row 3 0;
  last_used = get_or row 4 0;
  stack_offset = get_or row 5 0;
  escapes = eqb (get_or row 2 0 / 2 % 2) 1;
  capture_offset = get_or row 6 0;
  captured_from_enclosing = eqb (get_or row 2 0 / 4 % 2) 1;
  mutated = eqb (get_or row 2 0 / 8 % 2) 1;
  heap_offset = get_or row 7 0;
  read_capture_offset = get_or row 8 0;
  read_heap_offset = get_or row 9 0;
  parent_heap_offset = get_or row 10 0;
  local_heap_offset = get_or row 11 0;
  depth = get_or row 12 0;
}
