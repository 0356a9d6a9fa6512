-- The rows: a fact for each record, and the entries of captured and argument lists; and which numbers they are. docs/ROWS.md.
use Rattle.std.specs.Prelude.{ℕ, ◌+◌, ◌*◌, List, [], ◌∷◌, Bool, false, replicate}
use Rattle.tree.specs.Tree.{Ident, bit}
use Rattle.semantic.specs.Information.{NONE}
use Rattle.semantic.specs.declared.IdentifierStatus.{IdentifierStatus}
use Rattle.semantic.specs.declared.IdentifierStatus.TheVariants.{Global, Local, LocallyDefinedFunction, LetVar, Captured, Free, HeapAllocated}
use Rattle.semantic.specs.declared.CallKind.{CallKind}
use Rattle.semantic.specs.declared.CallKind.TheVariants.{Normal, TailCall, SelfTailCall}
use Rattle.semantic.specs.declared.SemanticInformation.{SemanticInformation}
use Rattle.semantic.specs.declared.FunctionInformation.{FunctionInformation}
use Rattle.semantic.specs.declared.CallSiteInformation.{CallSiteInformation}
use Rattle.semantic.specs.declared.LetInformation.{LetInformation}
use Rattle.semantic.specs.declared.ScopeInfo.{ScopeInfo}

-- The document's numbers

abbrev pub kind_number : IdentifierStatus → ℕ
kind_number Global = 1
kind_number Local = 2
kind_number LocallyDefinedFunction = 3
kind_number LetVar = 4
kind_number Captured = 5
kind_number Free = 6
kind_number HeapAllocated = 7

abbrev pub call_number : CallKind → ℕ
call_number Normal = 1
call_number TailCall = 2
call_number (SelfTailCall d) = 3

abbrev pub self_number : CallKind → ℕ
self_number Normal = NONE
self_number TailCall = NONE
self_number (SelfTailCall d) = d

-- The fact of a record, if it has one: `SemanticInformationType`. A row's first number tells what it is: 0 no fact, 1 to 7 an identifier's
-- kind, 8 a lambda, 9 a let, 10 a call.

pub data Row : Type 0 where
  Blank : Row
  Variable : SemanticInformation → Row
  Function : FunctionInformation → Row
  CallSite : CallSiteInformation → Row
  Let : LetInformation → Row

abbrev pub row_width : ℕ
row_width = 20

unfoldable pub put_row : Row → List ℕ
put_row Blank = replicate row_width 0
put_row (Variable v) =
    kind_number v.kind
    ∷ bit v.set_bang
    ∷ v.depth
    ∷ v.shadows
    ∷ v.usage_count
    ∷ v.span.start
    ∷ v.span.end
    ∷ v.refers_to
    ∷ v.aliases_to
    ∷ bit v.builtin
    ∷ bit v.last_usage
    ∷ v.stack_offset
    ∷ bit v.escapes
    ∷ v.capture_index
    ∷ v.read_capture_offset
    ∷ bit v.captured_from_enclosing
    ∷ v.heap_offset
    ∷ v.read_heap_offset
    ∷ bit v.is_shadowed
    ∷ bit v.is_required_identifier
    ∷ []
put_row (Function v) =
    8
    ∷ v.captured_vars.first
    ∷ v.captured_vars.length
    ∷ v.arguments.first
    ∷ v.arguments.length
    ∷ bit v.escapes
    ∷ v.aliases_to
    ∷ v.depth
    ∷ replicate 12 0
put_row (Let v) = 9 ∷ v.stack_offset ∷ v.function_context ∷ v.arguments.first ∷ v.arguments.length ∷ replicate 15 0
put_row (CallSite v) = 10 ∷ call_number v.kind ∷ self_number v.kind ∷ v.span.start ∷ v.span.end ∷ replicate 15 0

-- An entry of a captured or an argument list: the name's binder, with its `ScopeInfo`

pub record ListEntry : Type 0 where
  pub binder : Ident
  pub info : ScopeInfo

abbrev pub list_entry_width : ℕ
list_entry_width = 13

-- the yes-or-no fields of an entry, added together
abbrev pub marks : Bool → Bool → Bool → Bool → ℕ
marks captured escapes enclosing mutated = bit captured + 2 * bit escapes + 4 * bit enclosing + 8 * bit mutated

unfoldable pub put_info : ScopeInfo → List ℕ
put_info v =
    v.id
    ∷ marks v.captured v.escapes v.captured_from_enclosing v.mutated
    ∷ v.usage_count
    ∷ v.last_used
    ∷ v.stack_offset
    ∷ v.capture_offset
    ∷ v.heap_offset
    ∷ v.read_capture_offset
    ∷ v.read_heap_offset
    ∷ v.parent_heap_offset
    ∷ v.local_heap_offset
    ∷ v.depth
    ∷ []

unfoldable pub put_list_entry : ListEntry → List ℕ
put_list_entry i = i.binder.name ∷ put_info i.info

-- the entry of a place that no list holds: zeros
abbrev pub no_list_entry : ListEntry
no_list_entry = record {
  binder = record { at = 0; id = 0; name = 0; from = 0; to = 0 };
  info = record {
    id = 0;
    captured = false;
    usage_count = 0;
    last_used = 0;
    stack_offset = 0;
    escapes = false;
    capture_offset = 0;
    captured_from_enclosing = false;
    mutated = false;
    heap_offset = 0;
    read_capture_offset = 0;
    read_heap_offset = 0;
    parent_heap_offset = 0;
    local_heap_offset = 0;
    depth = 0;
  };
}
