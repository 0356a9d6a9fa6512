-- Names that enter and leave: lambdas and lets. docs/RULES.md, 8 to 10.
use Rattle.std.specs.Prelude.{ℕ, suc, ◌+◌, List, [], ◌∷◌, ◌++◌, map, Bool, true, false, cond, ◌&&◌, ◌||◌, length, get_or, eqb, Option, None, Some}
use Rattle.tree.specs.Tree.{Ident, Node, Tree, Trees, ident, const, if, letin, define, lambda, sequence, call, set!, nil, cons}
use Rattle.tree.specs.Check.{member}
use Rattle.scope_map.specs.ScopeMap.{ScopeMap, Live, push_layer, pop_layer, newest_layer}
use Rattle.scope_map.specs.ScopeMap as scopeMap
use Rattle.semantic.specs.Information.{NONE, new, shadows, with_usage_count, mark_last_usage}
use Rattle.semantic.specs.Rows.{Row, Blank, Variable, Function, CallSite, Let, ListEntry, no_list_entry}
use Rattle.semantic.specs.Kinds.{let_in}
use Rattle.semantic.specs.declared.IdentifierStatus.{IdentifierStatus}
use Rattle.semantic.specs.declared.IdentifierStatus.TheVariants.{Local, LetVar, HeapAllocated}
use Rattle.semantic.specs.declared.FunctionInformation.{FunctionInformation}
use Rattle.semantic.specs.declared.LetInformation.{LetInformation}
use Rattle.semantic.specs.declared.SemanticInformation.{SemanticInformation}
use Rattle.pass.specs.State.{Capture, State, with_names, with_captures, with_context, insert, amend, row_at, entry_at, local_entry, heap_entry, list_entry_of, id_of, newest, depth, note_second}
use Rattle.pass.specs.Read.{span, enter}
use Rattle.pass.specs.Lists.{captured_vars, sort_by_id, list_in, store_captured, store_arguments, rewrite_captured, number_list, heap_count, names_of, keep, amend_list}
pub use Rattle.semantic.specs.Kinds.{function_in}

-- Names enter in order. On a second run one that was captured and mutated on the first, by the list's entry at its place, enters as a
-- heap entry: its slot is its place alone, and its heap offset follows those of the lambda around, which are `heaps`.

abbrev pub is_heap : List ListEntry → ℕ → Bool
is_heap l j = (get_or l j no_list_entry).info.captured && (get_or l j no_list_entry).info.mutated

abbrev pub or_zero : Option ℕ → ℕ
or_zero None = 0
or_zero (Some n) = n

-- refusal 11: no lambda around
abbrev pub note_heap : Option ℕ → Ident → State → State
note_heap None x s = note_second 11 x.at s
note_heap (Some n) x s = s

module _ (kind : IdentifierStatus) (base : ℕ) (heaps : Option ℕ) (before : List ListEntry) where
  -- the name at the place j, h heap entries before it
  unfoldable pub enter_name : Bool → Ident → ℕ → ℕ → State → State
  enter_name true x j h s =
      insert x.at (Variable (new HeapAllocated (depth s) (span x)))
      (enter x (heap_entry j (h + or_zero heaps) (depth s)) (note_heap heaps x s))
  enter_name false x j h s = insert x.at (Variable (new kind (depth s) (span x))) (enter x (local_entry (base + j) (depth s)) s)

  unfoldable pub enter_names : List Ident → ℕ → ℕ → State → State
  enter_names [] j h s = s
  enter_names (x ∷ xs) j h s = enter_names xs (suc j) (cond (is_heap before j) (suc h) h) (enter_name (is_heap before j) x j h s)

-- the id of the binder, or NONE; the last use of a name that leaves is marked
abbrev pub mark_last : Option Ident → State → State
mark_last None s = s
mark_last (Some x) s = amend mark_last_usage x.at s

-- Lambda: on entering

abbrev pub captured_list : State → FunctionInformation → List ListEntry
captured_list s v = list_in s.facts.captured v.captured_vars

abbrev pub argument_list : State → FunctionInformation → List ListEntry
argument_list s v = list_in s.facts.arguments v.arguments

-- the captures' layer opens, with the lambda's list where it has a fact; one that escapes ends the context
unfoldable pub open_captures : Option FunctionInformation → State → State
open_captures None s = with_captures (push_layer s.captures) s
open_captures (Some v) s =
    with_context (cond v.escapes NONE s.context) (number_list v.captured_vars (with_captures (push_layer s.captures) s))

unfoldable pub open_scope : State → State
open_scope s = with_names (push_layer s.scope.names) s

-- `visit_func_args`
unfoldable pub enter_parameters : Option FunctionInformation → List Ident → State → State
enter_parameters None xs s = enter_names Local 0 None [] xs 0 0 s
enter_parameters (Some v) xs s = enter_names Local 0 (Some (heap_count (captured_list s v))) (argument_list s v) xs 0 0 s

unfoldable pub open_lambda : Node → List Ident → State → State
open_lambda n xs s =
    let f = function_in (row_at s n.at) in
    enter_parameters f xs (open_scope (open_captures f s))

-- Lambda: at its end

-- the names read or set in an expression, and whether a lambda stands in it
unfoldable mutual
  pub names_used : Tree → List ℕ
  names_used (ident x) = x.name ∷ []
  names_used (const n q) = []
  names_used (if n a b c) = names_used a ++ (names_used b ++ names_used c)
  names_used (letin n xs es b) = names_used_in es ++ names_used b
  names_used (define n x b) = names_used b
  names_used (lambda n xs b) = names_used b
  names_used (sequence n es) = names_used_in es
  names_used (call n h es) = names_used h ++ names_used_in es
  names_used (set! n x e) = x.name ∷ names_used e

  pub names_used_in : Trees → List ℕ
  names_used_in nil = []
  names_used_in (cons t ts) = names_used t ++ names_used_in ts

unfoldable mutual
  pub holds_lambda : Tree → Bool
  holds_lambda (ident x) = false
  holds_lambda (const n q) = false
  holds_lambda (if n a b c) = holds_lambda a || (holds_lambda b || holds_lambda c)
  holds_lambda (letin n xs es b) = holds_lambda_in es || holds_lambda b
  holds_lambda (define n x b) = holds_lambda b
  holds_lambda (lambda n xs b) = true
  holds_lambda (sequence n es) = holds_lambda_in es
  holds_lambda (call n h es) = holds_lambda h || holds_lambda_in es
  holds_lambda (set! n x e) = holds_lambda e

  pub holds_lambda_in : Trees → Bool
  holds_lambda_in nil = false
  holds_lambda_in (cons t ts) = holds_lambda t || holds_lambda_in ts

-- what is live in the newest layer, as a list keeps it
abbrev pub list_entries_of : State → List (Live Ident) → List ListEntry
list_entries_of s [] = []
list_entries_of s (e ∷ l) = list_entry_of e.value (entry_at s e.value.at) ∷ list_entries_of s l

unfoldable pub mark_lasts : List (Live Ident) → State → State
mark_lasts [] s = s
mark_lasts (e ∷ l) s = mark_lasts l (mark_last (entry_at s e.value.at).last_used s)

unfoldable pub close_scope : State → State
close_scope s = with_names (pop_layer s.scope.names) s

unfoldable pub close_captures : State → State
close_captures s = with_captures (pop_layer s.captures) s

-- `find_and_mark_captured_arguments`: a parameter's fact takes its entry's uses, and the id of what it hides
abbrev pub ended_fact : ℕ → Option Ident → SemanticInformation → SemanticInformation
ended_fact n o i = shadows (id_of o) (with_usage_count n i)

unfoldable pub end_parameters : List Ident → State → State
end_parameters [] s = s
end_parameters (x ∷ xs) s = end_parameters xs (amend (ended_fact (entry_at s x.at).usage_count (newest s x.name)) x.at s)

-- the fact is made
unfoldable pub make_function : Node → Bool → List ListEntry → List ListEntry → State → State
make_function n escapes captured arguments s =
    insert n.at (Function (record {
      captured_vars = record { first = s.facts.captured_top; length = length captured };
      arguments = record { first = s.facts.arguments_top; length = length arguments };
      escapes = escapes;
      aliases_to = NONE;
      depth = depth s;
    }))
    (store_arguments arguments (store_captured n.at captured s))

-- or its list is amended: for an innermost lambda, to the names in `now` that its body uses
abbrev pub now_used : Tree → List ListEntry → List ListEntry
now_used b now = cond (holds_lambda b) now (keep (λ x. member x (names_used b)) now)

abbrev pub kept_of : Tree → List ListEntry → List ListEntry → List ListEntry
kept_of b now l = cond (holds_lambda b) l (keep (λ x. member x (names_of now)) l)

unfoldable pub amend_function : Node → Tree → List ListEntry → ScopeMap Capture → FunctionInformation → State → State
amend_function n b now m v s =
    let used = now_used b now in
    let l = amend_list used m [] (kept_of b used (captured_list s v)) in
    insert n.at (Function (record {
      captured_vars = record { first = v.captured_vars.first; length = length l };
      arguments = v.arguments;
      escapes = v.escapes;
      aliases_to = v.aliases_to;
      depth = v.depth;
    }))
    (rewrite_captured v.captured_vars l s)

abbrev pub function_ends : Option FunctionInformation → Node → Tree → Bool → List ListEntry → List ListEntry → ScopeMap Capture → State → State
function_ends None n b escapes now arguments m s = make_function n escapes (sort_by_id now) arguments s
function_ends (Some v) n b escapes now arguments m s = amend_function n b now m v s

abbrev pub name_in : Ident → ℕ
name_in x = x.name

unfoldable pub close_lambda : Node → List Ident → Tree → Bool → State → State
close_lambda n xs b escapes s =
    let layer = newest_layer s.scope.names in
    function_ends (function_in (row_at s n.at)) n b escapes (captured_vars (map name_in xs) s) (list_entries_of s layer) s.captures
    (end_parameters xs (mark_lasts layer (close_captures (close_scope s))))

-- Let

abbrev pub let_arguments_in : State → Option LetInformation → List ListEntry
let_arguments_in s None = []
let_arguments_in s (Some v) = list_in s.facts.arguments v.arguments

abbrev pub let_arguments : State → Row → List ListEntry
let_arguments s r = let_arguments_in s (let_in r)

-- how many heap entries the lambda around has
abbrev pub heaps_in : State → Option FunctionInformation → Option ℕ
heaps_in s None = None
heaps_in s (Some v) = Some (heap_count (captured_list s v))

abbrev pub heaps_around : State → Option Node → Option ℕ
heaps_around s None = None
heaps_around s (Some n) = heaps_in s (function_in (row_at s n.at))

-- a let opens a layer only at depth 1
unfoldable pub open_layer : Bool → State → State
open_layer true s = open_scope s
open_layer false s = s

unfoldable pub close_layer : Bool → State → State
close_layer true s = close_scope s
close_layer false s = s

abbrev pub at_bottom : State → Bool
at_bottom s = eqb (depth s) 1

unfoldable pub open_let : Node → List Ident → ℕ → Option Node → State → State
open_let n xs height function s =
    let t = open_layer (at_bottom s) s in
    enter_names LetVar height (heaps_around t function) (let_arguments t (row_at t n.at)) xs 0 0 t

-- the names leave one by one, with their last uses marked
unfoldable pub leave_names : List Ident → State → State
leave_names [] s = s
leave_names (x ∷ xs) s =
    leave_names xs (mark_last (entry_at s x.at).last_used (with_names (scopeMap.remove x.name s.scope.names) s))

unfoldable pub entered : List Ident → State → List ListEntry
entered [] s = []
entered (x ∷ xs) s = list_entry_of x (entry_at s x.at) ∷ entered xs s

abbrev pub function_id : Option Node → ℕ
function_id None = NONE
function_id (Some n) = n.id

-- the let's fact, if it has none yet
abbrev pub make_let : Row → Node → List ListEntry → ℕ → Option Node → State → State
make_let Blank n l height function s =
    insert n.at (Let (record {
      stack_offset = height;
      function_context = function_id function;
      arguments = record { first = s.facts.arguments_top; length = length l };
    }))
    (store_arguments l s)
make_let (Variable v) n l height function s = s
make_let (Function v) n l height function s = s
make_let (CallSite v) n l height function s = s
make_let (Let v) n l height function s = s

-- `opened`: the let opened a layer
unfoldable pub close_let : Bool → Node → List Ident → ℕ → Option Node → State → State
close_let opened n xs height function s =
    close_layer opened (make_let (row_at s n.at) n (entered xs s) height function (leave_names xs s))
