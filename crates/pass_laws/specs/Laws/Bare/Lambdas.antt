-- Lambdas.
use Rattle.std.specs.Prelude.{ℕ, Bool, cond, ◌≡◌, Option, None, Some, option_map}
use mathlib.Core.List.{List, [], ◌∷◌, map}
use Rattle.std.proofs.Math.Bool.{true, false}
use Rattle.std.proofs.Math.Path.{refl}
use Rattle.std.proofs.Common.{ap, sym, ◌∙◌}
use Rattle.std.proofs.lemmas.List.{length-map}
use Rattle.std.proofs.Math.ListN.{get_or-map}
use Rattle.tree.specs.Tree.{Ident, Node, Tree}
use Rattle.scope_map.specs.ScopeMap.{ScopeMap, Live, layer_in, newest_layer}
use Rattle.scope_map.specs.Map.{map_values, map_live}
use Rattle.scope_map.proofs.Laws.Map.{map-pop_layer, map-newest_layer}
use Rattle.semantic.specs.Rows.{Row, Blank, Variable, Function, CallSite, Let, ListEntry, no_list_entry}
use Rattle.semantic.specs.declared.IdentifierStatus.{IdentifierStatus}
use Rattle.semantic.specs.declared.FunctionInformation.{FunctionInformation}
use Rattle.pass.specs.State.{Capture, State, with_names, with_captures, with_context, entry_at, depth}
use Rattle.pass.specs.Lambda.{is_heap, note_heap, enter_name, enter_names, function_in, mark_last, captured_list, argument_list, open_captures, open_scope, enter_parameters, open_lambda, list_entries_of, mark_lasts, close_scope, close_captures, ended_fact, end_parameters, make_function, now_used, kept_of, amend_function, function_ends, name_in, close_lambda}
use Rattle.pass.specs.Bare.{bare_node, bare_ident, bare, bare_row, bare_list_entry, bare_facts, bare_capture, bare_state, ◌↝◌}
use Rattle.pass_laws.specs.Laws.Bare.Maps.{map_cond}
use Rattle.pass_laws.specs.Laws.Bare.Looks.{bare-used, bare-holds}
use Rattle.pass_laws.specs.Laws.Bare.Steps.{bare-row, bare-entry, steps}
use Rattle.pass_laws.specs.Laws.Bare.Reads.{bare-enter}
use Rattle.pass_laws.specs.Laws.Bare.ListEntries.{bare-list-entry_of, bare_captured_vars, bare_sort, bare-list, bare_store, bare_store_arguments, bare_rewrite, bare-number, bare_heaps, bare-names_of, bare-keep, bare-amend-list}

-- Names enter

bare_is_heap : (l : List ListEntry) (j : ℕ) → is_heap (map bare_list_entry l) j ≡ is_heap l j
bare_is_heap l j = rw (get_or-map bare_list_entry l j no_list_entry)

bare_note_heap : (o : Option ℕ) (x : Ident) → note_heap o x ↝ note_heap o (bare_ident x)
unfolding bare_state
bare_note_heap None x s = refl
bare_note_heap (Some n) x s = refl

module _ (kind : IdentifierStatus) (base : ℕ) (heaps : Option ℕ) (before : List ListEntry) where
  enter_name_lem : (b : Bool) (x : Ident) (j h : ℕ)
      → enter_name kind base heaps before b x j h ↝ enter_name kind base heaps (map bare_list_entry before) b (bare_ident x) j h
  unfolding enter_name
  enter_name_lem true x j h s = simp (steps, bare-enter, bare_note_heap)
  enter_name_lem false x j h s = simp (steps, bare-enter)

  pub bare-names : (xs : List Ident) (j h : ℕ)
      → enter_names kind base heaps before xs j h ↝ enter_names kind base heaps (map bare_list_entry before) (map bare_ident xs) j h
  unfolding enter_names
  bare-names [] j h s = refl
  bare-names (x ∷ xs) j h s = bare-names xs _ _ _ ∙ rw (enter_name_lem, ← bare_is_heap before j)

-- The facts of a lambda

pub bare_function : (r : Row) → function_in (bare_row r) ≡ function_in r
bare_function Blank = refl
bare_function (Variable v) = refl
bare_function (Function v) = refl
bare_function (CallSite v) = refl
bare_function (Let v) = refl

pub bare_captured : (s : State) (v : FunctionInformation) → captured_list (bare_state s) v ≡ map bare_list_entry (captured_list s v)
unfolding bare_state bare_facts
bare_captured s v = bare-list s.facts.captured v.captured_vars

bare_arguments : (s : State) (v : FunctionInformation) → argument_list (bare_state s) v ≡ map bare_list_entry (argument_list s v)
unfolding bare_state bare_facts
bare_arguments s v = bare-list s.facts.arguments v.arguments

-- A lambda is entered

bare_open_captures : (o : Option FunctionInformation) → open_captures o ↝ open_captures o
unfolding open_captures bare_state
bare_open_captures None s = refl
bare_open_captures (Some v) s = ap (with_context (cond v.escapes _ s.context)) (bare-number v.captured_vars _)

pub bare_open : open_scope ↝ open_scope
unfolding open_scope bare_state
bare_open s = refl

bare-parameters : (o : Option FunctionInformation) (xs : List Ident) → enter_parameters o xs ↝ enter_parameters o (map bare_ident xs)
unfolding enter_parameters
bare-parameters None xs s = simp bare-names
bare-parameters (Some v) xs s = simp (bare-names, bare_captured, bare_arguments, bare_heaps)

pub bare_open_lambda : (n : Node) (xs : List Ident) → open_lambda n xs ↝ open_lambda (bare_node n) (map bare_ident xs)
unfolding open_lambda
bare_open_lambda n xs s = simp (bare-parameters, bare_open, bare_open_captures, bare-row, bare_function)

-- Names leave

pub bare_mark_last : (o : Option Ident) → mark_last o ↝ mark_last (option_map bare_ident o)
bare_mark_last None s = refl
bare_mark_last (Some x) s = simp steps

list_entries_of_lem : (s : State) (l : List (Live Ident)) → list_entries_of (bare_state s) (map_live bare_ident l) ≡ map bare_list_entry (list_entries_of s l)
unfolding map_live
list_entries_of_lem s [] = refl
list_entries_of_lem s (e ∷ l) = rw (list_entries_of_lem s l, bare-entry s e.value.at, bare-list-entry_of e.value (entry_at s e.value.at))

mark_lasts_lem : (l : List (Live Ident)) → mark_lasts l ↝ mark_lasts (map_live bare_ident l)
unfolding mark_lasts map_live
mark_lasts_lem [] s = refl
mark_lasts_lem (e ∷ l) s = mark_lasts_lem l _ ∙ ap (mark_lasts (map_live bare_ident l)) (simp (steps, bare_mark_last))

pub bare_close : close_scope ↝ close_scope
unfolding close_scope bare_state
bare_close s = ap (λ (m : ScopeMap Ident). with_names m (bare_state s)) (map-pop_layer bare_ident s.scope.names)

bare_close_captures : close_captures ↝ close_captures
unfolding close_captures bare_state
bare_close_captures s = ap (λ (m : ScopeMap Capture). with_captures m (bare_state s)) (map-pop_layer bare_capture s.captures)

ended_fact_lem : (n : ℕ) (o : Option Ident) → ended_fact n (option_map bare_ident o) ≡ ended_fact n o
ended_fact_lem n None = refl
ended_fact_lem n (Some x) = refl

end-parameters : (xs : List Ident) → end_parameters xs ↝ end_parameters (map bare_ident xs)
unfolding end_parameters
end-parameters [] s = refl
end-parameters (x ∷ xs) s = end-parameters xs _ ∙ ap (end_parameters (map bare_ident xs)) (simp (steps, ended_fact_lem))

-- The fact of a lambda

make_function_lem : (n : Node) (e : Bool) (c a : List ListEntry) → make_function n e c a ↝ make_function (bare_node n) e (map bare_list_entry c) (map bare_list_entry a)
unfolding make_function
make_function_lem n e c a s = simp (steps, bare_store, bare_store_arguments, length-map)

now_used_lem : (b : Tree) (l : List ListEntry) → now_used (bare b) (map bare_list_entry l) ≡ map bare_list_entry (now_used b l)
now_used_lem b l = simp (bare-holds, bare-used, bare-keep, map_cond (map bare_list_entry))

kept_of_lem : (b : Tree) (now l : List ListEntry) → kept_of (bare b) (map bare_list_entry now) (map bare_list_entry l) ≡ map bare_list_entry (kept_of b now l)
kept_of_lem b now l = simp (bare-holds, bare-names_of, bare-keep, map_cond (map bare_list_entry))

amend_function_lem : (n : Node) (b : Tree) (now : List ListEntry) (m : ScopeMap Capture) (v : FunctionInformation)
    → amend_function n b now m v ↝ amend_function (bare_node n) (bare b) (map bare_list_entry now) (map_values bare_capture m) v
unfolding amend_function
amend_function_lem n b now m v s = simp (steps, bare_rewrite, now_used_lem, kept_of_lem, bare_captured, bare-amend-list, length-map)

function_ends_lem : (o : Option FunctionInformation) (n : Node) (b : Tree) (e : Bool) (now a : List ListEntry) (m : ScopeMap Capture)
    → function_ends o n b e now a m ↝ function_ends o (bare_node n) (bare b) e (map bare_list_entry now) (map bare_list_entry a) (map_values bare_capture m)
function_ends_lem None n b e now a m s = simp (make_function_lem, bare_sort)
function_ends_lem (Some v) n b e now a m s = amend_function_lem n b now m v s

names_in_lem : (xs : List Ident) → map name_in (map bare_ident xs) ≡ map name_in xs
names_in_lem [] = refl
names_in_lem (x ∷ xs) = rw (names_in_lem xs)

newest_layer_lem : (s : State) → layer_in (depth s) (bare_state s).scope.names.live ≡ map_live bare_ident (newest_layer s.scope.names)
unfolding bare_state
newest_layer_lem s = sym (map-newest_layer bare_ident s.scope.names)

all_captures : (s : State) → (bare_state s).captures ≡ map_values bare_capture s.captures
unfolding bare_state
all_captures s = refl

ruleset changed = (function_ends_lem, end-parameters, mark_lasts_lem, bare_close, bare_close_captures)

ruleset looked-up = (bare_function, bare_captured_vars, names_in_lem, newest_layer_lem, list_entries_of_lem, all_captures)

pub bare_close_lambda : (n : Node) (xs : List Ident) (b : Tree) (e : Bool) → close_lambda n xs b e ↝ close_lambda (bare_node n) (map bare_ident xs) (bare b) e
unfolding close_lambda
bare_close_lambda n xs b e s = simp (changed, looked-up, steps)
