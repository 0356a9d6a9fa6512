-- Lets.
use Rattle.std.specs.Prelude.{ℕ, List, [], ◌∷◌, map, Bool, true, false, ◌≡◌, refl, Option, None, Some, option_map}
use Rattle.std.proofs.Common.{ap, ◌∙◌}
use Rattle.std.proofs.lemmas.List.{length-map}
use Rattle.tree.specs.Tree.{Ident, Node}
use Rattle.scope_map.specs.ScopeMap.{ScopeMap}
use Rattle.scope_map.proofs.Laws.Map.{map-remove}
use Rattle.scope_map.specs.ScopeMap as scopeMap
use Rattle.semantic.specs.Rows.{Row, Blank, Variable, Function, CallSite, Let, ListEntry}
use Rattle.semantic.specs.declared.FunctionInformation.{FunctionInformation}
use Rattle.semantic.specs.declared.IdentifierStatus.TheVariants.{LetVar}
use Rattle.pass.specs.State.{State, with_names, row_at, entry_at}
use Rattle.pass.specs.Lambda.{enter_names, function_in, let_arguments, heaps_in, heaps_around, open_layer, close_layer, at_bottom, open_let, leave_names, entered, function_id, make_let, close_let}
use Rattle.pass.specs.Bare.{bare_node, bare_ident, bare_row, bare_list_entry, bare_facts, bare_state, ◌↝◌}
use Rattle.pass_laws.specs.Laws.Bare.Steps.{bare-row, bare-entry, steps}
use Rattle.pass_laws.specs.Laws.Bare.ListEntries.{bare-list-entry_of, bare-list, bare_store_arguments, bare_heaps}
use Rattle.pass_laws.specs.Laws.Bare.Lambdas.{bare-names, bare_function, bare_captured, bare_open, bare_close, bare_mark_last}

let_arguments_lem : (s : State) (r : Row) → let_arguments (bare_state s) (bare_row r) ≡ map bare_list_entry (let_arguments s r)
unfolding bare_state bare_facts
let_arguments_lem s Blank = refl
let_arguments_lem s (Variable v) = refl
let_arguments_lem s (Function v) = refl
let_arguments_lem s (CallSite v) = refl
let_arguments_lem s (Let v) = bare-list s.facts.arguments v.arguments

heaps_in_lem : (s : State) (o : Option FunctionInformation) → heaps_in (bare_state s) o ≡ heaps_in s o
heaps_in_lem s None = refl
heaps_in_lem s (Some v) = rw (bare_captured s v, bare_heaps)

heaps_around_lem : (s : State) (o : Option Node) → heaps_around (bare_state s) (option_map bare_node o) ≡ heaps_around s o
heaps_around_lem s None = refl
heaps_around_lem s (Some n) = rw (bare-row s n.at, bare_function (row_at s n.at)) (heaps_in_lem s (function_in (row_at s n.at)))

open_layer_lem : (b : Bool) → open_layer b ↝ open_layer b
unfolding open_layer
open_layer_lem true s = bare_open s
open_layer_lem false s = refl

close_layer_lem : (b : Bool) → close_layer b ↝ close_layer b
unfolding close_layer
close_layer_lem true s = bare_close s
close_layer_lem false s = refl

-- the names enter, once a layer is open
let_names : Node → List Ident → ℕ → Option Node → State → State
let_names n xs h o s = enter_names LetVar h (heaps_around s o) (let_arguments s (row_at s n.at)) xs 0 0 s

let_names_lem : (n : Node) (xs : List Ident) (h : ℕ) (o : Option Node) → let_names n xs h o ↝ let_names (bare_node n) (map bare_ident xs) h (option_map bare_node o)
unfolding let_names
let_names_lem n xs h o s = simp (bare-names, heaps_around_lem, steps, let_arguments_lem)

is_entered : (n : Node) (xs : List Ident) (h : ℕ) (o : Option Node) (s : State) → open_let n xs h o s ≡ let_names n xs h o (open_layer (at_bottom s) s)
unfolding open_let let_names
is_entered n xs h o s = refl

pub bare_open_let : (n : Node) (xs : List Ident) (h : ℕ) (o : Option Node)
    → open_let n xs h o ↝ open_let (bare_node n) (map bare_ident xs) h (option_map bare_node o)
bare_open_let n xs h o s = simp (is_entered, let_names_lem, open_layer_lem, steps)

bare-remove : (x : Ident) (s : State)
    → bare_state (with_names (scopeMap.remove x.name s.scope.names) s) ≡ with_names (scopeMap.remove x.name (bare_state s).scope.names) (bare_state s)
unfolding bare_state
bare-remove x s = ap (λ (m : ScopeMap Ident). with_names m (bare_state s)) (map-remove bare_ident x.name s.scope.names)

leave_names_lem : (xs : List Ident) → leave_names xs ↝ leave_names (map bare_ident xs)
unfolding leave_names
leave_names_lem [] s = refl
leave_names_lem (x ∷ xs) s = leave_names_lem xs _ ∙ ap (leave_names (map bare_ident xs)) (simp (steps, bare_mark_last, bare-remove x s))

bare-entered : (xs : List Ident) (s : State) → entered (map bare_ident xs) (bare_state s) ≡ map bare_list_entry (entered xs s)
unfolding entered
bare-entered [] s = refl
bare-entered (x ∷ xs) s = rw (bare-entered xs s, bare-entry s x.at, bare-list-entry_of x (entry_at s x.at))

function_id_lem : (o : Option Node) → function_id (option_map bare_node o) ≡ function_id o
function_id_lem None = refl
function_id_lem (Some n) = refl

make_let_lem : (r : Row) (n : Node) (l : List ListEntry) (h : ℕ) (o : Option Node)
    → make_let r n l h o ↝ make_let (bare_row r) (bare_node n) (map bare_list_entry l) h (option_map bare_node o)
make_let_lem Blank n l h o s = simp (steps, bare_store_arguments, function_id_lem, length-map)
make_let_lem (Variable v) n l h o s = refl
make_let_lem (Function v) n l h o s = refl
make_let_lem (CallSite v) n l h o s = refl
make_let_lem (Let v) n l h o s = refl

-- `s` is the state before the let
pub bare_close_let : (s : State) (n : Node) (xs : List Ident) (h : ℕ) (o : Option Node) (t : State)
    → bare_state (close_let (at_bottom s) n xs h o t) ≡ close_let (at_bottom (bare_state s)) (bare_node n) (map bare_ident xs) h (option_map bare_node o) (bare_state t)
unfolding close_let
bare_close_let s n xs h o t = simp (close_layer_lem, make_let_lem, leave_names_lem, bare-entered, steps)
