-- What the functions of a lambda promise.
use Rattle.std.specs.Prelude.{ℕ, ◌+◌, ◌-◌, ◌≤◌, ◌<◌, List, map, Bool, cond, ◌≡◌, length, Option, None, Some}
use Rattle.tree.specs.Tree.{Ident, Tree}
use Rattle.scope_map.specs.ScopeMap.{newest_layer}
use Rattle.scope_map.specs.declared.ScopeMap.{ScopeMap}
use Rattle.semantic.specs.Information.{NONE}
use Rattle.semantic.specs.Rows.{ListEntry}
use Rattle.semantic.specs.declared.ListAt.{ListAt}
use Rattle.semantic.specs.declared.FunctionInformation.{FunctionInformation}
use Rattle.pass.specs.State.{State}
use Rattle.pass.specs.Lists.{list_in, captured_vars, sort_by_id, store_captured, store_arguments, rewrite_captured, number_list}
use Rattle.pass.specs.Lambda.{enter_names, open_captures, enter_parameters, mark_lasts, close_scope, close_captures, end_parameters, list_entries_of, name_in}
use Rattle.pass.specs.Run.{rows_most, list_entries_most}
use Rattle.work.specs.Passes.{in_captures}
use Rattle.work.specs.Tied.{raw, Tied, Fits}
use Rattle.work.specs.declared.Pass.{Pass}
use Rattle.walk.specs.declared.uses.Names.{Names}
use Rattle.lists.specs.Contract.{Told, Becomes, Inside}
use Rattle.amending.specs.Contract.{CapturesRoom, HasBody, amended_list}
use Rattle.amending.specs.declared.amend.Lambda.{Lambda}
use Rattle.binders.specs.Enter.{FewHeaps}
use Rattle.binders.specs.declared.enter.Entering.{Entering}

-- As it opens

-- its list, where it has a fact, lies inside, and the captures have room for it
abbrev pub ListRoom : Option FunctionInformation → Pass → Type 0
ListRoom v p = (i : FunctionInformation) → v ≡ Some i → Inside i.captured_vars × CapturesRoom p i.captured_vars

-- the list is numbered
abbrev pub number_found : Option FunctionInformation → State → State
number_found None s = s
number_found (Some i) s = number_list i.captured_vars s

-- of the pass, the captures alone change
pub record NumbersCaptures (v : Option FunctionInformation) (p : Pass) (C w : List ℕ) (m : ScopeMap) (C' w' : List ℕ) : Type 0 where
  pub is : (rs : List ℕ) → Becomes rs p C w (number_found v) (in_captures m p) C' w'

-- one that escapes ends the context
abbrev pub context_within : Option FunctionInformation → ℕ → ℕ
context_within None context = context
context_within (Some i) context = cond i.escapes NONE context

-- the captures' layer
pub record ListOpens (v : Option FunctionInformation) (p : Pass) (C w : List ℕ) : Type 0 where
  pub rs : List ℕ
  pub facts : List ℕ
  pub arguments : List ℕ
  pub s : State
  pub fits : Fits rs (raw p facts C arguments w) s
  pub shallow : p.captures.depth < 4294967295
  pub lists : ListRoom v p

pub record OpensList (v : Option FunctionInformation) (p : Pass) (C w : List ℕ) (p' : Pass) (C' w' : List ℕ) : Type 0 where
  pub is : (rs F A : List ℕ) (s : State) → Fits rs (raw p F C A w) s → Tied (raw p' F C' A w') (open_captures v s)

-- its lists lie inside
abbrev pub ListInside : Option FunctionInformation → Type 0
ListInside v = (i : FunctionInformation) → v ≡ Some i → Inside i.captured_vars × Inside i.arguments

-- what the parameters have in common
pub record EntersBy (v : Option FunctionInformation) (C : List ℕ) (g : Entering) : Type 0 where
  pub is : (rs : List ℕ) (p : Pass) (F A w : List ℕ) (s : State) (xs : List Ident) → Fits rs (raw p F C A w) s
      → enter_names g.kind g.base g.heaps (list_in s.facts.arguments g.before) xs 0 0 s ≡ enter_parameters v xs s
  pub base : g.base ≡ 0
  pub inside : Inside g.before
  pub few : FewHeaps g.heaps

-- As it closes

-- the layers go, and what the names were is marked
abbrev pub layers_closed : List Ident → State → State
layers_closed xs s = end_parameters xs (mark_lasts (newest_layer s.scope.names) (close_captures (close_scope s)))

pub record ClosesLayers (rs : List ℕ) (n : Names) (p : Pass) (F w : List ℕ) (p' : Pass) (F' w' : List ℕ) : Type 0 where
  pub is : (C A : List ℕ) (s : State) (xs : List Ident) → Told rs n xs → Fits rs (raw p F C A w) s → Tied (raw p' F' C A w') (layers_closed xs s)

-- the lists: made where the lambda has no fact, else its captured one amended

abbrev pub made_list : List Ident → State → List ListEntry
made_list xs s = sort_by_id (captured_vars (map name_in xs) s)

abbrev pub layer_list : State → List ListEntry
layer_list s = list_entries_of s (newest_layer s.scope.names)

abbrev pub with_lists : Option FunctionInformation → ℕ → List Ident → Tree → State → State
with_lists None at xs b s = store_arguments (layer_list s) (store_captured at (made_list xs s) s)
with_lists (Some i) at xs b s = rewrite_captured i.captured_vars (amended_list xs b i.captured_vars s) s

-- where they lie

abbrev pub entries_between : ℕ → ℕ → ListAt
entries_between from to = record { first = from; length = to - from }

abbrev pub captured_list_at : Option FunctionInformation → List Ident → Tree → State → ListAt
captured_list_at None xs b s = record { first = s.facts.captured_top; length = length (made_list xs s) }
captured_list_at (Some i) xs b s = record { first = i.captured_vars.first; length = length (amended_list xs b i.captured_vars s) }

abbrev pub argument_list_at : Option FunctionInformation → State → ListAt
argument_list_at None s = record { first = s.facts.arguments_top; length = length (layer_list s) }
argument_list_at (Some i) s = i.arguments

-- the fact with them: a new one, or the one that the lambda has
abbrev pub function_fact : Option FunctionInformation → ListAt → ListAt → Bool → ℕ → FunctionInformation
function_fact None captured arguments escapes depth = record {
  captured_vars = captured;
  arguments = arguments;
  escapes = escapes;
  aliases_to = NONE;
  depth = depth;
}
function_fact (Some i) captured arguments escapes depth = record {
  captured_vars = captured;
  arguments = arguments;
  escapes = i.escapes;
  aliases_to = i.aliases_to;
  depth = i.depth;
}

-- what they need
pub record ListsEnd (rs : List ℕ) (at : ℕ) (d : Lambda) (v : Option FunctionInformation) (p : Pass) (C A w : List ℕ) : Type 0 where
  pub facts : List ℕ
  pub s : State
  pub xs : List Ident
  pub b : Tree
  pub told : Told rs d.names xs
  pub body : HasBody rs d b
  pub fits : Fits rs (raw p facts C A w) s
  pub few : at < rows_most
  pub made : v ≡ None → s.facts.arguments_top + length (newest_layer s.scope.names) ≤ list_entries_most
  pub amended : (i : FunctionInformation) → v ≡ Some i → Inside i.captured_vars
  pub captured : p.captured_top + list_entries_most < 4294967296

-- the lists are in the tables, and the code says where they lie
pub record Listed (o : Option FunctionInformation) (at : ℕ) (xs : List Ident) (b : Tree) (s : State) (e : Pass × ListAt × ListAt) (F C A w : List ℕ) : Type 0 where
  pub tied : Tied (raw e.0 F C A w) (with_lists o at xs b s)
  pub captured : e.1 ≡ captured_list_at o xs b s
  pub arguments : e.2 ≡ argument_list_at o s

pub record EndsLists (rs : List ℕ) (at : ℕ) (d : Lambda) (v : Option FunctionInformation) (p : Pass) (C A w : List ℕ) (e : Pass × ListAt × ListAt) (C' A' w' : List ℕ) : Type 0 where
  pub is : (F : List ℕ) (s : State) (xs : List Ident) (b : Tree) → Told rs d.names xs → HasBody rs d b → Fits rs (raw p F C A w) s
      → Listed v at xs b s e F C' A' w'
