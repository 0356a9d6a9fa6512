-- What a visit may rely on, so that the code stays inside its tables and its numbers: of the identifiers and counts that the state holds, of the room that
-- is left, and of the stage of the run.
use Rattle.std.specs.Prelude.{ℕ, suc, ◌+◌, ◌-◌, ◌≤◌, ◌<◌, ◌≡◌, length, Option, None, Some}
use Rattle.tree.specs.Tree.{Ident, Node, Tree, Trees, many, size, sizes, Num, Nums}
use Rattle.scope_map.specs.ScopeMap.{newest_layer}
use Rattle.semantic.specs.Rows.{Blank}
use Rattle.semantic.specs.Kinds.{function_in, let_in}
use Rattle.semantic.specs.declared.FunctionInformation.{FunctionInformation}
use Rattle.semantic.specs.declared.LetInformation.{LetInformation}
use Rattle.pass.specs.State.{State, row_at, depth}
use Rattle.pass.specs.Visit.{Flags, top_flags}
use Rattle.pass.specs.Run.{rows_most, list_entries_most}
use Rattle.pass_laws.specs.Sound.{Sound, Counted, Holds, HoldsAll}
use Rattle.pass_laws.specs.Stage.{Stage, StageArguments, StageChildren, StageTops, enterings, end_of}
use Rattle.pass_laws.specs.Spread.{Spread}

-- Far below what a number can hold

abbrev pub uses_most : ℕ
uses_most = 16384

abbrev pub layers_most : ℕ
layers_most = 16384

-- the tables have their lengths, and n records more can be visited: r of them may enter a name
pub record Ample (n r : ℕ) (f : Flags) (s : State) : Type 0 where
  pub rows : length s.facts.rows ≡ rows_most
  pub captured : length s.facts.captured ≡ list_entries_most
  pub arguments : length s.facts.arguments ≡ list_entries_most
  pub uses : ℕ
  pub counted : Counted uses s
  pub few : uses + n ≤ uses_most
  pub live : length s.scope.names.live + r ≤ suc rows_most
  pub layers : depth s + n ≤ layers_most
  pub capture_layers : s.captures.depth + n ≤ layers_most
  pub height : f.height + n ≤ rows_most
  pub counter : f.counter + n ≤ rows_most

module _ (P : Ident → Type 0) where
  pub record Visitable (i : ℕ) (t : Tree) (f : Flags) (s : State) : Type 0 where
    pub num : Num i t
    pub inside : i + size t ≤ rows_most
    pub holds : Holds P t
    pub sound : Sound P s
    pub ample : Ample (size t) (size t) f s
    pub stage : Stage i t f s

  -- arguments or initial expressions
  pub record VisitableArguments (i : ℕ) (ts : Trees) (f : Flags) (s : State) : Type 0 where
    pub num : Nums i ts
    pub inside : i + sizes ts ≤ rows_most
    pub holds : HoldsAll P ts
    pub sound : Sound P s
    pub ample : Ample (sizes ts) (sizes ts) f s
    pub stage : StageArguments i ts f s

  -- the children of a begin, whose lambda defines have entered
  pub record VisitableChildren (i : ℕ) (ts : Trees) (f : Flags) (s : State) : Type 0 where
    pub num : Nums i ts
    pub inside : i + sizes ts ≤ rows_most
    pub holds : HoldsAll P ts
    pub sound : Sound P s
    pub ample : Ample (sizes ts) (suc (sizes ts) - enterings ts) f s
    pub stage : StageChildren i ts f s

  -- the trees at top level, from the record i up to j, whose lambda defines have entered
  pub record VisitableTops (i j : ℕ) (ts : Trees) (s : State) : Type 0 where
    pub spread : Spread i j ts
    pub inside : j ≤ rows_most
    pub holds : HoldsAll P ts
    pub sound : Sound P s
    pub ample : Ample (j - i) (suc (sizes ts) - enterings ts) top_flags s
    pub stage : StageTops i j ts s

-- What the functions of the code rely on, in the states in which a visit calls them

-- k names more have room, and a layer more can open
pub record Room (k : ℕ) (s : State) : Type 0 where
  pub live : length s.scope.names.live + k ≤ rows_most
  pub layers : depth s < 4294967295
  pub capture_layers : s.captures.depth < 4294967295

-- the lists of a lambda's fact, if it has one, lie inside, and the captures have room for the captured one
abbrev pub ListsFit : State → ℕ → Type 0
ListsFit s at =
    (v : FunctionInformation) → function_in (row_at s at) ≡ Some v
    → (end_of v.captured_vars ≤ list_entries_most) × (end_of v.arguments ≤ list_entries_most)
    × (length s.captures.live + v.captured_vars.length ≤ list_entries_most)

-- the captured list of a lambda's fact, if it has one, lies inside
abbrev pub CapturedFits : State → ℕ → Type 0
CapturedFits s at = (v : FunctionInformation) → function_in (row_at s at) ≡ Some v → end_of v.captured_vars ≤ list_entries_most

module _ (P : Ident → Type 0) where
  -- tables have their lengths, identifiers are those of P, and counts are small
  pub record Good (s : State) : Type 0 where
    pub rows : length s.facts.rows ≡ rows_most
    pub arguments : length s.facts.arguments ≡ list_entries_most
    pub sound : Sound P s
    pub counted : Counted uses_most s

  pub record Reliable (s : State) : Type 0 where
    pub good : Good s
    pub captured : length s.facts.captured ≡ list_entries_most

  -- the lambda at a record begins, with k parameters; and ends
  pub record LambdaBegins (at k : ℕ) (s : State) : Type 0 where
    pub reliable : Reliable s
    pub few : at < rows_most
    pub room : Room k s
    pub lists : ListsFit s at

  pub record LambdaEnds (at : ℕ) (s : State) : Type 0 where
    pub reliable : Reliable s
    pub few : at < rows_most
    pub made : function_in (row_at s at) ≡ None → s.facts.arguments_top + length (newest_layer s.scope.names) ≤ list_entries_most
    pub amended : CapturedFits s at
    pub captured : s.facts.captured_top + list_entries_most < 4294967296

  -- the let at a record, of k names: the names enter, in the lambda around; and leave
  pub record LetBegins (at k height : ℕ) (function : Option Node) (s : State) : Type 0 where
    pub reliable : Reliable s
    pub few : at < rows_most
    pub room : Room k s
    pub slots : height + k < 4294967296
    pub list : (v : LetInformation) → let_in (row_at s at) ≡ Some v → end_of v.arguments ≤ list_entries_most
    pub outer : (m : Node) → function ≡ Some m → (m.at < rows_most) × CapturedFits s m.at

  pub record LetEnds (at k : ℕ) (s : State) : Type 0 where
    pub reliable : Reliable s
    pub few : at < rows_most
    pub room : row_at s at ≡ Blank → s.facts.arguments_top + k ≤ list_entries_most

  -- k names enter
  pub record NamesEnter (k : ℕ) (s : State) : Type 0 where
    pub reliable : Reliable s
    pub room : Room k s

  -- the lambda defines among trees at top level are still to enter
  pub record EnterableTops (ts : Trees) (s : State) : Type 0 where
    pub holds : HoldsAll P ts
    pub deep : 1 ≤ depth s
    pub enters : NamesEnter (many ts) s
