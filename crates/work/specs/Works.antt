-- The work table and what is threaded beside it hold a state, all but its facts.
use Rattle.std.specs.Prelude.{ℕ, ◌*◌, ◌≤◌, ◌<◌, List, [], ◌∷◌, ◌≡◌, length, Option}
use Rattle.table.specs.Layout.{layout}
use Rattle.table.specs.Region.{region}
use Rattle.tree.specs.Tree.{Ident}
use Rattle.tree.specs.Check.{Refusal}
use Rattle.scope_map.specs.ScopeMap.{Live}
use Rattle.scope_map.specs.Map.{map_values}
use Rattle.scope_map.specs.Hints.{rows_length, map_length}
use Rattle.scope_map.specs.Held.{Held}
use Rattle.pass.specs.State.{State, Capture}
use Rattle.pass.specs.Run.{rows_most}
use Rattle.work.specs.Coded.{put_entry_row, capture_of, capture_width, put_capture, put_binder, second_of}
use Rattle.work.specs.declared.Pass.{Pass}

-- Which numbers of the work table are what: the first of each part, and how many

abbrev pub scope_length : ℕ
scope_length = map_length

abbrev pub entries_first : ℕ
entries_first = 13312

abbrev pub entries_length : ℕ
entries_length = 20480

abbrev pub captures_first : ℕ
captures_first = 33792

abbrev pub captures_length : ℕ
captures_length = map_length

abbrev pub capture_data_first : ℕ
capture_data_first = 47104

abbrev pub capture_data_length : ℕ
capture_data_length = 8192

abbrev pub binders_first : ℕ
binders_first = 55296

abbrev pub binders_length : ℕ
binders_length = 4096

abbrev pub work_long : ℕ
work_long = 59392

abbrev pub record_at : Ident → ℕ
record_at x = x.at

abbrev pub row_of : Capture → ℕ
row_of c = c.row

-- what is known of a capture stands in row i, from which it can be read back
pub record CaptureAt (t : List ℕ) (i : ℕ) (c : Capture) : Type 0 where
  pub row : region t (capture_width * i) capture_width ≡ put_capture (capture_of c)
  pub small : c.binder.at < rows_most

-- the captures stand in rows, the oldest first
unfoldable pub TakenIn : List ℕ → List (Live Capture) → Type 0
TakenIn t [] = Unit {0}
TakenIn t (c ∷ l) = CaptureAt t (length l) c.value × TakenIn t l

-- what is threaded beside the table, by the code and by the state
pub record Beside : Type 0 where
  pub context : ℕ
  pub captured_top : ℕ
  pub arguments_top : ℕ
  pub nine : Option ℕ
  pub ten : Option ℕ
  pub second : Option Refusal

abbrev pub beside_pass : Pass → Beside
beside_pass p = record {
  context = p.context;
  captured_top = p.captured_top;
  arguments_top = p.arguments_top;
  nine = p.nine;
  ten = p.ten;
  second = second_of p.second;
}

abbrev pub beside_state : State → Beside
beside_state s = record {
  context = s.context;
  captured_top = s.facts.captured_top;
  arguments_top = s.facts.arguments_top;
  nine = s.noted.nine;
  ten = s.noted.ten;
  second = s.noted.second;
}

pub record Works (p : Pass) (w : List ℕ) (s : State) : Type 0 where
  pub long : length w ≡ work_long
  pub names : Held p.scope (region w 0 scope_length) (map_values record_at s.scope.names)
  pub entries : region w entries_first entries_length ≡ layout put_entry_row s.scope.entries
  pub captures : Held p.captures (region w captures_first captures_length) (map_values row_of s.captures)
  pub taken : TakenIn (region w capture_data_first capture_data_length) s.captures.live
  pub binders : region w binders_first binders_length ≡ layout put_binder s.facts.captured
  pub beside : beside_pass p ≡ beside_state s

-- what the code needs of the numbers alone: the table is long enough, and the rows of the maps lie in their parts
pub record Spacious (p : Pass) (w : List ℕ) : Type 0 where
  pub long : length w ≡ work_long
  pub names : 3 * p.scope.length ≤ rows_length
  pub captures : 3 * p.captures.length ≤ rows_length
