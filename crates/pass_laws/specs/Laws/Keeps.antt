-- What a visit keeps, in every state that has a bottom layer: the keys of all rows but its own, the lengths of tables, the depth, what was noted.
use Rattle.std.specs.Prelude.{ℕ, ◌+◌, ◌≤◌, ◌<◌, List, ◌≡◌, refl, get_or}
use Rattle.std.proofs.Common.{◌∙◌, arith}
use Rattle.tree.specs.Tree.{Tree, Trees, size, sizes, Num, Nums}
use Rattle.tree.specs.Define.{top_level}
use Rattle.semantic.specs.Rows.{Row, Blank}
use Rattle.pass.specs.State.{Facts, State, row_at, depth}
use Rattle.pass.specs.Visit.{Flags, visit, visit_arguments, visit_children}
use Rattle.pass.specs.Run.{start, run}
use Rattle.pass_laws.specs.Laws.Rows.{key}
use Rattle.pass_laws.specs.Laws.Changes.{Changes, keeps_key}
use Rattle.pass_laws.specs.Laws.Moves.{Moves, moves_key}
use Rattle.pass_laws.specs.Laws.Scopes.{Any}
use Rattle.pass_laws.specs.Laws.Visits.{visit_changes, arguments_visited, children_visited, run_changes}
use Rattle.pass_laws.specs.Laws.Ranges.{Covers, tree_writes, trees_writes, writes_top, tree_any, trees_any}

-- outside the records from i up to j
abbrev pub Off : ℕ → ℕ → ℕ → Type 0
Off i j x = i ≤ x → x < j → ⊥

-- every record but x
abbrev pub But : ℕ → ℕ → Type 0
But x y = ¬ (y ≡ x)

pub but : {i j : ℕ} (x : ℕ) → Off i j x → Covers (But x) i j
but x o y l u e = o (omega arith) (omega arith)

-- the rows T have the keys of the state's, from i up to j
pub record Agree (i j : ℕ) (T : List Row) (s : State) : Type 0 where
  pub at : (x : ℕ) → i ≤ x → x < j → key (get_or T x Blank) ≡ key (row_at s x)

-- fewer records
pub narrow : {i j k m : ℕ} {T : List Row} {s : State} → Agree i j T s → i ≤ k → m ≤ j → Agree k m T s
narrow a h g = record { at = λ x l u. a.at x (omega arith) (omega arith) }

-- and an earlier place of the walk, if none of them is written from there on
pub earlier : {i j k m : ℕ} {T : List Row} {s t : State} → Agree i j T t → i ≤ k → m ≤ j → Moves (Off k m) s t → Agree k m T s
earlier a h g c = record { at = λ x l u. a.at x (omega arith) (omega arith) ∙ moves_key c x (λ o. o l u) }

module _ (classes : List ℕ) where
  -- Rows
  pub keeps : (i : ℕ) (t : Tree) → Num i t → (f : Flags) (s : State) → 1 ≤ depth s
      → (x : ℕ) → Off i (i + size t) x → key (row_at (visit classes t f s) x) ≡ key (row_at s x)
  keeps i t n f s h x o = keeps_key (visit_changes classes t f s (tree_writes (But x) i t n (but x o)) h) x (λ d. d refl)

  pub keeps_arguments : (i : ℕ) (ts : Trees) → Nums i ts → (f : Flags) (s : State) → 1 ≤ depth s
      → (x : ℕ) → Off i (i + sizes ts) x → key (row_at (visit_arguments classes ts f s) x) ≡ key (row_at s x)
  keeps_arguments i ts n f s h x o = keeps_key (arguments_visited classes ts f s (trees_writes (But x) i ts n (but x o)) h) x (λ d. d refl)

  pub keeps_run : (ts : Trees) → Nums 0 ts → (f : Facts) (x : ℕ) → Off 0 (sizes ts) x → key (row_at (run classes ts f) x) ≡ key (row_at (start f) x)
  keeps_run ts n f x o =
      let w = trees_writes (But x) 0 ts n (λ y l u e. o (omega arith) (omega arith)) in
      keeps_key (run_changes classes ts f (writes_top (But x) ts w)) x (λ d. d refl)

  -- Lengths, depth and refusals: `keeps_lengths`, `keeps_depth` and `keeps_noted` of these
  pub visited : (t : Tree) (f : Flags) (s : State) → 1 ≤ depth s → Changes Any s (visit classes t f s)
  visited t f s h = visit_changes classes t f s (tree_any t) h

  pub visited_arguments : (ts : Trees) (f : Flags) (s : State) → 1 ≤ depth s → Changes Any s (visit_arguments classes ts f s)
  visited_arguments ts f s h = arguments_visited classes ts f s (trees_any ts) h

  pub visited_children : (ts : Trees) (f : Flags) (s : State) → 1 ≤ depth s → Changes Any s (visit_children classes ts f s)
  visited_children ts f s h = children_visited classes ts f s (trees_any ts) h

  pub ran : (ts : Trees) (f : Facts) → Changes Any (start f) (run classes ts f)
  ran ts f = run_changes classes ts f (trees_any (top_level ts))
