-- The captured entries are written in their table, and their binders in the work table.
use Rattle.std.specs.Prelude.{ℕ, ◌<◌, List}
use Rattle.semantic.specs.Rows.{ListEntry}
use Rattle.pass.specs.State.{State, list_entry_at, with_captured}
use Rattle.pass.specs.Run.{rows_most}
use Rattle.work.specs.Tied.{raw, Tied}
use Rattle.work.specs.declared.Pass.{Pass}

-- some state is held, and the binder of each captured entry is a record
pub record Stored (C w : List ℕ) : Type 0 where
  pub pass : Pass
  pub facts : List ℕ
  pub arguments : List ℕ
  pub s : State
  pub tied : Tied (raw pass facts C arguments w) s
  pub binders : (i : ℕ) → (list_entry_at s i).binder.at < rows_most

-- the captured entries become f of them
pub record Rewrites (C w : List ℕ) (f : List ListEntry → List ListEntry) (C' w' : List ℕ) : Type 0 where
  pub is : (p : Pass) (F A : List ℕ) (s : State) → Tied (raw p F C A w) s → Tied (raw p F C' A w') (with_captured (f s.facts.captured) s)
