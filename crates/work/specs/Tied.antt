-- The tables and what is threaded beside them hold a state; and what of a state keeps the code inside its tables.
use Rattle.std.specs.Prelude.{ℕ, List, ◌≡◌, length}
use Rattle.table.specs.Layout.{layout}
use Rattle.tree.specs.Tree.{Ident}
use Rattle.semantic.specs.Rows.{put_row, put_list_entry}
use Rattle.pass.specs.State.{State}
use Rattle.pass_laws.specs.Visitable as visitable
use Rattle.work.specs.Known.{Known}
use Rattle.work.specs.Works.{Works}
use Rattle.work.specs.declared.Pass.{Pass}

-- what the code holds
pub record Raw : Type 0 where
  pub pass : Pass
  pub facts : List ℕ
  pub captured : List ℕ
  pub arguments : List ℕ
  pub work : List ℕ

abbrev pub raw : Pass → List ℕ → List ℕ → List ℕ → List ℕ → Raw
raw p f c a w = record { pass = p; facts = f; captured = c; arguments = a; work = w }

pub record Tied (z : Raw) (s : State) : Type 0 where
  pub facts : z.facts ≡ layout put_row s.facts.rows
  pub captured : z.captured ≡ layout put_list_entry s.facts.captured
  pub arguments : z.arguments ≡ layout put_list_entry s.facts.arguments
  pub works : Works z.pass z.work s

-- the identifiers are the tree's
abbrev pub Good : List ℕ → State → Type 0
Good rs s = visitable.Good (Known rs) s

-- a good state is held
pub record Fits (rs : List ℕ) (z : Raw) (s : State) : Type 0 where
  pub good : Good rs s
  pub tied : Tied z s

-- how many rows of facts there are
abbrev pub row_count : State → ℕ
row_count s = length s.facts.rows

-- the record at holds the identifier x
pub record Here (rs : List ℕ) (at : ℕ) (z : Raw) (s : State) (x : Ident) : Type 0 where
  pub known : Known rs x
  pub place : x.at ≡ at
  pub good : Good rs s
  pub tied : Tied z s
