-- What the steps of an operation promise: each of every tree that the records are.
use Rattle.std.specs.Prelude.{ℕ, ◌≤◌, ◌<◌, Bool, true, false, List, ◌≡◌, length, None, Some}
use Rattle.tree.specs.Record.{records}
use Rattle.tree.specs.Tree.{Trees}
use Rattle.tree.specs.Check.{Refusal, refusal}
use Rattle.tree.specs.Accepted.{Accepted}
use Rattle.pass.specs.Run.{rows_most, Tables, Outcome, zeros, fresh_outcome, settled_outcome}
use Rattle.work.specs.Tied.{Raw, raw}
use Rattle.work.specs.declared.Pass.{Pass}
use Rattle.answers.specs.declared.Tables.{Tables as Lent}
use Rattle.answers.specs.Clear.{cleared, Rested, Blank}

-- a pass and what lent tables hold
abbrev pub raw_in : Pass → Lent → Raw
raw_in p t = raw p t.facts.now t.captured.now t.arguments.now t.work.now

abbrev pub outcome_by : Bool → List ℕ → Trees → Outcome
outcome_by true = settled_outcome
outcome_by false = fresh_outcome

-- a table of more numbers than there are records, where those are not too many
pub record StartsFit (rs tops : List ℕ) : Type 0 where
  pub room : length (records rs) ≤ rows_most → length (records rs) < length tops

-- the records are trees, and nothing is known of them yet
pub record Begins (classes rs : List ℕ) (t : Tables) : Type 0 where
  pub ts : Trees
  pub accepted : Accepted (length classes) rs ts
  pub blank : Blank t

-- what is left of o is the outcome for the trees that the records are
pub record Ends (outcome_of : List ℕ → Trees → Outcome) (classes rs : List ℕ) (o : Outcome) : Type 0 where
  pub sound : (ts : Trees) → Accepted (length classes) rs ts → cleared o ≡ outcome_of classes ts
  pub rest : Rested (length (records rs)) o.tables.work

-- the same of any records: the checks say whether they are trees
pub record Checks (outcome_of : List ℕ → Trees → Outcome) (classes rs : List ℕ) (o : Outcome) : Type 0 where
  pub unsound : (r : Refusal) → refusal (length classes) rs ≡ Some r → cleared o ≡ record { refused = Some r; tables = zeros }
  pub sound : (ts : Trees) → Accepted (length classes) rs ts → cleared o ≡ outcome_of classes ts
  pub rest : o.refused ≡ None → Rested (length (records rs)) o.tables.work
