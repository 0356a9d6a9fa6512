-- A refusal in two numbers, as C is told it.
use Rattle.std.specs.Prelude.{ℕ, List, ◌≡◌, Option, None, Some}
use Rattle.tree.specs.Check.{Refusal}
use Rattle.pass.specs.Run.{Tables, Outcome}

-- 0 where nothing is refused
abbrev pub number_told : Option Refusal → ℕ
number_told None = 0
number_told (Some r) = r.number

abbrev pub record_told : Option Refusal → ℕ
record_told None = 0
record_told (Some r) = r.at

-- what an operation with this contract tells, and the tables that it leaves
pub record Tells (Contract : List ℕ → List ℕ → Tables → Outcome → Type 0) (classes rs : List ℕ) (t : Tables) (n i : ℕ) (t' : Tables) : Type 0 where
  pub refused : Option Refusal
  pub answers : Contract classes rs t (record { refused = refused; tables = t' })
  pub number : n ≡ number_told refused
  pub at : i ≡ record_told refused
