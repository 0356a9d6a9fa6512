-- What the operations answer, as the definitions say it.
use Rattle.std.specs.Prelude.{ℕ, List, Option, None, Some, Result, Ok, Err}
use Rattle.tree.specs.Check.{Refusal}
use Rattle.checks.specs.Answer as checks
use Rattle.checks.specs.declared.Refusal.TheVariants.{Ragged}
use Rattle.pass.specs.Run.{Tables, Outcome}
use Rattle.work.specs.declared.SecondRefusal.TheVariants.{NoLambda, NoCapture}
use Rattle.answers.specs.declared.Refusal.{Refusal as Refused}
use Rattle.answers.specs.declared.Refusal.TheVariants.{Lengths, Unfit, NameTwice, ListsFull, Second}

abbrev pub numbered : Refused → Refusal
numbered Lengths = record { number = 1; at = 0 }
numbered (Unfit r) = checks.numbered r
numbered (NameTwice i) = record { number = 9; at = i }
numbered (ListsFull i) = record { number = 10; at = i }
numbered (Second (NoLambda i)) = record { number = 11; at = i }
numbered (Second (NoCapture i)) = record { number = 12; at = i }

abbrev pub refusal_in : Result (Unit {0}) Refused → Option Refusal
refusal_in (Ok t) = None
refusal_in (Err r) = Some (numbered r)

-- numbers that are no whole records are told as `Lengths`, so that each number and record is told in one way
abbrev pub Told : Result (Unit {0}) Refused → Type 0
Told (Err (Unfit Ragged)) = ⊥
Told r = Unit {0}

abbrev pub tables : List ℕ → List ℕ → List ℕ → List ℕ → Tables
tables F C A w = record { facts = F; captured = C; arguments = A; work = w }

-- an answer and the tables that it leaves
abbrev pub outcome_of : Result (Unit {0}) Refused → List ℕ → List ℕ → List ℕ → List ℕ → Outcome
outcome_of r F C A w = record { refused = refusal_in r; tables = tables F C A w }
