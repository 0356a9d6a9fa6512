-- The document's number and record for each refusal of `check`, and for what it answers.
use Rattle.std.specs.Prelude.{ℕ, Option, None, Some, Result, Ok, Err}
use Rattle.tree.specs.Check.{Refusal}
use Rattle.checks.specs.declared.Refusal.{Refusal as Refused}
use Rattle.checks.specs.declared.Refusal.TheVariants.{Ragged, TooMany, Field, Missing, Deep, NotAName, EmptyCall, Untested, Repeated}

abbrev refusal : ℕ → ℕ → Refusal
refusal n i = record { number = n; at = i }

abbrev pub numbered : Refused → Refusal
numbered Ragged = refusal 1 0
numbered TooMany = refusal 2 0
numbered (Field i) = refusal 3 i
numbered (Missing i) = refusal 4 i
numbered (Deep i) = refusal 5 i
numbered (NotAName i) = refusal 6 i
numbered (EmptyCall i) = refusal 7 i
numbered (Untested i) = refusal 16 i
numbered (Repeated i) = refusal 8 i

abbrev pub refusal_of : Result (Unit {0}) Refused → Option Refusal
refusal_of (Ok t) = None
refusal_of (Err r) = Some (numbered r)
