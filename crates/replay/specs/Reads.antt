-- What the readers promise of places in the input: so that the replay ends.
use Rattle.std.specs.Prelude.{ℕ, ◌-◌, ◌≤◌, ◌<◌, Bool, true, List, ◌≡◌, length, Option, is_some}
use Rattle.replay.specs.declared.input.Numbers.{Numbers}

-- what was found from the place at on ends at the place next
pub record Reads (input : List ℕ) (at : ℕ) (found : Bool) (next : ℕ) : Type 0 where
  pub onward : at ≤ next
  pub inside : found ≡ true → at < length input
  pub more : found ≡ true → at < next

-- nothing that was read is read again
abbrev pub GoesOn : Numbers → Numbers → Type 0
GoesOn s t = length t.rest.now ≤ length s.rest.now

-- something was read
abbrev pub IsShorter : Numbers → Numbers → Type 0
IsShorter s t = length t.rest.now < length s.rest.now

-- the next number, if there is one: places count from where the reading was
pub record GivesNumber (s : Numbers) (n : Option ℕ) (t : Numbers) : Type 0 where
  pub onward : GoesOn s t
  pub reads : Reads s.rest.now 0 (is_some n) (length s.rest.now - length t.rest.now)
