-- What the four tables lent for a run hold when the text is made. Document 01, "What the operations answer": unchanged after 1, zero after 2 to 12. A bad line
-- goes before any refusal, and leaves them unchanged too.
use Rattle.std.specs.Prelude.{ℕ, ◌≤◌, ◌<◌, Bool, true, false, List, ◌≡◌, length, Some}
use Rattle.tree.specs.Record.{Record, numbers}
use Rattle.tree.specs.Tree.{Trees}
use Rattle.tree.specs.Check.{Refusal, refusal}
use Rattle.tree.specs.Accepted.{Accepted}
use Rattle.pass.specs.Run.{Tables, zeros, fresh_outcome}
use Rattle.reading.specs.Reading.{bad, good, read}
use Rattle.listing.specs.Listing.{records_most}

-- for these classes and records: t' where t was lent
pub record Left (fit : Bool) (cs : List ℕ) (rs : List Record) (t t' : Tables) : Type 0 where
  pub unfit : fit ≡ false → t' ≡ t
  pub too_many : fit ≡ true → records_most < length rs → t' ≡ zeros
  pub refused : fit ≡ true → length rs ≤ records_most → (r : Refusal) → refusal (length cs) (numbers rs) ≡ Some r → t' ≡ zeros
  pub accepted : fit ≡ true → length rs ≤ records_most → (ts : Trees) → Accepted (length cs) (numbers rs) ts → t' ≡ (fresh_outcome cs ts).tables

-- for the bytes b
pub record Leaves (fit : Bool) (b : List ℕ) (t t' : Tables) : Type 0 where
  pub bad_line : (n : ℕ) → read b ≡ bad n → t' ≡ t
  pub good_input : (cs : List ℕ) (rs : List Record) → read b ≡ good cs rs → Left fit cs rs t t'
