-- Which tables are of their set lengths.
use Rattle.std.specs.Prelude.{ℕ, true, List, ◌≡◌, length}
use Rattle.pass.specs.Run.{Tables, lengths_fit}
use Rattle.listing.specs.Listing.{classes_length, records_length}

pub record Fits (T R : List ℕ) (t : Tables) : Type 0 where
  pub classes : length T ≡ classes_length
  pub records : length R ≡ records_length
  pub tables : lengths_fit t ≡ true
