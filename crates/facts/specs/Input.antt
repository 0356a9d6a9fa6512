-- No contract can say which bytes a read gives. So each of these is of some bytes.
use Rattle.std.specs.Prelude.{ℕ, ◌≤◌, true, List, length, take}
use Rattle.reading.specs.Held.{Holds, Fed}
use Rattle.reading.specs.declared.reader.Reading.{Reading}
use Rattle.listing.specs.Listing.{Prints}

-- some bytes more were read
pub record More (r : Reading) (L T R : List ℕ) (r' : Reading) (L' T' R' : List ℕ) : Type 0 where
  pub bytes : List ℕ
  pub fed : Fed bytes r L T R r' L' T' R'

-- some bytes were read
pub record Read (r : Reading) (L T R : List ℕ) : Type 0 where
  pub bytes : List ℕ
  pub holds : Holds r bytes L T R

-- the text of some bytes
pub record Printed (d : List ℕ) (n : ℕ) : Type 0 where
  pub bytes : List ℕ
  pub is : Prints true bytes (take n d)
  pub inside : n ≤ length d
