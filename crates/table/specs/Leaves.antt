-- What a function that reads or writes one row of a table promises, of every list of rows that the table holds.
use Rattle.std.specs.Prelude.{ℕ, ◌<◌, List, ◌≡◌, length, get_or, set}
use Rattle.table.specs.Layout.{layout}

-- row i becomes a
pub record Stores {A : Type 0} (put : A → List ℕ) (F : List ℕ) (i : ℕ) (a : A) (F' : List ℕ) : Type 0 where
  pub is : (l : List A) → F ≡ layout put l → i < length l → F' ≡ layout put (set l i a)

-- row i is changed by f; `none` is a row that the list does not have
pub record Amends {A : Type 0} (put : A → List ℕ) (none : A) (f : A → A) (F : List ℕ) (i : ℕ) (F' : List ℕ) : Type 0 where
  pub is : (l : List A) → F ≡ layout put l → i < length l → F' ≡ layout put (set l i (f (get_or l i none)))

-- r is what f says of row i
pub record Tells {A B : Type 0} (put : A → List ℕ) (none : A) (f : A → B) (F : List ℕ) (i : ℕ) (r : B) : Type 0 where
  pub is : (l : List A) → F ≡ layout put l → i < length l → r ≡ f (get_or l i none)
