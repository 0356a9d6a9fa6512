-- Marks by name: 1 where a name has one. What the functions that set them promise.
use Rattle.std.specs.Prelude.{ℕ, ◌-◌, ◌<◌, List, Bool, false, ◌||◌, ◌≡◌, length, get_or, eqb}
use Rattle.tree.specs.Record.{Record}
use Rattle.walk.specs.Bound.{is_named, bound_by}
use Rattle.walk.specs.Contract.{UsesName}

abbrev pub is_marked : List ℕ → ℕ → Bool
is_marked m x = eqb (get_or m x 0) 1

-- no name has one
abbrev pub Unmarked : List ℕ → Type 0
Unmarked m = (x : ℕ) → is_marked m x ≡ false

-- the name y has one more
pub record MarksName (m : List ℕ) (y : ℕ) (m' : List ℕ) : Type 0 where
  pub is : (x : ℕ) → x < length m → is_marked m' x ≡ (eqb x y || is_marked m x)

-- the name of the record, if that is an identifier
pub record MarksNamed (r : Record) (m m' : List ℕ) : Type 0 where
  pub is : (x : ℕ) → x < length m → is_marked m' x ≡ (is_named x r || is_marked m x)

-- the same where no name is due; n are due then
pub record MarksRecord (r : Record) (due : ℕ) (m : List ℕ) (n : ℕ) (m' : List ℕ) : Type 0 where
  pub none : due ≡ 0 → MarksNamed r m m' × (n ≡ bound_by r)
  pub some : 0 < due → (m' ≡ m) × (n ≡ due - 1)

-- the marks tell which names are used
pub record MarksUses (rs : List ℕ) (first end : ℕ) (m : List ℕ) : Type 0 where
  pub is : (x : ℕ) → x < length m → UsesName rs first end x (is_marked m x)
