-- A record: six numbers. Document 01, "The tree".
use Rattle.std.specs.Prelude.{ℕ, List, [], ◌∷◌, get_or}
use Rattle.table.specs.Layout.{layout}

pub record Record : Type 0 where
  pub form : ℕ
  pub id : ℕ
  pub name : ℕ
  pub count : ℕ
  pub from : ℕ
  pub to : ℕ

-- how many numbers a record is
abbrev pub width : ℕ
width = 6

abbrev pub put : Record → List ℕ
put r = r.form ∷ r.id ∷ r.name ∷ r.count ∷ r.from ∷ r.to ∷ []

-- the numbers of the records, one record after another
abbrev pub numbers : List Record → List ℕ
numbers l = layout put l

-- the records that a list of numbers holds; too few numbers at the end make none
unfoldable pub records : List ℕ → List Record
records [] = []
records (a ∷ []) = []
records (a ∷ b ∷ []) = []
records (a ∷ b ∷ c ∷ []) = []
records (a ∷ b ∷ c ∷ d ∷ []) = []
records (a ∷ b ∷ c ∷ d ∷ e ∷ []) = []
records (a ∷ b ∷ c ∷ d ∷ e ∷ f ∷ l) = record { form = a; id = b; name = c; count = d; from = e; to = f } ∷ records l

abbrev pub blank : Record
blank = record { form = 0; id = 0; name = 0; count = 0; from = 0; to = 0 }

-- record i
abbrev pub nth : List ℕ → ℕ → Record
nth rs i = get_or (records rs) i blank
