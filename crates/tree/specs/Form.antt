-- The twelve forms: what a record of each may hold, and how many children it has. Document 01, "The tree".
use Rattle.std.specs.Prelude.{ℕ, zero, suc, ◌+◌, List, [], ◌∷◌, Bool, true, false, ◌&&◌, eqb, leb, ltb, Option, None, Some, slice_get}
use Rattle.tree.specs.Record.{Record}

-- A row of the document's table of forms
pub record Form : Type 0 where
  pub names : ℕ → ℕ  -- by count: the children that are names, which stand first
  pub others : ℕ → ℕ  -- by count: the children after those
  pub has_id : Bool  -- the id is 1 to 4294967294, else 0
  pub name_below : ℕ → ℕ  -- by the number of names: what the name field stays below
  pub count_most : ℕ  -- the largest count

abbrev form : (ℕ → ℕ) → (ℕ → ℕ) → Bool → (ℕ → ℕ) → ℕ → Form
form n o i b c = record { names = n; others = o; has_id = i; name_below = b; count_most = c }

-- forms 1 to 12
abbrev pub forms : List Form
forms =
    form (λ c. 0) (λ c. 0) true (λ N. N) 0  -- identifier
    ∷ form (λ c. 0) (λ c. 0) true (λ N. 2) 0  -- constant: 1 for #f
    ∷ form (λ c. 0) (λ c. 3) false (λ N. 1) 0  -- if: test, then, else
    ∷ form (λ c. c) (λ c. c + 1) true (λ N. 1) 255  -- let: names, initial expressions, body
    ∷ form (λ c. 1) (λ c. 1) false (λ N. 1) 0  -- define: name, body
    ∷ form (λ c. c) (λ c. 1) true (λ N. 1) 255  -- lambda: parameters, body
    ∷ form (λ c. 0) (λ c. c) false (λ N. 1) 255  -- begin: expressions
    ∷ form (λ c. 0) (λ c. c) true (λ N. 1) 255  -- call: head, arguments
    ∷ form (λ c. 1) (λ c. 1) false (λ N. 1) 0  -- set!: name, expression
    ∷ form (λ c. 0) (λ c. c) false (λ N. 1) 255  -- and: expressions
    ∷ form (λ c. 0) (λ c. c) false (λ N. 1) 255  -- when: test, expressions
    ∷ form (λ c. 0) (λ c. c) false (λ N. 1) 255  -- unless: test, expressions
    ∷ []

-- the form of a number
unfoldable pub form_of : ℕ → Option Form
form_of zero = None
form_of (suc n) = slice_get forms n

-- whether a form is known, and whether it has an id
abbrev pub is_form : Option Form → Bool
is_form None = false
is_form (Some f) = true

abbrev pub has_id_in : Option Form → Bool
has_id_in None = false
has_id_in (Some f) = f.has_id

-- the children of a record of form f and count c
abbrev pub names_in : Option Form → ℕ → ℕ
names_in None c = 0
names_in (Some f) c = f.names c

abbrev pub others_in : Option Form → ℕ → ℕ
others_in None c = 0
others_in (Some f) c = f.others c

unfoldable pub names_of : ℕ → ℕ → ℕ
names_of f c = names_in (form_of f) c

unfoldable pub others_of : ℕ → ℕ → ℕ
others_of f c = others_in (form_of f) c

unfoldable pub children_of : ℕ → ℕ → ℕ
children_of f c = names_of f c + others_of f c

-- a record's id and name, and its count, are within its form's row, where there are N names
abbrev pub id_fits : Bool → ℕ → Bool
id_fits true i = leb 1 i && leb i 4294967294
id_fits false i = eqb i 0

abbrev pub fits_as : ℕ → Record → Option Form → Bool
fits_as N r None = false
fits_as N r (Some f) = id_fits f.has_id r.id && (ltb r.name (f.name_below N) && leb r.count f.count_most)

unfoldable pub fits : ℕ → Record → Bool
fits N r = fits_as N r (form_of r.form)
