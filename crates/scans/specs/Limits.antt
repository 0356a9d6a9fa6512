-- The limits by form as columns, each with an entry for the forms 0 to 12.
use Rattle.std.specs.Prelude.{ℕ, ◌+◌, ◌*◌, ◌≤◌, ◌<◌, List, [], ◌∷◌, cond, get_or}
use Rattle.tree.specs.Record.{Record}
use Rattle.tree.specs.Form.{form_of, has_id_in}
use Rattle.scans.specs.declared.limits.Limits.{Limits}
use Rattle.scans.specs.declared.limits.Parts.{Parts}

-- N is the number of names
unfoldable pub limits : ℕ → Limits
limits N = record {
  least_id = 1 ∷ 1 ∷ 1 ∷ 0 ∷ 1 ∷ 0 ∷ 1 ∷ 0 ∷ 1 ∷ 0 ∷ 0 ∷ 0 ∷ 0 ∷ [];
  most_id = 0 ∷ 4294967294 ∷ 4294967294 ∷ 0 ∷ 4294967294 ∷ 0 ∷ 4294967294 ∷ 0 ∷ 4294967294 ∷ 0 ∷ 0 ∷ 0 ∷ 0 ∷ [];
  least_count = 0 ∷ 0 ∷ 0 ∷ 0 ∷ 0 ∷ 0 ∷ 0 ∷ 0 ∷ 1 ∷ 0 ∷ 0 ∷ 1 ∷ 1 ∷ [];
  most_count = 0 ∷ 0 ∷ 0 ∷ 0 ∷ 255 ∷ 0 ∷ 255 ∷ 255 ∷ 255 ∷ 0 ∷ 255 ∷ 255 ∷ 255 ∷ [];
  name_below = 1 ∷ N ∷ 2 ∷ 1 ∷ 1 ∷ 1 ∷ 1 ∷ 1 ∷ 1 ∷ 1 ∷ 1 ∷ 1 ∷ 1 ∷ [];
  most_due = 0 ∷ 255 ∷ 0 ∷ 0 ∷ 0 ∷ 0 ∷ 0 ∷ 0 ∷ 0 ∷ 0 ∷ 0 ∷ 0 ∷ 0 ∷ [];
  names = record {
    every = 0 ∷ 0 ∷ 0 ∷ 0 ∷ 0 ∷ 1 ∷ 0 ∷ 0 ∷ 0 ∷ 1 ∷ 0 ∷ 0 ∷ 0 ∷ [];
    counted = 0 ∷ 0 ∷ 0 ∷ 0 ∷ 1 ∷ 0 ∷ 1 ∷ 0 ∷ 0 ∷ 0 ∷ 0 ∷ 0 ∷ 0 ∷ [];
  };
  children = record {
    every = 0 ∷ 0 ∷ 0 ∷ 3 ∷ 1 ∷ 2 ∷ 1 ∷ 0 ∷ 0 ∷ 2 ∷ 0 ∷ 0 ∷ 0 ∷ [];
    counted = 0 ∷ 0 ∷ 0 ∷ 0 ∷ 2 ∷ 0 ∷ 1 ∷ 1 ∷ 1 ∷ 0 ∷ 1 ∷ 1 ∷ 1 ∷ [];
  };
}

-- those of the id: the limit given on a form that has an id, 0 on the others; no id is within those of form 0, which are given
abbrev pub id_limit : ℕ → ℕ → ℕ
id_limit limit f = cond (has_id_in (form_of f)) limit 0

abbrev pub id_column : ℕ → ℕ → List ℕ
id_column none limit =
    none
    ∷ id_limit limit 1
    ∷ id_limit limit 2
    ∷ id_limit limit 3
    ∷ id_limit limit 4
    ∷ id_limit limit 5
    ∷ id_limit limit 6
    ∷ id_limit limit 7
    ∷ id_limit limit 8
    ∷ id_limit limit 9
    ∷ id_limit limit 10
    ∷ id_limit limit 11
    ∷ id_limit limit 12
    ∷ []

-- a column's number of form f
abbrev pub limit_of : List ℕ → ℕ → ℕ
limit_of column f = get_or column f 0

-- i is between the limits of the ids of form f
abbrev pub Between : Limits → ℕ → ℕ → Type 0
Between t f i = (limit_of t.least_id f ≤ i) × (i ≤ limit_of t.most_id f)

-- so many names, or children, has the record r
abbrev pub parts_at : Parts → Record → ℕ
parts_at p r = limit_of p.every r.form + limit_of p.counted r.form * r.count

-- the fields of the record r are within its form's limits, but for the least count
pub record Fields (t : Limits) (r : Record) : Type 0 where
  pub known : r.form ≤ 12
  pub id : Between t r.form r.id
  pub most : r.count ≤ limit_of t.most_count r.form
  pub name : r.name < limit_of t.name_below r.form

-- the record r is within its form's limits, where so many names are due
pub record Within (t : Limits) (r : Record) (due : ℕ) : Type 0 where
  pub fields : Fields t r
  pub least : limit_of t.least_count r.form ≤ r.count
  pub few : due ≤ limit_of t.most_due r.form
