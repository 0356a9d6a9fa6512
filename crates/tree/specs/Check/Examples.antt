-- Lists of records with the check that refuses them: at which record, where a limit lies, and which of two checks comes first. Documents 01 and 02.
use Rattle.std.specs.Prelude.{ℕ, List, [], ◌∷◌, ◌++◌, map, ◌≡◌, refl, replicate, Option, None, Some}
use Rattle.table.specs.Layout.{layout}
use Rattle.tree.specs.Record.{Record, numbers, records}
use Rattle.tree.specs.Form.{form_of, names_of, others_of, fits}
use Rattle.tree.specs.Place.{closed, after, placed, left}
use Rattle.tree.specs.First.{first}
use Rattle.tree.specs.Check.{Refusal, repeated, check1, check2, check3, check4, check5, check6, check7, check16, check8, refusal}

-- a record of this form, id and count
abbrev row : ℕ → ℕ → ℕ → Record
row f id c = record { form = f; id = id; name = 0; count = c; from = 0; to = 0 }

pub record Checked : Type 0 where
  pub records : List Record
  pub refused : Option Refusal

-- a constant in this many begins: it nests one deeper
abbrev nested : ℕ → List Record
nested n = replicate n (row 7 0 1) ++ (row 2 1 0 ∷ [])

abbrev pub checks : List Checked
checks =
    -- nesting is at most 64, a top-level expression counting 1
    record { records = nested 63; refused = None }
    ∷ record { records = nested 64; refused = Some (record { number = 5; at = 64 }) }
    -- (begin 1 2 _ _): children are missing at the end, at the record count
    ∷ record { records = row 7 0 4 ∷ row 2 1 0 ∷ row 2 2 0 ∷ []; refused = Some (record { number = 4; at = 3 }) }
    -- 1 2 3 and 2 again, with the id of the first 2
    ∷ record { records = row 2 1 0 ∷ row 2 2 0 ∷ row 2 3 0 ∷ row 2 2 0 ∷ row 2 5 0 ∷ []; refused = Some (record { number = 8; at = 3 }) }
    -- (and)
    ∷ record { records = row 10 0 0 ∷ []; refused = None }
    -- (begin (when))
    ∷ record { records = row 7 0 1 ∷ row 11 0 0 ∷ []; refused = Some (record { number = 16; at = 1 }) }
    -- (unless) (): 7 covers all records first
    ∷ record { records = row 12 0 0 ∷ row 8 2 0 ∷ []; refused = Some (record { number = 7; at = 1 }) }
    -- (when) and an id used twice
    ∷ record { records = row 11 0 0 ∷ row 2 1 0 ∷ row 2 1 0 ∷ []; refused = Some (record { number = 16; at = 0 }) }
    -- (when) and a define of (and x)
    ∷ record { records = row 11 0 0 ∷ row 5 0 0 ∷ row 10 0 1 ∷ row 1 4 0 ∷ row 2 5 0 ∷ []; refused = Some (record { number = 6; at = 2 }) }
    -- an and with an id, and one of 256 children
    ∷ record { records = row 10 1 0 ∷ []; refused = Some (record { number = 3; at = 0 }) }
    ∷ record { records = row 12 0 256 ∷ []; refused = Some (record { number = 3; at = 0 }) }
    ∷ []

pub checks_hold : map (λ (c : Checked). refusal 1 (numbers c.records)) checks ≡ map (λ (c : Checked). c.refused) checks
unfolding layout records fits form_of names_of others_of closed after placed left first repeated check1 check2 check3 check4 check5 check6 check7 check16 check8 refusal
checks_hold = refl
