-- Where each record stands. Records in preorder take the places that earlier ones opened, one after another.
use Rattle.std.specs.Prelude.{ℕ, zero, suc, ◌+◌, ◌-◌, List, [], ◌∷◌, Bool, false, cond, length, eqb, ltb}
use Rattle.tree.specs.Record.{Record}
use Rattle.tree.specs.Form.{names_of, others_of}

-- the children of a record that are still to come
pub record Open : Type 0 where
  pub names : ℕ  -- name children, which come first
  pub others : ℕ

-- the open records are a list, innermost first; one with no child to come is closed
unfoldable pub closed : List Open → List Open
closed [] = []
closed (o ∷ s) = cond (eqb (o.names + o.others) 0) (closed s) (o ∷ s)

-- the next record takes a place of the innermost; at top level there always is one
abbrev pub take_one : ℕ → ℕ → Open
take_one zero k = record { names = 0; others = k - 1 }
take_one (suc n) k = record { names = n; others = k }

abbrev pub taken : List Open → List Open
taken [] = []
taken (o ∷ s) = take_one o.names o.others ∷ s

-- the open records after the record r
unfoldable pub after : List Open → Record → List Open
after s r = closed (record { names = names_of r.form r.count; others = others_of r.form r.count } ∷ taken s)

-- a record and its place
pub record Placed : Type 0 where
  pub of : Record
  pub nesting : ℕ  -- 1 at top level
  pub is_name : Bool  -- the place is a name's

abbrev pub is_name_place : List Open → Bool
is_name_place [] = false
is_name_place (o ∷ s) = ltb 0 o.names

unfoldable pub placed : List Open → List Record → List Placed
placed s [] = []
placed s (r ∷ l) = record { of = r; nesting = suc (length s); is_name = is_name_place s } ∷ placed (after s r) l

-- what is open after all the records
unfoldable pub left : List Open → List Record → List Open
left s [] = s
left s (r ∷ l) = left (after s r) l
