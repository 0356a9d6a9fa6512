-- Checks 1 to 8 and 16: each over the whole input before the next, each with the first record it applies to. Document 01, "What the operations answer".
use Rattle.std.specs.Prelude.{ℕ, ◌%◌, List, [], ◌∷◌, Bool, true, false, cond, not, ◌&&◌, ◌||◌, length, eqb, ltb, Option, None, Some}
use Rattle.tree.specs.Record.{Record, width, records}
use Rattle.tree.specs.Form.{fits}
use Rattle.tree.specs.Place.{placed, left}
use Rattle.tree.specs.First.{on, first}
pub mod Examples

pub record Refusal : Type 0 where
  pub number : ℕ
  pub at : ℕ

-- the record i where the test holds
abbrev pub when : Bool → ℕ → Option ℕ
when true i = Some i
when false i = None

-- an id that is not 0 and stands earlier too
abbrev pub member : ℕ → List ℕ → Bool
member i [] = false
member i (j ∷ l) = eqb i j || member i l

unfoldable pub repeated : List ℕ → List Record → Option ℕ
repeated seen [] = None
repeated seen (r ∷ l) = cond (not (eqb r.id 0) && member r.id seen) (Some 0) (on 1 (repeated (r.id ∷ seen) l))

-- a check's number with the record that it refuses, else what the later checks say
abbrev pub or_else : ℕ → Option ℕ → Option Refusal → Option Refusal
or_else n (Some i) o = Some (record { number = n; at = i })
or_else n None o = o

-- a when or an unless of nothing
abbrev pub untested : Record → Bool
untested r = (eqb r.form 11 || eqb r.form 12) && eqb r.count 0

-- Each check as the record that it refuses, if any. N is the number of names.
module _ (N : ℕ) (rs : List ℕ) where
  -- 1: the numbers are no whole records
  unfoldable pub check1 : Option ℕ
  check1 = when (not (eqb (length rs % width) 0)) 0

  -- 2: above 4,096 records or 1,024 names
  unfoldable pub check2 : Option ℕ
  check2 = when (ltb 4096 (length (records rs)) || ltb 1024 N) 0

  -- 3: a field outside the table
  unfoldable pub check3 : Option ℕ
  check3 = first (λ r. not (fits N r)) (records rs)

  -- 4: children missing at the end, at the record count
  unfoldable pub check4 : Option ℕ
  check4 = when (not (eqb (length (left [] (records rs))) 0)) (length (records rs))

  -- 5: nesting of 65
  unfoldable pub check5 : Option ℕ
  check5 = first (λ p. ltb 64 p.nesting) (placed [] (records rs))

  -- 6: a name's place held by another form
  unfoldable pub check6 : Option ℕ
  check6 = first (λ p. p.is_name && not (eqb p.of.form 1)) (placed [] (records rs))

  -- 7: a call with count 0
  unfoldable pub check7 : Option ℕ
  check7 = first (λ r. eqb r.form 8 && eqb r.count 0) (records rs)

  -- 16: a when or an unless without a test
  unfoldable pub check16 : Option ℕ
  check16 = first untested (records rs)

  -- 8: an id used twice, at the record that repeats an earlier one
  unfoldable pub check8 : Option ℕ
  check8 = repeated [] (records rs)

  -- the first check that refuses
  unfoldable pub refusal : Option Refusal
  refusal =
      or_else 1 check1
      (or_else 2 check2
      (or_else 3 check3
      (or_else 4 check4
      (or_else 5 check5
      (or_else 6 check6
      (or_else 7 check7
      (or_else 16 check16
      (or_else 8 check8 None))))))))
