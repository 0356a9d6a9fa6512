-- What the reader's state says of the bytes so far, and what each of its functions promises.
use Rattle.std.specs.Prelude.{ℕ, ◌+◌, ◌*◌, ◌^◌, ◌≤◌, ◌<◌, min, true, false, List, [], ◌++◌, ◌≡◌, eqb, ltb, length, take, None, Some, Result, Ok, Err}
use Rattle.std.proofs.lemmas.List.Edits.{sets}
use Rattle.tree.specs.Record.{Record, numbers, width}
use Rattle.reading.specs.Reading.{Said, nothing, says, differs, next, with_line, State, state, with_bytes, bad, good, read}
use Rattle.reading.specs.Leaves.{Spares, Leaves}
use Rattle.reading.specs.declared.reader.Reading.{Reading}
use Rattle.reading.specs.declared.reader.Counts.{Counts}
use Rattle.reading.specs.declared.reader.BadLine.{BadLine}

-- a count, as far as it can be shown
abbrev pub shown : ℕ → ℕ
shown n = min n 18446744073709551615

abbrev pub spoiled : Reading → Reading
spoiled r = record { lines = r.lines; bad = Some (shown (r.lines + 1)); names = r.names; classes = r.classes; records = r.records; length = r.length }

-- the tables hold the classes and the records, where they have room for them all
pub record Kept (cs : List ℕ) (rs : List Record) (T R : List ℕ) : Type 0 where
  pub classes : length cs ≤ length T → take (length cs) T ≡ cs
  pub records : width * length rs ≤ length R → take (width * length rs) R ≡ numbers rs

-- the state after lines that say this
pub record Says (r : Reading) (n : ℕ) (cs : List ℕ) (rs : List Record) (T R : List ℕ) : Type 0 where
  pub fine : r.bad ≡ None
  pub lines : r.lines ≡ shown (1 + length cs + length rs)
  pub names : r.names ≡ n
  pub few : n < 2 ^ 32
  pub classes : r.classes ≡ length cs
  pub most : length cs ≤ n
  pub records : r.records ≡ shown (length rs)
  pub kept : Kept cs rs T R

pub data Tied (r : Reading) (T R : List ℕ) : Said → Type 0 where
  tied_nothing : r.lines ≡ 0 → r.bad ≡ None → Tied r T R nothing
  tied_says : {n : ℕ} {cs : List ℕ} {rs : List Record} → Says r n cs rs T R → Tied r T R (says n cs rs)

-- The state after the bytes b: the lines are good so far, and L, which has room for any good line, starts with the one that has not ended; or every
-- input that starts with b is bad at one line.
pub record Going (r : Reading) (s : State) (L T R : List ℕ) : Type 0 where
  pub room : 92 ≤ length L
  pub many : r.length ≡ length s.rest
  pub inside : length s.rest ≤ length L
  pub rest : take (length s.rest) L ≡ s.rest
  pub tied : Tied r T R s.said

pub data Holds (r : Reading) (b L T R : List ℕ) : Type 0 where
  going : Going r (with_bytes (state nothing []) b) L T R → Holds r b L T R
  lost : (n : ℕ) → 0 < n → r.bad ≡ Some (shown n) → ((t : List ℕ) → read (b ++ t) ≡ bad n) → Holds r b L T R

pub record Starts (r : Reading) : Type 0 where
  pub is : (L T R : List ℕ) → 92 ≤ length L → Holds r [] L T R

-- bytes more: the state that is held after them, and what is left as it was even where none was held before
pub record Fed (c : List ℕ) (r : Reading) (L T R : List ℕ) (r' : Reading) (L' T' R' : List ℕ) : Type 0 where
  pub is : (b : List ℕ) → Holds r b L T R → Holds r' (b ++ c) L' T' R'
  pub leaves : Leaves r L T R r' L' T' R'

-- the end

abbrev pub bad_line : ℕ → Result Counts BadLine
bad_line n = Err (record { 0 = n })

abbrev pub counts : ℕ → ℕ → Result Counts BadLine
counts i j = Ok (record { classes = i; records = j })

pub data Answers (b T R : List ℕ) : Result Counts BadLine → Type 0 where
  is_bad : {k : ℕ} (n : ℕ) → read b ≡ bad n → k ≡ shown n → Answers b T R (bad_line k)
  is_good : {i j : ℕ} (cs : List ℕ) (rs : List Record) → read b ≡ good cs rs → i ≡ length cs → j ≡ shown (length rs) → Kept cs rs T R
      → Answers b T R (counts i j)

-- the answer of any state, whether it holds any input or not
unfoldable pub ended : Reading → Result Counts BadLine
ended r =
    elim (r.bad) [
      | None ↦ elim (eqb r.length 0) [
        | true ↦ elim (eqb r.lines 0) [
          | true ↦ bad_line 1
          | false ↦ elim (ltb r.classes r.names) [ true ↦ bad_line (shown (r.lines + 1)) | false ↦ counts r.classes r.records ]
        ]
        | false ↦ bad_line (shown (r.lines + 1))
      ]
      | Some k ↦ bad_line k
    ]

pub record Finished (r : Reading) (a : Result Counts BadLine) : Type 0 where
  pub is : (b L T R : List ℕ) → Holds r b L T R → Answers b T R a
  pub any : a ≡ ended r

-- A line more

pub data Turned (s : Said) (l : List ℕ) (r : Reading) (T R : List ℕ) : Type 0 where
  turned : r.length ≡ 0 → Tied r T R (with_line s l) → Turned s l r T R
  spoilt : r.bad ≡ Some (shown (next s)) → with_line s l ≡ differs (next s) → Turned s l r T R

pub record Turns (l : List ℕ) (r : Reading) (T R : List ℕ) (r' : Reading) (T' R' : List ℕ) : Type 0 where
  pub is : (s : Said) → Tied r T R s → Turned s l r' T' R'
  pub spares : Spares r T R r' T' R'

-- the first, a class line, a record line
pub record First (l : List ℕ) (r r' : Reading) : Type 0 where
  pub is : (T R : List ℕ) → r.lines ≡ 0 → Turned nothing l r' T R
  pub spares : (T R : List ℕ) → r.lines ≡ 0 → Spares r T R r' T R

pub record Class (l : List ℕ) (r : Reading) (T : List ℕ) (r' : Reading) (T' : List ℕ) : Type 0 where
  pub is : (R : List ℕ) (n : ℕ) (cs : List ℕ) (rs : List Record) → Says r n cs rs T R → length cs < n → Turned (says n cs rs) l r' T' R
  pub spares : (R : List ℕ) → ¬ (r.lines ≡ 0) → Spares r T R r' T' R

pub record Entry (l : List ℕ) (r : Reading) (R : List ℕ) (r' : Reading) (R' : List ℕ) : Type 0 where
  pub is : (T : List ℕ) (n : ℕ) (cs : List ℕ) (rs : List Record) → Says r n cs rs T R → n ≤ length cs → Turned (says n cs rs) l r' T R'
  pub spares : (T : List ℕ) → ¬ (r.lines ≡ 0) → Spares r T R r' T R'

-- row i is written where it fits
pub record RowStored (R : List ℕ) (i : ℕ) (row : List ℕ) (R' : List ℕ) : Type 0 where
  pub is : width * i + width ≤ length R → R' ≡ sets R (width * i) row
  pub out : length R < width * i + width → R' ≡ R
  pub long : length R' ≡ length R
  pub small : length R < 2 ^ 64
