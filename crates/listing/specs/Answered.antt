-- What the functions that put a text into a buffer promise: its first n bytes are the text. What stands behind them is free; the buffer's length stays. And
-- what the tables lent for a run then hold.
use Rattle.std.specs.Prelude.{ℕ, ◌+◌, ◌*◌, ◌≤◌, ◌<◌, Bool, true, false, List, ◌++◌, ◌⊎◌, ◌≡◌, length, get_or, take, Option, None, Some, Result, Ok, Err}
use Rattle.table.specs.Layout.{layout}
use Rattle.tree.specs.Record.{width}
use Rattle.tree.specs.Tree.{Trees}
use Rattle.tree.specs.Check.{Refusal, refusal}
use Rattle.tree.specs.Accepted.{Accepted}
use Rattle.semantic.specs.Rows.{Row, Blank, put_row}
use Rattle.pass.specs.Run.{Tables, zeros, fresh_outcome}
use Rattle.answers.specs.Answer.{refusal_in}
use Rattle.answers.specs.declared.Refusal.{Refusal as Refused}
use Rattle.printing.specs.Text.{row_text, rows_text, facts_text, refused_text, bad_text}
use Rattle.reading.specs.Held.{Holds, ended}
use Rattle.reading.specs.declared.reader.Reading.{Reading}
use Rattle.reading.specs.declared.reader.Counts.{Counts}
use Rattle.reading.specs.declared.reader.BadLine.{BadLine}
use Rattle.listing.specs.Listing.{records_most, classes_length, text_length, all_fit, refusal_text, outcome_text, fresh_text, Prints}
use Rattle.listing.specs.Left.{Leaves}

-- the line of row i stands behind what stood in front of `end`
pub record RowAfter (F : List ℕ) (i : ℕ) (d : List ℕ) (end : ℕ) (d' : List ℕ) (n : ℕ) : Type 0 where
  pub is : (l : List Row) → F ≡ layout put_row l → i < length l → take n d' ≡ take end d ++ row_text i (get_or l i Blank)
  pub short : n ≤ end + 128

-- the lines of the first rows
pub record RowsIn (F : List ℕ) (rows : ℕ) (d : List ℕ) (n : ℕ) : Type 0 where
  pub is : (l : List Row) → F ≡ layout put_row l → take n d ≡ rows_text 0 (take rows l)
  pub short : n ≤ 128 * rows

-- rows without a fact from row i on
abbrev pub BlankFrom : ℕ → List Row → Type 0
BlankFrom i l = (x : ℕ) → i ≤ x → get_or l x Blank ≡ Blank

pub record FactsIn (F : List ℕ) (rows : ℕ) (d : List ℕ) (n : ℕ) : Type 0 where
  pub is : (l : List Row) → F ≡ layout put_row l → BlankFrom rows l → take n d ≡ facts_text l
  pub inside : n ≤ length d

-- a refusal, or the facts of the rows where there is none
pub record OutcomeIn (a : Result (Unit {0}) Refused) (F : List ℕ) (rows : ℕ) (d : List ℕ) (n : ℕ) : Type 0 where
  pub is : (o : Option Refusal) (l : List Row) → refusal_in a ≡ o → (o ≡ None → F ≡ layout put_row l) → BlankFrom rows l → take n d ≡ outcome_text o l
  pub inside : n ≤ length d

-- the text u' is u, and the tables t' are t
pub record Gives (u : List ℕ) (t : Tables) (u' : List ℕ) (t' : Tables) : Type 0 where
  pub text : u' ≡ u
  pub tables : t' ≡ t

pub record FreshIn (classes rs : List ℕ) (t' : Tables) (d : List ℕ) (n : ℕ) : Type 0 where
  pub refused : (r : Refusal) → refusal (length classes) rs ≡ Some r → Gives (refusal_text r) zeros (take n d) t'
  pub accepted : (ts : Trees) → Accepted (length classes) rs ts → Gives (fresh_text classes ts) (fresh_outcome classes ts).tables (take n d) t'
  pub inside : n ≤ length d

-- check 2 of the program: so many names or records
abbrev pub Many : ℕ → ℕ → Type 0
Many names many = (records_most < many) ⊎ (classes_length < names)

pub data Counted (names many : ℕ) : Bool → Type 0 where
  too_many : Many names many → Counted names many true
  not-many : many ≤ records_most → names ≤ classes_length → Counted names many false

-- checks 1 and 2 are passed: what was read fits the tables
pub record Few (T R : List ℕ) (t : Tables) (i j : ℕ) : Type 0 where
  pub fit : all_fit T R t ≡ true
  pub names : i ≤ classes_length
  pub records : j ≤ records_most

-- a good input of so many names and records, the first of the tables T and R
pub record InputIn (names many : ℕ) (T R : List ℕ) (t t' : Tables) (d : List ℕ) (n : ℕ) : Type 0 where
  pub unfit : all_fit T R t ≡ false → Gives (refused_text 1 0) t (take n d) t'
  pub large : all_fit T R t ≡ true → Many names many → Gives (refused_text 2 0) zeros (take n d) t'
  pub run : Few T R t names many → FreshIn (take names T) (take (width * many) R) t' d n
  pub inside : n ≤ length d

-- by what the reader answers
abbrev pub Told : Result Counts BadLine → List ℕ → List ℕ → Tables → Tables → List ℕ → ℕ → Type 0
Told (Err k) T R t t' d n = Gives (bad_text k.0) t (take n d) t'
Told (Ok c) T R t t' d n = InputIn c.classes c.records T R t t' d n

-- Where there is room for any text: that of the bytes which the state holds, and the tables. Of a state that holds none they are those of its numbers. Where
-- there is no room nothing is changed. What stands in the buffer behind the text is free.
pub record Answered (r : Reading) (T R : List ℕ) (t : Tables) (d : List ℕ) (t' : Tables) (d' : List ℕ) (n : ℕ) : Type 0 where
  pub is : text_length ≤ length d → (b L : List ℕ) → Holds r b L T R → Prints (all_fit T R t) b (take n d')
  pub leaves : text_length ≤ length d → (b L : List ℕ) → Holds r b L T R → Leaves (all_fit T R t) b t t'
  pub any : text_length ≤ length d → Told (ended r) T R t t' d' n
  pub cramped : length d < text_length → (n ≡ 0) × (t' ≡ t) × (d' ≡ d)
  pub inside : n ≤ length d'
  pub long : length d' ≡ length d

-- the text of the bytes which the state holds
pub record TextIn (r : Reading) (T R d : List ℕ) (n : ℕ) : Type 0 where
  pub is : (b L : List ℕ) → Holds r b L T R → Prints true b (take n d)
  pub inside : n ≤ length d
