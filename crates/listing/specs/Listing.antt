-- What the program `facts` prints. Document 01, "The printed facts".
use Rattle.std.specs.Prelude.{ℕ, ◌+◌, ◌*◌, ◌≤◌, ◌<◌, Bool, true, false, ◌&&◌, List, ◌≡◌, eqb, length, Option, None, Some}
use Rattle.tree.specs.Record.{Record, width, numbers}
use Rattle.tree.specs.Tree.{Trees}
use Rattle.tree.specs.Check.{Refusal, refusal}
use Rattle.tree.specs.Accepted.{Accepted}
use Rattle.semantic.specs.Rows.{Row}
use Rattle.pass.specs.Run.{Tables, lengths_fit, fresh, refused_first}
use Rattle.printing.specs.Text.{facts_text, refused_text, bad_text}
use Rattle.reading.specs.Reading.{bad, good, read}
use Rattle.reading.specs.Held.{shown}

-- the most records that it takes
abbrev pub records_most : ℕ
records_most = 512

-- The tables that are lent, each of one length: room for the classes and the records of an input, the tables of a run, and room for any text

abbrev pub classes_length : ℕ
classes_length = 1024

abbrev pub records_length : ℕ
records_length = width * records_most

abbrev pub text_length : ℕ
text_length = 128 * records_most + 128

unfoldable pub all_fit : List ℕ → List ℕ → Tables → Bool
all_fit T R t = eqb (length T) classes_length && (eqb (length R) records_length && lengths_fit t)

-- The text of a refusal, and of what a fresh run answers

abbrev pub refusal_text : Refusal → List ℕ
refusal_text r = refused_text r.number r.at

abbrev pub outcome_text : Option Refusal → List Row → List ℕ
outcome_text None l = facts_text l
outcome_text (Some r) l = refusal_text r

unfoldable pub fresh_text : List ℕ → Trees → List ℕ
fresh_text classes ts = outcome_text (refused_first (fresh classes ts).noted) (fresh classes ts).facts.rows

-- The text for these classes and records. That the tables are of their lengths, as the program's are, is check 1.
pub data Shows (fit : Bool) (cs : List ℕ) (rs : List Record) : List ℕ → Type 0 where
  unfit : fit ≡ false → Shows fit cs rs (refused_text 1 0)
  too_many : fit ≡ true → records_most < length rs → Shows fit cs rs (refused_text 2 0)
  refused : {r : Refusal} → fit ≡ true → length rs ≤ records_most → refusal (length cs) (numbers rs) ≡ Some r → Shows fit cs rs (refusal_text r)
  accepted : {ts : Trees} → fit ≡ true → length rs ≤ records_most → Accepted (length cs) (numbers rs) ts → Shows fit cs rs (fresh_text cs ts)

-- The text for the bytes b: a bad line goes before any refusal
pub data Prints (fit : Bool) (b : List ℕ) : List ℕ → Type 0 where
  bad_line : {n : ℕ} → read b ≡ bad n → Prints fit b (bad_text (shown n))
  shows : {cs : List ℕ} {rs : List Record} {t : List ℕ} → read b ≡ good cs rs → Shows fit cs rs t → Prints fit b t
