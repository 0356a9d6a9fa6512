-- The input of classes and records, as text. Document 01, "The printed facts".
use Rattle.std.specs.Prelude.{ℕ, ◌^◌, ◌<◌, List, [], ◌∷◌, ◌++◌, length}
use Rattle.table.specs.Layout.{layout}
use Rattle.tree.specs.Record.{Record, put}
use Rattle.printing.specs.Text.{names_line, class_line, record_line, record_marks}

unfoldable pub input : List ℕ → List Record → List ℕ
input cs rs = names_line (length cs) ++ (layout class_line cs ++ layout record_line rs)

pub data All {A : Type 0} (P : A → Type 0) : List A → Type 0 where
  all_none : All P []
  all_more : {a : A} {l : List A} → P a → All P l → All P (a ∷ l)

-- what can be written so: fewer than 2^32 classes, each a byte, and records of 32-bit numbers
abbrev pub Byte : ℕ → Type 0
Byte c = c < 256

-- a number below 2^32 for each mark
pub data Below : List (List ℕ) → List ℕ → Type 0 where
  none_left : Below [] []
  one_more_lem : {m : List ℕ} {ms : List (List ℕ)} {n : ℕ} {ns : List ℕ} → n < 2 ^ 32 → Below ms ns → Below (m ∷ ms) (n ∷ ns)

abbrev pub Narrow : Record → Type 0
Narrow r = Below record_marks (put r)

pub record Fits (cs : List ℕ) (rs : List Record) : Type 0 where
  pub few : length cs < 2 ^ 32
  pub classes : All Byte cs
  pub records : All Narrow rs
