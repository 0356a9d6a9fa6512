-- What reading leaves as it was, of every state and all tables, whether they hold any input or not.
use Rattle.std.specs.Prelude.{ℕ, ◌*◌, ◌≤◌, true, false, List, ◌≡◌, eqb, length, take, drop, None}
use Rattle.tree.specs.Record.{width}
use Rattle.reading.specs.declared.reader.Reading.{Reading}

-- Of a table all is left but its entries from a up to b

pub record Between (a b : ℕ) (t t' : List ℕ) : Type 0 where
  pub onward : a ≤ b
  pub long : length t' ≡ length t
  pub before : take a t' ≡ take a t
  pub past : drop b t' ≡ drop b t

-- how many classes and records were read: none before the first line has ended, whatever the numbers then are
unfoldable pub begun : ℕ → ℕ → ℕ
begun lines n = elim (eqb lines 0) [ true ↦ 0 | false ↦ n ]

abbrev pub classes_read : Reading → ℕ
classes_read r = begun r.lines r.classes

abbrev pub records_read : Reading → ℕ
records_read r = begun r.lines r.records

-- Only entries of the tables for what was now read are written
pub record Spares (r : Reading) (T R : List ℕ) (r' : Reading) (T' R' : List ℕ) : Type 0 where
  pub classes : Between (classes_read r) (classes_read r') T T'
  pub records : Between (width * records_read r) (width * records_read r') R R'

-- nothing at all is changed
pub record Same (r : Reading) (L T R : List ℕ) (r' : Reading) (L' T' R' : List ℕ) : Type 0 where
  pub state : r' ≡ r
  pub line : L' ≡ L
  pub classes : T' ≡ T
  pub records : R' ≡ R

-- nor is anything written once a line was bad
pub record Leaves (r : Reading) (L T R : List ℕ) (r' : Reading) (L' T' R' : List ℕ) : Type 0 where
  pub long : length L' ≡ length L
  pub tables : Spares r T R r' T' R'
  pub after_bad : ¬ (r.bad ≡ None) → Same r L T R r' L' T' R'
