-- What the reader's functions promise, of it before and after.
use Rattle.std.specs.Prelude.{ℕ, List, ◌≡◌, take}
use Rattle.reading.specs.Held as held
use Rattle.reading.specs.declared.reader.Reader.{Reader}

-- the reader keeps what it was lent
pub record SameLoans (x y : Reader) : Type 0 where
  pub line : y.line.ghost_name ≡ x.line.ghost_name
  pub classes : y.classes.ghost_name ≡ x.classes.ghost_name
  pub records : y.records.ghost_name ≡ x.records.ghost_name

-- bytes more
abbrev pub Feeds : List ℕ → Reader → Reader → Type 0
Feeds c x y = held.Fed c x.state x.line.now x.classes.now x.records.now y.state y.line.now y.classes.now y.records.now

-- the line is whole
pub record Turns (x y : Reader) : Type 0 where
  pub is : held.Turns (take x.state.length x.line.now) x.state x.classes.now x.records.now y.state y.classes.now y.records.now
  pub line : y.line.now ≡ x.line.now
