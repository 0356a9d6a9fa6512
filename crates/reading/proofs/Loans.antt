-- The reader keeps what it was lent, step by step.
use mathlib.Core.Path.{◌∙◌}
use Rattle.reading.specs.declared.reader.Reader.{Reader}
use Rattle.reading.specs.Reader.{SameLoans}

pub same_then : {x y z : Reader} → SameLoans x y → SameLoans y z → SameLoans x z
same_then p q = record { line = q.line ∙ p.line; classes = q.classes ∙ p.classes; records = q.records ∙ p.records }
