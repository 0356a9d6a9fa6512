-- `first_line`: by its number.
use mathlib.Core.Path.{ap, ◌∙◌}
use native.Mathlib.Omega.{arith}
use Rattle.reading.specs.Found.{ones}
use Rattle.reading.proofs.Spared.{spares_spoiled, spares_first}
use Rattle.reading.proofs.Turn.{first-none, first_some}
use Rattle.reading.proofs.reader.Reading.first_line.Goals as goal

pub returns-in_default : goal.returns-in_default
returns-in_default c = λ l e.
    record {
      is = λ T R h. first-none c.args.self c.spoiled.ensures h (e ∙ ap ones c.in_default.is);
      spares = λ T R h. spares_spoiled c.spoiled.ensures;
    }

pub returns : goal.returns
returns c = λ l e.
    record {
      is = λ T R h. first_some (omega arith) (e ∙ ap ones c.in-Some.is);
      spares = λ T R h. spares_first h;
    }
