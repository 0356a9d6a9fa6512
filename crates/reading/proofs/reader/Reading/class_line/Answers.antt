-- `class_line`: by its number.
use mathlib.Core.Path.{ap, ◌∙◌}
use native.Mathlib.Omega.{arith}
use Rattle.reading.specs.Found.{ones}
use Rattle.reading.proofs.Spared.{spares_spoiled, spares_class}
use Rattle.reading.proofs.Turn.{class-none, class_large, class-some}
use Rattle.reading.proofs.reader.Reading.class_line.Goals as goal

pub returns-in_default : goal.returns-in_default
returns-in_default c = λ l e.
    record {
      is = λ R n cs rs v h. class-none v c.spoiled.ensures h (e ∙ ap ones c.in_default.is);
      spares = λ R h. spares_spoiled c.spoiled.ensures;
    }

pub returns-then-c-gt255 : goal.returns-then-c-gt255
returns-then-c-gt255 c = λ l e.
    record {
      is = λ R n cs rs v h. class_large v c.spoiled-then-c-gt255.ensures h (e ∙ ap ones c.in-Some.is) c.if-c-gt255.true;
      spares = λ R h. spares_spoiled c.spoiled-then-c-gt255.ensures;
    }

pub returns : goal.returns
returns c = λ l e.
    record {
      is = λ R n cs rs v h.
          class-some v h (omega arith) (e ∙ ap ones c.in-Some.is) c.saturating_add.ensures c.saturating_add-2.ensures c.store_class.ensures;
      spares = λ R h.
          spares_class _ h c.saturating_add.ensures _ (omega (arith, c.well_formed)) (omega (arith, c.well_formed)) c.saturating_add-2.ensures
          c.store_class.ensures;
    }
