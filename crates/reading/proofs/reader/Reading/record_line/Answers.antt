-- `record_line`: by its numbers.
use mathlib.Core.Path.{◌∙◌}
use native.Mathlib.Omega.{arith}
use Rattle.reading.proofs.Spared.{spares_spoiled, spares_record}
use Rattle.reading.proofs.Turn.{record_long, record_none, record_some}
use Rattle.reading.proofs.reader.Reading.record_line.Goals as goal

pub returns-in_default : goal.returns-in_default
returns-in_default c = λ l e.
    record {
      is = λ T n cs rs v h. record_none v c.spoiled.ensures h (e ∙ c.in_default.is);
      spares = λ T h. spares_spoiled c.spoiled.ensures;
    }

pub returns : goal.returns
returns c = λ l e.
    let o = e ∙ c.in-Some.is in
    record {
      is = λ T n cs rs v h. record_some v h o c.saturating_add.ensures c.saturating_add-2.ensures c.store_record.ensures;
      spares = λ T h.
          spares_record _ h c.saturating_add.ensures (omega (arith, c.well_formed)) (record_long l o) c.saturating_add-2.ensures c.store_record.ensures;
    }
