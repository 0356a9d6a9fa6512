-- `end_line`: by what is due.
use mathlib.Core.Path.{refl}
use Rattle.reading.proofs.Turn.{turns_first, turns_class, turns_record}
use Rattle.reading.proofs.reader.Reader.end_line.Goals as goal

pub returns-then-r-eq0-clause-turns : goal.returns-then-r-eq0-clause-turns
returns-then-r-eq0-clause-turns c =
    record {
      is = turns_first c.if-r-eq0.true (c.first_line-self.ensures _ (rw (← c.begun.ensures) c.single-names.ensures));
      line = refl;
    }

pub returns-then-r-clause-turns : goal.returns-then-r-clause-turns
returns-then-r-clause-turns c =
    record {
      is = turns_class c.if-r-eq0.false c.if-r.true (c.class_line-self.ensures _ (rw (← c.begun-then-r.ensures) c.single-class.ensures));
      line = refl;
    }

pub returns-clause-turns : goal.returns-clause-turns
returns-clause-turns c =
    record {
      is = turns_record c.if-r-eq0.false c.if-r.false (c.record_line-self.ensures _ (rw (← c.begun-2.ensures) c.record-row.ensures));
      line = refl;
    }
