-- `finish`: by what is missing.
use Rattle.reading.proofs.Ends.{ends_lost, ends_open, ends_empty, ends_short, ends_whole}
use Rattle.reading.proofs.reader.Reading.finish.Goals as goal

pub returns-in-Some : goal.returns-in-Some
returns-in-Some c = ends_lost c.args.self c.in-Some.bad c.in-Some.is

pub returns-then-self-ne0 : goal.returns-then-self-ne0
returns-then-self-ne0 c = ends_open c.args.self c.in_default.is c.if-self-ne0.true c.saturating_add.ensures

pub returns-then-self-eq0 : goal.returns-then-self-eq0
returns-then-self-eq0 c = ends_empty c.args.self c.in_default.is c.if-self-ne0.false c.if-self-eq0.true

pub returns-then-self : goal.returns-then-self
returns-then-self c = ends_short c.args.self c.in_default.is c.if-self-ne0.false c.if-self-eq0.false c.if-self.true c.saturating_add-then-self.ensures

pub returns : goal.returns
returns c = ends_whole c.args.self c.in_default.is c.if-self-ne0.false c.if-self-eq0.false c.if-self.false
