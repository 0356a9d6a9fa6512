-- `before_top_define`, by what the body is.
use Rattle.visits.proofs.TopDefineCase.{name_inside, value_fits, before_lambda, before_value}
use mathlib.Core.Path.{refl}
use Rattle.visits.proofs.run.before_top_define.Goals as goal

pub id-p-requires : goal.id-p-requires
id-p-requires c = name_inside c.requires

pub returns-then-b : goal.returns-then-b
returns-then-b c = before_lambda c.if-b.true c.id-p.ensures refl

pub enter_top_level_value-requires : goal.enter_top_level_value-requires
enter_top_level_value-requires c = value_fits c.requires

pub returns : goal.returns
returns c = before_value c.if-b.false c.enter_top_level_value.ensures
