-- `close_layer`, by its two ways.
use Rattle.layers.proofs.LetEnds.{closes_layer, closes_none}
use Rattle.layers.proofs.lets.close_layer.Goals as goal

pub returns-then-opened : goal.returns-then-opened
returns-then-opened c = closes_layer c.if-opened.true c.close_scope.ensures

pub returns : goal.returns
returns c = closes_none c.if-opened.false
