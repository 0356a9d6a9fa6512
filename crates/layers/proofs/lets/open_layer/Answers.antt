-- `open_layer`, by the depth.
use Rattle.layers.proofs.LetsCase.{layer_opens, layer_stays}
use Rattle.layers.proofs.lets.open_layer.Goals as goal

pub returns-then-depth-eq1 : goal.returns-then-depth-eq1
returns-then-depth-eq1 c = layer_opens c.depth.ensures c.if-depth-eq1.true c.open_scope.ensures

pub returns-else-depth-eq1 : goal.returns-else-depth-eq1
returns-else-depth-eq1 c = layer_stays c.depth.ensures c.if-depth-eq1.false
