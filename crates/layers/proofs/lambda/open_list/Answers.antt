-- `open_list`: the layer, its captures, and the context within.
use mathlib.Core.Path.{refl}
use Rattle.layers.proofs.LambdaEnter.{list_room, list_opens}
use Rattle.layers.proofs.lambda.open_list.Goals as goal

pub number_captures-captures-requires : goal.number_captures-captures-requires
number_captures-captures-requires c = list_room c.open_captures-o.ensures c.requires

pub returns : goal.returns
returns c = list_opens c.open_captures-o.ensures c.number_captures-captures.ensures c.context_within.ensures refl
