-- `close_layers`: last uses, the layers, then the parameters.
use Rattle.layers.proofs.LambdaEnds.{scope_spacious, closed-names, layers_close}
use Rattle.layers.proofs.lambda.close_layers.Goals as goal

pub close_captures-q-requires : goal.close_captures-q-requires
close_captures-q-requires c = scope_spacious c.mark_lasts.ensures c.close_scope-o.ensures c.requires

pub end_parameters-requires : goal.end_parameters-requires
end_parameters-requires c = closed-names c.mark_lasts.ensures c.close_scope-o.ensures c.close_captures-q.ensures c.requires

pub returns : goal.returns
returns c = layers_close c.mark_lasts.ensures c.close_scope-o.ensures c.close_captures-q.ensures c.end_parameters.ensures
