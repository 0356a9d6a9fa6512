-- `end_lists`: by whether the lambda has a fact.
use Rattle.layers.proofs.LambdaEnds.{layer_fits, tops_fit, lists-made, amend-held, amended_few, lists-amended}
use Rattle.layers.proofs.lambda.end_lists.Goals as goal

pub store_layer-b-requires : goal.store_layer-b-requires
store_layer-b-requires c = layer_fits _ c.in-None.is c.store_captured-a.ensures c.requires

pub between-made-requires : goal.between-made-requires
between-made-requires c = let t = tops_fit _ c.in-None.is c.store_captured-a.ensures c.store_layer-b.ensures c.requires in (t.0, t.1)

pub between-layer-requires : goal.between-layer-requires
between-layer-requires c = let t = tops_fit _ c.in-None.is c.store_captured-a.ensures c.store_layer-b.ensures c.requires in (t.2, t.3)

pub returns-in-None : goal.returns-in-None
returns-in-None c = lists-made _ c.in-None.is c.store_captured-a.ensures c.store_layer-b.ensures c.between-made.ensures c.between-layer.ensures

pub amend_list-n-requires : goal.amend_list-n-requires
amend_list-n-requires c = amend-held c.in-Some.is c.requires

pub narrow-requires : goal.narrow-requires
narrow-requires c = amended_few c.in-Some.is c.amend_list-n.ensures c.requires

pub returns-in-Some : goal.returns-in-Some
returns-in-Some c = lists-amended c.in-Some.is c.amend_list-n.ensures c.narrow.ensures
