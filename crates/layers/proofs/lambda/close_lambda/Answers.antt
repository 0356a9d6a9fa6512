-- `close_lambda`: the lists, the layer, then the fact.
use Rattle.work.specs.Laws.Fits.{fact_inside}
use Rattle.layers.proofs.LambdaEnds.{ends_lists, ended-names, ended_fact_lem, lambda_closes}
use Rattle.layers.proofs.lambda.close_lambda.Goals as goal

pub function_at-found-requires : goal.function_at-found-requires
function_at-found-requires c = fact_inside c.requires.fits.tied c.requires.fits.good.rows _ c.requires.few

pub end_lists-requires : goal.end_lists-requires
end_lists-requires c = ends_lists c.requires.few c.function_at-found.result c.function_at-found.ensures c.requires

pub close_layers-q-requires : goal.close_layers-q-requires
close_layers-q-requires c = ended-names c.requires.few c.function_at-found.result c.function_at-found.ensures c.end_lists.ensures c.requires

pub store-requires : goal.store-requires
store-requires c = ended_fact_lem c.requires.few c.function_at-found.result c.function_at-found.ensures c.end_lists.ensures c.close_layers-q.ensures c.requires

pub returns : goal.returns
returns c = lambda_closes c.requires.few c.function_at-found.result c.function_at-found.ensures c.end_lists.ensures c.close_layers-q.ensures c.depth.ensures c.function_fact-v.ensures c.store.ensures
