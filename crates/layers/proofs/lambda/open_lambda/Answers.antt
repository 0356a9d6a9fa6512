-- `open_lambda`: the layers, then the parameters.
use Rattle.work.specs.Laws.Fits.{fact_inside}
use Rattle.layers.proofs.LambdaEnter.{lambda_list_opens, lambda_inside, scope_shallow, scope_captured, lambda_names, lambda_opens}
use Rattle.layers.proofs.lambda.open_lambda.Goals as goal

pub function_at-v-requires : goal.function_at-v-requires
function_at-v-requires c = fact_inside c.requires.fits.tied c.requires.fits.good.rows _ c.requires.few

pub open_list-o-requires : goal.open_list-o-requires
open_list-o-requires c = lambda_list_opens c.requires.few c.function_at-v.result c.function_at-v.ensures c.requires

pub open_scope-q-requires : goal.open_scope-q-requires
open_scope-q-requires c = scope_shallow c.requires.few c.function_at-v.result c.function_at-v.ensures c.open_list-o.ensures c.requires

pub entering-g-requires : goal.entering-g-requires
entering-g-requires c = (lambda_inside c.requires.few c.function_at-v.result c.function_at-v.ensures c.requires, scope_captured c.requires.few c.function_at-v.result c.function_at-v.ensures c.open_list-o.ensures c.open_scope-q.ensures c.requires)

pub enter_names-e-requires : goal.enter_names-e-requires
enter_names-e-requires c = lambda_names c.requires.few c.function_at-v.result c.function_at-v.ensures c.open_list-o.ensures c.open_scope-q.ensures c.entering-g.ensures c.requires

pub returns : goal.returns
returns c = rw c.with_names.ensures (lambda_opens c.requires.few c.function_at-v.result c.function_at-v.ensures c.open_list-o.ensures c.open_scope-q.ensures c.entering-g.ensures c.enter_names-e.ensures)
