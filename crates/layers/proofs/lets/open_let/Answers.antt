-- `open_let`: a layer at the bottom, and the names.
use Rattle.layers.proofs.LetsCase.{around_fits, let_names_lem, let_opens}
use Rattle.layers.proofs.lets.open_let.Goals as goal

pub heaps_around-requires : goal.heaps_around-requires
heaps_around-requires c = around_fits c.requires

pub enter_names-e-requires : goal.enter_names-e-requires
enter_names-e-requires c = let_names_lem c.open_layer-q.ensures c.heaps_around.ensures c.let_arguments.ensures c.requires

pub returns : goal.returns
returns c = rw c.with_names.ensures (let_opens c.open_layer-q.ensures c.heaps_around.ensures c.let_arguments.ensures c.enter_names-e.ensures)
