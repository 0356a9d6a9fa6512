-- `close_let`: the names, the fact, the layer.
use Rattle.layers.proofs.LetEnds.{ends_fact, ends_make, ends_spacious, let_closes}
use Rattle.layers.proofs.lets.close_let.Goals as goal

pub is_blank-blank-requires : goal.is_blank-blank-requires
is_blank-blank-requires c = ends_fact c.requires

pub make_let-r-requires : goal.make_let-r-requires
make_let-r-requires c = ends_make c.is_blank-blank.ensures c.leave_names-q.ensures c.requires

pub close_layer-requires : goal.close_layer-requires
close_layer-requires c = ends_spacious c.is_blank-blank.ensures c.leave_names-q.ensures c.make_let-r.ensures c.requires

pub returns : goal.returns
returns c = let_closes c.is_blank-blank.ensures c.leave_names-q.ensures c.make_let-r.ensures c.requires.few c.close_layer.ensures
