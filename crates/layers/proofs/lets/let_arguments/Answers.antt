-- `let_arguments`: the list of the fact, or none.
use Rattle.layers.proofs.LetsCase.{let_fact, no_let, let_list}
use Rattle.layers.proofs.lets.let_arguments.Goals as goal

pub let_at-requires : goal.let_at-requires
let_at-requires c = let_fact c.requires

pub returns-in-Some : goal.returns-in-Some
returns-in-Some c = let_list c.requires c.let_at.result c.let_at.ensures c.in-Some.is

pub returns-in-None : goal.returns-in-None
returns-in-None c = no_let c.requires c.let_at.result c.let_at.ensures c.in-None.is c.no_list.ensures
