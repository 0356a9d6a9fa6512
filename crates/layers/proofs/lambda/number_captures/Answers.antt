-- `number_captures`: by whether the lambda has a fact.
use Rattle.layers.proofs.LambdaEnter.{numbers_nothing, list-numbers, numbers_found}
use Rattle.layers.proofs.lambda.number_captures.Goals as goal

pub number_list-requires : goal.number_list-requires
number_list-requires c = list-numbers c.in-Some.is c.requires

pub returns-in-Some : goal.returns-in-Some
returns-in-Some c = numbers_found c.in-Some.is c.number_list.ensures

pub returns-in-None : goal.returns-in-None
returns-in-None c = numbers_nothing c.in-None.is
