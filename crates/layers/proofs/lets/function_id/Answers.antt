-- `function_id`: by whether a lambda stands around.
use Rattle.layers.proofs.LetsCase.{no_id, tells_id}
use Rattle.layers.proofs.lets.function_id.Goals as goal

pub returns-in-Some : goal.returns-in-Some
returns-in-Some c = rw c.in-Some.is (tells_id _)

pub returns-in-None : goal.returns-in-None
returns-in-None c = rw c.in-None.is no_id
