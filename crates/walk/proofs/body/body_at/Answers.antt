-- `body_at`: what the tree that is reached says.
use Rattle.walk.proofs.Bodies.{reached, body_tells}
use Rattle.walk.proofs.body.body_at.Goals as goal

pub form_at-requires : goal.form_at-requires
form_at-requires c = reached c.core_at.ensures c.requires

pub returns : goal.returns
returns c = body_tells _ _ c.core_at.ensures c.form_at.ensures
