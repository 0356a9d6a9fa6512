-- `enter_inner_value`: a define of a lambda has entered before.
use Rattle.forms.proofs.DefinesCase.{no_value, define_room, value_entered}
use Rattle.forms.proofs.defines.enter_inner_value.Goals as goal

pub returns-then-b : goal.returns-then-b
returns-then-b c = rw c.name_in.ensures (no_value _ _ _ _ _ c.if-b.true)

pub enter_define-requires : goal.enter_define-requires
enter_define-requires c = define_room _ _ _ _ _ c.requires

pub returns : goal.returns
returns c = value_entered _ _ _ _ _ c.enter_define.ensures c.if-b.false
