-- `open_define`, by where the define stands and what its body is.
use Rattle.forms.proofs.DefinesCase.{name_inside, define_room, direct_opens, lambda_define_opens, value_opens}
use Rattle.forms.proofs.defines.open_define.Goals as goal

pub id-id-requires : goal.id-id-requires
id-id-requires c = name_inside _ _ _ _ _ c.requires

pub returns-then-direct : goal.returns-then-direct
returns-then-direct c = rw c.name_in.ensures (direct_opens _ _ _ _ _ c.if-direct.true c.id-id.ensures)

pub enter_define-name-requires : goal.enter_define-name-requires
enter_define-name-requires c = define_room _ _ _ _ _ c.requires

pub returns-then-b : goal.returns-then-b
returns-then-b c =
    lambda_define_opens _ _ _ _ _ c.enter_define-name.ensures c.if-direct.false c.if-b.true c.id-id.ensures

pub returns : goal.returns
returns c = rw c.name_in-2.ensures (value_opens _ _ _ _ _ c.if-direct.false c.if-b.false)
