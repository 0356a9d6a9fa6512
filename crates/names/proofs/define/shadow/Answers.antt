-- `shadow`: the newest entry's fact, if there is one.
use Rattle.names.proofs.KnownCase.{newest_bounds, told_at, told_none}
use Rattle.names.proofs.DefineCase.{shadows-newest, shadows-none}
use Rattle.names.proofs.define.shadow.Goals as goal

pub returns-in_default : goal.returns-in_default
returns-in_default c = shadows-none (told_none c.newest.ensures c.in_default.is)

pub shadow_if_builtin-requires : goal.shadow_if_builtin-requires
shadow_if_builtin-requires c = (newest_bounds c.requires.good c.args.name c.requires.tied (told_at c.newest.ensures c.in-Some.is)).row

pub returns-in-Some : goal.returns-in-Some
returns-in-Some c = shadows-newest (told_at c.newest.ensures c.in-Some.is) c.shadow_if_builtin.ensures
