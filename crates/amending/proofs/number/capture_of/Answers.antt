-- `capture_of`.
use Rattle.amending.proofs.TakeCase.{taken_made}
use Rattle.amending.proofs.number.capture_of.Goals as goal

pub returns : goal.returns
returns c = taken_made c.args.x c.args.enclosing c.narrow.ensures
