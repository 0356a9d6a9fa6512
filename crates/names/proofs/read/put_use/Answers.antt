-- `put_use`: the entry is stored, and its uses go to the binder's fact.
use Rattle.names.proofs.ReadCase.{puts_use}
use Rattle.names.proofs.read.put_use.Goals as goal

pub returns : goal.returns
returns c = puts_use c.requires.1 c.store_entry.ensures c.with_usage_count.ensures
