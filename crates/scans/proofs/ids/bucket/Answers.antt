-- `bucket`: the definition, of the id as it is.
use mathlib.Core.Path.{ap}
use Rattle.scans.specs.Private.Chain.{bucket_of}
use Rattle.scans.proofs.ids.bucket.Goals as goal

pub returns-clause-value : goal.returns-clause-value
unfolding bucket_of
returns-clause-value c = ap (bucket_of _) c.wide.ensures
