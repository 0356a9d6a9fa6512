-- `open_captures`: a layer more, and the table stays.
use Rattle.table.specs.Region.{region}
use Rattle.work.specs.Works.{captures_first, captures_length}
use Rattle.work.proofs.CaptureCase.{captures_open}
use Rattle.work.proofs.captures.open_captures.Goals as goal

pub returns : goal.returns
returns c = λ w. captures_open (c.push_layer.ensures (region w captures_first captures_length))
