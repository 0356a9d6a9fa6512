-- `close_captures`: the newest layer of the map is popped, and the rest of the table stays.
use Rattle.work.proofs.CaptureCase.{captures_close}
use Rattle.work.proofs.captures.close_captures.Goals as goal

pub returns : goal.returns
returns c = captures_close c.pop_layer.auto.t c.pop_layer.ensures
