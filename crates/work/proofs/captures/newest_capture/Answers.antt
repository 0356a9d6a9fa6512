-- `newest_capture`: as the map of rows tells.
use Rattle.work.proofs.CaptureCase.{capture_gets}
use Rattle.work.proofs.captures.newest_capture.Goals as goal

pub returns : goal.returns
returns c = capture_gets c.get.ensures
