-- `load_capture`: the row is read, and read back.
use Rattle.work.specs.Captures.{capture_in}
use Rattle.work.proofs.CaptureCase.{loads_taken}
use Rattle.work.proofs.captures.load_capture.Goals as goal

pub returns : goal.returns
unfolding capture_in
returns c = loads_taken _ _ c.requires.1 c.get.ensures
