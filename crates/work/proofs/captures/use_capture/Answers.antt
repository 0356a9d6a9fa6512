-- `use_capture`: the uses in the second number of a row grow by one.
use Rattle.work.proofs.CaptureCase.{uses-capture}
use Rattle.work.proofs.captures.use_capture.Goals as goal

pub returns : goal.returns
returns c = uses-capture _ _ c.requires.0 c.requires.1
