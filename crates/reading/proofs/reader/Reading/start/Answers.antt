-- `start`: nothing is read.
use Rattle.reading.proofs.Bytes.{starts}
use Rattle.reading.proofs.reader.Reading.start.Goals as goal

pub returns : goal.returns
returns c = starts
