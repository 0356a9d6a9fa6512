-- `define_row`: the map is defined in, and the rest of the table stays.
use Rattle.work.proofs.CaptureDefine.{row-defined}
use Rattle.work.proofs.captures.define_row.Goals as goal

pub returns : goal.returns
returns c = row-defined _ c.narrow.ensures c.define.auto.t c.define.ensures
