-- `define_capture`: the map is defined in, and the row is put.
use Rattle.work.proofs.CaptureDefine.{defines_capture}
use Rattle.work.proofs.captures.define_capture.Goals as goal

pub returns : goal.returns
returns c =
    let o = c in
    defines_capture o.requires.0 o.requires.1 o.requires.3 c.capture_place-place.ensures
    c.define_row-q.ensures c.put_capture.ensures
