-- `take_row`.
use native.Mathlib.Omega.{arith}
use mathlib.Core.Path.{◌∙◌}
use Rattle.work.specs.Laws.Works.{spacious}
use Rattle.lists.specs.Laws.Held.{captured_long}
use Rattle.amending.proofs.TakeCase.{take_small, take_room, take-given, some_near, takes}
use Rattle.amending.proofs.number.take_row.Goals as goal

pub put_offsets-requires : goal.put_offsets-requires
put_offsets-requires c = (captured_long c.requires.held.tied, c.requires.inside)

pub capture_of-requires : goal.capture_of-requires
capture_of-requires c = omega (arith, take_small c.requires)

pub define_capture-requires : goal.define_capture-requires
define_capture-requires c =
    (spacious c.requires.held.tied.works, take_room c.requires, c.requires.inside, take-given c.requires c.capture_of.ensures)

pub returns : goal.returns
returns c =
    takes c.requires.inside c.near-o.ensures c.put_offsets.ensures (c.is_some.ensures ∙ some_near _)
    c.capture_of.ensures c.define_capture.ensures
