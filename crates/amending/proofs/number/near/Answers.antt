-- `near`.
use native.Mathlib.Omega.{arith}
use Rattle.work.specs.Laws.Works.{spacious}
use Rattle.lists.specs.Laws.Held.{captured_long}
use Rattle.amending.proofs.NearCase.{near_none, near-inside, near_far, near_info}
use Rattle.amending.proofs.number.near.Goals as goal

pub newest_capture-requires : goal.newest_capture-requires
newest_capture-requires c = spacious c.requires.held.tied.works

pub returns-in_err-found : goal.returns-in_err-found
returns-in_err-found c = rw c.from_residual.ensures (near_none c.newest_capture.ensures c.in_err-found.was)

pub returns-then-saturating_sub-gt1 : goal.returns-then-saturating_sub-gt1
returns-then-saturating_sub-gt1 c =
    near_far c.newest_capture.ensures c.in_ok-found.was (rw c.saturating_sub.ensures at c.if-saturating_sub-gt1.true)

pub load_info-requires : goal.load_info-requires
load_info-requires c =
    omega (
      arith,
      c.wide.ensures,
      captured_long c.requires.held.tied,
      near-inside c.newest_capture.ensures c.in_ok-found.was c.requires,
    )

pub returns : goal.returns
returns c =
    near_info c.newest_capture.ensures c.in_ok-found.was (rw c.saturating_sub.ensures at c.if-saturating_sub-gt1.false) c.wide.ensures c.load_info.ensures
