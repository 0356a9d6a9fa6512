-- `outcome_text`: the facts, or the refusal.
use native.Mathlib.Omega.{arith}
use Rattle.listing.proofs.Runs.{accepted_in, refused_in}
use Rattle.listing.proofs.outcome_text.Goals as goal

pub returns-in-Ok : goal.returns-in-Ok
returns-in-Ok c = accepted_in c.in-Ok.is c.facts_text.ensures

pub returns-in-Err : goal.returns-in-Err
returns-in-Err c =
    let v = c.refused_line in
    refused_in c.in-Err.is (rw (← c.number.ensures, ← c.record.ensures) v.ensures) (omega (arith, v.ensures.short, v.auto.out, c.requires))
