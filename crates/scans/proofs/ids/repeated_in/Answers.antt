-- `repeated_in`: what is repeated among all is repeated from record i on, and the records before it are chained.
use native.Mathlib.Omega.{arith}
use mathlib.Core.Path.{refl, ◌∙◌}
use Rattle.scans.proofs.Repeated.{ids_begin, ids_hit, ids_next, ids_end}
use Rattle.scans.proofs.ids.repeated_in.Goals as goal

pub loop-i-init : goal.loop-i-init
loop-i-init c = (ids_begin _, c.requires.chains, refl, refl)

pub returns-then-repeats : goal.returns-then-repeats
returns-then-repeats c =
    let r = c in
    ids_hit r.loop-i.invariant.0 (omega arith) r.repeats.ensures.value c.if-repeats.true

pub loop-i-preserved : goal.loop-i-preserved
loop-i-preserved c =
    let r = c in
    let l = r.loop-i in (
      ids_next l.invariant.0 (omega arith) r.repeats.ensures.value c.if-repeats.false,
      r.repeats.ensures.chained c.if-repeats.false,
      r.repeats.auto.newest ∙ l.invariant.2,
      r.repeats.auto.before ∙ l.invariant.3,
    )

pub returns : goal.returns
returns c = ids_end c.loop-i.invariant.0 (omega arith)
