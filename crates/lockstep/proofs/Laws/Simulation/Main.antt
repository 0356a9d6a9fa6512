-- For every number of moments the two machines are in step.
use Rattle.std.specs.Prelude.{ℕ, List, Bool, true, false, ◌≡◌, refl}
use Rattle.tree.specs.Tree.{Trees}
use Rattle.tree.specs.Accepted.{Accepted}
use Rattle.r7rs.specs.Machine.{Out, next, ended, stopped, outside}
use Rattle.r7rs.specs.Plain.{PVal, PBody, PMem, POut}
use Rattle.r7rs.specs.Run.{Ran, plain}
use Rattle.semantic.specs.Rows.{Row}
use Rattle.pass_laws.specs.Static.{Top}
use Rattle.lockstep.specs.Slot.{SVal, SBody, SMem, SOut, slots}
use Rattle.lockstep.specs.Lock.{Now, running, over, halted, Lockstep}
use Rattle.lockstep.proofs.Laws.Simulation.Binders.{placed}
use Rattle.lockstep.proofs.Laws.Simulation.Relation.{presumed}
use Rattle.lockstep.proofs.Laws.Simulation.Step.{runs}
use Rattle.lockstep.proofs.Laws.Simulation.Meant.{says_meant}
use Rattle.lockstep.proofs.Laws.Simulation.Observe.{now}

-- where the facts T have the static meaning; M says of which names a set! may be made
pub lockstep : {N : ℕ} {rs : List ℕ} {ts : Trees} {T : List Row} (M : ℕ → Bool) → Accepted N rs ts → Top T (presumed M) ts
    → (n : ℕ) → Lockstep ts T (slots ts T n) (plain ts n)
lockstep {ts = ts} {T = T} M a t n =
    let p = placed T a in
    let r = runs ts T M t p n in
    record { moments = r.moments; now = now ts T M (says_meant ts T M t p) r.same }

-- What being in step says at once: no read or set! goes outside a frame, and both end, or stop, after the same number of moments

module _ {W B M : Type 0} where
  abbrev pub is_outside : Out W B M → Bool
  is_outside (next s) = false
  is_outside (ended v m) = false
  is_outside stopped = false
  is_outside outside = true

  abbrev pub has_ended : Out W B M → Bool
  has_ended (next s) = false
  has_ended (ended v m) = true
  has_ended stopped = false
  has_ended outside = false

  abbrev pub has_stopped : Out W B M → Bool
  has_stopped (next s) = false
  has_stopped (ended v m) = false
  has_stopped stopped = true
  has_stopped outside = false

pub record Together (r : Ran SVal SBody SMem) (q : Ran PVal PBody PMem) : Type 0 where
  pub in_frame : is_outside r.now ≡ false
  pub moments : r.made ≡ q.made
  pub ends : has_ended r.now ≡ has_ended q.now
  pub stops : has_stopped r.now ≡ has_stopped q.now

module _ {ts : Trees} {T : List Row} where
  now_together : {o : SOut} {o' : POut} → Now ts T o o' → (is_outside o ≡ false) × (has_ended o ≡ has_ended o') × (has_stopped o ≡ has_stopped o')
  now_together (running s) = (refl, refl, refl)
  now_together (over v c) = (refl, refl, refl)
  now_together halted = (refl, refl, refl)

  pub together : {r : Ran SVal SBody SMem} {q : Ran PVal PBody PMem} → Lockstep ts T r q → Together r q
  together l = let (i, e, s) = now_together l.now in record { in_frame = i; moments = l.moments; ends = e; stops = s }
