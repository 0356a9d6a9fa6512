-- `run_with_scope`: what the run leaves in the tables that it was lent.
use Prim.Native.Nat.{ℕ}
use mathlib.Core.Path.{sym, ap}
use Rattle.visits.proofs.run.run_with_scope.Goals as goal

pub returns : goal.returns
returns c =
    let l = c.run.ensures in
    let facts = c.facts-1.given.1.1 (sym (ap (λ (t : ℕ × ℕ × ℕ × ℕ). t.0) l.1)) in
    let captured = c.captured-1.given.1.1 (sym (ap (λ (t : ℕ × ℕ × ℕ × ℕ). t.1) l.1)) in
    let arguments = c.arguments-1.given.1.1 (sym (ap (λ (t : ℕ × ℕ × ℕ × ℕ). t.2) l.1)) in
    let work = c.work-1.given.1.1 (sym (ap (λ (t : ℕ × ℕ × ℕ × ℕ). t.3) l.1)) in
    rw (facts, captured, arguments, work) l.0
