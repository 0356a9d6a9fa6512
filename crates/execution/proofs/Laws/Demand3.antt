-- Demand 3: the fresh run records what the simulation needs of the facts.
use Rattle.std.specs.Prelude.{ℕ, ◌≡◌, refl, Option, None, Some}
use Rattle.std.proofs.Common.{arith}
use Rattle.tree.specs.Check.{Refusal}
use Rattle.r7rs.specs.Binding.{uses}
use Rattle.pass.specs.Run.{fresh, nine_or, ten_at}
use Rattle.pass_laws.specs.Laws.Recorded.{recorded_unshared}
use Rattle.pass_laws.specs.Laws.Says.{is_set_in}
use Rattle.lockstep.proofs.Laws.Simulation.Main.{lockstep}
use Rattle.execution.specs.Claims.{Demand3}

-- a run that refuses nothing notes no 9
none-noted : (o : Option ℕ) (q : Option Refusal) → nine_or o q ≡ None → o ≡ None
none-noted None q e = refl
none-noted (Some i) q e = let z : ◌≡◌ {A = ℕ} 0 1 = cc in absurd (omega arith)

pub demand3 : Demand3
demand3 classes rs ts a p n =
    let nine = none-noted (fresh classes ts).noted.nine (ten_at (fresh classes ts).noted.ten) a.not_refused in
    lockstep (λ b. is_set_in b (uses ts)) a.accepted
    (recorded_unshared classes ts a.accepted.num a.accepted.few p.no_inner_define nine p.no_inner_set) n
