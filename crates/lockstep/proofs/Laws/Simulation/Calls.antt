-- A procedure is called. A recorded tail call gives up the caller's frame; the plain machine's caller waits, and nothing of it is left to do.
use Rattle.std.specs.Prelude.{ℕ, ◌-◌, ◌≤◌, List, [], ◌++◌, Bool, true, false, cond, ◌≡◌, refl, length, eqb}
use Rattle.std.proofs.Common.{arith, eqb-true, length-drop}
use Rattle.tree.specs.Tree.{Tree, Trees, nil}
use Rattle.r7rs.specs.Machine.{to_head, kret, stopped, Cells, last_n}
use Rattle.r7rs.specs.Plain.{Env, PVal, Store, PKont, POut, mem, body, locations, plainly}
use Rattle.r7rs.specs.Steps
use Rattle.semantic.specs.Rows.{Row}
use Rattle.pass_laws.specs.Static.{Ctx}
use Rattle.lockstep.specs.Facts.{is_tail, row_of}
use Rattle.lockstep.specs.Slot.{SVal, SMem, SKont, SOut, frames, give_up, by_slots}
use Rattle.lockstep.specs.Slot
use Rattle.lockstep.proofs.Laws.Simulation.Frames.{held_pop, held_up}
use Rattle.lockstep.proofs.Laws.Simulation.Relation.{Alike, a_const, a_unit, a_clo, each, AlikeCells, Held, Deep, Through, through_here, through_drop, Waits, w_body, w_drop, Pushing, pushing, then-head, Returns, r_end, r_live, r_dead, Same, s_stopped}
use Rattle.lockstep.proofs.Laws.Simulation.Mono
use Rattle.lockstep.proofs.Laws.Simulation.Mono.{grown_append}
use Rattle.lockstep.proofs.Laws.Simulation.Bodies.{held_call}
use Rattle.lockstep.proofs.Laws.Simulation.Depths.{deep_body}
use Rattle.lockstep.proofs.Laws.Simulation.Enter.{enter}

module _ (ts : Trees) (T : List Row) (M : ℕ → Bool) where
  returns_up : {σ : Store} {lo lo' : ℕ} {sk : SKont} {pk : PKont} → lo ≤ lo' → Returns ts T M σ lo sk pk → Returns ts T M σ lo' sk pk
  returns_up l (r_end t p) = r_end t p
  returns_up {σ} l (r_live i dp h w) = r_live i dp (held_up ts T M σ l h) w
  returns_up l (r_dead i s t r) = r_dead i s t (returns_up l r)

  given_up : {σ : Store} {lo : ℕ} {sk : SKont} {pk : PKont} → Returns ts T M σ lo sk pk → give_up sk ≡ sk
  given_up (r_end t p) = refl
  given_up (r_live i dp h w) = refl
  given_up (r_dead i s t r) = given_up r

  -- in tail position only lets stand between an expression and the end of its body
  tails : {σ : Store} {Γ : Ctx} {d h lo : ℕ} {F : List SVal} {ρ : Env} {S : List PVal} {sk : SKont} {pk : PKont} → Waits ts T M σ true Γ d h lo F ρ S sk pk
      → (pk' : PKont) × Through ts T M pk pk' × (S ≡ []) × Returns ts T M σ lo (give_up sk) pk'
  tails {pk = pk} (w_body e r) = (pk, through_here, e, rw (given_up r) r)
  tails (w_drop xs n Γ d t s o w) = let (pk', th, e, r) = tails w in (pk', through_drop th, e, r)

  -- where a call's body gives its value: to the caller, or, after a recorded tail call, where the caller would have
  returned : {o : Tree} {σ : Store} {t : Bool} {Γ : Ctx} {d h lo i : ℕ} {F : List SVal} {C : List (List SVal)} {ρ : Env} {S : List PVal} {sk : SKont}
      {pk : PKont} (b : Bool) → is_tail (row_of T i) ≡ b → (is_tail (row_of T i) ≡ true → t ≡ true) → Deep ts T M d o
      → Held ts T M σ lo (length σ) Γ d h F C ρ → Waits ts T M σ t Γ d h lo F ρ S sk pk
      → Returns ts T M σ (length σ) (Slot.waits b i (frames F C) sk) (kret i (body o ρ S) pk)
  returned true e imp dp r w = let (pk', th, s, q) = tails (rw (imp e) at w) in r_dead e s th (returns_up r.span q)
  returned false e imp dp r w = r_live e dp r w

  -- a test that both machines make
  tested : {x : SOut} {y : POut} (b : Bool) → (b ≡ true → Same ts T M x y) → Same ts T M (cond b x stopped) (cond b y stopped)
  tested true f = f refl
  tested false f = s_stopped

  pub applies : {o f : Tree} {σ : Store} {Γ : Ctx} {d h lo i n : ℕ} {F : List SVal} {C : List (List SVal)} {ρ : Env} {S : List PVal} {sk : SKont} {pk : PKont}
      {v : SVal} {w : PVal} {c : SMem} {c' : Cells PVal} → Pushing ts T M σ Γ d lo F ρ S (to_head i f) n n nil sk pk → Deep ts T M d o
      → Held ts T M σ lo (length σ) Γ d h F C ρ → Alike ts T M σ v w → AlikeCells ts T M σ c c'
      → Same ts T M (Steps.apply (by_slots ts T) v i n sk (frames F C) c) (Steps.apply plainly w i n pk (body o ρ S) (mem σ c'))
  applies p dp r a_const cs = s_stopped
  applies p dp r a_unit cs = s_stopped
  applies {σ = σ} {i = i} {n = n} {F = F} {S = S} (pushing h tall l vs sc ar pl (then-head rf pf imp) wt) dp r (a_clo {xs = xs} Γ d hi lam deep b ns) cs =
      tested (eqb (length xs) n) (λ e.
      let same : length xs ≡ n = eqb-true (length xs) n e in
      let us = last_n n F in
      let new = locations xs (last_n n S) in
      let g = grown_append ts T M (length σ) σ new in
      let len : length xs ≡ length us = omega (arith, length-drop (length F - n) F) in
      let ret = returned (is_tail (row_of T i)) refl imp dp (held_pop ts T M σ n h tall sc r) wt in
      enter ts T M lam.facts lam.placed (deep_body ts T M lam.facts) (held_call ts T M lam len vs deep b ns)
      (w_body refl (Mono.returns ts T M (length σ) σ (σ ++ new) g ret (omega arith)))
      (each (Mono.alike ts T M (length σ) σ (σ ++ new) g (a_clo Γ d hi lam deep b ns)))
      (Mono.cells ts T M (length σ) σ (σ ++ new) g cs))
