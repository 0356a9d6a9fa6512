-- An expression is entered: the hands hold like values after it too.
use Rattle.std.specs.Prelude.{ℕ, List, [], Bool, false, refl, length, Option}
use Rattle.std.proofs.Common.{arith}
use Rattle.tree.specs.Tree.{Tree, Trees}
use Rattle.r7rs.specs.Machine.{Cells, kend}
use Rattle.r7rs.specs.Plain.{Env, PVal, Store, PKont, mem, body, plainly}
use Rattle.r7rs.specs.Steps
use Rattle.semantic.specs.Rows.{Row}
use Rattle.pass_laws.specs.Static.{Ctx, r_ident, r_const, r_if, r_let, r_define, r_lambda, r_begin, r_call, r_set, s_nil, s_one, s_more, Top, r_and, r_when, r_no_test}
use Rattle.lockstep.specs.Slot.{SVal, SMem, SKont, frames, by_slots}
use Rattle.lockstep.proofs.Laws.Simulation.Binders.{Placed, PlacedAll}
use Rattle.lockstep.proofs.Laws.Simulation.Scope.{entering, sc_nil}
use Rattle.lockstep.proofs.Laws.Simulation.Relation.{presumed, Expr, a_const, a_unit, no_names, AlikeHand, each, AlikeCells, Held, Deep, Waits, w_body, r_end, b_enter, Same, s_next}
use Rattle.lockstep.proofs.Laws.Simulation.Bodies.{close}
use Rattle.lockstep.proofs.Laws.Simulation.Depths.{deep_body}

module _ (ts : Trees) (T : List Row) (M : ℕ → Bool) where
  -- a constant, a lambda and an empty begin give their value; else the hand stays as it was
  hands : {σ : Store} {t : Bool} {Γ : Ctx} {d h lo : ℕ} {F : List SVal} {C : List (List SVal)} {ρ : Env} {e : Tree} {v : Option SVal} {w : Option PVal}
      (o : Tree) (S : List PVal) → Expr ts T M Γ d h t e → Placed ts T e h → Held ts T M σ lo (length σ) Γ d h F C ρ → AlikeHand ts T M σ v w
      → AlikeHand ts T M σ (Steps.gives (by_slots ts T) e (frames F C) v) (Steps.gives plainly e (body o ρ S) w)
  hands o S (r_ident e f) pl r hd = hd
  hands o S r_const pl r hd = each a_const
  hands o S (r_if a b c) pl r hd = hd
  hands o S (r_let ar n nt b) pl r hd = hd
  hands o S (r_define b) pl r hd = hd
  hands o S (r_lambda e q nt b) pl r hd =
      rw (e, q) (each (close ts T M (entering ts T (omega (arith, r.layer)) nt pl.0) b pl.1 r))
  hands o S (r_begin s_nil) pl r hd = each a_unit
  hands o S (r_begin (s_one e)) pl r hd = hd
  hands o S (r_begin (s_more e s)) pl r hd = hd
  hands o S (r_and s_nil) pl r hd = each a_const
  hands o S (r_and (s_one e)) pl r hd = hd
  hands o S (r_and (s_more e s)) pl r hd = hd
  hands o S r_no_test pl r hd = each a_unit
  hands o S (r_when e s) pl r hd = hd
  hands o S (r_call ar f p) pl r hd = hd
  hands o S (r_set b e a) pl r hd = hd

  pub enter : {o e : Tree} {σ : Store} {t : Bool} {Γ : Ctx} {d h lo : ℕ} {F : List SVal} {C : List (List SVal)} {ρ : Env} {S : List PVal} {sk : SKont}
      {pk : PKont} {v : Option SVal} {w : Option PVal} {c : SMem} {c' : Cells PVal} → Expr ts T M Γ d h t e → Placed ts T e h → Deep ts T M d o
      → Held ts T M σ lo (length σ) Γ d h F C ρ → Waits ts T M σ t Γ d h lo F ρ S sk pk → AlikeHand ts T M σ v w → AlikeCells ts T M σ c c'
      → Same ts T M (Steps.enter (by_slots ts T) e v (frames F C) sk c) (Steps.enter plainly e w (body o ρ S) pk (mem σ c'))
  enter {o = o} {S = S} r pl dp h wt hd cs = s_next (b_enter r pl dp h wt (hands o S r pl h hd) cs)

  -- a top-level expression is
  pub enter-top : {σ : Store} {e : Tree} {es : Trees} {v : Option SVal} {w : Option PVal} {c : SMem} {c' : Cells PVal} → Expr ts T M [] 1 0 false e
      → Placed ts T e 0 → Top T (presumed M) es → PlacedAll ts T es 0 → AlikeHand ts T M σ v w → AlikeCells ts T M σ c c'
      → Same ts T M (Steps.enter (by_slots ts T) e v (frames [] []) (kend es) c) (Steps.enter plainly e w (body e [] []) (kend es) (mem σ c'))
  enter-top {σ} r pl top pls hd cs =
      let held : Held ts T M σ 0 (length σ) [] 1 0 [] [] [] =
      record { tall = refl; deep = refl; layer = omega arith; span = omega arith; scope = sc_nil; names = no_names } in
      enter r pl (deep_body ts T M r) held (w_body refl (r_end top pls)) hd cs
