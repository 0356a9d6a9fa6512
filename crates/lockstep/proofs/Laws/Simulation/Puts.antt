-- A set! fills what a read would find: a cell, or a name of the body itself.
use Rattle.std.specs.Prelude.{ℕ, List, [], ◌∷◌, ◌++◌, Bool, ◌≡◌, length, set, Option, Some, slice_get}
use Rattle.std.proofs.Common.{sym, ◌∙◌, arith, lt-ltb}
use Rattle.tree.specs.Tree.{Ident, Tree, Trees}
use Rattle.r7rs.specs.Machine.{Got, got, missing, on, Cells}
use Rattle.r7rs.specs.Plain.{Env, PVal, Store, PMem, PBody, PKont, POut, mem, body, locate, pput_at}
use Rattle.r7rs.specs.Plain
use Rattle.semantic.specs.Rows.{Row, Variable}
use Rattle.semantic.specs.declared.SemanticInformation.{SemanticInformation}
use Rattle.pass_laws.specs.Static.{Bound, Ctx, lookup, Aim, aim_cell, aim_own, aim_outer}
use Rattle.lockstep.specs.Facts.{row_of, spot_by, spot_in}
use Rattle.lockstep.specs.Slot.{SVal, SBody, SMem, SKont, SOut, frames, sput_cell, sput}
use Rattle.lockstep.proofs.Laws.Simulation.Lists.{inside}
use Rattle.lockstep.proofs.Laws.Simulation.Relation.{presumed, Alike, AlikeHand, neither, each, AlikeCells, Held, Waits, Same, s_stopped}
use Rattle.lockstep.proofs.Laws.Simulation.Mono
use Rattle.lockstep.proofs.Laws.Simulation.Read.{own_read, cell_spot, own_spot, at_in, Found, f_none, f_keep, f_skip, found}
use Rattle.lockstep.proofs.Laws.Simulation.Sets.{cells_fill, waits-set, grown_set, held-set}

module _ (ts : Trees) (T : List Row) (M : ℕ → Bool) where
  -- both miss a cell, or both go on with the body, what waits in it, and the cells alike
  pub data Puts (σ : Store) (Γ : Ctx) (d h lo : ℕ) (F : List SVal) (o : Tree) (ρ : Env) (S : List PVal) : Got (SBody × SMem) → Got (PBody × PMem) → Type 0 where
    p_missing : Puts σ Γ d h lo F o ρ S missing missing
    p_got : {τ : Store} {G : List SVal} {C : List (List SVal)} {c : SMem} {c' : Cells PVal} → Held ts T M τ lo (length τ) Γ d h G C ρ
        → ((t : Bool) (sk : SKont) (pk : PKont) → Waits ts T M σ t Γ d h lo F ρ S sk pk → Waits ts T M τ t Γ d h lo G ρ S sk pk)
        → AlikeCells ts T M τ c c' → Puts σ Γ d h lo F o ρ S (got (frames G C, c)) (got (body o ρ S, mem τ c'))

  put-cell : {o : Tree} {σ : Store} {Γ : Ctx} {d h lo : ℕ} {F : List SVal} {C : List (List SVal)} {ρ : Env} {S : List PVal} {v : SVal} {w : PVal} {c : SMem}
      {c' : Cells PVal} {u : Option SVal} {u' : Option PVal} (x : ℕ) → AlikeHand ts T M σ u u' → Held ts T M σ lo (length σ) Γ d h F C ρ
      → Alike ts T M σ v w → AlikeCells ts T M σ c c' → Puts σ Γ d h lo F o ρ S (sput_cell u x v (frames F C) c) (Plain.pput_cell u' x w (body o ρ S) (mem σ c'))
  put-cell x neither r a cs = p_missing
  put-cell x (each _) r a cs = p_got r (λ t sk pk w. w) (cells_fill ts T M x a cs)

  puts_found : {o : Tree} {σ : Store} {Γ : Ctx} {d h lo : ℕ} (F : List SVal) (C : List (List SVal)) {ρ : Env} {S : List PVal} {v : SVal} {w : PVal} (c : SMem)
      (c' : Cells PVal) (u : SemanticInformation) {y : Option Bound} {q : Option ℕ} (x : ℕ) → Aim T (presumed M) d u y
      → Found ts T M σ (C ++ (F ∷ [])) d lo (length σ) Γ ρ y q → Held ts T M σ lo (length σ) Γ d h F C ρ → Alike ts T M σ v w → AlikeCells ts T M σ c c'
      → Puts σ Γ d h lo F o ρ S (sput (spot_by ts T u.kind u) x v (frames F C) c) (pput_at q x w (body o ρ S) (mem σ c'))
  puts_found F C c c' u x (aim_cell k) f_none r a cs = rw (cell_spot ts T u u.kind k) (put-cell x (cs x) r a cs)
  puts_found {σ = σ} {lo = lo} F C {v = v} {w = w} c c' u x (aim_own {e = e} k f p m) (f_keep {ℓ = ℓ} {v = v₀} {w = w₀} s own rd lk y) r a cs =
      let here : slice_get F e.slot ≡ Some v₀ = sym (own_read C F e (omega (arith, r.deep))) ∙ rd in
      let g = grown_set ts T M ℓ e.binder.at σ w₀ w lk lo (own m).1 m in
      rw (own_spot ts T u u.kind k, f.slot, lt-ltb e.slot (length F) (inside F e.slot here), lk)
      (p_got (held-set ts T M e ℓ s p m (own m).1 here lk a r)
      (λ t sk pk wt. Mono.waits ts T M lo σ (set σ ℓ (e.binder.at, w)) g (waits-set ts T M e v (at_in s) p wt) (omega arith))
      (Mono.cells ts T M lo σ (set σ ℓ (e.binder.at, w)) g cs))
  puts_found F C c c' u x (aim_own k f p m) (f_skip m' l) r a cs = absurd (omega arith)
  puts_found F C c c' u x (aim_outer k f two l m) fd r a cs = absurd m

  pub puts : {o : Tree} {σ : Store} {Γ : Ctx} {d h lo : ℕ} {F : List SVal} {C : List (List SVal)} {ρ : Env} {S : List PVal} {v : SVal} {w : PVal} (x : Ident)
      (u : SemanticInformation) (c : SMem) (c' : Cells PVal) → row_of T x.at ≡ Variable u → Aim T (presumed M) d u (lookup Γ x.name)
      → Held ts T M σ lo (length σ) Γ d h F C ρ → Alike ts T M σ v w → AlikeCells ts T M σ c c'
      → Puts σ Γ d h lo F o ρ S (sput (spot_in ts T (row_of T x.at)) x.name v (frames F C) c) (pput_at (locate ρ x.name) x.name w (body o ρ S) (mem σ c'))
  puts {σ = σ} {F = F} {C = C} x u c c' e f r a cs = rw e (puts_found F C c c' u x.name f (found ts T M σ r.names x.name) r a cs)

  pub puts_on : {o : Tree} {σ : Store} {Γ : Ctx} {d h lo : ℕ} {F : List SVal} {ρ : Env} {S : List PVal} {g : Got (SBody × SMem)} {g' : Got (PBody × PMem)}
      (f : SBody × SMem → SOut) (f' : PBody × PMem → POut) → Puts σ Γ d h lo F o ρ S g g'
      → ((τ : Store) (G : List SVal) (C : List (List SVal)) (c : SMem) (c' : Cells PVal) → Held ts T M τ lo (length τ) Γ d h G C ρ
      → ((t : Bool) (sk : SKont) (pk : PKont) → Waits ts T M σ t Γ d h lo F ρ S sk pk → Waits ts T M τ t Γ d h lo G ρ S sk pk)
      → AlikeCells ts T M τ c c' → Same ts T M (f (frames G C, c)) (f' (body o ρ S, mem τ c')))
      → Same ts T M (on g f) (on g' f')
  puts_on f f' p_missing k = s_stopped
  puts_on f f' (p_got r go cs) k = k _ _ _ _ _ r go cs
