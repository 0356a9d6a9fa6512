-- A value is given to what waits: the two machines come to like states, or both end, or both stop.
use Rattle.std.specs.Prelude.{ℕ, zero, suc, ◌+◌, ◌≤◌, List, [], ◌∷◌, ◌++◌, Bool, true, false, cond, ◌≡◌, refl, length, drop, Option}
use Rattle.std.proofs.Common.{arith, length-append}
use Rattle.tree.specs.Tree.{Tree, Trees}
use Rattle.r7rs.specs.Machine.{After, Kont, kend, kif, kseq, kand, kwhen, kpush, khead, kdrop, kret, kset, kdef, runs, Cells, last_n, but_n}
use Rattle.r7rs.specs.Plain.{Env, PVal, punit, Store, PMem, PBody, PKont, mem, body, plainly, POut}
use Rattle.r7rs.specs.Plain
use Rattle.r7rs.specs.Steps
use Rattle.semantic.specs.Rows.{Row}
use Rattle.pass_laws.specs.Static.{Ctx, s_nil, s_one, s_more, top-nil, top-cons}
use Rattle.lockstep.specs.Slot.{SVal, sunit, SBody, SMem, SKont, frames, by_slots, SOut}
use Rattle.lockstep.specs.Slot
use Rattle.lockstep.proofs.Laws.Simulation.Lists.{but_push, last-push}
use Rattle.lockstep.proofs.Laws.Simulation.Binders.{Placed}
use Rattle.lockstep.proofs.Laws.Simulation.Relation.{Expr, Alike, a_const, a_unit, a_clo, AlikeAll, alike_nil, alike_cons, AlikeHand, neither, each, AlikeCells, Held, Deep, Through, through_here, through_drop, Waits, w_body, w_if, w_seq, w_and, w_when, w_push, w_head, w_drop, w_set, w_def, Pushing, pushing, Returns, r_end, r_live, r_dead, b_pushed, Same, s_next, s_ended, s_stopped}
use Rattle.lockstep.proofs.Laws.Simulation.Frames.{held-push, held_up, held-drop}
use Rattle.lockstep.proofs.Laws.Simulation.Sets.{cells_fill}
use Rattle.lockstep.proofs.Laws.Simulation.Depths.{deep-drop}
use Rattle.lockstep.proofs.Laws.Simulation.Enter.{enter, enter-top}
use Rattle.lockstep.proofs.Laws.Simulation.Calls.{applies}
use Rattle.lockstep.proofs.Laws.Simulation.Puts.{puts, puts_on}

abbrev size : {B : Type 0} → Kont B → ℕ
size (kend es) = 1
size (kif t e k) = suc (size k)
size (kseq e es k) = suc (size k)
size (kand e es k) = suc (size k)
size (kwhen q es k) = suc (size k)
size (kpush i w n es k) = suc (size k)
size (khead i n k) = suc (size k)
size (kdrop n k) = suc (size k)
size (kret i b k) = suc (size k)
size (kset x k) = suc (size k)
size (kdef x k) = suc (size k)

size_pos : {B : Type 0} (k : Kont B) → 1 ≤ size k
size_pos (kend es) = omega arith
size_pos (kif t e k) = omega arith
size_pos (kseq e es k) = omega arith
size_pos (kand e es k) = omega arith
size_pos (kwhen q es k) = omega arith
size_pos (kpush i w n es k) = omega arith
size_pos (khead i n k) = omega arith
size_pos (kdrop n k) = omega arith
size_pos (kret i b k) = omega arith
size_pos (kset x k) = omega arith
size_pos (kdef x k) = omega arith

-- one of two branches
branch : (P : Tree → Type 0) (a b : Tree) (x : Bool) → P a → P b → P (cond x b a)
branch P a b true p q = q
branch P a b false p q = p

module _ (ts : Trees) (T : List Row) (M : ℕ → Bool) where
  alike_snoc : {σ : Store} {us : List SVal} {ws : List PVal} {v : SVal} {w : PVal} → AlikeAll ts T M σ us ws → Alike ts T M σ v w
      → AlikeAll ts T M σ (us ++ (v ∷ [])) (ws ++ (w ∷ []))
  alike_snoc alike_nil a = alike_cons a alike_nil
  alike_snoc (alike_cons x l) a = alike_cons x (alike_snoc l a)

  -- n values are pushed, and one more
  push-more : {σ : Store} {Γ : Ctx} {d lo : ℕ} {F : List SVal} {ρ : Env} {S : List PVal} {a : After} {n n' : ℕ} {es : Trees} {sk : SKont} {pk : PKont}
      {v : SVal} {w : PVal} → Alike ts T M σ v w → Pushing ts T M σ Γ d lo F ρ S a n n' es sk pk
      → Pushing ts T M σ Γ d lo (F ++ (v ∷ [])) ρ (S ++ (w ∷ [])) a (suc n) n' es sk pk
  push-more {σ} {v = v} {w = w} x (pushing {t} {Γ} {d} {lo} {F} {ρ} {S} {n = n} {sk = sk} {pk = pk} h tall l vs sc ar pl th wt) =
      let tall' : length (F ++ (v ∷ [])) ≡ h + suc n = omega (arith, length-append F (v ∷ [])) in
      let l' : suc n ≤ length (S ++ (w ∷ [])) = omega (arith, length-append S (w ∷ [])) in
      let vs' : AlikeAll ts T M σ (last_n (suc n) (F ++ (v ∷ []))) (last_n (suc n) (S ++ (w ∷ []))) =
      rw (last-push F v n (omega arith), last-push S w n l) (alike_snoc vs x) in
      let wt' : Waits ts T M σ t Γ d h lo (but_n (suc n) (F ++ (v ∷ []))) ρ (but_n (suc n) (S ++ (w ∷ []))) sk pk =
      rw (but_push F v n (omega arith), but_push S w n l) wt in
      pushing h tall' l' vs' sc ar pl th wt'

  same_false : {σ : Store} {v : SVal} {w : PVal} → Alike ts T M σ v w → Slot.sis_false v ≡ Plain.pis_false w
  same_false a_const = refl
  same_false a_unit = refl
  same_false (a_clo Γ d hi l n b ns) = refl

  -- one of two outcomes
  either : {x y : SOut} {x' y' : POut} (b : Bool) → Same ts T M x x' → Same ts T M y y' → Same ts T M (cond b x y) (cond b x' y')
  either true p q = p
  either false p q = q

  -- a body that is done but for its lets gives a value on

  through_size : {pk pk' : PKont} → Through ts T M pk pk' → size pk' ≤ size pk
  through_size through_here = omega arith
  through_size (through_drop t) = let l = through_size t in omega arith

  through_give : {pk pk' : PKont} (w : PVal) (m : PMem) → Through ts T M pk pk' → (b : PBody) → (b' : PBody) × (Steps.give plainly w pk b m ≡ Steps.give plainly w pk' b' m)
  unfolding Steps.give
  through_give w m through_here b = (b, refl)
  through_give w m (through_drop {n = n} t) b = through_give w m t (body b.of (drop n b.env) b.stack)

  -- k bounds the work: a set! changes what waits, so that the proof does not shrink with it
  mutual
    unfolding Steps.give

    give_bounded : (k : ℕ) {o : Tree} {σ : Store} {t : Bool} {Γ : Ctx} {d h lo : ℕ} {F : List SVal} {C : List (List SVal)} {ρ : Env} {S : List PVal}
        {sk : SKont} {pk : PKont} {v : SVal} {w : PVal} {c : SMem} {c' : Cells PVal} → suc (size pk + size pk) ≤ k
        → Waits ts T M σ t Γ d h lo F ρ S sk pk → Deep ts T M d o → Held ts T M σ lo (length σ) Γ d h F C ρ → Alike ts T M σ v w
        → AlikeCells ts T M σ c c' → Same ts T M (Steps.give (by_slots ts T) v sk (frames F C) c) (Steps.give plainly w pk (body o ρ S) (mem σ c'))
    give_bounded zero {pk = pk} l wt dp r a cs = absurd (omega (arith, size_pos pk))
    give_bounded (suc k) {o} {F = F} {C = C} {ρ = ρ} {S = S} {pk = pk} l (w_body e q) dp r a cs =
        return_bounded k {pk = pk} (frames F C) (body o ρ S) (omega arith) q r.span a cs
    give_bounded (suc k) {w = w} l (w_if {t} {Γ} {d} {h} {b = b} {c = c} x p y q wt) dp r a cs =
        let f = Plain.pis_false w in
        rw (same_false a) (enter ts T M (branch (Expr ts T M Γ d h t) b c f x y) (branch (λ e. Placed ts T e h) b c f p q) dp r wt (each a) cs)
    give_bounded (suc k) l (w_seq (s_one x) p wt) dp r a cs = enter ts T M x p.0 dp r wt (each a) cs
    give_bounded (suc k) l (w_seq (s_more x s) p wt) dp r a cs = enter ts T M x p.0 dp r (w_seq s p.1 wt) (each a) cs
    give_bounded (suc k) {w = w} l (w_and (s_one x) p wt) dp r a cs =
        rw (same_false a) (either (Plain.pis_false w) (give_bounded k (omega arith) wt dp r a_const cs) (enter ts T M x p.0 dp r wt (each a) cs))
    give_bounded (suc k) {w = w} l (w_and (s_more x s) p wt) dp r a cs =
        rw (same_false a) (either (Plain.pis_false w) (give_bounded k (omega arith) wt dp r a_const cs) (enter ts T M x p.0 dp r (w_and s p.1 wt) (each a) cs))
    give_bounded (suc k) l (w_when s_nil p wt) dp r a cs = give_bounded k (omega arith) wt dp r a_unit cs
    give_bounded (suc k) {w = w} l (w_when {q = q} (s_one x) p wt) dp r a cs =
        rw (same_false a) (either (runs q (Plain.pis_false w)) (enter ts T M x p.0 dp r wt (each a) cs) (give_bounded k (omega arith) wt dp r a_unit cs))
    give_bounded (suc k) {w = w} l (w_when {q = q} (s_more x s) p wt) dp r a cs =
        rw (same_false a) (either (runs q (Plain.pis_false w)) (enter ts T M x p.0 dp r (w_seq s p.1 wt) (each a) cs) (give_bounded k (omega arith) wt dp r a_unit cs))
    give_bounded (suc k) {σ = σ} {v = v} l (w_push p) dp r a cs = s_next (b_pushed dp (held-push ts T M σ v r) (push-more a p) (each a) cs)
    give_bounded (suc k) l (w_head p) dp r a cs = applies ts T M p dp r a cs
    give_bounded (suc k) {σ = σ} l (w_drop {n = n} xs nl Γe de tall sc layer wt) dp r a cs =
        give_bounded k (omega arith) wt (deep-drop ts T M de dp) (held-drop ts T M σ n xs nl Γe de tall sc layer r) a cs
    give_bounded (suc k) {c = c} {c' = c'} l (w_set {sk = sk} {pk = pk} {x = x} u e aim wt) dp r a cs =
        puts_on ts T M (λ q. Steps.give (by_slots ts T) sunit sk q.0 q.1) (λ q. Steps.give plainly punit pk q.0 q.1) (puts ts T M x u c c' e aim r a cs)
        (λ τ G D d d' r' go cs'. give_bounded k (omega arith) (go _ _ _ wt) dp r' a_unit cs')
    give_bounded (suc k) l (w_def {x = x} wt) dp r a cs = give_bounded k (omega arith) wt dp r a_unit (cells_fill ts T M x.name a cs)

    -- a body's value is given
    return_bounded : (k : ℕ) {σ : Store} {lo : ℕ} {sk : SKont} {pk : PKont} {v : SVal} {w : PVal} {c : SMem} {c' : Cells PVal} (b : SBody) (b' : PBody)
        → size pk + size pk ≤ k → Returns ts T M σ lo sk pk → lo ≤ length σ → Alike ts T M σ v w → AlikeCells ts T M σ c c'
        → Same ts T M (Steps.give (by_slots ts T) v sk b c) (Steps.give plainly w pk b' (mem σ c'))
    return_bounded zero {pk = pk} b b' l q u a cs = absurd (omega (arith, size_pos pk))
    return_bounded (suc k) b b' l (r_end top-nil p) u a cs = s_ended a cs
    return_bounded (suc k) b b' l (r_end (top-cons e es) p) u a cs = enter-top ts T M e p.0 es p.1 (each a) cs
    return_bounded (suc k) {σ} b b' l (r_live {pk = pk} i dp h wt) u a cs = give_bounded k {pk = pk} (omega arith) wt dp (held_up ts T M σ u h) a cs
    return_bounded (suc k) {σ} {w = w} {c' = c'} b b' l (r_dead {b = b₁} i s th q) u a cs =
        let (b₂, e) = through_give w (mem σ c') th b₁ in
        rw e (return_bounded k b b₂ (omega (arith, through_size th)) q u a cs)

  -- the hand's value is given
  pub give : {o : Tree} {σ : Store} {t : Bool} {Γ : Ctx} {d h lo : ℕ} {F : List SVal} {C : List (List SVal)} {ρ : Env} {S : List PVal} {sk : SKont} {pk : PKont}
      {v : Option SVal} {w : Option PVal} {c : SMem} {c' : Cells PVal} → AlikeHand ts T M σ v w → Deep ts T M d o → Held ts T M σ lo (length σ) Γ d h F C ρ
      → Waits ts T M σ t Γ d h lo F ρ S sk pk → AlikeCells ts T M σ c c'
      → Same ts T M (Steps.given (by_slots ts T) v sk (frames F C) c) (Steps.given plainly w pk (body o ρ S) (mem σ c'))
  give neither dp r wt cs = s_stopped
  give {pk = pk} (each a) dp r wt cs = give_bounded (suc (size pk + size pk)) (omega arith) wt dp r a cs
