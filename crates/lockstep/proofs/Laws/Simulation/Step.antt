-- A moment of both machines, and n moments.
use Prim.Native.Nat.{ℕ, zero, suc, ◌+◌, ◌≤◌}
use mathlib.Core.List.{List, [], ◌∷◌, ◌++◌, tail}
use Rattle.std.specs.Prelude.{Bool, ◌≡◌, refl, length, drop, Option}
use Rattle.std.proofs.Common.{ap, ◌∙◌, arith}
use Rattle.tree.specs.Tree.{Ident, Tree, Trees, many}
use Rattle.tree.proofs.Laws.Site.{let_two}
use Rattle.r7rs.specs.Machine.{After, Moment, Cells, state, last_n, but_n}
use Rattle.r7rs.specs.Plain.{Env, PVal, Store, PMem, PBody, PKont, POut, mem, body, bind_env, locations, plainly}
use Rattle.r7rs.specs.Steps
use Rattle.r7rs.specs.Run.{Ran, tried, more, run, plain}
use Rattle.semantic.specs.Rows.{Row}
use Rattle.pass_laws.specs.Static.{Ctx, Args, a_nil, a_cons, r_ident, r_const, r_if, r_let, r_define, r_lambda, r_begin, r_call, r_set, s_nil, s_one, s_more, Top, top-nil, top-cons, r_and, r_when, r_no_test}
use Rattle.lockstep.specs.Slot.{SVal, SBody, SMem, SKont, SOut, frames, slots, by_slots}
use Rattle.lockstep.proofs.Laws.Simulation.Lists.{drop_tail, last_none, but_none}
use Rattle.lockstep.proofs.Laws.Simulation.Binders.{Placed, PlacedRising, PlacedAll}
use Rattle.lockstep.proofs.Laws.Simulation.Scope.{entering}
use Rattle.lockstep.proofs.Laws.Simulation.Relation.{presumed, Expr, Then, then-head, then-body, a_unit, AlikeAll, alike_nil, AlikeHand, neither, each, AlikeCells, Held, Deep, Waits, w_if, w_seq, w_and, w_when, w_push, w_head, w_drop, w_set, w_def, Pushing, pushing, Both, b_start, b_enter, b_read, b_pushed, Same, s_next, s_ended, s_stopped}
use Rattle.lockstep.proofs.Laws.Simulation.Mono
use Rattle.lockstep.proofs.Laws.Simulation.Mono.{grown_append}
use Rattle.lockstep.proofs.Laws.Simulation.Read.{reads, gets_on}
use Rattle.lockstep.proofs.Laws.Simulation.Frames.{held_at}
use Rattle.lockstep.proofs.Laws.Simulation.Bodies.{held_let}
use Rattle.lockstep.proofs.Laws.Simulation.Depths.{deep_let}
use Rattle.lockstep.proofs.Laws.Simulation.Enter.{enter, enter-top}
use Rattle.lockstep.proofs.Laws.Simulation.Give.{give}

drop_bind : (xs : List Ident) (n : ℕ) (ρ : Env) → drop (length xs) (bind_env xs n ρ) ≡ ρ
drop_bind [] n ρ = refl
drop_bind (x ∷ xs) n ρ = drop_tail (length xs) (bind_env (x ∷ xs) n ρ) ∙ ap tail (drop_bind xs (suc n) ((x.name, n) ∷ ρ))

module _ (ts : Trees) (T : List Row) (M : ℕ → Bool) where
  -- nothing is pushed yet
  none-pushed : {σ : Store} {t : Bool} {Γ : Ctx} {d h lo : ℕ} {F : List SVal} {C : List (List SVal)} {ρ : Env} {S : List PVal} {sk : SKont} {pk : PKont}
      {a : After} {es : Trees} → Args T (presumed M) Γ d h es → PlacedRising ts T es h → Then ts T M Γ d h t (many es) a
      → Held ts T M σ lo (length σ) Γ d h F C ρ → Waits ts T M σ t Γ d h lo F ρ S sk pk → Pushing ts T M σ Γ d lo F ρ S a 0 0 es sk pk
  none-pushed {σ} {t} {Γ} {d} {h} {lo} {F} {ρ = ρ} {S = S} {sk = sk} {pk = pk} {a = a} {es = es} ar pl th r wt =
      let e : h + 0 ≡ h = omega arith in
      let e' : 0 + many es ≡ many es = omega arith in
      let tall : length F ≡ h + 0 = omega (arith, r.tall) in
      let l : 0 ≤ length S = omega arith in
      let vs : AlikeAll ts T M σ (last_n 0 F) (last_n 0 S) = rw (last_none F, last_none S) alike_nil in
      let ar' : Args T (presumed M) Γ d (h + 0) es = rw e ar in
      let pl' : PlacedRising ts T es (h + 0) = rw e pl in
      let th' : Then ts T M Γ d h t (0 + many es) a = rw e' th in
      let wt' : Waits ts T M σ t Γ d h lo (but_n 0 F) ρ (but_n 0 S) sk pk = rw (but_none F, but_none S) wt in
      pushing h tall l vs r.scope ar' pl' th' wt'

  -- the next expression is entered, or what the values are for
  pushes : {o : Tree} {σ : Store} {Γ : Ctx} {d h lo n : ℕ} {F : List SVal} {C : List (List SVal)} {ρ : Env} {S : List PVal} {sk : SKont} {pk : PKont}
      {a : After} {es : Trees} {v : Option SVal} {w : Option PVal} {c : SMem} {c' : Cells PVal} → Pushing ts T M σ Γ d lo F ρ S a n n es sk pk
      → Deep ts T M d o → Held ts T M σ lo (length σ) Γ d h F C ρ → AlikeHand ts T M σ v w → AlikeCells ts T M σ c c'
      → Same ts T M (Steps.push (by_slots ts T) a n es v (frames F C) sk c) (Steps.push plainly a n es w (body o ρ S) pk (mem σ c'))
  pushes {σ = σ} {Γ = Γ} {d = d} {n = n} {a = a} (pushing {t = t} h tall l vs sc (a_cons {es = es} e ar) pl th wt) dp r hd cs =
      let q : suc (h + n) ≡ h + suc n = omega arith in
      let q' : n + suc (many es) ≡ suc n + many es = omega arith in
      let ar' : Args T (presumed M) Γ d (h + suc n) es = rw q at ar in
      let pl' : PlacedRising ts T es (h + suc n) = rw q at pl.1 in
      let th' : Then ts T M Γ d h t (suc n + many es) a = rw q' at th in
      enter ts T M e pl.0 dp (held_at ts T M σ tall r) (w_push (pushing h tall l vs sc ar' pl' th' wt)) hd cs
  pushes {σ = σ} (pushing h tall l vs sc a_nil pl (then-head rf pf imp) wt) dp r hd cs =
      enter ts T M rf pf dp (held_at ts T M σ (omega arith) r) (w_head (pushing h tall l vs sc a_nil pl (then-head rf pf imp) wt)) hd cs
  pushes {σ = σ} {Γ = Γ} {d = d} {lo = lo} {n = n} {F = F} {ρ = ρ} {S = S} {sk = sk} {pk = pk}
      (pushing {t = t} h tall l vs sc a_nil pl (then-body {xs = xs} len en rb pb) wt) dp r hd cs =
      let q : n ≡ length xs = omega arith in
      let new = locations xs (last_n n S) in
      let g = grown_append ts T M (length σ) σ new in
      let vs' : AlikeAll ts T M σ (last_n (length xs) F) (last_n n S) = rw (← q) vs in
      let wt' : Waits ts T M (σ ++ new) t Γ d h lo (but_n (length xs) F) (drop (length xs) (bind_env xs (length σ) ρ)) (but_n n S) sk pk =
      rw (drop_bind xs (length σ) ρ, ← q) (Mono.waits ts T M (length σ) σ (σ ++ new) g wt r.span) in
      let tall' : length F ≡ h + length xs = omega arith in
      enter ts T M rb pb (deep_let ts T M dp) (held_let ts T M xs h en tall' sc vs' r) (w_drop xs refl refl refl tall' sc r.layer wt')
      (Mono.hand ts T M (length σ) σ (σ ++ new) g hd) (Mono.cells ts T M (length σ) σ (σ ++ new) g cs)

  -- from an expression entered
  entered_on : {o : Tree} {σ : Store} {t : Bool} {Γ : Ctx} {d h lo : ℕ} {F : List SVal} {C : List (List SVal)} {ρ : Env} {S : List PVal} {sk : SKont}
      {pk : PKont} {e : Tree} {v : Option SVal} {w : Option PVal} {c : SMem} {c' : Cells PVal} → Expr ts T M Γ d h t e → Placed ts T e h → Deep ts T M d o
      → Held ts T M σ lo (length σ) Γ d h F C ρ → Waits ts T M σ t Γ d h lo F ρ S sk pk → AlikeHand ts T M σ v w → AlikeCells ts T M σ c c'
      → Same ts T M (Steps.go_on (by_slots ts T) e v (frames F C) sk c) (Steps.go_on plainly e w (body o ρ S) pk (mem σ c'))
  entered_on {σ = σ} {c = c} {c' = c'} (r_ident {x = x} {v = v} e f) pl dp r wt hd cs =
      gets_on ts T M σ (reads ts T M σ x v c c' e f r cs) (λ v w a. s_next (b_read dp r wt (each a) cs))
  entered_on r_const pl dp r wt hd cs = give ts T M hd dp r wt cs
  entered_on (r_if a b c) pl dp r wt hd cs = enter ts T M a pl.0 dp r (w_if b pl.1 c pl.2 wt) hd cs
  entered_on (r_let {d = d} ar n nt b) pl dp r wt hd cs =
      pushes (none-pushed ar pl.0 (then-body n (entering ts T (let_two d r.layer) nt pl.1) b pl.2) r wt) dp r hd cs
  entered_on (r_define b) pl dp r wt hd cs = enter ts T M b pl dp r (w_def wt) hd cs
  entered_on (r_lambda e q nt b) pl dp r wt hd cs = give ts T M hd dp r wt cs
  entered_on (r_begin s_nil) pl dp r wt hd cs = give ts T M hd dp r wt cs
  entered_on (r_begin (s_one e)) pl dp r wt hd cs = enter ts T M e pl.0 dp r wt hd cs
  entered_on (r_begin (s_more e s)) pl dp r wt hd cs = enter ts T M e pl.0 dp r (w_seq s pl.1 wt) hd cs
  entered_on (r_and s_nil) pl dp r wt hd cs = give ts T M hd dp r wt cs
  entered_on (r_and (s_one e)) pl dp r wt hd cs = enter ts T M e pl.0 dp r wt hd cs
  entered_on (r_and (s_more e s)) pl dp r wt hd cs = enter ts T M e pl.0 dp r (w_and s pl.1 wt) hd cs
  entered_on r_no_test pl dp r wt hd cs = give ts T M hd dp r wt cs
  entered_on (r_when e s) pl dp r wt hd cs = enter ts T M e pl.0 dp r (w_when s pl.1 wt) hd cs
  entered_on (r_call {n = n} ar f imp) pl dp r wt hd cs =
      pushes (none-pushed ar pl.0 (then-head f pl.1 imp) r wt) dp r hd cs
  entered_on (r_set {v = v} b e a) pl dp r wt hd cs = enter ts T M b pl dp r (w_set v e a wt) hd cs

  -- one moment
  steps : {σ : Store} {l : Moment} {v : Option SVal} {b : SBody} {sk : SKont} {c : SMem} {w : Option PVal} {b' : PBody} {pk : PKont} {c' : Cells PVal}
      → Both ts T M σ l v b sk c w b' pk c' → Same ts T M (Steps.step (by_slots ts T) (state l v b sk c)) (Steps.step plainly (state l w b' pk (mem σ c')))
  steps (b_start top-nil p cs) = s_ended a_unit cs
  steps (b_start (top-cons e es) p cs) = enter-top ts T M e p.0 es p.1 neither cs
  steps (b_enter e pl dp r wt hd cs) = entered_on e pl dp r wt hd cs
  steps (b_read dp r wt hd cs) = give ts T M hd dp r wt cs
  steps (b_pushed dp r p hd cs) = pushes p dp r hd cs

  -- n moments
  pub record Runs (r : Ran SVal SBody SMem) (q : Ran PVal PBody PMem) : Type 0 where
    pub moments : r.made ≡ q.made
    pub same : Same ts T M r.now q.now

  try : {m m' : ℕ} {x : SOut} {y : POut} → m ≡ m' → Same ts T M x y → Runs (tried m x) (tried m' y)
  try e (s_next b) = record { moments = ap suc e; same = s_next b }
  try e (s_ended a cs) = record { moments = e; same = s_ended a cs }
  try e s_stopped = record { moments = e; same = s_stopped }

  again : {m m' : ℕ} {x : SOut} {y : POut} → m ≡ m' → Same ts T M x y → Runs (more (Steps.step (by_slots ts T)) m x) (more (Steps.step plainly) m' y)
  again e (s_next b) = try e (steps b)
  again e (s_ended a cs) = record { moments = e; same = s_ended a cs }
  again e s_stopped = record { moments = e; same = s_stopped }

  pub runs : Top T (presumed M) ts → PlacedAll ts T ts 0 → (n : ℕ) → Runs (slots ts T n) (plain ts n)
  unfolding slots plain run
  runs t p zero = record { moments = refl; same = s_next (b_start t p (λ x. neither)) }
  runs t p (suc n) = let r = runs t p n in again r.moments r.same
