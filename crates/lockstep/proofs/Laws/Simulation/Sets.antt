-- A name of the body itself is set, in the frame and in the store: what waits is unharmed. Cells are filled.
use Rattle.std.specs.Prelude.{ℕ, ◌+◌, ◌-◌, ◌≤◌, ◌<◌, List, [], ◌∷◌, ◌++◌, Bool, true, false, cond, ◌⊎◌, ◌≡◌, refl, length, set, eqb, Some, slice_get}
use Rattle.std.proofs.Common.{inl, inr, ap, sym, subst, ◌∙◌, arith, length-set}
use Rattle.std.proofs.Math.Decide.{ℕ_discrete}
use Rattle.tree.specs.Tree.{Trees, many}
use Rattle.tree.specs.Site.{let_layer}
use Rattle.r7rs.specs.Machine.{After, Cells, fill, last_n, but_n}
use Rattle.r7rs.specs.Plain.{Env, PVal, Store, PKont}
use Rattle.semantic.specs.Rows.{Row}
use Rattle.pass_laws.specs.Static.{Bound, Ctx, Args}
use Rattle.lockstep.specs.Slot.{SVal, SMem, SKont}
use Rattle.lockstep.proofs.Laws.Simulation.Lists.{at_set_same, at_set_other, last_set, but_set, but_set_above}
use Rattle.lockstep.proofs.Laws.Simulation.Binders.{PlacedRising}
use Rattle.lockstep.proofs.Laws.Simulation.Scope.{let_same, Housed, Scope, sc_nil, sc_own, sc_outer, In, in_enter, in_housed, in_below}
use Rattle.lockstep.proofs.Laws.Simulation.Relation.{presumed, Tag, read_in, Then, Alike, Names, no_names, keep, skip, AlikeAll, AlikeHand, each, AlikeCells, Held, Waits, w_body, w_if, w_seq, w_and, w_when, w_push, w_head, w_drop, w_set, w_def, Pushing, pushing}
use Rattle.lockstep.proofs.Laws.Simulation.Mono
use Rattle.lockstep.proofs.Laws.Simulation.Mono.{Grown}
use Rattle.lockstep.proofs.Laws.Simulation.Read.{own_read, outer_read, At, at_here, at_there, at_in}
use Rattle.lockstep.proofs.Laws.Simulation.Frames.{names_up}

module _ (ts : Trees) (T : List Row) (M : ℕ → Bool) where
  pub cells_fill : {σ : Store} {c : SMem} {c' : Cells PVal} {v : SVal} {w : PVal} (x : ℕ) → Alike ts T M σ v w → AlikeCells ts T M σ c c'
      → AlikeCells ts T M σ (fill c x v) (fill c' x w)
  cells_fill {σ} {c} {c'} {v} {w} x a r y = go (eqb x y)
    where
      go : (b : Bool) → AlikeHand ts T M σ (cond b (Some v) (c y)) (cond b (Some w) (c' y))
      go true = each a
      go false = r y

  -- what waits in the body whose name e takes the value v

  module _ (e : Bound) (v : SVal) where
    push-set : {σ : Store} {t : Bool} {Γ : Ctx} {d lo : ℕ} (F : List SVal) {ρ : Env} (S : List PVal) {a : After} (n : ℕ) {n' : ℕ} {es : Trees} {sk : SKont}
        {pk : PKont} (h : ℕ) → e.slot < h → length F ≡ h + n → n ≤ length S → AlikeAll ts T M σ (last_n n F) (last_n n S) → Scope ts T d h Γ
        → Args T (presumed M) Γ d (h + n') es → PlacedRising ts T es (h + n') → Then ts T M Γ d h t (n' + many es) a
        → Waits ts T M σ t Γ d h lo (set (but_n n F) e.slot v) ρ (but_n n S) sk pk
        → Pushing ts T M σ Γ d lo (set F e.slot v) ρ S a n n' es sk pk
    push-set {σ} {t} {Γ} {d} {lo} F {ρ} S n {sk = sk} {pk = pk} h b tall l vs sc ar pl th w =
        let vs' : AlikeAll ts T M σ (last_n n (set F e.slot v)) (last_n n S) = rw (last_set F n e.slot v (omega arith)) vs in
        let w' : Waits ts T M σ t Γ d h lo (but_n n (set F e.slot v)) ρ (but_n n S) sk pk = rw (but_set F n e.slot v (omega arith)) w in
        pushing h (length-set F e.slot v ∙ tall) l vs' sc ar pl th w'

    drop-set : {σ : Store} {t : Bool} {Γ : Ctx} {d d' h lo : ℕ} (F : List SVal) {ρ : Env} {S : List PVal} {sk : SKont} {pk : PKont} (n : ℕ)
        → length F ≡ h + n → Scope ts T d h Γ → d' ≡ let_layer d → e.depth ≡ d' → (h ≤ e.slot) ⊎ In e Γ
        → Waits ts T M σ t Γ d h lo (but_n n F) ρ S sk pk
        → (In e Γ → e.depth ≡ d → Waits ts T M σ t Γ d h lo (set (but_n n F) e.slot v) ρ S sk pk)
        → Waits ts T M σ t Γ d h lo (but_n n (set F e.slot v)) ρ S sk pk
    drop-set F n tall sc de p (inl l) w f = rw (but_set_above F n e.slot v (omega arith)) w
    drop-set {d = d} F n tall sc de p (inr j) w f =
        let q : e.depth ≡ d = let_same d (p ∙ de) (in_housed j sc).1 in
        rw (but_set F n e.slot v (omega (arith, in_below j q sc))) (f j q)

    mutual
      pub waits-set : {σ : Store} {t : Bool} {Γ : Ctx} {d h lo : ℕ} {F : List SVal} {ρ : Env} {S : List PVal} {sk : SKont} {pk : PKont} → In e Γ
          → e.depth ≡ d → Waits ts T M σ t Γ d h lo F ρ S sk pk → Waits ts T M σ t Γ d h lo (set F e.slot v) ρ S sk pk
      waits-set i p (w_body q r) = w_body q r
      waits-set i p (w_if b q c r w) = w_if b q c r (waits-set i p w)
      waits-set i p (w_seq s q w) = w_seq s q (waits-set i p w)
      waits-set i p (w_and s q w) = w_and s q (waits-set i p w)
      waits-set i p (w_when s q w) = w_when s q (waits-set i p w)
      waits-set i p (w_push q) = w_push (pushing_set i p q)
      waits-set i p (w_head q) = w_head (pushing_set i p q)
      waits-set i p (w_drop {d' = d'} {h = h} {F = F} {n = n} xs nl Γe de tall sc layer w) =
          w_drop xs nl Γe de (length-set F e.slot v ∙ tall) sc layer
          (drop-set F n tall sc de p (in_enter xs d' h (subst (In e) Γe i)) w (λ j q. waits-set j q w))
      waits-set i p (w_set u r a w) = w_set u r a (waits-set i p w)
      waits-set i p (w_def w) = w_def (waits-set i p w)

      pushing_set : {σ : Store} {Γ : Ctx} {d lo : ℕ} {F : List SVal} {ρ : Env} {S : List PVal} {a : After} {n n' : ℕ} {es : Trees} {sk : SKont} {pk : PKont}
          → In e Γ → e.depth ≡ d → Pushing ts T M σ Γ d lo F ρ S a n n' es sk pk → Pushing ts T M σ Γ d lo (set F e.slot v) ρ S a n n' es sk pk
      pushing_set i p (pushing {F = F} {S = S} {n = n} h tall l vs sc ar pl th w) =
          push-set F S n h (in_below i p sc) tall l vs sc ar pl th (waits-set i p w)

  -- a location of the body's own is written

  module _ (ℓ b : ℕ) (σ : Store) (w w' : PVal) (was : slice_get σ ℓ ≡ Some (b, w)) where
    -- the location holds one name
    same_tag : (j c : ℕ) (u : PVal) → ℓ ≡ j → slice_get σ j ≡ Some (c, u) → b ≡ c
    same_tag j c u q e =
        let pair : ◌≡◌ {A = ℕ × PVal} (b, w) (c, u) = cc in
        ap (λ (p : ℕ × PVal). p.0) pair

    pub grown_set : (lo : ℕ) → lo ≤ ℓ → M b ≡ true → Grown ts T M lo σ (set σ ℓ (b, w'))
    grown_set lo l m = record {
      longer = omega (arith, length-set σ ℓ (b, w'));
      kept = λ j c u own e. kept j c u own e (ℕ_discrete ℓ j);
      tags = λ j c t. tag j c t (ℕ_discrete ℓ j);
    }
      where
        kept : (j c : ℕ) (u : PVal) → (M c ≡ true → j < lo) → slice_get σ j ≡ Some (c, u) → Dec (ℓ ≡ j) → slice_get (set σ ℓ (b, w')) j ≡ Some (c, u)
        kept j c u own e (no h) = at_set_other σ ℓ j (b, w') h ∙ e
        kept j c u own e (yes q) = absurd (let k : j < lo = own (rw (← same_tag j c u q e) m) in omega arith)

        tag : (j c : ℕ) → Tag σ j c → Dec (ℓ ≡ j) → Tag (set σ ℓ (b, w')) j c
        tag j c t (no h) = (t.0, at_set_other σ ℓ j (b, w') h ∙ t.1)
        tag j c (u, e) (yes q) = (w', rw (← q, ← same_tag j c u q e) (at_set_same σ ℓ (b, w') was))

  at-below : {σ : Store} {Fs : List (List SVal)} {e : Bound} {ℓ d lo hi : ℕ} {Γ : Ctx} {ρ : Env} → At e ℓ Γ ρ → Names ts T M σ Fs d lo hi Γ ρ → ℓ < hi
  at-below (at_here q) (keep n b own r lk a ns) = omega arith
  at-below (at_here q) (skip n b t m o ns) = omega arith
  at-below (at_there s) (keep n b own r lk a ns) = let l = at-below s ns in omega arith
  at-below (at_there s) (skip n b t m o ns) = let l = at-below s ns in omega arith

  -- the names of the body: x, which lies at the location ℓ, takes the values v and w'
  module _ (σ τ : Store) (C : List (List SVal)) (F : List SVal) (x : Bound) (ℓ lo : ℕ) (v : SVal) (w' : PVal)
      (made : τ ≡ set σ ℓ (x.binder.at, w')) (g : Grown ts T M lo σ τ) where
    abbrev Gs : List (List SVal)
    Gs = C ++ (set F x.slot v ∷ [])

    same_read : {d : ℕ} (e : Bound) (u : SVal) → length C ≡ d - 2 → 2 ≤ e.depth → e.depth ≤ d → (e.depth ≡ d → ¬ (x.slot ≡ e.slot))
        → read_in (C ++ (F ∷ [])) e ≡ Some u → read_in Gs e ≡ Some u
    same_read {d} e u deep two le ne r = go (ℕ_discrete e.depth d)
      where
        go : Dec (e.depth ≡ d) → read_in Gs e ≡ Some u
        go (yes q) =
            let k : length C ≡ e.depth - 2 = omega arith in
            own_read C (set F x.slot v) e k ∙ at_set_other F x.slot e.slot v (ne q) ∙ sym (own_read C F e k) ∙ r
        go (no q) = let k : e.depth - 2 < length C = omega arith in outer_read C (set F x.slot v) e k ∙ sym (outer_read C F e k) ∙ r

    same_store : (j b : ℕ) (u : PVal) → ¬ (ℓ ≡ j) → slice_get σ j ≡ Some (b, u) → slice_get τ j ≡ Some (b, u)
    same_store j b u ne e = rw made (at_set_other σ ℓ j (x.binder.at, w') ne ∙ e)

    -- another name keeps its values
    keep_other : {d hi : ℕ} {e : Bound} {Γ : Ctx} {p : ℕ × ℕ} {ρ : Env} {u : SVal} {w : PVal} → length C ≡ d - 2 → Housed ts T e → e.depth ≤ d
        → (e.depth ≡ d → ¬ (x.slot ≡ e.slot)) → ¬ (ℓ ≡ p.1) → e.binder.name ≡ p.0 → p.1 < hi
        → (M e.binder.at ≡ true → (e.depth ≡ d) × (lo ≤ p.1)) → read_in (C ++ (F ∷ [])) e ≡ Some u
        → slice_get σ p.1 ≡ Some (e.binder.at, w) → Alike ts T M σ u w → Names ts T M τ Gs d lo p.1 Γ ρ → Names ts T M τ Gs d lo hi (e ∷ Γ) (p ∷ ρ)
    keep_other {e = e} {p = p} deep r le ne far n b o rd lk a ns =
        keep n b o (same_read e _ deep r.two le ne rd) (same_store p.1 _ _ far lk) (Mono.alike ts T M lo σ τ g a) ns

    -- the names older than x
    names_under : {d h hi : ℕ} {Γ : Ctx} {ρ : Env} → length C ≡ d - 2 → h ≤ x.slot → hi ≤ ℓ → Scope ts T d h Γ
        → Names ts T M σ (C ++ (F ∷ [])) d lo hi Γ ρ → Names ts T M τ Gs d lo hi Γ ρ
    names_under deep h l sc_nil no_names = no_names
    names_under deep h l (sc_own r own b s) (keep n b' o rd lk a ns) =
        keep_other deep r (omega arith) (λ _ q. omega arith) (λ q. omega arith) n b' o rd lk a (names_under deep (omega arith) (omega arith) s ns)
    names_under deep h l (sc_own r own b s) (skip n b' t m o ns) = absurd (omega arith)
    names_under deep h l (sc_outer r out s) (keep n b' o rd lk a ns) =
        keep_other deep r (omega arith) (λ q _. omega arith) (λ q. omega arith) n b' o rd lk a (names_under deep h (omega arith) s ns)
    names_under deep h l (sc_outer r out s) (skip n b' t m o ns) = skip n b' (g.tags _ _ t) m o (names_under deep h (omega arith) s ns)

    names-set : {d h hi : ℕ} {Γ : Ctx} {ρ : Env} → length C ≡ d - 2 → x.depth ≡ d → Alike ts T M τ v w' → read_in Gs x ≡ Some v
        → slice_get τ ℓ ≡ Some (x.binder.at, w') → Scope ts T d h Γ → At x ℓ Γ ρ → Names ts T M σ (C ++ (F ∷ [])) d lo hi Γ ρ
        → Names ts T M τ Gs d lo hi Γ ρ
    names-set deep dp a rd lk (sc_own r own b s) (at_here q) (keep n b' o _ _ _ ns) =
        keep n b' o rd (rw (← q) at lk) a (names_under deep (omega arith) (omega arith) s ns)
    names-set deep dp a rd lk (sc_own r own b s) (at_here q) (skip n b' t m o ns) = absurd (omega arith)
    names-set deep dp a rd lk (sc_outer r out s) (at_here q) ns = absurd (omega arith)
    names-set deep dp a rd lk (sc_own r own b s) (at_there sp) (keep n b' o rd' lk' a' ns) =
        let l = in_below (at_in sp) dp s in
        let k = at-below sp ns in
        keep_other deep r (omega arith) (λ _ q. omega arith) (λ q. omega arith) n b' o rd' lk' a' (names-set deep dp a rd lk s sp ns)
    names-set deep dp a rd lk (sc_own r own b s) (at_there sp) (skip n b' t m o ns) = absurd (omega arith)
    names-set deep dp a rd lk (sc_outer r out s) (at_there sp) (keep n b' o rd' lk' a' ns) =
        let k = at-below sp ns in
        keep_other deep r (omega arith) (λ q _. omega arith) (λ q. omega arith) n b' o rd' lk' a' (names-set deep dp a rd lk s sp ns)
    names-set deep dp a rd lk (sc_outer r out s) (at_there sp) (skip n b' t m o ns) =
        skip n b' (g.tags _ _ t) m o (names-set deep dp a rd lk s sp ns)
    names-set deep dp a rd lk sc_nil sp ns = elim sp [ ]

  pub held-set : {σ : Store} {lo d h : ℕ} {Γ : Ctx} {F : List SVal} {C : List (List SVal)} {ρ : Env} {v v₀ : SVal} {w w₀ : PVal} (e : Bound) (ℓ : ℕ)
      → At e ℓ Γ ρ → e.depth ≡ d → M e.binder.at ≡ true → lo ≤ ℓ → slice_get F e.slot ≡ Some v₀ → slice_get σ ℓ ≡ Some (e.binder.at, w₀)
      → Alike ts T M σ v w → Held ts T M σ lo (length σ) Γ d h F C ρ
      → Held ts T M (set σ ℓ (e.binder.at, w)) lo (length (set σ ℓ (e.binder.at, w))) Γ d h (set F e.slot v) C ρ
  held-set {σ} {lo} {F = F} {C = C} {v = v} {w = w} {w₀ = w₀} e ℓ sp dp m l rd lk a r =
      let τ = set σ ℓ (e.binder.at, w) in
      let g = grown_set ℓ e.binder.at σ w₀ w lk lo l m in
      let len : length τ ≡ length σ = length-set σ ℓ (e.binder.at, w) in
      record {
        tall = length-set F e.slot v ∙ r.tall;
        deep = r.deep;
        layer = r.layer;
        span = omega (arith, r.span);
        scope = r.scope;
        names =
            names_up ts T M τ (omega arith)
            (names-set σ τ C F e ℓ lo v w refl g r.deep dp (Mono.alike ts T M lo σ τ g a)
            (own_read C (set F e.slot v) e (omega (arith, r.deep)) ∙ at_set_same F e.slot v rd)
            (at_set_same σ ℓ (e.binder.at, w) lk) r.scope sp r.names);
      }
