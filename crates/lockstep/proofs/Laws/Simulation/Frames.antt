-- A body's frame grows and shrinks, and its names keep their values.
use Rattle.std.specs.Prelude.{ℕ, suc, ◌+◌, ◌-◌, ◌≤◌, ◌<◌, Bool, ◌≡◌, refl, length, drop, Some, slice_get}
use mathlib.Core.List.{List, [], ◌∷◌, ◌++◌, tail}
use Rattle.std.proofs.Common.{⊎_elim, ap, sym, ◌∙◌, add-zero, arith, length-append, length-take}
use Rattle.tree.specs.Tree.{Ident, Trees}
use Rattle.tree.specs.Site.{let_layer}
use Rattle.tree.proofs.Laws.Site.{let_cases}
use Rattle.r7rs.specs.Machine.{but_n}
use Rattle.r7rs.specs.Plain.{Env, PVal, Store, bind_env, locations}
use Rattle.semantic.specs.Rows.{Row}
use Rattle.pass_laws.specs.Static.{Bound, Ctx, enter_all}
use Rattle.lockstep.specs.Slot.{SVal, pack_frame, pack, unpack_frame, unpack}
use Rattle.lockstep.proofs.Laws.Simulation.Lists.{at-append, at_take, drop_tail}
use Rattle.lockstep.proofs.Laws.Simulation.Scope.{let_deep, Scope, sc_nil, sc_own, sc_outer, scope_up}
use Rattle.lockstep.proofs.Laws.Simulation.Relation.{slot_of, read_in, Names, no_names, keep, skip, AlikeAll, alike_nil, alike_cons, Held}
use Rattle.lockstep.proofs.Laws.Simulation.Read.{own_read, outer_read}

-- frames packed are the frames

unpack-frame : (F : List SVal) → unpack_frame (pack_frame F) ≡ F
unpack-frame [] = refl
unpack-frame (v ∷ F) = ap (v ∷◌) (unpack-frame F)

pub unpack-pack : (C : List (List SVal)) → unpack (pack C) ≡ C
unpack-pack [] = refl
unpack-pack (F ∷ C) = λ i. unpack-frame F i ∷ unpack-pack C i

module _ (ts : Trees) (T : List Row) (M : ℕ → Bool) (σ : Store) where
  pub names_up : {Fs : List (List SVal)} {d lo hi hi' : ℕ} {Γ : Ctx} {ρ : Env} → hi ≤ hi' → Names ts T M σ Fs d lo hi Γ ρ → Names ts T M σ Fs d lo hi' Γ ρ
  names_up l no_names = no_names
  names_up {hi' = hi'} l (keep {p = p} n b own r lk a ns) = let b' : p.1 < hi' = omega arith in keep n b' own r lk a ns
  names_up {hi' = hi'} l (skip {p = p} n b t m o ns) = let b' : p.1 < hi' = omega arith in skip n b' t m o ns

  -- the names xs take values: us, which lie in the body's frame from the slot s on, and ws, in the store from n on
  pub names_bind : {Fs : List (List SVal)} {d lo hi : ℕ} {Γ : Ctx} {ρ : Env} {us : List SVal} {ws : List PVal} (xs : List Ident) (s n hi' : ℕ)
      → AlikeAll ts T M σ us ws → length xs ≡ length us → lo ≤ n → hi ≤ n → n + length xs ≤ hi'
      → ((j : ℕ) (v : SVal) → slice_get us j ≡ Some v → slot_of (slice_get Fs (d - 2)) (s + j) ≡ Some v)
      → ((j : ℕ) (c : ℕ × PVal) → slice_get (locations xs ws) j ≡ Some c → slice_get σ (n + j) ≡ Some c)
      → Names ts T M σ Fs d lo hi Γ ρ → Names ts T M σ Fs d lo hi' (enter_all xs d s Γ) (bind_env xs n ρ)
  names_bind [] s n hi' alike_nil len lo hi top slot store ns = names_up (omega arith) ns
  names_bind [] s n hi' (alike_cons a l) len lo hi top slot store ns = absurd (omega arith)
  names_bind (x ∷ xs) s n hi' alike_nil len lo hi top slot store ns = absurd (omega arith)
  names_bind (x ∷ xs) s n hi' (alike_cons {v = v} {w = w} a l) len lo hi top slot store ns =
      let b : n < suc n = omega arith in
      names_bind {hi = suc n} xs (suc s) (suc n) hi' l (omega arith) (omega arith) (omega arith) (omega arith)
      (λ j u e. let q : suc s + j ≡ s + suc j = omega arith in rw q (slot (suc j) u e))
      (λ j c e. let q : suc n + j ≡ n + suc j = omega arith in rw q (store (suc j) c e))
      (keep refl b (λ _. (refl, lo)) (rw add-zero at (slot 0 v refl)) (rw add-zero at (store 0 (x.at, w) refl)) a (names_up hi ns))

  -- the frames change, and what the names read does not
  pub names-move : {Fs Gs : List (List SVal)} {d h lo hi : ℕ} {Γ : Ctx} {ρ : Env}
      → ((e : Bound) (v : SVal) → e.depth ≡ d → e.slot < h → read_in Fs e ≡ Some v → read_in Gs e ≡ Some v)
      → ((e : Bound) (v : SVal) → 2 ≤ e.depth → e.depth < d → read_in Fs e ≡ Some v → read_in Gs e ≡ Some v)
      → Scope ts T d h Γ → Names ts T M σ Fs d lo hi Γ ρ → Names ts T M σ Gs d lo hi Γ ρ
  names-move f g sc_nil no_names = no_names
  names-move f g (sc_own {e = e} r own b s) (keep n l o rd lk a ns) =
      keep n l o (f e _ own b rd) lk a (names-move (λ e' v p q. f e' v p (omega arith)) g s ns)
  names-move f g (sc_own r own b s) (skip n l t m o ns) = absurd (omega arith)
  names-move f g (sc_outer {e = e} r out s) (keep n l o rd lk a ns) = keep n l o (g e _ r.two out rd) lk a (names-move f g s ns)
  names-move f g (sc_outer r out s) (skip n l t m o ns) = skip n l t m o (names-move f g s ns)

  -- the body's own frame changes
  names-frame : {d h lo hi : ℕ} {Γ : Ctx} {ρ : Env} (C : List (List SVal)) (F G : List SVal) → length C ≡ d - 2
      → ((s : ℕ) (v : SVal) → s < h → slice_get F s ≡ Some v → slice_get G s ≡ Some v)
      → Scope ts T d h Γ → Names ts T M σ (C ++ (F ∷ [])) d lo hi Γ ρ → Names ts T M σ (C ++ (G ∷ [])) d lo hi Γ ρ
  names-frame C F G deep f =
      names-move
      (λ e v own b r.
      let q : length C ≡ e.depth - 2 = omega arith in
      own_read C G e q ∙ f e.slot v b (sym (own_read C F e q) ∙ r))
      (λ e v two out r. let q : e.depth - 2 < length C = omega arith in outer_read C G e q ∙ sym (outer_read C F e q) ∙ r)

  -- a value is pushed
  pub held-push : {lo hi : ℕ} {Γ : Ctx} {d h : ℕ} {F : List SVal} {C : List (List SVal)} {ρ : Env} (v : SVal) → Held ts T M σ lo hi Γ d h F C ρ
      → Held ts T M σ lo hi Γ d (suc h) (F ++ (v ∷ [])) C ρ
  held-push {F = F} {C = C} v r = record {
    tall = omega (arith, length-append F (v ∷ []));
    deep = r.deep;
    layer = r.layer;
    span = r.span;
    scope = scope_up ts T (omega arith) r.scope;
    names = names-frame C F (F ++ (v ∷ [])) r.deep (λ s u b e. at-append F (v ∷ []) s e) r.scope r.names;
  }

  -- n values are taken off
  pub held_pop : {lo hi : ℕ} {Γ : Ctx} {d h : ℕ} {F : List SVal} {C : List (List SVal)} {ρ : Env} (n h₀ : ℕ) → length F ≡ h₀ + n → Scope ts T d h₀ Γ
      → Held ts T M σ lo hi Γ d h F C ρ → Held ts T M σ lo hi Γ d h₀ (but_n n F) C ρ
  held_pop {F = F} {C = C} n h₀ tall sc r = record {
    tall = omega (arith, length-take (length F - n) F);
    deep = r.deep;
    layer = r.layer;
    span = r.span;
    scope = sc;
    names = names-frame C F (but_n n F) r.deep (λ s u b e. at_take F (length F - n) s (omega arith) ∙ e) sc r.names;
  }

  pub held_at : {lo hi d h h' : ℕ} {Γ : Ctx} {F : List SVal} {C : List (List SVal)} {ρ : Env} → length F ≡ h' → Held ts T M σ lo hi Γ d h F C ρ
      → Held ts T M σ lo hi Γ d h' F C ρ
  held_at {h = h} {h' = h'} e r = let q : h ≡ h' = omega (arith, r.tall) in rw q at r

  pub held_up : {lo hi hi' d h : ℕ} {Γ : Ctx} {F : List SVal} {C : List (List SVal)} {ρ : Env} → hi ≤ hi' → Held ts T M σ lo hi Γ d h F C ρ
      → Held ts T M σ lo hi' Γ d h F C ρ
  held_up l r = record {
    tall = r.tall;
    deep = r.deep;
    layer = r.layer;
    span = omega (arith, r.span);
    scope = r.scope;
    names = names_up l r.names;
  }

  -- the names of a let end

  names_tail : {Fs : List (List SVal)} {d lo hi : ℕ} {e : Bound} {Γ : Ctx} {ρ : Env} → Names ts T M σ Fs d lo hi (e ∷ Γ) ρ
      → Names ts T M σ Fs d lo hi Γ (tail ρ)
  names_tail (keep n b own r lk a ns) = names_up (omega arith) ns
  names_tail (skip n b t m o ns) = names_up (omega arith) ns

  names_unbind : {Fs : List (List SVal)} {d lo hi : ℕ} {Γ : Ctx} {ρ : Env} (xs : List Ident) (s : ℕ) → Names ts T M σ Fs d lo hi (enter_all xs d s Γ) ρ
      → Names ts T M σ Fs d lo hi Γ (drop (length xs) ρ)
  names_unbind [] s ns = ns
  names_unbind {ρ = ρ} (x ∷ xs) s ns = rw (drop_tail (length xs) ρ) (names_tail (names_unbind xs (suc s) ns))

  -- at depth 1 no name is in scope
  names-one : {Fs : List (List SVal)} {d d₁ d₂ h lo hi : ℕ} {Γ : Ctx} {ρ : Env} → d ≡ 1 → Scope ts T d h Γ → Names ts T M σ Fs d₁ lo hi Γ ρ
      → Names ts T M σ Fs d₂ lo hi Γ ρ
  names-one p sc_nil no_names = no_names
  names-one p (sc_own r own b s) ns = absurd (omega (arith, r.two))
  names-one p (sc_outer r out s) ns = absurd (omega (arith, r.two))

  pub in_let : {Fs : List (List SVal)} {d h lo hi : ℕ} {Γ : Ctx} {ρ : Env} → Scope ts T d h Γ → Names ts T M σ Fs d lo hi Γ ρ
      → Names ts T M σ Fs (let_layer d) lo hi Γ ρ
  in_let {d = d} sc ns = ⊎_elim (λ c. names-one c.0 sc ns) (λ c. rw c.1 ns) (let_cases d)

  after_let : {Fs : List (List SVal)} {d h lo hi : ℕ} {Γ : Ctx} {ρ : Env} → Scope ts T d h Γ → Names ts T M σ Fs (let_layer d) lo hi Γ ρ
      → Names ts T M σ Fs d lo hi Γ ρ
  after_let {d = d} sc ns = ⊎_elim (λ c. names-one c.0 sc ns) (λ c. rw c.1 at ns) (let_cases d)

  pub held-drop : {lo d d' h h' : ℕ} {Γ Γ' : Ctx} {F : List SVal} {C : List (List SVal)} {ρ : Env} (n : ℕ) (xs : List Ident) → n ≡ length xs
      → Γ' ≡ enter_all xs d' h Γ → d' ≡ let_layer d → length F ≡ h + n → Scope ts T d h Γ → 1 ≤ d → Held ts T M σ lo (length σ) Γ' d' h' F C ρ
      → Held ts T M σ lo (length σ) Γ d h (but_n n F) C (drop n ρ)
  held-drop {lo} {d} {d'} {h} {Γ = Γ} {F = F} {C = C} {ρ = ρ} n xs nl Γe de tall sc layer r =
      let ns : Names ts T M σ (C ++ (F ∷ [])) d' lo (length σ) (enter_all xs d' h Γ) ρ = rw Γe at r.names in
      let ns' : Names ts T M σ (C ++ (F ∷ [])) (let_layer d) lo (length σ) Γ (drop n ρ) = rw (nl, ← de) (names_unbind xs h ns) in
      held_pop n h tall sc
      (record {
        tall = tall;
        deep = omega (arith, r.deep, let_deep d);
        layer = layer;
        span = r.span;
        scope = scope_up ts T (omega arith) sc;
        names = after_let sc ns';
      })
