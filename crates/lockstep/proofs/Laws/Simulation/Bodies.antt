-- A body begins: a let's, or a procedure's. A procedure is made.
use Rattle.std.specs.Prelude.{ℕ, suc, ◌+◌, ◌-◌, ◌≤◌, ◌<◌, List, [], ◌∷◌, ◌++◌, Bool, true, false, ◌≡◌, refl, length, take, Some, slice_get}
use Rattle.std.proofs.Common.{true≢false, ap, sym, ◌∙◌, arith, length-append, length-take, length-drop}
use Rattle.tree.specs.Tree.{Ident, Tree, Trees}
use Rattle.tree.specs.Site.{let_layer}
use Rattle.tree.proofs.Laws.Site.{let_two}
use Rattle.r7rs.specs.Machine.{last_n}
use Rattle.r7rs.specs.Plain.{Env, PVal, pclo, Store, bind_env, locations}
use Rattle.semantic.specs.Rows.{Row}
use Rattle.pass_laws.specs.Static.{Bound, Ctx, enter_all}
use Rattle.lockstep.specs.Slot.{SVal, sclo, pack, frames, copied}
use Rattle.lockstep.proofs.Laws.Simulation.Lists.{at_seam, at_drop, at_take}
use Rattle.lockstep.proofs.Laws.Simulation.Binders.{Placed}
use Rattle.lockstep.proofs.Laws.Simulation.Scope.{let_deep, Entering, Scope, sc_nil, sc_own, sc_outer, scope_enter, let_scope, scope_close}
use Rattle.lockstep.proofs.Laws.Simulation.Relation.{read_in, Expr, Lambda, Alike, a_clo, Names, no_names, keep, skip, AlikeAll, alike_nil, alike_cons, Held}
use Rattle.lockstep.proofs.Laws.Simulation.Mono
use Rattle.lockstep.proofs.Laws.Simulation.Mono.{grown_append}
use Rattle.lockstep.proofs.Laws.Simulation.Read.{last_frame, outer_read}
use Rattle.lockstep.proofs.Laws.Simulation.Frames.{unpack-pack, names_bind, names-move, in_let}

locations-length : (xs : List Ident) (ws : List PVal) → length xs ≡ length ws → length (locations xs ws) ≡ length xs
locations-length [] ws e = refl
locations-length (x ∷ xs) [] e = absurd (omega arith)
locations-length (x ∷ xs) (w ∷ ws) e = ap suc (locations-length xs ws (omega arith))

module _ (ts : Trees) (T : List Row) (M : ℕ → Bool) where
  alike_length : {σ : Store} {us : List SVal} {ws : List PVal} → AlikeAll ts T M σ us ws → length us ≡ length ws
  alike_length alike_nil = refl
  alike_length (alike_cons a l) = ap suc (alike_length l)

  -- the names xs take the values us, which lie in the frame F from the slot s on, and ws, which move into new locations
  names_begin : {σ : Store} {d lo hi : ℕ} {Γ : Ctx} {ρ : Env} {us : List SVal} {ws : List PVal} (C : List (List SVal)) (F : List SVal) (xs : List Ident)
      (s : ℕ) → length C ≡ d - 2 → length xs ≡ length us → AlikeAll ts T M σ us ws → lo ≤ length σ → hi ≤ length σ
      → ((j : ℕ) (v : SVal) → slice_get us j ≡ Some v → slice_get F (s + j) ≡ Some v) → Names ts T M σ (C ++ (F ∷ [])) d lo hi Γ ρ
      → Names ts T M (σ ++ locations xs ws) (C ++ (F ∷ [])) d lo (length (σ ++ locations xs ws)) (enter_all xs d s Γ) (bind_env xs (length σ) ρ)
  names_begin {σ} {d} {us = us} {ws = ws} C F xs s deep len vs lo hi lie ns =
      let new = locations xs ws in
      let g = grown_append ts T M (length σ) σ new in
      let lenw : length new ≡ length xs = locations-length xs ws (omega (arith, alike_length vs)) in
      names_bind ts T M (σ ++ new) xs s (length σ) (length (σ ++ new))
      (Mono.alike_all ts T M (length σ) σ (σ ++ new) g vs) len lo hi (omega (arith, length-append σ new))
      (λ j v e. last_frame C F (d - 2) (s + j) deep ∙ lie j v e)
      (λ j c e. at_seam σ new j ∙ e)
      (Mono.names ts T M (length σ) σ (σ ++ new) g ns (λ ℓ l u. omega arith))

  -- a let's body begins
  pub held_let : {σ : Store} {lo d h : ℕ} {Γ : Ctx} {F : List SVal} {C : List (List SVal)} {ρ : Env} {ws : List PVal} (xs : List Ident) (h₀ : ℕ)
      → Entering ts T (let_layer d) h₀ xs → length F ≡ h₀ + length xs → Scope ts T d h₀ Γ → AlikeAll ts T M σ (last_n (length xs) F) ws
      → Held ts T M σ lo (length σ) Γ d h F C ρ
      → Held ts T M (σ ++ locations xs ws) lo (length (σ ++ locations xs ws)) (enter_all xs (let_layer d) h₀ Γ) (let_layer d) (h₀ + length xs) F C
      (bind_env xs (length σ) ρ)
  held_let {σ} {lo} {d} {F = F} {C = C} {ws = ws} xs h₀ en tall sc vs r =
      let deep : length C ≡ let_layer d - 2 = omega (arith, r.deep, let_deep d) in
      record {
        tall = tall;
        deep = deep;
        layer = omega (arith, let_two d r.layer);
        span = omega (arith, length-append σ (locations xs ws), r.span);
        scope = scope_enter ts T h₀ (h₀ + length xs) en (omega arith) (omega arith) (let_scope ts T sc);
        names =
            names_begin C F xs h₀ deep (omega (arith, length-drop (length F - length xs) F)) vs r.span (omega arith)
            (λ j v e.
            let q : length F - length xs + j ≡ h₀ + j = omega arith in
            rw (← q) (sym (at_drop F (length F - length xs) j) ∙ e))
            (in_let ts T M σ r.scope r.names);
      }

  names_lo : {σ : Store} {Fs : List (List SVal)} {d lo lo' hi : ℕ} {Γ : Ctx} {ρ : Env} → hi ≤ lo → Names ts T M σ Fs d lo hi Γ ρ
      → Names ts T M σ Fs d lo' hi Γ ρ
  names_lo l no_names = no_names
  names_lo l (keep n b own r lk a ns) = keep n b (λ m. let (p, q) = own m in absurd (omega arith)) r lk a (names_lo (omega arith) ns)
  names_lo l (skip n b t m o ns) = skip n b t m o (names_lo (omega arith) ns)

  -- a procedure's body begins
  pub held_call : {σ : Store} {d hi : ℕ} {Γ : Ctx} {C : List (List SVal)} {ρ : Env} {us : List SVal} {ws : List PVal} {xs : List Ident} {e : Tree}
      → Lambda ts T M Γ d xs e → length xs ≡ length us → AlikeAll ts T M σ us ws → length C ≡ d - 1 → hi ≤ length σ
      → Names ts T M σ C (suc d) hi hi Γ ρ
      → Held ts T M (σ ++ locations xs ws) (length σ) (length (σ ++ locations xs ws)) (enter_all xs (suc d) 0 Γ) (suc d) (length xs) us C
      (bind_env xs (length σ) ρ)
  held_call {σ} {d} {C = C} {us = us} {ws = ws} {xs = xs} l len vs deep b ns =
      let deep' : length C ≡ suc d - 2 = omega (arith, l.layer) in
      record {
        tall = sym len;
        deep = deep';
        layer = omega arith;
        span = omega (arith, length-append σ (locations xs ws));
        scope = scope_enter ts T 0 (length xs) l.params (omega arith) (omega arith) l.scope;
        names =
            names_begin C us xs 0 deep' len vs (omega arith) b (λ j v e. let q : 0 + j ≡ j = omega arith in rw q e)
            (names-move ts T M σ (λ e v own lt r. absurd (omega arith)) (λ e v two out r. outer_read C us e (omega arith) ∙ r) l.scope
            (names_lo (omega arith) ns));
      }

  -- a procedure is made: it keeps the names that may not be set

  keep_fixed : {σ : Store} {Gs : List (List SVal)} {d lo hi : ℕ} {e : Bound} {Γ : Ctx} {p : ℕ × ℕ} {ρ : Env} {v : SVal} {w : PVal} (b : Bool)
      → M e.binder.at ≡ b → e.binder.name ≡ p.0 → p.1 < hi → e.depth < d → read_in Gs e ≡ Some v
      → slice_get σ p.1 ≡ Some (e.binder.at, w) → Alike ts T M σ v w → Names ts T M σ Gs d lo p.1 Γ ρ → Names ts T M σ Gs d lo hi (e ∷ Γ) (p ∷ ρ)
  keep_fixed {w = w} true m n l out r lk a ns = skip n l (w, lk) m out ns
  keep_fixed false m n l out r lk a ns = keep n l (λ m'. absurd (true≢false (sym m' ∙ m))) r lk a ns

  names_close : {σ : Store} {Fs Gs : List (List SVal)} {d h lo lo' hi : ℕ} {Γ : Ctx} {ρ : Env}
      → ((e : Bound) (v : SVal) → 2 ≤ e.depth → e.depth ≤ d → read_in Fs e ≡ Some v → read_in Gs e ≡ Some v)
      → Scope ts T d h Γ → Names ts T M σ Fs d lo hi Γ ρ → Names ts T M σ Gs (suc d) lo' hi Γ ρ
  names_close f sc_nil no_names = no_names
  names_close f (sc_own {e = e} r own b s) (keep n l o rd lk a ns) =
      keep_fixed (M e.binder.at) refl n l (omega arith) (f e _ r.two (omega arith) rd) lk a (names_close f s ns)
  names_close f (sc_own r own b s) (skip n l t m o ns) = absurd (omega arith)
  names_close f (sc_outer {e = e} r out s) (keep n l o rd lk a ns) =
      keep_fixed (M e.binder.at) refl n l (omega arith) (f e _ r.two (omega arith) rd) lk a (names_close f s ns)
  names_close {d = d} f (sc_outer {e = e} r out s) (skip n l t m o ns) =
      let q : e.depth < suc d = omega arith in
      skip n l t m q (names_close f s ns)

  pub close : {σ : Store} {lo d h i : ℕ} {Γ : Ctx} {F : List SVal} {C : List (List SVal)} {ρ : Env} {xs : List Ident} {e : Tree}
      → Entering ts T (suc d) 0 xs → Expr ts T M (enter_all xs (suc d) 0 Γ) (suc d) (length xs) true e → Placed ts T e (length xs)
      → Held ts T M σ lo (length σ) Γ d h F C ρ → Alike ts T M σ (sclo i xs e (copied d (frames F C))) (pclo i xs e ρ)
  close {σ} {d = d} {Γ = Γ} {F = F} {C = C} {ρ = ρ} en rec pl r =
      let Fs = C ++ (F ∷ []) in
      let X = take (d - 1) Fs in
      a_clo {C = pack X} {ρ = ρ} Γ d (length σ)
      (record { layer = r.layer; params = en; facts = rec; placed = pl; scope = scope_close ts T r.scope })
      (rw (unpack-pack X) (omega (arith, length-take (d - 1) Fs, length-append C (F ∷ []), r.deep, r.layer)))
      (omega arith)
      (rw (unpack-pack X) (names_close (λ e v two l rd. rw (at_take Fs (d - 1) (e.depth - 2) (omega arith)) rd) r.scope r.names))
