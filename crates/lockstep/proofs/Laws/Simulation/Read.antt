-- A name is read: both machines find like values, or both an unbound cell.
use Rattle.std.specs.Prelude.{ℕ, ◌+◌, ◌-◌, ◌≤◌, ◌<◌, List, [], ◌∷◌, ◌++◌, Bool, true, false, cond, ◌≡◌, refl, length, eqb, Option, None, Some, slice_get}
use Rattle.std.proofs.Common.{true≢false, ap, sym, ◌∙◌, arith}
use Rattle.std.proofs.lemmas.Bool.{false≢true}
use Rattle.tree.specs.Tree.{Ident, Trees}
use Rattle.r7rs.specs.Machine.{Got, got, missing, on, Cells, in_cell}
use Rattle.r7rs.specs.Plain.{Env, PVal, Store, POut, mem, locate, pget_at}
use Rattle.semantic.specs.Rows.{Row, Variable}
use Rattle.semantic.specs.declared.IdentifierStatus.{IdentifierStatus}
use Rattle.semantic.specs.declared.IdentifierStatus.TheVariants.{Global, Local, LocallyDefinedFunction, LetVar, Captured, Free, HeapAllocated}
use Rattle.semantic.specs.declared.SemanticInformation.{SemanticInformation}
use Rattle.pass_laws.specs.Static.{Bound, Ctx, lookup, is_cell, is_own, Refers, Ref, ref-cell, ref-own, ref_outer}
use Rattle.lockstep.specs.Facts.{cell, own, kept, kept_at, row_of, home, spot_by, spot_in}
use Rattle.lockstep.specs.Slot.{SVal, SMem, SOut, frames, sget, in_frame, in_outer}
use Rattle.lockstep.proofs.Laws.Simulation.Lists.{at-append, at_seam, present}
use Rattle.lockstep.proofs.Laws.Simulation.Scope.{Housed, Scope, In, in_here, in_there, in_housed}
use Rattle.lockstep.proofs.Laws.Simulation.Relation.{presumed, slot_of, read_in, Alike, Names, no_names, keep, skip, AlikeHand, neither, each, AlikeCells, Held, Same, s_stopped}

-- a name of the body's own depth lies in the last frame, any other before it

pub last_frame : (C : List (List SVal)) (F : List SVal) (n s : ℕ) → length C ≡ n → slot_of (slice_get (C ++ (F ∷ [])) n) s ≡ slice_get F s
last_frame C F n s p =
    let m : length C + 0 ≡ n = omega arith in
    let q : slice_get (C ++ (F ∷ [])) n ≡ Some F = rw (← m) (at_seam C (F ∷ []) 0) in
    ap (λ (o : Option (List SVal)). slot_of o s) q

pub own_read : (C : List (List SVal)) (F : List SVal) (e : Bound) → length C ≡ e.depth - 2 → read_in (C ++ (F ∷ [])) e ≡ slice_get F e.slot
own_read C F e = last_frame C F (e.depth - 2) e.slot

pub outer_read : (C : List (List SVal)) (F : List SVal) (e : Bound) → e.depth - 2 < length C → read_in (C ++ (F ∷ [])) e ≡ read_in C e
outer_read C F e h =
    let (G, q) = present C (e.depth - 2) h in
    ap (λ (o : Option (List SVal)). slot_of o e.slot) (at-append C (F ∷ []) (e.depth - 2) q ∙ sym q)

in_outer_lem : (o : Option (List SVal)) (s : ℕ) → in_outer o s ≡ in_frame (slot_of o s)
in_outer_lem None s = refl
in_outer_lem (Some F) s = refl

-- The spot that a fact gives

module _ (ts : Trees) (T : List Row) (v : SemanticInformation) where
  pub cell_spot : (k : IdentifierStatus) → is_cell k ≡ true → spot_by ts T k v ≡ cell
  cell_spot Global e = refl
  cell_spot Local e = absurd (false≢true e)
  cell_spot LocallyDefinedFunction e = absurd (false≢true e)
  cell_spot LetVar e = absurd (false≢true e)
  cell_spot Captured e = absurd (false≢true e)
  cell_spot Free e = refl
  cell_spot HeapAllocated e = absurd (false≢true e)

  pub own_spot : (k : IdentifierStatus) → is_own k ≡ true → spot_by ts T k v ≡ own v.stack_offset
  own_spot Global e = absurd (false≢true e)
  own_spot Local e = refl
  own_spot LocallyDefinedFunction e = absurd (false≢true e)
  own_spot LetVar e = absurd (false≢true e)
  own_spot Captured e = absurd (false≢true e)
  own_spot Free e = absurd (false≢true e)
  own_spot HeapAllocated e = refl

  -- the frame and slot of the name that it refers to
  pub home_of : {d : ℕ} {e : Bound} → Housed ts T e → Refers d v e → home ts T v ≡ Some (e.depth - 2, e.slot)
  unfolding home
  home_of r f = rw (f.refers, r.row, r.frame, f.slot)

  pub outer_spot : {d : ℕ} {e : Bound} → v.kind ≡ Captured → Housed ts T e → Refers d v e → spot_by ts T v.kind v ≡ kept (e.depth - 2) e.slot
  outer_spot k r f = ap (λ (s : IdentifierStatus). spot_by ts T s v) k ∙ ap kept_at (home_of r f)

-- a name of a scope, and its location in the environment
pub data At (e : Bound) (ℓ : ℕ) : Ctx → Env → Type 0 where
  at_here : {Γ : Ctx} {p : ℕ × ℕ} {ρ : Env} → p.1 ≡ ℓ → At e ℓ (e ∷ Γ) (p ∷ ρ)
  at_there : {e' : Bound} {Γ : Ctx} {p : ℕ × ℕ} {ρ : Env} → At e ℓ Γ ρ → At e ℓ (e' ∷ Γ) (p ∷ ρ)

pub at_in : {e : Bound} {ℓ : ℕ} {Γ : Ctx} {ρ : Env} → At e ℓ Γ ρ → In e Γ
at_in (at_here p) = in_here refl
at_in (at_there s) = in_there (at_in s)

module _ (ts : Trees) (T : List Row) (M : ℕ → Bool) (σ : Store) where
  -- what a name finds in a scope, and in the environment
  pub data Found (Fs : List (List SVal)) (d lo hi : ℕ) (Γ : Ctx) (ρ : Env) : Option Bound → Option ℕ → Type 0 where
    f_none : Found Fs d lo hi Γ ρ None None
    f_keep : {e : Bound} {ℓ : ℕ} {v : SVal} {w : PVal} → At e ℓ Γ ρ → (M e.binder.at ≡ true → (e.depth ≡ d) × (lo ≤ ℓ))
        → read_in Fs e ≡ Some v → slice_get σ ℓ ≡ Some (e.binder.at, w) → Alike ts T M σ v w → Found Fs d lo hi Γ ρ (Some e) (Some ℓ)
    f_skip : {e : Bound} {ℓ : ℕ} → M e.binder.at ≡ true → e.depth < d → Found Fs d lo hi Γ ρ (Some e) (Some ℓ)

  module _ {Fs : List (List SVal)} {d lo : ℕ} where
    pick : {hi : ℕ} {Γ : Ctx} {ρ : Env} {e : Bound} {ℓ : ℕ} {o : Option Bound} {q : Option ℕ} (b : Bool)
        → Found Fs d lo hi Γ ρ (Some e) (Some ℓ) → Found Fs d lo hi Γ ρ o q → Found Fs d lo hi Γ ρ (cond b (Some e) o) (cond b (Some ℓ) q)
    pick true f g = f
    pick false f g = g

    older : {hi hi' : ℕ} {e : Bound} {Γ : Ctx} {p : ℕ × ℕ} {ρ : Env} {o : Option Bound} {q : Option ℕ} → Found Fs d lo hi Γ ρ o q
        → Found Fs d lo hi' (e ∷ Γ) (p ∷ ρ) o q
    older f_none = f_none
    older (f_keep s mine r lk a) = f_keep (at_there s) mine r lk a
    older (f_skip m l) = f_skip m l

    pub found : {hi : ℕ} {Γ : Ctx} {ρ : Env} → Names ts T M σ Fs d lo hi Γ ρ → (x : ℕ) → Found Fs d lo hi Γ ρ (lookup Γ x) (locate ρ x)
    found no_names x = f_none
    found (keep {e = e} n b mine r lk a ns) x = rw (← n) (pick (eqb e.binder.name x) (f_keep (at_here refl) mine r lk a) (older (found ns x)))
    found (skip {e = e} n b t m l ns) x = rw (← n) (pick (eqb e.binder.name x) (f_skip m l) (older (found ns x)))

  -- both get like values, or both miss one
  pub data Gets : Got SVal → Got PVal → Type 0 where
    g_got : {v : SVal} {w : PVal} → Alike ts T M σ v w → Gets (got v) (got w)
    g_missing : Gets missing missing

  pub gets_on : {g : Got SVal} {g' : Got PVal} {f : SVal → SOut} {f' : PVal → POut} → Gets g g'
      → ((v : SVal) (w : PVal) → Alike ts T M σ v w → Same ts T M (f v) (f' w)) → Same ts T M (on g f) (on g' f')
  gets_on (g_got a) k = k _ _ a
  gets_on g_missing k = s_stopped

  in_cell_lem : {v : Option SVal} {w : Option PVal} → AlikeHand ts T M σ v w → Gets (in_cell v) (in_cell w)
  in_cell_lem neither = g_missing
  in_cell_lem (each a) = g_got a

  reads_found : {lo hi d h : ℕ} {Γ : Ctx} {ρ : Env} (F : List SVal) (C : List (List SVal)) (v : SemanticInformation) {o : Option Bound} {q : Option ℕ}
      (c : SMem) (c' : Cells PVal) (x : ℕ) → length C ≡ d - 2 → Scope ts T d h Γ → Ref T (presumed M) d v o → Found (C ++ (F ∷ [])) d lo hi Γ ρ o q
      → AlikeCells ts T M σ c c' → Gets (sget (spot_by ts T v.kind v) x (frames F C) c) (pget_at q x (mem σ c'))
  reads_found F C v c c' x deep sc (ref-cell k) f_none r = rw (cell_spot ts T v v.kind k) (in_cell_lem (r x))
  reads_found F C v c c' x deep sc (ref-own {e = e} k f p) (f_keep {v = u} s o rd lk a) r =
      let here : slice_get F e.slot ≡ Some u = sym (own_read C F e (omega arith)) ∙ rd in
      rw (own_spot ts T v v.kind k, f.slot, here, lk) (g_got a)
  reads_found F C v c c' x deep sc (ref-own k f p) (f_skip m l) r = absurd (omega arith)
  reads_found F C v c c' x deep sc (ref_outer {e = e} k f two l m) (f_keep {v = u} s o rd lk a) r =
      let there : read_in C e ≡ Some u = sym (outer_read C F e (omega arith)) ∙ rd in
      rw (outer_spot ts T v k (in_housed (at_in s) sc).0 f, in_outer_lem (slice_get C (e.depth - 2)) e.slot, there, lk) (g_got a)
  reads_found F C v c c' x deep sc (ref_outer k f two l m) (f_skip m' _) r = absurd (true≢false (sym m' ∙ m))

  pub reads : {lo hi d h : ℕ} {Γ : Ctx} {F : List SVal} {C : List (List SVal)} {ρ : Env} (x : Ident) (v : SemanticInformation) (c : SMem) (c' : Cells PVal)
      → row_of T x.at ≡ Variable v → Ref T (presumed M) d v (lookup Γ x.name) → Held ts T M σ lo hi Γ d h F C ρ → AlikeCells ts T M σ c c'
      → Gets (sget (spot_in ts T (row_of T x.at)) x.name (frames F C) c) (pget_at (locate ρ x.name) x.name (mem σ c'))
  reads {F = F} {C = C} x v c c' e f r k = rw e (reads_found F C v c c' x.name r.deep r.scope f (found r.names x.name) k)
