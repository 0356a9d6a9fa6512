-- The scope of a body: its names with their rows and slots, and how deep and high each lies.
use Rattle.std.specs.Prelude.{ℕ, zero, suc, ◌+◌, ◌-◌, ◌≤◌, ◌<◌, List, [], ◌∷◌, ◌⊎◌, ◌≡◌, refl, length, Some}
use Rattle.std.proofs.Common.{inl, inr, ⊎_elim, ap, ◌∙◌, arith}
use Rattle.tree.specs.Tree.{Ident, Trees}
use Rattle.tree.specs.Site.{let_layer}
use Rattle.tree.proofs.Laws.Site.{let_cases}
use Rattle.semantic.specs.Rows.{Row}
use Rattle.pass_laws.specs.Static.{Bound, Ctx, enter_all, DepthAt, Noted, noted-nil, noted-cons}
use Rattle.lockstep.specs.Facts.{frame_of, frame_in, row_of, row_of_id}
use Rattle.lockstep.proofs.Laws.Simulation.Binders.{slot_at, Stands, StandAll}

abbrev pub bound : Ident → ℕ → ℕ → Bound
bound x d s = record { binder = x; depth = d; slot = s }

pub let_below : {n : ℕ} (d : ℕ) → 2 ≤ n → d ≤ n → let_layer d ≤ n
let_below d two l = ⊎_elim (λ c. omega arith) (λ c. omega arith) (let_cases d)

pub let_same : {n : ℕ} (d : ℕ) → n ≡ let_layer d → n ≤ d → n ≡ d
let_same d p l = ⊎_elim (λ c. omega arith) (λ c. omega arith) (let_cases d)

-- the frames that a body keeps are as many in a let as around it
pub let_deep : (d : ℕ) → let_layer d - 2 ≡ d - 2
let_deep d = ⊎_elim (λ c. omega arith) (λ c. omega arith) (let_cases d)

frame_two : (d : ℕ) → 2 ≤ d → frame_of d ≡ Some (d - 2)
frame_two zero l = absurd (omega arith)
frame_two (suc zero) l = absurd (omega arith)
frame_two (suc (suc d)) l = ap Some (omega arith)

module _ (ts : Trees) (T : List Row) where
  -- a name of a body: its row gives its frame, and is the one that its id finds; its record gives its slot
  pub record Housed (e : Bound) : Type 0 where
    pub two : 2 ≤ e.depth
    pub row : row_of_id ts T e.binder.id ≡ row_of T e.binder.at
    pub frame : frame_in (row_of T e.binder.at) ≡ Some (e.depth - 2)
    pub slot : slot_at ts e.binder.at ≡ e.slot

  housed : {x : Ident} {d s : ℕ} → 2 ≤ d → DepthAt T x d → Stands ts T x s → Housed (bound x d s)
  housed {d = d} two n st = record {
    two = two;
    row = st.row;
    frame = ap frame_in n.is ∙ ap frame_of n.depth ∙ frame_two d two;
    slot = st.slot;
  }

  -- names that enter at depth d, the first at the slot s
  pub data Entering (d : ℕ) : ℕ → List Ident → Type 0 where
    none_enters : {s : ℕ} → Entering d s []
    one_enters : {s : ℕ} {x : Ident} {xs : List Ident} → Housed (bound x d s) → Entering d (suc s) xs → Entering d s (x ∷ xs)

  pub entering : {d s : ℕ} {xs : List Ident} → 2 ≤ d → Noted T d xs → StandAll ts T xs s → Entering d s xs
  entering two noted-nil st = none_enters
  entering two (noted-cons n ns) st = one_enters (housed two n st.0) (entering two ns st.1)

  -- the scope of a body at depth d: its own names lie below the height h, the newest highest; the others are of bodies around it
  pub data Scope (d : ℕ) : ℕ → Ctx → Type 0 where
    sc_nil : {h : ℕ} → Scope d h []
    sc_own : {h : ℕ} {e : Bound} {Γ : Ctx} → Housed e → e.depth ≡ d → e.slot < h → Scope d e.slot Γ → Scope d h (e ∷ Γ)
    sc_outer : {h : ℕ} {e : Bound} {Γ : Ctx} → Housed e → e.depth < d → Scope d h Γ → Scope d h (e ∷ Γ)

  pub scope_up : {d h h' : ℕ} {Γ : Ctx} → h ≤ h' → Scope d h Γ → Scope d h' Γ
  scope_up l sc_nil = sc_nil
  scope_up {h' = h'} l (sc_own {e = e} r own b s) = let b' : e.slot < h' = omega arith in sc_own r own b' s
  scope_up l (sc_outer r out s) = sc_outer r out (scope_up l s)

  pub scope_enter : {d h : ℕ} {Γ : Ctx} {xs : List Ident} (s h' : ℕ) → Entering d s xs → h ≤ s → s + length xs ≤ h' → Scope d h Γ
      → Scope d h' (enter_all xs d s Γ)
  scope_enter s h' none_enters l u sc = scope_up (omega arith) sc
  scope_enter {d} s h' (one_enters r rs) l u sc =
      let b : s < suc s = omega arith in
      scope_enter {h = suc s} (suc s) h' rs (omega arith) (omega arith) (sc_own r refl b (scope_up l sc))

  -- at depth 1 no name is in scope
  scope_one : {d d' h : ℕ} {Γ : Ctx} → d ≡ 1 → Scope d h Γ → Scope d' h Γ
  scope_one p sc_nil = sc_nil
  scope_one p (sc_own r own b s) = absurd (omega (arith, r.two))
  scope_one p (sc_outer r out s) = absurd (omega (arith, r.two))

  pub let_scope : {d h : ℕ} {Γ : Ctx} → Scope d h Γ → Scope (let_layer d) h Γ
  let_scope {d} sc = ⊎_elim (λ c. scope_one c.0 sc) (λ c. rw c.1 sc) (let_cases d)

  -- a lambda is made: all names around it are of outer bodies
  pub scope_close : {d h : ℕ} {Γ : Ctx} → Scope d h Γ → Scope (suc d) 0 Γ
  scope_close sc_nil = sc_nil
  scope_close {d} (sc_own {e = e} r own b s) = let l : e.depth < suc d = omega arith in sc_outer r l (scope_close s)
  scope_close {d} (sc_outer {e = e} r out s) = let l : e.depth < suc d = omega arith in sc_outer r l (scope_close s)

-- a name in a scope
pub data In (e : Bound) : Ctx → Type 0 where
  in_here : {e' : Bound} {Γ : Ctx} → e' ≡ e → In e (e' ∷ Γ)
  in_there : {e' : Bound} {Γ : Ctx} → In e Γ → In e (e' ∷ Γ)

-- one of a let's names, or one from before it
pub in_enter : {e : Bound} {Γ : Ctx} (xs : List Ident) (d h : ℕ) → In e (enter_all xs d h Γ) → (h ≤ e.slot) ⊎ In e Γ
in_enter [] d h i = inr i
in_enter {e} {Γ} (x ∷ xs) d h i = go (in_enter xs d (suc h) i)
  where
    go : (suc h ≤ e.slot) ⊎ In e (bound x d h ∷ Γ) → (h ≤ e.slot) ⊎ In e Γ
    go (inl l) = inl (omega arith)
    go (inr (in_here q)) = inl (rw (← q) (omega arith))
    go (inr (in_there j)) = inr j

module _ {ts : Trees} {T : List Row} {e : Bound} {d : ℕ} where
  pub in_housed : {h : ℕ} {Γ : Ctx} → In e Γ → Scope ts T d h Γ → Housed ts T e × (e.depth ≤ d)
  in_housed (in_here q) (sc_own r own b s) = rw (← q) (r, omega arith)
  in_housed (in_here q) (sc_outer r out s) = rw (← q) (r, omega arith)
  in_housed (in_there i) (sc_own r own b s) = in_housed i s
  in_housed (in_there i) (sc_outer r out s) = in_housed i s

  -- one of the body's own lies below the height
  pub in_below : {h : ℕ} {Γ : Ctx} → In e Γ → e.depth ≡ d → Scope ts T d h Γ → e.slot < h
  in_below (in_here q) p (sc_own r own b s) = rw (← q) b
  in_below (in_here q) p (sc_outer r out s) = absurd (omega (arith, ap (λ (b : Bound). b.depth) q))
  in_below (in_there i) p (sc_own r own b s) = let l = in_below i p s in omega arith
  in_below (in_there i) p (sc_outer r out s) = in_below i p s
