-- The live names, row by row.
use Rattle.std.specs.Prelude.{ℕ, suc, ◌+◌, ◌-◌, ◌≤◌, ◌<◌, List, [], ◌∷◌, ◌≡◌, length, get_or, drop}
use Rattle.std.proofs.Common.{ap, sym, subst, ◌∙◌, arith, add-one, drop-cons}
use Rattle.std.proofs.Math.Seq.{drop-length}
use Rattle.tree.specs.Tree.{Ident}
use Rattle.scope_map.specs.ScopeMap.{Live}
use Rattle.scope_map.specs.declared.Row.{Row}
use Rattle.semantic.specs.Rows.{no_list_entry}
use Rattle.pass.specs.State.{State}
use Rattle.work.specs.Works.{Works}
use Rattle.work.specs.Laws.Works.{names-many}
use Rattle.work.specs.Scope.{before, TellsLive}
use Rattle.work.specs.declared.Pass.{Pass}

pub record NextLive (l : List (Live Ident)) (i : ℕ) : Type 0 where
  pub live : Live Ident
  pub up : before (suc i) l ≡ live ∷ before i l

pub next_live : (l : List (Live Ident)) (i : ℕ) → i < length l → NextLive l i
next_live l i h =
    let none : Live Ident = record { name = 0; layer = 0; value = no_list_entry.binder } in
    let z : suc (length l - suc i) ≡ length l - i = omega arith in
    record {
      live = get_or l (length l - suc i) none;
      up = drop-cons l (length l - suc i) none (omega arith)
          ∙ ap (λ (k : ℕ). get_or l (length l - suc i) none ∷ drop k l) z;
    }

pub before-none : (l : List (Live Ident)) → before 0 l ≡ []
before-none l = let z : length l - 0 ≡ length l = omega arith in ap (λ (k : ℕ). drop k l) z ∙ drop-length l

pub before-all : (l : List (Live Ident)) (i : ℕ) → length l ≤ i → before i l ≡ l
before-all l i h = let z : length l - i ≡ 0 = omega arith in ap (λ (k : ℕ). drop k l) z

-- its row tells its name, its layer and its binder's record
pub live_is : {p : Pass} {w : List ℕ} {i : ℕ} {r : Row} {s : State} {e : Live Ident} → TellsLive p w i r → Works p w s
    → before (suc i) s.scope.names.live ≡ e ∷ before i s.scope.names.live
    → (r.name ≡ e.name) × (r.layer ≡ e.layer) × (r.value ≡ e.value.at)
live_is {s = s} {e} t h up =
    let v = t.is s h in
    let same : v.live ≡ e = ap (λ (l : List (Live Ident)). get_or l 0 e) (sym v.up ∙ up) in (
      v.name ∙ ap (λ (d : Live Ident). d.name) same,
      v.layer ∙ ap (λ (d : Live Ident). d.layer) same,
      v.value ∙ ap (λ (d : Live Ident). d.value.at) same,
    )

-- A loop over the live names: in every state held, P holds of those before row i

pub record Upto (p : Pass) (w : List ℕ) (P : State → List (Live Ident) → Type 0) (i : ℕ) : Type 0 where
  pub is : (s : State) → Works p w s → P s (before i s.scope.names.live)

module _ {p : Pass} {w : List ℕ} {P : State → List (Live Ident) → Type 0} where
  pub upto_none : ((s : State) → Works p w s → P s []) → Upto p w P 0
  upto_none f = record { is = λ s works. subst (P s) (sym (before-none s.scope.names.live)) (f s works) }

  pub upto_all : ((s : State) → Works p w s → P s s.scope.names.live) → Upto p w P p.scope.length
  upto_all f = record {
    is = λ s works. subst (P s) (sym (before-all s.scope.names.live p.scope.length (omega (arith, names-many works)))) (f s works);
  }

  module _ {i : ℕ} (u : Upto p w P i) where
    pub all_upto : p.scope.length ≤ i → (s : State) → Works p w s → P s s.scope.names.live
    all_upto h s works = subst (P s) (before-all s.scope.names.live i (omega (arith, names-many works))) (u.is s works)

    module _ {Q : State → List (Live Ident) → Type 0} where
      -- the name in row i is next
      pub upto_next : i < p.scope.length
          → ((s : State) → Works p w s → (e : Live Ident) → before (suc i) s.scope.names.live ≡ e ∷ before i s.scope.names.live
          → P s (before i s.scope.names.live) → Q s (e ∷ before i s.scope.names.live))
          → Upto p w Q (i + 1)
      upto_next h f = record {
        is = λ s works.
            let l = s.scope.names.live in
            let v = next_live l i (omega (arith, names-many works)) in
            subst (Q s) (sym (ap (λ (j : ℕ). before j l) (add-one i) ∙ v.up)) (f s works v.live v.up (u.is s works));
      }

      -- or, from the newest on, the name in the row before row i
      pub upto_back : 0 < i → i ≤ p.scope.length
          → ((s : State) → Works p w s → (e : Live Ident) → before (suc (i - 1)) s.scope.names.live ≡ e ∷ before (i - 1) s.scope.names.live
          → P s (e ∷ before (i - 1) s.scope.names.live) → Q s (before (i - 1) s.scope.names.live))
          → Upto p w Q (i - 1)
      upto_back h g f = record {
        is = λ s works.
            let l = s.scope.names.live in
            let v = next_live l (i - 1) (omega (arith, names-many works)) in
            let z : i ≡ suc (i - 1) = omega arith in
            f s works v.live v.up (subst (P s) (ap (λ (j : ℕ). before j l) z ∙ v.up) (u.is s works));
      }
