-- A row of names is walked: what is left of it makes of the state held what the whole row makes of the first.
use Prim.Native.Nat.{ℕ, ◌+◌, ◌-◌, ◌<◌}
use mathlib.Core.List.{List, [], ◌∷◌}
use mathlib.Core.Path.{◌≡◌, refl, sym, subst, ◌∙◌}
use native.Mathlib.Omega.{arith}
use lib.ListN.{length}
use Rattle.tree.specs.Tree.{Ident, NumNames}
use Rattle.tree.specs.Stands.{NamesStand}
use Rattle.tree.proofs.Laws.Stands.{first_name, later-names}
use Rattle.pass.specs.State.{State}
use Rattle.work.specs.Tied.{Raw, Tied, Here, Fits}
use Rattle.walk.specs.declared.uses.Names.{Names}
use Rattle.lists.specs.Contract.{Told}
use Rattle.work.specs.Laws.Known.{known_ident}

name_place : {N : ℕ} {rs : List ℕ} {i : ℕ} {x : Ident} {xs : List Ident} → NamesStand N rs i (x ∷ xs) → x.at ≡ i
unfolding NumNames
name_place a = a.num.0

module _ (rs : List ℕ) where
  -- k names, the first at the record `at`; `each` is what is still to be done with them
  pub record Left (at k : ℕ) (z : Raw) (each : List Ident → State → State) (out : State) : Type 0 where
    pub N : ℕ
    pub rest : List Ident
    pub s : State
    pub stand : NamesStand N rs at rest
    pub count : length rest ≡ k
    pub fits : Fits rs z s
    pub same : each rest s ≡ out

  pub record Head (at k : ℕ) (z : Raw) (each : List Ident → State → State) (s out : State) : Type 0 where
    pub x : Ident
    pub here : Here rs at z s x
    pub next : (z' : Raw) (step : Ident → State → State) (then : List Ident → State → State)
        → ((xs : List Ident) → each (x ∷ xs) s ≡ then xs (step x s)) → Fits rs z' (step x s) → Left (at + 1) (k - 1) z' then out

  pub left-all : (n : Names) (xs : List Ident) (z : Raw) (each : List Ident → State → State) (s : State) → Told rs n xs → Fits rs z s
      → Left n.first n.count z each (each xs s)
  left-all n xs z each s t f = record { N = t.many; rest = xs; s = s; stand = t.stand; count = t.count; fits = f; same = refl }

  -- the numbers of a row's place, moved
  pub moved : {at at' k k' : ℕ} {z : Raw} {each : List Ident → State → State} {out : State} → at ≡ at' → k ≡ k' → Left at k z each out → Left at' k' z each out
  moved ea ek l = rw (← ea, ← ek) l

  module _ {at k : ℕ} {z : Raw} {each : List Ident → State → State} {out : State} (l : Left at k z each out) where
    pub left_done : k ≡ 0 → ((s : State) → each [] s ≡ s) → Tied z out
    left_done e none = go l.rest l.count l.same
      where
        go : (xs : List Ident) → length xs ≡ k → each xs l.s ≡ out → Tied z out
        go [] c q = subst (λ (t : State). Tied z t) (sym (none l.s) ∙ q) l.fits.tied
        go (x ∷ xs) c q = absurd (omega arith)

    pub left-head : 0 < k → Head at k z each l.s out
    left-head h = go l.rest l.count l.stand l.same
      where
        go : (xs : List Ident) → length xs ≡ k → NamesStand l.N rs at xs → each xs l.s ≡ out → Head at k z each l.s out
        go [] c a q = absurd (omega arith)
        go (x ∷ xs) c a q = record {
          x = x;
          here = record { known = known_ident (first_name a); place = name_place a; good = l.fits.good; tied = l.fits.tied };
          next = λ z' step then e f. record {
            N = l.N;
            rest = xs;
            s = step x l.s;
            stand = later-names a;
            count = omega arith;
            fits = f;
            same = sym (e xs) ∙ q;
          };
        }
