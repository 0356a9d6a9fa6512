-- The newest binder of a name is one of the live names'.
use Rattle.std.specs.Prelude.{ℕ, List, [], ◌∷◌, Bool, true, false, cond, ◌≡◌, refl, eqb, Option, Some}
use Rattle.std.proofs.Common.{arith}
use Rattle.tree.specs.Tree.{Ident}
use Rattle.tree.specs.Accepted.{All}
use Rattle.scope_map.specs.ScopeMap.{Live, get_in}
use Rattle.pass.specs.State.{State, binder_in, newest}
use Rattle.work.specs.Known.{Known}
use Rattle.work.specs.Coded.{record_in}
use Rattle.work.specs.Scope.{BindersKnown}

-- the identifier o is known, at the record i
pub record KnownAt (rs : List ℕ) (o : Option Ident) (i : ℕ) : Type 0 where
  pub x : Ident
  pub is : o ≡ Some x
  pub at : x.at ≡ i
  pub known : Known rs x

known_in : (rs : List ℕ) (l : List (Live Ident)) → All (λ e. Known rs e.value) l → (x i : ℕ)
    → Some i ≡ record_in (binder_in (get_in l x)) → KnownAt rs (binder_in (get_in l x)) i
unfolding get_in
known_in rs [] a x i q = absurd (let z : ◌≡◌ {A = ℕ} 0 1 = cc in omega arith)
known_in rs (e ∷ l) a x i q = pick (eqb e.name x) q (known_in rs l a.1 x i)
  where
    pick : (b : Bool) → Some i ≡ record_in (binder_in (cond b (Some e) (get_in l x)))
        → (Some i ≡ record_in (binder_in (get_in l x)) → KnownAt rs (binder_in (get_in l x)) i) → KnownAt rs (binder_in (cond b (Some e) (get_in l x))) i
    pick true q r = record { x = e.value; is = refl; at = cc; known = a.0 }
    pick false q r = r q

pub newest-known : (rs : List ℕ) (s : State) (x i : ℕ) → BindersKnown rs s → Some i ≡ record_in (newest s x) → KnownAt rs (newest s x) i
newest-known rs s x i a q = known_in rs s.scope.names.live a x i q
