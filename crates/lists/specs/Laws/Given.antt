-- What live names give to the list of a lambda that ends.
use Rattle.std.specs.Prelude.{ℕ, suc, ◌+◌, ◌≤◌, List, [], ◌∷◌, Bool, true, false, cond, not, ◌&&◌, ◌≡◌, refl, length, ltb, Option, None, Some, is_some}
use Rattle.std.proofs.Common.{ap, ◌∙◌, arith, add-one}
use Rattle.tree.specs.Tree.{Ident}
use Rattle.tree.specs.Check.{member}
use Rattle.scope_map.specs.ScopeMap.{Live, get}
use Rattle.semantic.specs.Rows.{ListEntry}
use Rattle.pass.specs.State.{State, Scope, binder_in, list_entry_of, entry_at}
use Rattle.pass.specs.Lists.{add_captured, captured_in}
use Rattle.work.specs.Coded.{record_in}
use Rattle.work.specs.Scope.{before}
use Rattle.lists.specs.Index.{entry_in, where_captured, offered, Indexes}
use Rattle.lists.specs.Given.{given, with_given}
use Rattle.lists.specs.Laws.Live.{NextLive}

pub captured_step : (ps : List ℕ) (s : State) (e : Live Ident) (l : List (Live Ident))
    → captured_in ps s (e ∷ l) ≡ with_given s.scope (given ps s.scope e) (captured_in ps s l)
unfolding captured_in
captured_step ps s e l = go (ltb 1 e.layer) (not (member e.name ps)) (binder_in (get s.scope.names e.name))
  where
    picked : (b : Ident) (q : Bool)
        → cond q (list_entry_of b (entry_at s b.at) ∷ captured_in ps s l) (captured_in ps s l) ≡ with_given s.scope (cond q (Some b) None) (captured_in ps s l)
    picked b true = refl
    picked b false = refl

    go : (q r : Bool) (o : Option Ident)
        → add_captured (q && r) s o (captured_in ps s l) ≡ with_given s.scope (cond q (cond r (where_captured s.scope o) None) None) (captured_in ps s l)
    go false r o = refl
    go true false o = refl
    go true true None = refl
    go true true (Some b) = picked b (entry_at s b.at).captured

-- an index that has no name
pub indexes_none : (ps : List ℕ) (c : Scope) → Indexes [] ps c
indexes_none ps c x h = absurd (omega arith)

-- what is given is what the name gives, a newest binder

pub given-offered : (ps : List ℕ) (c : Scope) (e : Live Ident) (b : Ident) → given ps c e ≡ Some b → offered ps c e.name ≡ Some b
given-offered ps c e b = go (ltb 1 e.layer)
  where
    go : (q : Bool) → cond q (offered ps c e.name) None ≡ Some b → offered ps c e.name ≡ Some b
    go false k = absurd (let z : ◌≡◌ {A = ℕ} 0 1 = cc in omega arith)
    go true k = k

pub offered-newest : (ps : List ℕ) (c : Scope) (x : ℕ) (b : Ident) → offered ps c x ≡ Some b → binder_in (get c.names x) ≡ Some b
offered-newest ps c x b = go (not (member x ps)) (binder_in (get c.names x))
  where
    picked : (y : Ident) (q : Bool) → cond q (Some y) None ≡ Some b → Some y ≡ Some b
    picked y true k = k
    picked y false k = absurd (let z : ◌≡◌ {A = ℕ} 0 1 = cc in omega arith)

    go : (r : Bool) (o : Option Ident) → cond r (where_captured c o) None ≡ Some b → o ≡ Some b
    go false o k = absurd (let z : ◌≡◌ {A = ℕ} 0 1 = cc in omega arith)
    go true None k = k
    go true (Some y) k = picked y (entry_in c y.at).captured k

pub given-newest : (ps : List ℕ) (c : Scope) (e : Live Ident) (b : Ident) → given ps c e ≡ Some b → binder_in (get c.names e.name) ≡ Some b
given-newest ps c e b q = offered-newest ps c e.name b (given-offered ps c e b q)

-- One name more

pub with_length : (c : Scope) (o : Option Ident) (l : List ListEntry) → length (with_given c o l) ≡ length l + cond (is_some (record_in o)) 1 0
with_length c None l = omega arith
with_length c (Some b) l = omega arith

-- a live name gives at most one entry, so there are at most as many as live names

pub captured_more : (ps : List ℕ) (s : State) (e : Live Ident) (l : List (Live Ident)) → length (captured_in ps s (e ∷ l)) ≤ suc (length (captured_in ps s l))
captured_more ps s e l =
    let o = given ps s.scope e in
    omega (arith, ap length (captured_step ps s e l), with_length s.scope o (captured_in ps s l), one (is_some (record_in o)))
  where
    one : (q : Bool) → ◌≤◌ (cond q 1 0) 1
    one true = omega arith
    one false = omega arith

pub captured_few : (ps : List ℕ) (s : State) (l : List (Live Ident)) → length (captured_in ps s l) ≤ length l
unfolding captured_in
captured_few ps s [] = omega arith
captured_few ps s (e ∷ l) = omega (arith, captured_few ps s l, captured_more ps s e l)

pub next-given : (ps : List ℕ) (s : State) (i : ℕ) (v : NextLive s.scope.names.live i)
    → captured_in ps s (before (i + 1) s.scope.names.live)
    ≡ with_given s.scope (given ps s.scope v.live) (captured_in ps s (before i s.scope.names.live))
next-given ps s i v =
    let l = s.scope.names.live in
    ap (λ (j : ℕ). captured_in ps s (before j l)) (add-one i) ∙ ap (captured_in ps s) v.up ∙ captured_step ps s v.live (before i l)
