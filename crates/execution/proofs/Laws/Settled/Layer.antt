-- The newest layer of the captures: its names stand before the older ones, and a name is found there first.
use Rattle.std.specs.Prelude.{ℕ, suc, ◌-◌, ◌≤◌, ◌<◌, List, [], ◌∷◌, ◌++◌, Bool, true, false, cond, ◌&&◌, ◌||◌, ◌≡◌, refl, eqb, Option, None, Some}
use Rattle.std.proofs.lemmas.Option.{same_Some, none-some}
use Rattle.std.proofs.Math.Bool.{and-false}
use Rattle.std.proofs.Common.{true≢false, ap, sym, ◌∙◌, arith, eqb-true, eq-eqb, ne_eqb, lt-ltb}
use Rattle.tree.specs.Accepted.{All}
use Rattle.scope_map.specs.ScopeMap.{ScopeMap, Live, is_at, has_in, replace_in, below_layer, get_in, define, pop_layer, has_at_top}
use Rattle.pass.specs.State.{Capture}
use Rattle.pass.specs.Read.{used_capture, use_in}

abbrev pub Lives : Type 0
Lives = List (Live Capture)

abbrev pub InLayer : ℕ → Lives → Type 0
InLayer d l = All (λ (e : Live Capture). e.layer ≡ d) l

abbrev pub Below : ℕ → Lives → Type 0
Below d l = All (λ (e : Live Capture). e.layer < d) l

-- one list before another

abbrev pub or_else : Option (Live Capture) → Option (Live Capture) → Option (Live Capture)
or_else None o = o
or_else (Some e) o = Some e

pub get-append : (l old : Lives) (x : ℕ) → get_in (l ++ old) x ≡ or_else (get_in l x) (get_in old x)
unfolding get_in
get-append [] old x = refl
get-append (e ∷ l) old x = go (eqb e.name x) (get-append l old x)
  where
    go : (b : Bool) → get_in (l ++ old) x ≡ or_else (get_in l x) (get_in old x)
        → cond b (Some e) (get_in (l ++ old) x) ≡ or_else (cond b (Some e) (get_in l x)) (get_in old x)
    go true q = refl
    go false q = q

pub below-append : (d : ℕ) (l old : Lives) → InLayer d l → Below d old → below_layer d (l ++ old) ≡ old
unfolding below_layer
below-append d [] [] a b = refl
below-append d [] (e ∷ old) a b = rw (ne_eqb e.layer d (λ z. omega (arith, b.0)))
below-append d (e ∷ l) old a b = rw (eq-eqb e.layer d a.0) (below-append d l old a.1 b)

has-append : (d x : ℕ) (l old : Lives) → Below d old → has_in d x (l ++ old) ≡ has_in d x l
unfolding has_in
has-append d x [] [] b = refl
has-append d x [] (e ∷ old) b = rw (ne_eqb e.layer d (λ z. omega (arith, b.0))) (has-append d x [] old b.1)
has-append d x (e ∷ l) old b = ap (λ (q : Bool). is_at d x e || q) (has-append d x l old b)

replace_append : (d x : ℕ) (v : Capture) (l old : Lives) → has_in d x l ≡ true → replace_in d x v (l ++ old) ≡ replace_in d x v l ++ old
unfolding has_in replace_in
replace_append d x v [] old h = absurd (true≢false (sym h))
replace_append d x v (e ∷ l) old h = go (is_at d x e) (λ q. replace_append d x v l old q) h
  where
    go : (b : Bool) → (has_in d x l ≡ true → replace_in d x v (l ++ old) ≡ replace_in d x v l ++ old) → b || has_in d x l ≡ true
        → cond b (record { name = x; layer = d; value = v } ∷ (l ++ old)) (e ∷ replace_in d x v (l ++ old)) ≡ cond b
        (record { name = x; layer = d; value = v } ∷ l) (e ∷ replace_in d x v l) ++ old
    go true k q = refl
    go false k q = ap (λ (r : Lives). e ∷ r) (k q)

-- A capture is put into the layer d, in front of the older ones

abbrev capture : ℕ → ℕ → Capture → Live Capture
capture d x v = record { name = x; layer = d; value = v }

pub record Puts (d x : ℕ) (v : Capture) (l old : Lives) (m : Lives) : Type 0 where
  pub top : Lives
  pub is : m ≡ top ++ old
  pub layer : InLayer d top
  pub here : get_in top x ≡ Some (capture d x v)
  pub others : (y : ℕ) → ¬ (y ≡ x) → get_in top y ≡ get_in l y

replaced_layer : (d x : ℕ) (v : Capture) (l : Lives) → InLayer d l → InLayer d (replace_in d x v l)
unfolding replace_in
replaced_layer d x v [] a = tt
replaced_layer d x v (e ∷ l) a = go (is_at d x e) (replaced_layer d x v l a.1)
  where
    go : (b : Bool) → InLayer d (replace_in d x v l) → InLayer d (cond b (capture d x v ∷ l) (e ∷ replace_in d x v l))
    go true r = (refl, a.1)
    go false r = (a.0, r)

replaced_here : (d x : ℕ) (v : Capture) (l : Lives) → InLayer d l → has_in d x l ≡ true → get_in (replace_in d x v l) x ≡ Some (capture d x v)
unfolding replace_in has_in get_in
replaced_here d x v [] a h = absurd (true≢false (sym h))
replaced_here d x v (e ∷ l) a h =
    go (eqb e.name x) refl (λ q. replaced_here d x v l a.1 q) (rw (eq-eqb e.layer d a.0) at h)
  where
    go : (b : Bool) → eqb e.name x ≡ b → (has_in d x l ≡ true → get_in (replace_in d x v l) x ≡ Some (capture d x v)) → b || has_in d x l ≡ true
        → get_in (cond (is_at d x e) (capture d x v ∷ l) (e ∷ replace_in d x v l)) x ≡ Some (capture d x v)
    go true q k z = rw (eq-eqb e.layer d a.0, q, eq-eqb x x refl)
    go false q k z = rw (q, and-false (eqb e.layer d), q) (k z)

replaced-others : (d x : ℕ) (v : Capture) (l : Lives) (y : ℕ) → ¬ (y ≡ x) → get_in (replace_in d x v l) y ≡ get_in l y
unfolding replace_in get_in
replaced-others d x v [] y n = refl
replaced-others d x v (e ∷ l) y n = go (eqb e.layer d) (eqb e.name x) refl (replaced-others d x v l y n)
  where
    go : (p q : Bool) → eqb e.name x ≡ q → get_in (replace_in d x v l) y ≡ get_in l y
        → get_in (cond (p && q) (capture d x v ∷ l) (e ∷ replace_in d x v l)) y ≡ cond (eqb e.name y) (Some e) (get_in l y)
    go true true z k = rw (ne_eqb x y (λ h. n (sym h)), ne_eqb e.name y (λ h. n (sym h ∙ eqb-true e.name x z)))
    go true false z k = ap (λ (o : Option (Live Capture)). cond (eqb e.name y) (Some e) o) k
    go false q z k = ap (λ (o : Option (Live Capture)). cond (eqb e.name y) (Some e) o) k

pub puts : (d x : ℕ) (v : Capture) (l old : Lives) (m : ScopeMap Capture) → m.depth ≡ d → m.live ≡ l ++ old → InLayer d l → Below d old
    → Puts d x v l old (define x v m).live
unfolding get_in
puts d x v l old m e g a b = go (has_in d x l) refl
  where
    same : has_at_top m x ≡ has_in d x l
    same = ap (λ (k : ℕ). has_in k x m.live) e ∙ ap (has_in d x) g ∙ has-append d x l old b

    live : (define x v m).live ≡ cond (has_in d x l) (replace_in d x v (l ++ old)) (capture d x v ∷ (l ++ old))
    live = λ i. cond (same i) (replace_in (e i) x v (g i)) (capture (e i) x v ∷ g i)

    go : (h : Bool) → has_in d x l ≡ h → Puts d x v l old (define x v m).live
    go true h =
        record {
          top = replace_in d x v l;
          is = live ∙ rw h (replace_append d x v l old h);
          layer = replaced_layer d x v l a;
          here = replaced_here d x v l a h;
          others = replaced-others d x v l;
        }
    go false h =
        record {
          top = capture d x v ∷ l;
          is = live ∙ rw h;
          layer = (refl, a);
          here = rw (eq-eqb x x refl);
          others = λ y n. rw (ne_eqb x y (λ z. n (sym z)));
        }

-- The newest capture of a name is used once more

abbrev pub used_live : Live Capture → Live Capture
used_live c = record { name = c.name; layer = c.layer; value = used_capture c.value }

pub record Uses (d x : ℕ) (c : Live Capture) (l old : Lives) (m : Lives) : Type 0 where
  pub top : Lives
  pub is : m ≡ top ++ old
  pub layer : InLayer d top
  pub here : get_in top x ≡ Some (used_live c)
  pub others : (y : ℕ) → ¬ (y ≡ x) → get_in top y ≡ get_in l y

pub uses : (d x : ℕ) (c : Live Capture) (l old : Lives) → InLayer d l → get_in l x ≡ Some c → Uses d x c l old (use_in x (l ++ old))
unfolding use_in get_in
uses d x c [] old a g = absurd (none-some c g)
uses d x c (e ∷ l) old a g = go (eqb e.name x) refl (λ q. uses d x c l old a.1 q) g
  where
    go : (b : Bool) → eqb e.name x ≡ b → (get_in l x ≡ Some c → Uses d x c l old (use_in x (l ++ old))) → cond b (Some e) (get_in l x) ≡ Some c
        → Uses d x c (e ∷ l) old (cond b (used_live e ∷ (l ++ old)) (e ∷ use_in x (l ++ old)))
    go true q k z =
        let same = same_Some e c z in
        record {
          top = used_live e ∷ l;
          is = refl;
          layer = a;
          here = rw q (ap (λ (n : Live Capture). Some (used_live n)) same);
          others = λ y n. let other = ne_eqb e.name y (λ h. n (sym h ∙ eqb-true e.name x q)) in rw (other);
        }
    go false q k z =
        let u = k z in
        record {
          top = e ∷ u.top;
          is = ap (λ (r : Lives). e ∷ r) u.is;
          layer = (a.0, u.layer);
          here = rw q u.here;
          others = λ y n. ap (λ (o : Option (Live Capture)). cond (eqb e.name y) (Some e) o) (u.others y n);
        }

-- The layer is popped
pub pops : (d : ℕ) (l old : Lives) (m : ScopeMap Capture) → 1 ≤ d → m.depth ≡ suc d → m.live ≡ l ++ old → InLayer (suc d) l → Below (suc d) old
    → pop_layer m ≡ record { depth = d; live = old }
pops d l old m h e g a b =
    let below = (λ i. below_layer (e i) (g i)) ∙ below-append (suc d) l old a b in
    let deep : m.depth - 1 ≡ d = omega arith in
    rw (lt-ltb 1 m.depth (omega arith), deep, below)
