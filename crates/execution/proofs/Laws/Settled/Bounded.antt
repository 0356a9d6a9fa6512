-- Which uses there are by the end of each let and lambda, against all uses U of the script, and against those by each lambda's end, G; and what that tells
-- of the innermost lambda of a place.
use Rattle.std.specs.Prelude.{ℕ, suc, ◌+◌, ◌≤◌, Bool, true, false, cond, not, ◌&&◌, ◌||◌, ◌≡◌, refl, length, eqb, ltb, Option, None, Some}
use Rattle.std.proofs.lemmas.Option.{same_Some}
use mathlib.Core.List.{List, [], ◌∷◌, ◌++◌, reverse_aux}
use Rattle.std.proofs.Math.Bool.{and-false}
use Rattle.std.proofs.Common.{true≢false, ap, sym, subst, ◌∙◌, arith, ltb-true, lt-ltb, eqb-true, eq-eqb, ne_eqb}
use Rattle.std.proofs.lemmas.Bool.{eqb-false}
use Rattle.tree.specs.Tree as tree
use Rattle.tree.specs.Tree.{Ident, Node, Tree, Trees, ident, const, if, letin, define, lambda, sequence, call, set!, nil, cons}
use Rattle.semantic.specs.Rows.{Row, ListEntry}
use Rattle.pass_laws.specs.Laws.Layers.{or-false}
use Rattle.tree.specs.Site.{home_at}
use Rattle.tree.specs.Accepted.{All}
use Rattle.pass_laws.specs.Laws.Finds.{Of, of_some, find-all}
use Rattle.pass_laws.specs.Laws.Says.{uses_in, used_inside, is_set_in}
use Rattle.r7rs.specs.Binding.{Binder, Place, Mention, Use, find, binders, lambda_body, let_body, parameters, let_names, raised, within, walk, walk_arguments}
use Rattle.execution.specs.Acceptance.{has_name}
use Rattle.execution.proofs.Laws.Exact.Captured.{find_past}
use Rattle.execution.proofs.Laws.Settled.Kept.{LambdaKept}
use Rattle.execution.proofs.Laws.Settled.Listed.{times_in}
use Rattle.execution.proofs.Laws.Settled.Again.{Frame, is_twelve_by, Framed, FramedIn}
use Rattle.execution.proofs.Laws.Settled.Rereads.{times-some}
use Rattle.execution.proofs.Laws.Settled.Told.{InnerIn, Noticed}
use Rattle.execution.proofs.Laws.Settled.Refuses.{held_of, held_set, refuses_binder, frame_of}
use Rattle.execution.proofs.Laws.Settled.Rebodies.{Closed}

module _ (U : List Use) (G : ℕ → List Use) where
  -- a mention is among all uses, and an inner one among those by the end of each lambda around it
  pub record Early (m : Mention) : Type 0 where
    pub used : Noticed U m
    pub inner : All (λ k. InnerIn (G k) m) m.place.around

  unfoldable mutual
    pub Bounded : List Use → Place → Tree → Type 0
    Bounded before p (ident x) = Early (record { ident = x; is_set = false; place = p })
    Bounded before p (const n q) = Unit {0}
    Bounded before p (if n a b c) = Bounded before p a × Bounded (before ++ uses_in (walk a p)) p b × Bounded
        ((before ++ uses_in (walk a p)) ++ uses_in (walk b p)) p c
    Bounded before p (letin n xs es b) =
        let used = before ++ uses_in (walk_arguments es p) in
        let q = within (let_names xs p) (let_body (length xs) p) in
        BoundedIn before p es × Bounded used q b × Closed U (used ++ uses_in (walk b q)) xs
    Bounded before p (define n x b) = Bounded before p b
    Bounded before p (lambda n xs b) =
        let q = within (parameters n xs p) (lambda_body n (length xs) p) in
        Bounded before q b × (G n.at ≡ before ++ uses_in (walk b q)) × Closed U (before ++ uses_in (walk b q)) xs
    Bounded before p (sequence n es) = BoundedAll before p es
    Bounded before p (call n h es) = BoundedIn before p es × Bounded (before ++ uses_in (walk_arguments es p)) (raised (tree.many es) p) h
    Bounded before p (set! n x e) = Bounded before p e × Early (record { ident = x; is_set = true; place = p })

    pub BoundedIn : List Use → Place → Trees → Type 0
    BoundedIn before p nil = Unit {0}
    BoundedIn before p (cons t ts) = Bounded before p t × BoundedIn (before ++ uses_in (walk t p)) (raised 1 p) ts

    pub BoundedAll : List Use → Place → Trees → Type 0
    BoundedAll before p nil = Unit {0}
    BoundedAll before p (cons t ts) = Bounded before p t × BoundedAll (before ++ uses_in (walk t p)) p ts

-- The innermost lambda of a place

-- a name bound outside it is not found among the names of its own body
find_outer : (is_let : Bool) (base : ℕ) (q : Place) (j : ℕ) (xs : List Ident) (sc : List Binder) (x : ℕ) (b : Binder)
    → find (reverse_aux (binders is_let base q j xs) sc) x ≡ Some b
    → ltb (length b.around) (length q.around) ≡ true → find sc x ≡ Some b
unfolding binders
find_outer is_let base q j [] sc x b e i = e
find_outer is_let base q j (y ∷ ys) sc x b e i =
    let c : Binder = record { ident = y; is_let = is_let; place = j; around = q.around; home = home_at q.site (base + j) } in
    go c refl (eqb y.name x) (find_outer is_let base q (suc j) ys (c ∷ sc) x b e i)
  where
    go : (c : Binder) → c.around ≡ q.around → (z : Bool) → cond z (Some c) (find sc x) ≡ Some b → find sc x ≡ Some b
    go c a true g =
        absurd (omega (
          arith,
          ltb-true (length b.around) (length q.around) i,
          ap (λ (d : Binder). length d.around) (same_Some c b g),
          ap
              length a,
        ))
    go c a false g = g

-- nor has it a parameter's name
named-own : (is_let : Bool) (base : ℕ) (q : Place) (j : ℕ) (xs : List Ident) (sc : List Binder) (x : ℕ) (b : Binder)
    → find (reverse_aux (binders is_let base q j xs) sc) x ≡ Some b
    → ltb (length b.around) (length q.around) ≡ true → has_name x xs ≡ false
unfolding binders
named-own is_let base q j [] sc x b e i = refl
named-own is_let base q j (y ∷ ys) sc x b e i =
    let c : Binder = record { ident = y; is_let = is_let; place = j; around = q.around; home = home_at q.site (base + j) } in
    let rest = named-own is_let base q (suc j) ys (c ∷ sc) x b e i in
    rw rest (go c refl (eqb x y.name) refl (sym (find_past is_let base q (suc j) ys (c ∷ sc) x rest) ∙ e))
  where
    go : (c : Binder) → c.around ≡ q.around → (z : Bool) → eqb x y.name ≡ z → cond (eqb y.name x) (Some c) (find sc x) ≡ Some b → z || false ≡ false
    go c a true z g =
        let hit : cond (eqb y.name x) (Some c) (find sc x) ≡ Some c = rw (eq-eqb y.name x (sym (eqb-true x y.name z))) in
        absurd (omega (
          arith,
          ltb-true (length b.around) (length q.around) i,
          ap (λ (d : Binder). length d.around)
              (same_Some c b (sym hit ∙ g)),
          ap length a,
        ))
    go c a false z g = refl

-- How often a name is in scope

times_more : (is_let : Bool) (base : ℕ) (q : Place) (j : ℕ) (xs : List Ident) (sc : List Binder) (x : ℕ)
    → times_in x sc ≤ times_in x (reverse_aux (binders is_let base q j xs) sc)
unfolding binders times_in
times_more is_let base q j [] sc x = omega arith
times_more is_let base q j (y ∷ ys) sc x =
    let c : Binder = record { ident = y; is_let = is_let; place = j; around = q.around; home = home_at q.site (base + j) } in
    let rest = times_more is_let base q (suc j) ys (c ∷ sc) x in
    go (eqb y.name x) rest
  where
    go : {n : ℕ} (b : Bool) → cond b (suc (times_in x sc)) (times_in x sc) ≤ n → times_in x sc ≤ n
    go true h = omega arith
    go false h = h

times-named : (is_let : Bool) (base : ℕ) (q : Place) (j : ℕ) (xs : List Ident) (sc : List Binder) (x : ℕ) → has_name x xs ≡ true
    → suc (times_in x sc) ≤ times_in x (reverse_aux (binders is_let base q j xs) sc)
unfolding binders times_in
times-named is_let base q j [] sc x h = absurd (true≢false (sym h))
times-named is_let base q j (y ∷ ys) sc x h =
    let c : Binder = record { ident = y; is_let = is_let; place = j; around = q.around; home = home_at q.site (base + j) } in
    go (eqb x y.name) refl h (times_more is_let base q (suc j) ys (c ∷ sc) x) (λ k. times-named is_let base q (suc j) ys (c ∷ sc) x k)
  where
    step : {n : ℕ} (b : Bool) → suc (cond b (suc (times_in x sc)) (times_in x sc)) ≤ n → suc (times_in x sc) ≤ n
    step true h = omega arith
    step false h = h

    go : {n : ℕ} (b : Bool) → eqb x y.name ≡ b → b || has_name x ys ≡ true → cond (eqb y.name x) (suc (times_in x sc)) (times_in x sc) ≤ n
        → (has_name x ys ≡ true → suc (cond (eqb y.name x) (suc (times_in x sc)) (times_in x sc)) ≤ n) → suc (times_in x sc) ≤ n
    go {n} true z k m r = subst (λ (q : Bool). cond q (suc (times_in x sc)) (times_in x sc) ≤ n) (eq-eqb y.name x (sym (eqb-true x y.name z))) m
    go false z k m r = step (eqb y.name x) (r k)

times_outer : (is_let : Bool) (base : ℕ) (q : Place) (j : ℕ) (xs : List Ident) (sc : List Binder) (x : ℕ) → has_name x xs ≡ false
    → times_in x (reverse_aux (binders is_let base q j xs) sc) ≡ times_in x sc
unfolding binders times_in
times_outer is_let base q j [] sc x h = refl
times_outer is_let base q j (y ∷ ys) sc x h =
    let both = or-false (eqb x y.name) (has_name x ys) h in
    times_outer is_let base q (suc j) ys _ x both.1 ∙ rw (ne_eqb y.name x (λ e. eqb-false x y.name both.0 (sym e)))

twelve_times : (G : ℕ → List Use) (sc sd : List Binder) (x : ℕ) (b : Binder) (a : List ℕ) → times_in x sc ≡ times_in x sd
    → is_twelve_by G sc x b a ≡ is_twelve_by G sd x b a
twelve_times G sc sd x b [] e = refl
twelve_times G sc sd x b (i ∷ []) e = refl
twelve_times G sc sd x b (i ∷ j ∷ is) e =
    ap (λ (n : ℕ). ltb (length b.around) (suc (length is)) && (eqb n 1 && (not (is_set_in b.ident.at (G i)) && is_set_in b.ident.at (G j)))) e

module _ (C : List ListEntry) (G : ℕ → List Use) where
  -- the same at another height
  pub framed_raised : (fr : Option Frame) (k : ℕ) (p : Place) → FramedIn C G fr p → FramedIn C G fr (raised k p)
  framed_raised None k p w = w
  framed_raised (Some f) k p w =
      record {
        rest = w.rest;
        around = w.around;
        outer = w.outer;
        most = w.most;
        doubled = w.doubled;
        refuses = w.refuses;
        ends = w.ends;
        list = w.list;
      }

  -- a name in scope is found among the new names, or further out
  doubled_by : (is_let : Bool) (base : ℕ) (q : Place) (xs : List Ident) (sc : List Binder) (x : ℕ) → 1 ≤ times_in x sc
      → (has_name x xs ≡ false → 2 ≤ times_in x sc) → 2 ≤ times_in x (reverse_aux (binders is_let base q 0 xs) sc)
  doubled_by is_let base q xs sc x h k = go (has_name x xs) refl
    where
      go : (b : Bool) → has_name x xs ≡ b → 2 ≤ times_in x (reverse_aux (binders is_let base q 0 xs) sc)
      go true e = omega (arith, times-named is_let base q 0 xs sc x e)
      go false e = omega (arith, times_more is_let base q 0 xs sc x, k e)

  -- in the body of a let
  pub framed_let : (fr : Option Frame) (xs : List Ident) (p : Place) → FramedIn C G fr p → FramedIn C G fr (within (let_names xs p) (let_body (length xs) p))
  framed_let None xs p w = w
  framed_let (Some f) xs p w =
      let q = let_body (length xs) p in
      record {
        rest = w.rest;
        around = w.around;
        outer = λ x b e i. w.outer x b (find_outer true p.site.height q 0 xs p.scope x b e i) i;
        most = λ x. omega (arith, w.most x, times_more true p.site.height q 0 xs p.scope x);
        doubled = λ x b c e i g. doubled_by true p.site.height q xs p.scope x (omega (arith, w.most x, times-some x f.sc g))
            (λ h. w.doubled x b c (sym (find_past true p.site.height q 0 xs p.scope x h) ∙ e) i g);
        refuses = λ x b e i u.
            w.refuses x b (find_outer true p.site.height q 0 xs p.scope x b e i) i u
            ∙ twelve_times G p.scope _ x b p.around (sym (times_outer true p.site.height q 0 xs p.scope x
            (named-own true p.site.height q 0 xs p.scope x b e i)));
        ends = w.ends;
        list = w.list;
      }

-- Which reads the list of a lambda refuses

swap_tests : (t n h : Bool) → (n && (t && h)) ≡ (t && (n && h))
swap_tests true n h = refl
swap_tests false n h = and-false n

module _ (C : List ListEntry) (G : ℕ → List Use) (p : Place) (after : List Use) (k : ℕ) (ends : G k ≡ after) (x : ℕ) (b : Binder)
    (found : find p.scope x ≡ Some b)
    (u : All (λ k. used_inside b.ident.at (G k) ≡ true) p.around) where
  refused_in : (fr : Option Frame) → FramedIn C G fr p → refuses_binder fr p.scope after x (Some b) ≡ is_twelve_by G p.scope x b (k ∷ p.around)
  refused_in None w = rw (w, and-false (eqb (times_in x p.scope) 1), and-false (not (is_set_in b.ident.at after)))
  refused_in (Some f) w = rw (w.around, ends) (go (ltb (length b.around) (suc (length w.rest))) refl)
    where
      deep : length p.around ≡ suc (length w.rest)
      deep = ap length w.around

      T : Bool
      T = eqb (times_in x p.scope) 1

      N : Bool
      N = not (is_set_in b.ident.at after)

      go : (i : Bool) → ltb (length b.around) (suc (length w.rest)) ≡ i
          → (N && (T && held_set (Some f) x)) ≡ (i && (T && (N && is_set_in b.ident.at (G f.at))))
      go true i =
          let o = w.outer x b found (ap (ltb (length b.around)) deep ∙ i) in
          let used : used_inside b.ident.at f.after ≡ true = ap (used_inside b.ident.at) (sym w.ends) ∙ (subst
          (All (λ k. used_inside b.ident.at (G k) ≡ true)) w.around u).0 in
          swap_tests T N (held_set (Some f) x) ∙ ap (λ (h : Bool). T && (N && h)) (rw (o.1, o.0, used) (ap (is_set_in b.ident.at) (sym w.ends)))
      go false i = ap (λ (h : Bool). N && h) (one T refl) ∙ and-false N
        where
          held : (g : Option Binder) → find f.sc x ≡ g → times_in x p.scope ≡ 1 → held_of f g ≡ false
          held None e t = refl
          held (Some c) e t = absurd (omega (arith, w.doubled x b c found (ap (ltb (length b.around)) deep ∙ i) e))

          bare : (h : Bool) → times_in x p.scope ≡ 1 → cond h false (held_of f (find f.sc x)) ≡ false
          bare true t = refl
          bare false t = held (find f.sc x) refl t

          one : (t : Bool) → T ≡ t → (t && held_set (Some f) x) ≡ false
          one true e = bare (has_name x f.xs) (eqb-true (times_in x p.scope) 1 e)
          one false e = refl

-- in the body of a lambda
pub framed_lambda : {T : List Row} {A : List ListEntry} (C : List ListEntry) (G : ℕ
    → List Use) (fr : Option Frame) (n : Node) (xs : List Ident) (p : Place) (lo hi : ℕ) (after : List Use) → G n.at ≡ after
    → LambdaKept T C A lo hi after n xs p.scope → FramedIn C G fr p → All (λ c. length c.around ≤ length p.around) p.scope
    → Framed C G (frame_of fr n lo hi xs p.scope after) (within (parameters n xs p) (lambda_body n (length xs) p))
framed_lambda C G fr n xs p lo hi after e k w most =
    let q = lambda_body n (length xs) p in
    record {
      rest = p.around;
      around = refl;
      outer = λ x b g i. (find_outer false 0 q 0 xs p.scope x b g i, named-own false 0 q 0 xs p.scope x b g i);
      most = λ x. times_more false 0 q 0 xs p.scope x;
      doubled = λ x b c g i h. doubled_by C G false 0 q xs p.scope x (times-some x p.scope h)
          (λ z. absurd (further x b i (sym (find_past false 0 q 0 xs p.scope x z) ∙ g) (find-all p.scope most x)));
      refuses = λ x b g i u.
          let o = find_outer false 0 q 0 xs p.scope x b g i in
          ap (refuses_binder fr p.scope after x) o ∙ refused_in C G p after n.at e x b o u.1 fr w
          ∙ twelve_times G p.scope _ x b (n.at ∷ p.around) (sym (times_outer false 0 q 0 xs p.scope x (named-own false 0 q 0 xs p.scope x b g i)));
      ends = e;
      list = record { long = k.info.captured_vars.length; to = k.to; taken = k.taken; times = k.times };
    }
  where
    further : (x : ℕ) (b : Binder) → ltb (length b.around) (suc (length p.around)) ≡ false → find p.scope x ≡ Some b
        → Of (λ c. length c.around ≤ length p.around) (find p.scope x) → ⊥
    further x b i e o = go (subst (Of (λ c. length c.around ≤ length p.around)) e o)
      where
        go : Of (λ c. length c.around ≤ length p.around) (Some b) → ⊥
        go (of_some h) = true≢false (sym (lt-ltb (length b.around) (suc (length p.around)) (omega arith)) ∙ i)
