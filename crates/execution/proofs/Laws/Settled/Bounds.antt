-- The uses by the end of each let and lambda of a script, and the events of each lambda.
use Rattle.std.specs.Prelude.{ℕ, suc, ◌+◌, ◌≤◌, ◌<◌, Bool, true, false, ◌||◌, ◌≡◌, refl, length, eqb, Option, Some}
use mathlib.Core.List.{List, [], ◌∷◌, ◌++◌, append_assoc, reverse_aux}
use Rattle.std.proofs.Math.Bool.{or-false, or-true}
use Rattle.std.proofs.Math.Path.{ap, sym}
use Rattle.std.proofs.Common.{◌∙◌, arith, eq-eqb, ne_eqb}
use Rattle.tree.specs.Tree.{Ident, Node, Tree, Trees, ident, const, if, letin, define, lambda, sequence, call, set!, nil, cons, many, size, sizes, NumNames, Num, Nums}
use Rattle.tree.specs.Check.{member}
use Rattle.tree.specs.Accepted.{All}
use Rattle.r7rs.specs.Binding.{Binder, Place, Mention, Event, enters, mentions, ends, meant, is_inner, Use, lambda_body, let_body, binders, parameters, let_names, raised, within, entering, walk, walk_arguments, walk_all}
use Rattle.pass_laws.specs.Laws.All.{all-++, all_of}
use Rattle.pass_laws.specs.Laws.Keeps.{Off}
use Rattle.pass_laws.specs.Laws.Reads.{read_at}
use Rattle.pass_laws.specs.Laws.Sets.{set_at}
use Rattle.pass_laws.specs.Laws.Finds.{all_map, Of, of_none, of_some, find-all}
use Rattle.pass_laws.specs.Laws.Says.{uses_in, uses_in_lem, uses-entering, any_use, any_append, used_inside, is_set_in}
use Rattle.execution.proofs.Laws.Settled.Rebodies.{Closed}
use Rattle.execution.proofs.Laws.Settled.Bounded.{Early, Bounded, BoundedIn, BoundedAll}
use Rattle.execution.proofs.Laws.Settled.Walked.{walked_entering, walked, walked_in, walked_all}
use Rattle.execution.proofs.Laws.Settled.Zones.{until_end, AnyRecord, Lacks, Has, Zone, zone_until, Apart, apart_narrow, Stands, stands_left, stands_right, stands_uses, inside_apart, set_apart}

-- A place stands outside the records from i up to j
pub record Outside (i j : ℕ) (p : Place) : Type 0 where
  pub scope : All (λ b. Off i j b.ident.at) p.scope
  pub around : (k : ℕ) → i ≤ k → k < j → member k p.around ≡ false

outside_narrow : {i j : ℕ} (a b : ℕ) (p : Place) → i ≤ a → b ≤ j → Outside i j p → Outside a b p
outside_narrow a b p h g o =
    record {
      scope = all_map (λ c f (x : a ≤ c.ident.at) (y : c.ident.at < b). f (omega arith) (omega arith)) p.scope o.scope;
      around = λ k x y. o.around k (omega arith) (omega arith);
    }

-- what is walked elsewhere is apart

grow_off : (a b i j : ℕ) → ((y : ℕ) → i ≤ y → y < j → Off a b y) → (k : ℕ) → i ≤ k → k < j → (l : List ℕ) → ((k : ℕ) → a ≤ k → k < b → member k l ≡ false)
    → (x : ℕ) → a ≤ x → x < b → member x (k ∷ l) ≡ false
grow_off a b i j d k h g l q x u v = rw (ne_eqb x k (λ e. d k h g (omega arith) (omega arith))) (q x u v)

module _ (a b : ℕ) (p : Place) (o : Outside a b p) where
  elsewhere : (i : ℕ) (t : Tree) → Num i t → ((y : ℕ) → i ≤ y → y < i + size t → Off a b y) → All (Apart a b) (walk t p)
  elsewhere i t n d = walked _ _ _ i (i + size t) d d (grow_off a b i (i + size t) d) i t n (omega arith) (omega arith) p o.scope o.around

  elsewhere_in : (i : ℕ) (ts : Trees) → Nums i ts → ((y : ℕ) → i ≤ y → y < i + sizes ts → Off a b y) → All (Apart a b) (walk_arguments ts p)
  elsewhere_in i ts n d = walked_in _ _ _ i (i + sizes ts) d d (grow_off a b i (i + sizes ts) d) i ts n (omega arith) (omega arith) p o.scope o.around

  elsewhere_all : (i : ℕ) (ts : Trees) → Nums i ts → ((y : ℕ) → i ≤ y → y < i + sizes ts → Off a b y) → All (Apart a b) (walk_all ts p)
  elsewhere_all i ts n d = walked_all _ _ _ i (i + sizes ts) d d (grow_off a b i (i + sizes ts) d) i ts n (omega arith) (omega arith) p o.scope o.around

-- names in scope further in
names_off : (a b : ℕ) (is_let : Bool) (base : ℕ) (q : Place) (j k : ℕ) (xs : List Ident) → NumNames k xs → ((y : ℕ) → k ≤ y → y < k + length xs → Off a b y)
    → (sc : List Binder)
    → All (λ c. Off a b c.ident.at) sc → All (λ c. Off a b c.ident.at) (reverse_aux (binders is_let base q j xs) sc)
unfolding NumNames binders
names_off a b is_let base q j k [] n d sc s = s
names_off a b is_let base q j k (x ∷ xs) n d sc s =
    names_off a b is_let base q (suc j) (k + 1) xs n.1 (λ y l u. d y (omega arith) (omega arith)) _ (d x.at (omega arith) (omega arith), s)

any_middle : (p : Use → Bool) (l m r : List Use) → any_use p m ≡ true → any_use p (l ++ (m ++ r)) ≡ true
any_middle p l m r e =
    any_append p l (m ++ r) ∙ ap (λ (q : Bool). any_use p l || q) (any_append p m r ∙ ap (λ (q : Bool). q || any_use p r) e) ∙ or-true (any_use p l)

-- The uses of a mention
module _ (m : Mention) (b : Binder) (e : meant m ≡ Some b) where
  inner_here : is_inner m b ≡ true → used_inside b.ident.at (uses_in (mentions m ∷ [])) ≡ true
  inner_here i = rw (e, i, eq-eqb b.ident.at b.ident.at refl)

  set_here : m.is_set ≡ true → is_set_in b.ident.at (uses_in (mentions m ∷ [])) ≡ true
  set_here i = rw (e, i, eq-eqb b.ident.at b.ident.at refl)

module _ (E : List Event) where
  abbrev pub all_uses : List Use
  all_uses = uses_in E

  abbrev pub by_end : ℕ → List Use
  by_end k = uses_in (until_end k E)

  -- the mentions of a walk stand in lambdas of the script
  abbrev pub Zoned : Event → Type 0
  Zoned (enters b sc) = Unit {0}
  Zoned (mentions m) = All (Zone E) m.place.around
  Zoned (ends i xs sc) = Unit {0}

  zoned_entering : (bs sc : List Binder) → All Zoned (entering bs sc)
  unfolding entering
  zoned_entering [] sc = tt
  zoned_entering (b ∷ bs) sc = (tt, zoned_entering bs (b ∷ sc))

  -- the events l are among those by the end of each lambda

  abbrev pub Among : List Event → ℕ → Type 0
  Among l k = (c : ℕ) → used_inside c (uses_in l) ≡ true → used_inside c (by_end k) ≡ true

  abbrev pub Inner : List ℕ → List Event → Type 0
  Inner a l = All (Among l) a

  inner-left : (a : List ℕ) (l r : List Event) → Inner a (l ++ r) → Inner a l
  inner-left a l r i =
      all_map (λ k h c e. h c (ap (used_inside c) (uses_in_lem l r) ∙ any_append _ (uses_in l) (uses_in r) ∙ ap (λ (q : Bool). q || used_inside c (uses_in r)) e)) a i

  inner_right : (a : List ℕ) (l r : List Event) → Inner a (l ++ r) → Inner a r
  inner_right a l r i =
      all_map (λ k h c e. h c (ap (used_inside c) (uses_in_lem l r) ∙ any_append _ (uses_in l) (uses_in r) ∙ ap (λ (q : Bool). used_inside c (uses_in l) || q) e ∙
      or-true (used_inside c (uses_in l)))) a i

  early : {i j : ℕ} {pre post : List Event} (m : Mention) → Stands E i j pre (mentions m ∷ []) post → Inner m.place.around (mentions m ∷ [])
      → Early all_uses by_end m
  early {pre = pre} {post} m s n =
      let u = stands_uses (mentions m ∷ []) s in
      record {
        used = record {
          inner = λ b e i. ap (used_inside b.ident.at) u ∙ any_middle _ (uses_in pre) (uses_in (mentions m ∷ [])) (uses_in post) (inner_here m b e i);
          set = λ b e i. ap (is_set_in b.ident.at) u ∙ any_middle _ (uses_in pre) (uses_in (mentions m ∷ [])) (uses_in post) (set_here m b e i);
        };
        inner = all_map (λ k h b e i. h b.ident.at (inner_here m b e i)) m.place.around n;
      }

  -- the uses of names are all before the rest
  closed : {i j : ℕ} (k : ℕ) (xs : List Ident) (after : List Use) (post : List Event) → NumNames k xs → i ≤ k → k + length xs ≤ j
      → all_uses ≡ after ++ uses_in post → All (Apart i j) post
      → Closed all_uses after xs
  unfolding NumNames
  closed k [] after post n l u e a = tt
  closed {i = i} {j = j} k (x ∷ xs) after post n l u e a =
      let c = x.at in (
        (
          sym (ap (used_inside c) e ∙ any_append _ after (uses_in post) ∙ ap (λ (q : Bool). used_inside c after || q)
              (inside_apart {i = i} {j = j} c (omega arith) (omega arith) post a) ∙ or-false (used_inside c after)),
          sym (ap (is_set_in c) e ∙ any_append _ after (uses_in post) ∙ ap (λ (q : Bool). is_set_in c after || q)
              (set_apart {i = i} {j = j} c (omega arith) (omega arith) post a) ∙ or-false (is_set_in c after)),
        ),
        closed {i = i} {j = j} (k + 1) xs after post n.1 (omega arith) (omega arith) e a,
      )

  -- uses before a stretch and after it
  used-then : (before : List Use) (pre l : List Event) → before ≡ uses_in pre → before ++ uses_in l ≡ uses_in (pre ++ l)
  used-then before pre l e = ap (λ (u : List Use). u ++ uses_in l) e ∙ sym (uses_in_lem pre l)

  used-entered : (before : List Use) (pre : List Event) (bs sc : List Binder) → before ≡ uses_in pre → before ≡ uses_in (pre ++ entering bs sc)
  used-entered before pre bs sc e = e ∙ uses-entering (uses_in pre) bs sc ∙ sym (uses_in_lem pre (entering bs sc))

  used_all : {i j : ℕ} (before : List Use) (pre l post : List Event) → before ≡ uses_in pre → Stands E i j pre l post
      → all_uses ≡ (before ++ uses_in l) ++ uses_in post
  used_all before pre l post e s = stands_uses l s ∙ ap (λ (u : List Use). u ++ (uses_in l ++ uses_in post)) (sym e) ∙ sym
      (append_assoc before (uses_in l) (uses_in post))

  -- A lambda: its body is l
  module _ {i j : ℕ} (n : Node) (xs : List Ident) (sc bs around : List Binder) (pre l post : List Event)
      (is : E ≡ (pre ++ entering bs around) ++ (l ++ ((ends n.at xs sc ∷ []) ++ post)))
      (h : i ≤ n.at) (g : n.at < j) (apart : All (Apart i j) pre) (out : All (Apart i j) post) (has : All (Has n.at) l) where
    lacks : (r : List Event) → All (Apart i j) r → All (Lacks n.at) r
    lacks [] a = tt
    lacks (enters b sc ∷ r) a = (tt, lacks r a.1)
    lacks (mentions m ∷ r) a = ((go a.0.0, a.0.1 n.at h g), lacks r a.1)
      where
        go : {o : Option Binder} → Of (λ b. Off i j b.ident.at) o → Of (λ b. AnyRecord b.ident.at) o
        go of_none = of_none
        go (of_some p) = of_some tt
    lacks (ends k ys zs ∷ r) a = (λ e. a.0 (omega arith) (omega arith), lacks r a.1)

    abbrev lambda_zone : Zone E n.at
    lambda_zone =
        record {
          before = pre;
          inside = entering bs around ++ l;
          after = post;
          xs = xs;
          sc = sc;
          is = is ∙ append_assoc pre (entering bs around) (l ++ (ends n.at xs sc ∷ post)) ∙ ap (λ (z : List Event). pre ++ z)
              (sym (append_assoc (entering bs around) l (ends n.at xs sc ∷ post)));
          lacks_before = lacks pre apart;
          has = all-++ (Has n.at) (entering bs around) l (walked_entering AnyRecord (λ l. member n.at l ≡ true) (λ k. ¬ (k ≡ n.at)) bs around) has;
          lacks_after = lacks post out;
        }

    lambda_uses : (before : List Use) → before ≡ uses_in pre → by_end n.at ≡ before ++ uses_in l
    lambda_uses before e =
        ap uses_in (zone_until n.at lambda_zone) ∙ uses_in_lem pre (entering bs around ++ l)
        ∙ ap (λ (u : List Use). uses_in pre ++ u) (uses_in_lem (entering bs around) l) ∙ sym (append_assoc (uses_in pre) (uses_in (entering bs around)) (uses_in l))
        ∙ ap (λ (u : List Use). u ++ uses_in l) (sym (uses-entering (uses_in pre) bs around) ∙ sym e)

  -- The visits of the walk

  pub record Bounds (before : List Use) (p : Place) (t : Tree) : Type 0 where
    pub bounded : Bounded all_uses by_end before p t
    pub zoned : All Zoned (walk t p)

  pub record BoundsIn (before : List Use) (p : Place) (ts : Trees) : Type 0 where
    pub bounded : BoundedIn all_uses by_end before p ts
    pub zoned : All Zoned (walk_arguments ts p)

  pub record BoundsAll (before : List Use) (p : Place) (ts : Trees) : Type 0 where
    pub bounded : BoundedAll all_uses by_end before p ts
    pub zoned : All Zoned (walk_all ts p)

  has_body : (k : ℕ) (i : ℕ) (t : Tree) → Num i t → k < i → (p : Place) → member k p.around ≡ true → All (Has k) (walk t p)
  has_body k i t n h p e =
      walked AnyRecord (λ l. member k l ≡ true) (λ j. ¬ (j ≡ k)) i (i + size t) (λ y l u. tt) (λ y l u z. omega arith)
      (λ x l u r q. rw q (or-true (eqb k x))) i t n (omega arith) (omega arith) p (all_of (λ b. Unit {0}) (λ b. tt) p.scope) e

  mutual
    unfolding Num size walk Bounded

    pub bounds : (i : ℕ) (t : Tree) → Num i t → (p : Place) → Outside i (i + size t) p → All (Zone E) p.around → (before : List Use) (pre post : List Event)
        → before ≡ uses_in pre
        → Stands E i (i + size t) pre (walk t p) post → Inner p.around (walk t p) → Bounds before p t
    bounds i (ident x) n p o z before pre post e s u = record { bounded = early (read_at x p) s u; zoned = (z, tt) }
    bounds i (const m c) n p o z before pre post e s u = record { bounded = tt; zoned = tt }
    bounds i (if m a b c) n p o z before pre post e s u =
        let i₁ = i + 1 in
        let i₂ = i₁ + size a in
        let i₃ = i₂ + size b in
        let j = i₃ + size c in
        let o₁ = outside_narrow i₁ i₂ p (omega arith) (omega arith) o in
        let o₂ = outside_narrow i₂ i₃ p (omega arith) (omega arith) o in
        let o₃ = outside_narrow i₃ j p (omega arith) (omega arith) o in
        let rest = walk b p ++ walk c p in
        let X = bounds i₁ a n.1 p o₁ z before pre (rest ++ post) e
        (stands_left i₁ i₂ (walk a p) rest (omega arith) (omega arith)
        (all-++ (Apart i₁ i₂) (walk b p) (walk c p) (elsewhere i₁ i₂ p o₁ i₂ b n.2 (λ y l u v w. omega arith))
        (elsewhere i₁ i₂ p o₁ i₃ c n.3 (λ y l u v w. omega arith))) s)
        (inner-left p.around (walk a p) rest u) in
        let s₂ = stands_right i₂ j (walk a p) rest (omega arith) (omega arith) (elsewhere i₂ j p (outside_narrow i₂ j p (omega arith) (omega arith) o) i₁ a
        n.1 (λ y l u v w. omega arith)) s in
        let u₂ = inner_right p.around (walk a p) rest u in
        let e₂ = used-then before pre (walk a p) e in
        let Y = bounds i₂ b n.2 p o₂ z (before ++ uses_in (walk a p)) (pre ++ walk a p) (walk c p ++ post) e₂
        (stands_left i₂ i₃ (walk b p) (walk c p) (omega arith) (omega arith) (elsewhere i₂ i₃ p o₂ i₃ c n.3 (λ y l u v w. omega arith)) s₂)
        (inner-left p.around (walk b p) (walk c p) u₂) in
        let Z = bounds i₃ c n.3 p o₃ z ((before ++ uses_in (walk a p)) ++ uses_in (walk b p)) ((pre ++ walk a p) ++ walk b p) post
        (used-then _ (pre ++ walk a p) (walk b p) e₂)
        (stands_right i₃ j (walk b p) (walk c p) (omega arith) (omega arith) (elsewhere i₃ j p o₃ i₂ b n.2 (λ y l u v w. omega arith)) s₂)
        (inner_right p.around (walk b p) (walk c p) u₂) in
        record {
          bounded = (X.bounded, Y.bounded, Z.bounded);
          zoned = all-++ Zoned (walk a p) rest X.zoned
              (all-++ Zoned (walk b p) (walk c p) Y.zoned Z.zoned);
        }
    bounds i (letin m xs es c) n p o z before pre post e s u =
        let i₁ = i + 1 in
        let i₂ = i₁ + length xs in
        let i₃ = i₂ + sizes es in
        let j = i₃ + size c in
        let body : Place = within (let_names xs p) (let_body (length xs) p) in
        let o₂ = outside_narrow i₂ i₃ p (omega arith) (omega arith) o in
        let named : (a b : ℕ) → Outside a b p → ((y : ℕ) → i₁ ≤ y → y < i₂ → Off a b y) → Outside a b body =
        λ a b q d. record { scope = names_off a b true p.site.height (let_body (length xs) p) 0 i₁ xs n.2 d p.scope q.scope; around = q.around } in
        let o₃ = outside_narrow i₃ j p (omega arith) (omega arith) o in
        let ent = entering (let_names xs p) p.scope in
        let rest = ent ++ walk c body in
        let args = walk_arguments es p in
        let X = bounds_in i₂ es n.3 p o₂ z before pre (rest ++ post) e
        (stands_left i₂ i₃ args rest (omega arith) (omega arith)
        (all-++ (Apart i₂ i₃) ent (walk c body) (walked_entering _ _ _ (let_names xs p) p.scope)
        (elsewhere i₂ i₃ body (named i₂ i₃ o₂ (λ y l u v w. omega arith)) i₃ c n.4 (λ y l u v w. omega arith))) s)
        (inner-left p.around args rest u) in
        let s₂ = stands_right i₃ j args rest (omega arith) (omega arith) (elsewhere_in i₃ j p o₃ i₂ es n.3 (λ y l u v w. omega arith)) s in
        let s₃ = stands_right i₃ j ent (walk c body) (omega arith) (omega arith) (walked_entering _ _ _ (let_names xs p) p.scope) s₂ in
        let e₂ = used-then before pre args e in
        let e₃ = used-entered (before ++ uses_in args) (pre ++ args) (let_names xs p) p.scope e₂ in
        let Y = bounds i₃ c n.4 body (named i₃ j o₃ (λ y l u v w. omega arith)) z (before ++ uses_in args) ((pre ++ args) ++ ent) post e₃ s₃
        (inner_right p.around ent (walk c body) (inner_right p.around args rest u)) in
        record {
          bounded = (
            X.bounded,
            Y.bounded,
            closed {i = i} {j = i + size (letin m xs es c)} i₁ xs ((before ++ uses_in args) ++ uses_in (walk c body)) post n.2 (omega arith) (omega arith)
                (used_all (before ++ uses_in args) ((pre ++ args) ++ ent) (walk c body) post e₃ s₃) s.after,
          );
          zoned = all-++ Zoned args rest X.zoned (all-++ Zoned ent (walk c body) (zoned_entering (let_names xs p) p.scope) Y.zoned);
        }
    bounds i (define m x c) n p o z before pre post e s u =
        let X = bounds (i + 2) c n.2 p (outside_narrow (i + 2) (i + 2 + size c) p (omega arith) (omega arith) o) z before pre post e
        (record {
          is = s.is;
          before = apart_narrow _ _ (omega arith) (omega arith) pre s.before;
          after = apart_narrow _ _ (omega arith) (omega arith) post
              s.after;
        }) u in
        record { bounded = X.bounded; zoned = X.zoned }
    bounds i (lambda m xs c) n p o z before pre post e s u =
        let i₁ = i + 1 in
        let i₂ = i₁ + length xs in
        let j = i₂ + size c in
        let body : Place = within (parameters m xs p) (lambda_body m (length xs) p) in
        let ent = entering (parameters m xs p) p.scope in
        let end = ends m.at xs p.scope ∷ [] in
        let o₂ = outside_narrow i₂ j p (omega arith) (omega arith) o in
        let inside : Outside i₂ j body =
        record {
          scope = names_off i₂ j false 0 (lambda_body m (length xs) p) 0 i₁ xs n.1 (λ y l u v w. omega arith) p.scope o₂.scope;
          around = λ k l u. rw (ne_eqb k m.at (λ q. omega arith)) (o₂.around k l u);
        } in
        let s₁ = stands_right {i = i} {j = i + size (lambda m xs c)} i (i + size (lambda m xs c)) ent (walk c body ++ end) (omega arith) (omega arith)
        (walked_entering _ _ _ (parameters m xs p) p.scope) s in
        let s₂ = stands_left i₂ j (walk c body) end (omega arith) (omega arith) ((λ l u. omega arith), tt) s₁ in
        let has = has_body m.at i₂ c n.2 (omega arith) body (rw (eq-eqb m.at m.at refl)) in
        let zone = lambda_zone {i = i} {j = i + size (lambda m xs c)} m xs p.scope (parameters m xs p) p.scope pre (walk c body) post s₂.is
        (omega arith) (omega arith) s.before s.after has in
        let by = lambda_uses {i = i} {j = i + size (lambda m xs c)} m xs p.scope (parameters m xs p) p.scope pre (walk c body) post s₂.is
        (omega arith) (omega arith) s.before s.after has before e in
        let e₁ = used-entered before pre (parameters m xs p) p.scope e in
        let Y = bounds i₂ c n.2 body inside (zone, z) before (pre ++ ent) (end ++ post) e₁ s₂ (
          (λ k q. ap (used_inside k) by ∙ any_append _ before (uses_in (walk c body)) ∙ ap (λ (r : Bool). used_inside k before || r) q ∙ or-true
              (used_inside k before)),
          inner-left p.around (walk c body) end (inner_right p.around ent (walk c body ++ end) u),
        ) in
        record {
          bounded = (
            Y.bounded,
            by,
            closed {i = i} {j = i + size (lambda m xs c)} i₁ xs (before ++ uses_in (walk c body)) post n.1 (omega arith) (omega arith)
                (used_all before (pre ++ ent) (walk c body) (end ++ post) e₁ s₂) s.after,
          );
          zoned = all-++ Zoned ent (walk c body ++ end) (zoned_entering (parameters m xs p) p.scope) (all-++ Zoned (walk c body) end Y.zoned (tt, tt));
        }
    bounds i (sequence m es) n p o z before pre post e s u =
        let X = bounds_all (i + 1) es n.1 p (outside_narrow (i + 1) (i + 1 + sizes es) p (omega arith) (omega arith) o) z before pre post e
        (record {
          is = s.is;
          before = apart_narrow _ _ (omega arith) (omega arith) pre s.before;
          after = apart_narrow _ _ (omega arith) (omega arith) post
              s.after;
        }) u in
        record { bounded = X.bounded; zoned = X.zoned }
    bounds i (call m h es) n p o z before pre post e s u =
        let i₁ = i + 1 in
        let i₂ = i₁ + size h in
        let j = i₂ + sizes es in
        let head : Place = raised (many es) p in
        let args = walk_arguments es p in
        let o₁ : Outside i₁ i₂ head = let q = outside_narrow i₁ i₂ p (omega arith) (omega arith) o in record { scope = q.scope; around = q.around } in
        let o₂ = outside_narrow i₂ j p (omega arith) (omega arith) o in
        let X = bounds_in i₂ es n.2 p o₂ z before pre (walk h head ++ post) e
        (stands_left i₂ j args (walk h head) (omega arith) (omega arith) (elsewhere i₂ j head (record { scope = o₂.scope; around = o₂.around }) i₁ h n.1
        (λ y l u v w. omega arith)) s)
        (inner-left p.around args (walk h head) u) in
        let Y = bounds i₁ h n.1 head o₁ z (before ++ uses_in args) (pre ++ args) post (used-then before pre args e)
        (stands_right i₁ i₂ args (walk h head) (omega arith) (omega arith) (elsewhere_in i₁ i₂ p (record { scope = o₁.scope; around = o₁.around }) i₂ es
        n.2 (λ y l u v w. omega arith)) s)
        (inner_right p.around args (walk h head) u) in
        record { bounded = (X.bounded, Y.bounded); zoned = all-++ Zoned args (walk h head) X.zoned Y.zoned }
    bounds i (set! m x c) n p o z before pre post e s u =
        let i₁ = i + 2 in
        let j = i₁ + size c in
        let here = mentions (set_at x p) ∷ [] in
        let o₁ = outside_narrow i₁ j p (omega arith) (omega arith) o in
        let X = bounds i₁ c n.2 p o₁ z before pre (here ++ post) e
        (stands_left i₁ j (walk c p) here (omega arith) (omega arith) ((find-all p.scope o₁.scope x.name, o₁.around), tt) s)
        (inner-left p.around (walk c p) here u) in
        let t = stands_right (i + 1) i₁ (walk c p) here (omega arith) (omega arith)
        (elsewhere (i + 1) i₁ p (outside_narrow (i + 1) i₁ p (omega arith) (omega arith) o) i₁ c n.2 (λ y l u v w. omega arith)) s in
        record {
          bounded = (X.bounded, early (set_at x p) t (inner_right p.around (walk c p) here u));
          zoned = all-++ Zoned (walk c p) here X.zoned
              (z, tt);
        }

    pub bounds_in : (i : ℕ) (ts : Trees) → Nums i ts → (p : Place) → Outside i (i + sizes ts) p → All (Zone E) p.around
        → (before : List Use) (pre post : List Event) → before ≡ uses_in pre
        → Stands E i (i + sizes ts) pre (walk_arguments ts p) post → Inner p.around (walk_arguments ts p) → BoundsIn before p ts
    bounds_in i nil n p o z before pre post e s u = record { bounded = tt; zoned = tt }
    bounds_in i (cons t ts) n p o z before pre post e s u =
        let i₁ = i + size t in
        let j = i₁ + sizes ts in
        let next : Place = raised 1 p in
        let o₁ = outside_narrow i i₁ p (omega arith) (omega arith) o in
        let o₂ : Outside i₁ j next = let q = outside_narrow i₁ j p (omega arith) (omega arith) o in record { scope = q.scope; around = q.around } in
        let rest = walk_arguments ts next in
        let X = bounds i t n.0 p o₁ z before pre (rest ++ post) e
        (stands_left i i₁ (walk t p) rest (omega arith) (omega arith) (elsewhere_in i i₁ next (record { scope = o₁.scope; around = o₁.around }) i₁ ts n.1
        (λ y l u v w. omega arith)) s)
        (inner-left p.around (walk t p) rest u) in
        let Y = bounds_in i₁ ts n.1 next o₂ z (before ++ uses_in (walk t p)) (pre ++ walk t p) post (used-then before pre (walk t p) e)
        (stands_right i₁ j (walk t p) rest (omega arith) (omega arith) (elsewhere i₁ j p (record { scope = o₂.scope; around = o₂.around }) i t n.0
        (λ y l u v w. omega arith)) s)
        (inner_right p.around (walk t p) rest u) in
        record { bounded = (X.bounded, Y.bounded); zoned = all-++ Zoned (walk t p) rest X.zoned Y.zoned }

    pub bounds_all : (i : ℕ) (ts : Trees) → Nums i ts → (p : Place) → Outside i (i + sizes ts) p → All (Zone E) p.around
        → (before : List Use) (pre post : List Event) → before ≡ uses_in pre
        → Stands E i (i + sizes ts) pre (walk_all ts p) post → Inner p.around (walk_all ts p) → BoundsAll before p ts
    bounds_all i nil n p o z before pre post e s u = record { bounded = tt; zoned = tt }
    bounds_all i (cons t ts) n p o z before pre post e s u =
        let i₁ = i + size t in
        let j = i₁ + sizes ts in
        let o₁ = outside_narrow i i₁ p (omega arith) (omega arith) o in
        let o₂ = outside_narrow i₁ j p (omega arith) (omega arith) o in
        let rest = walk_all ts p in
        let X = bounds i t n.0 p o₁ z before pre (rest ++ post) e
        (stands_left i i₁ (walk t p) rest (omega arith) (omega arith) (elsewhere_all i i₁ p o₁ i₁ ts n.1 (λ y l u v w. omega arith)) s)
        (inner-left p.around (walk t p) rest u) in
        let Y = bounds_all i₁ ts n.1 p o₂ z (before ++ uses_in (walk t p)) (pre ++ walk t p) post (used-then before pre (walk t p) e)
        (stands_right i₁ j (walk t p) rest (omega arith) (omega arith) (elsewhere i₁ j p o₂ i t n.0 (λ y l u v w. omega arith)) s)
        (inner_right p.around (walk t p) rest u) in
        record { bounded = (X.bounded, Y.bounded); zoned = all-++ Zoned (walk t p) rest X.zoned Y.zoned }
