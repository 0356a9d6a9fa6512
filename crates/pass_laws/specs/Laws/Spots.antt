-- Where the names of a numbered tree stand: no record is that of two names, be they names that enter, mentions or names defined at top level; and each
-- name in scope has entered.
use Rattle.std.specs.Prelude.{ℕ, suc, ◌+◌, ◌≤◌, ◌<◌, Bool, true, false, cond, ◌≡◌, refl, length, eqb}
use mathlib.Core.List.{List, [], ◌∷◌, ◌++◌, reverse_aux}
use Rattle.std.proofs.Common.{ap, sym, subst, ◌∙◌, arith}
use Rattle.std.proofs.Math.Decide.{dec_le, dec_lt}
use Rattle.tree.specs.Tree.{Ident, Tree, Trees, ident, const, if, letin, define, lambda, sequence, call, set!, nil, cons, many, size, sizes, NumNames, Num, Nums}
use Rattle.tree.proofs.Laws.Tree.{size_pos}
use Rattle.tree.specs.Define.{top_level}
use Rattle.tree.specs.Site.{home_at}
use Rattle.tree.specs.Accepted.{All}
use Rattle.r7rs.specs.Binding.{Binder, Place, Mention, Event, enters, mentions, ends, raised, lambda_body, let_body, binders, parameters, let_names, within, mentions_in, binders_in, entering, walk, walk_arguments, walk_all, events, top}
use Rattle.r7rs.specs.Bottom.{Define, define_of, defines_of}
use Rattle.pass_laws.specs.Laws.All.{all-++, all_left, all_right, all_map}
use Rattle.pass_laws.specs.Laws.Keeps.{Off}
use Rattle.pass_laws.specs.Laws.Says.{mentions_in_lem}
use Rattle.pass_laws.specs.Spread.{Spread}
use Rattle.pass_laws.specs.Laws.Tops.{spread_top, spread_end}
use Rattle.pass_laws.specs.Laws.Script.{walk_top}
use Rattle.pass_laws.specs.Laws.Counts.{share, share_same, share_other}

-- How many elements of a list stand at the record y

abbrev pub times : {A : Type 0} → (A → ℕ) → List A → ℕ → ℕ
times f [] y = 0
times f (a ∷ l) y = share (f a) 1 y + times f l y

module _ {A : Type 0} (f : A → ℕ) where
  times-append : (l r : List A) (y : ℕ) → times f (l ++ r) y ≡ times f l y + times f r y
  times-append [] r y = omega arith
  times-append (a ∷ l) r y = omega (arith, times-append l r y)

  -- each stands at its own
  pub times_here : (l : List A) → All (λ a. 1 ≤ times f l (f a)) l
  times_here [] = tt
  times_here (a ∷ l) =
      (omega (arith, share_same (f a) 1), all_map (λ b. 1 ≤ times f l (f b)) (λ b. 1 ≤ times f (a ∷ l) (f b)) (λ b h. omega arith) l (times_here l))

  pub times_none : (l : List A) (y : ℕ) → times f l y ≡ 0 → All (λ a. ¬ (f a ≡ y)) l
  times_none [] y e = tt
  times_none (a ∷ l) y e = (λ q. omega (arith, share_same (f a) 1, ap (share (f a) 1) q), times_none l y (omega arith))

abbrev pub binder_at : Binder → ℕ
binder_at b = b.ident.at

abbrev pub mention_at : Mention → ℕ
mention_at m = m.ident.at

abbrev pub define_at : Define → ℕ
define_at d = d.name.at

-- the names that a walk meets
abbrev names_at : List Event → ℕ → ℕ
names_at l y = times binder_at (binders_in l) y + times mention_at (mentions_in l) y

names-append : (l r : List Event) (y : ℕ) → names_at (l ++ r) y ≡ names_at l y + names_at r y
names-append [] r y = omega arith
names-append (enters b sc ∷ l) r y = omega (arith, names-append l r y)
names-append (mentions m ∷ l) r y = omega (arith, names-append l r y)
names-append (ends i xs sc ∷ l) r y = names-append l r y

-- At most one at each record, and none outside those from k up to j

record Once (k j : ℕ) (f : ℕ → ℕ) : Type 0 where
  most : (y : ℕ) → f y ≤ 1
  out : (y : ℕ) → Off k j y → f y ≡ 0

once_as : {k j : ℕ} {f : ℕ → ℕ} (g : ℕ → ℕ) → ((y : ℕ) → g y ≡ f y) → Once k j f → Once k j g
once_as g e o = record { most = λ y. omega (arith, e y, o.most y); out = λ y h. e y ∙ o.out y h }

once_none : (k j : ℕ) → Once k j (λ y. 0)
once_none k j = record { most = λ y. omega arith; out = λ y h. refl }

once_wide : {i m : ℕ} {f : ℕ → ℕ} (k j : ℕ) → k ≤ i → m ≤ j → Once i m f → Once k j f
once_wide k j a b o = record { most = o.most; out = λ y h. o.out y (λ l u. h (omega arith) (omega arith)) }

once_at : (i : ℕ) → Once i (i + 1) (λ y. share i 1 y)
once_at i = record { most = λ y. go (eqb i y); out = λ y h. share_other i 1 y (λ e. h (omega arith) (omega arith)) }
  where
    go : (q : Bool) → cond q 1 0 ≤ 1
    go true = omega arith
    go false = omega arith

-- two that stand apart
once_both : {a b c d : ℕ} {f g : ℕ → ℕ} (k j : ℕ) → k ≤ a → b ≤ j → k ≤ c → d ≤ j → ((y : ℕ) → a ≤ y → y < b → c ≤ y → y < d → ⊥) → Once a b f → Once c d g
    → Once k j (λ y. f y + g y)
once_both {a} {b} {c} {d} {f} {g} k j h₁ h₂ h₃ h₄ apart p q =
    record {
      most = λ y. go y (dec_le a y) (dec_lt y b);
      out = λ y o. omega (arith, p.out y (λ l u. o (omega arith) (omega arith)), q.out y (λ l u. o (omega arith) (omega arith)));
    }
  where
    go : (y : ℕ) → Dec (a ≤ y) → Dec (y < b) → f y + g y ≤ 1
    go y (yes l) (yes u) = omega (arith, p.most y, q.out y (apart y l u))
    go y (no l) u = omega (arith, p.out y (λ x z. l x), q.most y)
    go y (yes l) (no u) = omega (arith, p.out y (λ x z. u z), q.most y)

once_names : (is_let : Bool) (base : ℕ) (q : Place) (k j : ℕ) (xs : List Ident) (sc : List Binder) → NumNames k xs → Once k (k + length xs) (names_at (entering (binders is_let base q j xs) sc))
unfolding NumNames binders entering
once_names is_let base q k j [] sc n = once_none k (k + 0)
once_names is_let base q k j (x ∷ xs) sc n =
    let b : Binder = record { ident = x; is_let = is_let; place = j; around = q.around; home = home_at q.site (base + j) } in
    once_as _ (λ y. omega arith) (once_both k (k + length (x ∷ xs)) (omega (arith, n.0)) (omega (arith, n.0)) (omega arith) (omega arith) (λ y l u v z. omega (arith, n.0))
    (once_at x.at) (once_names is_let base q (k + 1) (suc j) xs (b ∷ sc) n.1))

mutual
  unfolding Num size walk

  once : (k : ℕ) (t : Tree) → Num k t → (p : Place) → Once k (k + size t) (names_at (walk t p))
  once k (ident x) n p = once_as _ (λ y. omega arith) (once_wide k (k + 1) (omega arith) (omega arith) (once_at x.at))
  once k (const m q) n p = once_none k (k + 1)
  once k (if m a b c) n p =
      let j = k + size (if m a b c) in
      once_as _ (λ y. omega (arith, names-append (walk a p) (walk b p ++ walk c p) y, names-append (walk b p) (walk c p) y))
      (once_both k j (omega arith) (omega arith) (omega arith) (omega arith) (λ y l u v z. omega arith) (once (k + 1) a n.1 p)
      (once_both (k + 1 + size a) j (omega arith) (omega arith) (omega arith) (omega arith) (λ y l u v z. omega arith) (once (k + 1 + size a) b n.2 p) (once (k + 1 + size a + size b) c n.3 p)))
  once k (letin m xs es b) n p =
      let j = k + size (letin m xs es b) in
      let k₁ = k + 1 in
      let k₂ = k₁ + length xs in
      let q = within (let_names xs p) (let_body (length xs) p) in
      let naming = entering (let_names xs p) p.scope in
      once_as _ (λ y. omega (arith, names-append (walk_arguments es p) (naming ++ walk b q) y, names-append naming (walk b q) y))
      (once_both k j (omega arith) (omega arith) (omega arith) (omega arith) (λ y l u v z. omega arith) (once_both {f = names_at naming} k₁ (k₂ + sizes es) (omega arith) (omega arith) (omega arith) (omega arith) (λ y l u v z. omega arith)
      (once_names true p.site.height (let_body (length xs) p) k₁ 0 xs p.scope n.2) (once_in k₂ es n.3 p)) (once (k₂ + sizes es) b n.4 q))
  once k (define m x b) n p = once_wide k (k + size (define m x b)) (omega arith) (omega arith) (once (k + 2) b n.2 p)
  once k (lambda m xs b) n p =
      let j = k + size (lambda m xs b) in
      let k₁ = k + 1 in
      let q = within (parameters m xs p) (lambda_body m (length xs) p) in
      let naming = entering (parameters m xs p) p.scope in
      let end = ends m.at xs p.scope ∷ [] in
      once_as _ (λ y. omega (arith, names-append naming (walk b q ++ end) y, names-append (walk b q) end y))
      (once_both k j (omega arith) (omega arith) (omega arith) (omega arith) (λ y l u v z. omega arith)
      (once_names false 0 (lambda_body m (length xs) p) k₁ 0 xs p.scope n.1) (once (k₁ + length xs) b n.2 q))
  once k (sequence m es) n p = once_wide k (k + size (sequence m es)) (omega arith) (omega arith) (once_all (k + 1) es n.1 p)
  once k (call m h es) n p =
      let r = raised (many es) p in
      once_as _ (λ y. omega (arith, names-append (walk_arguments es p) (walk h r) y))
      (once_both k (k + size (call m h es)) (omega arith) (omega arith) (omega arith) (omega arith) (λ y l u v z. omega arith) (once (k + 1) h n.1 r) (once_in (k + 1 + size h) es n.2 p))
  once k (set! m x e) n p =
      once_as _ (λ y. omega (arith, names-append (walk e p) (mentions (record { ident = x; is_set = true; place = p }) ∷ []) y))
      (once_both k (k + size (set! m x e)) (omega arith) (omega arith) (omega arith) (omega arith) (λ y l u v z. omega arith) (once_at x.at) (once (k + 2) e n.2 p))

  once_in : (k : ℕ) (ts : Trees) → Nums k ts → (p : Place) → Once k (k + sizes ts) (names_at (walk_arguments ts p))
  once_in k nil n p = once_none k (k + 0)
  once_in k (cons t ts) n p =
      once_as _ (λ y. names-append (walk t p) (walk_arguments ts (raised 1 p)) y)
      (once_both k (k + sizes (cons t ts)) (omega arith) (omega arith) (omega arith) (omega arith) (λ y l u v z. omega arith) (once k t n.0 p) (once_in (k + size t) ts n.1 (raised 1 p)))

  once_all : (k : ℕ) (ts : Trees) → Nums k ts → (p : Place) → Once k (k + sizes ts) (names_at (walk_all ts p))
  once_all k nil n p = once_none k (k + 0)
  once_all k (cons t ts) n p =
      once_as _ (λ y. names-append (walk t p) (walk_all ts p) y)
      (once_both k (k + sizes (cons t ts)) (omega arith) (omega arith) (omega arith) (omega arith) (λ y l u v z. omega arith) (once k t n.0 p) (once_all (k + size t) ts n.1 p))

-- the names defined at top level as well

no_name : (k : ℕ) (t : Tree) → Num k t → define_of t ≡ [] → Once k (k + size t) (λ y. names_at (walk t top) y + times define_at (define_of t) y)
no_name k t n e = once_as _ (λ y. omega (arith, ap (λ (l : List Define). times define_at l y) e)) (once k t n top)

once_top : (k : ℕ) (t : Tree) → Num k t → Once k (k + size t) (λ y. names_at (walk t top) y + times define_at (define_of t) y)
unfolding Num size walk
once_top k (ident x) n = no_name k (ident x) n refl
once_top k (const m q) n = no_name k (const m q) n refl
once_top k (if m a b c) n = no_name k (if m a b c) n refl
once_top k (letin m xs es b) n = no_name k (letin m xs es b) n refl
once_top k (define m x b) n =
    once_as _ (λ y. omega arith) (once_both k (k + size (define m x b)) (omega arith) (omega arith) (omega arith) (omega (arith, size_pos b)) (λ y l u v z. omega arith)
    (once (k + 2) b n.2 top) (once_at x.at))
once_top k (lambda m xs b) n = no_name k (lambda m xs b) n refl
once_top k (sequence m es) n = no_name k (sequence m es) n refl
once_top k (call m h es) n = no_name k (call m h es) n refl
once_top k (set! m x e) n = no_name k (set! m x e) n refl

once_tops : (i j : ℕ) (us : Trees) → Spread i j us → Once i j (λ y. names_at (walk_all us top) y + times define_at (defines_of us) y)
unfolding walk defines_of
once_tops i j nil p = once_none i j
once_tops i j (cons t us) p =
    let l = p.1 in
    let e = spread_end (p.0 + size t) j us p.3 in
    once_as _ (λ y. omega (arith, names-append (walk t top) (walk_all us top) y, times-append define_at (define_of t) (defines_of us) y))
    (once_both i j (omega arith) (omega arith) (omega arith) (omega arith) (λ y l u v z. omega arith) (once_top p.0 t p.2) (once_tops (p.0 + size t) j us p.3))

-- of a script
pub spots : (ts : Trees) → Nums 0 ts → (y : ℕ)
    → times binder_at (binders_in (events ts)) y + times mention_at (mentions_in (events ts)) y + times define_at (defines_of (top_level ts)) y ≤ 1
unfolding events
spots ts n y =
    subst (λ (l : List Event). names_at l y + times define_at (defines_of (top_level ts)) y ≤ 1) (walk_top ts top) ((once_tops 0 (0 + sizes ts) (top_level ts) (spread_top 0 ts n)).most y)

-- What is in scope has entered

binders_in_lem : (l r : List Event) → binders_in (l ++ r) ≡ binders_in l ++ binders_in r
binders_in_lem [] r = refl
binders_in_lem (enters b sc ∷ l) r = ap (λ (k : List Binder). b ∷ k) (binders_in_lem l r)
binders_in_lem (mentions m ∷ l) r = binders_in_lem l r
binders_in_lem (ends i xs sc ∷ l) r = binders_in_lem l r

module _ (P : Binder → Type 0) where
  -- what holds of the names that enter holds of those in scope of a mention
  abbrev Scoped : List Event → Type 0
  Scoped l = All P (binders_in l) → All (λ m. All P m.place.scope) (mentions_in l)

  scoped-append : (l r : List Event) → Scoped l → Scoped r → Scoped (l ++ r)
  scoped-append l r p q a =
      let b = subst (All P) (binders_in_lem l r) a in
      subst (All (λ m. All P m.place.scope)) (sym (mentions_in_lem l r))
      (all-++ _ (mentions_in l) (mentions_in r) (p (all_left P (binders_in l) (binders_in r) b)) (q (all_right P (binders_in l) (binders_in r) b)))

  scoped-names : (bs sc : List Binder) (l : List Event) → All P sc → (All P (reverse_aux bs sc) → Scoped l) → Scoped (entering bs sc ++ l)
  unfolding entering
  scoped-names [] sc l s f a = f s a
  scoped-names (b ∷ bs) sc l s f a = scoped-names bs (b ∷ sc) l (a.0, s) f a.1

  mutual
    unfolding walk

    scoped : (t : Tree) (p : Place) → All P p.scope → Scoped (walk t p)
    scoped (ident x) p s = λ a. (s, tt)
    scoped (const n q) p s = λ a. tt
    scoped (if n b c d) p s = scoped-append (walk b p) (walk c p ++ walk d p) (scoped b p s) (scoped-append (walk c p) (walk d p) (scoped c p s) (scoped d p s))
    scoped (letin n xs es b) p s =
        scoped-append (walk_arguments es p) (entering (let_names xs p) p.scope ++ walk b (within (let_names xs p) (let_body (length xs) p))) (scoped_in es p s)
        (scoped-names (let_names xs p) p.scope _ s (scoped b (within (let_names xs p) (let_body (length xs) p))))
    scoped (define n x b) p s = scoped b p s
    scoped (lambda n xs b) p s =
        let q = within (parameters n xs p) (lambda_body n (length xs) p) in
        let end = ends n.at xs p.scope ∷ [] in
        scoped-names (parameters n xs p) p.scope (walk b q ++ end) s (λ r. scoped-append (walk b q) end (scoped b q r) (λ a. tt))
    scoped (sequence n es) p s = scoped-all es p s
    scoped (call n h es) p s = scoped-append (walk_arguments es p) (walk h (raised (many es) p)) (scoped_in es p s) (scoped h (raised (many es) p) s)
    scoped (set! n x e) p s = scoped-append (walk e p) (mentions (record { ident = x; is_set = true; place = p }) ∷ []) (scoped e p s) (λ a. (s, tt))

    scoped_in : (ts : Trees) (p : Place) → All P p.scope → Scoped (walk_arguments ts p)
    scoped_in nil p s = λ a. tt
    scoped_in (cons t ts) p s = scoped-append (walk t p) (walk_arguments ts (raised 1 p)) (scoped t p s) (scoped_in ts (raised 1 p) s)

    scoped-all : (ts : Trees) (p : Place) → All P p.scope → Scoped (walk_all ts p)
    scoped-all nil p s = λ a. tt
    scoped-all (cons t ts) p s = scoped-append (walk t p) (walk_all ts p) (scoped t p s) (scoped-all ts p s)

  -- of a script
  pub in_scope_lem : (ts : Trees) → All P (binders_in (events ts)) → All (λ m. All P m.place.scope) (mentions_in (events ts))
  unfolding events
  in_scope_lem ts a = scoped-all ts top tt a
