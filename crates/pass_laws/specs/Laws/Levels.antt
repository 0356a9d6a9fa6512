-- Where the mentions of a numbered tree stand, and how many lambdas stand around each name in scope: its record decides.
use Rattle.std.specs.Prelude.{ℕ, suc, ◌+◌, ◌≤◌, ◌<◌, Bool, true, false, cond, ◌&&◌, ◌≡◌, refl, length, ltb}
use mathlib.Core.List.{List, [], ◌∷◌, ◌++◌, reverse_aux}
use Rattle.std.proofs.Common.{sym, arith, lt-ltb, ltb-true}
use Rattle.tree.specs.Tree.{Ident, Tree, Trees, ident, const, if, letin, define, lambda, sequence, call, set!, nil, cons, many, size, sizes, NumNames, Num, Nums}
use Rattle.tree.specs.Accepted.{All}
use Rattle.r7rs.specs.Binding.{Binder, Place, Mention, raised, lambda_body, let_body, binders, parameters, let_names, within, Event, enters, mentions, ends, binders_in, entering, walk, walk_arguments, walk_all}
use Rattle.pass_laws.specs.Laws.Keeps.{Off}
use Rattle.pass_laws.specs.Laws.Says.{Each}

-- Each name that enters in a walk, and each mention

abbrev pub EachEvent : (Binder → Type 0) → (Mention → Type 0) → List Event → Type 0
EachEvent B Q [] = Unit {0}
EachEvent B Q (enters b sc ∷ l) = B b × EachEvent B Q l
EachEvent B Q (mentions m ∷ l) = Q m × EachEvent B Q l
EachEvent B Q (ends i xs sc ∷ l) = EachEvent B Q l

module _ (B : Binder → Type 0) (Q : Mention → Type 0) where
  each_append : (l r : List Event) → EachEvent B Q l → EachEvent B Q r → EachEvent B Q (l ++ r)
  each_append [] r p q = q
  each_append (enters b sc ∷ l) r p q = (p.0, each_append l r p.1 q)
  each_append (mentions m ∷ l) r p q = (p.0, each_append l r p.1 q)
  each_append (ends i xs sc ∷ l) r p q = each_append l r p q

  each_entering : (bs sc : List Binder) → All B bs → EachEvent B Q (entering bs sc)
  unfolding entering
  each_entering [] sc a = tt
  each_entering (b ∷ bs) sc a = (a.0, each_entering bs (b ∷ sc) a.1)

  pub each_mention : (l : List Event) → EachEvent B Q l → Each Q l
  each_mention [] p = tt
  each_mention (enters b sc ∷ l) p = each_mention l p.1
  each_mention (mentions m ∷ l) p = (p.0, each_mention l p.1)
  each_mention (ends i xs sc ∷ l) p = each_mention l p

  pub each_binder : (l : List Event) → EachEvent B Q l → All B (binders_in l)
  each_binder [] p = tt
  each_binder (enters b sc ∷ l) p = (p.0, each_binder l p.1)
  each_binder (mentions m ∷ l) p = each_binder l p.1
  each_binder (ends i xs sc ∷ l) p = each_binder l p

pub each_map : (Q R : Mention → Type 0) → ((m : Mention) → Q m → R m) → (l : List Event) → Each Q l → Each R l
each_map Q R f [] p = tt
each_map Q R f (enters b sc ∷ l) p = each_map Q R f l p
each_map Q R f (mentions m ∷ l) p = (f m p.0, each_map Q R f l p.1)
each_map Q R f (ends i xs sc ∷ l) p = each_map Q R f l p

-- How many lambdas the record i stands in

abbrev pub is_inside : ℕ → ℕ → ℕ → ℕ
is_inside i from to = cond (ltb from i && ltb i to) 1 0

unfoldable mutual
  pub level : Tree → ℕ → ℕ
  level (ident x) i = 0
  level (const n q) i = 0
  level (if n a b c) i = level a i + (level b i + level c i)
  level (letin n xs es b) i = levels es i + level b i
  level (define n x b) i = level b i
  level (lambda n xs b) i = is_inside i n.at (n.at + size (lambda n xs b)) + level b i
  level (sequence n es) i = levels es i
  level (call n h es) i = level h i + levels es i
  level (set! n x e) i = level e i

  pub levels : Trees → ℕ → ℕ
  levels nil i = 0
  levels (cons t ts) i = level t i + levels ts i

inside : (i from to : ℕ) → from < i → i < to → is_inside i from to ≡ 1
inside i from to l u = rw (lt-ltb from i l, lt-ltb i to u)

outside : (i from to : ℕ) → Off (from + 1) to i → is_inside i from to ≡ 0
outside i from to o = go (ltb from i) (ltb i to) refl refl
  where
    go : (a b : Bool) → ltb from i ≡ a → ltb i to ≡ b → ◌≡◌ {A = ℕ} (cond (a && b) 1 0) 0
    go true true p q = absurd (o (omega (arith, ltb-true from i p)) (ltb-true i to q))
    go true false p q = refl
    go false b p q = refl

mutual
  unfolding Num size level

  level_out : (k : ℕ) (t : Tree) → Num k t → (i : ℕ) → Off k (k + size t) i → level t i ≡ 0
  level_out k (ident x) n i o = refl
  level_out k (const m q) n i o = refl
  level_out k (if m a b c) n i o =
      omega (
        arith,
        level_out (k + 1) a n.1 i (λ l u. o (omega arith) (omega arith)),
        level_out (k + 1 + size a) b n.2 i (λ l u. o (omega arith) (omega arith)),
        level_out (k + 1 + size a + size b) c n.3 i (λ l u. o (omega arith) (omega arith)),
      )
  level_out k (letin m xs es b) n i o =
      omega (
        arith,
        levels_out (k + 1 + length xs) es n.3 i (λ l u. o (omega arith) (omega arith)),
        level_out (k + 1 + length xs + sizes es) b n.4 i (λ l u. o (omega arith) (omega arith)),
      )
  level_out k (define m x b) n i o = level_out (k + 2) b n.2 i (λ l u. o (omega arith) (omega arith))
  level_out k (lambda m xs b) n i o =
      omega (
        arith,
        outside i m.at (m.at + size (lambda m xs b)) (λ l u. o (omega arith) (omega arith)),
        level_out (k + 1 + length xs) b n.2 i (λ l u. o (omega arith) (omega arith)),
      )
  level_out k (sequence m es) n i o = levels_out (k + 1) es n.1 i (λ l u. o (omega arith) (omega arith))
  level_out k (call m h es) n i o =
      omega (
        arith,
        level_out (k + 1) h n.1 i (λ l u. o (omega arith) (omega arith)),
        levels_out (k + 1 + size h) es n.2 i (λ l u. o (omega arith) (omega arith)),
      )
  level_out k (set! m x e) n i o = level_out (k + 2) e n.2 i (λ l u. o (omega arith) (omega arith))

  levels_out : (k : ℕ) (ts : Trees) → Nums k ts → (i : ℕ) → Off k (k + sizes ts) i → levels ts i ≡ 0
  levels_out k nil n i o = refl
  levels_out k (cons t ts) n i o =
      omega (
        arith,
        level_out k t n.0 i (λ l u. o (omega arith) (omega arith)),
        levels_out (k + size t) ts n.1 i (λ l u. o (omega arith) (omega arith)),
      )

-- The mentions

module _ (L : ℕ → ℕ) where
  -- as many lambdas stand around the name as L says of its record
  abbrev pub Known : Binder → Type 0
  Known b = length b.around ≡ L b.ident.at

  pub record Placed (k j : ℕ) (m : Mention) : Type 0 where
    pub from : k ≤ m.ident.at
    pub below : m.ident.at < j
    pub scope : All Known m.place.scope

  known-binders : (is_let : Bool) (base : ℕ) (q : Place) (j k : ℕ) (xs : List Ident) → NumNames k xs
      → ((i : ℕ) → k ≤ i → i < k + length xs → L i ≡ length q.around)
      → All Known (binders is_let base q j xs)
  unfolding NumNames binders
  known-binders is_let base q j k [] n h = tt
  known-binders is_let base q j k (x ∷ xs) n h =
      (sym (h x.at (omega arith) (omega arith)), known-binders is_let base q (suc j) (k + 1) xs n.1 (λ i l u. h i (omega arith) (omega arith)))

  known-names : (bs sc : List Binder) → All Known bs → All Known sc → All Known (reverse_aux bs sc)
  known-names [] sc k a = a
  known-names (b ∷ bs) sc k a = known-names bs (b ∷ sc) k.1 (k.0, a)

  abbrev pub PlacedIn : ℕ → ℕ → List Event → Type 0
  PlacedIn k j l = EachEvent Known (Placed k j) l

  wider : {i j : ℕ} (k m : ℕ) → k ≤ i → j ≤ m → (l : List Event) → PlacedIn i j l → PlacedIn k m l
  wider k m a b [] p = tt
  wider k m a b (enters c sc ∷ l) p = (p.0, wider k m a b l p.1)
  wider k m a b (mentions c ∷ l) p = let q = p.0 in (
    record { from = omega (arith, q.from); below = omega (arith, q.below); scope = q.scope },
    wider k m a
        b l p.1,
  )
  wider k m a b (ends i xs sc ∷ l) p = wider k m a b l p

  mutual
    unfolding Num size level walk

    pub placed : (k : ℕ) (t : Tree) → Num k t → (p : Place) → All Known p.scope → ((i : ℕ) → k ≤ i → i < k + size t → L i ≡ length p.around + level t i)
        → PlacedIn k (k + size t) (walk t p)
    placed k (ident x) n p a h = (record { from = omega arith; below = omega arith; scope = a }, tt)
    placed k (const m q) n p a h = tt
    placed k (if m b c d) n p a h =
        let k₁ = k + 1 in
        let k₂ = k₁ + size b in
        let k₃ = k₂ + size c in
        let j = k + size (if m b c d) in
        each_append _ _ (walk b p) (walk c p ++ walk d p)
        (wider k j (omega arith) (omega arith) (walk b p) (placed k₁ b n.1 p a (λ i l u.
        omega (arith, h i (omega arith) (omega arith), level_out k₂ c n.2 i (λ x y. omega arith), level_out k₃ d n.3 i (λ x y. omega arith)))))
        (each_append _ _ (walk c p) (walk d p)
        (wider k j (omega arith) (omega arith) (walk c p) (placed k₂ c n.2 p a (λ i l u.
        omega (arith, h i (omega arith) (omega arith), level_out k₁ b n.1 i (λ x y. omega arith), level_out k₃ d n.3 i (λ x y. omega arith)))))
        (wider k j (omega arith) (omega arith) (walk d p) (placed k₃ d n.3 p a (λ i l u.
        omega (arith, h i (omega arith) (omega arith), level_out k₁ b n.1 i (λ x y. omega arith), level_out k₂ c n.2 i (λ x y. omega arith))))))
    placed k (letin m xs es b) n p a h =
        let k₁ = k + 1 in
        let k₂ = k₁ + length xs in
        let k₃ = k₂ + sizes es in
        let j = k + size (letin m xs es b) in
        let q = let_body (length xs) p in
        let names = known-binders true p.site.height q 0 k₁ xs n.2
        (λ i l u. omega (arith, h i (omega arith) (omega arith), levels_out k₂ es n.3 i (λ x y. omega arith), level_out k₃ b n.4 i (λ x y. omega arith)))
        in
        let known = known-names (let_names xs p) p.scope names a in
        each_append _ _ (walk_arguments es p) (entering (let_names xs p) p.scope ++ walk b (within (let_names xs p) q))
        (wider k j (omega arith) (omega arith) (walk_arguments es p) (placed_in k₂ es n.3 p a (λ i l u.
        omega (arith, h i (omega arith) (omega arith), level_out k₃ b n.4 i (λ x y. omega arith)))))
        (each_append _ _ (entering (let_names xs p) p.scope) (walk b (within (let_names xs p) q)) (each_entering _ _ (let_names xs p) p.scope names)
        (wider k j (omega arith) (omega arith) (walk b (within (let_names xs p) q)) (placed k₃ b n.4 (within (let_names xs p) q) known (λ i l u.
        omega (arith, h i (omega arith) (omega arith), levels_out k₂ es n.3 i (λ x y. omega arith))))))
    placed k (define m x b) n p a h = wider k (k + size (define m x b)) (omega arith) (omega arith) (walk b p)
        (placed (k + 2) b n.2 p a (λ i l u. h i (omega arith) (omega arith)))
    placed k (lambda m xs b) n p a h =
        let k₁ = k + 1 in
        let k₂ = k₁ + length xs in
        let j = k + size (lambda m xs b) in
        let q = lambda_body m (length xs) p in
        let own : (i : ℕ) → k₁ ≤ i → i < j → L i ≡ suc (length p.around) + level b i = λ i l u.
        omega (arith, h i (omega arith) u, inside i m.at (m.at + size (lambda m xs b)) (omega arith) (omega arith)) in
        let names = known-binders false 0 q 0 k₁ xs n.1 (λ i l u. omega (arith, own i l (omega arith), level_out k₂ b n.2 i (λ x y. omega arith))) in
        let known = known-names (parameters m xs p) p.scope names a in
        each_append _ _ (entering (parameters m xs p) p.scope) (walk b (within (parameters m xs p) q) ++ (ends m.at xs p.scope ∷ []))
        (each_entering _ _ (parameters m xs p) p.scope names)
        (each_append _ _ (walk b (within (parameters m xs p) q)) (ends m.at xs p.scope ∷ [])
        (wider k j (omega arith) (omega arith) (walk b (within (parameters m xs p) q)) (placed k₂ b n.2 (within (parameters m xs p) q) known
        (λ i l u. own i (omega arith) (omega arith)))) tt)
    placed k (sequence m es) n p a h = wider k (k + size (sequence m es)) (omega arith) (omega arith) (walk_all es p)
        (placed-all (k + 1) es n.1 p a (λ i l u. h i (omega arith) (omega arith)))
    placed k (call m g es) n p a h =
        let k₁ = k + 1 in
        let k₂ = k₁ + size g in
        let j = k + size (call m g es) in
        each_append _ _ (walk_arguments es p) (walk g (raised (many es) p))
        (wider k j (omega arith) (omega arith) (walk_arguments es p) (placed_in k₂ es n.2 p a (λ i l u.
        omega (arith, h i (omega arith) (omega arith), level_out k₁ g n.1 i (λ x y. omega arith)))))
        (wider k j (omega arith) (omega arith) (walk g (raised (many es) p)) (placed k₁ g n.1 (raised (many es) p) a (λ i l u.
        omega (arith, h i (omega arith) (omega arith), levels_out k₂ es n.2 i (λ x y. omega arith)))))
    placed k (set! m x e) n p a h =
        each_append _ _ (walk e p) (mentions (record { ident = x; is_set = true; place = p }) ∷ [])
        (wider k (k + size (set! m x e)) (omega arith) (omega arith) (walk e p) (placed (k + 2) e n.2 p a (λ i l u. h i (omega arith) (omega arith))))
        (record { from = omega arith; below = omega arith; scope = a }, tt)

    placed_in : (k : ℕ) (ts : Trees) → Nums k ts → (p : Place) → All Known p.scope
        → ((i : ℕ) → k ≤ i → i < k + sizes ts → L i ≡ length p.around + levels ts i)
        → PlacedIn k (k + sizes ts) (walk_arguments ts p)
    placed_in k nil n p a h = tt
    placed_in k (cons t ts) n p a h =
        let j = k + sizes (cons t ts) in
        each_append _ _ (walk t p) (walk_arguments ts (raised 1 p))
        (wider k j (omega arith) (omega arith) (walk t p) (placed k t n.0 p a (λ i l u.
        omega (arith, h i (omega arith) (omega arith), levels_out (k + size t) ts n.1 i (λ x y. omega arith)))))
        (wider k j (omega arith) (omega arith) (walk_arguments ts (raised 1 p)) (placed_in (k + size t) ts n.1 (raised 1 p) a (λ i l u.
        omega (arith, h i (omega arith) (omega arith), level_out k t n.0 i (λ x y. omega arith)))))

    pub placed-all : (k : ℕ) (ts : Trees) → Nums k ts → (p : Place) → All Known p.scope
        → ((i : ℕ) → k ≤ i → i < k + sizes ts → L i ≡ length p.around + levels ts i)
        → PlacedIn k (k + sizes ts) (walk_all ts p)
    placed-all k nil n p a h = tt
    placed-all k (cons t ts) n p a h =
        let j = k + sizes (cons t ts) in
        each_append _ _ (walk t p) (walk_all ts p)
        (wider k j (omega arith) (omega arith) (walk t p) (placed k t n.0 p a (λ i l u.
        omega (arith, h i (omega arith) (omega arith), levels_out (k + size t) ts n.1 i (λ x y. omega arith)))))
        (wider k j (omega arith) (omega arith) (walk_all ts p) (placed-all (k + size t) ts n.1 p a (λ i l u.
        omega (arith, h i (omega arith) (omega arith), level_out k t n.0 i (λ x y. omega arith)))))
