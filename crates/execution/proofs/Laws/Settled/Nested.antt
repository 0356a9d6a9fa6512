-- Names in scope: no two of one layer have one name; and the lambdas around a name's body are those around the place but for the innermost ones.
use Rattle.std.specs.Prelude.{ℕ, suc, ◌+◌, ◌≤◌, Bool, true, false, cond, not, ◌&&◌, ◌||◌, ◌≡◌, refl, length, eqb, ltb, None, Some}
use Rattle.std.proofs.lemmas.Option.{none-some, same_Some}
use mathlib.Core.List.{List, [], ◌∷◌, ◌++◌, reverse_aux}
use Rattle.std.proofs.Math.Bool.{or-true}
use Rattle.std.proofs.Common.{true≢false, ap, sym, subst, ◌∙◌, arith, eqb-true, eq-eqb, ne_eqb, lt-ltb, le-ltb}
use Rattle.std.proofs.Math.Decide.{ℕ_discrete}
use Rattle.tree.specs.Tree.{Ident, Tree, Trees, ident, const, if, letin, define, lambda, sequence, call, set!, nil, cons, many, size, sizes, Num, Nums}
use Rattle.tree.specs.Check.{member}
use Rattle.tree.specs.Accepted.{All}
use Rattle.r7rs.specs.Binding.{Binder, Place, Event, enters, mentions, ends, find, lambda_body, let_body, binders, parameters, let_names, raised, within, entering, walk, walk_arguments, walk_all}
use Rattle.pass_laws.specs.Laws.All.{all-++, all_left, all_right}
use Rattle.pass_laws.specs.Laws.Layers.{or-false}
use Rattle.pass_laws.specs.Laws.Finds.{all_map}
use Rattle.execution.specs.Acceptance.{is_live, nine_in, is_doubled}
use Rattle.execution.proofs.Laws.Settled.Listed.{times_in, find_name}

-- No name enters where it is live

abbrev pub NotLive : Event → Type 0
NotLive (enters b sc) = is_live b sc ≡ false
NotLive (mentions m) = Unit {0}
NotLive (ends i xs sc) = Unit {0}

pub not_live : (l : List Event) → nine_in l ≡ None → All NotLive l
unfolding nine_in
not_live [] e = tt
not_live (enters b sc ∷ l) e = go (is_live b sc) refl (λ q. not_live l q) e
  where
    go : (q : Bool) → is_live b sc ≡ q → (nine_in l ≡ None → All NotLive l) → cond q (Some b.ident.at) (nine_in l) ≡ None
        → (is_live b sc ≡ false) × All NotLive l
    go true q k e = absurd (none-some _ (sym e))
    go false q k e = (q, k e)
not_live (mentions m ∷ l) e = (tt, not_live l e)
not_live (ends i xs sc ∷ l) e = (tt, not_live l e)

abbrev pub Distinct : List Binder → Type 0
Distinct [] = Unit {0}
Distinct (b ∷ sc) = (is_live b sc ≡ false) × Distinct sc

distinct_entered : (bs sc : List Binder) → All NotLive (entering bs sc) → Distinct sc → Distinct (reverse_aux bs sc)
unfolding entering
distinct_entered [] sc a d = d
distinct_entered (b ∷ bs) sc a d = distinct_entered bs (b ∷ sc) a.1 (a.0, d)

-- a is l but for its first ones, which are not in a
pub data Suffix (a : List ℕ) : List ℕ → Type 0 where
  whole : Suffix a a
  further : {k : ℕ} {l : List ℕ} → member k a ≡ false → Suffix a l → Suffix a (k ∷ l)

suffix_lacks : {a l : List ℕ} (k : ℕ) → Suffix a l → member k l ≡ false → member k a ≡ false
suffix_lacks k whole e = e
suffix_lacks k (further {k = i} {l} m s) e = suffix_lacks k s (or-false (eqb k i) (member k l) e).1

suffix_length : {a l : List ℕ} → Suffix a l → length a ≤ length l
suffix_length whole = omega arith
suffix_length (further m s) = omega (arith, suffix_length s)

pub record Nested (p : Place) : Type 0 where
  pub distinct : Distinct p.scope
  pub around : All (λ b. Suffix b.around p.around) p.scope

same_around : (is_let : Bool) (base : ℕ) (q : Place) (j : ℕ) (xs : List Ident) (sc : List Binder) → All (λ b. Suffix b.around q.around) sc
    → All (λ b. Suffix b.around q.around) (reverse_aux (binders is_let base q j xs) sc)
unfolding binders
same_around is_let base q j [] sc a = a
same_around is_let base q j (x ∷ xs) sc a = same_around is_let base q (suc j) xs _ (whole, a)

-- Each mention of a walk stands so
abbrev pub NestedAt : Event → Type 0
NestedAt (enters b sc) = Unit {0}
NestedAt (mentions m) = Nested m.place
NestedAt (ends i xs sc) = Unit {0}

nested-entering : (bs sc : List Binder) → All NestedAt (entering bs sc)
unfolding entering
nested-entering [] sc = tt
nested-entering (b ∷ bs) sc = (tt, nested-entering bs (b ∷ sc))

-- the lambdas around stand before the record k
abbrev Before : ℕ → Place → Type 0
Before k p = (i : ℕ) → k ≤ i → member i p.around ≡ false

mutual
  unfolding Num size walk

  nested : (k : ℕ) (t : Tree) → Num k t → (p : Place) → Before k p → Nested p → All NotLive (walk t p) → All NestedAt (walk t p)
  nested k (ident x) n p o w a = (w, tt)
  nested k (const m q) n p o w a = tt
  nested k (if m b c d) n p o w a =
      let r = all_right NotLive (walk b p) (walk c p ++ walk d p) a in
      all-++ NestedAt (walk b p) (walk c p ++ walk d p) (nested (k + 1) b n.1 p (λ i l. o i (omega arith)) w (all_left NotLive (walk b p) (walk c p ++ walk d p) a))
      (all-++ NestedAt (walk c p) (walk d p) (nested (k + 1 + size b) c n.2 p (λ i l. o i (omega arith)) w (all_left NotLive (walk c p) (walk d p) r))
      (nested (k + 1 + size b + size c) d n.3 p (λ i l. o i (omega arith)) w (all_right NotLive (walk c p) (walk d p) r)))
  nested k (letin m xs es b) n p o w a =
      let body : Place = within (let_names xs p) (let_body (length xs) p) in
      let ent = entering (let_names xs p) p.scope in
      let r = all_right NotLive (walk_arguments es p) (ent ++ walk b body) a in
      let inside : Nested body =
      record {
        distinct = distinct_entered (let_names xs p) p.scope (all_left NotLive ent (walk b body) r) w.distinct;
        around = same_around true p.site.height (let_body (length xs) p) 0 xs p.scope w.around;
      } in
      all-++ NestedAt (walk_arguments es p) (ent ++ walk b body) (nested_in (k + 1 + length xs) es n.3 p (λ i l. o i (omega arith)) w
      (all_left NotLive (walk_arguments es p) (ent ++ walk b body) a))
      (all-++ NestedAt ent (walk b body) (nested-entering (let_names xs p) p.scope)
      (nested (k + 1 + length xs + sizes es) b n.4 body (λ i l. o i (omega arith)) inside (all_right NotLive ent (walk b body) r)))
  nested k (define m x b) n p o w a = nested (k + 2) b n.2 p (λ i l. o i (omega arith)) w a
  nested k (lambda m xs b) n p o w a =
      let body : Place = within (parameters m xs p) (lambda_body m (length xs) p) in
      let ent = entering (parameters m xs p) p.scope in
      let end = ends m.at xs p.scope ∷ [] in
      let r = all_right NotLive ent (walk b body ++ end) a in
      let lacks = o m.at (omega arith) in
      let inside : Nested body =
      record {
        distinct = distinct_entered (parameters m xs p) p.scope (all_left NotLive ent (walk b body ++ end) a) w.distinct;
        around = same_around false 0 (lambda_body m (length xs) p) 0 xs p.scope (all_map (λ c s. further (suffix_lacks m.at s lacks) s) p.scope
            w.around);
      } in
      all-++ NestedAt ent (walk b body ++ end) (nested-entering (parameters m xs p) p.scope)
      (all-++ NestedAt (walk b body) end
      (nested (k + 1 + length xs) b n.2 body (λ i l. rw (ne_eqb i m.at (λ z. omega arith)) (o i (omega arith))) inside (all_left NotLive (walk b body) end r))
      (tt, tt))
  nested k (sequence m es) n p o w a = nested-all (k + 1) es n.1 p (λ i l. o i (omega arith)) w a
  nested k (call m h es) n p o w a =
      let head : Place = raised (many es) p in
      all-++ NestedAt (walk_arguments es p) (walk h head) (nested_in (k + 1 + size h) es n.2 p (λ i l. o i (omega arith)) w
      (all_left NotLive (walk_arguments es p) (walk h head) a))
      (nested (k + 1) h n.1 head (λ i l. o i (omega arith)) (record { distinct = w.distinct; around = w.around })
      (all_right NotLive (walk_arguments es p) (walk h head) a))
  nested k (set! m x e) n p o w a =
      let here = mentions (record { ident = x; is_set = true; place = p }) ∷ [] in
      all-++ NestedAt (walk e p) here (nested (k + 2) e n.2 p (λ i l. o i (omega arith)) w (all_left NotLive (walk e p) here a)) (w, tt)

  nested_in : (k : ℕ) (ts : Trees) → Nums k ts → (p : Place) → Before k p → Nested p → All NotLive (walk_arguments ts p) → All NestedAt (walk_arguments ts p)
  nested_in k nil n p o w a = tt
  nested_in k (cons t ts) n p o w a =
      let rest = walk_arguments ts (raised 1 p) in
      all-++ NestedAt (walk t p) rest (nested k t n.0 p o w (all_left NotLive (walk t p) rest a))
      (nested_in (k + size t) ts n.1 (raised 1 p) (λ i l. o i (omega arith)) (record { distinct = w.distinct; around = w.around })
      (all_right NotLive (walk t p) rest a))

  pub nested-all : (k : ℕ) (ts : Trees) → Nums k ts → (p : Place) → Before k p → Nested p → All NotLive (walk_all ts p) → All NestedAt (walk_all ts p)
  nested-all k nil n p o w a = tt
  nested-all k (cons t ts) n p o w a =
      all-++ NestedAt (walk t p) (walk_all ts p) (nested k t n.0 p o w (all_left NotLive (walk t p) (walk_all ts p) a))
      (nested-all (k + size t) ts n.1 p (λ i l. o i (omega arith)) w (all_right NotLive (walk t p) (walk_all ts p) a))

-- What follows at a mention

-- b is bound outside the second lambda around, j

outside-first : {j : ℕ} {is a : List ℕ} → Suffix a (j ∷ is) → ltb (length a) (suc (length is)) ≡ not (member j a)
outside-first {j} {is} whole = rw (eq-eqb j j refl) (le-ltb (suc (length is)) (suc (length is)) (omega arith))
outside-first {is = is} {a} (further k s) = rw k (lt-ltb (length a) (suc (length is)) (omega (arith, suffix_length s)))

pub outside_second : {i j : ℕ} {is a : List ℕ} → Suffix a (i ∷ j ∷ is) → ltb (length a) (suc (length is)) ≡ not (member j a)
outside_second {i} {j} {is} whole = rw (eq-eqb j j refl, or-true (eqb j i)) (le-ltb (suc (suc (length is))) (suc (length is)) (omega arith))
outside_second (further m s) = outside-first s

-- other names like b's lie in other layers
doubled_times : (b : Binder) (sc : List Binder) → is_live b sc ≡ false → is_doubled b sc ≡ not (eqb (times_in b.ident.name sc) 0)
unfolding is_live is_doubled times_in
doubled_times b [] e = refl
doubled_times b (c ∷ sc) e =
    let both = or-false (eqb c.home.layer b.home.layer && eqb c.ident.name b.ident.name) (is_live b sc) e in
    go (eqb c.ident.name b.ident.name) (eqb c.home.layer b.home.layer) both.0 (doubled_times b sc both.1)
  where
    go : (n l : Bool) → (l && n) ≡ false → is_doubled b sc ≡ not (eqb (times_in b.ident.name sc) 0)
        → (n && not l) || is_doubled b sc ≡ not (eqb (cond n (suc (times_in b.ident.name sc)) (times_in b.ident.name sc)) 0)
    go true true h k = absurd (true≢false h)
    go true false h k = sym (ap not (ne_eqb (suc (times_in b.ident.name sc)) 0 (λ q. omega arith)))
    go false l h k = k

one_more_lem : (n : ℕ) → eqb (suc n) 1 ≡ eqb n 0
one_more_lem n = go (ℕ_discrete n 0)
  where
    go : Dec (n ≡ 0) → eqb (suc n) 1 ≡ eqb n 0
    go (yes e) = eq-eqb (suc n) 1 (omega arith) ∙ sym (eq-eqb n 0 e)
    go (no e) = ne_eqb (suc n) 1 (λ q. e (omega arith)) ∙ sym (ne_eqb n 0 e)

twice_not : (b : Bool) → not (not b) ≡ b
twice_not true = refl
twice_not false = refl

pub times_once : (sc : List Binder) (x : ℕ) (b : Binder) → Distinct sc → find sc x ≡ Some b → eqb (times_in x sc) 1 ≡ not (is_doubled b sc)
unfolding is_doubled times_in
times_once [] x b d e = absurd (none-some b e)
times_once (c ∷ sc) x b d e = go (eqb c.ident.name x) refl (λ q. times_once sc x b d.1 q) e
  where
    go : (q : Bool) → eqb c.ident.name x ≡ q → (find sc x ≡ Some b → eqb (times_in x sc) 1 ≡ not (is_doubled b sc)) → cond q (Some c) (find sc x) ≡ Some b
        → eqb (cond q (suc (times_in x sc)) (times_in x sc)) 1
        ≡ not ((eqb c.ident.name b.ident.name && not (eqb c.home.layer b.home.layer)) || is_doubled b sc)
    go true q k z =
        subst (λ (y : Binder). eqb (suc (times_in x sc)) 1
        ≡ not ((eqb c.ident.name y.ident.name && not (eqb c.home.layer y.home.layer)) || is_doubled y sc))
        (same_Some c b z)
        (rw (eq-eqb c.ident.name c.ident.name refl, eq-eqb c.home.layer c.home.layer refl)
        (one_more_lem (times_in x sc) ∙ ap (λ (y : ℕ). eqb (times_in y sc) 0) (sym (eqb-true c.ident.name x q)) ∙ sym
        (ap not (doubled_times c sc d.0) ∙ twice_not (eqb (times_in c.ident.name sc) 0))))
    go false q k z = rw (ap (eqb c.ident.name) (find_name sc x z) ∙ q) (k z)
