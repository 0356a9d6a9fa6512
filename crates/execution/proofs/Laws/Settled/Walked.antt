-- What holds of the events of a walk, by the records of its tree: which binders its mentions mean, which lambdas stand around them, which lambdas end.
use Rattle.std.specs.Prelude.{ℕ, suc, ◌+◌, ◌≤◌, ◌<◌, Bool, true, false, length}
use mathlib.Core.List.{List, [], ◌∷◌, ◌++◌, reverse_aux}
use Rattle.std.proofs.Common.{arith}
use Rattle.tree.specs.Tree.{Ident, Tree, Trees, ident, const, if, letin, define, lambda, sequence, call, set!, nil, cons, many, size, sizes, NumNames, Num, Nums}
use Rattle.tree.specs.Accepted.{All}
use Rattle.r7rs.specs.Binding.{Binder, Place, Event, enters, mentions, ends, meant, lambda_body, let_body, binders, parameters, let_names, raised, within, entering, walk, walk_arguments, walk_all}
use Rattle.pass_laws.specs.Laws.All.{all-++}
use Rattle.pass_laws.specs.Laws.Finds.{Of, find-all}
use Rattle.pass_laws.specs.Laws.Ranges.{Covers}

module _ (M : ℕ → Type 0) (Q : List ℕ → Type 0) (D : ℕ → Type 0) where
  abbrev pub Walked : Event → Type 0
  Walked (enters b sc) = Unit {0}
  Walked (mentions m) = Of (λ b. M b.ident.at) (meant m) × Q m.place.around
  Walked (ends i xs sc) = D i

  abbrev Bound : Binder → Type 0
  Bound b = M b.ident.at

  pub walked_entering : (bs sc : List Binder) → All Walked (entering bs sc)
  unfolding entering
  walked_entering [] sc = tt
  walked_entering (b ∷ bs) sc = (tt, walked_entering bs (b ∷ sc))

  named : (is_let : Bool) (base : ℕ) (q : Place) (j k : ℕ) (xs : List Ident) → NumNames k xs → Covers M k (k + length xs) → (sc : List Binder) → All Bound sc
      → All Bound (reverse_aux (binders is_let base q j xs) sc)
  unfolding NumNames binders
  named is_let base q j k [] n o sc a = a
  named is_let base q j k (x ∷ xs) n o sc a = named is_let base q (suc j) (k + 1) xs n.1 (λ y l u. o y (omega arith) (omega arith)) _
      (o x.at (omega arith) (omega arith), a)

  module _ (i j : ℕ) (means : Covers M i j) (ending : Covers D i j) (grow : (k : ℕ) → i ≤ k → k < j → (l : List ℕ) → Q l → Q (k ∷ l)) where
    mutual
      unfolding Num size walk

      pub walked : (k : ℕ) (t : Tree) → Num k t → i ≤ k → k + size t ≤ j → (p : Place) → All Bound p.scope → Q p.around → All Walked (walk t p)
      walked k (ident x) n l u p a q = ((find-all p.scope a x.name, q), tt)
      walked k (const m c) n l u p a q = tt
      walked k (if m b c d) n l u p a q =
          all-++ Walked (walk b p) (walk c p ++ walk d p) (walked (k + 1) b n.1 (omega arith) (omega arith) p a q)
          (all-++ Walked (walk c p) (walk d p) (walked (k + 1 + size b) c n.2 (omega arith) (omega arith) p a q)
          (walked (k + 1 + size b + size c) d n.3 (omega arith) (omega arith) p a q))
      walked k (letin m xs es b) n l u p a q =
          let body : Place = within (let_names xs p) (let_body (length xs) p) in
          let scope = named true p.site.height (let_body (length xs) p) 0 (k + 1) xs n.2 (λ y v w. means y (omega arith) (omega arith)) p.scope a in
          all-++ Walked (walk_arguments es p) (entering (let_names xs p) p.scope ++ walk b body)
          (walked_in (k + 1 + length xs) es n.3 (omega arith) (omega arith) p a q)
          (all-++ Walked (entering (let_names xs p) p.scope) (walk b body) (walked_entering (let_names xs p) p.scope)
          (walked (k + 1 + length xs + sizes es) b n.4 (omega arith) (omega arith) body scope q))
      walked k (define m x b) n l u p a q = walked (k + 2) b n.2 (omega arith) (omega arith) p a q
      walked k (lambda m xs b) n l u p a q =
          let body : Place = within (parameters m xs p) (lambda_body m (length xs) p) in
          let scope = named false 0 (lambda_body m (length xs) p) 0 (k + 1) xs n.1 (λ y v w. means y (omega arith) (omega arith)) p.scope a in
          all-++ Walked (entering (parameters m xs p) p.scope) (walk b body ++ (ends m.at xs p.scope ∷ []))
          (walked_entering (parameters m xs p) p.scope)
          (all-++ Walked (walk b body) (ends m.at xs p.scope ∷ [])
          (walked (k + 1 + length xs) b n.2 (omega arith) (omega arith) body scope (grow m.at (omega arith) (omega arith) p.around q))
          (ending m.at (omega arith) (omega arith), tt))
      walked k (sequence m es) n l u p a q = walked_all (k + 1) es n.1 (omega arith) (omega arith) p a q
      walked k (call m h es) n l u p a q =
          all-++ Walked (walk_arguments es p) (walk h (raised (many es) p)) (walked_in (k + 1 + size h) es n.2 (omega arith) (omega arith) p a q)
          (walked (k + 1) h n.1 (omega arith) (omega arith) (raised (many es) p) a q)
      walked k (set! m x e) n l u p a q =
          all-++ Walked (walk e p) (mentions (record { ident = x; is_set = true; place = p }) ∷ []) (walked (k + 2) e n.2 (omega arith) (omega arith) p a q)
          ((find-all p.scope a x.name, q), tt)

      pub walked_in : (k : ℕ) (ts : Trees) → Nums k ts → i ≤ k → k + sizes ts ≤ j → (p : Place) → All Bound p.scope → Q p.around
          → All Walked (walk_arguments ts p)
      walked_in k nil n l u p a q = tt
      walked_in k (cons t ts) n l u p a q =
          all-++ Walked (walk t p) (walk_arguments ts (raised 1 p)) (walked k t n.0 (omega arith) (omega arith) p a q)
          (walked_in (k + size t) ts n.1 (omega arith) (omega arith) (raised 1 p) a q)

      pub walked_all : (k : ℕ) (ts : Trees) → Nums k ts → i ≤ k → k + sizes ts ≤ j → (p : Place) → All Bound p.scope → Q p.around
          → All Walked (walk_all ts p)
      walked_all k nil n l u p a q = tt
      walked_all k (cons t ts) n l u p a q =
          all-++ Walked (walk t p) (walk_all ts p) (walked k t n.0 (omega arith) (omega arith) p a q)
          (walked_all (k + size t) ts n.1 (omega arith) (omega arith) p a q)
