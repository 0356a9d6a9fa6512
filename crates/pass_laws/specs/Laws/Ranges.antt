-- A tree that is numbered from i has its records from i up to its end, so it writes there alone.
use Rattle.std.specs.Prelude.{ℕ, ◌+◌, ◌≤◌, ◌<◌, length}
use mathlib.Core.List.{List, [], ◌∷◌}
use Rattle.std.proofs.Common.{arith}
use Rattle.tree.specs.Tree.{Ident, Tree, Trees, ident, const, if, letin, define, lambda, sequence, call, set!, nil, cons, size, sizes, NumNames, Num, Nums, begins, ands, whens}
use Rattle.tree.specs.Define.{◌⊕◌, top_of, top_level}
use Rattle.tree.specs.Accepted.{All}
use Rattle.tree.specs.Core.{core}
use Rattle.pass_laws.specs.Laws.Scopes.{Any, names-any}
use Rattle.pass_laws.specs.Laws.Visits.{Writes, WritesAll, writes_core, writes_cores}

-- the records from i up to j
abbrev pub Covers : (ℕ → Type 0) → ℕ → ℕ → Type 0
Covers own i j = (x : ℕ) → i ≤ x → x < j → own x

module _ (own : ℕ → Type 0) where
  pub names_writes : (k : ℕ) (xs : List Ident) → NumNames k xs → Covers own k (k + length xs) → All (λ x. own x.at) xs
  unfolding NumNames
  names_writes k [] n o = tt
  names_writes k (x ∷ xs) n o = (o x.at (omega arith) (omega arith), names_writes (k + 1) xs n.1 (λ y l u. o y (omega arith) (omega arith)))

  mutual
    unfolding Num size Writes

    pub tree_writes : (k : ℕ) (t : Tree) → Num k t → Covers own k (k + size t) → Writes own own t
    tree_writes k (ident x) n o = o x.at (omega arith) (omega arith)
    tree_writes k (const m q) n o = tt
    tree_writes k (if m a b c) n o = (
      tree_writes (k + 1) a n.1 (λ y l u. o y (omega arith) (omega arith)),
      tree_writes (k + 1 + size a) b n.2 (λ y l u. o y (omega arith) (omega arith)),
      tree_writes (k + 1 + size a + size b) c n.3 (λ y l u. o y (omega arith) (omega arith)),
    )
    tree_writes k (letin m xs es b) n o = (
      o m.at (omega arith) (omega arith),
      names_writes (k + 1) xs n.2 (λ y l u. o y (omega arith) (omega arith)),
      trees_writes (k + 1 + length xs) es n.3 (λ y l u. o y (omega arith) (omega arith)),
      tree_writes (k + 1 + length xs + sizes es) b n.4 (λ y l u. o y (omega arith) (omega arith)),
    )
    tree_writes k (define m x b) n o = (o x.at (omega arith) (omega arith), tree_writes (k + 2) b n.2 (λ y l u. o y (omega arith) (omega arith)))
    tree_writes k (lambda m xs b) n o = (
      o m.at (omega arith) (omega arith),
      names_writes (k + 1) xs n.1 (λ y l u. o y (omega arith) (omega arith)),
      tree_writes (k + 1 + length xs) b n.2 (λ y l u. o y (omega arith) (omega arith)),
    )
    tree_writes k (sequence m es) n o = trees_writes (k + 1) es n.1 (λ y l u. o y (omega arith) (omega arith))
    tree_writes k (call m g es) n o = (
      λ e. o m.at (omega arith) (omega arith),
      tree_writes (k + 1) g n.1 (λ y l u. o y (omega arith) (omega arith)),
      trees_writes (k + 1 + size g) es n.2 (λ y l u. o y (omega arith) (omega arith)),
    )
    tree_writes k (set! m x e) n o = (o x.at (omega arith) (omega arith), tree_writes (k + 2) e n.2 (λ y l u. o y (omega arith) (omega arith)))

    pub trees_writes : (k : ℕ) (ts : Trees) → Nums k ts → Covers own k (k + sizes ts) → WritesAll own own ts
    trees_writes k nil n o = tt
    trees_writes k (cons t ts) n o = (
      tree_writes k t n.0 (λ y l u. o y l (omega arith)),
      trees_writes (k + size t) ts n.1 (λ y l u. o y (omega arith) (omega arith)),
    )

-- What stands at top level

module _ (own : ℕ → Type 0) where
  writes_⊕ : (ts us : Trees) → WritesAll own own ts → WritesAll own own us → WritesAll own own (ts ⊕ us)
  unfolding ◌⊕◌ Writes
  writes_⊕ nil us v w = w
  writes_⊕ (cons t ts) us v w = (v.0, writes_⊕ ts us v.1 w)

  writes_of : (t : Tree) → Writes own own t → WritesAll own own (top_of t)
  unfolding top_of Writes
  writes_of (ident x) w = (w, tt)
  writes_of (const n q) w = (w, tt)
  writes_of (if n a b c) w = (w, tt)
  writes_of (letin n xs es b) w = (w, tt)
  writes_of (define n x b) w = (w, tt)
  writes_of (lambda n xs b) w = (w, tt)
  writes_of (sequence (begins n) es) w = writes_cores own own es w
  writes_of (sequence (ands n) es) w = (w, tt)
  writes_of (sequence (whens b n) es) w = (w, tt)
  writes_of (call n h es) w = (w, tt)
  writes_of (set! n x e) w = (w, tt)

  pub writes_top : (ts : Trees) → WritesAll own own ts → WritesAll own own (top_level ts)
  unfolding top_level Writes
  writes_top nil w = tt
  writes_top (cons t ts) w = writes_⊕ (top_of (core t)) (top_level ts) (writes_of (core t) (writes_core own own t w.0)) (writes_top ts w.1)

-- A tree writes somewhere, for what holds of every change
mutual
  unfolding Writes

  pub tree_any : (t : Tree) → Writes Any Any t
  tree_any (ident x) = tt
  tree_any (const n q) = tt
  tree_any (if n a b c) = (tree_any a, tree_any b, tree_any c)
  tree_any (letin n xs es b) = (tt, names-any xs, trees_any es, tree_any b)
  tree_any (define n x b) = (tt, tree_any b)
  tree_any (lambda n xs b) = (tt, names-any xs, tree_any b)
  tree_any (sequence n es) = trees_any es
  tree_any (call n h es) = (λ e. tt, tree_any h, trees_any es)
  tree_any (set! n x e) = (tt, tree_any e)

  pub trees_any : (ts : Trees) → WritesAll Any Any ts
  trees_any nil = tt
  trees_any (cons t ts) = (tree_any t, trees_any ts)
