-- Whether trees are numbered in preorder, as a test. Records that pass the checks are then those of the trees.
use Rattle.std.specs.Prelude.{ℕ, ◌+◌, Bool, true, ◌&&◌, List, [], ◌∷◌, ◌≡◌, eqb, ltb, length, None}
use Rattle.std.proofs.Math.Bool.{and-eq-true_iff}
use Rattle.std.proofs.Common.{sym, subst, ◌∙◌, eqb-true, ltb-true}
use Rattle.tree.specs.Record.{numbers}
use Rattle.tree.proofs.Laws.Record.{records-numbers}
use Rattle.tree.specs.Tree.{Ident, Sequence, begins, ands, whens, node_in, Tested, Tree, Trees, ident, const, if, letin, define, lambda, sequence, call, set!, nil, cons, many, flats, size, sizes, NumNames, Num, Nums}
use Rattle.tree.specs.Check.{refusal}
use Rattle.tree.specs.Accepted.{Accepted}
use Rattle.tree.proofs.Laws.Acceptance.{accepted, holds}
use Rattle.tree.proofs.Laws.Unique.{unique_trees}

-- clause by clause as `Num`

unfoldable pub names_numbered : ℕ → List Ident → Bool
names_numbered i [] = true
names_numbered i (x ∷ xs) = eqb x.at i && names_numbered (i + 1) xs

abbrev has_test : Sequence → ℕ → Bool
has_test (begins n) c = true
has_test (ands n) c = true
has_test (whens b n) c = ltb 0 c

unfoldable mutual
  pub tree_numbered : ℕ → Tree → Bool
  tree_numbered i (ident x) = eqb x.at i
  tree_numbered i (const n q) = eqb n.at i
  tree_numbered i (if n a b c) =
      eqb n.at i && (tree_numbered (i + 1) a && (tree_numbered (i + 1 + size a) b && tree_numbered (i + 1 + size a + size b) c))
  tree_numbered i (letin n xs es b) =
      eqb n.at i
      && (eqb (many es) (length xs)
      && (names_numbered (i + 1) xs && (numbered (i + 1 + length xs) es && tree_numbered (i + 1 + length xs + sizes es) b)))
  tree_numbered i (define n x b) = eqb n.at i && (eqb x.at (i + 1) && tree_numbered (i + 2) b)
  tree_numbered i (lambda n xs b) = eqb n.at i && (names_numbered (i + 1) xs && tree_numbered (i + 1 + length xs) b)
  tree_numbered i (sequence n es) = eqb (node_in n).at i && (numbered (i + 1) es && has_test n (many es))
  tree_numbered i (call n h es) = eqb n.at i && (tree_numbered (i + 1) h && numbered (i + 1 + size h) es)
  tree_numbered i (set! n x e) = eqb n.at i && (eqb x.at (i + 1) && tree_numbered (i + 2) e)

  pub numbered : ℕ → Trees → Bool
  numbered i nil = true
  numbered i (cons t ts) = tree_numbered i t && numbered (i + size t) ts

both : {a b : Bool} → (a && b) ≡ true → (a ≡ true) × (b ≡ true)
both {a} {b} e = (and-eq-true_iff a b).0 e

names_num : (i : ℕ) (xs : List Ident) → names_numbered i xs ≡ true → NumNames i xs
unfolding names_numbered NumNames
names_num i [] e = tt
names_num i (x ∷ xs) e = let (p, q) = both e in (eqb-true _ _ p, names_num (i + 1) xs q)

tested : (n : Sequence) (c : ℕ) → has_test n c ≡ true → Tested n c
tested (begins n) c e = tt
tested (ands n) c e = tt
tested (whens b n) c e = ltb-true _ _ e

mutual
  unfolding tree_numbered Num

  tree_num : (i : ℕ) (t : Tree) → tree_numbered i t ≡ true → Num i t
  tree_num i (ident x) e = eqb-true _ _ e
  tree_num i (const n q) e = eqb-true _ _ e
  tree_num i (if n a b c) e =
      let (p, f) = both e in
      let (q, g) = both f in
      let (r, h) = both g in
      (eqb-true _ _ p, tree_num _ a q, tree_num _ b r, tree_num _ c h)
  tree_num i (letin n xs es b) e =
      let (p, f) = both e in
      let (m, g) = both f in
      let (q, h) = both g in
      let (r, k) = both h in
      (eqb-true _ _ p, eqb-true _ _ m, names_num _ xs q, nums _ es r, tree_num _ b k)
  tree_num i (define n x b) e =
      let (p, f) = both e in
      let (q, g) = both f in
      (eqb-true _ _ p, eqb-true _ _ q, tree_num _ b g)
  tree_num i (lambda n xs b) e =
      let (p, f) = both e in
      let (q, g) = both f in
      (eqb-true _ _ p, names_num _ xs q, tree_num _ b g)
  tree_num i (sequence n es) e =
      let (p, f) = both e in
      let (q, g) = both f in
      (eqb-true _ _ p, nums _ es q, tested n (many es) g)
  tree_num i (call n h es) e =
      let (p, f) = both e in
      let (q, g) = both f in
      (eqb-true _ _ p, tree_num _ h q, nums _ es g)
  tree_num i (set! n x b) e =
      let (p, f) = both e in
      let (q, g) = both f in
      (eqb-true _ _ p, eqb-true _ _ q, tree_num _ b g)

  pub nums : (i : ℕ) (ts : Trees) → numbered i ts ≡ true → Nums i ts
  nums i nil e = tt
  nums i (cons t ts) e = let (p, q) = both e in (tree_num i t p, nums _ ts q)

-- the trees are those that their records say
pub accepted_as : (N : ℕ) (ts : Trees) → numbered 0 ts ≡ true → refusal N (numbers (flats ts)) ≡ None → Accepted N (numbers (flats ts)) ts
accepted_as N ts n e =
    let (us, a) = accepted N (numbers (flats ts)) e in
    let same = unique_trees ts us 0 (nums 0 ts n) a.num (sym (records-numbers (flats ts)) ∙ holds a) in
    subst (λ (vs : Trees). Accepted N (numbers (flats ts)) vs) (sym same) a
