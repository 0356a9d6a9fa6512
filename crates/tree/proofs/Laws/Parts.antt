-- A tree by its parts: its own record, then its names, then its other children.
use Rattle.std.specs.Prelude.{ℕ, suc, ◌+◌, ◌<◌, List, [], ◌∷◌, ◌++◌, map, ◌≡◌, Bool, true, false, ◌&&◌, ◌||◌, eqb}
use Rattle.std.proofs.Common.{append_assoc, append-nil, ap, sym, subst, ◌∙◌, arith, ne_eqb}
use Rattle.std.proofs.Math.Path.{refl, subst⁻¹}
use Rattle.std.proofs.lemmas.Bool.{eqb-false}
use Rattle.std.proofs.Math.ListN.{length}
use Rattle.tree.specs.Record.{Record}
use Rattle.tree.specs.Form.{form_of, names_of, others_of}
use Rattle.tree.specs.Tree.{Ident, Tree, Trees, ident, const, if, letin, define, lambda, sequence, call, set!, nil, cons, many, Sequence, begins, ands, whens, node_in, form_in, Tested, head, named, bit, flat, flats, size, sizes, nesting, nestings, NumNames, Num, Nums}
use Rattle.tree.specs.Check.{untested}
use Rattle.tree.specs.Define.{◌⊕◌}
use Rattle.tree.proofs.Laws.Tree.{flats_⊕, sizes_⊕, many-⊕, nestings_⊕, nums_⊕, ⊕-nums}

unfoldable pub own : Tree → Record
own (ident x) = named x
own (const n q) = head 2 n (bit q) 0
own (if n a b c) = head 3 n 0 0
own (letin n xs es b) = head 4 n 0 (length xs)
own (define n x b) = head 5 n 0 0
own (lambda n xs b) = head 6 n 0 (length xs)
own (sequence n es) = head (form_in n) (node_in n) 0 (many es)
own (call n h es) = head 8 n 0 (suc (many es))
own (set! n x e) = head 9 n 0 0

unfoldable pub names : Tree → List Ident
names (ident x) = []
names (const n q) = []
names (if n a b c) = []
names (letin n xs es b) = xs
names (define n x b) = x ∷ []
names (lambda n xs b) = xs
names (sequence n es) = []
names (call n h es) = []
names (set! n x e) = x ∷ []

unfoldable pub others : Tree → Trees
others (ident x) = nil
others (const n q) = nil
others (if n a b c) = cons a (cons b (cons c nil))
others (letin n xs es b) = es ⊕ cons b nil
others (define n x b) = cons b nil
others (lambda n xs b) = cons b nil
others (sequence n es) = es
others (call n h es) = cons h es
others (set! n x e) = cons e nil

unfoldable pub at : Tree → ℕ
at (ident x) = x.at
at (const n q) = n.at
at (if n a b c) = n.at
at (letin n xs es b) = n.at
at (define n x b) = n.at
at (lambda n xs b) = n.at
at (sequence n es) = (node_in n).at
at (call n h es) = n.at
at (set! n x e) = n.at

-- the records of a tree
pub flat_own : (t : Tree) → flat t ≡ own t ∷ (map named (names t) ++ flats (others t))
unfolding flat own names others
flat_own (ident x) = refl
flat_own (const n q) = refl
flat_own (if n a b c) = ap (λ (l : List Record). head 3 n 0 0 ∷ (flat a ++ (flat b ++ l))) (sym (append-nil (flat c)))
flat_own (letin n xs es b) = simp (flats_⊕, append-nil)
flat_own (define n x b) = simp append-nil
flat_own (lambda n xs b) = simp append-nil
flat_own (sequence n es) = refl
flat_own (call n h es) = refl
flat_own (set! n x e) = simp append-nil

-- and the records after it
pub flat_with : (t : Tree) (r : List Record) → flat t ++ r ≡ own t ∷ (map named (names t) ++ (flats (others t) ++ r))
flat_with t r =
    ap (λ (l : List Record). l ++ r) (flat_own t)
    ∙ ap (λ (l : List Record). own t ∷ l) (append_assoc (map named (names t)) (flats (others t)) r)

pub size-own : (t : Tree) → size t ≡ suc (length (names t) + sizes (others t))
unfolding size names others
size-own (ident x) = refl
size-own (const n q) = refl
size-own (if n a b c) = omega arith
size-own (letin n xs es b) = omega (arith, sizes_⊕ es (cons b nil))
size-own (define n x b) = omega arith
size-own (lambda n xs b) = omega arith
size-own (sequence n es) = omega arith
size-own (call n h es) = omega arith
size-own (set! n x e) = omega arith

pub nesting_own : (t : Tree) → nesting t ≡ suc (nestings (others t))
unfolding nesting others
nesting_own (ident x) = refl
nesting_own (const n q) = refl
nesting_own (if n a b c) = omega arith
nesting_own (letin n xs es b) = omega (arith, nestings_⊕ es (cons b nil))
nesting_own (define n x b) = omega arith
nesting_own (lambda n xs b) = omega arith
nesting_own (sequence n es) = omega arith
nesting_own (call n h es) = omega arith
nesting_own (set! n x e) = omega arith

pub nesting_pos : (t : Tree) → 0 < nesting t
nesting_pos t = omega (arith, nesting_own t)

-- beside a name stands another child
pub names_nest : (t : Tree) → 0 < length (names t) → 0 < nestings (others t)
unfolding nesting names others
names_nest (ident x) h = absurd (omega arith)
names_nest (const n q) h = absurd (omega arith)
names_nest (if n a b c) h = absurd (omega arith)
names_nest (letin n xs es b) h = omega (arith, nestings_⊕ es (cons b nil), nesting_pos b)
names_nest (define n x b) h = omega (arith, nesting_pos b)
names_nest (lambda n xs b) h = omega (arith, nesting_pos b)
names_nest (sequence n es) h = absurd (omega arith)
names_nest (call n h es) g = absurd (omega arith)
names_nest (set! n x e) h = omega (arith, nesting_pos e)

-- A tree numbered from i, by its parts: the counts of its record's form are those of its children, which are numbered after it
pub record Numbered (i : ℕ) (t : Tree) : Type 0 where
  pub here : at t ≡ i
  pub name_count : length (names t) ≡ names_of (own t).form (own t).count
  pub other_count : many (others t) ≡ others_of (own t).form (own t).count
  pub tested : untested (own t) ≡ false
  pub name_nums : NumNames (i + 1) (names t)
  pub other_nums : Nums (i + 1 + length (names t)) (others t)

numbered : (i : ℕ) (t : Tree) → at t ≡ i → length (names t) ≡ names_of (own t).form (own t).count
    → many (others t) ≡ others_of (own t).form (own t).count → untested (own t) ≡ false → NumNames (i + 1) (names t) → Nums (i + 1 + length (names t)) (others t)
    → Numbered i t
numbered i t h n o q ns os = record { here = h; name_count = n; other_count = o; tested = q; name_nums = ns; other_nums = os }

-- sums as `Num` has them and as the parts have them
none-on : (i : ℕ) → i + 1 ≡ i + 1 + 0
none-on i = omega arith

one_on : (i : ℕ) → i + 2 ≡ i + 1 + 1
one_on i = omega arith

-- the children of a sequence's form
pub names_in_lem : (k : Sequence) (c : ℕ) → names_of (form_in k) c ≡ 0
unfolding names_of form_of
names_in_lem (begins n) c = refl
names_in_lem (ands n) c = refl
names_in_lem (whens true n) c = refl
names_in_lem (whens false n) c = refl

pub others_in_lem : (k : Sequence) (c : ℕ) → others_of (form_in k) c ≡ c
unfolding others_of form_of
others_in_lem (begins n) c = refl
others_in_lem (ands n) c = refl
others_in_lem (whens true n) c = refl
others_in_lem (whens false n) c = refl

-- check 16 does not apply exactly if a test stands there
abbrev untested_as : ℕ → ℕ → Bool
untested_as f c = (eqb f 11 || eqb f 12) && eqb c 0

test_of : (k : Sequence) (c : ℕ) → Tested k c → untested_as (form_in k) c ≡ false
test_of (begins n) c h = refl
test_of (ands n) c h = refl
test_of (whens true n) c h = ne_eqb c 0 (λ e. absurd (omega arith))
test_of (whens false n) c h = ne_eqb c 0 (λ e. absurd (omega arith))

of_test : (k : Sequence) (c : ℕ) → untested_as (form_in k) c ≡ false → Tested k c
of_test (begins n) c e = tt
of_test (ands n) c e = tt
of_test (whens true n) c e = let z = eqb-false c 0 e in omega arith
of_test (whens false n) c e = let z = eqb-false c 0 e in omega arith

module _ (i : ℕ) where
  pub num_own : (t : Tree) → Num i t → Numbered i t
  unfolding own names others at NumNames Num size names_of others_of form_of
  num_own (ident x) n = numbered i (ident x) n refl refl refl tt tt
  num_own (const m q) n = numbered i (const m q) n refl refl refl tt tt
  num_own (if m a b c) n =
      numbered i (if m a b c) n.0 refl refl refl tt (subst (λ (k : ℕ). Nums k (cons a (cons b (cons c nil)))) (none-on i) (n.1, (n.2, (n.3, tt))))
  num_own (letin m xs es b) n =
      numbered i (letin m xs es b) n.0 refl (omega (arith, many-⊕ es (cons b nil), n.1)) refl n.2 (nums_⊕ (i + 1 + length xs) es (cons b nil) n.3 (n.4, tt))
  num_own (define m x b) n = numbered i (define m x b) n.0 refl refl refl (n.1, tt) (subst (λ (k : ℕ). Num k b) (one_on i) n.2, tt)
  num_own (lambda m xs b) n = numbered i (lambda m xs b) n.0 refl refl refl n.1 (n.2, tt)
  num_own (sequence m es) n =
      numbered i (sequence m es) n.0 (sym (names_in_lem m (many es))) (sym (others_in_lem m (many es))) (test_of m (many es) n.2) tt
      (subst (λ (k : ℕ). Nums k es) (none-on i) n.1)
  num_own (call m h es) n = numbered i (call m h es) n.0 refl refl refl tt (subst (λ (k : ℕ). Nums k (cons h es)) (none-on i) (n.1, n.2))
  num_own (set! m x e) n = numbered i (set! m x e) n.0 refl refl refl (n.1, tt) (subst (λ (k : ℕ). Num k e) (one_on i) n.2, tt)

  pub own_num : (t : Tree) → Numbered i t → Num i t
  unfolding own names others at NumNames Num size names_of others_of form_of
  own_num (ident x) p = p.here
  own_num (const m q) p = p.here
  own_num (if m a b c) p =
      let n : Nums (i + 1) (cons a (cons b (cons c nil))) = subst⁻¹ (λ (k : ℕ). Nums k (cons a (cons b (cons c nil)))) (none-on i) p.other_nums in
      (p.here, n.0, n.1.0, n.1.1.0)
  own_num (letin m xs es b) p =
      let n = ⊕-nums (i + 1 + length xs) es (cons b nil) p.other_nums in
      (p.here, omega (arith, many-⊕ es (cons b nil), p.other_count), p.name_nums, n.0, n.1.0)
  own_num (define m x b) p = (p.here, p.name_nums.0, subst⁻¹ (λ (k : ℕ). Num k b) (one_on i) p.other_nums.0)
  own_num (lambda m xs b) p = (p.here, p.name_nums, p.other_nums.0)
  own_num (sequence m es) p = (p.here, subst⁻¹ (λ (k : ℕ). Nums k es) (none-on i) p.other_nums, of_test m (many es) p.tested)
  own_num (call m h es) p =
      let n : Nums (i + 1) (cons h es) = subst⁻¹ (λ (k : ℕ). Nums k (cons h es)) (none-on i) p.other_nums in
      (p.here, n.0, n.1)
  own_num (set! m x e) p = (p.here, p.name_nums.0, subst⁻¹ (λ (k : ℕ). Num k e) (one_on i) p.other_nums.0)

-- Induction: what holds of a tree if it does of each of its other children, holds of every tree
module _ (P : Tree → Type 0) where
  abbrev pub Each : Trees → Type 0
  Each nil = Unit {0}
  Each (cons t ts) = P t × Each ts

  pub each_⊕ : (ts us : Trees) → Each ts → Each us → Each (ts ⊕ us)
  unfolding ◌⊕◌
  each_⊕ nil us p q = q
  each_⊕ (cons t ts) us p q = (p.0, each_⊕ ts us p.1 q)

  module _ (step : (t : Tree) → Each (others t) → P t) where
    mutual
      unfolding others

      pub induct : (t : Tree) → P t
      induct (ident x) = step (ident x) tt
      induct (const n q) = step (const n q) tt
      induct (if n a b c) = step (if n a b c) (induct a, (induct b, (induct c, tt)))
      induct (letin n xs es b) = step (letin n xs es b) (each_⊕ es (cons b nil) (inducts es) (induct b, tt))
      induct (define n x b) = step (define n x b) (induct b, tt)
      induct (lambda n xs b) = step (lambda n xs b) (induct b, tt)
      induct (sequence n es) = step (sequence n es) (inducts es)
      induct (call n h es) = step (call n h es) (induct h, inducts es)
      induct (set! n x e) = step (set! n x e) (induct e, tt)

      pub inducts : (ts : Trees) → Each ts
      inducts nil = tt
      inducts (cons t ts) = (induct t, inducts ts)
