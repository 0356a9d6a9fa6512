-- Laws of what an expression is.
use Rattle.std.specs.Prelude.{ℕ, suc, ◌+◌, ◌≤◌, List, ◌++◌, false, ◌≡◌, refl}
use Rattle.std.proofs.Common.{append-nil, ap, ap₂, sym, ◌∙◌, arith}
use Rattle.tree.specs.Tree.{Node, Tree, Trees, ident, const, if, letin, define, lambda, sequence, call, set!, nil, cons, begins, ands, whens, many, size, sizes, Num}
use Rattle.tree.specs.Core.{core, and_of, cores, peel, peel_and}
use Rattle.tree.specs.Define.{defines, defines_in}

-- What passes from an and of none to a constant, and from an and of one child to the child, passes from a tree to what it is
module _ (P : Tree → Type 0) (none : (n : Node) → P (sequence (ands n) nil) → P (const n false)) (one : (n : Node) (t : Tree) → P (sequence (ands n) (cons t nil)) → P t) where
  mutual
    pub to_core : (t : Tree) → P t → P (core t)
    to_core (ident x) p = p
    to_core (const n q) p = p
    to_core (if n a b c) p = p
    to_core (letin n xs es b) p = p
    to_core (define n x b) p = p
    to_core (lambda n xs b) p = p
    to_core (sequence (begins n) es) p = p
    to_core (sequence (ands n) es) p = to-and es n p
    to_core (sequence (whens b n) es) p = p
    to_core (call n h es) p = p
    to_core (set! n x e) p = p

    to-and : (es : Trees) (n : Node) → P (sequence (ands n) es) → P (and_of es n)
    to-and nil n p = none n p
    to-and (cons t nil) n p = to_core t (one n t p)
    to-and (cons t (cons u us)) n p = p

-- and back
module _ (P : Tree → Type 0) (none : (n : Node) → P (const n false) → P (sequence (ands n) nil)) (one : (n : Node) (t : Tree) → P t → P (sequence (ands n) (cons t nil))) where
  mutual
    pub from_core : (t : Tree) → P (core t) → P t
    from_core (ident x) p = p
    from_core (const n q) p = p
    from_core (if n a b c) p = p
    from_core (letin n xs es b) p = p
    from_core (define n x b) p = p
    from_core (lambda n xs b) p = p
    from_core (sequence (begins n) es) p = p
    from_core (sequence (ands n) es) p = from_and es n p
    from_core (sequence (whens b n) es) p = p
    from_core (call n h es) p = p
    from_core (set! n x e) p = p

    from_and : (es : Trees) (n : Node) → P (and_of es n) → P (sequence (ands n) es)
    from_and nil n p = none n p
    from_and (cons t nil) n p = one n t (from_core t p)
    from_and (cons t (cons u us)) n p = p

pub many-cores : (ts : Trees) → many (cores ts) ≡ many ts
many-cores nil = refl
many-cores (cons t ts) = ap suc (many-cores ts)

pub size_core : (t : Tree) → size (core t) ≤ size t
unfolding size
size_core t = to_core (λ u. size u ≤ size t) (λ n p. omega arith) (λ n u p. omega arith) t (omega arith)

pub sizes_cores : (ts : Trees) → sizes (cores ts) ≤ sizes ts
unfolding size
sizes_cores nil = omega arith
sizes_cores (cons t ts) = omega (arith, size_core t, sizes_cores ts)

-- a tree numbered from some record on, between i and j
abbrev pub Between : ℕ → ℕ → Tree → Type 0
Between i j t = (k : ℕ) × (i ≤ k) × Num k t × (k + size t ≤ j)

pub num_core : (i : ℕ) (t : Tree) → Num i t → Between i (i + size t) (core t)
unfolding size Num
num_core i t n =
    to_core (Between i (i + size t))
    (λ m p. (p.0, p.1, p.2.0, omega (arith, p.3)))
    (λ m u p. (p.0 + 1, omega (arith, p.1), p.2.1.0, omega (arith, p.3)))
    t (i, omega arith, n, omega arith)

-- the same defines
pub defines_core : (t : Tree) → defines (core t) ≡ defines t
unfolding defines
defines_core t = to_core (λ u. defines u ≡ defines t) (λ n p. p) (λ n u p. sym (append-nil (defines u)) ∙ p) t refl

pub defines_cores : (ts : Trees) → defines_in (cores ts) ≡ defines_in ts
unfolding defines
defines_cores nil = refl
defines_cores (cons t ts) = ap₂ (λ (a b : List ℕ). a ++ b) (defines_core t) (defines_cores ts)

pub core_core : (t : Tree) → core (core t) ≡ core t
core_core t = to_core (λ u. core u ≡ core t) (λ n p. p) (λ n u p. p) t refl

-- What a tree is, and what stands at the record reached by stepping over ands of one child: one tree, but for an and of none, which is a constant
pub data Peeled : Tree → Tree → Type 0 where
  same : (t : Tree) → Peeled t t
  none : (n : Node) → Peeled (const n false) (sequence (ands n) nil)

mutual
  pub peeled : (t : Tree) → Peeled (core t) (peel t)
  peeled (ident x) = same (ident x)
  peeled (const n q) = same (const n q)
  peeled (if n a b c) = same (if n a b c)
  peeled (letin n xs es b) = same (letin n xs es b)
  peeled (define n x b) = same (define n x b)
  peeled (lambda n xs b) = same (lambda n xs b)
  peeled (sequence (begins n) es) = same (sequence (begins n) es)
  peeled (sequence (ands n) es) = peeled_and es n
  peeled (sequence (whens b n) es) = same (sequence (whens b n) es)
  peeled (call n h es) = same (call n h es)
  peeled (set! n x e) = same (set! n x e)

  peeled_and : (es : Trees) (n : Node) → Peeled (and_of es n) (peel_and es n)
  peeled_and nil n = none n
  peeled_and (cons t nil) n = peeled t
  peeled_and (cons t (cons u us)) n = same (sequence (ands n) (cons t (cons u us)))

-- what says the same of an and of none and of a constant says the same of the two
module _ {A : Type 0} (g : Tree → A) (alike : (n : Node) → g (const n false) ≡ g (sequence (ands n) nil)) where
  of_peeled : {c t : Tree} → Peeled c t → g c ≡ g t
  of_peeled (same t) = refl
  of_peeled (none n) = alike n

  pub by_peel : (t : Tree) → g (core t) ≡ g (peel t)
  by_peel t = of_peeled (peeled t)

pub core_peel : (t : Tree) → core (peel t) ≡ core t
core_peel t = sym (by_peel core (λ n. refl) t) ∙ core_core t
