-- The top level: its trees stand one after another, and a top-level begin's own record before its children.
use Rattle.std.specs.Prelude.{ℕ, ◌+◌, ◌≤◌, List, ◌++◌, Bool, false, ◌≡◌, refl}
use Rattle.std.proofs.Common.{append_assoc, append-nil, ap, ap₂, sym, ◌∙◌, arith}
use Rattle.tree.specs.Tree.{Tree, Trees, ident, const, if, letin, define, lambda, sequence, call, set!, nil, cons, size, sizes, Num, Nums, begins, ands, whens}
use Rattle.tree.specs.Define.{◌⊕◌, top_of, top_level}
use Rattle.r7rs.specs.Tail.{Call, calls, calls_in, calls_last}
use Rattle.tree.specs.Core.{core, cores}
use Rattle.tree.proofs.Laws.Core.{to_core, num_core}
use Rattle.pass_laws.specs.Spread.{Spread}
use Rattle.pass_laws.specs.Laws.Visits.{Writes, WritesAll}
use Rattle.pass_laws.specs.Laws.Ranges.{Covers, tree_writes}

pub spread_within : (i j k m : ℕ) (ts : Trees) → i ≤ j → k ≤ m → Spread j k ts → Spread i m ts
spread_within i j k m nil h g p = omega arith
spread_within i j k m (cons t ts) h g p =
    (p.0, omega (arith, p.1), p.2, spread_within (p.0 + size t) (p.0 + size t) k m ts (omega arith) g p.3)

spread_⊕ : (i j k : ℕ) (ts us : Trees) → Spread i j ts → Spread j k us → Spread i k (ts ⊕ us)
unfolding ◌⊕◌
spread_⊕ i j k nil us p q = spread_within i j k k us p (omega arith) q
spread_⊕ i j k (cons t ts) us p q = (p.0, p.1, p.2, spread_⊕ (p.0 + size t) j k ts us p.3 q)

-- what numbered trees are
pub spread_cores : (i : ℕ) (ts : Trees) → Nums i ts → Spread i (i + sizes ts) (cores ts)
unfolding Num size
spread_cores i nil n = omega arith
spread_cores i (cons t ts) n =
    let c = num_core i t n.0 in
    (c.0, c.1, c.2, spread_within _ (i + size t) (i + size t + sizes ts) _ (cores ts) c.3 (omega arith) (spread_cores (i + size t) ts n.1))

spread_one : (i : ℕ) (t : Tree) → Num i t → Spread i (i + size t) (cons t nil)
spread_one i t n = (i, omega arith, n, omega arith)

spread_of : (i : ℕ) (t : Tree) → Num i t → Spread i (i + size t) (top_of t)
unfolding top_of Num size
spread_of i (ident x) n = spread_one i (ident x) n
spread_of i (const m q) n = spread_one i (const m q) n
spread_of i (if m a b c) n = spread_one i (if m a b c) n
spread_of i (letin m xs es b) n = spread_one i (letin m xs es b) n
spread_of i (define m x b) n = spread_one i (define m x b) n
spread_of i (lambda m xs b) n = spread_one i (lambda m xs b) n
spread_of i (sequence (begins m) es) n = spread_within i (i + 1) (i + 1 + sizes es) _ (cores es) (omega arith) (omega arith) (spread_cores (i + 1) es n.1)
spread_of i (sequence (ands m) es) n = spread_one i (sequence (ands m) es) n
spread_of i (sequence (whens b m) es) n = spread_one i (sequence (whens b m) es) n
spread_of i (call m h es) n = spread_one i (call m h es) n
spread_of i (set! m x e) n = spread_one i (set! m x e) n

pub spread_top : (i : ℕ) (ts : Trees) → Nums i ts → Spread i (i + sizes ts) (top_level ts)
unfolding top_level Num size
spread_top i nil n = omega arith
spread_top i (cons t ts) n =
    let c = num_core i t n.0 in
    spread_within i i (i + size t + sizes ts) _ (top_of (core t) ⊕ top_level ts) (omega arith) (omega arith)
    (spread_⊕ i (i + size t) (i + size t + sizes ts) (top_of (core t)) (top_level ts)
    (spread_within i c.0 (c.0 + size (core t)) (i + size t) (top_of (core t)) c.1 c.3 (spread_of c.0 (core t) c.2)) (spread_top (i + size t) ts n.1))

pub spread_end : (i j : ℕ) (ts : Trees) → Spread i j ts → i ≤ j
spread_end i j nil p = p
spread_end i j (cons t ts) p = omega (arith, p.1, spread_end (p.0 + size t) j ts p.3)

pub spread_writes : (own : ℕ → Type 0) (i j : ℕ) (ts : Trees) → Spread i j ts → Covers own i j → WritesAll own own ts
unfolding Writes
spread_writes own i j nil p o = tt
spread_writes own i j (cons t ts) p o =
    let e = spread_end (p.0 + size t) j ts p.3 in (
      tree_writes own p.0 t p.2 (λ x l u. o x (omega (arith, p.1)) (omega arith)),
      spread_writes own (p.0 + size t) j ts p.3 (λ x l u. o x (omega (arith, p.1)) u),
    )

-- The calls at top level are those of the trees: no begin there stands in tail position

calls_⊕ : (ts us : Trees) → calls_in (ts ⊕ us) ≡ calls_in ts ++ calls_in us
unfolding ◌⊕◌ calls
calls_⊕ nil us = refl
calls_⊕ (cons t ts) us = ap (λ (l : List Call). calls t false ++ l) (calls_⊕ ts us) ∙ sym (append_assoc (calls t false) (calls_in ts) (calls_in us))

calls_last_lem : (ts : Trees) → calls_in ts ≡ calls_last ts false
unfolding calls
calls_last_lem nil = refl
calls_last_lem (cons t nil) = append-nil (calls t false)
calls_last_lem (cons t (cons u us)) = ap (λ (l : List Call). calls t false ++ l) (calls_last_lem (cons u us))

pub calls_core : (t : Tree) (b : Bool) → calls (core t) b ≡ calls t b
unfolding calls
calls_core t b = to_core (λ u. calls u b ≡ calls t b) (λ n p. p) (λ n u p. p) t refl

calls_cores : (ts : Trees) → calls_in (cores ts) ≡ calls_in ts
unfolding calls
calls_cores nil = refl
calls_cores (cons t ts) = ap₂ (λ (a b : List Call). a ++ b) (calls_core t false) (calls_cores ts)

calls_of : (t : Tree) → calls_in (top_of t) ≡ calls t false
unfolding top_of calls
calls_of (ident x) = refl
calls_of (const n q) = refl
calls_of (if n a b c) = append-nil (calls (if n a b c) false)
calls_of (letin n xs es b) = append-nil (calls (letin n xs es b) false)
calls_of (define n x b) = append-nil (calls (define n x b) false)
calls_of (lambda n xs b) = append-nil (calls (lambda n xs b) false)
calls_of (sequence (begins n) es) = calls_cores es ∙ calls_last_lem es
calls_of (sequence (ands n) es) = append-nil (calls (sequence (ands n) es) false)
calls_of (sequence (whens b n) es) = append-nil (calls (sequence (whens b n) es) false)
calls_of (call n h es) = append-nil (calls (call n h es) false)
calls_of (set! n x e) = append-nil (calls (set! n x e) false)

pub calls_top : (ts : Trees) → calls_in (top_level ts) ≡ calls_in ts
unfolding top_level calls
calls_top nil = refl
calls_top (cons t ts) =
    calls_⊕ (top_of (core t)) (top_level ts)
    ∙ ap (λ (l : List Call). l ++ calls_in (top_level ts)) (calls_of (core t) ∙ calls_core t false)
    ∙ ap (λ (l : List Call). calls t false ++ l) (calls_top ts)
