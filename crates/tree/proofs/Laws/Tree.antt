-- Laws of trees: their sizes, their records and the numbers of those, and lists of trees put together.
use Rattle.std.specs.Prelude.{ℕ, ◌+◌, ◌*◌, ◌%◌, max, ◌≤◌, ◌<◌, List, ◌++◌, map, ◌≡◌, refl, length}
use Rattle.std.proofs.Common.{append_assoc, ap, sym, subst, ◌∙◌, arith, length-append}
use Rattle.std.proofs.Math.Nat.{mul-mod_right}
use Rattle.std.proofs.lemmas.List.{length-map}
use Rattle.table.specs.Laws.Layout.{layout-append, length-layout}
use Rattle.tree.proofs.Laws.Record.{put_long}
use Rattle.tree.specs.Record.{Record, width, put, numbers}
use Rattle.tree.specs.Tree.{Tree, Trees, ident, const, if, letin, define, lambda, sequence, call, set!, nil, cons, many, named, flat, flats, size, sizes, nesting, nestings, Num, Nums}
use Rattle.tree.specs.Define.{◌⊕◌}

-- Sizes

pub size_pos : (t : Tree) → 0 < size t
unfolding size
size_pos (ident x) = omega arith
size_pos (const n q) = omega arith
size_pos (if n a b c) = omega arith
size_pos (letin n xs es b) = omega arith
size_pos (define n x b) = omega arith
size_pos (lambda n xs b) = omega arith
size_pos (sequence n es) = omega arith
size_pos (call n h es) = omega arith
size_pos (set! n x e) = omega arith

pub many_sizes : (ts : Trees) → many ts ≤ sizes ts
unfolding size
many_sizes nil = omega arith
many_sizes (cons t ts) = omega (arith, size_pos t, many_sizes ts)

mutual
  unfolding flat size

  pub length_flat : (t : Tree) → length (flat t) ≡ size t
  length_flat (ident x) = refl
  length_flat (const n q) = refl
  length_flat (if n a b c) =
      omega (
        arith,
        length-append (flat a) (flat b ++ flat c),
        length-append (flat b) (flat c),
        length_flat a,
        length_flat b,
        length_flat c,
      )
  length_flat (letin n xs es b) =
      omega (
        arith,
        length-append (map named xs) (flats es ++ flat b),
        length-map xs named,
        length-append (flats es) (flat b),
        length_flats es,
        length_flat b,
      )
  length_flat (define n x b) = omega (arith, length_flat b)
  length_flat (lambda n xs b) = omega (arith, length-append (map named xs) (flat b), length-map xs named, length_flat b)
  length_flat (sequence n es) = omega (arith, length_flats es)
  length_flat (call n h es) = omega (arith, length-append (flat h) (flats es), length_flat h, length_flats es)
  length_flat (set! n x e) = omega (arith, length_flat e)

  pub length_flats : (ts : Trees) → length (flats ts) ≡ sizes ts
  length_flats nil = refl
  length_flats (cons t ts) = omega (arith, length-append (flat t) (flats ts), length_flat t, length_flats ts)

-- The numbers of records, and of the records of trees

pub numbers-append : (l r : List Record) → numbers (l ++ r) ≡ numbers l ++ numbers r
numbers-append = layout-append put

pub length-numbers : (l : List Record) → length (numbers l) ≡ width * length l
length-numbers = length-layout width put put_long

pub whole_numbers : (l : List Record) → length (numbers l) % width ≡ 0
whole_numbers l = ap (λ (n : ℕ). n % width) (length-numbers l) ∙ mul-mod_right width (length l)

-- Lists of trees put together

pub flats_⊕ : (ts us : Trees) → flats (ts ⊕ us) ≡ flats ts ++ flats us
unfolding flat ◌⊕◌
flats_⊕ nil us = refl
flats_⊕ (cons t ts) us = ap (λ (l : List Record). flat t ++ l) (flats_⊕ ts us) ∙ sym (append_assoc (flat t) (flats ts) (flats us))

pub sizes_⊕ : (ts us : Trees) → sizes (ts ⊕ us) ≡ sizes ts + sizes us
unfolding size ◌⊕◌
sizes_⊕ nil us = omega arith
sizes_⊕ (cons t ts) us = omega (arith, sizes_⊕ ts us)

pub many-⊕ : (ts us : Trees) → many (ts ⊕ us) ≡ many ts + many us
unfolding ◌⊕◌
many-⊕ nil us = omega arith
many-⊕ (cons t ts) us = omega (arith, many-⊕ ts us)

pub nestings_⊕ : (ts us : Trees) → nestings (ts ⊕ us) ≡ max (nestings ts) (nestings us)
unfolding nesting ◌⊕◌
nestings_⊕ nil us = omega arith
nestings_⊕ (cons t ts) us = omega (arith, nestings_⊕ ts us)

pub nums_⊕ : (i : ℕ) (ts us : Trees) → Nums i ts → Nums (i + sizes ts) us → Nums i (ts ⊕ us)
unfolding Num size ◌⊕◌
nums_⊕ i nil us n m = let e : i + 0 ≡ i = omega arith in subst (λ (k : ℕ). Nums k us) e m
nums_⊕ i (cons t ts) us n m =
    let e : i + (size t + sizes ts) ≡ i + size t + sizes ts = omega arith in
    (n.0, nums_⊕ (i + size t) ts us n.1 (subst (λ (k : ℕ). Nums k us) e m))

pub ⊕-nums : (i : ℕ) (ts us : Trees) → Nums i (ts ⊕ us) → Nums i ts × Nums (i + sizes ts) us
unfolding Num size ◌⊕◌
⊕-nums i nil us n = let e : i ≡ i + 0 = omega arith in (tt, subst (λ (k : ℕ). Nums k us) e n)
⊕-nums i (cons t ts) us n =
    let e : i + size t + sizes ts ≡ i + (size t + sizes ts) = omega arith in
    let m = ⊕-nums (i + size t) ts us n.1 in
    ((n.0, m.0), subst (λ (k : ℕ). Nums k us) e m.1)
