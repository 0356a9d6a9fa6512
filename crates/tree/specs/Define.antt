-- Top level, and inner defines. Document 01, "The tree" and "Rules of the pass".
use Rattle.std.specs.Prelude.{ℕ, List, [], ◌∷◌, ◌++◌}
use Rattle.tree.specs.Tree.{Tree, Trees, ident, const, if, letin, define, lambda, sequence, call, set!, nil, cons, begins, ands, whens}
use Rattle.tree.specs.Core.{core, cores}
pub mod Examples

infixr 50 ◌⊕◌
unfoldable pub ◌⊕◌ : Trees → Trees → Trees
nil ⊕ us = us
(cons t ts) ⊕ us = cons t (ts ⊕ us)

-- what stands at top level, as what it is: a top-level begin's children stand there in its place
unfoldable pub top_of : Tree → Trees
top_of (ident x) = cons (ident x) nil
top_of (const n q) = cons (const n q) nil
top_of (if n a b c) = cons (if n a b c) nil
top_of (letin n xs es b) = cons (letin n xs es b) nil
top_of (define n x b) = cons (define n x b) nil
top_of (lambda n xs b) = cons (lambda n xs b) nil
top_of (sequence (begins n) es) = cores es
top_of (sequence (ands n) es) = cons (sequence (ands n) es) nil
top_of (sequence (whens b n) es) = cons (sequence (whens b n) es) nil
top_of (call n h es) = cons (call n h es) nil
top_of (set! n x e) = cons (set! n x e) nil

unfoldable pub top_level : Trees → Trees
top_level nil = nil
top_level (cons t ts) = top_of (core t) ⊕ top_level ts

-- the records of all defines, in order
unfoldable mutual
  pub defines : Tree → List ℕ
  defines (ident x) = []
  defines (const n q) = []
  defines (if n a b c) = defines a ++ (defines b ++ defines c)
  defines (letin n xs es b) = defines_in es ++ defines b
  defines (define n x b) = n.at ∷ defines b
  defines (lambda n xs b) = defines b
  defines (sequence n es) = defines_in es
  defines (call n h es) = defines h ++ defines_in es
  defines (set! n x e) = defines e

  pub defines_in : Trees → List ℕ
  defines_in nil = []
  defines_in (cons t ts) = defines t ++ defines_in ts

-- those below a tree at top level
unfoldable pub below : Tree → List ℕ
below (ident x) = []
below (const n q) = []
below (if n a b c) = defines (if n a b c)
below (letin n xs es b) = defines (letin n xs es b)
below (define n x b) = defines b
below (lambda n xs b) = defines (lambda n xs b)
below (sequence n es) = defines (sequence n es)
below (call n h es) = defines (call n h es)
below (set! n x e) = defines (set! n x e)

unfoldable pub below_all : Trees → List ℕ
below_all nil = []
below_all (cons t ts) = below t ++ below_all ts

-- the inner defines: neither at top level nor directly in a top-level begin
unfoldable pub inner_defines : Trees → List ℕ
inner_defines ts = below_all (top_level ts)
