-- The expansion of and, when and unless. Document 02, order 7: "and of none is true, and a missing branch is an empty begin. and of one child is that
-- child, of more an if with the first, the and of the others, and #f. when and unless are an if whose one branch is a begin of what follows the
-- test. Constants that the expansion adds have the value 0, false only for #f."
use Rattle.std.specs.Prelude.{Bool, true, false}
use Rattle.tree.specs.Tree.{Node, Tree, Trees, ident, const, if, letin, define, lambda, sequence, call, set!, nil, cons, begins, ands, whens}

-- the node of an added record, which has no number of its own: it keeps that of the form it was added for. The value of an added constant is 0.
abbrev pub added : Node → Node
added n = record { at = n.at; id = 0; from = n.from; to = n.to }

abbrev pub branches : Bool → Node → Tree → Trees → Tree
branches true n a ts = if (added n) a (sequence (begins (added n)) ts) (sequence (begins (added n)) nil)
branches false n a ts = if (added n) a (sequence (begins (added n)) nil) (sequence (begins (added n)) ts)

unfoldable mutual
  pub expand : Tree → Tree
  expand (ident x) = ident x
  expand (const n q) = const n q
  expand (if n a b c) = if n (expand a) (expand b) (expand c)
  expand (letin n xs es b) = letin n xs (expands es) (expand b)
  expand (define n x b) = define n x (expand b)
  expand (lambda n xs b) = lambda n xs (expand b)
  expand (sequence (begins n) es) = sequence (begins n) (expands es)
  expand (sequence (ands n) es) = expand_and es n
  expand (sequence (whens q n) es) = expand_tested es q n
  expand (call n h es) = call n (expand h) (expands es)
  expand (set! n x e) = set! n x (expand e)

  pub expands : Trees → Trees
  expands nil = nil
  expands (cons t ts) = cons (expand t) (expands ts)

  pub expand_and : Trees → Node → Tree
  expand_and nil n = const (added n) false
  expand_and (cons t nil) n = expand t
  expand_and (cons t (cons u us)) n = if (added n) (expand t) (expand_and (cons u us) n) (const (added n) true)

  -- one that has no test is refused; its expansion keeps an if, which at top level is no begin
  pub expand_tested : Trees → Bool → Node → Tree
  expand_tested nil q n = branches q n (const (added n) false) nil
  expand_tested (cons t ts) q n = branches q n (expand t) (expands ts)

-- a tree of document 01's nine forms
unfoldable mutual
  pub NineForms : Tree → Type 0
  NineForms (ident x) = Unit {0}
  NineForms (const n q) = Unit {0}
  NineForms (if n a b c) = NineForms a × NineForms b × NineForms c
  NineForms (letin n xs es b) = NineFormsIn es × NineForms b
  NineForms (define n x b) = NineForms b
  NineForms (lambda n xs b) = NineForms b
  NineForms (sequence (begins n) es) = NineFormsIn es
  NineForms (sequence (ands n) es) = ⊥
  NineForms (sequence (whens q n) es) = ⊥
  NineForms (call n h es) = NineForms h × NineFormsIn es
  NineForms (set! n x e) = NineForms e

  pub NineFormsIn : Trees → Type 0
  NineFormsIn nil = Unit {0}
  NineFormsIn (cons t ts) = NineForms t × NineFormsIn ts
