-- The expansion is of document 01's nine forms.
use Rattle.std.specs.Prelude.{Bool, true, false}
use Rattle.tree.specs.Tree.{Node, Tree, Trees, ident, const, if, letin, define, lambda, sequence, call, set!, nil, cons, begins, ands, whens}
use Rattle.tree.specs.Expand.{expand, expands, expand_and, expand_tested, NineForms, NineFormsIn}

mutual
  unfolding expand NineForms

  nine_forms : (t : Tree) → NineForms (expand t)
  nine_forms (ident x) = tt
  nine_forms (const n q) = tt
  nine_forms (if n a b c) = (nine_forms a, nine_forms b, nine_forms c)
  nine_forms (letin n xs es b) = (nine_forms_in es, nine_forms b)
  nine_forms (define n x b) = nine_forms b
  nine_forms (lambda n xs b) = nine_forms b
  nine_forms (sequence (begins n) es) = nine_forms_in es
  nine_forms (sequence (ands n) es) = nine_forms-and es n
  nine_forms (sequence (whens q n) es) = nine_forms-tested es q n
  nine_forms (call n h es) = (nine_forms h, nine_forms_in es)
  nine_forms (set! n x e) = nine_forms e

  pub nine_forms_in : (ts : Trees) → NineFormsIn (expands ts)
  nine_forms_in nil = tt
  nine_forms_in (cons t ts) = (nine_forms t, nine_forms_in ts)

  nine_forms-and : (es : Trees) (n : Node) → NineForms (expand_and es n)
  nine_forms-and nil n = tt
  nine_forms-and (cons t nil) n = nine_forms t
  nine_forms-and (cons t (cons u us)) n = (nine_forms t, nine_forms-and (cons u us) n, tt)

  nine_forms-tested : (es : Trees) (q : Bool) (n : Node) → NineForms (expand_tested es q n)
  nine_forms-tested nil true n = (tt, tt, tt)
  nine_forms-tested nil false n = (tt, tt, tt)
  nine_forms-tested (cons t ts) true n = (nine_forms t, nine_forms_in ts, tt)
  nine_forms-tested (cons t ts) false n = (nine_forms t, tt, nine_forms_in ts)
