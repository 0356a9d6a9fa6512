-- What an expression is, where that is asked: an and of one child is that child, and an and of none is #t. R7RS 4.2.1.
use Rattle.std.specs.Prelude.{Bool, true, false}
use Rattle.tree.specs.Tree.{Node, Tree, Trees, ident, const, if, letin, define, lambda, sequence, call, set!, nil, cons, begins, ands, whens}

abbrev mutual
  pub core : Tree → Tree
  core (ident x) = ident x
  core (const n q) = const n q
  core (if n a b c) = if n a b c
  core (letin n xs es b) = letin n xs es b
  core (define n x b) = define n x b
  core (lambda n xs b) = lambda n xs b
  core (sequence (begins n) es) = sequence (begins n) es
  core (sequence (ands n) es) = and_of es n
  core (sequence (whens b n) es) = sequence (whens b n) es
  core (call n h es) = call n h es
  core (set! n x e) = set! n x e

  pub and_of : Trees → Node → Tree
  and_of nil n = const n false
  and_of (cons t nil) n = core t
  and_of (cons t (cons u us)) n = sequence (ands n) (cons t (cons u us))

abbrev pub cores : Trees → Trees
cores nil = nil
cores (cons t ts) = cons (core t) (cores ts)

-- a lambda
abbrev pub is_lambda_form : Tree → Bool
is_lambda_form (ident x) = false
is_lambda_form (const n q) = false
is_lambda_form (if n a b c) = false
is_lambda_form (letin n xs es b) = false
is_lambda_form (define n x b) = false
is_lambda_form (lambda n xs b) = true
is_lambda_form (sequence n es) = false
is_lambda_form (call n h es) = false
is_lambda_form (set! n x e) = false

abbrev pub is_lambda : Tree → Bool
is_lambda t = is_lambda_form (core t)

-- the same but for an and of none: what stands at the record that is reached by stepping over ands of one child
abbrev mutual
  pub peel : Tree → Tree
  peel (ident x) = ident x
  peel (const n q) = const n q
  peel (if n a b c) = if n a b c
  peel (letin n xs es b) = letin n xs es b
  peel (define n x b) = define n x b
  peel (lambda n xs b) = lambda n xs b
  peel (sequence (begins n) es) = sequence (begins n) es
  peel (sequence (ands n) es) = peel_and es n
  peel (sequence (whens b n) es) = sequence (whens b n) es
  peel (call n h es) = call n h es
  peel (set! n x e) = set! n x e

  pub peel_and : Trees → Node → Tree
  peel_and nil n = sequence (ands n) nil
  peel_and (cons t nil) n = peel t
  peel_and (cons t (cons u us)) n = sequence (ands n) (cons t (cons u us))

abbrev pub is_constant_form : Tree → Bool
is_constant_form (ident x) = false
is_constant_form (const n q) = true
is_constant_form (if n a b c) = false
is_constant_form (letin n xs es b) = false
is_constant_form (define n x b) = false
is_constant_form (lambda n xs b) = false
is_constant_form (sequence n es) = false
is_constant_form (call n h es) = false
is_constant_form (set! n x e) = false

abbrev pub is_constant : Tree → Bool
is_constant t = is_constant_form (core t)
