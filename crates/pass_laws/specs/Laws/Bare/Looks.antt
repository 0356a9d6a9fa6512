-- What the pass asks of a tree does not depend on positions.
use Rattle.std.specs.Prelude.{ℕ, List, ◌≡◌}
use Rattle.std.proofs.Math.Path.{refl}
use Rattle.std.proofs.Common.{◌∙◌}
use Rattle.tree.specs.Tree.{Tree, Trees, ident, const, if, letin, define, lambda, sequence, call, set!, nil, cons, many, Node, begins, ands, whens}
use Rattle.tree.specs.Define.{◌⊕◌, top_of, top_level}
use Rattle.pass.specs.Read.{is_ident_of, first_is_ident_of, is_builtin, is_required, alias}
use Rattle.pass.specs.Lambda.{names_used, names_used_in, holds_lambda, holds_lambda_in}
use Rattle.tree.specs.Core.{core, and_of, cores}
use Rattle.pass.specs.Visit.{is_nil, is_lambda_form}
use Rattle.pass.specs.Bare.{bare, bares, bare_node}

pub bare-many : (ts : Trees) → many (bares ts) ≡ many ts
unfolding bare
bare-many nil = refl
bare-many (cons t ts) = rw (bare-many ts)

pub bare-nil : (ts : Trees) → is_nil (bares ts) ≡ is_nil ts
unfolding bare
bare-nil nil = refl
bare-nil (cons t ts) = refl

mutual
  unfolding bare

  pub bare_core : (t : Tree) → core (bare t) ≡ bare (core t)
  bare_core (ident x) = refl
  bare_core (const n q) = refl
  bare_core (if n a b c) = refl
  bare_core (letin n xs es b) = refl
  bare_core (define n x b) = refl
  bare_core (lambda n xs b) = refl
  bare_core (sequence (begins n) es) = refl
  bare_core (sequence (ands n) es) = bare-and es n
  bare_core (sequence (whens b n) es) = refl
  bare_core (call n h es) = refl
  bare_core (set! n x e) = refl

  bare-and : (es : Trees) (n : Node) → and_of (bares es) (bare_node n) ≡ bare (and_of es n)
  bare-and nil n = refl
  bare-and (cons t nil) n = bare_core t
  bare-and (cons t (cons u us)) n = refl

pub bare-cores : (ts : Trees) → bares (cores ts) ≡ cores (bares ts)
unfolding bare
bare-cores nil = refl
bare-cores (cons t ts) = rw (bare_core t, bare-cores ts)

-- what a body is at first sight

pub record Looks (classes : List ℕ) (t u : Tree) : Type 0 where
  pub is_lambda : is_lambda_form t ≡ is_lambda_form u
  pub alias : alias t ≡ alias u
  pub is_builtin : is_builtin classes t ≡ is_builtin classes u
  pub is_required : is_required classes t ≡ is_required classes u

module _ (classes : List ℕ) where
  bare_ident_lem : (k : ℕ) (t : Tree) → is_ident_of classes k (bare t) ≡ is_ident_of classes k t
  unfolding bare
  bare_ident_lem k (ident x) = refl
  bare_ident_lem k (const n q) = refl
  bare_ident_lem k (if n a b c) = refl
  bare_ident_lem k (letin n xs es b) = refl
  bare_ident_lem k (define n x b) = refl
  bare_ident_lem k (lambda n xs b) = refl
  bare_ident_lem k (sequence n es) = refl
  bare_ident_lem k (call n h es) = refl
  bare_ident_lem k (set! n x e) = refl

  bare-first : (k : ℕ) (ts : Trees) → first_is_ident_of classes k (bares ts) ≡ first_is_ident_of classes k ts
  unfolding bare
  bare-first k nil = refl
  bare-first k (cons t ts) = rw (bare_core t, bare_ident_lem k (core t))

  pub bare_looks : (t : Tree) → Looks classes (bare t) t
  unfolding bare
  bare_looks (ident x) = search
  bare_looks (const n q) = search
  bare_looks (if n a b c) = search
  bare_looks (letin n xs es b) = search
  bare_looks (define n x b) = search
  bare_looks (lambda n xs b) = search
  bare_looks (sequence n es) = search
  bare_looks (call n h es) = record { is_lambda = refl; alias = refl; is_builtin = rw (bare_core h, bare_ident_lem 2 (core h), bare-first 4 es); is_required = rw (bare_core h, bare_ident_lem 8 (core h)) }
  bare_looks (set! n x e) = search

-- the names used in a tree, and whether a lambda stands in it

mutual
  unfolding bare names_used

  pub bare-used : (t : Tree) → names_used (bare t) ≡ names_used t
  bare-used (ident x) = refl
  bare-used (const n q) = refl
  bare-used (if n a b c) = rw (bare-used a, bare-used b, bare-used c)
  bare-used (letin n xs es b) = rw (bare-used_in es, bare-used b)
  bare-used (define n x b) = bare-used b
  bare-used (lambda n xs b) = bare-used b
  bare-used (sequence n es) = bare-used_in es
  bare-used (call n h es) = rw (bare-used h, bare-used_in es)
  bare-used (set! n x e) = rw (bare-used e)

  bare-used_in : (ts : Trees) → names_used_in (bares ts) ≡ names_used_in ts
  bare-used_in nil = refl
  bare-used_in (cons t ts) = rw (bare-used t, bare-used_in ts)

mutual
  unfolding bare holds_lambda

  pub bare-holds : (t : Tree) → holds_lambda (bare t) ≡ holds_lambda t
  bare-holds (ident x) = refl
  bare-holds (const n q) = refl
  bare-holds (if n a b c) = rw (bare-holds a, bare-holds b, bare-holds c)
  bare-holds (letin n xs es b) = rw (bare-holds_in es, bare-holds b)
  bare-holds (define n x b) = bare-holds b
  bare-holds (lambda n xs b) = refl
  bare-holds (sequence n es) = bare-holds_in es
  bare-holds (call n h es) = rw (bare-holds h, bare-holds_in es)
  bare-holds (set! n x e) = bare-holds e

  bare-holds_in : (ts : Trees) → holds_lambda_in (bares ts) ≡ holds_lambda_in ts
  bare-holds_in nil = refl
  bare-holds_in (cons t ts) = rw (bare-holds t, bare-holds_in ts)

-- Top level

bare_join : (ts us : Trees) → bares (ts ⊕ us) ≡ bares ts ⊕ bares us
unfolding bare ◌⊕◌
bare_join nil us = refl
bare_join (cons t ts) us = rw (bare_join ts us)

bare-top : (t : Tree) → bares (top_of t) ≡ top_of (bare t)
unfolding bare top_of
bare-top (ident x) = refl
bare-top (const n q) = refl
bare-top (if n a b c) = refl
bare-top (letin n xs es b) = refl
bare-top (define n x b) = refl
bare-top (lambda n xs b) = refl
bare-top (sequence (begins n) es) = bare-cores es
bare-top (sequence (ands n) es) = refl
bare-top (sequence (whens b n) es) = refl
bare-top (call n h es) = refl
bare-top (set! n x e) = refl

pub bare_tops : (ts : Trees) → bares (top_level ts) ≡ top_level (bares ts)
unfolding bare top_level
bare_tops nil = refl
bare_tops (cons t ts) = bare_join (top_of (core t)) (top_level ts) ∙ rw (bare-top (core t), bare_tops ts, bare_core t)
