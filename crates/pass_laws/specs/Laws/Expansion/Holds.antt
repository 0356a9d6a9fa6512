-- The expansion of a tree uses the same names, holds the same lambdas and the same defines.
use Rattle.std.specs.Prelude.{List, Bool, true, false, ◌||◌, ◌≡◌, refl, Option, None, Some}
use Rattle.std.proofs.Common.{append-nil, sym, ◌∙◌}
use Rattle.tree.specs.Tree.{Ident, Node, Tree, Trees, ident, const, if, letin, define, lambda, sequence, call, set!, nil, cons, begins, ands, whens}
use Rattle.tree.specs.Define.{defines, defines_in}
use Rattle.tree.specs.Expand.{expand, expands, expand_and, expand_tested}
use Rattle.scope_map.specs.ScopeMap.{ScopeMap}
use Rattle.semantic.specs.Rows.{ListEntry}
use Rattle.semantic.specs.Kinds.{function_in}
use Rattle.semantic.specs.declared.FunctionInformation.{FunctionInformation}
use Rattle.pass.specs.State.{Capture, State, row_at}
use Rattle.pass.specs.Lambda.{names_used, names_used_in, holds_lambda, holds_lambda_in, close_lambda, amend_function, function_ends}

-- The same names are used, the same lambdas stand in it, the same defines

or-none : (a : Bool) → (a || false) ≡ a
or-none true = refl
or-none false = refl

mutual
  unfolding expand names_used

  pub used : (t : Tree) → names_used (expand t) ≡ names_used t
  used (ident x) = refl
  used (const n q) = refl
  used (if n a b c) = rw (used a, used b, used c)
  used (letin n xs es b) = rw (used_in_lem es, used b)
  used (define n x b) = used b
  used (lambda n xs b) = used b
  used (sequence (begins n) es) = used_in_lem es
  used (sequence (ands n) es) = used-and es n
  used (sequence (whens q n) es) = used-tested es q n
  used (call n h es) = rw (used h, used_in_lem es)
  used (set! n x e) = rw (used e)

  used_in_lem : (ts : Trees) → names_used_in (expands ts) ≡ names_used_in ts
  used_in_lem nil = refl
  used_in_lem (cons t ts) = rw (used t, used_in_lem ts)

  used-and : (ts : Trees) (n : Node) → names_used (expand_and ts n) ≡ names_used_in ts
  used-and nil n = refl
  used-and (cons t nil) n = used t ∙ sym (append-nil (names_used t))
  used-and (cons t (cons u us)) n = rw (used t, used-and (cons u us) n, append-nil (names_used_in (cons u us)))

  used-tested : (ts : Trees) (q : Bool) (n : Node) → names_used (expand_tested ts q n) ≡ names_used_in ts
  used-tested nil true n = refl
  used-tested nil false n = refl
  used-tested (cons t ts) true n = rw (used t, used_in_lem ts, append-nil (names_used_in ts))
  used-tested (cons t ts) false n = rw (used t, used_in_lem ts)

mutual
  unfolding expand holds_lambda

  pub holding : (t : Tree) → holds_lambda (expand t) ≡ holds_lambda t
  holding (ident x) = refl
  holding (const n q) = refl
  holding (if n a b c) = rw (holding a, holding b, holding c)
  holding (letin n xs es b) = rw (holding_in es, holding b)
  holding (define n x b) = holding b
  holding (lambda n xs b) = refl
  holding (sequence (begins n) es) = holding_in es
  holding (sequence (ands n) es) = holding_and es n
  holding (sequence (whens q n) es) = holding_tested es q n
  holding (call n h es) = rw (holding h, holding_in es)
  holding (set! n x e) = holding e

  holding_in : (ts : Trees) → holds_lambda_in (expands ts) ≡ holds_lambda_in ts
  holding_in nil = refl
  holding_in (cons t ts) = rw (holding t, holding_in ts)

  holding_and : (ts : Trees) (n : Node) → holds_lambda (expand_and ts n) ≡ holds_lambda_in ts
  holding_and nil n = refl
  holding_and (cons t nil) n = holding t ∙ sym (or-none (holds_lambda t))
  holding_and (cons t (cons u us)) n = rw (holding t, holding_and (cons u us) n, or-none (holds_lambda_in (cons u us)))

  holding_tested : (ts : Trees) (q : Bool) (n : Node) → holds_lambda (expand_tested ts q n) ≡ holds_lambda_in ts
  holding_tested nil true n = refl
  holding_tested nil false n = refl
  holding_tested (cons t ts) true n = rw (holding t, holding_in ts, or-none (holds_lambda_in ts))
  holding_tested (cons t ts) false n = rw (holding t, holding_in ts)

mutual
  unfolding expand defines

  pub defined : (t : Tree) → defines (expand t) ≡ defines t
  defined (ident x) = refl
  defined (const n q) = refl
  defined (if n a b c) = rw (defined a, defined b, defined c)
  defined (letin n xs es b) = rw (defined_in_lem es, defined b)
  defined (define n x b) = rw (defined b)
  defined (lambda n xs b) = defined b
  defined (sequence (begins n) es) = defined_in_lem es
  defined (sequence (ands n) es) = defined-and es n
  defined (sequence (whens q n) es) = defined-tested es q n
  defined (call n h es) = rw (defined h, defined_in_lem es)
  defined (set! n x e) = defined e

  defined_in_lem : (ts : Trees) → defines_in (expands ts) ≡ defines_in ts
  defined_in_lem nil = refl
  defined_in_lem (cons t ts) = rw (defined t, defined_in_lem ts)

  defined-and : (ts : Trees) (n : Node) → defines (expand_and ts n) ≡ defines_in ts
  defined-and nil n = refl
  defined-and (cons t nil) n = defined t ∙ sym (append-nil (defines t))
  defined-and (cons t (cons u us)) n = rw (defined t, defined-and (cons u us) n, append-nil (defines_in (cons u us)))

  defined-tested : (ts : Trees) (q : Bool) (n : Node) → defines (expand_tested ts q n) ≡ defines_in ts
  defined-tested nil true n = refl
  defined-tested nil false n = refl
  defined-tested (cons t ts) true n = rw (defined t, defined_in_lem ts, append-nil (defines_in ts))
  defined-tested (cons t ts) false n = rw (defined t, defined_in_lem ts)

-- The lambda's end looks at its body for names used and lambdas alone
pub ends : (n : Node) (xs : List Ident) (b c : Tree) (e : Bool) (s : State) → names_used b ≡ names_used c → holds_lambda b ≡ holds_lambda c
    → close_lambda n xs b e s ≡ close_lambda n xs c e s
unfolding close_lambda amend_function
ends n xs b c e s p q = go _ _ _ _ (function_in (row_at s n.at))
  where
    go : (now arguments : List ListEntry) (m : ScopeMap Capture) (u : State) (o : Option FunctionInformation)
        → function_ends o n b e now arguments m u ≡ function_ends o n c e now arguments m u
    go now arguments m u None = refl
    go now arguments m u (Some v) = rw (p, q)
