-- Tail position, by structure alone. R7RS 3.5.
use Rattle.std.specs.Prelude.{ℕ, List, [], ◌∷◌, ◌++◌, map, Bool, true, false, not, ◌&&◌, ◌||◌, eqb}
use Rattle.tree.specs.Core.{is_constant}
use Rattle.tree.specs.Tree.{Tree, Trees, ident, const, if, letin, define, lambda, sequence, call, set!, nil, cons, begins, ands, whens}

-- a call: its record, its head, and whether it stands in tail position of the innermost lambda around it
pub record Call : Type 0 where
  pub at : ℕ
  pub head : Tree
  pub tail : Bool

-- The calls of an expression, which stands in tail position itself where `t` says so. "The last expression within the body of a lambda expression
-- occurs in a tail context." Of an expression in one, so do both branches of an if, the body of a let, the last child of an and, the last of what
-- follows the test of a when or an unless, and the last child of a begin, if it is an expression: a define is none.
unfoldable mutual
  pub calls : Tree → Bool → List Call
  calls (ident x) t = []
  calls (const n q) t = []
  calls (if n a b c) t = calls a false ++ (calls b t ++ calls c t)
  calls (letin n xs es b) t = calls_in es ++ calls b t
  calls (define n x b) t = calls b false
  calls (lambda n xs b) t = calls b true
  calls (sequence (begins n) es) t = calls_last es t
  calls (sequence (ands n) es) t = calls_last es t
  calls (sequence (whens b n) es) t = calls_tested es t
  calls (call n h es) t = record { at = n.at; head = h; tail = t } ∷ (calls h false ++ calls_in es)
  calls (set! n x e) t = calls e false

  -- of expressions none of which stands in tail position: arguments, initial expressions, the top level
  pub calls_in : Trees → List Call
  calls_in nil = []
  calls_in (cons e es) = calls e false ++ calls_in es

  -- of expressions the last of which stands where `t` says
  pub calls_last : Trees → Bool → List Call
  calls_last nil t = []
  calls_last (cons e nil) t = calls e t
  calls_last (cons e (cons e' es)) t = calls e false ++ calls_last (cons e' es) t

  -- of a test and what follows it
  pub calls_tested : Trees → Bool → List Call
  calls_tested nil t = []
  calls_tested (cons e es) t = calls e false ++ calls_last es t

-- i is the record of one of the calls, and its head is no constant
unfoldable pub has_fact : ℕ → List Call → Bool
has_fact i [] = false
has_fact i (c ∷ l) = (eqb c.at i && not (is_constant c.head)) || has_fact i l

-- a call's record, and whether it stands in tail position
abbrev pub key : Call → ℕ × Bool
key c = (c.at, c.tail)

abbrev pub keys : List Call → List (ℕ × Bool)
keys l = map key l
