-- What a state holds after a visit: identifiers of the tree alone, and no count of uses higher by more than the tree's records.
use Rattle.std.specs.Prelude.{ℕ, suc, ◌+◌, List, Bool, true, false, length, Option}
use Rattle.std.proofs.Common.{arith}
use Rattle.tree.specs.Tree.{Ident, Tree, Trees, ident, const, if, letin, define, lambda, sequence, call, set!, nil, cons, many, size, sizes, begins, ands, whens}
use Rattle.tree.specs.Core.{cores}
use Rattle.pass_laws.specs.Laws.Sound.Holds.{holds-cores}
use Rattle.semantic.specs.Information.{NONE}
use Rattle.semantic.specs.declared.FunctionInformation.{FunctionInformation}
use Rattle.semantic.specs.declared.IdentifierStatus.{IdentifierStatus}
use Rattle.pass.specs.State.{State, row_at}
use Rattle.pass.specs.Lambda.{function_in, at_bottom}
use Rattle.pass.specs.Visit.{Flags, top_flags, not_tail, same_tail, pushed, let_body_flags, body_flags, argument_flags, is_lambda, head_flags, is_nil, child_flags, define_flags, enter_child, enter_children, visit, visit_arguments, visit_children, visit_top_define, visit_top, visit_tops, in_begin, in_and, is_alone, visit_tested}
use Rattle.pass_laws.specs.Sound.{Property, Lawful, Counting, Each, Holds, HoldsAll, Listed, Opens, OpensArguments, OpensChildren, OpensDefine, OpensTop, OpensTops, OpensTested}
use Rattle.pass_laws.specs.Laws.Sound.Each.{each_context}
use Rattle.pass_laws.specs.Laws.Sound.Names.{each_grow, each_read, each_mutate, each_define, each_value}
use Rattle.pass_laws.specs.Laws.Sound.Scopes.{each_open_lambda, each_close_lambda, each_open_let, each_close_let}
use Rattle.pass_laws.specs.Laws.Sound.Calls.{each_call, each_clear, each_before, each_after}
use Rattle.pass_laws.specs.Laws.Cases.{by_child}

-- Names that enter before the visits

module _ {Q : Property} {F : ℕ → Type 0} (unused : F 0) (classes : List ℕ) where
  each_child : (kind : IdentifierStatus) (t : Tree) (s : State) → Holds Q.ident t → Each Q F s → Each Q F (enter_child classes kind t s)
  unfolding Holds
  each_child kind t s p h =
      by_child classes (λ u g. Holds Q.ident u → Each Q F (g s)) kind (λ u p. h) (λ n x b e p. each_define unused classes kind NONE x b p.0 h) t p

  pub each_children : (kind : IdentifierStatus) (ts : Trees) (s : State) → HoldsAll Q.ident ts → Each Q F s → Each Q F (enter_children classes kind ts s)
  unfolding enter_children Holds
  each_children kind nil s p h = h
  each_children kind (cons t ts) s p h = each_children kind ts _ p.1 (each_child kind t s p.0 h)

-- The visits

module _ {Q : Property} (lawful : Lawful Q) {F : ℕ → ℕ → Type 0} (counting : Counting F)
    (L : Option FunctionInformation → Type 0) (listed : (v : Option FunctionInformation) → L v → Listed Q.row v) (classes : List ℕ) where
  mutual
    unfolding visit size Holds Opens

    pub each_visit : (t : Tree) (f : Flags) (s : State) (k : ℕ) → Holds Q.ident t → Opens L classes t f s → Each Q (F k) s
        → Each Q (F (k + size t)) (visit classes t f s)
    each_visit (ident x) f s k p o h = each_grow counting (suc k) _ (omega arith) (each_read counting k classes x p h)
    each_visit (const n q) f s k p o h = each_grow counting k _ (omega arith) h
    each_visit (if n a b c) f s k p o h =
        let ha = each_visit a (not_tail f) s k p.0 o.0 h in
        let hb = each_visit b (same_tail f) _ (k + size a) p.1 o.1 ha in
        each_grow counting (k + size a + size b + size c) _ (omega arith) (each_visit c (same_tail f) _ (k + size a + size b) p.2 o.2 hb)
    each_visit (letin n xs es b) f s k p o h =
        let j = k + sizes es in
        let args = each_context s.context (visited_arguments es (not_tail f) _ k p.1 o.0 (each_context NONE h)) in
        let in_let = each_open_let lawful (counting.none j) n xs f.height f.function p.0 args in
        let body = each_visit b (let_body_flags (many es) f) _ j p.2 o.1 in_let in
        each_grow counting (j + size b) _ (omega arith) (each_close_let lawful (counting.none (j + size b)) (at_bottom s) n xs f.height f.function body)
    each_visit (define n x b) f s k p o h =
        let before = each_before lawful (counting.none k) classes f.direct (is_lambda b) x b p.0 h in
        let body = each_visit b (define_flags f) _ k p.1 o before in
        each_grow counting (k + size b) _ (omega arith)
        (each_after lawful (counting.none (k + size b)) classes f.direct (is_lambda b) s.context x b p.0 body)
    each_visit (lambda n xs b) f s k p o h =
        let in_lambda = each_open_lambda lawful (counting.none k) n xs (listed (function_in (row_at s n.at)) o.0) p.0 h in
        let body = each_visit b (body_flags n (length xs) f) _ k p.1 o.1 in_lambda in
        each_grow counting (k + size b) _ (omega arith) (each_close_lambda lawful (counting.none (k + size b)) n xs b f.escape body)
    each_visit (sequence (begins n) es) f s k p o h =
        each_grow counting (k + sizes es) _ (omega arith)
        (visited_children es (in_begin f) _ k p o (each_children (counting.none k) classes _ (cores es) s (holds-cores Q.ident es p) h))
    each_visit (sequence (ands n) es) f s k p o h = each_grow counting (k + sizes es) _ (omega arith) (visited_children es (in_and (is_alone es) f) s k p o h)
    each_visit (sequence (whens b n) es) f s k p o h = each_grow counting (k + sizes es) _ (omega arith) (visited-tested es f s k p o h)
    each_visit (call n g es) f s k p o h =
        let j = k + sizes es in
        let args = visited_arguments es (argument_flags f) s k p.1 o.0 h in
        let whole = each_visit g (head_flags g (many es) f) _ j p.0 o.1 args in
        each_grow counting (j + size g) _ (omega arith) (each_call lawful (counting.none (j + size g)) n g es f whole)
    each_visit (set! n x e) f s k p o h =
        let j = k + size e in
        let body = each_visit e (not_tail f) _ k p.1 o (each_clear lawful (counting.none k) x h) in
        each_grow counting (suc (suc j)) _ (omega arith) (each_read counting (suc j) classes x p.0 (each_mutate counting j x.name body))

    pub visited_arguments : (ts : Trees) (f : Flags) (s : State) (k : ℕ) → HoldsAll Q.ident ts → OpensArguments L classes ts f s → Each Q (F k) s
        → Each Q (F (k + sizes ts)) (visit_arguments classes ts f s)
    visited_arguments nil f s k p o h = each_grow counting k _ (omega arith) h
    visited_arguments (cons t ts) f s k p o h =
        let first = each_visit t f s k p.0 o.0 h in
        each_grow counting (k + size t + sizes ts) _ (omega arith) (visited_arguments ts (pushed f) _ (k + size t) p.1 o.1 first)

    pub visited_children : (ts : Trees) (f : Flags) (s : State) (k : ℕ) → HoldsAll Q.ident ts → OpensChildren L classes ts f s → Each Q (F k) s
        → Each Q (F (k + sizes ts)) (visit_children classes ts f s)
    visited_children nil f s k p o h = each_grow counting k _ (omega arith) h
    visited_children (cons t ts) f s k p o h =
        let first = each_visit t (child_flags (is_nil ts) f) s k p.0 o.0 h in
        each_grow counting (k + size t + sizes ts) _ (omega arith) (visited_children ts f _ (k + size t) p.1 o.1 first)

    visited-tested : (ts : Trees) (f : Flags) (s : State) (k : ℕ) → HoldsAll Q.ident ts → OpensTested L classes ts f s → Each Q (F k) s
        → Each Q (F (k + sizes ts)) (visit_tested classes ts f s)
    visited-tested nil f s k p o h = each_grow counting k _ (omega arith) h
    visited-tested (cons t ts) f s k p o h =
        let first = each_visit t (not_tail f) s k p.0 o.0 h in
        let entered = each_children (counting.none (k + size t)) classes _ (cores ts) _ (holds-cores Q.ident ts p.1) first in
        each_grow counting (k + size t + sizes ts) _ (omega arith) (visited_children ts (in_begin f) _ (k + size t) p.1 o.1 entered)

  -- The top level

  top-define : (l : Bool) (x : Ident) (b : Tree) (s : State) (k : ℕ) → Q.ident x → Holds Q.ident b → OpensDefine L classes l x b s → Each Q (F k) s
      → Each Q (F (k + size b)) (visit_top_define classes l x b s)
  top-define true x b s k p q o h = each_context NONE (each_visit b top_flags _ k q o (each_context x.id h))
  top-define false x b s k p q o h = each_visit b top_flags _ k q o (each_value (counting.none k) classes x b p h)

  pub each_visit_top : (t : Tree) (s : State) (k : ℕ) → Holds Q.ident t → OpensTop L classes t s → Each Q (F k) s
      → Each Q (F (k + size t)) (visit_top classes t s)
  unfolding visit_top size Holds Opens OpensTop
  each_visit_top (ident x) s k p o h = each_visit (ident x) top_flags s k p tt h
  each_visit_top (const n q) s k p o h = each_grow counting k _ (omega arith) h
  each_visit_top (if n a b c) s k p o h = each_visit (if n a b c) top_flags s k p o h
  each_visit_top (letin n xs es b) s k p o h = each_visit (letin n xs es b) top_flags s k p o h
  each_visit_top (define n x b) s k p o h = each_grow counting (k + size b) _ (omega arith) (top-define (is_lambda b) x b s k p.0 p.1 o h)
  each_visit_top (lambda n xs b) s k p o h = each_visit (lambda n xs b) top_flags s k p o h
  each_visit_top (sequence n es) s k p o h = each_visit (sequence n es) top_flags s k p o h
  each_visit_top (call n g es) s k p o h = each_visit (call n g es) top_flags s k p o h
  each_visit_top (set! n x e) s k p o h = each_visit (set! n x e) top_flags s k p o h

  pub each_visit_tops : (ts : Trees) (s : State) (k : ℕ) → HoldsAll Q.ident ts → OpensTops L classes ts s → Each Q (F k) s
      → Each Q (F (k + sizes ts)) (visit_tops classes ts s)
  unfolding visit_tops size Holds OpensTops
  each_visit_tops nil s k p o h = each_grow counting k _ (omega arith) h
  each_visit_tops (cons t ts) s k p o h =
      each_grow counting (k + size t + sizes ts) _ (omega arith) (each_visit_tops ts _ (k + size t) p.1 o.1 (each_visit_top t s k p.0 o.0 h))
