-- The stage of each part of a tree, in the state in which the visit of the tree visits it.
use Rattle.std.specs.Prelude.{ℕ, suc, ◌+◌, ◌-◌, List, Bool}
use Rattle.std.proofs.Math.Path.{refl}
use Rattle.std.proofs.Common.{arith}
use Rattle.std.proofs.Math.ListN.{length}
use Rattle.tree.specs.Tree.{Ident, Node, Tree, Trees, if, letin, define, sequence, call, set!, cons, many, size, sizes, Num, Nums, begins, ands, whens}
use Rattle.tree.proofs.Laws.Tree.{size_pos}
use Rattle.tree.specs.Core.{cores}
use Rattle.semantic.specs.Information.{NONE}
use Rattle.semantic.specs.Rows.{Row}
use Rattle.semantic.specs.declared.IdentifierStatus.TheVariants.{LocallyDefinedFunction}
use Rattle.pass.specs.State.{State, with_context}
use Rattle.pass.specs.Lambda.{open_let}
use Rattle.pass.specs.Visit.{Flags, not_tail, same_tail, pushed, let_body_flags, argument_flags, is_lambda, head_flags, is_nil, child_flags, define_flags, open_define, enter_children, clear_context, visit, visit_arguments, in_begin, in_and, is_alone}
use Rattle.pass_laws.specs.Stage.{Blocks, BlocksIn, enterings, Layered, Unmade, UnmadeAll, Made, MadeAll, Staged, Stage, StageArguments, StageChildren}
use Rattle.pass_laws.specs.Laws.Scopes.{Any}
use Rattle.pass_laws.specs.Laws.Visits.{before_changes, children_changes, clear_changes}
use Rattle.pass_laws.specs.Laws.Ranges.{trees_any}
use Rattle.pass_laws.specs.Laws.Keeps.{visited_arguments}
use Rattle.pass_laws.specs.Laws.Stage.Lists.{Lasting}
use Rattle.pass_laws.specs.Laws.Stage.Still.{Stacked, as_full, as_stacked, stored-then, stacked_then, still_steps}
use Rattle.pass_laws.specs.Laws.Stage.Entering.{apart_steps}
use Rattle.pass_laws.specs.Laws.Stage.Arguments.{entered-one, entered_few, arguments_due, children_due, open_let_due, still_due, before-due}
use Rattle.pass_laws.specs.Laws.Stage.Captured.{arguments_top_lem}
use Rattle.pass_laws.specs.Laws.Stage.Captures.{next, layered_next, layered_in_let, arguments_stacked_visited}
use Rattle.pass_laws.specs.Laws.Stage.Blocks.{Kind, blank, blocks_last, blocks_last-all}
use Rattle.pass_laws.specs.Laws.Stage.Children.{children_blocks}
use Rattle.pass_laws.specs.Laws.Stage.Reached.{to_children, to_let_body, to_define_body, to-head, to_set}
use Rattle.pass_laws.specs.Laws.Stage.Second.{made, arguments_all-stored}
use Rattle.pass_laws.specs.Laws.Stage.Onward.{lasting_of, narrow, onward, here, past_tree}
use Rattle.pass_laws.specs.Laws.Preserved.{children_preserves, open_let_preserves, before_preserves, clear_preserves}

-- two trees, one after the other
both-last : {F L : Row → Type 0} → Kind F L → (i : ℕ) (t u : Tree) → Num i t → Num (i + size t) u → {s w : State}
    → Lasting i (i + (size t + size u)) s w → BlocksIn F L s t × BlocksIn F L s u → BlocksIn F L w t × BlocksIn F L w u
both-last kind i t u n m c b = (
  blocks_last kind i t n (lasting_of c (omega arith) (omega arith)) b.0,
  blocks_last kind (i + size t) u m (lasting_of c (omega arith) (omega arith)) b.1,
)

module _ (classes : List ℕ) where
  -- the names of the trees from record i on enter
  entered_children : (i : ℕ) (f : Flags) (s : State) (es : Trees) → Nums i es → Staged i (sizes es) (1 + sizes es) (UnmadeAll s es) (MadeAll s es) f.function s
      → StageChildren i es (in_begin f) (enter_children classes LocallyDefinedFunction (cores es) s)
  entered_children i f s es n w =
      let h = w.layered in
      let p = children_preserves apart_steps classes LocallyDefinedFunction (cores es) s in
      onward w (omega arith) (omega arith) (next h (children_changes {own = Any} classes _ (cores es) s (trees_any (cores es))) p.stacked) p.stacked
      (to_children classes i es n s) (children_blocks classes blank i es n s) (children_blocks classes made i es n s)
      (λ b. p.stored) (omega (arith, (children_due classes es s).by, entered_few es)) (λ z. omega (arith, p.stored.captured))

  module _ (i : ℕ) (f : Flags) (s : State) where
    -- Arguments and initial expressions

    pub first_argument : (t : Tree) (ts : Trees) → StageArguments i (cons t ts) f s → Stage i t f s
    unfolding size Blocks
    first_argument t ts w = here w (omega arith) (omega arith) (omega arith) (λ u. u.0) (λ v. v.0)

    pub next_arguments : (t : Tree) (ts : Trees) → Nums i (cons t ts) → StageArguments i (cons t ts) f s
        → StageArguments (i + size t) ts (pushed f) (visit classes t f s)
    unfolding size Blocks Num
    next_arguments t ts n w =
        past_tree classes i t n.0 (sizes ts) (sizes ts) f w (omega arith) (omega arith) (λ c b. blocks_last-all blank (i + size t) ts n.1 c b)
        (λ c b. blocks_last-all made (i + size t) ts n.1 c b)

    -- The children of a begin

    pub first_child : (t : Tree) (ts : Trees) → StageChildren i (cons t ts) f s → Stage i t (child_flags (is_nil ts) f) s
    unfolding size Blocks
    first_child t ts w = here w (omega arith) (omega arith) (omega (arith, entered_few ts, entered-one t)) (λ u. u.0) (λ v. v.0)

    pub next_children : (t : Tree) (ts : Trees) → Nums i (cons t ts) → StageChildren i (cons t ts) f s
        → StageChildren (i + size t) ts f (visit classes t (child_flags (is_nil ts) f) s)
    unfolding size Blocks Num
    next_children t ts n w =
        past_tree classes i t n.0 (sizes ts) (suc (sizes ts) - enterings ts) (child_flags (is_nil ts) f) w
        (omega (arith, entered_few ts, entered-one t)) (omega (arith, entered_few ts, entered-one t, size_pos t))
        (λ c b. blocks_last-all blank (i + size t) ts n.1 c b) (λ c b. blocks_last-all made (i + size t) ts n.1 c b)

    pub begin_children : (m : Node) (es : Trees) → Num i (sequence (begins m) es) → Stage i (sequence (begins m) es) f s
        → StageChildren (i + 1) es (in_begin f) (enter_children classes LocallyDefinedFunction (cores es) s)
    unfolding size Blocks Num
    begin_children m es n w = entered_children (i + 1) f s es n.1 (here w (omega arith) (omega arith) (omega arith) (λ u. u) (λ v. v))

    -- an and: no names have entered, so there is room enough
    pub and_children : (m : Node) (es : Trees) → Stage i (sequence (ands m) es) f s → StageChildren (i + 1) es (in_and (is_alone es) f) s
    unfolding size Blocks
    and_children m es w = here w (omega arith) (omega arith) (omega (arith, entered_few es)) (λ u. u) (λ v. v)

    -- a when or an unless: the test, then what follows it
    pub when-test : (b : Bool) (m : Node) (t : Tree) (ts : Trees) → Stage i (sequence (whens b m) (cons t ts)) f s → Stage (i + 1) t (not_tail f) s
    unfolding size Blocks
    when-test b m t ts w = here w (omega arith) (omega arith) (omega arith) (λ u. u.0) (λ v. v.0)

    pub when-tested : (b : Bool) (m : Node) (t : Tree) (ts : Trees) → Num i (sequence (whens b m) (cons t ts)) → Stage i (sequence (whens b m) (cons t ts)) f s
        → Staged (i + 1 + size t) (sizes ts) (1 + sizes ts) (UnmadeAll (visit classes t (not_tail f) s) ts) (MadeAll (visit classes t (not_tail f) s) ts) f.function (visit classes t (not_tail f) s)
    unfolding size Blocks Num
    when-tested b m t ts n w =
        past_tree classes (i + 1) t n.1.0 (sizes ts) (1 + sizes ts) {r = size t + sizes ts} (not_tail f)
        (here w (omega arith) (omega arith) (omega arith) (λ u. u) (λ v. v)) (omega arith) (omega arith)
        (λ c b. blocks_last-all blank (i + 1 + size t) ts n.1.1 c b) (λ c b. blocks_last-all made (i + 1 + size t) ts n.1.1 c b)

    pub when_children : (b : Bool) (m : Node) (t : Tree) (ts : Trees) → Num i (sequence (whens b m) (cons t ts)) → Stage i (sequence (whens b m) (cons t ts)) f s
        → StageChildren (i + 1 + size t) ts (in_begin f) (enter_children classes LocallyDefinedFunction (cores ts) (visit classes t (not_tail f) s))
    unfolding Num
    when_children b m t ts n w = entered_children (i + 1 + size t) f (visit classes t (not_tail f) s) ts n.1.1 (when-tested b m t ts n w)

    -- if

    pub if_first : (m : Node) (a b c : Tree) → Stage i (if m a b c) f s → Stage (i + 1) a (not_tail f) s
    unfolding size Blocks
    if_first m a b c w = here w (omega arith) (omega arith) (omega arith) (λ u. u.0) (λ v. v.0)

    -- what is left after the test
    if_rest : (m : Node) (a b c : Tree) → Num i (if m a b c) → Stage i (if m a b c) f s
        → let t = visit classes a (not_tail f) s in
        Staged (i + 1 + size a) (size b + size c) (size b + size c) (Unmade t b × Unmade t c) (Made t b × Made t c) f.function t
    unfolding size Blocks Num
    if_rest m a b c n w =
        let k = size a + (size b + size c) in
        let e : Staged (i + 1) k k (Unmade s a × (Unmade s b × Unmade s c)) (Made s a × (Made s b × Made s c)) f.function s =
        here w (omega arith) (omega arith) (omega arith) (λ u. (u.0, (u.1, u.2))) (λ v. (v.0, (v.1, v.2))) in
        past_tree classes (i + 1) a n.1 (size b + size c) (size b + size c) (not_tail f) e (omega arith) (omega arith)
        (both-last blank (i + 1 + size a) b c n.2 n.3) (both-last made (i + 1 + size a) b c n.2 n.3)

    pub if_second : (m : Node) (a b c : Tree) → Num i (if m a b c) → Stage i (if m a b c) f s
        → Stage (i + 1 + size a) b (same_tail f) (visit classes a (not_tail f) s)
    if_second m a b c n w = here (if_rest m a b c n w) (omega arith) (omega arith) (omega arith) (λ u. u.0) (λ v. v.0)

    pub if_third : (m : Node) (a b c : Tree) → Num i (if m a b c) → Stage i (if m a b c) f s
        → Stage (i + 1 + size a + size b) c (same_tail f) (visit classes b (same_tail f) (visit classes a (not_tail f) s))
    unfolding Num
    if_third m a b c n w =
        past_tree classes (i + 1 + size a) b n.2 (size c) (size c) (same_tail f) (if_rest m a b c n w) (omega arith) (omega arith)
        (λ d u. blocks_last blank (i + 1 + size a + size b) c n.3 d u) (λ d u. blocks_last made (i + 1 + size a + size b) c n.3 d u)

    -- let: the initial expressions, then the body

    pub let_initials : (m : Node) (xs : List Ident) (es : Trees) (b : Tree) → Stage i (letin m xs es b) f s
        → StageArguments (i + 1 + length xs) es (not_tail f) (with_context NONE s)
    unfolding size Blocks
    let_initials m xs es b w =
        onward w (omega arith) (omega arith) (layered_next w.layered w.layered.scope (as_stacked refl)) (as_stacked refl)
        (record { at = λ x l u. refl }) (λ u. u.1) (λ v. v.1) (λ v. as_full refl refl refl refl) (omega arith) (λ z. omega arith)

    pub let_body_lem : (m : Node) (xs : List Ident) (es : Trees) (b : Tree) → Num i (letin m xs es b) → Stage i (letin m xs es b) f s
        → Stage (i + 1 + length xs + sizes es) b (let_body_flags (many es) f)
        (open_let m xs f.height f.function (with_context s.context (visit_arguments classes es (not_tail f) (with_context NONE s))))
    unfolding size Blocks Num
    let_body_lem m xs es b n w =
        let t = with_context NONE s in
        let q = visit_arguments classes es (not_tail f) t in
        let u = with_context s.context q in
        let h = (let_initials m xs es b w).layered in
        let p = arguments_stacked_visited classes es (not_tail f) t h in
        let g = next h (visited_arguments classes es (not_tail f) t h.scope) p in
        let e : Layered u = layered_next g g.scope (as_stacked refl) in
        let a = open_let_preserves apart_steps m xs f.height f.function u in
        let c : Stacked s u = record { depth = p.depth; layers = p.layers } in
        let r = to_let_body classes i m xs es b n f s h.scope in
        let k = i + 1 + length xs + sizes es in
        onward w (omega arith) (omega arith) (layered_in_let m xs f.height f.function u e) (stacked_then c a.stacked)
        (narrow r.before (omega arith))
        (λ v. blocks_last blank k b n.4 r.part v.2) (λ v. blocks_last made k b n.4 r.part v.2)
        (λ v. stored-then (apart_steps.context NONE s).stored
        (stored-then (arguments_all-stored classes (i + 1 + length xs) es n.3 (not_tail f) t h.scope v.1)
        (stored-then (apart_steps.context s.context q).stored a.stored)))
        (omega (arith, n.1, arguments_due classes (i + 1 + length xs) es n.3 (not_tail f) t h.scope, (open_let_due m xs f.height f.function u).by))
        (λ z. omega (arith, arguments_top_lem classes (i + 1 + length xs) es n.3 (not_tail f) t h.scope (omega arith), a.stored.captured))

    -- define

    pub define-body : (m : Node) (x : Ident) (b : Tree) → Num i (define m x b) → Stage i (define m x b) f s
        → Stage (i + 2) b (define_flags f) (open_define classes f.direct (is_lambda b) x b s)
    unfolding size Blocks Num
    define-body m x b n w =
        let a = before_preserves apart_steps classes f.direct (is_lambda b) x b s in
        let r = to_define_body classes i m x b n f s in
        onward w (omega arith) (omega arith) (next w.layered (before_changes {own = Any} classes f.direct (is_lambda b) x b s tt) a.stacked)
        a.stacked
        (narrow r.before (omega arith)) (λ u. blocks_last blank (i + 2) b n.2 r.part u) (λ v. blocks_last made (i + 2) b n.2 r.part v)
        (λ v. a.stored) (omega (arith, (before-due classes f.direct (is_lambda b) x b s).by)) (λ z. omega (arith, a.stored.captured))

    -- call: the arguments, then the head

    pub call_arguments : (m : Node) (e : Tree) (es : Trees) → Stage i (call m e es) f s → StageArguments (i + 1 + size e) es (argument_flags f) s
    unfolding size Blocks
    call_arguments m e es w = here w (omega arith) (omega arith) (omega arith) (λ u. u.1) (λ v. v.1)

    pub call_head : (m : Node) (e : Tree) (es : Trees) → Num i (call m e es) → Stage i (call m e es) f s
        → Stage (i + 1) e (head_flags e (many es) f) (visit_arguments classes es (argument_flags f) s)
    unfolding size Blocks Num
    call_head m e es n w =
        let h = w.layered in
        let p = arguments_stacked_visited classes es (argument_flags f) s h in
        let r = to-head classes i m e es n f s h.scope in
        onward w (omega arith) (omega arith) (next h (visited_arguments classes es (argument_flags f) s h.scope) p) p (narrow r.before (omega arith))
        (λ u. blocks_last blank (i + 1) e n.1 r.part u.0) (λ v. blocks_last made (i + 1) e n.1 r.part v.0)
        (λ v. arguments_all-stored classes (i + 1 + size e) es n.2 (argument_flags f) s h.scope v.1)
        (omega (arith, arguments_due classes (i + 1 + size e) es n.2 (argument_flags f) s h.scope))
        (λ z. omega (arith, arguments_top_lem classes (i + 1 + size e) es n.2 (argument_flags f) s h.scope (omega arith)))

    -- set!

    pub set_expression : (m : Node) (x : Ident) (e : Tree) → Num i (set! m x e) → Stage i (set! m x e) f s → Stage (i + 2) e (not_tail f) (clear_context x s)
    unfolding size Blocks Num
    set_expression m x e n w =
        let a = (clear_preserves still_steps x s).apart in
        let r = to_set i (i + 2) (size e) x s in
        onward w (omega arith) (omega arith) (next w.layered (clear_changes {own = Any} x s) a.stacked) a.stacked r.before
        (λ u. blocks_last blank (i + 2) e n.2 r.part u) (λ v. blocks_last made (i + 2) e n.2 r.part v)
        (λ v. a.stored) (omega (arith, (still_due (clear_preserves still_steps x s)).by)) (λ z. omega (arith, a.stored.captured))
