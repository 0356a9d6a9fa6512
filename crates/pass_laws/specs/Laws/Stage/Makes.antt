-- A visit leaves every lambda and every let of its tree with a fact whose lists lie within the tables, and what comes later keeps it.
use Rattle.std.specs.Prelude.{ℕ, ◌+◌, ◌≤◌, ◌<◌, List, refl, length}
use Rattle.std.proofs.Common.{◌∙◌, arith}
use Rattle.tree.specs.Tree.{Ident, Node, Tree, Trees, ident, const, if, letin, define, lambda, sequence, call, set!, nil, cons, many, size, sizes, Num, Nums, begins, ands, whens}
use Rattle.semantic.specs.Information.{NONE}
use Rattle.tree.specs.Core.{cores}
use Rattle.semantic.specs.Rows.{Row}
use Rattle.semantic.specs.declared.IdentifierStatus.TheVariants.{LocallyDefinedFunction}
use Rattle.pass.specs.State.{State, with_context, row_at, depth}
use Rattle.pass.specs.Lambda.{open_lambda, close_lambda, at_bottom, open_let, close_let}
use Rattle.pass.specs.Visit.{Flags, not_tail, same_tail, pushed, let_body_flags, body_flags, argument_flags, is_lambda, head_flags, is_nil, child_flags, define_flags, open_define, enter_children, clear_context, visit, visit_arguments, visit_children, in_begin, in_and, is_alone, visit_tested}
use Rattle.pass_laws.specs.Stage.{Blocks, BlocksIn, BlocksAllIn, FunctionWithin, LetWithin}
use Rattle.pass_laws.specs.Laws.Changes.{Changes, same, ◌⨾◌, context, keeps_lengths}
use Rattle.pass_laws.specs.Laws.Names.{read_changes, mutate_changes}
use Rattle.pass_laws.specs.Laws.Moves.{Moves, by, ◌⨟◌, moves_key, moves_lengths, into_lambda, out_of_lambda, into_let, out_of_let}
use Rattle.pass_laws.specs.Laws.Scopes.{Any, names-any, lambda_depth, let_stays}
use Rattle.pass_laws.specs.Laws.Visits.{stays, before_changes, after_changes, children_changes, clear_changes, call_changes, visit_changes, arguments_visited, children_visited, writes_cores}
use Rattle.pass_laws.specs.Laws.Ranges.{names_writes, tree_writes, trees_writes, trees_any}
use Rattle.pass_laws.specs.Laws.Keeps.{Off, visited, visited_arguments}
use Rattle.pass_laws.specs.Laws.Stage.Lists.{Lasting}
use Rattle.pass_laws.specs.Laws.Stage.Still.{◌⨾◌ as ◌then◌, as_full, still_steps}
use Rattle.pass_laws.specs.Laws.Stage.Entering.{apart_steps}
use Rattle.pass_laws.specs.Laws.Stage.Filled.{Filled, ◌⟫◌, stored_filled, close_lambda_filled, close_let_filled, visit_filled, arguments_filled, children_filled}
use Rattle.pass_laws.specs.Laws.Stage.Blocks.{within, blocks_last, blocks_last-all}
use Rattle.pass_laws.specs.Laws.Stage.Children.{children_blocks}
use Rattle.pass_laws.specs.Laws.Stage.Reached.{to-next, to_second, to_third, to_let_body, to_define_body, to_lambda_body, to-head, to_set}
use Rattle.pass_laws.specs.Laws.Stage.Second.{lambda_row, let_row}
use Rattle.pass_laws.specs.Laws.Stage.Ends.{Ends}
use Rattle.pass_laws.specs.Laws.Preserved.{open_let_preserves, after_preserves, call_preserves, mutate_preserves, read_preserves, children_preserves}

-- from u on to w the records from i up to j keep their facts, and c and a are no less than the tables are filled in u
pub record Hence (c a i j : ℕ) (u w : State) : Type 0 where
  pub captured : u.facts.captured_top ≤ c
  pub arguments : u.facts.arguments_top ≤ a
  pub rows : Lasting i j u w

-- from an earlier place
pub hence_before : {c a i j k m : ℕ} {t u w : State} → Hence c a i j u w → i ≤ k → m ≤ j → Filled t u → Moves (Off k m) t u → Hence c a k m t w
hence_before p h g q o =
    record {
      captured = omega (arith, p.captured, q.captured);
      arguments = omega (arith, p.arguments, q.arguments);
      rows = record { at = λ x l e. p.rows.at x (omega arith) (omega arith) ∙ moves_key o x (λ d. d l e) };
    }

-- of fewer records
pub hence_of : {c a i j : ℕ} {u w : State} → Hence c a i j u w → (k m : ℕ) → i ≤ k → m ≤ j → Hence c a k m u w
hence_of p k m h g = hence_before p h g (stored_filled (as_full refl refl refl refl)) (by same)

module _ (classes : List ℕ) {F L : Row → Type 0} {c a : ℕ} (ends : Ends F L c a) where
  -- visits of other records
  off : (k m j : ℕ) (t : Tree) → Num j t → ((x : ℕ) → j ≤ x → x < j + size t → Off k m x) → (f : Flags) (s : State) → 1 ≤ depth s
      → Changes (Off k m) s (visit classes t f s)
  off k m j t n o f s h = visit_changes classes t f s (tree_writes (Off k m) j t n o) h

  -- the fact of a lambda, of a let, once its visit has ended
  lambda_made : (i : ℕ) (m : Node) (xs : List Ident) (t : Tree) → Num i (lambda m xs t) → (f : Flags) (s : State) → 1 ≤ depth s
      → m.at < length s.facts.rows → F (row_at s m.at) → (j : ℕ) → i < j → (w : State) → Hence c a i j (visit classes (lambda m xs t) f s) w
      → FunctionWithin c a (row_at w m.at)
  unfolding visit Num
  lambda_made i m xs t n f s h l b j g w p =
      let k = body_flags m (length xs) f in
      let u = open_lambda m xs s in
      let y = visit classes t k u in
      let z = close_lambda m xs t f.escape y in
      let r = (keeps_lengths (visited classes t k u (omega (arith, lambda_depth m xs s h)))).rows in
      let b1 = ends.kind.function (row_at y m.at) (row_at s m.at) (lambda_row classes i m xs t n k s h) b in
      (within c a).function (row_at w m.at) (row_at z m.at) (p.rows.at m.at (omega (arith, n.0)) (omega (arith, n.0)))
      (ends.lambda m xs t f.escape y b1 (omega (arith, r, (moves_lengths (into_lambda {own = Any} m xs s (names-any xs))).rows)) p.captured
      p.arguments)

  let_made : (i : ℕ) (m : Node) (xs : List Ident) (es : Trees) (t : Tree) → Num i (letin m xs es t) → (f : Flags) (s : State) → 1 ≤ depth s
      → m.at < length s.facts.rows → L (row_at s m.at) → (j : ℕ) → i < j → (w : State) → Hence c a i j (visit classes (letin m xs es t) f s) w
      → LetWithin a (row_at w m.at)
  unfolding visit Num
  let_made i m xs es t n f s h l b j g w p =
      let k = let_body_flags (many es) f in
      let d = visited_arguments classes es (not_tail f) (with_context NONE s) h in
      let u = with_context s.context (visit_arguments classes es (not_tail f) (with_context NONE s)) in
      let e : 1 ≤ depth u = stays d h in
      let v = open_let m xs f.height f.function u in
      let y = visit classes t k v in
      let z = close_let (at_bottom s) m xs f.height f.function y in
      let r = (keeps_lengths (visited classes t k v (let_stays m xs f.height f.function u e))).rows in
      let b1 = ends.kind.letin (row_at y m.at) (row_at s m.at) (let_row classes i m xs es t n f k s h) b in
      (within c a).letin (row_at w m.at) (row_at z m.at) (p.rows.at m.at (omega (arith, n.0)) (omega (arith, n.0)))
      (ends.letin (at_bottom s) m xs f.height f.function y b1
      (omega (arith, r, (keeps_lengths d).rows, (moves_lengths (into_let {own = Any} m xs f.height f.function u (names-any xs))).rows)) p.arguments)

  mutual
    unfolding visit Num size Blocks

    pub visit_makes : (i : ℕ) (t : Tree) → Num i t → (f : Flags) (s : State) → 1 ≤ depth s → i + size t ≤ length s.facts.rows → BlocksIn F L s t
        → (w : State) → Hence c a i (i + size t) (visit classes t f s) w → BlocksIn (FunctionWithin c a) (LetWithin a) w t
    visit_makes i (ident x) n f s h l b w p = tt
    visit_makes i (const m q) n f s h l b w p = tt
    visit_makes i (if m t u v) n f s h l b w p =
        let s1 = visit classes t (not_tail f) s in
        let s2 = visit classes u (same_tail f) s1 in
        let d1 = visited classes t (not_tail f) s h in
        let h1 = stays d1 h in
        let d2 = visited classes u (same_tail f) s1 h1 in
        let h2 = stays d2 h1 in
        let j = i + 1 + size t in
        let k = j + size u in (
          visit_makes (i + 1) t n.1 (not_tail f) s h (omega arith) b.0 w
              (hence_before p (omega arith) (omega arith) (visit_filled classes u (same_tail f) s1 ⟫ visit_filled classes v (same_tail f) s2)
              (by (off (i + 1) (i + 1 + size t) j u n.2 (λ x y z y' z'. omega arith) (same_tail f) s1 h1
              ⨾ off (i + 1) (i + 1 + size t) k v n.3 (λ x y z y' z'. omega arith) (same_tail f) s2 h2))),
          visit_makes j u n.2 (same_tail f) s1 h1 (omega (arith, (keeps_lengths d1).rows))
              (blocks_last ends.kind j u n.2 (to_second classes i m t u v n f s h).part b.1) w
              (hence_before p (omega arith) (omega arith) (visit_filled classes v (same_tail f) s2)
              (by (off j (j + size u) k v n.3 (λ x y z y' z'. omega arith) (same_tail f) s2 h2))),
          visit_makes k v n.3 (same_tail f) s2 h2 (omega (arith, (keeps_lengths d1).rows, (keeps_lengths d2).rows))
              (blocks_last ends.kind k v n.3 (to_third classes i m t u v n f s h).part b.2) w (hence_of p k (k + size v) (omega arith) (omega arith)),
        )
    visit_makes i (letin m xs es t) n f s h l b w p =
        let d = visited_arguments classes es (not_tail f) (with_context NONE s) h in
        let r = (keeps_lengths d).rows in
        let q = visit_arguments classes es (not_tail f) (with_context NONE s) in
        let u = with_context s.context q in
        let e : 1 ≤ depth u = stays d h in
        let v = open_let m xs f.height f.function u in
        let g = let_stays m xs f.height f.function u e in
        let k = let_body_flags (many es) f in
        let y = visit classes t k v in
        let o = close_let_filled (at_bottom s) m xs f.height f.function y in
        let i1 = i + 1 + length xs in
        let i2 = i1 + sizes es in (
          let_made i m xs es t n f s h (omega (arith, n.0)) b.0 (i + size (letin m xs es t)) (omega arith) w p,
          arguments_make i1 es n.3 (not_tail f) (with_context NONE s) h (omega arith) b.1 w
              (hence_before p (omega arith) (omega arith)
              (stored_filled (apart_steps.context s.context q).stored ⟫ stored_filled (open_let_preserves apart_steps m xs f.height f.function u).stored
              ⟫ visit_filled classes t k v ⟫ o)
              (by (context s.context) ⨟ into_let m xs f.height f.function u (names_writes (Off i1 i2) (i + 1) xs n.2 (λ x y z y' z'. omega arith))
              ⨟ by (off i1 i2 i2 t n.4 (λ x y z y' z'. omega arith) k v g)
              ⨟ out_of_let (at_bottom s) m xs f.height f.function y (λ x z. omega (arith, n.0)))),
          visit_makes i2 t n.4 k v g (omega (arith, r, (moves_lengths (into_let {own = Any} m xs f.height f.function u (names-any xs))).rows))
              (blocks_last ends.kind i2 t n.4 (to_let_body classes i m xs es t n f s h).part b.2) w
              (hence_before p (omega arith) (omega arith) o (out_of_let (at_bottom s) m xs f.height f.function y (λ x z. omega (arith, n.0)))),
        )
    visit_makes i (define m x t) n f s h l b w p =
        let u = open_define classes f.direct (is_lambda t) x t s in
        let d = before_changes {own = Any} classes f.direct (is_lambda t) x t s tt in
        visit_makes (i + 2) t n.2 (define_flags f) u (stays d h) (omega (arith, (keeps_lengths d).rows))
        (blocks_last ends.kind (i + 2) t n.2 (to_define_body classes i m x t n f s).part b) w
        (hence_before p (omega arith) (omega arith) (stored_filled (after_preserves apart_steps classes f.direct (is_lambda t) s.context x t _).stored)
        (by (after_changes classes f.direct (is_lambda t) s.context x t _ (λ y z. omega (arith, n.1)))))
    visit_makes i (lambda m xs t) n f s h l b w p =
        let u = open_lambda m xs s in
        let k = body_flags m (length xs) f in
        let y = visit classes t k u in
        let j = i + 1 + length xs in (
          lambda_made i m xs t n f s h (omega (arith, n.0)) b.0 (i + size (lambda m xs t)) (omega arith) w p,
          visit_makes j t n.2 k u (omega (arith, lambda_depth m xs s h)) (omega (arith, (moves_lengths (into_lambda {own = Any} m xs s (names-any xs))).rows))
              (blocks_last ends.kind j t n.2 (to_lambda_body classes i m xs t n s).part b.1) w
              (hence_before p (omega arith) (omega arith) (close_lambda_filled m xs t f.escape y)
              (out_of_lambda m xs t f.escape y (λ x z. omega (arith, n.0)))),
        )
    visit_makes i (sequence (begins m) es) n f s h l b w p =
        let d = children_changes {own = Any} classes LocallyDefinedFunction (cores es) s (trees_any (cores es)) in
        children_make (i + 1) es n.1 (in_begin f) (enter_children classes LocallyDefinedFunction (cores es) s) (stays d h) (omega (arith, (keeps_lengths d).rows))
        (children_blocks classes ends.kind (i + 1) es n.1 s b) w (hence_of p (i + 1) (i + 1 + sizes es) (omega arith) (omega arith))
    visit_makes i (sequence (ands m) es) n f s h l b w p = children_make (i + 1) es n.1 (in_and (is_alone es) f) s h (omega arith) b w (hence_of p (i + 1) (i + 1 + sizes es) (omega arith) (omega arith))
    visit_makes i (sequence (whens q m) es) n f s h l b w p = tested-make (i + 1) es n.1 f s h (omega arith) b w (hence_of p (i + 1) (i + 1 + sizes es) (omega arith) (omega arith))
    visit_makes i (call m e es) n f s h l b w p =
        let u = visit_arguments classes es (argument_flags f) s in
        let d = visited_arguments classes es (argument_flags f) s h in
        let g = stays d h in
        let k = head_flags e (many es) f in
        let v = visit classes e k u in
        let j = i + 1 + size e in
        let z = (call_preserves still_steps m e es f v).apart.stored in (
          visit_makes (i + 1) e n.1 k u g (omega (arith, (keeps_lengths d).rows))
              (blocks_last ends.kind (i + 1) e n.1 (to-head classes i m e es n f s h).part b.0) w
              (hence_before p (omega arith) (omega arith) (stored_filled z) (by (call_changes m e es f v (λ q x y. omega (arith, n.0))))),
          arguments_make j es n.2 (argument_flags f) s h (omega arith) b.1 w
              (hence_before p (omega arith) (omega arith) (visit_filled classes e k u ⟫ stored_filled z)
              (by (off j (j + sizes es) (i + 1) e n.1 (λ x y z y' z'. omega arith) k u g ⨾ call_changes m e es f v (λ q x y. omega (arith, n.0))))),
        )
    visit_makes i (set! m x e) n f s h l b w p =
        let u = clear_context x s in
        let d = clear_changes {own = Any} x s in
        let v = visit classes e (not_tail f) u in
        visit_makes (i + 2) e n.2 (not_tail f) u (stays d h) (omega (arith, (keeps_lengths d).rows))
        (blocks_last ends.kind (i + 2) e n.2 (to_set i (i + 2) (size e) x s).part b) w
        (hence_before p (omega arith) (omega arith) (stored_filled (mutate_preserves still_steps x.name v then read_preserves still_steps classes x _).apart.stored)
        (by (mutate_changes x.name v ⨾ read_changes classes x _ (λ y z. omega (arith, n.1)))))

    pub arguments_make : (i : ℕ) (ts : Trees) → Nums i ts → (f : Flags) (s : State) → 1 ≤ depth s → i + sizes ts ≤ length s.facts.rows
        → BlocksAllIn F L s ts
        → (w : State) → Hence c a i (i + sizes ts) (visit_arguments classes ts f s) w → BlocksAllIn (FunctionWithin c a) (LetWithin a) w ts
    arguments_make i nil n f s h l b w p = tt
    arguments_make i (cons t ts) n f s h l b w p =
        let u = visit classes t f s in
        let d = visited classes t f s h in
        let g = stays d h in
        let k = i + size t in (
          visit_makes i t n.0 f s h (omega arith) b.0 w
              (hence_before p (omega arith) (omega arith) (arguments_filled classes ts (pushed f) u)
              (by (arguments_visited classes ts (pushed f) u (trees_writes (Off i k) k ts n.1 (λ x y z y' z'. omega arith)) g))),
          arguments_make k ts n.1 (pushed f) u g (omega (arith, (keeps_lengths d).rows))
              (blocks_last-all ends.kind k ts n.1 (to-next classes i t ts n f s h).part b.1) w
              (hence_of p k (k + sizes ts) (omega arith) (omega arith)),
        )

    tested-make : (i : ℕ) (ts : Trees) → Nums i ts → (f : Flags) (s : State) → 1 ≤ depth s → i + sizes ts ≤ length s.facts.rows → BlocksAllIn F L s ts
        → (w : State) → Hence c a i (i + sizes ts) (visit_tested classes ts f s) w → BlocksAllIn (FunctionWithin c a) (LetWithin a) w ts
    tested-make i nil n f s h l b w p = tt
    tested-make i (cons t ts) n f s h l b w p =
        let e = not_tail f in
        let u = visit classes t e s in
        let d = visited classes t e s h in
        let g = stays d h in
        let k = i + size t in
        let y = children_changes classes LocallyDefinedFunction (cores ts) u (writes_cores _ _ ts (trees_writes (Off i k) k ts n.1 (λ x y z y' z'. omega arith))) in (
          visit_makes i t n.0 e s h (omega arith) b.0 w
              (hence_before p (omega arith) (omega arith) (stored_filled (children_preserves apart_steps classes _ (cores ts) u).stored ⟫ children_filled classes ts (in_begin f) _)
              (by (y ⨾ children_visited classes ts (in_begin f) _ (trees_writes (Off i k) k ts n.1 (λ x y z y' z'. omega arith)) (stays y g)))),
          children_make k ts n.1 (in_begin f) (enter_children classes LocallyDefinedFunction (cores ts) u) (stays y g) (omega (arith, (keeps_lengths d).rows, (keeps_lengths y).rows))
              (children_blocks classes ends.kind k ts n.1 u (blocks_last-all ends.kind k ts n.1 (to-next classes i t ts n e s h).part b.1)) w
              (hence_of p k (k + sizes ts) (omega arith) (omega arith)),
        )

    pub children_make : (i : ℕ) (ts : Trees) → Nums i ts → (f : Flags) (s : State) → 1 ≤ depth s → i + sizes ts ≤ length s.facts.rows → BlocksAllIn F L s ts
        → (w : State) → Hence c a i (i + sizes ts) (visit_children classes ts f s) w → BlocksAllIn (FunctionWithin c a) (LetWithin a) w ts
    children_make i nil n f s h l b w p = tt
    children_make i (cons t ts) n f s h l b w p =
        let e = child_flags (is_nil ts) f in
        let u = visit classes t e s in
        let d = visited classes t e s h in
        let g = stays d h in
        let k = i + size t in (
          visit_makes i t n.0 e s h (omega arith) b.0 w
              (hence_before p (omega arith) (omega arith) (children_filled classes ts f u)
              (by (children_visited classes ts f u (trees_writes (Off i k) k ts n.1 (λ x y z y' z'. omega arith)) g))),
          children_make k ts n.1 f u g (omega (arith, (keeps_lengths d).rows))
              (blocks_last-all ends.kind k ts n.1 (to-next classes i t ts n e s h).part b.1) w
              (hence_of p k (k + sizes ts) (omega arith) (omega arith)),
        )
