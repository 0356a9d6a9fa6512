-- The stage of a lambda's body, and what lambdas and lets find as they begin and end.
use Prim.Native.Nat.{ℕ, suc, ◌+◌, ◌≤◌}
use Rattle.std.specs.Prelude.{List, ◌≡◌, Option, None, Some}
use Rattle.std.proofs.Common.{ap, subst, ◌∙◌, arith}
use Rattle.std.proofs.Math.ListN.{length}
use Rattle.tree.specs.Tree.{Ident, Node, Tree, Trees, letin, lambda, many, size, sizes, Num}
use Rattle.semantic.specs.Information.{NONE}
use Rattle.semantic.specs.Kinds.{function_in, let_in}
use Rattle.semantic.specs.declared.FunctionInformation.{FunctionInformation}
use Rattle.semantic.specs.declared.LetInformation.{LetInformation}
use Rattle.pass.specs.State.{State, with_context, row_at, depth}
use Rattle.pass.specs.Lambda.{open_captures, open_scope, open_lambda, open_let}
use Rattle.pass.specs.Visit.{Flags, not_tail, let_body_flags, body_flags, visit}
use Rattle.pass.specs.Run.{list_entries_most}
use Rattle.pass_laws.specs.Stage.{Blocks, AfterInitials, list_length, ListsWithin, NamesWithin, Unmade, Made, held, due, Around, IsBlank, FunctionWithin, LetWithin, OnRun, first, second, Stage, EntersWithin, LeavesWithin, LetEntersWithin, LetLeavesWithin, CapturedWithin, AroundWithin}
use Rattle.pass_laws.specs.Laws.Rows.{key, key-blank}
use Rattle.pass_laws.specs.Laws.Scopes.{lambda_depth, let_stays}
use Rattle.pass_laws.specs.Laws.Visits.{stays}
use Rattle.pass_laws.specs.Laws.Keeps.{keeps_arguments, visited_arguments}
use Rattle.pass_laws.specs.Laws.Stage.Lists.{Lasting, lists_shorter, lists-first}
use Rattle.pass_laws.specs.Laws.Stage.Still.{stacked_then}
use Rattle.pass_laws.specs.Laws.Stage.Entering.{open_scope_apart, apart_steps}
use Rattle.pass_laws.specs.Laws.Stage.Arguments.{visit_due, arguments_due, open_let_due, open_lambda_due, layer_size}
use Rattle.pass_laws.specs.Laws.Stage.Numbering.{open_size}
use Rattle.pass_laws.specs.Laws.Stage.Captured.{visit_top_lem}
use Rattle.pass_laws.specs.Laws.Stage.Captures.{layered_in_lambda}
use Rattle.pass_laws.specs.Laws.Stage.Filled.{open_lambda_stored}
use Rattle.pass_laws.specs.Laws.Stage.Blocks.{blank, blocks_last}
use Rattle.pass_laws.specs.Laws.Stage.Reached.{to_lambda_body}
use Rattle.pass_laws.specs.Laws.Stage.Second.{made, lambda_row, let_row}
use Rattle.pass_laws.specs.Laws.Stage.Onward.{narrow, stacked_long, around_lasts}
use Rattle.pass_laws.specs.Laws.Preserved.{parameters_preserves}

-- a lambda's captures
pub open_lambda_size : (n : Node) (xs : List Ident) (s : State)
    → length (open_lambda n xs s).captures.live ≤ length s.captures.live + held (row_at s n.at)
unfolding open_lambda
open_lambda_size n xs s =
    let f = function_in (row_at s n.at) in
    let t = open_captures f s in
    omega (arith, open_size f s, stacked_long (stacked_then (open_scope_apart t).stacked (parameters_preserves apart_steps f xs (open_scope t)).stacked))

-- by a fact that is made
enters_made : (s : State) (o : Option FunctionInformation) → ListsWithin list_entries_most list_entries_most o → length s.captures.live + list_length o ≤ list_entries_most
    → EntersWithin s o
enters_made s None h l = tt
enters_made s (Some v) h l = (h.0, h.1, l)

leaves_made : (s : State) (o : Option FunctionInformation) → ListsWithin list_entries_most list_entries_most o → LeavesWithin s o
leaves_made s None h = absurd h
leaves_made s (Some v) h = h

captured_made : (o : Option FunctionInformation) → ListsWithin list_entries_most list_entries_most o → CapturedWithin o
captured_made None h = tt
captured_made (Some v) h = h.0

let_made : (o : Option LetInformation) → NamesWithin list_entries_most o → LetEntersWithin o
let_made None h = tt
let_made (Some v) h = h

module _ (classes : List ℕ) (i : ℕ) (f : Flags) (s : State) where
  pub lambda_body_lem : (m : Node) (xs : List Ident) (b : Tree) → Num i (lambda m xs b) → Stage i (lambda m xs b) f s
      → Stage (i + 1 + length xs) b (body_flags m (length xs) f) (open_lambda m xs s)
  unfolding size Blocks Num
  lambda_body_lem m xs b n w = record { layered = layered_in_lambda m xs s w.layered; run = go w.run }
    where
      N : ℕ
      N = size (lambda m xs b)

      k : ℕ
      k = i + 1 + length xs

      u : State
      u = open_lambda m xs s

      go : OnRun i N N (Unmade s (lambda m xs b)) (Made s (lambda m xs b)) f.function s → OnRun k (size b) (size b) (Unmade u b) (Made u b) (Some m) u
      go (first p) =
          let r = to_lambda_body classes i m xs b n s in
          first (record {
            unmade = blocks_last blank k b n.2 r.part p.unmade.1;
            function = (omega (arith, n.0), key-blank (row_at u m.at) (r.before.at m.at (omega arith) (omega (arith, n.0)) ∙ ap key p.unmade.0));
            room = omega (arith, p.room, (open_lambda_due m xs s).by);
            captured = omega (arith, p.captured, (open_lambda_stored m xs s).captured);
          })
      go (second p) =
          let r = to_lambda_body classes i m xs b n s in
          let y = open_lambda_stored m xs s in
          let e = r.before.at m.at (omega arith) (omega (arith, n.0)) in
          second (record {
            made = blocks_last made k b n.2 r.part p.made.1;
            function = (omega (arith, n.0), made.function (row_at u m.at) (row_at s m.at) e p.made.0);
            room = omega (
              arith,
              p.room,
              ap (λ (x : ℕ). held (row_at s x)) n.0,
              open_lambda_size m xs s,
              lists_shorter y.shorter k (size b),
              lists-first s i N k (size b) (omega arith) (omega arith),
            );
            arguments = omega (arith, p.arguments, y.arguments);
            captured = omega (arith, p.captured, y.captured);
          })

  -- A lambda begins

  pub lambda_enters : (m : Node) (xs : List Ident) (b : Tree) → Num i (lambda m xs b) → Stage i (lambda m xs b) f s
      → EntersWithin s (function_in (row_at s m.at))
  unfolding Blocks Num size
  lambda_enters m xs b n w = go w.run
    where
      N : ℕ
      N = size (lambda m xs b)

      go : OnRun i N N (Unmade s (lambda m xs b)) (Made s (lambda m xs b)) f.function s → EntersWithin s (function_in (row_at s m.at))
      go (first p) = rw p.unmade.0 tt
      go (second p) =
          let e = ap (λ (x : ℕ). held (row_at s x)) n.0 in
          enters_made s (function_in (row_at s m.at)) p.made.0 (omega (arith, p.room, e, lists-first s i N (i + 1) 0 (omega arith) (omega arith)))

  -- and ends

  pub lambda_leaves : (m : Node) (xs : List Ident) (b : Tree) → Num i (lambda m xs b) → Stage i (lambda m xs b) f s
      → let y = visit classes b (body_flags m (length xs) f) (open_lambda m xs s) in
      LeavesWithin y (function_in (row_at y m.at))
  unfolding Blocks Num size
  lambda_leaves m xs b n w = go w.run
    where
      N : ℕ
      N = size (lambda m xs b)

      k : Flags
      k = body_flags m (length xs) f

      u : State
      u = open_lambda m xs s

      y : State
      y = visit classes b k u

      h : 1 ≤ depth s
      h = w.layered.scope

      row : key (row_at y m.at) ≡ key (row_at s m.at)
      row = lambda_row classes i m xs b n k s h

      go : OnRun i N N (Unmade s (lambda m xs b)) (Made s (lambda m xs b)) f.function s → LeavesWithin y (function_in (row_at y m.at))
      go (first p) =
          let g : 1 ≤ depth u = omega (arith, lambda_depth m xs s h) in
          let l : due u + size b ≤ suc list_entries_most = omega (arith, p.room, (open_lambda_due m xs s).by) in
          let d = visit_due classes (i + 1 + length xs) b n.2 k u g in
          rw (key-blank (row_at y m.at) (row ∙ ap key p.unmade.0)) (
            omega (arith, l, d, layer_size (depth y) y.scope.names.live),
            omega (arith, l, d, p.captured, (open_lambda_stored m xs s).captured, visit_top_lem classes (i + 1 + length xs) b n.2 k u g l),
          )
      go (second p) = leaves_made y (function_in (row_at y m.at)) (made.function (row_at y m.at) (row_at s m.at) row p.made.0)

  -- A let begins, its initial expressions visited

  initials_keep : (m : Node) (xs : List Ident) (es : Trees) (b : Tree) → Num i (letin m xs es b) → 1 ≤ depth s → Lasting 0 (i + 1) s (AfterInitials classes es f s)
  unfolding Num
  initials_keep m xs es b n h =
      record { at = λ x l u. keeps_arguments classes (i + 1 + length xs) es n.3 (not_tail f) (with_context NONE s) h x (λ p q. omega arith) }

  around_made : (o : Option Node) (t : State) → Around (FunctionWithin list_entries_most list_entries_most) i t o → AroundWithin t o
  around_made None t a = tt
  around_made (Some k) t a = captured_made (function_in (row_at t k.at)) a.1

  around_blank : (o : Option Node) (t : State) → Around IsBlank i t o → AroundWithin t o
  around_blank None t a = tt
  around_blank (Some k) t a = rw a.1 tt

  pub let_enters : (m : Node) (xs : List Ident) (es : Trees) (b : Tree) → Num i (letin m xs es b) → Stage i (letin m xs es b) f s
      → LetEntersWithin (let_in (row_at (AfterInitials classes es f s) m.at)) × AroundWithin (AfterInitials classes es f s) f.function
  unfolding Blocks Num
  let_enters m xs es b n w = go w.run
    where
      N : ℕ
      N = size (letin m xs es b)

      u : State
      u = AfterInitials classes es f s

      c : Lasting 0 (i + 1) s u
      c = initials_keep m xs es b n w.layered.scope

      row : key (row_at u m.at) ≡ key (row_at s m.at)
      row = c.at m.at (omega arith) (omega (arith, n.0))

      go : OnRun i N N (Unmade s (letin m xs es b)) (Made s (letin m xs es b)) f.function s
          → LetEntersWithin (let_in (row_at u m.at)) × AroundWithin u f.function
      go (first p) = (
        rw (key-blank (row_at u m.at) (row ∙ ap key p.unmade.0)) tt,
        around_blank f.function u (around_lasts IsBlank blank.function f.function (narrow c (omega arith)) (omega arith) p.function),
      )
      go (second p) = (
        let_made (let_in (row_at u m.at)) (made.letin (row_at u m.at) (row_at s m.at) row p.made.0),
        around_made f.function u
            (around_lasts (FunctionWithin list_entries_most list_entries_most) made.function f.function (narrow c (omega arith)) (omega arith) p.function),
      )

  -- and ends

  pub let_leaves : (m : Node) (xs : List Ident) (es : Trees) (b : Tree) → Num i (letin m xs es b) → Stage i (letin m xs es b) f s
      → let y = visit classes b (let_body_flags (many es) f) (open_let m xs f.height f.function (AfterInitials classes es f s)) in
      LetLeavesWithin (length xs) y (row_at y m.at)
  unfolding Blocks Num size
  let_leaves m xs es b n w = go w.run
    where
      N : ℕ
      N = size (letin m xs es b)

      k : Flags
      k = let_body_flags (many es) f

      u : State
      u = AfterInitials classes es f s

      v : State
      v = open_let m xs f.height f.function u

      y : State
      y = visit classes b k v

      h : 1 ≤ depth s
      h = w.layered.scope

      g : 1 ≤ depth u
      g = stays (visited_arguments classes es (not_tail f) (with_context NONE s) h) h

      row : key (row_at y m.at) ≡ key (row_at s m.at)
      row = let_row classes i m xs es b n f k s h

      go : OnRun i N N (Unmade s (letin m xs es b)) (Made s (letin m xs es b)) f.function s → LetLeavesWithin (length xs) y (row_at y m.at)
      go (first p) e =
          omega (
            arith,
            p.room,
            n.1,
            arguments_due classes (i + 1 + length xs) es n.3 (not_tail f) (with_context NONE s) h,
            (open_let_due m xs f.height f.function u).by,
            visit_due classes (i + 1 + length xs + sizes es) b n.4 k v (let_stays m xs f.height f.function u g),
          )
      go (second p) e = absurd (subst (LetWithin list_entries_most) e (made.letin (row_at y m.at) (row_at s m.at) row p.made.0))
