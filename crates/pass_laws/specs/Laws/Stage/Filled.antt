-- The tables of lists only fill: lists grow together by no more than the captured table, and without refusal 10 that stays within its limit.
use Rattle.std.specs.Prelude.{ℕ, ◌+◌, ◌≤◌, List, [], Bool, true, false, cond, ◌≡◌, refl, length, ltb, Option, None, Some}
use Rattle.std.proofs.lemmas.Option.{none-some}
use Rattle.std.proofs.Common.{ap, sym, ◌∙◌, arith, ltb-false}
use Rattle.tree.specs.Tree.{Ident, Node, Tree, Trees, ident, const, if, letin, define, lambda, sequence, call, set!, nil, cons, many, begins, ands, whens}
use Rattle.tree.specs.Core.{cores}
use Rattle.scope_map.specs.ScopeMap.{ScopeMap, Live}
use Rattle.semantic.specs.Information.{NONE}
use Rattle.semantic.specs.Rows.{Row, Function, Let, ListEntry}
use Rattle.semantic.specs.declared.FunctionInformation.{FunctionInformation}
use Rattle.pass.specs.State.{Capture, State, with_facts, note_ten, or_kept, row_at, insert, depth}
use Rattle.pass.specs.Lists.{captured_most, store_captured, store_arguments, rewrite_captured, sort_by_id, amend_list}
use Rattle.pass.specs.Lambda.{function_in, open_lambda, close_scope, close_captures, make_function, amend_function, function_ends, now_used, kept_of, captured_list, mark_lasts, end_parameters, close_lambda, at_bottom, entered, make_let, close_let}
use Rattle.pass.specs.Visit.{Flags, not_tail, same_tail, pushed, let_body_flags, body_flags, argument_flags, is_lambda, head_flags, is_nil, child_flags, define_flags, visit, visit_arguments, visit_children, in_begin, in_and, is_alone, visit_tested}
use Rattle.pass_laws.specs.Stage.{list_length, lists}
use Rattle.pass_laws.specs.Laws.Cases.{by_let}
use Rattle.pass_laws.specs.Laws.Stage.Lists.{Shorter, same_rows, shorter_then, shorter_put, lists_shorter, lists-put, amended_long}
use Rattle.pass_laws.specs.Laws.Stage.Still.{Stored, as_full, stored-then, ◌⨾◌, row_still, still_steps, open_listed}
use Rattle.pass_laws.specs.Laws.Stage.Entering.{apart_steps, open_scope_apart, close_scope_apart}
use Rattle.pass_laws.specs.Laws.Preserved.{lasts_preserves, ended_preserves, parameters_preserves, leaving_preserves, close_layer_preserves, read_preserves, open_let_preserves, before_preserves, after_preserves, children_preserves, call_preserves, clear_preserves, mutate_preserves}

-- while 10 is not noted
abbrev pub Fits : State → Type 0
Fits s = s.noted.ten ≡ None → s.facts.captured_top ≤ captured_most

pub record Filled (s t : State) : Type 0 where
  pub arguments : s.facts.arguments_top ≤ t.facts.arguments_top
  pub captured : s.facts.captured_top ≤ t.facts.captured_top
  pub lists : (i n : ℕ) → lists t i n + s.facts.captured_top ≤ t.facts.captured_top + lists s i n
  pub fits : Fits s → Fits t

infixl 40 ◌⟫◌
pub ◌⟫◌ : {s t u : State} → Filled s t → Filled t u → Filled s u
p ⟫ q =
    record {
      arguments = omega (arith, p.arguments, q.arguments);
      captured = omega (arith, p.captured, q.captured);
      lists = λ i n. omega (arith, p.lists i n, q.lists i n);
      fits = λ h. q.fits (p.fits h);
    }

pub stored_filled : {s t : State} → Stored s t → Filled s t
stored_filled p =
    record {
      arguments = omega (arith, p.arguments);
      captured = omega (arith, p.captured);
      lists = λ i n. omega (arith, p.captured, lists_shorter p.shorter i n);
      fits = λ h e. omega (arith, p.captured, h (sym p.ten ∙ e));
    }

-- A lambda's end

-- k captured entries are stored, or refused
pub record Put (k : ℕ) (s t : State) : Type 0 where
  pub arguments : t.facts.arguments_top ≡ s.facts.arguments_top
  pub captured : t.facts.captured_top ≡ s.facts.captured_top + k
  pub rows : t.facts.rows ≡ s.facts.rows
  pub fits : Fits t

kept_some : (o : Option ℕ) (i : ℕ) → or_kept o i ≡ None → ⊥
kept_some None i e = none-some i (sym e)
kept_some (Some j) i e = none-some j (sym e)

put_as : (b : Bool) (i : ℕ) (l c : List ListEntry) (s : State) → ltb captured_most (s.facts.captured_top + length l) ≡ b
    → let t = with_facts (record {
      rows = s.facts.rows;
      captured = c;
      captured_top = s.facts.captured_top + length l;
      arguments = s.facts.arguments;
      arguments_top = s.facts.arguments_top;
    }) s in
    Put (length l) s (cond b (note_ten i t) t)
put_as true i l c s e = record { arguments = refl; captured = refl; rows = refl; fits = λ n. absurd (kept_some s.noted.ten i n) }
put_as false i l c s e = record { arguments = refl; captured = refl; rows = refl; fits = λ n. ltb-false captured_most (s.facts.captured_top + length l) e }

pub put : (i : ℕ) (l : List ListEntry) (s : State) → Put (length l) s (store_captured i l s)
unfolding store_captured
put i l s = put_as (ltb captured_most (s.facts.captured_top + length l)) i l _ s refl

-- the fact is made
pub make_filled : (n : Node) (escapes : Bool) (captured arguments : List ListEntry) (s : State) → Filled s (make_function n escapes captured arguments s)
unfolding make_function store_arguments insert
make_filled n escapes captured arguments s =
    let p = put n.at captured s in
    let t = store_arguments arguments (store_captured n.at captured s) in
    let r = Function (record {
      captured_vars = record { first = s.facts.captured_top; length = length captured };
      arguments = record { first = s.facts.arguments_top; length = length arguments };
      escapes = escapes;
      aliases_to = NONE;
      depth = depth s;
    }) in
    let q : Shorter s t = same_rows p.rows in
    record {
      arguments = omega (arith, p.arguments);
      captured = omega (arith, p.captured);
      lists = λ i k. omega (arith, p.captured, lists-put t n.at r i k, lists_shorter q i k);
      fits = λ h. p.fits;
    }

-- or its list amended
pub amend-stored : (n : Node) (b : Tree) (now : List ListEntry) (m : ScopeMap Capture) (v : FunctionInformation) {s t : State}
    → function_in (row_at s n.at) ≡ Some v → Stored s t → Stored s (amend_function n b now m v t)
unfolding amend_function rewrite_captured insert
amend-stored n b now m v {s} {t} e p =
    let used = now_used b now in
    let l = amend_list used m [] (kept_of b used (captured_list t v)) in
    let r = Function (record {
      captured_vars = record { first = v.captured_vars.first; length = length l };
      arguments = v.arguments;
      escapes = v.escapes;
      aliases_to = v.aliases_to;
      depth = v.depth;
    }) in
    let h = ap list_length e in
    record {
      arguments = p.arguments;
      captured = p.captured;
      ten = p.ten;
      shorter = shorter_put n.at r (shorter_then p.shorter (same_rows refl)) (omega (arith, h, amended_long b used m v t));
    }

function_filled : (f : Option FunctionInformation) (n : Node) (b : Tree) (escapes : Bool) (now arguments : List ListEntry) (m : ScopeMap Capture) {s t : State}
    → function_in (row_at s n.at) ≡ f → Stored s t → Filled s (function_ends f n b escapes now arguments m t)
function_filled None n b escapes now arguments m e p = stored_filled p ⟫ make_filled n escapes (sort_by_id now) arguments _
function_filled (Some v) n b escapes now arguments m e p = stored_filled (amend-stored n b now m v e p)

-- what comes before the fact
pub ends_stored : (xs : List Ident) (l : List (Live Ident)) (s : State) → Stored s (end_parameters xs (mark_lasts l (close_captures (close_scope s))))
unfolding close_captures
ends_stored xs l s =
    stored-then (close_scope_apart s).stored (stored-then (as_full refl refl refl refl) (lasts_preserves still_steps l _ ⨾ ended_preserves still_steps xs _).apart.stored)

pub close_lambda_filled : (n : Node) (xs : List Ident) (b : Tree) (escapes : Bool) (s : State) → Filled s (close_lambda n xs b escapes s)
unfolding close_lambda
close_lambda_filled n xs b escapes s = function_filled (function_in (row_at s n.at)) n b escapes _ _ s.captures refl (ends_stored xs _ s)

-- and its beginning
pub open_lambda_stored : (n : Node) (xs : List Ident) (s : State) → Stored s (open_lambda n xs s)
unfolding open_lambda
open_lambda_stored n xs s =
    let f = function_in (row_at s n.at) in
    stored-then (open_listed f s).stored (stored-then (open_scope_apart _).stored (parameters_preserves apart_steps f xs _).stored)

-- A let's end

arguments_stored_lem : (l : List ListEntry) (s : State) → Filled s (store_arguments l s)
unfolding store_arguments
arguments_stored_lem l s =
    record {
      arguments = omega arith;
      captured = omega arith;
      lists = λ i k. omega (arith, lists_shorter {t = store_arguments l s} (same_rows {s = s} refl) i k);
      fits = λ h. h;
    }

make_let_filled : (r : Row) (n : Node) (l : List ListEntry) (height : ℕ) (function : Option Node) (s : State) → Filled s (make_let r n l height function s)
make_let_filled r n l height function s =
    by_let (Filled s) r n l height function s (λ e. arguments_stored_lem l s ⟫ stored_filled (row_still n.at (Let _) _ (omega arith)).apart.stored)
    (stored_filled (as_full refl refl refl refl))

pub close_let_filled : (opened : Bool) (n : Node) (xs : List Ident) (height : ℕ) (function : Option Node) (s : State)
    → Filled s (close_let opened n xs height function s)
unfolding close_let
close_let_filled opened n xs height function s =
    stored_filled (leaving_preserves apart_steps xs s).stored ⟫ make_let_filled (row_at s n.at) n (entered xs s) height function _
    ⟫ stored_filled (close_layer_preserves apart_steps opened _).stored

-- The visits

module _ (classes : List ℕ) where
  mutual
    unfolding visit

    pub visit_filled : (t : Tree) (f : Flags) (s : State) → Filled s (visit classes t f s)
    visit_filled (ident x) f s = stored_filled (read_preserves still_steps classes x s).apart.stored
    visit_filled (const n q) f s = stored_filled (as_full refl refl refl refl)
    visit_filled (if n a b c) f s = visit_filled a (not_tail f) s ⟫ visit_filled b (same_tail f) _ ⟫ visit_filled c (same_tail f) _
    visit_filled (letin n xs es b) f s =
        stored_filled (apart_steps.context NONE s).stored ⟫ arguments_filled es (not_tail f) _
        ⟫ stored_filled (stored-then (apart_steps.context s.context _).stored (open_let_preserves apart_steps n xs f.height f.function _).stored)
        ⟫ visit_filled b (let_body_flags (many es) f) _ ⟫ close_let_filled (at_bottom s) n xs f.height f.function _
    visit_filled (define n x b) f s =
        stored_filled (before_preserves apart_steps classes f.direct (is_lambda b) x b s).stored ⟫ visit_filled b (define_flags f) _
        ⟫ stored_filled (after_preserves apart_steps classes f.direct (is_lambda b) s.context x b _).stored
    visit_filled (lambda n xs b) f s =
        stored_filled (open_lambda_stored n xs s) ⟫ visit_filled b (body_flags n (length xs) f) _ ⟫ close_lambda_filled n xs b f.escape _
    visit_filled (sequence (begins n) es) f s = stored_filled (children_preserves apart_steps classes _ (cores es) s).stored ⟫ children_filled es (in_begin f) _
    visit_filled (sequence (ands n) es) f s = children_filled es (in_and (is_alone es) f) s
    visit_filled (sequence (whens b n) es) f s = tested_filled es f s
    visit_filled (call n e es) f s =
        arguments_filled es (argument_flags f) s ⟫ visit_filled e (head_flags e (many es) f) _ ⟫ stored_filled (call_preserves still_steps n e es f _).apart.stored
    visit_filled (set! n x e) f s =
        stored_filled (clear_preserves still_steps x s).apart.stored ⟫ visit_filled e (not_tail f) _
        ⟫ stored_filled (mutate_preserves still_steps x.name _ ⨾ read_preserves still_steps classes x _).apart.stored

    pub arguments_filled : (ts : Trees) (f : Flags) (s : State) → Filled s (visit_arguments classes ts f s)
    arguments_filled nil f s = stored_filled (as_full refl refl refl refl)
    arguments_filled (cons t ts) f s = visit_filled t f s ⟫ arguments_filled ts (pushed f) _

    pub children_filled : (ts : Trees) (f : Flags) (s : State) → Filled s (visit_children classes ts f s)
    children_filled nil f s = stored_filled (as_full refl refl refl refl)
    children_filled (cons t ts) f s = visit_filled t (child_flags (is_nil ts) f) s ⟫ children_filled ts f _

    pub tested_filled : (ts : Trees) (f : Flags) (s : State) → Filled s (visit_tested classes ts f s)
    tested_filled nil f s = stored_filled (as_full refl refl refl refl)
    tested_filled (cons t ts) f s =
        visit_filled t (not_tail f) s ⟫ stored_filled (children_preserves apart_steps classes _ (cores ts) _).stored ⟫ children_filled ts (in_begin f) _
