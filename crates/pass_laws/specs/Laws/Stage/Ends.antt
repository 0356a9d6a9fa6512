-- The ends of lambdas and lets: on a first run they make a fact whose lists end where the tables are then filled, on a second no list ends later.
use Rattle.std.specs.Prelude.{ℕ, ◌+◌, ◌≤◌, ◌<◌, Bool, true, false, ◌≡◌, refl, Option, None, Some}
use Rattle.std.proofs.lemmas.Option.{none-some}
use mathlib.Core.List.{List, []}
use Rattle.std.proofs.Math.Path.{ap}
use Rattle.std.proofs.Common.{sym, subst, ◌∙◌, arith}
use Rattle.std.proofs.Math.ListN.{length}
use Rattle.tree.specs.Tree.{Ident, Node, Tree}
use Rattle.scope_map.specs.ScopeMap.{ScopeMap, newest_layer}
use Rattle.semantic.specs.Information.{NONE}
use Rattle.semantic.specs.Kinds.{let_in}
use Rattle.semantic.specs.Rows.{Row, Blank, Function, Let, ListEntry}
use Rattle.semantic.specs.declared.FunctionInformation.{FunctionInformation}
use Rattle.semantic.specs.declared.LetInformation.{LetInformation}
use Rattle.pass.specs.State.{Capture, State, row_at, insert, depth}
use Rattle.pass.specs.Lists.{store_captured, store_arguments, rewrite_captured, sort_by_id, amend_list}
use Rattle.pass.specs.Lambda.{function_in, make_function, amend_function, function_ends, now_used, kept_of, captured_list, mark_lasts, end_parameters, close_lambda, close_scope, close_captures, close_layer, entered, function_id, make_let, leave_names, close_let}
use Rattle.pass_laws.specs.Stage.{IsBlank, ListsWithin, NamesWithin, FunctionWithin, LetWithin}
use Rattle.pass_laws.specs.Laws.Rows.{key, row_same}
use Rattle.pass_laws.specs.Laws.Changes.{◌⨾◌, keeps_key, keeps_lengths}
use Rattle.pass_laws.specs.Laws.Scopes.{Any, leaving_changes, lasts_changes, ended_changes}
use Rattle.pass_laws.specs.Laws.Cases.{by_let}
use Rattle.pass_laws.specs.Laws.Stage.Lists.{amended_long}
use Rattle.pass_laws.specs.Laws.Stage.Filled.{put}
use Rattle.pass_laws.specs.Laws.Stage.Blocks.{Kind, within, blank}

-- larger bounds
lists_wider : (c a d b : ℕ) (f : Option FunctionInformation) → c ≤ d → a ≤ b → ListsWithin c a f → ListsWithin d b f
lists_wider c a d b None h g f = f
lists_wider c a d b (Some v) h g f = (omega (arith, f.0), omega (arith, f.1))

names_wider : (a b : ℕ) (f : Option LetInformation) → a ≤ b → NamesWithin a f → NamesWithin b f
names_wider a b None h f = f
names_wider a b (Some v) h f = omega arith

-- a row is written
written : (P : Row → Type 0) (i : ℕ) (r : Row) (s : State) → i < length s.facts.rows → P r → P (row_at (insert i r s) i)
written P i r s h p = subst P (sym (row_same i r s h)) p

-- A lambda's end

make_makes : (n : Node) (escapes : Bool) (captured arguments : List ListEntry) (s : State) → n.at < length s.facts.rows
    → let u = make_function n escapes captured arguments s in
    FunctionWithin u.facts.captured_top u.facts.arguments_top (row_at u n.at)
unfolding make_function store_arguments insert
make_makes n escapes captured arguments s h =
    let t = store_captured n.at captured s in
    let p = put n.at captured s in
    written (FunctionWithin t.facts.captured_top (t.facts.arguments_top + length arguments)) n.at (Function (record {
      captured_vars = record { first = s.facts.captured_top; length = length captured };
      arguments = record { first = s.facts.arguments_top; length = length arguments };
      escapes = escapes;
      aliases_to = NONE;
      depth = depth s;
    })) (store_arguments arguments t) (omega (arith, ap length p.rows))
    (omega (arith, p.captured), omega (arith, p.arguments))

function_makes : (f : Option FunctionInformation) (n : Node) (b : Tree) (escapes : Bool) (now arguments : List ListEntry) (m : ScopeMap Capture) (s : State)
    → f ≡ None → n.at < length s.facts.rows
    → let u = function_ends f n b escapes now arguments m s in
    FunctionWithin u.facts.captured_top u.facts.arguments_top (row_at u n.at)
function_makes None n b escapes now arguments m s e h = make_makes n escapes (sort_by_id now) arguments s h
function_makes (Some v) n b escapes now arguments m s e h = absurd (none-some v (sym e))

-- the names gone, there are as many rows
ended-rows : (n : Node) (xs : List Ident) (s : State) → n.at < length s.facts.rows
    → n.at < length (end_parameters xs (mark_lasts (newest_layer s.scope.names) (close_captures (close_scope s)))).facts.rows
unfolding close_scope close_captures
ended-rows n xs s h =
    let l = newest_layer s.scope.names in
    omega (arith, (keeps_lengths (lasts_changes {free = Unit {0}} {own = Any} l (close_captures (close_scope s)) ⨾ ended_changes xs _)).rows)

close_lambda_makes : (n : Node) (xs : List Ident) (b : Tree) (escapes : Bool) (s : State) → row_at s n.at ≡ Blank → n.at < length s.facts.rows
    → let u = close_lambda n xs b escapes s in
    FunctionWithin u.facts.captured_top u.facts.arguments_top (row_at u n.at)
unfolding close_lambda
close_lambda_makes n xs b escapes s e h =
    function_makes (function_in (row_at s n.at)) n b escapes _ _ s.captures _ (ap function_in e) (ended-rows n xs s h)

-- A let's end

make_let_makes : (r : Row) (n : Node) (l : List ListEntry) (height : ℕ) (function : Option Node) (s : State) → r ≡ Blank → n.at < length s.facts.rows
    → let u = make_let r n l height function s in
    LetWithin u.facts.arguments_top (row_at u n.at)
unfolding store_arguments insert
make_let_makes r n l height function s e h =
    subst (λ (q : Row). let u = make_let q n l height function s in LetWithin u.facts.arguments_top (row_at u n.at)) (sym e)
    (written (LetWithin (s.facts.arguments_top + length l)) n.at (Let (record {
      stack_offset = height;
      function_context = function_id function;
      arguments = record { first = s.facts.arguments_top; length = length l };
    })) (store_arguments l s) h (omega arith))

close_layer_row : (opened : Bool) (i : ℕ) (s : State) → row_at (close_layer opened s) i ≡ row_at s i
unfolding close_layer close_scope
close_layer_row true i s = refl
close_layer_row false i s = refl

close_layer_makes : (opened : Bool) (i : ℕ) (s : State) → LetWithin s.facts.arguments_top (row_at s i)
    → LetWithin (close_layer opened s).facts.arguments_top (row_at (close_layer opened s) i)
unfolding close_layer close_scope
close_layer_makes true i s h = h
close_layer_makes false i s h = h

close_let_makes : (opened : Bool) (n : Node) (xs : List Ident) (height : ℕ) (function : Option Node) (s : State)
    → row_at s n.at ≡ Blank → n.at < length s.facts.rows
    → let u = close_let opened n xs height function s in
    LetWithin u.facts.arguments_top (row_at u n.at)
unfolding close_let
close_let_makes opened n xs height function s e h =
    let l = (keeps_lengths (leaving_changes {own = Any} xs s)).rows in
    close_layer_makes opened n.at _ (make_let_makes (row_at s n.at) n (entered xs s) height function (leave_names xs s) e (omega (arith, l)))

-- What the ends of lambdas and lets leave, where F held of a lambda's row and L of a let's

pub record Ends (F L : Row → Type 0) (c a : ℕ) : Type 0 where
  pub kind : Kind F L
  pub lambda : (n : Node) (xs : List Ident) (b : Tree) (escapes : Bool) (s : State) → F (row_at s n.at) → n.at < length s.facts.rows
      → let u = close_lambda n xs b escapes s in
      u.facts.captured_top ≤ c → u.facts.arguments_top ≤ a → FunctionWithin c a (row_at u n.at)
  pub letin : (opened : Bool) (n : Node) (xs : List Ident) (height : ℕ) (function : Option Node) (s : State) → L (row_at s n.at)
      → n.at < length s.facts.rows
      → let u = close_let opened n xs height function s in
      u.facts.arguments_top ≤ a → LetWithin a (row_at u n.at)

-- on a first run they make the facts
pub making : (c a : ℕ) → Ends IsBlank IsBlank c a
making c a =
    record {
      kind = blank;
      lambda = λ n xs b escapes s e h p q.
          let u = close_lambda n xs b escapes s in
          lists_wider u.facts.captured_top u.facts.arguments_top c a (function_in (row_at u n.at)) p q (close_lambda_makes n xs b escapes s e h);
      letin = λ opened n xs height function s e h p.
          let u = close_let opened n xs height function s in
          names_wider u.facts.arguments_top a (let_in (row_at u n.at)) p (close_let_makes opened n xs height function s e h);
    }

-- on a second they leave them within the same bounds
module _ (c a : ℕ) where
  amend_keeps : (n : Node) (b : Tree) (now : List ListEntry) (m : ScopeMap Capture) (v : FunctionInformation) (s : State) → ListsWithin c a (Some v)
      → n.at < length s.facts.rows → FunctionWithin c a (row_at (amend_function n b now m v s) n.at)
  unfolding amend_function rewrite_captured
  amend_keeps n b now m v s h l =
      let used = now_used b now in
      let k = amend_list used m [] (kept_of b used (captured_list s v)) in
      written (FunctionWithin c a) n.at (Function (record {
        captured_vars = record { first = v.captured_vars.first; length = length k };
        arguments = v.arguments;
        escapes = v.escapes;
        aliases_to = v.aliases_to;
        depth = v.depth;
      })) _ l (omega (arith, h.0, amended_long b used m v s), h.1)

  function_keeps : (f : Option FunctionInformation) (n : Node) (b : Tree) (escapes : Bool) (now arguments : List ListEntry) (m : ScopeMap Capture) (s : State)
      → ListsWithin c a f → n.at < length s.facts.rows → FunctionWithin c a (row_at (function_ends f n b escapes now arguments m s) n.at)
  function_keeps None n b escapes now arguments m s h l = absurd h
  function_keeps (Some v) n b escapes now arguments m s h l = amend_keeps n b now m v s h l

  close_lambda_keeps : (n : Node) (xs : List Ident) (b : Tree) (escapes : Bool) (s : State) → FunctionWithin c a (row_at s n.at)
      → n.at < length s.facts.rows
      → FunctionWithin c a (row_at (close_lambda n xs b escapes s) n.at)
  unfolding close_lambda
  close_lambda_keeps n xs b escapes s h l = function_keeps (function_in (row_at s n.at)) n b escapes _ _ s.captures _ h (ended-rows n xs s l)

  make_let_keeps : (r : Row) (n : Node) (l : List ListEntry) (height : ℕ) (function : Option Node) (s : State) → LetWithin a r → make_let r n l height function s ≡ s
  make_let_keeps r n l height function s h = by_let (λ t. t ≡ s) r n l height function s (λ e. absurd (subst (LetWithin a) e h)) refl

  close_let_keeps : (opened : Bool) (n : Node) (xs : List Ident) (height : ℕ) (function : Option Node) (s : State) → LetWithin a (row_at s n.at)
      → LetWithin a (row_at (close_let opened n xs height function s) n.at)
  unfolding close_let
  close_let_keeps opened n xs height function s h =
      let t = leave_names xs s in
      let u = make_let (row_at s n.at) n (entered xs s) height function t in
      (within c a).letin (row_at (close_layer opened u) n.at) (row_at s n.at)
      (ap key (close_layer_row opened n.at u)
      ∙ ap (λ (z : State). key (row_at z n.at)) (make_let_keeps (row_at s n.at) n (entered xs s) height function t h)
      ∙ keeps_key (leaving_changes {own = λ x. ⊥} xs s) n.at (λ o. o)) h

  pub keeping : Ends (FunctionWithin c a) (LetWithin a) c a
  keeping =
      record {
        kind = within c a;
        lambda = λ n xs b escapes s h l p q. close_lambda_keeps n xs b escapes s h l;
        letin = λ opened n xs height function s h l p. close_let_keeps opened n xs height function s h;
      }
