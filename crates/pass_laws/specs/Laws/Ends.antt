-- The rows that a lambda and a call leave on a fresh run.
use Rattle.std.specs.Prelude.{ℕ, ◌<◌, List, Bool, true, false, ◌&&◌, ◌≡◌, refl, length, ltb, Option, None, Some}
use Rattle.std.proofs.lemmas.Option.{none-some}
use Rattle.std.proofs.Common.{true≢false, ap, sym, ◌∙◌, arith}
use Rattle.tree.specs.Tree.{Ident, Node, Tree, Trees}
use Rattle.tree.specs.Core.{core, cores, is_constant}
use Rattle.scope_map.specs.ScopeMap.{ScopeMap}
use Rattle.semantic.specs.Rows.{Row, Blank, Variable, Function, CallSite, Let, ListEntry}
use Rattle.semantic.specs.declared.FunctionInformation.{FunctionInformation}
use Rattle.pass.specs.State.{Capture, Scope, State, row_at, depth}
use Rattle.pass.specs.Lambda.{function_in, make_function, function_ends, close_lambda}
use Rattle.semantic.specs.Kinds.{is_tail_row}
use Rattle.pass.specs.Visit.{Flags, mark_if_tail, close_call}
use Rattle.pass_laws.specs.Laws.Rows.{key, key-blank, row_put}
use Rattle.pass_laws.specs.Laws.Changes.{keeps_key, keeps_lengths, quiet}
use Rattle.pass_laws.specs.Laws.Moves.{moves_lengths, out_of_lambda}
use Rattle.pass_laws.specs.Laws.Scopes.{Any, function_changes}
use Rattle.pass_laws.specs.Laws.Visits.{tail_changes, call_changes}
use Rattle.pass_laws.specs.Laws.Layers.{and_left}
use Rattle.pass_laws.specs.Laws.Keeps.{But}
use Rattle.pass_laws.specs.Laws.Calls.{call_site_lem}

-- the row is a lambda's fact, which tells the depth d
pub record Made (r : Row) (d : ℕ) : Type 0 where
  pub fact : FunctionInformation
  pub is : r ≡ Function fact
  pub depth : fact.depth ≡ d

pub made : (o : Option FunctionInformation) (n : Node) (b : Tree) (escapes : Bool) (now arguments : List ListEntry) (m : ScopeMap Capture) (s : State) → o ≡ None
    → n.at < length (function_ends o n b escapes now arguments m s).facts.rows
    → Made (row_at (function_ends o n b escapes now arguments m s) n.at) (depth (function_ends o n b escapes now arguments m s))
unfolding make_function
made (Some v) n b escapes now arguments m s e l = absurd (none-some v (sym e))
made None n b escapes now arguments m s e l =
    record {
      fact = _;
      is = row_put n.at _ _ l;
      depth = ap (λ (k : Scope). k.names.depth) (sym (quiet (function_changes {own = Any} None n b escapes now arguments m s tt)).scope);
    }

pub lambda_row : (n : Node) (xs : List Ident) (b : Tree) (escapes : Bool) (s : State) → row_at s n.at ≡ Blank → n.at < length s.facts.rows
    → Made (row_at (close_lambda n xs b escapes s) n.at) (depth (close_lambda n xs b escapes s))
unfolding close_lambda
lambda_row n xs b escapes s e l =
    made (function_in (row_at s n.at)) n b escapes _ _ _ _ (ap function_in e)
    (omega (arith, (moves_lengths (out_of_lambda {own = Any} n xs b escapes s tt)).rows))

-- A call

tail_key : (r : Row) → is_tail_row (key r) ≡ is_tail_row r
tail_key Blank = refl
tail_key (Variable v) = refl
tail_key (Function v) = refl
tail_key (CallSite v) = refl
tail_key (Let v) = refl

-- a recorded tail call stands where the flags allow one
pub call_row : (n : Node) (h : Tree) (es : Trees) (f : Flags) (s : State) → row_at s n.at ≡ Blank → n.at < length s.facts.rows
    → (r : Row) → key r ≡ key (row_at (close_call n h es f s) n.at) → is_tail_row r ≡ true → f.tail ≡ true
unfolding close_call
call_row n h es f s e l r k t = go (is_constant h) refl
  where
    same : is_tail_row (row_at (close_call n h es f s) n.at) ≡ true
    same = sym (tail_key (row_at (close_call n h es f s) n.at)) ∙ ap is_tail_row (sym k) ∙ tail_key r ∙ t

    go : (c : Bool) → is_constant h ≡ c → f.tail ≡ true
    go true c =
        let unwritten = keeps_key (call_changes {free = ⊥} {own = But n.at} n h es f s (λ q. absurd (true≢false (sym c ∙ q)))) n.at (λ d. d refl) in
        let blank = key-blank (row_at (close_call n h es f s) n.at) (unwritten ∙ ap key e) in
        absurd (true≢false (sym same ∙ ap is_tail_row blank))
    go false c =
        let b = f.tail && ltb 1 (depth s) in
        let lengths = (keeps_lengths (tail_changes {free = ⊥} {own = Any} b (cores es) s)).rows in
        let site = call_site_lem (core h) n b f.counter (mark_if_tail b (cores es) s) c (omega arith) in
        and_left f.tail (ltb 1 (depth s)) (sym site.tail ∙ ap is_tail_row (sym site.is) ∙ same)
