-- The steps that note neither refusal 11 nor 12.
use Rattle.std.specs.Prelude.{ℕ, ◌+◌, List, map, Bool, true, false, cond, ◌≡◌, refl, length, ltb, Option, None, Some}
use Rattle.std.proofs.Common.{ap, ◌∙◌}
use Rattle.tree.specs.Tree.{Ident, Node, Tree}
use Rattle.tree.specs.Check.{Refusal}
use Rattle.scope_map.specs.ScopeMap.{ScopeMap, newest_layer}
use Rattle.semantic.specs.Rows.{Row, ListEntry}
use Rattle.semantic.specs.declared.FunctionInformation.{FunctionInformation}
use Rattle.pass.specs.State.{Capture, Noted, State, insert, amend, put_entry, row_at}
use Rattle.pass.specs.Lists.{captured_vars, sort_by_id, captured_most, store_captured, store_arguments, rewrite_captured}
use Rattle.pass.specs.Lambda.{function_in, name_in, list_entries_of, open_captures, open_scope, close_scope, close_captures, make_function, amend_function, function_ends, close_lambda, close_let}
use Rattle.pass_laws.specs.Laws.Leaves.{names, captures_beside}
use Rattle.pass_laws.specs.Laws.Preserved.{Preserves, close_let_preserves, ended_preserves, lasts_preserves}

abbrev pub second_of : State → Option Refusal
second_of s = s.noted.second

abbrev pub Unsaid : State → State → Type 0
Unsaid s t = second_of t ≡ second_of s

pub insert_unsaid : (i : ℕ) (r : Row) (s : State) → Unsaid s (insert i r s)
unfolding insert
insert_unsaid i r s = refl

pub unsaid_steps : Preserves ⊥ (Unit {0}) Unsaid
unfolding amend put_entry
unsaid_steps = record {
  same = λ s. refl;
  join = λ p q. q ∙ p;
  mark = λ f i s. insert_unsaid i _ s;
  fact = λ i v s. insert_unsaid i _ s;
  site = λ i v s. insert_unsaid i _ s;
  entry = λ i e s. refl;
  context = λ c s. refl;
  used = λ o. absurd o;
  capture = λ o. absurd o;
  second = λ o. absurd o;
  names = λ o m s. refl;
  nine = λ o i s. refl;
}

pub close_let_unsaid : (b : Bool) (n : Node) (xs : List Ident) (height : ℕ) (function : Option Node) (s : State) → Unsaid s (close_let b n xs height function s)
unfolding store_arguments
close_let_unsaid = close_let_preserves unsaid_steps (λ l s. refl) (λ i v s. insert_unsaid i _ s)

-- Lambda

pub open_unsaid : (o : Option FunctionInformation) (s : State) → Unsaid s (open_scope (open_captures o s))
unfolding open_scope
open_unsaid o s = ap (λ (n : Noted). n.second) (captures_beside o s).noted

either : (b : Bool) (s t u : State) → Unsaid s t → Unsaid s u → Unsaid s (cond b t u)
either true s t u p q = p
either false s t u p q = q

stored_unsaid : (i : ℕ) (l : List ListEntry) (s : State) → Unsaid s (store_captured i l s)
unfolding store_captured
stored_unsaid i l s = either (ltb captured_most (s.facts.captured_top + length l)) s _ _ refl refl

function_unsaid : (o : Option FunctionInformation) (n : Node) (b : Tree) (escapes : Bool) (now a : List ListEntry) (m : ScopeMap Capture) (s : State)
    → Unsaid s (function_ends o n b escapes now a m s)
unfolding make_function amend_function insert store_arguments rewrite_captured
function_unsaid None n b escapes now a m s = stored_unsaid n.at (sort_by_id now) s
function_unsaid (Some v) n b escapes now a m s = refl

pub close_lambda_unsaid : (n : Node) (xs : List Ident) (b : Tree) (escapes : Bool) (s : State) → Unsaid s (close_lambda n xs b escapes s)
unfolding close_lambda close_captures close_scope
close_lambda_unsaid n xs b escapes s =
    let layer = newest_layer (names s) in
    function_unsaid (function_in (row_at s n.at)) n b escapes (captured_vars (map name_in xs) s) (list_entries_of s layer) s.captures _
    ∙ ended_preserves unsaid_steps xs _ ∙ lasts_preserves unsaid_steps layer (close_captures (close_scope s))
