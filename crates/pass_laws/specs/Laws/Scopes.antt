-- What the beginning and the end of a lambda and of a let change.
use Prim.Native.Nat.{ℕ, zero, suc, ◌+◌, ◌-◌, ◌≤◌}
use mathlib.Core.List.{List, [], ◌∷◌, ◌++◌}
use Rattle.std.specs.Prelude.{Bool, cond, ◌≡◌, eqb, Option, None, Some}
use Rattle.std.proofs.Math.Bool.{true, false}
use Rattle.std.proofs.Math.Path.{refl}
use Rattle.std.proofs.Common.{ap, ◌∙◌, arith, eqb-true}
use Rattle.std.proofs.Math.ListN.{length, replicate, length-set}
use Rattle.std.proofs.lemmas.List.Edits.{sets}
use Rattle.std.proofs.Math.Seq.{length-sets}
use Rattle.std.proofs.Math.Dec.{ltb}
use Rattle.tree.specs.Tree.{Ident, Node, Tree}
use Rattle.tree.specs.Accepted.{All}
use Rattle.tree.specs.Site.{let_layer}
use Rattle.tree.proofs.Laws.Site.{let_le}
use Rattle.scope_map.specs.ScopeMap.{ScopeMap, Live, newest_layer}
use Rattle.semantic.specs.Information.{mark_last_usage}
use Rattle.semantic.specs.Rows.{Row, Blank, Variable, Function, CallSite, Let, ListEntry, no_list_entry}
use Rattle.semantic.specs.declared.ListAt.{ListAt}
use Rattle.semantic.specs.declared.FunctionInformation.{FunctionInformation}
use Rattle.semantic.specs.declared.IdentifierStatus.{IdentifierStatus}
use Rattle.semantic.specs.declared.ScopeInfo.{ScopeInfo}
use Rattle.pass.specs.State.{Capture, State, list_entry_at, row_at, depth, entry_at, newest}
use Rattle.pass.specs.Lists.{captured_most, store_captured, store_arguments, rewrite_captured, is_of, number_row, number_rows, number_list}
use Rattle.pass.specs.Lambda.{is_heap, note_heap, enter_name, enter_names, function_in, mark_last, open_captures, open_scope, enter_parameters, open_lambda, mark_lasts, close_scope, close_captures, ended_fact, end_parameters, make_function, amend_function, function_ends, close_lambda, open_layer, close_layer, at_bottom, open_let, leave_names, make_let, close_let}
use Rattle.pass_laws.specs.Laws.Changes.{CallSteps, CallChanges, same, ◌⨾◌, either, row, mark, names, layer, lists, captures, context, keeps_depth}
use Rattle.pass_laws.specs.Laws.Names.{ten_changes, second_changes, enter_changes}

stored-length : (b : Bool) (c l : List ListEntry) (t : ℕ) → length (cond b c (sets c t l)) ≡ length c
stored-length true c l t = refl
stored-length false c l t = length-sets c t l

module _ {free : Type 0} {own sites : ℕ → Type 0} where
  -- Lists

  pub captured_changes : (i : ℕ) (l : List ListEntry) (s : State) → CallSteps free own sites s (store_captured i l s)
  unfolding store_captured
  captured_changes i l s =
      let full = ltb captured_most (s.facts.captured_top + length l) in
      let stored = lists _ (record { rows = refl; captured = stored-length full s.facts.captured l s.facts.captured_top; arguments = refl }) in
      either full (stored ⨾ ten_changes i _) stored

  pub arguments_changes : (l : List ListEntry) (s : State) → CallSteps free own sites s (store_arguments l s)
  unfolding store_arguments
  arguments_changes l s = lists _ (record { rows = refl; captured = refl; arguments = length-sets s.facts.arguments _ l })

  pub rewrite_changes : (e : ListAt) (l : List ListEntry) (s : State) → CallSteps free own sites s (rewrite_captured e l s)
  unfolding rewrite_captured
  rewrite_changes e l s = lists _ (record { rows = refl; captured = length-sets s.facts.captured e.first (l ++ replicate (e.length - length l) no_list_entry); arguments = refl })

  -- Lambda

  pub last_changes : (o : Option Ident) (s : State) → CallSteps free own sites s (mark_last o s)
  last_changes None s = same
  last_changes (Some x) s = mark mark_last_usage x.at (λ v. refl)

  pub lasts_changes : (l : List (Live Ident)) (s : State) → CallSteps free own sites s (mark_lasts l s)
  unfolding mark_lasts
  lasts_changes [] s = same
  lasts_changes (e ∷ l) s = last_changes (entry_at s e.value.at).last_used s ⨾ lasts_changes l _

  pub ended_changes : (xs : List Ident) (s : State) → CallSteps free own sites s (end_parameters xs s)
  unfolding end_parameters
  ended_changes [] s = same
  ended_changes (x ∷ xs) s = mark (ended_fact (entry_at s x.at).usage_count (newest s x.name)) x.at (λ v. refl) ⨾ ended_changes xs _

  pub function_changes : (f : Option FunctionInformation) (n : Node) (b : Tree) (escapes : Bool) (now arguments : List ListEntry) (m : ScopeMap Capture) (s : State)
      → own n.at → CallSteps free own sites s (function_ends f n b escapes now arguments m s)
  unfolding make_function amend_function
  function_changes None n b escapes now arguments m s o = captured_changes n.at _ s ⨾ arguments_changes arguments _ ⨾ row n.at _ o (λ e. refl)
  function_changes (Some v) n b escapes now arguments m s o = rewrite_changes v.captured_vars _ s ⨾ row n.at _ o (λ e. refl)

  -- at its end, past the scope and the captures
  pub lambda_ends : (n : Node) (xs : List Ident) (b : Tree) (escapes : Bool) (s : State) → own n.at → CallSteps free own sites (close_captures (close_scope s)) (close_lambda n xs b escapes s)
  unfolding close_lambda
  lambda_ends n xs b escapes s o =
      lasts_changes (newest_layer s.scope.names) _ ⨾ ended_changes xs _ ⨾ function_changes (function_in (row_at s n.at)) n b escapes _ _ _ _ o

  -- Let

  pub make_changes : (r : Row) (n : Node) (l : List ListEntry) (height : ℕ) (function : Option Node) (s : State) → own n.at → CallSteps free own sites s (make_let r n l height function s)
  make_changes Blank n l height function s o = arguments_changes l s ⨾ row n.at _ o (λ e. refl)
  make_changes (Variable v) n l height function s o = same
  make_changes (Function v) n l height function s o = same
  make_changes (CallSite v) n l height function s o = same
  make_changes (Let v) n l height function s o = same

  -- Names enter

  heap_changes : (o : Option ℕ) (x : Ident) (s : State) → CallSteps free own sites s (note_heap o x s)
  heap_changes None x s = second_changes 11 x.at s (omega arith, omega arith)
  heap_changes (Some n) x s = same

module _ {own sites : ℕ → Type 0} where
  module _ (kind : IdentifierStatus) (base : ℕ) (heaps : Option ℕ) (before : List ListEntry) where
    pub name_changes : (b : Bool) (x : Ident) (j h : ℕ) (s : State) → own x.at → CallChanges own sites s (enter_name kind base heaps before b x j h s)
    unfolding enter_name
    name_changes true x j h s o = heap_changes heaps x s ⨾ enter_changes x _ _ o ⨾ row x.at _ o (λ e. refl)
    name_changes false x j h s o = enter_changes x _ s o ⨾ row x.at _ o (λ e. refl)

    pub names_changes : (xs : List Ident) (j h : ℕ) (s : State) → All (λ x. own x.at) xs → CallChanges own sites s (enter_names kind base heaps before xs j h s)
    unfolding enter_names
    names_changes [] j h s o = same
    names_changes (x ∷ xs) j h s o = name_changes (is_heap before j) x j h s o.0 ⨾ names_changes xs (suc j) _ _ o.1

  -- a lambda's list is numbered

  module _ (which : Bool) (numbered : ℕ → Option ScopeInfo → ScopeInfo → ScopeInfo) where
    numbered_changes : (k r i : ℕ) (s : State) → CallChanges own sites s (number_rows which numbered k r i s)
    unfolding number_rows number_row
    numbered_changes zero r i s = same
    numbered_changes (suc k) r i s =
        either (is_of which numbered (list_entry_at s r)) (lists _ (record { rows = refl; captured = length-set s.facts.captured r _; arguments = refl }) ⨾ captures tt _) same
        ⨾ numbered_changes k (suc r) _ _

  list_changes : (e : ListAt) (s : State) → CallChanges own sites s (number_list e s)
  unfolding number_list
  list_changes e s = numbered_changes _ _ e.length e.first 0 s ⨾ numbered_changes _ _ e.length e.first 0 _

  pub open_changes : (f : Option FunctionInformation) (s : State) → CallChanges own sites s (open_captures f s)
  unfolding open_captures
  open_changes None s = captures tt _
  open_changes (Some v) s = captures tt _ ⨾ list_changes v.captured_vars _ ⨾ context _

  pub parameters_changes : (f : Option FunctionInformation) (xs : List Ident) (s : State) → All (λ x. own x.at) xs → CallChanges own sites s (enter_parameters f xs s)
  unfolding enter_parameters
  parameters_changes None xs s o = names_changes _ _ _ _ xs 0 0 s o
  parameters_changes (Some v) xs s o = names_changes _ _ _ _ xs 0 0 s o

  pub leave_changes : (n : Node) (xs : List Ident) (b : Tree) (escapes : Bool) (s : State) → own n.at → CallChanges own sites (close_scope s) (close_lambda n xs b escapes s)
  unfolding close_captures
  leave_changes n xs b escapes s o = captures tt _ ⨾ lambda_ends n xs b escapes s o

  -- the whole of a lambda
  pub lambda_changes : (n : Node) (xs : List Ident) (b : Tree) (escapes : Bool) (s t : State) → own n.at → All (λ x. own x.at) xs
      → CallChanges own sites (open_lambda n xs s) t → CallChanges own sites s (close_lambda n xs b escapes t)
  unfolding open_lambda
  lambda_changes n xs b escapes s t o p c =
      let f = function_in (row_at s n.at) in
      open_changes f s ⨾ layer tt (parameters_changes f xs _ p ⨾ c) ⨾ leave_changes n xs b escapes t o

  pub leaving_changes : (xs : List Ident) (s : State) → CallChanges own sites s (leave_names xs s)
  unfolding leave_names
  leaving_changes [] s = same
  leaving_changes (x ∷ xs) s = names tt _ refl ⨾ last_changes (entry_at s x.at).last_used _ ⨾ leaving_changes xs _

  opened_changes : (b : Bool) (s t : State) → CallChanges own sites (open_layer b s) t → CallChanges own sites s (close_layer b t)
  unfolding open_layer close_layer
  opened_changes true s t c = layer tt c
  opened_changes false s t c = c

  -- the whole of a let, after its initial expressions
  pub let_changes : (b : Bool) (n : Node) (xs : List Ident) (height : ℕ) (function : Option Node) (s t : State) → b ≡ at_bottom s → own n.at → All (λ x. own x.at) xs
      → CallChanges own sites (open_let n xs height function s) t → CallChanges own sites s (close_let b n xs height function t)
  unfolding open_let close_let
  let_changes b n xs height function s t e o p c =
      rw e (opened_changes (at_bottom s) s _ (names_changes _ height _ _ xs 0 0 _ p ⨾ c ⨾ leaving_changes xs t ⨾ make_changes (row_at t n.at) n _ height function _ o))

-- How deep the body of a lambda or a let is

abbrev pub Any : ℕ → Type 0
Any x = Unit {0}

pub names-any : (xs : List Ident) → All (λ x. Any x.at) xs
names-any [] = tt
names-any (x ∷ xs) = (tt, names-any xs)

pub lambda_depth : (n : Node) (xs : List Ident) (s : State) → 1 ≤ depth s → depth (open_lambda n xs s) ≡ suc (depth s)
unfolding open_lambda open_scope
lambda_depth n xs s h =
    let f = function_in (row_at s n.at) in
    keeps_depth (parameters_changes {own = Any} f xs (open_scope (open_captures f s)) (names-any xs)) (omega arith)
    ∙ ap suc (keeps_depth (open_changes {own = Any} f s) h)

opened-depth : (b : Bool) (s : State) → depth (open_layer b s) ≡ cond b (suc (depth s)) (depth s)
unfolding open_layer open_scope
opened-depth true s = refl
opened-depth false s = refl

pub let_deep : (d : ℕ) (b : Bool) → eqb d 1 ≡ b → cond b (suc d) d ≡ cond b 2 d
let_deep d true e = ap suc (eqb-true d 1 e)
let_deep d false e = refl

pub let_depth : (n : Node) (xs : List Ident) (height : ℕ) (function : Option Node) (s : State) → 1 ≤ depth s → depth (open_let n xs height function s) ≡ let_layer (depth s)
unfolding open_let
let_depth n xs height function s h =
    let e = opened-depth (at_bottom s) s ∙ let_deep (depth s) (at_bottom s) refl in
    keeps_depth (names_changes {own = Any} _ height _ _ xs 0 0 (open_layer (at_bottom s) s) (names-any xs)) (rw e (omega (arith, let_le (depth s), h))) ∙ e

pub let_stays : (n : Node) (xs : List Ident) (height : ℕ) (function : Option Node) (s : State) → 1 ≤ depth s → 1 ≤ depth (open_let n xs height function s)
let_stays n xs height function s h = rw (let_depth n xs height function s h) (omega (arith, let_le (depth s), h))
