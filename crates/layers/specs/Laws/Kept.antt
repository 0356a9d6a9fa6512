-- What the steps of a lambda and a let keep of a state.
use Rattle.std.specs.Prelude.{ℕ, suc, ◌+◌, Bool, cond, ◌≡◌, length, ltb, Option, None, Some}
use mathlib.Core.List.{List, [], ◌∷◌}
use Rattle.std.proofs.Math.Bool.{true, false}
use Rattle.std.proofs.Math.Path.{refl}
use Rattle.std.proofs.Common.{ap, ◌∙◌}
use Rattle.tree.specs.Check.{Refusal}
use Rattle.tree.specs.Tree.{Ident, Node, Tree}
use Rattle.scope_map.specs.ScopeMap.{ScopeMap, Live, newest_layer}
use Rattle.semantic.specs.Rows.{Row, ListEntry}
use Rattle.semantic.specs.declared.IdentifierStatus.{IdentifierStatus}
use Rattle.semantic.specs.declared.FunctionInformation.{FunctionInformation}
use Rattle.pass.specs.State.{Entry, Capture, Noted, State, insert, amend, row_at, entry_at}
use Rattle.pass.specs.Read.{enter}
use Rattle.pass.specs.Lists.{sort_by_id, captured_most, store_captured, store_arguments, rewrite_captured}
use Rattle.pass.specs.Lambda.{is_heap, note_heap, enter_name, enter_names, mark_last, mark_lasts, open_scope, open_layer, close_scope, close_captures, close_layer, at_bottom, open_let, end_parameters, function_in, make_function, amend_function, function_ends, close_lambda, leave_names, entered, make_let, close_let}
use Rattle.pass_laws.specs.Laws.Cases.{by_let}
use Rattle.names.specs.Laws.Entered.{Aside, enter_aside}

-- Names enter: the context and the captures are kept

pub record Sides : Type 0 where
  pub context : ℕ
  pub captures : ScopeMap Capture

abbrev pub sides_of : State → Sides
sides_of s = record { context = s.context; captures = s.captures }

enter_sides : (x : Ident) (e : Entry) (s : State) → sides_of (enter x e s) ≡ sides_of s
enter_sides x e s = ap (λ (o : Aside). record { context = o.context; captures = o.captures }) (enter_aside x e s)

heap_sides : (o : Option ℕ) (x : Ident) (s : State) → sides_of (note_heap o x s) ≡ sides_of s
heap_sides None x s = refl
heap_sides (Some n) x s = refl

module _ (kind : IdentifierStatus) (base : ℕ) (heaps : Option ℕ) (before : List ListEntry) where
  name_sides : (b : Bool) (x : Ident) (j h : ℕ) (s : State) → sides_of (enter_name kind base heaps before b x j h s) ≡ sides_of s
  unfolding enter_name insert
  name_sides true x j h s = enter_sides x _ (note_heap heaps x s) ∙ heap_sides heaps x s
  name_sides false x j h s = enter_sides x _ s

  names_sides : (xs : List Ident) (j h : ℕ) (s : State) → sides_of (enter_names kind base heaps before xs j h s) ≡ sides_of s
  unfolding enter_names
  names_sides [] j h s = refl
  names_sides (x ∷ xs) j h s = names_sides xs (suc j) _ _ ∙ name_sides (is_heap before j) x j h s

open_sides : (b : Bool) (s : State) → sides_of (open_layer b s) ≡ sides_of s
unfolding open_layer open_scope
open_sides true s = refl
open_sides false s = refl

pub open_let_sides : (n : Node) (xs : List Ident) (height : ℕ) (function : Option Node) (s : State) → sides_of (open_let n xs height function s) ≡ sides_of s
unfolding open_let
open_let_sides n xs height function s = names_sides _ height _ _ xs 0 0 _ ∙ open_sides (at_bottom s) s

-- and leave: so is how far the captured lists reach, and what is noted

pub record Outside : Type 0 where
  pub sides : Sides
  pub captured_top : ℕ
  pub noted : Noted

abbrev pub outside_of : State → Outside
outside_of s = record { sides = sides_of s; captured_top = s.facts.captured_top; noted = s.noted }

last-outside : (o : Option Ident) (s : State) → outside_of (mark_last o s) ≡ outside_of s
unfolding amend insert
last-outside None s = refl
last-outside (Some x) s = refl

lasts_outside : (l : List (Live Ident)) (s : State) → outside_of (mark_lasts l s) ≡ outside_of s
unfolding mark_lasts
lasts_outside [] s = refl
lasts_outside (e ∷ l) s = lasts_outside l _ ∙ last-outside (entry_at s e.value.at).last_used s

ended-outside : (xs : List Ident) (s : State) → outside_of (end_parameters xs s) ≡ outside_of s
unfolding end_parameters amend insert
ended-outside [] s = refl
ended-outside (x ∷ xs) s = ended-outside xs _

leaving_outside : (xs : List Ident) (s : State) → outside_of (leave_names xs s) ≡ outside_of s
unfolding leave_names
leaving_outside [] s = refl
leaving_outside (x ∷ xs) s = leaving_outside xs _ ∙ last-outside (entry_at s x.at).last_used _

make-outside : (r : Row) (n : Node) (l : List ListEntry) (height : ℕ) (function : Option Node) (s : State)
    → outside_of (make_let r n l height function s) ≡ outside_of s
unfolding store_arguments insert
make-outside r n l height function s = by_let (λ t. outside_of t ≡ outside_of s) r n l height function s (λ e. refl) refl

close_outside : (b : Bool) (s : State) → outside_of (close_layer b s) ≡ outside_of s
unfolding close_layer close_scope
close_outside true s = refl
close_outside false s = refl

pub close_let_outside : (opened : Bool) (n : Node) (xs : List Ident) (height : ℕ) (function : Option Node) (s : State)
    → outside_of (close_let opened n xs height function s) ≡ outside_of s
unfolding close_let
close_let_outside opened n xs height function s =
    close_outside opened _ ∙ make-outside (row_at s n.at) n (entered xs s) height function _ ∙ leaving_outside xs s

-- A lambda ends: the context and what is noted are kept, but for 10

pub record Begun : Type 0 where
  pub context : ℕ
  pub nine : Option ℕ
  pub second : Option Refusal

abbrev pub begun_of : State → Begun
begun_of s = record { context = s.context; nine = s.noted.nine; second = s.noted.second }

either : (b : Bool) (s t u : State) → begun_of t ≡ begun_of s → begun_of u ≡ begun_of s → begun_of (cond b t u) ≡ begun_of s
either true s t u p q = p
either false s t u p q = q

stored-begun : (i : ℕ) (l : List ListEntry) (s : State) → begun_of (store_captured i l s) ≡ begun_of s
unfolding store_captured
stored-begun i l s = either (ltb captured_most (s.facts.captured_top + length l)) s _ _ refl refl

function_begun : (o : Option FunctionInformation) (n : Node) (b : Tree) (escapes : Bool) (now arguments : List ListEntry) (m : ScopeMap Capture) (s : State)
    → begun_of (function_ends o n b escapes now arguments m s) ≡ begun_of s
unfolding make_function amend_function rewrite_captured store_arguments insert
function_begun None n b escapes now arguments m s = stored-begun n.at (sort_by_id now) s
function_begun (Some v) n b escapes now arguments m s = refl

pub close_lambda_begun : (n : Node) (xs : List Ident) (b : Tree) (escapes : Bool) (s : State) → begun_of (close_lambda n xs b escapes s) ≡ begun_of s
unfolding close_lambda close_scope close_captures
close_lambda_begun n xs b escapes s =
    function_begun (function_in (row_at s n.at)) n b escapes _ _ s.captures _
    ∙ ap (λ (o : Outside). record { context = o.sides.context; nine = o.noted.nine; second = o.noted.second })
    (ended-outside xs _ ∙ lasts_outside (newest_layer s.scope.names) (close_captures (close_scope s)))
