-- A layer that closes, and lists that are stored, touch different parts of a state: their order does not matter.
use Rattle.std.specs.Prelude.{Option, None, Some}
use Prim.Native.Nat.{ℕ, ◌+◌, ◌-◌}
use mathlib.Core.List.{List, [], ◌∷◌, ◌++◌}
use mathlib.Core.Bool.{Bool, true, false, cond}
use mathlib.Core.Path.{◌≡◌, refl, ap, sym, ◌∙◌}
use lib.ListN.{length, replicate}
use lib.Seq.{sets}
use lib.Dec.{ltb}
use Rattle.tree.specs.Tree.{Ident}
use Rattle.scope_map.specs.ScopeMap.{Live, newest_layer}
use Rattle.semantic.specs.Rows.{ListEntry, no_list_entry}
use Rattle.semantic.specs.declared.ListAt.{ListAt}
use Rattle.pass.specs.State.{State, Noted, with_facts, entry_at, insert, amend, or_kept, note_ten}
use Rattle.pass.specs.Lists.{captured_most, store_captured, store_arguments, rewrite_captured}
use Rattle.pass.specs.Lambda.{mark_last, mark_lasts, close_scope, close_captures, end_parameters}
use Rattle.layers.specs.Lambdas.{layers_closed}

-- the lists of a state, and what is noted
pub record Lists : Type 0 where
  pub captured : List ListEntry
  pub captured_top : ℕ
  pub arguments : List ListEntry
  pub arguments_top : ℕ
  pub noted : Noted

abbrev pub lists_of : State → Lists
lists_of s = record {
  captured = s.facts.captured;
  captured_top = s.facts.captured_top;
  arguments = s.facts.arguments;
  arguments_top = s.facts.arguments_top;
  noted = s.noted;
}

abbrev pub put : Lists → State → State
put k s = record {
  facts = record { rows = s.facts.rows; captured = k.captured; captured_top = k.captured_top; arguments = k.arguments; arguments_top = k.arguments_top };
  scope = s.scope;
  captures = s.captures;
  context = s.context;
  noted = k.noted;
}

-- Closing commutes with lists that are put

put_last : (o : Option Ident) (k : Lists) (s : State) → mark_last o (put k s) ≡ put k (mark_last o s)
unfolding amend insert
put_last None k s = refl
put_last (Some x) k s = refl

put_lasts : (l : List (Live Ident)) (k : Lists) (s : State) → mark_lasts l (put k s) ≡ put k (mark_lasts l s)
unfolding mark_lasts
put_lasts [] k s = refl
put_lasts (e ∷ l) k s =
    ap (mark_lasts l) (put_last (entry_at s e.value.at).last_used k s) ∙ put_lasts l k (mark_last (entry_at s e.value.at).last_used s)

put-parameters : (xs : List Ident) (k : Lists) (s : State) → end_parameters xs (put k s) ≡ put k (end_parameters xs s)
unfolding end_parameters amend insert
put-parameters [] k s = refl
put-parameters (x ∷ xs) k s = put-parameters xs k _

put-closed : (xs : List Ident) (k : Lists) (s : State) → layers_closed xs (put k s) ≡ put k (layers_closed xs s)
unfolding close_scope close_captures
put-closed xs k s =
    ap (end_parameters xs) (put_lasts (newest_layer s.scope.names) k (close_captures (close_scope s))) ∙ put-parameters xs k _

-- and leaves the lists

last-lists : (o : Option Ident) (s : State) → lists_of (mark_last o s) ≡ lists_of s
unfolding amend insert
last-lists None s = refl
last-lists (Some x) s = refl

lasts_lists : (l : List (Live Ident)) (s : State) → lists_of (mark_lasts l s) ≡ lists_of s
unfolding mark_lasts
lasts_lists [] s = refl
lasts_lists (e ∷ l) s = lasts_lists l _ ∙ last-lists (entry_at s e.value.at).last_used s

parameters-lists : (xs : List Ident) (s : State) → lists_of (end_parameters xs s) ≡ lists_of s
unfolding end_parameters amend insert
parameters-lists [] s = refl
parameters-lists (x ∷ xs) s = parameters-lists xs _

pub closed-lists : (xs : List Ident) (s : State) → lists_of (layers_closed xs s) ≡ lists_of s
unfolding close_scope close_captures
closed-lists xs s = parameters-lists xs _ ∙ lasts_lists (newest_layer s.scope.names) (close_captures (close_scope s))

-- a change of the lists alone, by what they are
pub commutes : (g : State → State) (h : Lists → Lists) → ((s : State) → g s ≡ put (h (lists_of s)) s) → (xs : List Ident) (s : State)
    → layers_closed xs (g s) ≡ g (layers_closed xs s)
commutes g h e xs s =
    ap (layers_closed xs) (e s) ∙ put-closed xs (h (lists_of s)) s ∙ ap (λ (k : Lists). put (h k) (layers_closed xs s)) (sym (closed-lists xs s)) ∙ sym (e (layers_closed xs s))

-- the layer closes before or after its last uses are marked

last-closed : (o : Option Ident) (s : State) → close_captures (close_scope (mark_last o s)) ≡ mark_last o (close_captures (close_scope s))
unfolding close_scope close_captures amend insert
last-closed None s = refl
last-closed (Some x) s = refl

pub lasts_closed : (l : List (Live Ident)) (s : State) → close_captures (close_scope (mark_lasts l s)) ≡ mark_lasts l (close_captures (close_scope s))
unfolding mark_lasts close_scope close_captures
lasts_closed [] s = refl
lasts_closed (e ∷ l) s =
    lasts_closed l (mark_last (entry_at s e.value.at).last_used s) ∙ ap (mark_lasts l) (last-closed (entry_at s e.value.at).last_used s)

-- The changes of the lists

abbrev ten_noted : ℕ → Noted → Noted
ten_noted i n = record { nine = n.nine; ten = or_kept n.ten i; second = n.second }

abbrev pub captured_stored : ℕ → List ListEntry → Lists → Lists
captured_stored i l k =
    let full = ltb captured_most (k.captured_top + length l) in
    record {
      captured = cond full k.captured (sets k.captured k.captured_top l);
      captured_top = k.captured_top + length l;
      arguments = k.arguments;
      arguments_top = k.arguments_top;
      noted = cond full (ten_noted i k.noted) k.noted;
    }

pub captured_put : (i : ℕ) (l : List ListEntry) (s : State) → store_captured i l s ≡ put (captured_stored i l (lists_of s)) s
unfolding store_captured
captured_put i l s = go (ltb captured_most (s.facts.captured_top + length l)) (cond (ltb captured_most (s.facts.captured_top + length l)) s.facts.captured (sets s.facts.captured s.facts.captured_top l))
  where
    go : (b : Bool) (c : List ListEntry)
        → (let t = with_facts (record { rows = s.facts.rows; captured = c; captured_top = s.facts.captured_top + length l; arguments = s.facts.arguments; arguments_top = s.facts.arguments_top }) s in
        cond b (note_ten i t) t)
        ≡ put (record { captured = c; captured_top = s.facts.captured_top + length l; arguments = s.facts.arguments; arguments_top = s.facts.arguments_top; noted = cond b (ten_noted i s.noted) s.noted }) s
    go true c = refl
    go false c = refl

abbrev pub arguments_stored : List ListEntry → Lists → Lists
arguments_stored l k = record {
  captured = k.captured;
  captured_top = k.captured_top;
  arguments = sets k.arguments k.arguments_top l;
  arguments_top = k.arguments_top + length l;
  noted = k.noted;
}

pub arguments_put : (l : List ListEntry) (s : State) → store_arguments l s ≡ put (arguments_stored l (lists_of s)) s
unfolding store_arguments
arguments_put l s = refl

pub stored-put : (i : ℕ) (c l : List ListEntry) (s : State) → store_arguments l (store_captured i c s) ≡ put (arguments_stored l (captured_stored i c (lists_of s))) s
stored-put i c l s = ap (store_arguments l) (captured_put i c s) ∙ arguments_put l _

abbrev pub rewritten : ListAt → List ListEntry → Lists → Lists
rewritten e l k = record {
  captured = sets k.captured e.first (l ++ replicate (e.length - length l) no_list_entry);
  captured_top = k.captured_top;
  arguments = k.arguments;
  arguments_top = k.arguments_top;
  noted = k.noted;
}

pub rewritten-put : (e : ListAt) (l : List ListEntry) (s : State) → rewrite_captured e l s ≡ put (rewritten e l (lists_of s)) s
unfolding rewrite_captured
rewritten-put e l s = refl
