-- The live names when names enter a layer above the bottom with no refusal noted, and when they leave it.
use Prim.Native.Nat.{ℕ, zero, suc, ◌-◌, ◌≤◌, ◌<◌}
use mathlib.Core.List.{List, [], ◌∷◌}
use Rattle.std.specs.Prelude.{Bool, cond, ◌≡◌, eqb, Option, None, Some}
use Rattle.std.proofs.lemmas.Option.{none-some}
use Rattle.std.proofs.Math.Bool.{true, false}
use Rattle.std.proofs.Math.Path.{refl, ap}
use Rattle.std.proofs.Common.{sym, subst, ◌∙◌, arith, lt-ltb}
use Rattle.std.proofs.lemmas.Bool.{eqb-false}
use Rattle.tree.specs.Tree.{Ident, Node, Tree}
use Rattle.scope_map.specs.ScopeMap.{ScopeMap, Live, has_in, pop_layer, has_at_top}
use Rattle.scope_map.specs.ScopeMap as map
use Rattle.semantic.specs.Rows.{Row, ListEntry}
use Rattle.semantic.specs.declared.IdentifierStatus.{IdentifierStatus}
use Rattle.semantic.specs.declared.FunctionInformation.{FunctionInformation}
use Rattle.pass.specs.State.{Scope, Noted, Entry, State, list_entry_at, insert, put_entry, depth, or_kept, note_second, with_names, row_at, entry_at}
use Rattle.pass.specs.Read.{enter}
use Rattle.pass.specs.Lists.{is_of, numbered_capture, numbered_heap, number_row, number_rows, number_list}
use Rattle.semantic.specs.declared.ScopeInfo.{ScopeInfo}
use Rattle.pass.specs.Lambda.{is_heap, note_heap, enter_name, enter_names, function_in, open_captures, open_scope, enter_parameters, open_lambda, close_scope, close_captures, close_lambda, open_layer, close_layer, at_bottom, open_let, leave_names, entered, close_let}
use Rattle.pass_laws.specs.Laws.Changes.{Steps, quiet}
use Rattle.pass_laws.specs.Laws.Scopes.{Any, last_changes, make_changes, lambda_ends}
use Rattle.pass_laws.specs.Laws.Layers.{Within, live_at, entered_in, left_in, Anew, popped, left-entered}

-- the live names

abbrev pub names : State → ScopeMap Ident
names s = s.scope.names

abbrev pub in_layer : ℕ → List (Live Ident) → ScopeMap Ident
in_layer d l = record { depth = d; live = l }

pub record Layered (m : ScopeMap Ident) : Type 0 where
  pub one : 1 ≤ m.depth
  pub within : Within m.depth m.live

-- a quiet step leaves the names alone
pub quiet_names : {own : ℕ → Type 0} {s t : State} → Steps ⊥ own s t → names t ≡ names s
quiet_names c = ap (λ (k : Scope). k.names) (quiet c).scope

-- Names enter

pub not_noted : (o : Option ℕ) (i : ℕ) → or_kept o i ≡ None → ⊥
not_noted None i e = none-some i (sym e)
not_noted (Some a) i e = none-some a (sym e)

-- one name enters above the bottom, and no refusal is noted: it was not live there
pub record EntersOne (x : Ident) (s t : State) : Type 0 where
  pub before : s.noted.nine ≡ None
  pub anew : has_in (depth s) x.name (names s).live ≡ false
  pub after : names t ≡ in_layer (depth s) (live_at (depth s) x ∷ (names s).live)

pub enter_one : (x : Ident) (e : Entry) (s : State) → 1 < depth s → (enter x e s).noted.nine ≡ None → EntersOne x s (enter x e s)
unfolding enter put_entry
enter_one x e s h n = go (has_at_top (names s) x.name) refl
  where
    go : (b : Bool) → has_at_top (names s) x.name ≡ b → EntersOne x s (enter x e s)
    go true q = absurd (not_noted s.noted.nine x.at (rw (lt-ltb 1 (depth s) h, q) at n))
    go false q = record { before = rw (lt-ltb 1 (depth s) h, q) at n; anew = q; after = rw q }

pub record EntersAll (xs : List Ident) (s t : State) : Type 0 where
  pub before : s.noted.nine ≡ None
  pub anew : Anew (depth s) xs (names s).live
  pub after : names t ≡ in_layer (depth s) (entered_in (depth s) xs (names s).live)

enters_more : {x : Ident} {xs : List Ident} {s t u : State} → EntersOne x s t → EntersAll xs t u → EntersAll (x ∷ xs) s u
enters_more {xs = xs} o a =
    record {
      before = o.before;
      anew = (o.anew, subst (λ (m : ScopeMap Ident). Anew m.depth xs m.live) o.after a.anew);
      after = a.after ∙ ap (λ (m : ScopeMap Ident). in_layer m.depth (entered_in m.depth xs m.live)) o.after;
    }

-- a note of refusal 11 before it is no matter
heap_names : (o : Option ℕ) (x : Ident) (s : State) → names (note_heap o x s) ≡ names s
heap_names None x s = refl
heap_names (Some k) x s = refl

enter_heap : (o : Option ℕ) (x : Ident) (e : Entry) (s : State) → 1 < depth s → (enter x e (note_heap o x s)).noted.nine ≡ None
    → EntersOne x s (enter x e (note_heap o x s))
enter_heap None x e s h n =
    let r = enter_one x e (note_second 11 x.at s) h n in
    record { before = r.before; anew = r.anew; after = r.after }
enter_heap (Some k) x e s h n = enter_one x e s h n

-- nor is its fact
with_fact : {x : Ident} {s t : State} (i : ℕ) (r : Row) → EntersOne x s t → EntersOne x s (insert i r t)
unfolding insert
with_fact i r o = record { before = o.before; anew = o.anew; after = o.after }

module _ (kind : IdentifierStatus) (base : ℕ) (heaps : Option ℕ) (before : List ListEntry) where
  pub enter_name_lem : (b : Bool) (x : Ident) (j h : ℕ) (s : State) → 1 < depth s → (enter_name kind base heaps before b x j h s).noted.nine ≡ None
      → EntersOne x s (enter_name kind base heaps before b x j h s)
  unfolding enter_name insert
  enter_name_lem true x j h s l n = with_fact x.at _ (enter_heap heaps x _ s l n)
  enter_name_lem false x j h s l n = with_fact x.at _ (enter_one x _ s l n)

  name_depth : (b : Bool) (x : Ident) (j h : ℕ) (s : State) → depth (enter_name kind base heaps before b x j h s) ≡ depth s
  unfolding enter_name enter insert put_entry
  name_depth true x j h s = ap (λ (m : ScopeMap Ident). m.depth) (heap_names heaps x s)
  name_depth false x j h s = refl

  pub enter-names : (xs : List Ident) (j h : ℕ) (s : State) → 1 < depth s → (enter_names kind base heaps before xs j h s).noted.nine ≡ None
      → EntersAll xs s (enter_names kind base heaps before xs j h s)
  unfolding enter_names
  enter-names [] j h s l n = record { before = n; anew = tt; after = refl }
  enter-names (x ∷ xs) j h s l n =
      let t = enter_name kind base heaps before (is_heap before j) x j h s in
      let rest = enter-names xs (suc j) (cond (is_heap before j) (suc h) h) t (omega (arith, name_depth (is_heap before j) x j h s)) n in
      enters_more (enter_name_lem (is_heap before j) x j h s l rest.before) rest

-- Names leave

leave_names_lem : (xs : List Ident) (s : State) → names (leave_names xs s) ≡ in_layer (depth s) (left_in (depth s) xs (names s).live)
unfolding leave_names
leave_names_lem [] s = refl
leave_names_lem (x ∷ xs) s =
    let t = with_names (map.remove x.name (names s)) s in
    let m = quiet_names (last_changes {own = Any} (entry_at s x.at).last_used t) in
    leave_names_lem xs _ ∙ ap (λ (k : ScopeMap Ident). in_layer k.depth (left_in k.depth xs k.live)) m

-- a layer opens, names enter it, and it is popped
pop_entered : (m : ScopeMap Ident) → Layered m → (xs : List Ident) → pop_layer (in_layer (suc m.depth) (entered_in (suc m.depth) xs m.live)) ≡ m
pop_entered m l xs =
    let d : suc m.depth - 1 ≡ m.depth = omega arith in
    rw (lt-ltb 1 (suc m.depth) (omega (arith, l.one)), d, popped m.depth xs m.live l.within)

-- Let

-- the depth of its body
abbrev pub opened_to : Bool → ScopeMap Ident → ℕ
opened_to b m = cond b (suc m.depth) m.depth

close_layer_lem : (b : Bool) (m : ScopeMap Ident) (s : State) → Layered m → names s ≡ in_layer (opened_to b m) m.live → names (close_layer b s) ≡ m
unfolding close_layer close_scope
close_layer_lem true m s l e = ap pop_layer e ∙ pop_entered m l []
close_layer_lem false m s l e = e

pub close_let_lem : (b : Bool) (n : Node) (xs : List Ident) (height : ℕ) (function : Option Node) (m : ScopeMap Ident) (s : State) → Layered m
    → Anew (opened_to b m) xs m.live → names s ≡ in_layer (opened_to b m) (entered_in (opened_to b m) xs m.live)
    → names (close_let b n xs height function s) ≡ m
unfolding close_let
close_let_lem b n xs height function m s l a e =
    close_layer_lem b m _ l
    (quiet_names (make_changes {own = Any} (row_at s n.at) n (entered xs s) height function (leave_names xs s) tt)
    ∙ leave_names_lem xs s
    ∙ ap (λ (k : ScopeMap Ident). in_layer k.depth (left_in k.depth xs k.live)) e
    ∙ ap (in_layer (opened_to b m)) (left-entered (opened_to b m) xs m.live a))

-- a let at its names
pub record LetEnters (xs : List Ident) (b : Bool) (s t : State) : Type 0 where
  pub before : s.noted.nine ≡ None
  pub anew : Anew (opened_to b (names s)) xs (names s).live
  pub after : names t ≡ in_layer (opened_to b (names s)) (entered_in (opened_to b (names s)) xs (names s).live)

open_layer_lem : (b : Bool) (xs : List Ident) (s t : State) → EntersAll xs (open_layer b s) t → LetEnters xs b s t
unfolding open_layer open_scope
open_layer_lem true xs s t e = record { before = e.before; anew = e.anew; after = e.after }
open_layer_lem false xs s t e = record { before = e.before; anew = e.anew; after = e.after }

-- names enter above the bottom
above : (b : Bool) (s : State) → eqb (depth s) 1 ≡ b → 1 ≤ depth s → 1 < depth (open_layer b s)
unfolding open_layer open_scope
above true s e h = omega arith
above false s e h = let q : ¬ (depth s ≡ 1) = eqb-false (depth s) 1 e in omega arith

pub open_let_lem : (n : Node) (xs : List Ident) (height : ℕ) (function : Option Node) (s : State) → 1 ≤ depth s → (open_let n xs height function s).noted.nine ≡ None
    → LetEnters xs (at_bottom s) s (open_let n xs height function s)
unfolding open_let
open_let_lem n xs height function s h e =
    open_layer_lem (at_bottom s) xs s _ (enter-names _ height _ _ xs 0 0 (open_layer (at_bottom s) s) (above (at_bottom s) s refl h) e)

-- Lambda

enter-parameters : (o : Option FunctionInformation) (xs : List Ident) (s : State) → 1 < depth s → (enter_parameters o xs s).noted.nine ≡ None
    → EntersAll xs s (enter_parameters o xs s)
unfolding enter_parameters
enter-parameters None xs s h e = enter-names _ _ _ _ xs 0 0 s h e
enter-parameters (Some v) xs s h e = enter-names _ _ _ _ xs 0 0 s h e

pub record LambdaEnters (xs : List Ident) (s t : State) : Type 0 where
  pub before : s.noted.nine ≡ None
  pub anew : Anew (suc (depth s)) xs (names s).live
  pub after : names t ≡ in_layer (suc (depth s)) (entered_in (suc (depth s)) xs (names s).live)

-- the captures open first: the scope is as it was, and nothing is noted

pub record Beside (s t : State) : Type 0 where
  pub scope : t.scope ≡ s.scope
  pub noted : t.noted ≡ s.noted

beside : (b : Bool) (s t u : State) → Beside s t → Beside s u → Beside s (cond b t u)
beside true s t u p q = p
beside false s t u p q = q

module _ (which : Bool) (numbered : ℕ → Option ScopeInfo → ScopeInfo → ScopeInfo) where
  numbered_beside : (k r i : ℕ) (s : State) → Beside s (number_rows which numbered k r i s)
  unfolding number_rows number_row
  numbered_beside zero r i s = record { scope = refl; noted = refl }
  numbered_beside (suc k) r i s =
      let p = beside (is_of which numbered (list_entry_at s r)) s _ s (record { scope = refl; noted = refl }) (record { scope = refl; noted = refl }) in
      let q = numbered_beside k (suc r) _ _ in
      record { scope = q.scope ∙ p.scope; noted = q.noted ∙ p.noted }

pub captures_beside : (o : Option FunctionInformation) (s : State) → Beside s (open_captures o s)
unfolding open_captures number_list
captures_beside None s = record { scope = refl; noted = refl }
captures_beside (Some v) s =
    let l = v.captured_vars in
    let p = numbered_beside false numbered_capture l.length l.first 0 _ in
    let q = numbered_beside true numbered_heap l.length l.first 0 _ in
    record { scope = q.scope ∙ p.scope; noted = q.noted ∙ p.noted }

open_layers : (o : Option FunctionInformation) (xs : List Ident) (s t : State) → Beside s t → 1 ≤ depth s → (enter_parameters o xs (open_scope t)).noted.nine ≡ None
    → LambdaEnters xs s (enter_parameters o xs (open_scope t))
unfolding open_scope
open_layers o xs s t p h e =
    let d : depth t ≡ depth s = ap (λ (c : Scope). c.names.depth) p.scope in
    let r = enter-parameters o xs (open_scope t) (omega arith) e in
    record {
      before = ap (λ (n : Noted). n.nine) (sym p.noted) ∙ r.before;
      anew = subst (λ (c : Scope). Anew (suc c.names.depth) xs c.names.live) p.scope r.anew;
      after = r.after ∙ ap (λ (c : Scope). in_layer (suc c.names.depth) (entered_in (suc c.names.depth) xs c.names.live)) p.scope;
    }

pub open_lambda_lem : (n : Node) (xs : List Ident) (s : State) → 1 ≤ depth s → (open_lambda n xs s).noted.nine ≡ None → LambdaEnters xs s (open_lambda n xs s)
unfolding open_lambda
open_lambda_lem n xs s h e =
    let o = function_in (row_at s n.at) in
    open_layers o xs s (open_captures o s) (captures_beside o s) h e

pub close_lambda_lem : (n : Node) (xs : List Ident) (b : Tree) (escapes : Bool) (m : ScopeMap Ident) (s : State) → Layered m
    → names s ≡ in_layer (suc m.depth) (entered_in (suc m.depth) xs m.live) → names (close_lambda n xs b escapes s) ≡ m
unfolding close_scope close_captures
close_lambda_lem n xs b escapes m s l e = quiet_names (lambda_ends {own = Any} n xs b escapes s tt) ∙ ap pop_layer e ∙ pop_entered m l xs
