-- How many names and layers there are after each function of the pass.
use Prim.Native.Nat.{ℕ, zero, suc, ◌+◌, ◌≤◌}
use mathlib.Core.List.{List, [], ◌∷◌}
use Rattle.std.specs.Prelude.{Bool, cond, ◌&&◌, ◌≡◌, length, eqb, ltb, Option, None, Some}
use Rattle.std.proofs.Math.Bool.{true, false}
use Rattle.std.proofs.Math.Path.{refl}
use Rattle.std.proofs.Common.{ap, ◌∙◌, arith, lt-ltb}
use Rattle.tree.specs.Tree.{Ident, Node, Tree}
use Rattle.scope_map.specs.ScopeMap.{ScopeMap, has_at_top, push_layer, pop_layer}
use Rattle.scope_map.specs.ScopeMap as map
use Rattle.scope_map.proofs.Laws.Size.{define-size, remove-size, pop_size}
use Rattle.semantic.specs.Information.{NONE}
use Rattle.semantic.specs.Rows.{Row, ListEntry}
use Rattle.semantic.specs.declared.ListAt.{ListAt}
use Rattle.semantic.specs.declared.FunctionInformation.{FunctionInformation}
use Rattle.semantic.specs.declared.IdentifierStatus.{IdentifierStatus}
use Rattle.semantic.specs.declared.ScopeInfo.{ScopeInfo}
use Rattle.pass.specs.State.{Entry, Capture, Scope, State, info_at, list_entry_at, with_names, with_captures, insert, amend, row_at, put_entry, entry_at, newest, depth}
use Rattle.pass.specs.Read.{note_live, enter, enter_define, enter_top_level_value, Rule, no_entry, depth_one, current_layer, taken_capture, home_slot, rule_of, has_number, read_by, read, mutate_at, mutate}
use Rattle.pass.specs.Lists.{is_of, numbered_heap, numbered_capture, number_row, number_rows, number_list}
use Rattle.pass.specs.Lambda.{is_heap, note_heap, enter_name, enter_names, function_in, open_captures, open_scope, enter_parameters, open_lambda, close_scope, close_captures, close_lambda, open_layer, close_layer, at_bottom, open_let, leave_names, entered, close_let}
use Rattle.pass_laws.specs.Sound.{Grows}
use Rattle.pass_laws.specs.Laws.Changes.{Steps, quiet}
use Rattle.pass_laws.specs.Laws.Names.{shadow_changes}
use Rattle.pass_laws.specs.Laws.Scopes.{Any, last_changes, lambda_ends, make_changes}

-- Changes of a state one after another

pub grows_none : {s : State} → Grows 0 0 s s
grows_none = record { live = omega arith; layers = λ h. refl; capture_layers = λ h. refl }

pub grows_then : {a b c d : ℕ} {s t u : State} → Grows a b s t → Grows c d t u → Grows (a + c) (b + d) s u
grows_then p q = record {
  live = omega (arith, p.live, q.live);
  layers = λ h. q.layers (omega (arith, p.layers h)) ∙ p.layers h;
  capture_layers = λ h. q.capture_layers (omega (arith, p.capture_layers h)) ∙ p.capture_layers h;
}

-- the same bound or a wider one
pub grows_wide : {a b c d : ℕ} {s t : State} → c + b ≤ a + d → Grows a b s t → Grows c d s t
grows_wide e p = record { live = omega (arith, p.live); layers = p.layers; capture_layers = p.capture_layers }

-- the live names are those before, or b more
grows_by : {b : ℕ} {s t : State} → length t.scope.names.live ≤ length s.scope.names.live + b → depth t ≡ depth s
    → t.captures.depth ≡ s.captures.depth → Grows 0 b s t
grows_by l d c = record { live = omega arith; layers = λ h. d; capture_layers = λ h. c }

grows_either : {a b : ℕ} {s t u : State} (c : Bool) → Grows a b s t → Grows a b s u → Grows a b s (cond c t u)
grows_either true p q = p
grows_either false p q = q

-- steps by which no name enters
pub grows_quiet : {own : ℕ → Type 0} {s t : State} → Steps ⊥ own s t → Grows 0 0 s t
grows_quiet {s = s} c =
    let q = quiet c in
    record {
      live = omega (arith, ap (λ (o : Scope). length o.names.live) q.scope);
      layers = λ h. ap (λ (o : Scope). o.names.depth) q.scope;
      capture_layers = λ h. ap (λ (m : ScopeMap Capture). m.depth) q.captures;
    }

-- A name is read, set, or enters

by_grows : (classes : List ℕ) (r : Rule) (x : Ident) (s : State) → Grows 0 0 s (read_by classes r x s)
unfolding insert amend put_entry
by_grows classes no_entry x s = grows_by (omega arith) refl refl
by_grows classes (depth_one b) x s = grows_by (omega arith) refl refl
by_grows classes (current_layer b) x s = grows_by (omega arith) refl refl
by_grows classes (taken_capture b c) x s =
    let v = info_at s c.row in
    grows_either (has_number v.read_capture_offset && eqb v.capture_offset NONE) (grows_by (omega arith) refl refl) (grows_by (omega arith) refl refl)
by_grows classes (home_slot b) x s = grows_by (omega arith) refl refl

pub grows_read : (classes : List ℕ) (x : Ident) (s : State) → Grows 0 0 s (read classes x s)
unfolding read
grows_read classes x s = by_grows classes (rule_of s x.name) x s

set_grows : (o : Option Ident) (s : State) → Grows 0 0 s (mutate_at o s)
unfolding insert amend put_entry
set_grows None s = grows_none
set_grows (Some b) s = grows_by (omega arith) refl refl

pub grows_mutate : (x : ℕ) (s : State) → Grows 0 0 s (mutate x s)
unfolding mutate
grows_mutate x s = set_grows (newest s x) s

pub grows_enter : (x : Ident) (e : Entry) (s : State) → Grows 0 1 s (enter x e s)
unfolding enter put_entry
grows_enter x e s = go (ltb 1 (depth s) && has_at_top s.scope.names x.name)
  where
    go : (b : Bool) → Grows 0 1 s (put_entry x.at e (with_names (map.define x.name x s.scope.names) (note_live b x.at s)))
    go true = grows_by (omega (arith, define-size x.name x s.scope.names)) refl refl
    go false = grows_by (omega (arith, define-size x.name x s.scope.names)) refl refl

-- with a row written
grows_row : {b : ℕ} {s t : State} (i : ℕ) (r : Row) → Grows 0 b s t → Grows 0 b s (insert i r t)
unfolding insert
grows_row i r p = record { live = p.live; layers = p.layers; capture_layers = p.capture_layers }

module _ (classes : List ℕ) where
  pub grows_define : (k : IdentifierStatus) (a : ℕ) (x : Ident) (b : Tree) (s : State) → Grows 0 1 s (enter_define classes k a x b s)
  unfolding enter_define
  grows_define k a x b s = grows_row x.at _ (grows_enter x _ s)

  pub grows_value : (x : Ident) (b : Tree) (s : State) → Grows 0 1 s (enter_top_level_value classes x b s)
  unfolding enter_top_level_value
  grows_value x b s = grows_then (grows_quiet (shadow_changes {own = Any} classes (newest s x.name) s)) (grows_define _ _ x b _)

module _ (kind : IdentifierStatus) (base : ℕ) (heaps : Option ℕ) (before : List ListEntry) where
  grows_name : (b : Bool) (x : Ident) (j n : ℕ) (s : State) → Grows 0 1 s (enter_name kind base heaps before b x j n s)
  unfolding enter_name
  grows_name true x j n s = grows_row x.at _ (grows_then (heap_grows heaps) (grows_enter x _ _))
    where
      heap_grows : (o : Option ℕ) → Grows 0 0 s (note_heap o x s)
      heap_grows None = grows_by (omega arith) refl refl
      heap_grows (Some h) = grows_none
  grows_name false x j n s = grows_row x.at _ (grows_enter x _ s)

  pub grows_names : (xs : List Ident) (j n : ℕ) (s : State) → Grows 0 (length xs) s (enter_names kind base heaps before xs j n s)
  unfolding enter_names
  grows_names [] j n s = grows_none
  grows_names (x ∷ xs) j n s = grows_wide (omega arith) (grows_then (grows_name (is_heap before j) x j n s) (grows_names xs (suc j) _ _))

pub grows_leave_names : (xs : List Ident) (s : State) → Grows 0 0 s (leave_names xs s)
unfolding leave_names
grows_leave_names [] s = grows_none
grows_leave_names (x ∷ xs) s =
    let m = map.remove x.name s.scope.names in
    let left : Grows 0 0 s (with_names m s) = grows_by (omega (arith, remove-size x.name s.scope.names)) refl refl in
    grows_then (grows_then left (grows_quiet (last_changes {own = Any} (entry_at s x.at).last_used _))) (grows_leave_names xs _)

-- A lambda's list is numbered

module _ (which : Bool) (numbered : ℕ → Option ScopeInfo → ScopeInfo → ScopeInfo) where
  grows_rows : (k r i : ℕ) (s : State) → Grows 0 0 s (number_rows which numbered k r i s)
  unfolding number_rows number_row
  grows_rows zero r i s = grows_none
  grows_rows (suc k) r i s =
      grows_then (grows_either {s = s} (is_of which numbered (list_entry_at s r)) (grows_by (omega arith) refl refl) grows_none) (grows_rows k (suc r) _ _)

pub grows_number : (e : ListAt) (s : State) → Grows 0 0 s (number_list e s)
unfolding number_list
grows_number e s = grows_then (grows_rows false numbered_capture e.length e.first 0 s) (grows_rows true numbered_heap e.length e.first 0 _)

-- Layers

popped : {A : Type 0} (m : ScopeMap A) (d : ℕ) → 1 ≤ d → m.depth ≡ suc d → (pop_layer m).depth ≡ d
popped m d h e = rw (lt-ltb 1 m.depth (omega arith)) (omega arith)

pub grows_close : {a b : ℕ} {s t : State} → Grows a b (open_scope s) t → Grows a b s (close_scope t)
unfolding open_scope close_scope
grows_close {s = s} {t} p = record {
  live = omega (arith, p.live, pop_size t.scope.names);
  layers = λ h. popped t.scope.names (depth s) h (p.layers (omega arith));
  capture_layers = p.capture_layers;
}

pub grows_close_captures : {a b : ℕ} {s t : State} → Grows a b (with_captures (push_layer s.captures) s) t → Grows a b s (close_captures t)
unfolding close_captures
grows_close_captures {s = s} {t} p = record {
  live = p.live;
  layers = p.layers;
  capture_layers = λ h. popped t.captures s.captures.depth h (p.capture_layers (omega arith));
}

-- Lambda

pub grows_open : (f : Option FunctionInformation) (s : State) → Grows 0 0 (with_captures (push_layer s.captures) s) (open_captures f s)
unfolding open_captures
grows_open None s = grows_none
grows_open (Some v) s =
    let p = grows_number v.captured_vars (with_captures (push_layer s.captures) s) in
    record { live = p.live; layers = p.layers; capture_layers = p.capture_layers }

pub grows_parameters : (f : Option FunctionInformation) (xs : List Ident) (s : State) → Grows 0 (length xs) s (enter_parameters f xs s)
unfolding enter_parameters
grows_parameters None xs s = grows_names _ _ _ _ xs 0 0 s
grows_parameters (Some v) xs s = grows_names _ _ _ _ xs 0 0 s

-- the whole of a lambda
pub grows_lambda : {a c : ℕ} (n : Node) (xs : List Ident) (b : Tree) (escapes : Bool) (s : State) {t : State} → Grows a c (open_lambda n xs s) t
    → Grows a (length xs + c) s (close_lambda n xs b escapes t)
unfolding open_lambda
grows_lambda n xs b escapes s {t} p =
    let f = function_in (row_at s n.at) in
    let inner = grows_close (grows_then (grows_parameters f xs (open_scope (open_captures f s))) p) in
    let closed = grows_close_captures (grows_then (grows_open f s) inner) in
    grows_wide (omega arith) (grows_then closed (grows_quiet (lambda_ends {own = Any} n xs b escapes t tt)))

-- the whole of a let, after its initial expressions

close_layer_lem : {a c : ℕ} (b : Bool) (s : State) {t : State} → Grows a c (open_layer b s) t → Grows a c s (close_layer b t)
unfolding open_layer close_layer
close_layer_lem true s p = grows_close p
close_layer_lem false s p = p

pub grows_let : {a c : ℕ} (b : Bool) (n : Node) (xs : List Ident) (height : ℕ) (function : Option Node) (s : State) {t : State} → b ≡ at_bottom s
    → Grows a c (open_let n xs height function s) t → Grows a (length xs + c) s (close_let b n xs height function t)
unfolding open_let close_let
grows_let b n xs height function s {t} e p =
    let made = grows_quiet (make_changes {own = Any} (row_at t n.at) n (entered xs t) height function (leave_names xs t) tt) in
    let inner = grows_then (grows_then (grows_names _ height _ _ xs 0 0 _) p) (grows_then (grows_leave_names xs t) made) in
    rw e (close_layer_lem (at_bottom s) s (grows_wide (omega arith) inner))
