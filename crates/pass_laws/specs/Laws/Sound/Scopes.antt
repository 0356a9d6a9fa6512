-- Lists are stored and numbered, names enter and leave, lambdas and lets begin and end.
use Prim.Native.Nat.{ℕ, zero, suc, ◌+◌, ◌-◌, ◌≤◌, ◌<◌}
use mathlib.Core.List.{List, [], ◌∷◌, ◌++◌, map}
use Rattle.std.specs.Prelude.{Bool, cond, ◌≡◌, get_or, Option, None, Some}
use Rattle.std.proofs.Math.Bool.{true, false}
use Rattle.std.proofs.Math.Path.{refl}
use Rattle.std.proofs.Common.{sym, subst, arith}
use Rattle.std.proofs.Math.ListN.{length, replicate}
use Rattle.std.proofs.lemmas.List.Edits.{sets}
use Rattle.std.proofs.Math.Dec.{ltb}
use Rattle.tree.specs.Tree.{Ident, Node, Tree}
use Rattle.tree.specs.Accepted.{All}
use Rattle.scope_map.specs.ScopeMap.{ScopeMap, Live, push_layer, newest_layer}
use Rattle.semantic.specs.Information.{mark_last_usage}
use Rattle.semantic.specs.Rows.{Row, Blank, Variable, Function, CallSite, Let, ListEntry, no_list_entry}
use Rattle.semantic.specs.declared.ListAt.{ListAt}
use Rattle.semantic.specs.declared.FunctionInformation.{FunctionInformation}
use Rattle.semantic.specs.declared.IdentifierStatus.{IdentifierStatus}
use Rattle.semantic.specs.declared.ScopeInfo.{ScopeInfo}
use Rattle.pass.specs.State.{Capture, State, with_captures, entry_at, list_entry_at, row_at}
use Rattle.pass.specs.Lists.{sort_by_id, captured_most, store_captured, store_arguments, rewrite_captured, near, is_near, numbered_capture, numbered_heap, is_of, capture_of, number_row, number_rows, number_list}
use Rattle.pass.specs.Lambda.{is_heap, note_heap, enter_name, enter_names, function_in, mark_last, captured_list, open_captures, open_scope, enter_parameters, open_lambda, holds_lambda, mark_lasts, close_scope, close_captures, end_parameters, make_function, now_used, kept_of, amend_function, function_ends, name_in, close_lambda, open_layer, close_layer, at_bottom, open_let, leave_names, entered, make_let, close_let}
use Rattle.pass_laws.specs.Sound.{Property, Lawful, Each, OverRows, Listed, IsNamed}
use Rattle.pass_laws.specs.Laws.All.{all-++}
use Rattle.pass_laws.specs.Laws.Sound.Lists.{set_each, sets_each, all_same, all_either, defined_values, removed_values, popped_values, removed_live, popped_live}
use Rattle.pass_laws.specs.Laws.Sound.Each.{Fine, fine, each_either, each_context, each_noted, each_live, each_captures, each_lists, each_insert, each_mark}
use Rattle.pass_laws.specs.Laws.Sound.ListEntries.{sorted_list_entries, kept_list_entries, listed_list_entries, amended-list_entries, captured_list_entries}
use Rattle.pass_laws.specs.Laws.Sound.Names.{each_enter}

-- an entry whose offsets alone change, and a list that keeps some of its entries

on_offsets : {Q : Property} (lawful : Lawful Q) (F : ℕ → Type 0) (x : ListEntry) (v : ScopeInfo) → v.id ≡ x.info.id → v.usage_count ≡ x.info.usage_count
    → Fine Q F x → Fine Q F (record { binder = x.binder; info = v })
on_offsets lawful F x v e u p = (lawful.changed x v e p.0, subst F (sym u) p.1)

-- numbers are offsets
abbrev pub KeepsUses : (ℕ → Option ScopeInfo → ScopeInfo → ScopeInfo) → Type 0
KeepsUses f = (i : ℕ) (o : Option ScopeInfo) (v : ScopeInfo) → ((f i o v).id ≡ v.id) × ((f i o v).usage_count ≡ v.usage_count)

pub heap_uses : KeepsUses numbered_heap
heap_uses i o v = (refl, refl)

pub capture-uses : KeepsUses numbered_capture
capture-uses i o v = (refl, refl)

list_kept : (P : ListEntry → Type 0) (b : Tree) (used l : List ListEntry) → All P l → All P (kept_of b used l)
list_kept P b used l p = all_either P (holds_lambda b) l _ p (kept_list_entries P _ l p)

module _ {Q : Property} (lawful : Lawful Q) {F : ℕ → Type 0} (unused : F 0) where
  -- Lists

  pub each_store : (i : ℕ) (l : List ListEntry) {s : State} → All (Fine Q F) l → Each Q F s → Each Q F (store_captured i l s)
  unfolding store_captured
  each_store i l {s} p h =
      let full = ltb captured_most (s.facts.captured_top + length l) in
      let stored = each_lists _ refl (go full) h in
      each_either full (each_noted _ stored) stored
    where
      go : (b : Bool) (j : ℕ) → Fine Q F (get_or (cond b s.facts.captured (sets s.facts.captured s.facts.captured_top l)) j no_list_entry)
      go true = fine h
      go false = sets_each (Fine Q F) no_list_entry s.facts.captured s.facts.captured_top l p (fine h)

  pub each_arguments : (l : List ListEntry) {s : State} → Each Q F s → Each Q F (store_arguments l s)
  unfolding store_arguments
  each_arguments l h = each_lists _ refl (fine h) h

  pub each_rewrite : (e : ListAt) (l : List ListEntry) {s : State} → All (Fine Q F) l → Each Q F s → Each Q F (rewrite_captured e l s)
  unfolding rewrite_captured
  each_rewrite e l {s} p h =
      let spare = replicate (e.length - length l) no_list_entry in
      let written = all-++ (Fine Q F) l spare p (all_same (Fine Q F) (e.length - length l) no_list_entry (lawful.absent, unused)) in
      each_lists _ refl (sets_each (Fine Q F) no_list_entry s.facts.captured e.first (l ++ spare) written (fine h)) h

  module _ (which : Bool) (numbered : ℕ → Option ScopeInfo → ScopeInfo → ScopeInfo) (kept : KeepsUses numbered) where
    pub each_row : (r i : ℕ) (x : ListEntry) {s : State} → Q.row r → Fine Q F x → Each Q F s → Each Q F (number_row which numbered r i x s)
    unfolding number_row
    each_row r i x {s} q p h =
        let o = near s x.binder.name in
        let c = capture_of which numbered r (is_near o) x in
        each_captures _ (defined_values (λ c. Q.capture c.row c.binder) x.binder.name c s.captures (lawful.taken r x q p.0) h.taken)
        (defined_values (λ c. F c.usage_count) x.binder.name c s.captures p.1 h.capture_uses)
        (each_lists _ refl (set_each (Fine Q F) no_list_entry s.facts.captured r _ (on_offsets lawful F x _ (kept i o _).0 (kept i o _).1 p) (fine h)) h)

    pub each_rows : (k r i : ℕ) {s : State} → ((j : ℕ) → r ≤ j → j < r + k → Q.row j) → Each Q F s → Each Q F (number_rows which numbered k r i s)
    unfolding number_rows
    each_rows zero r i q h = h
    each_rows (suc k) r i {s} q h =
        each_rows k (suc r) _ (λ j a b. q j (omega arith) (omega arith))
        (each_either (is_of which numbered (list_entry_at s r)) (each_row r i (list_entry_at s r) (q r (omega arith) (omega arith)) (fine h r) h) h)

  pub each_number : (e : ListAt) {s : State} → OverRows Q.row e → Each Q F s → Each Q F (number_list e s)
  unfolding number_list
  each_number e q h =
      each_rows true numbered_heap heap_uses e.length e.first 0 q
      (each_rows false numbered_capture capture-uses e.length e.first 0 q h)

  -- Names enter

  heap_noted : (o : Option ℕ) (x : Ident) {s : State} → Each Q F s → Each Q F (note_heap o x s)
  heap_noted None x h = each_noted _ h
  heap_noted (Some n) x h = h

  module _ (kind : IdentifierStatus) (base : ℕ) (heaps : Option ℕ) (before : List ListEntry) where
    pub each_name : (b : Bool) (x : Ident) (j n : ℕ) {s : State} → Q.ident x → Each Q F s → Each Q F (enter_name kind base heaps before b x j n s)
    unfolding enter_name
    each_name true x j n p h = each_insert x.at _ unused (each_enter unused x _ p refl unused (heap_noted heaps x h))
    each_name false x j n p h = each_insert x.at _ unused (each_enter unused x _ p refl unused h)

    pub each_names : (xs : List Ident) (j n : ℕ) {s : State} → All Q.ident xs → Each Q F s → Each Q F (enter_names kind base heaps before xs j n s)
    unfolding enter_names
    each_names [] j n p h = h
    each_names (x ∷ xs) j n p h = each_names xs (suc j) _ p.1 (each_name (is_heap before j) x j n p.0 h)

  -- Layers

  pub each_push : {s : State} → Each Q F s → Each Q F (open_scope s)
  unfolding open_scope
  each_push h = each_live _ h.named h.binders h

  pub each_pop : {s : State} → Each Q F s → Each Q F (close_scope s)
  unfolding close_scope
  each_pop {s} h = each_live _ (popped_live IsNamed s.scope.names h.named) (popped_values Q.ident s.scope.names h.binders) h

  pub each_push_captures : {s : State} → Each Q F s → Each Q F (with_captures (push_layer s.captures) s)
  each_push_captures h = each_captures _ h.taken h.capture_uses h

  pub each_pop_captures : {s : State} → Each Q F s → Each Q F (close_captures s)
  unfolding close_captures
  each_pop_captures {s} h =
      each_captures _ (popped_values (λ c. Q.capture c.row c.binder) s.captures h.taken)
      (popped_values (λ c. F c.usage_count) s.captures h.capture_uses) h

  -- Lambda

  pub each_open : (f : Option FunctionInformation) {s : State} → Listed Q.row f → Each Q F s → Each Q F (open_captures f s)
  unfolding open_captures
  each_open None q h = each_push_captures h
  each_open (Some v) q h = each_context _ (each_number v.captured_vars q (each_push_captures h))

  pub each_parameters : (f : Option FunctionInformation) (xs : List Ident) {s : State} → All Q.ident xs → Each Q F s → Each Q F (enter_parameters f xs s)
  unfolding enter_parameters
  each_parameters None xs p h = each_names _ _ _ _ xs 0 0 p h
  each_parameters (Some v) xs p h = each_names _ _ _ _ xs 0 0 p h

  pub each_open_lambda : (n : Node) (xs : List Ident) {s : State} → Listed Q.row (function_in (row_at s n.at)) → All Q.ident xs → Each Q F s
      → Each Q F (open_lambda n xs s)
  unfolding open_lambda
  each_open_lambda n xs {s} q p h = let f = function_in (row_at s n.at) in each_parameters f xs p (each_push (each_open f q h))

  pub each_last : (o : Option Ident) {s : State} → Each Q F s → Each Q F (mark_last o s)
  each_last None h = h
  each_last (Some x) h = each_mark mark_last_usage x.at unused (λ v q. q) h

  pub each_lasts : (l : List (Live Ident)) {s : State} → Each Q F s → Each Q F (mark_lasts l s)
  unfolding mark_lasts
  each_lasts [] h = h
  each_lasts (e ∷ l) {s} h = each_lasts l (each_last (entry_at s e.value.at).last_used h)

  pub each_ended : (xs : List Ident) {s : State} → Each Q F s → Each Q F (end_parameters xs s)
  unfolding end_parameters
  each_ended [] h = h
  each_ended (x ∷ xs) h = each_ended xs (each_mark _ x.at unused (λ v q. h.entry_uses x.at) h)

  pub each_make : (n : Node) (escapes : Bool) (captured arguments : List ListEntry) {s : State} → All (Fine Q F) captured → Each Q F s
      → Each Q F (make_function n escapes captured arguments s)
  unfolding make_function
  each_make n escapes captured arguments p h = each_insert n.at _ unused (each_arguments arguments (each_store n.at captured p h))

  pub each_amended : (n : Node) (b : Tree) (now : List ListEntry) (m : ScopeMap Capture) (v : FunctionInformation) {s : State} → Each Q F s
      → Each Q F (amend_function n b now m v s)
  unfolding amend_function
  each_amended n b now m v {s} h =
      let l = list_kept (Fine Q F) b (now_used b now) (captured_list s v) (listed_list_entries (Fine Q F) s.facts.captured v.captured_vars (fine h)) in
      each_insert n.at _ unused (each_rewrite v.captured_vars _ (amended-list_entries (Fine Q F) (on_offsets lawful F) (now_used b now) m [] _ l) h)

  each_function : (f : Option FunctionInformation) (n : Node) (b : Tree) (escapes : Bool) (now arguments : List ListEntry) (m : ScopeMap Capture) {s : State}
      → All (Fine Q F) now → Each Q F s → Each Q F (function_ends f n b escapes now arguments m s)
  each_function None n b escapes now arguments m p h = each_make n escapes (sort_by_id now) arguments (sorted_list_entries (Fine Q F) now p) h
  each_function (Some v) n b escapes now arguments m p h = each_amended n b now m v h

  pub each_close_lambda : (n : Node) (xs : List Ident) (b : Tree) (escapes : Bool) {s : State} → Each Q F s → Each Q F (close_lambda n xs b escapes s)
  unfolding close_lambda
  each_close_lambda n xs b escapes {s} h =
      each_function (function_in (row_at s n.at)) n b escapes _ _ _ (captured_list_entries lawful (map name_in xs) h)
      (each_ended xs (each_lasts (newest_layer s.scope.names) (each_pop_captures (each_pop h))))

  -- Let

  pub each_open_layer : (b : Bool) {s : State} → Each Q F s → Each Q F (open_layer b s)
  unfolding open_layer
  each_open_layer true h = each_push h
  each_open_layer false h = h

  pub each_close_layer : (b : Bool) {s : State} → Each Q F s → Each Q F (close_layer b s)
  unfolding close_layer
  each_close_layer true h = each_pop h
  each_close_layer false h = h

  pub each_open_let : (n : Node) (xs : List Ident) (height : ℕ) (function : Option Node) {s : State} → All Q.ident xs → Each Q F s
      → Each Q F (open_let n xs height function s)
  unfolding open_let
  each_open_let n xs height function {s} p h = each_names _ height _ _ xs 0 0 p (each_open_layer (at_bottom s) h)

  pub each_leave_names : (xs : List Ident) {s : State} → Each Q F s → Each Q F (leave_names xs s)
  unfolding leave_names
  each_leave_names [] h = h
  each_leave_names (x ∷ xs) {s} h =
      each_leave_names xs (each_last (entry_at s x.at).last_used (each_live _ (removed_live IsNamed x.name s.scope.names h.named)
      (removed_values Q.ident x.name s.scope.names h.binders) h))

  pub each_make_let : (r : Row) (n : Node) (l : List ListEntry) (height : ℕ) (function : Option Node) {s : State} → Each Q F s
      → Each Q F (make_let r n l height function s)
  each_make_let Blank n l height function h = each_insert n.at _ unused (each_arguments l h)
  each_make_let (Variable v) n l height function h = h
  each_make_let (Function v) n l height function h = h
  each_make_let (CallSite v) n l height function h = h
  each_make_let (Let v) n l height function h = h

  pub each_close_let : (opened : Bool) (n : Node) (xs : List Ident) (height : ℕ) (function : Option Node) {s : State} → Each Q F s
      → Each Q F (close_let opened n xs height function s)
  unfolding close_let
  each_close_let opened n xs height function {s} h =
      each_close_layer opened (each_make_let (row_at s n.at) n (entered xs s) height function (each_leave_names xs h))
