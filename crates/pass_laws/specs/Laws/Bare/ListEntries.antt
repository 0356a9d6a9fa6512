-- Captured lists and captures.
use Prim.Native.Nat.{ℕ, zero, suc, ◌+◌}
use mathlib.Core.List.{List, [], ◌∷◌, map, map-append}
use Rattle.std.specs.Prelude.{Bool, true, false, not, ◌&&◌, ◌≡◌, length, set, eqb, ltb, Option, None, Some, option_map}
use Rattle.std.proofs.Math.Path.{refl}
use Rattle.std.proofs.Common.{ap, sym, ◌∙◌}
use Rattle.std.proofs.lemmas.List.{length-map}
use Rattle.tree.specs.Tree.{Ident}
use Rattle.tree.specs.Check.{member}
use Rattle.scope_map.specs.ScopeMap.{ScopeMap, Live, get}
use Rattle.scope_map.specs.Map.{map_value, map_values, map_live}
use Rattle.scope_map.proofs.Laws.Map.{map_get, map-define}
use Rattle.semantic.specs.Rows.{ListEntry}
use Rattle.semantic.specs.declared.ListAt.{ListAt}
use Rattle.semantic.specs.declared.ScopeInfo.{ScopeInfo}
use Rattle.pass.specs.State.{Entry, Capture, State, with_captures, with_captured, list_entry_of, newest}
use Rattle.pass.specs.Lists.{add_captured, captured_in, captured_vars, list_entry_id, insert_by_id, sort_by_id, list_in, captured_most, store_captured, store_arguments, rewrite_captured, near_in, near, is_near, on_info, capture_of, number_row, number_rows, number_list, heap_count, name_of, names_of, keep, count_of, first_of, enclosing_of, kept_list_entry, amend_list}
use Rattle.pass_laws.specs.Laws.All.{all_of}
use Rattle.pass_laws.specs.Laws.Order.{map-insert}
use Rattle.pass.specs.Bare.{bare_ident, bare_list_entry, bare_facts, bare_entry, bare_capture, bare_state, ◌↝◌}
use Rattle.pass_laws.specs.Laws.Bare.Maps.{map_cond, map-set, map_sets, map-take, map-drop, map-replicate}
use Rattle.pass_laws.specs.Laws.Bare.Steps.{bare_id, bare-newest, bare-capture, bare-list-entry, steps}

-- The list of a lambda that ends

pub bare-list-entry_of : (b : Ident) (e : Entry) → list_entry_of (bare_ident b) (bare_entry e) ≡ bare_list_entry (list_entry_of b e)
bare-list-entry_of b e = rw (bare_id e.last_used)

add_captured_lem : (b : Bool) (s : State) (o : Option Ident) (l : List ListEntry)
    → add_captured b (bare_state s) (option_map bare_ident o) (map bare_list_entry l) ≡ map bare_list_entry (add_captured b s o l)
add_captured_lem false s o l = refl
add_captured_lem true s None l = refl
add_captured_lem true s (Some b) l = simp (steps, map_cond (map bare_list_entry))

captured_in_lem : (ps : List ℕ) (s : State) (l : List (Live Ident)) → captured_in ps (bare_state s) (map_live bare_ident l) ≡ map bare_list_entry (captured_in ps s l)
unfolding captured_in map_live
captured_in_lem ps s [] = refl
captured_in_lem ps s (e ∷ l) =
    rw (captured_in_lem ps s l, bare-newest) (add_captured_lem (ltb 1 e.layer && not (member e.name ps)) s (newest s e.name) (captured_in ps s l))

pub bare_captured_vars : (ps : List ℕ) (s : State) → captured_vars ps (bare_state s) ≡ map bare_list_entry (captured_vars ps s)
unfolding captured_vars bare_state
bare_captured_vars ps s = captured_in_lem ps s s.scope.names.live

pub bare_sort : (l : List ListEntry) → sort_by_id (map bare_list_entry l) ≡ map bare_list_entry (sort_by_id l)
unfolding insert_by_id sort_by_id
bare_sort [] = refl
bare_sort (i ∷ l) =
    let m = sort_by_id l in
    ap (insert_by_id (bare_list_entry i)) (bare_sort l) ∙ sym (map-insert bare_list_entry list_entry_id list_entry_id i m refl (all_of (λ x. list_entry_id x ≡ list_entry_id x) (λ x. refl) m))

-- Lists in their tables

pub bare-list : (l : List ListEntry) (e : ListAt) → list_in (map bare_list_entry l) e ≡ map bare_list_entry (list_in l e)
bare-list l e = simp (map-take, map-drop)

pub bare_store : (i : ℕ) (l : List ListEntry) → store_captured i l ↝ store_captured i (map bare_list_entry l)
unfolding store_captured bare_state bare_facts
bare_store i l s =
    let full = ltb captured_most (s.facts.captured_top + length l) in
    rw (length-map l bare_list_entry, ← map_sets bare_list_entry s.facts.captured s.facts.captured_top l, ← map_cond (map bare_list_entry) full) (map_cond bare_state full _ _)

pub bare_store_arguments : (l : List ListEntry) → store_arguments l ↝ store_arguments (map bare_list_entry l)
unfolding store_arguments bare_state bare_facts
bare_store_arguments l s = rw (length-map l bare_list_entry, map_sets bare_list_entry s.facts.arguments s.facts.arguments_top l)

pub bare_rewrite : (e : ListAt) (l : List ListEntry) → rewrite_captured e l ↝ rewrite_captured e (map bare_list_entry l)
unfolding rewrite_captured bare_state bare_facts
bare_rewrite e l s = simp (length-map, map_sets, map-append, map-replicate)

-- Offsets on entering a lambda

bare-near : (s : State) (x : ℕ) → near (bare_state s) x ≡ near s x
bare-near s x = rw bare-capture (go (get s.captures x))
  where
    go : (o : Option (Live Capture)) → near_in (bare_state s) (option_map (map_value bare_capture) o) ≡ near_in s o
    go None = refl
    go (Some c) = simp steps

-- captures and captured entries changed together
bare-take : (m : ScopeMap Capture) (l : List ListEntry) (s : State) {k : ScopeMap Capture} {r : List ListEntry} → map_values bare_capture m ≡ k → map bare_list_entry l ≡ r
    → bare_state (with_captures m (with_captured l s)) ≡ with_captures k (with_captured r (bare_state s))
unfolding bare_state bare_facts
bare-take m l s {k} p q =
    ap (λ (n : ScopeMap Capture). with_captures n (with_captured (map bare_list_entry l) (bare_state s))) p
    ∙ ap (λ (n : List ListEntry). with_captures k (with_captured n (bare_state s))) q

module _ (which : Bool) (numbered : ℕ → Option ScopeInfo → ScopeInfo → ScopeInfo) where
  number-row : (r i : ℕ) (x : ListEntry) → number_row which numbered r i x ↝ number_row which numbered r i (bare_list_entry x)
  unfolding number_row bare_state bare_facts
  number-row r i x s =
      let o = near s x.binder.name in
      let y = on_info (numbered i o) x in
      rw (bare-near s x.binder.name)
      (bare-take _ (set s.facts.captured r y) s
      (map-define bare_capture x.binder.name (capture_of which numbered r (is_near o) x) s.captures)
      (map-set bare_list_entry s.facts.captured r y))

  number-rows : (k r i : ℕ) → number_rows which numbered k r i ↝ number_rows which numbered k r i
  unfolding number_rows
  number-rows zero r i s = refl
  number-rows (suc k) r i s = number-rows k _ _ _ ∙ rw (map_cond bare_state, number-row, bare-list-entry)

pub bare-number : (e : ListAt) → number_list e ↝ number_list e
unfolding number_list
bare-number e s = simp number-rows

pub bare_heaps : (l : List ListEntry) → heap_count (map bare_list_entry l) ≡ heap_count l
unfolding heap_count
bare_heaps [] = refl
bare_heaps (i ∷ l) = rw (bare_heaps l)

-- The list that a second run keeps

pub bare-names_of : (l : List ListEntry) → names_of (map bare_list_entry l) ≡ names_of l
bare-names_of [] = refl
bare-names_of (i ∷ l) = rw (bare-names_of l)

pub bare-keep : (p : ℕ → Bool) (l : List ListEntry) → keep p (map bare_list_entry l) ≡ map bare_list_entry (keep p l)
unfolding keep
bare-keep p [] = refl
bare-keep p (i ∷ l) = rw (bare-keep p l) (sym (map_cond (map bare_list_entry) (p (name_of i)) _ _))

bare-count : (x : ℕ) (l : List ListEntry) → count_of x (map bare_list_entry l) ≡ count_of x l
unfolding count_of
bare-count x [] = refl
bare-count x (i ∷ l) = rw (bare-count x l)

bare-find : (x : ℕ) (l : List ListEntry) → first_of x (map bare_list_entry l) ≡ option_map bare_list_entry (first_of x l)
unfolding first_of
bare-find x [] = refl
bare-find x (i ∷ l) = rw (bare-find x l) (sym (map_cond (option_map bare_list_entry) (eqb (name_of i) x) _ _))

bare_enclosing : (m : ScopeMap Capture) (x : ℕ) → enclosing_of (get (map_values bare_capture m) x) ≡ enclosing_of (get m x)
bare_enclosing m x = rw (map_get bare_capture) (go (get m x))
  where
    go : (o : Option (Live Capture)) → enclosing_of (option_map (map_value bare_capture) o) ≡ enclosing_of o
    go None = refl
    go (Some c) = refl

module _ (now : List ListEntry) (m : ScopeMap Capture) where
  kept_list-entry : (o : Option ListEntry) (i : ListEntry)
      → kept_list_entry (map bare_list_entry now) (map_values bare_capture m) (option_map bare_list_entry o) (bare_list_entry i) ≡ bare_list_entry (kept_list_entry now m o i)
  kept_list-entry None i = refl
  kept_list-entry (Some v) i = rw (bare-count (name_of i) now, bare_enclosing m (name_of i))

  pub bare-amend-list : (seen : List ℕ) (l : List ListEntry)
      → amend_list (map bare_list_entry now) (map_values bare_capture m) seen (map bare_list_entry l) ≡ map bare_list_entry (amend_list now m seen l)
  unfolding amend_list
  bare-amend-list seen [] = refl
  bare-amend-list seen (i ∷ l) =
      rw (bare-find (name_of i) now, kept_list-entry (first_of (name_of i) now) i, bare-amend-list (name_of i ∷ seen) l)
      (ap (λ (j : ListEntry). j ∷ map bare_list_entry (amend_list now m (name_of i ∷ seen) l)) (sym (map_cond bare_list_entry (member (name_of i) seen) i _)))
