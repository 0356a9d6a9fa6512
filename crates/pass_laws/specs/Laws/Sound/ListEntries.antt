-- What holds of every entry of a list holds of the list sorted, kept in part, or amended.
use Rattle.std.specs.Prelude.{ℕ, Bool, cond, ◌&&◌, ◌≡◌, refl, get_or, drop, ltb, Option, None, Some}
use mathlib.Core.List.{List, [], ◌∷◌}
use Rattle.std.proofs.Math.Bool.{true, false, not}
use Rattle.tree.specs.Tree.{Ident}
use Rattle.tree.specs.Check.{member}
use Rattle.tree.specs.Accepted.{All}
use Rattle.scope_map.specs.ScopeMap.{ScopeMap, Live}
use Rattle.semantic.specs.Rows.{ListEntry, no_list_entry}
use Rattle.semantic.specs.declared.ListAt.{ListAt}
use Rattle.semantic.specs.declared.ScopeInfo.{ScopeInfo}
use Rattle.pass.specs.State.{Capture, State, entry_at, list_entry_of, newest}
use Rattle.pass.specs.Lists.{add_captured, captured_in, captured_vars, list_entry_id, insert_by_id, sort_by_id, list_in, name_of, keep, first_of, kept_list_entry, amend_list}
use Rattle.pass_laws.specs.Sound.{Property, Lawful, Each}
use Rattle.pass_laws.specs.Laws.Order.{insert_all}
use Rattle.pass_laws.specs.Laws.Sound.Lists.{all_elements, all_take, all_drop, all_either, Maybe}
use Rattle.pass_laws.specs.Laws.Sound.Each.{Fine, newest-held}

module _ (P : ListEntry → Type 0) where
  pub sorted_list_entries : (l : List ListEntry) → All P l → All P (sort_by_id l)
  unfolding insert_by_id sort_by_id
  sorted_list_entries [] p = tt
  sorted_list_entries (i ∷ l) p = insert_all list_entry_id P i (sort_by_id l) p.0 (sorted_list_entries l p.1)

  pub kept_list_entries : (f : ℕ → Bool) (l : List ListEntry) → All P l → All P (keep f l)
  unfolding keep
  kept_list_entries f [] p = tt
  kept_list_entries f (i ∷ l) p = all_either P (f (name_of i)) (i ∷ keep f l) (keep f l) (p.0, kept_list_entries f l p.1) (kept_list_entries f l p.1)

  pub listed_list_entries : (l : List ListEntry) (e : ListAt) → ((i : ℕ) → P (get_or l i no_list_entry)) → All P (list_in l e)
  listed_list_entries l e p = all_take P e.length (drop e.first l) (all_drop P e.first l (all_elements P no_list_entry l p))

  -- P looks at no offset
  module _
      (on : (x : ListEntry) (v : ScopeInfo) → v.id ≡ x.info.id → v.usage_count ≡ x.info.usage_count → P x → P (record { binder = x.binder; info = v }))
    where
      kept_list-entry : (now : List ListEntry) (m : ScopeMap Capture) (o : Option ListEntry) (i : ListEntry) → P i → P (kept_list_entry now m o i)
      kept_list-entry now m None i p = p
      kept_list-entry now m (Some v) i p = on i _ refl refl p

      pub amended-list_entries : (now : List ListEntry) (m : ScopeMap Capture) (seen : List ℕ) (l : List ListEntry) → All P l → All P (amend_list now m seen l)
      unfolding amend_list
      amended-list_entries now m seen [] p = tt
      amended-list_entries now m seen (i ∷ l) p = (either (member (name_of i) seen), amended-list_entries now m (name_of i ∷ seen) l p.1)
        where
          either : (b : Bool) → P (cond b i (kept_list_entry now m (first_of (name_of i) now) i))
          either true = p.0
          either false = kept_list-entry now m (first_of (name_of i) now) i p.0

-- the list of a lambda that ends

module _ {Q : Property} (lawful : Lawful Q) {F : ℕ → Type 0} where
  added-list_entries : (b : Bool) {s : State} → Each Q F s → (o : Option Ident) (l : List ListEntry) → Maybe Q.ident o → All (Fine Q F) l
      → All (Fine Q F) (add_captured b s o l)
  added-list_entries false h o l p q = q
  added-list_entries true h None l p q = q
  added-list_entries true {s} h (Some b) l p q =
      let e = entry_at s b.at in
      all_either (Fine Q F) e.captured (list_entry_of b e ∷ l) l ((lawful.made b e p, h.entry_uses b.at), q) q

  pub captured_in_lem : (ps : List ℕ) {s : State} → Each Q F s → (l : List (Live Ident)) → All (Fine Q F) (captured_in ps s l)
  unfolding captured_in
  captured_in_lem ps h [] = tt
  captured_in_lem ps {s} h (e ∷ l) =
      added-list_entries (ltb 1 e.layer && not (member e.name ps)) h (newest s e.name) (captured_in ps s l) (newest-held e.name h) (captured_in_lem ps h l)

  pub captured_list_entries : (ps : List ℕ) {s : State} → Each Q F s → All (Fine Q F) (captured_vars ps s)
  unfolding captured_vars
  captured_list_entries ps {s} h = captured_in_lem ps h s.scope.names.live
