-- What each operation does to the map that is held.
use Prim.Native.Nat.{ℕ, zero, suc, ◌+◌, ◌-◌, ◌*◌, ◌≤◌, ◌<◌}
use mathlib.Core.List.{List, ◌∷◌}
use mathlib.Core.Bool.{Bool, true, false, cond}
use mathlib.Core.Path.{◌≡◌, refl, ap, sym, subst, ◌∙◌}
use native.Mathlib.Omega.{arith}
use borrow.Author.Tests.{eqb-true, eqb-false, eq-eqb, ne_eqb, lt-ltb, le-ltb}
use lib.ListN.{length, drop}
use lib.Dec.{eqb, ltb}
use Rattle.std.specs.Prelude.{Option, None, Some}
use Rattle.scope_map.specs.ScopeMap.{Live, ScopeMap, replace_in, remove_in, below_layer, pop_layer, define, remove}
use Rattle.scope_map.specs.Rows.{values_most, row_at, link_at, live_in, written}
use Rattle.scope_map.proofs.Laws.Rows.{length_live_in, live_next, live_same, place_name, replace_live_in, remove_absent, remove_live_in}
use Rattle.scope_map.specs.Hints.{rows_length, map_length, Roomy, Enters, Leaves, Moves}
use Rattle.scope_map.specs.Held.{Sorted, Held, Becomes, Gets, place_in, Places, with_row, DefinesAt, Starts}
use Rattle.scope_map.proofs.Laws.Held.{map_of, held_is, becomes, places}
use Rattle.scope_map.specs.declared.ScopeMap.{ScopeMap as Map}
use Rattle.scope_map.specs.declared.Found.{Found}
use Rattle.scope_map.proofs.Write.{length-written, drop-written, row_written, link_written, other_written, other_link}
use Rattle.scope_map.proofs.Index.{index_same}
use Rattle.scope_map.proofs.Sorted.{sorted_below, sorted_replace, sorted_remove, place_found, place_found_lem}

-- a map as its live names are
abbrev over : Map → List (Live ℕ) → ScopeMap ℕ
over m l = record { depth = m.depth; live = l }

module _ {m : Map} {t : List ℕ} where
  pub pop_bottom : m.depth ≤ 1 → Becomes m t pop_layer m t
  pop_bottom g =
      let e : ltb 1 m.depth ≡ false = le-ltb _ _ g in
      becomes pop_layer (λ k. rw e k) refl

  pub pop_newest : {t' : List ℕ} (r : ℕ) → 1 < m.depth → Starts m t r → Leaves t r m.length t' →
      Becomes m t pop_layer (record { depth = m.depth - 1; length = r }) t'
  pop_newest {t'} r g u w =
      let e : ltb 1 m.depth ≡ true = lt-ltb _ _ g in
      becomes pop_layer
      (λ k.
      let l : live_in t' r ≡ below_layer m.depth (live_in t m.length) =
      live_same t t' r (λ j y. w.rows j (omega (arith, u.most, k.room.rows))) ∙ sym (u.below (map_of m t) k) in
      held_is (record { rows = omega (arith, u.most, k.room.rows); long = omega (arith, w.inside.long, k.room.long) })
      (w.index k.index)
      (rw e (sorted_below m.depth (live_in t m.length) k.sorted))
      (rw (e, l)))
      w.inside.rest

module _ {m : Map} {t : List ℕ} {x : ℕ} {o : Option Found} (g : Gets m t x o) where
  placed : {r : ℕ} → r ≤ m.length → r ≡ place_found m.depth m.length o → Places m t x r
  placed l e =
      places l
      (λ k.
      e
      ∙ ap (place_found m.depth m.length) (g.row (map_of m t) k)
      ∙ sym (place_found_lem m.depth x m.length (live_in t m.length) k.sorted))

  pub no_place : o ≡ None → Places m t x m.length
  no_place e = placed (omega arith) (ap (place_found m.depth m.length) (sym e))

  pub place_newest : {f : Found} → o ≡ Some f → f.layer ≡ m.depth → Places m t x f.row
  place_newest {f} e q =
      placed (omega (arith, g.below f e))
      (sym (ap (λ (b : Bool). cond b f.row m.length) (eq-eqb _ _ q)) ∙ ap (place_found m.depth m.length) (sym e))

  pub place_under : {f : Found} → o ≡ Some f → (f.layer ≡ m.depth → ⊥) → Places m t x m.length
  place_under {f} e q =
      placed (omega arith) (sym (ap (λ (b : Bool). cond b f.row m.length) (ne_eqb _ _ q)) ∙ ap (place_found m.depth m.length) (sym e))

pub with_its_row : {m m' : Map} {t t' : List ℕ} {x v p : ℕ} → DefinesAt m t x v p t' → m' ≡ with_row p m → Becomes m t (define x v) m' t'
with_its_row {m} {t = t} {t'} {x} {v} d e = subst (λ (m' : Map). Becomes m t (define x v) m' t') (sym e) d.becomes

module _ {m : Map} {t : List ℕ} {x p : ℕ} (u : Places m t x p) where
  module _ (k : Held m t (map_of m t)) where
    -- the same, by the rows
    place_row : p ≡ place_in m.depth x m.length (live_in t m.length)
    place_row = u.is (map_of m t) k ∙ ap (λ (i : ℕ). place_in m.depth x i (live_in t m.length)) (length_live_in t m.length)

    defined : (v : ℕ) (l : List (Live ℕ)) (b : Bool) → ltb p m.length ≡ b →
        l ≡ cond b (replace_in m.depth x v (live_in t m.length)) (record { name = x; layer = m.depth; value = v } ∷ live_in t m.length) →
        over m l ≡ define x v (map_of m t)
    defined v l b q z =
        ap (over m)
        (z
        ∙ ap (λ (b : Bool). cond b (replace_in m.depth x v (live_in t m.length)) (record { name = x; layer = m.depth; value = v } ∷ live_in t m.length))
        (sym q ∙ u.has (map_of m t) k))

  defines_at : {v : ℕ} {t' : List ℕ} (b : Bool) → ltb p m.length ≡ b →
      Becomes m t (define x v) (cond b m (record { depth = m.depth; length = m.length + 1 })) t' → DefinesAt m t x v p t'
  defines_at b q w = record { place = u; becomes = rw q w }

  module _ (v : ℕ) (h : Roomy (m.length + 1) t) (f : v < values_most) (g : p < m.length) where
    abbrev put : List ℕ
    put = written t p x m.depth v (link_at t p)

    inside : 3 * p + 3 ≤ length t
    inside = omega (arith, h.rows, h.long)

    after : (k : ℕ) → rows_length ≤ k → drop k put ≡ drop k t
    after k y = drop-written t p x m.depth v (link_at t p) k (omega (arith, h.rows))

    at_place : row_at put p ≡ record { name = x; layer = m.depth; value = v }
    at_place = row_written t p x m.depth v (link_at t p) f inside

    elsewhere : (k : ℕ) → (k ≡ p → ⊥) → row_at put k ≡ row_at t k
    elsewhere k y = other_written t p x m.depth v (link_at t p) k y

    links : (k : ℕ) → link_at put k ≡ link_at t k
    links k = pick (eqb k p) refl
      where
        pick : (b : Bool) → eqb k p ≡ b → link_at put k ≡ link_at t k
        pick true q =
            let z = eqb-true k p q in
            ap (link_at put) z ∙ link_written t p x m.depth v (link_at t p) f inside ∙ ap (link_at t) (sym z)
        pick false q = other_link t p x m.depth v (link_at t p) k (eqb-false k p q)

    names : Held m t (map_of m t) → (k : ℕ) → (row_at put k).name ≡ (row_at t k).name
    names y k = pick (eqb k p) refl
      where
        pick : (b : Bool) → eqb k p ≡ b → (row_at put k).name ≡ (row_at t k).name
        pick true q =
            let z = eqb-true k p q in
            ap (λ (i : ℕ). (row_at put i).name) z
            ∙ ap (λ e. e.name) at_place
            ∙ sym (place_name m.depth x m.length t m.length p (place_row y) g)
            ∙ ap (λ (i : ℕ). (row_at t i).name) (sym z)
        pick false q = ap (λ e. e.name) (elsewhere k (eqb-false k p q))

    pub define-old : {t' : List ℕ} → t' ≡ put → DefinesAt m t x v p t'
    define-old w =
        let n = m.length in
        subst (λ (t' : List ℕ). DefinesAt m t x v p t') (sym w)
        (defines_at true (lt-ltb _ _ g)
        (becomes (define x v)
        (λ k.
        let e = place_row k in
        let l : live_in put n ≡ replace_in m.depth x v (live_in t n) =
        replace_live_in m.depth x n t put v n
        (record { found = rw (← e) g; row = rw (← e) at_place; others = λ k z. elsewhere k (λ y. z (y ∙ e)) }) in
        let d = defined k v (live_in put n) true (lt-ltb _ _ g) l in
        held_is (record { rows = k.room.rows; long = omega (arith, length-written t p x m.depth v (link_at t p), h.long) })
        (index_same (λ i y. names k i) (λ i y. links i) (after rows_length (omega arith)) k.index)
        (subst (λ (s : ScopeMap ℕ). Sorted s.depth s.live) (ap (over m) (sym l) ∙ d)
        (sorted_replace m.depth x v m.depth (live_in t n) k.sorted))
        d)
        (after map_length (omega arith))))

  pub define-new : {v : ℕ} {t' : List ℕ} → Roomy (m.length + 1) t → Enters t m.length x m.depth v t' → m.length ≤ p →
      DefinesAt m t x v p t'
  unfolding Sorted
  define-new {v} {t'} h w g =
      let n = m.length in
      let new : Live ℕ = record { name = x; layer = m.depth; value = v } in
      let l : live_in t' (n + 1) ≡ new ∷ live_in t n =
      live_next t' n ∙ rw (w.row, live_same t t' n (λ i y. w.others i (omega (arith, h.rows)) (λ e. omega arith))) in
      defines_at false (le-ltb _ _ g)
      (becomes (define x v)
      (λ k.
      let d = defined k v (live_in t' (n + 1)) false (le-ltb _ _ g) l in
      held_is (record { rows = h.rows; long = omega (arith, w.inside.long, h.long) })
      (w.index k.index)
      (subst (λ (s : ScopeMap ℕ). Sorted s.depth s.live) (ap (over m) (sym l) ∙ d) (omega arith, k.sorted))
      d)
      w.inside.rest)

  pub remove-none : m.length ≤ p → Becomes m t (remove x) m t
  remove-none g =
      becomes (remove x)
      (λ k.
      let e = sym (u.has (map_of m t) k) ∙ le-ltb _ _ g in
      subst (Held m t) (ap (over m) (sym (remove_absent m.depth x (live_in t m.length) e))) k)
      refl

  pub remove-some : {t' t'' : List ℕ} → Roomy m.length t → Leaves t p m.length t' → Moves t' p (m.length - 1) t'' → p < m.length →
      Becomes m t (remove x) (record { depth = m.depth; length = m.length - 1 }) t''
  remove-some {t'} {t''} h w w' g =
      becomes (remove x)
      (λ k.
      let l = gone m.length (place_row k) g h.rows w' in
      held_is (record { rows = omega (arith, h.rows); long = omega (arith, h.long, w.inside.long, w'.inside.long) })
      (w'.index (w.index k.index))
      (sorted_remove m.depth x m.depth (live_in t m.length) k.sorted)
      (ap (over m) l))
      (w'.inside.rest ∙ w.inside.rest)
    where
      gone : (n : ℕ) → p ≡ place_in m.depth x n (live_in t n) → p < n → 3 * n ≤ rows_length → Moves t' p (n - 1) t'' →
          live_in t'' (n - 1) ≡ remove_in m.depth x (live_in t n)
      gone zero e g h y = absurd (omega arith)
      gone (suc j) e g h y =
          let z : suc j - 1 ≡ j = omega arith in
          rw z
          (remove_live_in m.depth x (suc j) t t'' j
          (record {
            found = rw (← e) g;
            under = λ k l. y.under k (omega arith) ∙ w.rows k (omega arith);
            over = λ k a b. y.over k (omega arith) (omega arith) ∙ w.rows (suc k) (omega arith);
          }))
