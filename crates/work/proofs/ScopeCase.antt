-- The live names, against the map of the code.
use Rattle.std.specs.Prelude.{Option, None, Some, option_map}
use Prim.Native.Nat.{ℕ, suc, ◌+◌, ◌-◌, ◌≤◌, ◌<◌}
use mathlib.Core.List.{List, [], ◌∷◌, ◌++◌, reverse, reverse-cons, reverse-append}
use mathlib.Core.Bool.{Bool, true, false, cond, ◌&&◌}
use mathlib.Core.Path.{◌≡◌, refl, ap, sym, subst, ◌∙◌}
use native.Mathlib.Omega.{arith}
use lib.ListN.{length, get_or, take, drop}
use lib.Seq.{drop-cons, take-suc}
use lib.Dec.{eqb, ltb}
use Rattle.table.specs.Region.{region, replaced}
use Rattle.table.specs.Laws.Region.{Elsewhere, replaced-region, replaced_elsewhere}
use Rattle.tree.specs.Record.{Record, records, nth}
use Rattle.tree.specs.Tree.{Ident}
use Rattle.scope_map.specs.ScopeMap.{ScopeMap, Live, layer_in, below_layer, get, has_at_top, define}
use Rattle.scope_map.proofs.Laws.Size.{below-size}
use Rattle.scope_map.specs.Map.{map_value, map_values}
use Rattle.scope_map.proofs.Laws.Map.{map-length, map_get_d, map_get, map-has_at_top, map-define, map-below_layer}
use Rattle.scope_map.specs.Rows.{row_at, live_of}
use Rattle.scope_map.proofs.Laws.Rows.{length_live_in, live_row}
use Rattle.scope_map.specs.Hints.{Roomy}
use Rattle.scope_map.specs.Held.{entry_of, Gets, Places, DefinesAt, Starts}
use Rattle.scope_map.specs.Held as map
use Rattle.scope_map.specs.declared.ScopeMap.{ScopeMap as Map}
use Rattle.scope_map.specs.declared.Found.{Found}
use Rattle.scope_map.specs.declared.Row.{Row}
use Rattle.semantic.specs.Information.{NONE}
use Rattle.semantic.specs.Rows.{no_list_entry}
use Rattle.pass.specs.State.{State, with_names, id_of, binder_in, newest, depth}
use Rattle.work.specs.Coded.{record_in}
use Rattle.work.specs.Works.{scope_length, record_at, Works, Spacious}
use Rattle.work.specs.Laws.Works.{part_length, names-many, depth_is}
use Rattle.work.specs.Passes.{in_scope}
use Rattle.work.specs.Leaves.{Becomes, Tells}
use Rattle.work.specs.Scope.{BindersKnown, KnownHere, TellsId, is_live_row, Defines, since, LiveRow, TellsLive, StartsLayer}
use Rattle.work.specs.Laws.Scope.{KnownAt, newest-known}
use Rattle.work.specs.declared.Pass.{Pass}
use Rattle.work.proofs.Changes.{names_changed}

-- What a call on the map asks

module _ {p : Pass} {w : List ℕ} (h : Spacious p w) where
  pub names-length : scope_length ≡ length (region w 0 scope_length)
  names-length = sym (part_length w h.long 0 scope_length (omega arith))

  pub names_room : Roomy p.scope.length (region w 0 scope_length)
  names_room = record { rows = h.names; long = omega (arith, names-length) }

-- What is told

value_told : (x : ℕ) (o : Option Found) (q : Option (Live Ident)) → option_map (entry_of x) o ≡ option_map (map_value record_at) q
    → option_map (λ (f : Found). f.value) o ≡ record_in (binder_in q)
value_told x None None e = refl
value_told x (Some f) (Some l) e = let z : entry_of x f ≡ map_value record_at l = cc in ap (λ (e : Live ℕ). Some e.value) z
value_told x None (Some l) e = cc
value_told x (Some f) None e = cc

pub newest_told : {p : Pass} {w : List ℕ} {x : ℕ} {o : Option Found} {r : Option ℕ} → Gets p.scope (region w 0 scope_length) x o
    → r ≡ option_map (λ (f : Found). f.value) o → Tells p w (λ s. record_in (newest s x)) r
newest_told {x = x} {o} g e = record {
  is = λ s k.
      let m = s.scope.names in
      e ∙ value_told x o (get m x) (g.is (map_values record_at m) k.names ∙ map_get record_at m x);
}

live_told-row : {p : Pass} {w : List ℕ} {s : State} {x r : ℕ} → Places p.scope (region w 0 scope_length) x r → Works p w s
    → is_live_row r p ≡ ltb 1 (depth s) && has_at_top s.scope.names x
live_told-row {s = s} {x} u k = rw (depth_is k, u.has (map_values record_at s.scope.names) k.names ∙ map-has_at_top record_at s.scope.names x)

id_none : (o : Option Ident) → None ≡ record_in o → NONE ≡ id_of o
id_none None q = refl
id_none (Some x) q = cc

module _ {rs : List ℕ} {p : Pass} {w : List ℕ} (x : ℕ) {o : Option ℕ} (t : Tells p w (λ s. record_in (newest s x)) o) where
  pub no_id : o ≡ None → TellsId rs p w x NONE
  no_id e = record { is = λ s k a. id_none (newest s x) (sym e ∙ t.is s k) }

  known_at : {i : ℕ} → o ≡ Some i → (s : State) → Works p w s → BindersKnown rs s → KnownAt rs (newest s x) i
  known_at {i} e s k a = newest-known rs s x i a (sym e ∙ t.is s k)

  pub id_inside : {i : ℕ} → o ≡ Some i → KnownHere rs p w → i < length (records rs)
  id_inside {i} e h =
      let y = known_at e h.s h.works h.binders in
      omega (arith, y.at, y.known.inside)

  pub the_id : {i r : ℕ} → o ≡ Some i → r ≡ (nth rs i).id → TellsId rs p w x r
  the_id e q = record {
    is = λ s k a.
        let y = known_at e s k a in
        q ∙ ap (λ (j : ℕ). (nth rs j).id) (sym y.at) ∙ ap (λ (r : Record). r.id) y.known.is ∙ ap id_of (sym y.is);
  }

-- A change of the names

pub names_become : {p : Pass} {w w' : List ℕ} {m : Map} {f : ScopeMap ℕ → ScopeMap ℕ} (g : ScopeMap Ident → ScopeMap Ident)
    → ((l : ScopeMap Ident) → map_values record_at (g l) ≡ f (map_values record_at l)) → Elsewhere 0 scope_length w w'
    → map.Becomes p.scope (region w 0 scope_length) f m (region w' 0 scope_length) → Becomes p w (λ s. with_names (g s.scope.names) s) (in_scope m p) w'
names_become {m = m} g c e b = record {
  is = λ s k. names_changed k m (g s.scope.names) e (rw (c s.scope.names) (b.held (map_values record_at s.scope.names) k.names));
}

module _ {p : Pass} {w ys : List ℕ} {m : Map} (h : Spacious p w) (l : length ys ≡ length (region w 0 scope_length)) where
  -- in the first numbers of the table, which come back as ys
  pub names-replaced : {f : ScopeMap ℕ → ScopeMap ℕ} (g : ScopeMap Ident → ScopeMap Ident)
      → ((l : ScopeMap Ident) → map_values record_at (g l) ≡ f (map_values record_at l))
      → map.Becomes p.scope (region w 0 scope_length) f m ys
      → Becomes p w (λ s. with_names (g s.scope.names) s) (in_scope m p) (replaced w 0 scope_length ys)
  names-replaced {f} g c b =
      let i : 0 + scope_length ≤ length w = omega (arith, h.long) in
      let e = l ∙ sym (names-length h) in
      names_become g c (replaced_elsewhere w 0 scope_length i ys e)
      (subst (λ (t : List ℕ). map.Becomes p.scope (region w 0 scope_length) f m t) (sym (replaced-region w 0 scope_length i ys e)) b)

pub defines : {p : Pass} {w ys : List ℕ} {x v at r : ℕ} → Spacious p w → length ys ≡ length (region w 0 scope_length) → v ≡ at
    → DefinesAt p.scope (region w 0 scope_length) x v r ys → Defines p w x at r (replaced w 0 scope_length ys)
defines {x = x} h l e d = record {
  is = λ s y q k.
      (names-replaced h l (define x y) (λ l. map-define record_at x y l ∙ ap (λ (v : ℕ). define x v (map_values record_at l)) (q ∙ sym e)) d.becomes).is s k;
  live = λ s k. live_told-row d.place k;
}

-- The rows of the newest layer

layer_since : (d : ℕ) (l : List (Live Ident)) → layer_in d l ≡ since (length (below_layer d l)) l
unfolding layer_in below_layer
layer_since d [] = refl
layer_since d (e ∷ l) = pick (eqb e.layer d) (layer_since d l)
  where
    pick : (b : Bool) → layer_in d l ≡ since (length (below_layer d l)) l →
        cond b (layer_in d l ++ (e ∷ [])) [] ≡ since (length (cond b (below_layer d l) (e ∷ l))) (e ∷ l)
    pick true r =
        let z : suc (length l) - length (below_layer d l) ≡ suc (length l - length (below_layer d l)) = omega (arith, below-size d l) in
        rw (z, r) (sym (reverse-cons e (take (length l - length (below_layer d l)) l)))
    pick false r = let z : suc (length l) - suc (length l) ≡ 0 = omega arith in rw z

module _ {p : Pass} {w : List ℕ} where
  pub layer_starts : {r : ℕ} → Starts p.scope (region w 0 scope_length) r → StartsLayer p w r
  layer_starts {r} t = record {
    is = λ s k.
        let m = s.scope.names in
        let z : r ≡ length (below_layer m.depth m.live) =
        sym (length_live_in (region w 0 scope_length) r)
        ∙ ap length (sym (t.below (map_values record_at m) k.names))
        ∙ ap length (sym (map-below_layer record_at m.depth m.live))
        ∙ map-length record_at (below_layer m.depth m.live) in
        rw z (layer_since m.depth m.live);
    rows = t;
  }

-- The live name in a row

anyone : Live Ident
anyone = record { name = 0; layer = 0; value = no_list_entry.binder }

live_at_lem : (l : List (Live Ident)) (i : ℕ) (r : Row) → i < length l → live_of r ≡ map_value record_at (get_or l (length l - suc i) anyone) → LiveRow l i r
live_at_lem l i r h e =
    let j = length l - suc i in
    let z : suc j ≡ length l - i = omega arith in
    let a = get_or l j anyone in
    record {
      live = a;
      name = ap (λ (x : Live ℕ). x.name) e;
      layer = ap (λ (x : Live ℕ). x.layer) e;
      value = ap (λ (x : Live ℕ). x.value) e;
      up = drop-cons l j anyone (omega arith) ∙ ap (λ (k : ℕ). a ∷ drop k l) z;
      on = ap (λ (k : ℕ). reverse (take k l)) (sym z) ∙ ap reverse (take-suc l j anyone (omega arith)) ∙ reverse-append (take j l) (a ∷ []);
    }

module _ {p : Pass} {w : List ℕ} where
  pub live_told : {i : ℕ} {r : Row} → i < p.scope.length → live_of r ≡ row_at (region w 0 scope_length) i → TellsLive p w i r
  unfolding anyone
  live_told {i} {r} h e = record {
    is = λ s k.
        let l = s.scope.names.live in
        let n = p.scope.length in
        let q : n ≡ length l = names-many k in
        let j = n - suc i in
        let z : i ≡ n - suc j = omega arith in
        live_at_lem l i r (omega arith)
        (e
        ∙ ap (row_at (region w 0 scope_length)) z
        ∙ sym (live_row (region w 0 scope_length) n j (map_value record_at anyone) (omega arith))
        ∙ ap (λ (m : List (Live ℕ)). get_or m j (map_value record_at anyone)) k.names.live
        ∙ map_get_d record_at l j anyone
        ∙ ap (λ (c : ℕ). map_value record_at (get_or l (c - suc i) anyone)) q);
  }
