-- A struct and a table hold at most one map, `map_of`. What an operation does to that one, it does to every map held.
use Rattle.std.specs.Prelude.{ℕ, ◌-◌, ◌≤◌, ◌<◌, List, ◌≡◌, refl, length, drop, ltb, Option, Some, option_map}
use Rattle.std.proofs.Common.{ap, sym, subst, ◌∙◌, arith}
use Rattle.scope_map.specs.ScopeMap.{ScopeMap, new, below_layer, has_at_top, newest_layer}
use Rattle.scope_map.proofs.Laws.Size.{below-size}
use Rattle.scope_map.specs.Rows.{live_in, rows_from}
use Rattle.scope_map.proofs.Laws.Rows.{length_live_in, found_get, place_has, layer_live_in}
use Rattle.scope_map.specs.Hints.{map_length, Roomy, Indexed}
use Rattle.scope_map.specs.Held.{Sorted, Held, Becomes, found_in, entry_of, Gets, place_in, place_of, Places, Starts}
use Rattle.scope_map.specs.declared.ScopeMap.{ScopeMap as Map}
use Rattle.scope_map.specs.declared.Found.{Found}

abbrev pub map_of : Map → List ℕ → ScopeMap ℕ
map_of m t = record { depth = m.depth; live = live_in t m.length }

pub held_is : {m : Map} {t : List ℕ} {s : ScopeMap ℕ} → Roomy m.length t → Indexed m.length t → Sorted s.depth s.live → map_of m t ≡ s → Held m t s
held_is {m} {t} r i o e = record {
  depth = ap (λ (s : ScopeMap ℕ). s.depth) e;
  many = sym (length_live_in t m.length) ∙ ap (λ (s : ScopeMap ℕ). length s.live) e;
  room = r;
  live = ap (λ (s : ScopeMap ℕ). s.live) e;
  index = i;
  sorted = o;
}

pub map_is : {m : Map} {t : List ℕ} {s : ScopeMap ℕ} → Held m t s → map_of m t ≡ s
map_is h = rw (h.depth, h.live)

every_map : {m : Map} {t : List ℕ} (P : ScopeMap ℕ → Type 0) → (Held m t (map_of m t) → P (map_of m t)) → (s : ScopeMap ℕ) → Held m t s → P s
every_map {m} {t} P h s g = subst (λ (s : ScopeMap ℕ). Held m t s → P s) (map_is g) h g

-- no names, in any table that is long enough
pub held_new : (t : List ℕ) → map_length ≤ length t → Held (record { depth = 1; length = 0 }) t new
unfolding live_in Sorted
held_new t h =
    held_is (record { rows = omega arith; long = h })
    (record { hinted = λ x g k a b. absurd (omega arith); linked = λ i g. absurd (omega arith) })
    tt refl

pub becomes : {m : Map} {t : List ℕ} {m' : Map} {t' : List ℕ} (f : ScopeMap ℕ → ScopeMap ℕ) → (Held m t (map_of m t) → Held m' t' (f (map_of m t))) →
    drop map_length t' ≡ drop map_length t → Becomes m t f m' t'
becomes {m' = m'} {t'} f h r = record { held = every_map (λ s. Held m' t' (f s)) h; rest = r }

pub gets : {m : Map} {t : List ℕ} {x : ℕ} {r : Option Found} → ((f : Found) → r ≡ Some f → f.row < m.length) →
    (Held m t (map_of m t) → r ≡ found_in (live_in t m.length) x) → Gets m t x r
gets {m} {t} {x} {r} l h =
    let row : (s : ScopeMap ℕ) → Held m t s → r ≡ found_in s.live x = every_map (λ s. r ≡ found_in s.live x) h in
    record { is = λ s g. ap (option_map (entry_of x)) (row s g) ∙ found_get s.live x; row = row; below = l }

pub places : {m : Map} {t : List ℕ} {x r : ℕ} → r ≤ m.length → (Held m t (map_of m t) → r ≡ place_in m.depth x m.length (live_in t m.length)) → Places m t x r
places {m} {t} {x} {r} l h =
    let n = m.length in
    let z = length_live_in t n in
    record {
      is = every_map (λ s. r ≡ place_of s x) (λ g. h g ∙ ap (λ (k : ℕ). place_in m.depth x k (live_in t n)) (sym z));
      has = every_map (λ s. ltb r n ≡ has_at_top s x) (λ g. ap (λ (k : ℕ). ltb k n) (h g) ∙ place_has m.depth x n (live_in t n) (omega arith));
      most = l;
    }

pub starts : {m : Map} {t : List ℕ} {r : ℕ} → below_layer m.depth (live_in t m.length) ≡ live_in t r → Starts m t r
starts {m} {t} {r} e =
    let n = m.length in
    let z : length (below_layer m.depth (live_in t n)) ≡ r = ap length e ∙ length_live_in t r in
    record {
      is = λ s g. ap newest_layer (sym (map_is g)) ∙ layer_live_in t m.depth n ∙ ap (λ (i : ℕ). rows_from t i (n - i)) z;
      below = λ s g. ap (λ (s : ScopeMap ℕ). below_layer s.depth s.live) (sym (map_is g)) ∙ e;
      most = omega (arith, below-size m.depth (live_in t n), length_live_in t n);
    }
