-- A new map is one value.
use Prim.Native.Nat.{ℕ, ◌≤◌}
use mathlib.Core.List.{List}
use mathlib.Core.Path.{◌≡◌}
use native.Mathlib.Omega.{arith}
use lib.ListN.{length, replicate, length-replicate}
use Rattle.scope_map.specs.ScopeMap.{new}
use Rattle.scope_map.specs.Hints.{map_length}
use Rattle.scope_map.specs.Held.{Held}
use Rattle.scope_map.specs.declared.ScopeMap.{ScopeMap as Map}
use Rattle.work.specs.Passes.{pass_new, in_scope, in_captures}

-- as `ScopeMap::new` gives it
abbrev New : Map → Type 0
New m = (t : List ℕ) → map_length ≤ length t → Held m t new

new_is : (m : Map) → New m → m ≡ record { depth = 1; length = 0 }
new_is m h =
    let k = h (replicate map_length 0) (omega (arith, length-replicate {A = ℕ} map_length 0)) in
    rw (k.depth, k.many)

pub pass_new_lem : (c a : ℕ) (m n : Map) → New m → New n → in_scope m (in_captures n (pass_new c a)) ≡ pass_new c a
pass_new_lem c a m n h g = rw (new_is m h, new_is n g)
