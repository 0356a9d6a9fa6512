-- `replaced`: the map held after each step.
use native.Mathlib.Omega.{arith}
use Rattle.scope_map.specs.ScopeMap.{has_in, replace_in}
use Rattle.scope_map_main.specs.States.{two_layers}
use Rattle.scope_map_main.proofs.replaced.Goals as goal

pub define-a-requires : goal.define-a-requires
unfolding has_in replace_in
define-a-requires c = (record { rows = omega (arith, c.requires.many); long = c.requires.room.long }, omega arith)

pub define-requires : goal.define-requires
unfolding has_in replace_in
define-requires c = let h = c.define-a.ensures.held two_layers c.requires in (record { rows = omega (arith, h.many); long = h.room.long }, omega arith)

pub returns : goal.returns
returns c = c.define.ensures.held _ (c.define-a.ensures.held two_layers c.requires)
