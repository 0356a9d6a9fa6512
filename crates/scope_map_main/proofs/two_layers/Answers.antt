-- `two_layers`: the map held after each step.
use native.Mathlib.Omega.{arith}
use Prim.Native.Nat.{ℕ}
use mathlib.Core.List.{List}
use Rattle.scope_map.specs.ScopeMap.{has_in, replace_in, new, push_layer, define}
use Rattle.scope_map.specs.Held.{Held, Becomes}
use Rattle.scope_map.specs.declared.ScopeMap.{ScopeMap as Map}
use Rattle.scope_map_main.proofs.two_layers.Goals as goal

pushed : {a b c : Map} {t t' : List ℕ} → Held a t new → Becomes a t (define 7 70) b t' →
    ((t : List ℕ) → Becomes b t push_layer c t) → Held c t' (push_layer (define 7 70 new))
pushed n d p = (p _).held _ (d.held new n)

pub define-b-requires : goal.define-b-requires
define-b-requires c =
    let h = c.new-a.ensures c.args.t.now (omega arith) in
    (record { rows = omega (arith, h.many); long = h.room.long }, omega arith)

pub push_layer-c-requires : goal.push_layer-c-requires
push_layer-c-requires c = omega (arith, (c.define-b.ensures.held new (c.new-a.ensures _ (omega arith))).depth)

pub define-requires : goal.define-requires
unfolding has_in replace_in
define-requires c =
    let b = c in
    let h = pushed (b.new-a.ensures _ (omega arith)) b.define-b.ensures c.push_layer-c.ensures in
    (record { rows = omega (arith, h.many); long = h.room.long }, omega arith)

pub returns : goal.returns
returns c =
    let b = c in
    c.define.ensures.held _ (pushed (b.new-a.ensures _ (omega arith)) b.define-b.ensures c.push_layer-c.ensures)
