-- `push_layer`: the rows stay.
use mathlib.Core.Path.{refl}
use native.Mathlib.Omega.{arith}
use Rattle.scope_map.proofs.Sorted.{sorted_over}
use Rattle.scope_map.proofs.ScopeMap.push_layer.Goals as goal

pub returns : goal.returns
returns c = λ t. record {
  held = λ s g. record {
    depth = omega (arith, g.depth);
    many = g.many;
    room = g.room;
    live = g.live;
    index = g.index;
    sorted = sorted_over s.live (omega arith) g.sorted;
  };
  rest = refl;
}
