-- `newest_layer`: what lies below the layer is the same among the first i rows as among all.
use native.Mathlib.Omega.{arith}
use Prim.Native.Nat.{ℕ, ◌+◌, ◌-◌, ◌<◌}
use mathlib.Core.Path.{◌≡◌, refl, ap, sym, ◌∙◌}
use mathlib.Core.List.{List, ◌∷◌}
use mathlib.Core.Bool.{Bool, true, false, cond, not}
use borrow.Author.Tests.{eq-eqb, ne_eqb}
use lib.Dec.{eqb}
use Rattle.scope_map.specs.ScopeMap.{Live, below_layer}
use Rattle.scope_map.specs.Rows.{row_at, live_in}
use Rattle.scope_map.proofs.Laws.Rows.{live_next}
use Rattle.scope_map.proofs.Laws.Held.{starts}
use Rattle.scope_map.proofs.Search.{Search, hits, misses, ends}
use Rattle.scope_map.proofs.ScopeMap.newest_layer.Goals as goal

find : (d : ℕ) → Search (below_layer d)
unfolding below_layer
find d = record { test = λ e. not (eqb e.layer d); hit = λ e l. e ∷ l; step = λ e l. pick e l (eqb e.layer d) }
  where
    pick : (e : Live ℕ) (l : List (Live ℕ)) (b : Bool) → cond b (below_layer d l) (e ∷ l) ≡ cond (not b) (e ∷ l) (below_layer d l)
    pick e l true = refl
    pick e l false = refl

found : (t : List ℕ) (d i : ℕ) → 0 < i → ((row_at t (i - 1)).layer ≡ d → ⊥) → below_layer d (live_in t i) ≡ live_in t (i - 1 + 1)
unfolding find
found t d i h e = hits (find d) t i h (ap not (ne_eqb _ _ e)) ∙ sym (live_next t (i - 1))

pub returns-then-t-i : goal.returns-then-t-i
returns-then-t-i c = starts (sym c.loop-i.invariant.1 ∙ found _ _ _ c.loop-i-test.true c.if-t-i.true)

pub loop-i-preserved : goal.loop-i-preserved
unfolding find
loop-i-preserved c = (omega arith, sym (misses (find _) _ _ c.loop-i-test.true (ap not (eq-eqb _ _ c.if-t-i.false))) ∙ c.loop-i.invariant.1)

pub returns : goal.returns
unfolding below_layer live_in
returns c = starts (sym c.loop-i.invariant.1 ∙ ends (find _) _ _ c.loop-i-test.false)
