-- `get`: the search among the first i rows finds what the search among all does, since the rows from the bound on do not have the name.
use native.Mathlib.Omega.{arith}
use Prim.Native.Nat.{ℕ, ◌-◌, ◌<◌}
use Rattle.std.specs.Prelude.{Some}
use mathlib.Core.Path.{◌≡◌, refl, ap, sym, subst, ◌∙◌}
use mathlib.Core.List.{List}
use borrow.Author.Tests.{eq-eqb, ne_eqb}
use lib.ListN.{length}
use lib.Dec.{eqb}
use Rattle.scope_map.specs.Rows.{row_at, live_in}
use Rattle.scope_map.proofs.Laws.Rows.{length_live_in}
use Rattle.scope_map.specs.Hints.{Indexed, Bounds}
use Rattle.scope_map.specs.Held.{found_at, found_in}
use Rattle.scope_map.specs.declared.Found.{Found}
use Rattle.scope_map.proofs.Laws.Held.{gets}
use Rattle.scope_map.proofs.Search.{Search, hits, misses, ends, from_bound}
use Rattle.scope_map.proofs.ScopeMap.get.Goals as goal

find : (x : ℕ) → Search (λ l. found_in l x)
unfolding found_in
find x = record { test = λ e. eqb e.name x; hit = λ e l. Some (found_at (length l) e); step = λ e l. refl }

-- the row is the number of older ones
found : (t : List ℕ) (x i : ℕ) → 0 < i → (row_at t (i - 1)).name ≡ x → found_in (live_in t i) x ≡ Some (found_at (i - 1) (row_at t (i - 1)))
unfolding find
found t x i h e = hits (find x) t i h (eq-eqb _ _ e) ∙ ap (λ (k : ℕ). Some (found_at k (row_at t (i - 1)))) (length_live_in t (i - 1))

row_below : {n : ℕ} {g : Found} → g.row < n → (f : Found) → Some g ≡ Some f → f.row < n
row_below {n} {g} h f e = let z : g ≡ f = cc in subst (λ (k : Found). k.row < n) z h

among-all : {n : ℕ} {t : List ℕ} {x r : ℕ} → Bounds n t x r → Indexed n t → found_in (live_in t r) x ≡ found_in (live_in t n) x
unfolding find
among-all {x = x} b i = from_bound (find x) _ (λ e h. ne_eqb _ _ h) b i

pub returns-then-t-i : goal.returns-then-t-i
returns-then-t-i c =
    let l = c in
    gets (row_below (omega (arith, l.bound-i.ensures.most))) (λ k. sym (found _ _ _ l.loop-i-test.true c.if-t-i.true) ∙ l.loop-i.invariant.1 ∙ among-all l.bound-i.ensures k.index)

pub loop-i-preserved : goal.loop-i-preserved
unfolding find
loop-i-preserved c =
    let l = c in
    (omega arith, sym (misses (find _) _ _ l.loop-i-test.true (ne_eqb _ _ c.if-t-i.false)) ∙ l.loop-i.invariant.1)

pub returns : goal.returns
unfolding found_in
returns c = gets (λ f e. cc) (λ k. sym (ends (find _) _ _ c.loop-i-test.false) ∙ c.loop-i.invariant.1 ∙ among-all c.bound-i.ensures k.index)
