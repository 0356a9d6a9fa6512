-- A loop over the records that looks for the first where a test holds: it has come to record i, and what is to be found is found from there on.
use Rattle.std.specs.Prelude.{Option, None, Some, MatchOption}
use Prim.Native.Nat.{ℕ, zero, suc, ◌+◌, ◌≤◌, ◌<◌}
use mathlib.Core.List.{List}
use mathlib.Core.Bool.{Bool, true, false, not}
use mathlib.Core.Path.{◌≡◌, sym, subst, ◌∙◌}
use native.Mathlib.Omega.{arith}
use lib.ListN.{length, drop}
use Rattle.tree.specs.Record.{Record, records, blank, nth}
use Rattle.tree.specs.Form.{fits}
use Rattle.tree.specs.First.{on, first}
use Rattle.scans.proofs.First.{on-zero, from_hit, from_next, from_none, from_end}

-- what check 3 looks for
abbrev pub outside : ℕ → Record → Bool
outside N r = not (fits N r)

module _ (test : Record → Bool) (rs : List ℕ) where
  pub record At (i : ℕ) : Type 0 where
    pub within : i ≤ length (records rs)
    pub rest : first test (records rs) ≡ on i (first test (drop i (records rs)))

  pub begin : At 0
  begin = record { within = omega arith; rest = sym (on-zero _) }

  pub hit : {i : ℕ} → At i → i < length (records rs) → test (nth rs i) ≡ true → Some i ≡ first test (records rs)
  hit {i} a h t = sym (a.rest ∙ from_hit test (records rs) blank i h t)

  pub next : {i : ℕ} → At i → i < length (records rs) → test (nth rs i) ≡ false → At (i + 1)
  next {i} a h t = record { within = omega arith; rest = a.rest ∙ from_next test (records rs) blank i h t }

  pub fails : {i : ℕ} → At i → i < length (records rs) → first test (records rs) ≡ None → test (nth rs i) ≡ false
  fails {i} a h e = from_none test (records rs) blank i h (sym a.rest ∙ e)

  pub end : {i : ℕ} → At i → length (records rs) ≤ i → None ≡ first test (records rs)
  end {i} a h = sym (a.rest ∙ from_end test (records rs) blank i h)

  -- none before record j passes the test
  module _ (j : ℕ) (none : (k : ℕ) → 0 ≤ k → k < j → test (nth rs k) ≡ false) where
    upto : (i : ℕ) → i ≤ j → j ≤ length (records rs) → At i
    upto zero h g = begin
    upto (suc i) h g = subst At {x = i + 1} {y = suc i} (omega arith) (next (upto i (omega arith) g) (omega arith) (none i (omega arith) (omega arith)))

  -- what `find` answers over the numbers of all records
  pub found : {n : ℕ} → n ≡ length (records rs) → (o : Option ℕ)
      → MatchOption o ((k : ℕ) → 0 ≤ k → k < n → test (nth rs k) ≡ false) (λ i. (0 ≤ i) × (i < n) × (test (nth rs i) ≡ true) × ((k : ℕ) → 0 ≤ k → k < i → test (nth rs k) ≡ false))
      → o ≡ first test (records rs)
  found {n} e None h = end (upto n h n (omega arith) (omega arith)) (omega arith)
  found {n} e (Some i) h = hit (upto i h.3 i (omega arith) (omega (arith, h.1))) (omega (arith, h.1)) h.2
