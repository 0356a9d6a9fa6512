-- Check 4 counts: after i records the number is that of all the children to come.
use Rattle.std.specs.Prelude.{None, Some}
use Prim.Native.Nat.{ℕ, ◌+◌, ◌-◌, ◌*◌, ◌≤◌, ◌<◌}
use mathlib.Core.List.{List, []}
use mathlib.Core.Path.{◌≡◌, refl, sym, ◌∙◌}
use native.Mathlib.Omega.{arith}
use borrow.Author.Tests.{eq-eqb, ne_eqb}
use lib.ListN.{length, drop}
use Rattle.tree.specs.Record.{records, blank, nth}
use Rattle.tree.specs.Form.{children_of}
use Rattle.scans.specs.ToCome.{Live}
use Rattle.tree.specs.Place.{Open, after, left}
use Rattle.tree.specs.Check.{check4}
use Rattle.scans.proofs.Places.{total, after_live, after-total, none_open, some_open, left-next, left_end}

pub record Counting (rs : List ℕ) (i places : ℕ) : Type 0 where
  pub s : List Open
  pub live : Live s
  pub all : places ≡ total s
  pub rest : left [] (records rs) ≡ left s (drop i (records rs))
  pub within : i ≤ length (records rs)
  pub few : places ≤ 8589934593 * i

pub count_begin : (rs : List ℕ) → Counting rs 0 0
count_begin rs = record { s = []; live = tt; all = refl; rest = refl; within = omega arith; few = omega arith }

module _ {rs : List ℕ} {i places : ℕ} (a : Counting rs i places) where
  pub count_next : i < length (records rs) → (t k : ℕ) → t ≡ places - 1 → k ≡ children_of (nth rs i).form (nth rs i).count → k ≤ 8589934593 → Counting rs (i + 1) (t + k)
  count_next h t k et ek small = record {
    s = after a.s (nth rs i);
    live = after_live a.s (nth rs i);
    all = omega (arith, after-total a.s (nth rs i) a.live, a.all, ek);
    rest = a.rest ∙ left-next (records rs) blank i a.s h;
    within = omega arith;
    few = omega (arith, a.few);
  }

  module _ (h : length (records rs) ≤ i) (N : ℕ) where
    at-end : left [] (records rs) ≡ a.s
    at-end = a.rest ∙ left_end (records rs) blank i a.s h

    pub none_missing : places ≡ 0 → None ≡ check4 N rs
    unfolding check4
    none_missing e = rw (at-end, eq-eqb (length a.s) 0 (none_open a.s a.live (sym a.all ∙ e)))

    pub some_missing : (places ≡ 0 → ⊥) → Some (length (records rs)) ≡ check4 N rs
    unfolding check4
    some_missing e = rw (at-end, ne_eqb (length a.s) 0 (λ z. omega (arith, some_open a.s (omega (arith, a.all)))))
