-- Turns of the loop that counts rows of the captured entries. No place of the code stands here.
use Prim.Native.Nat.{ℕ, suc, ◌+◌, ◌-◌, ◌≤◌, ◌<◌}
use mathlib.Core.List.{List}
use mathlib.Core.Bool.{Bool, true, false, cond, ◌&&◌}
use mathlib.Core.Path.{◌≡◌, ap, sym, ◌∙◌}
use native.Mathlib.Omega.{arith}
use lib.ListN.{length, get_or, take, drop}
use Rattle.table.specs.Layout.{layout}
use Rattle.semantic.specs.Rows.{ListEntry, no_list_entry, put_list_entry}
use Rattle.semantic.specs.Leaves.{Tells}
use Rattle.semantic.specs.declared.ListAt.{ListAt}
use Rattle.pass.specs.Lists.{heap_count}
use Rattle.pass.specs.Run.{list_entries_most}
use Rattle.amending.specs.Contract.{CountsHeap}
use Rattle.lists.specs.Given.{rows_up_to}
use Rattle.lists.specs.Laws.Sets.{rows_next, rows_none}

-- What a function of a list does at its first entry, at the row i

module _ (l : List ListEntry) (i j : ℕ) (h : i < j) (g : j ≤ length l) where
  abbrev x : ListEntry
  x = get_or l i no_list_entry

  pub heap_turn : (b : Bool) → b ≡ (x.info.captured && x.info.mutated)
      → heap_count (rows_up_to i j l) ≡ cond b (suc (heap_count (rows_up_to (i + 1) j l))) (heap_count (rows_up_to (i + 1) j l))
  unfolding heap_count
  heap_turn b e =
      ap heap_count (rows_next l i j no_list_entry h g)
      ∙ ap (λ (q : Bool). cond q (suc (heap_count (rows_up_to (i + 1) j l))) (heap_count (rows_up_to (i + 1) j l))) (sym e)

pub heap_end : (l : List ListEntry) (i : ℕ) → heap_count (rows_up_to i i l) ≡ 0
unfolding heap_count
heap_end l i = ap heap_count (rows_none l i)

-- The loop that counts

pub record Counted (C : List ℕ) (first n h k : ℕ) : Type 0 where
  pub is : (l : List ListEntry) → C ≡ layout put_list_entry l → length l ≡ list_entries_most
      → h + heap_count (rows_up_to (first + k) (first + n) l) ≡ heap_count (take n (drop first l))

pub heap_start : {C : List ℕ} {first n : ℕ} → Counted C first n 0 0
heap_start {C} {first} {n} = record {
  is = λ l e m.
      let z : first + 0 ≡ first = omega arith in
      let y : first + n - first ≡ n = omega arith in
      ap (λ (i : ℕ). 0 + heap_count (take (first + n - i) (drop i l))) z ∙ ap (λ (i : ℕ). 0 + heap_count (take i (drop first l))) y ∙ omega arith;
}

module _ {C : List ℕ} {first n h k : ℕ} (inv : Counted C first n h k) where
  pub heap_next : {b : Bool} → Tells put_list_entry no_list_entry (λ x. x.info.captured && x.info.mutated) C (first + k) b → k < n → first + n ≤ list_entries_most
      → {m : ℕ} → m ≡ h + cond b 1 0 → Counted C first n m (k + 1)
  heap_next {b} t g a {m} e = record { is = turn }
    where
      added : (b : Bool) (x : ℕ) → h + cond b (suc x) x ≡ h + cond b 1 0 + x
      added true x = omega arith
      added false x = omega arith

      turn : (l : List ListEntry) → C ≡ layout put_list_entry l → length l ≡ list_entries_most
          → m + heap_count (rows_up_to (first + (k + 1)) (first + n) l) ≡ heap_count (take n (drop first l))
      turn l p q =
          let z : first + (k + 1) ≡ first + k + 1 = omega arith in
          let r = heap_count (rows_up_to (first + k + 1) (first + n) l) in
          ap (λ (i : ℕ). m + heap_count (rows_up_to i (first + n) l)) z
          ∙ ap (λ (i : ℕ). i + r) e
          ∙ sym (added b r)
          ∙ sym (ap (λ (i : ℕ). h + i) (heap_turn l (first + k) (first + n) (omega arith) (omega arith) b (t.is l p (omega arith))))
          ∙ inv.is l p q

  pub heap_last : (e : ListAt) → k ≤ n → n ≤ k → first ≡ e.first → n ≡ e.length → CountsHeap C e h
  heap_last e m q a b = record { is = ended }
    where
      ended : (l : List ListEntry) → C ≡ layout put_list_entry l → length l ≡ list_entries_most → h ≡ heap_count (take e.length (drop e.first l))
      ended l p d =
          let z : k ≡ n = omega arith in
          let y : heap_count (rows_up_to (first + k) (first + n) l) ≡ 0 =
          ap (λ (i : ℕ). heap_count (rows_up_to (first + i) (first + n) l)) z ∙ heap_end l (first + n) in
          let x : heap_count (take n (drop first l)) ≡ heap_count (take e.length (drop e.first l)) = rw (a, b) in
          omega (arith, inv.is l p d)
