-- Whether an entry of a list is mutated, row after row. No place of the code stands here.
use Prim.Native.Nat.{ℕ, ◌+◌, ◌-◌, ◌≤◌, ◌<◌}
use mathlib.Core.List.{List}
use mathlib.Core.Bool.{Bool, true, false, cond}
use mathlib.Core.Path.{◌≡◌, ap, sym, ◌∙◌}
use native.Mathlib.Omega.{arith}
use borrow.Author.Tests.{lt-ltb, le-ltb}
use Rattle.semantic.specs.declared.ListAt.{ListAt}
use Rattle.semantic.specs.declared.ScopeInfo.{ScopeInfo}
use Rattle.pass.specs.State.{State}
use Rattle.work.specs.Tied.{raw, Tied}
use Rattle.work.specs.declared.Pass.{Pass}
use Rattle.lists.specs.declared.rows.ListEntry.{ListEntry as Coded}
use Rattle.lists.specs.Contract.{LoadsListEntry}
use Rattle.amending.specs.Numbered.{due, TellsMutated}
use Rattle.amending.proofs.NumberCase.{first-due}

-- none of the first k rows is
pub record Passed (C w : List ℕ) (first n k : ℕ) : Type 0 where
  pub is : (p : Pass) (F A : List ℕ) (s : State) → Tied (raw p F C A w) s → due true (n - k) (first + k) s ≡ due true n first s

module _ {C w : List ℕ} {first n : ℕ} where
  pub passed_start : Passed C w first n 0
  passed_start = let y : n - 0 ≡ n = omega arith in let z : first + 0 ≡ first = omega arith in record { is = λ p F A s t. rw (y, z) }

  module _ {k : ℕ} (m : Passed C w first n k) where
    -- the next one
    module _ (h : k < n) {x : Coded} (l : LoadsListEntry C w (first + k) x) {b : Bool} (e : x.info.mutated ≡ b) where
      next-due : (p : Pass) (F A : List ℕ) (s : State) → Tied (raw p F C A w) s → due true n first s ≡ cond b 1 0 + due true (n - (k + 1)) (first + (k + 1)) s
      next-due p F A s t =
          sym (m.is p F A s t)
          ∙ first-due true first s h
          ∙ ap (λ (c : Bool). cond c 1 0 + due true (n - (k + 1)) (first + (k + 1)) s) (sym (ap (λ (v : ScopeInfo). v.mutated) (l.is p F A s t).info) ∙ e)

    pub passed-next : k < n → {x : Coded} → LoadsListEntry C w (first + k) x → x.info.mutated ≡ false → Passed C w first n (k + 1)
    passed-next h l e = record { is = λ p F A s t. omega (arith, next-due h l e p F A s t) }

    module _ (e : ListAt) (a : first ≡ e.first) (b : n ≡ e.length) where
      pub passed_found : k < n → {x : Coded} → LoadsListEntry C w (first + k) x → x.info.mutated ≡ true → TellsMutated C w e true
      passed_found h l y = record {
        is = λ p F A s t.
            let whole : due true n first s ≡ due true e.length e.first s = rw (a, b) in
            sym (lt-ltb 0 (due true e.length e.first s) (omega (arith, whole, next-due h l y p F A s t)));
      }

      pub passed-all : n ≤ k → TellsMutated C w e false
      unfolding due
      passed-all h = record {
        is = λ p F A s t.
            let z : n - k ≡ 0 = omega arith in
            let none : due true (n - k) (first + k) s ≡ 0 = ap (λ (j : ℕ). due true j (first + k) s) z in
            let whole : due true n first s ≡ due true e.length e.first s = rw (a, b) in
            sym (le-ltb 0 (due true e.length e.first s) (omega (arith, whole, m.is p F A s t, none)));
      }
