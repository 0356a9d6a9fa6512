-- `mark_uses`: for each name the marks have, what `uses_name` would find; a mark once set stays.
use Prim.Native.Nat.{ℕ, ◌+◌, ◌-◌, ◌≤◌, ◌<◌}
use mathlib.Core.List.{List}
use mathlib.Core.Bool.{Bool, true, false, false≢true, ◌||◌}
use mathlib.Core.Path.{◌≡◌, refl, sym, subst, ◌∙◌}
use native.Mathlib.Omega.{arith}
use borrow.Author.Tests.{eqb-true, eqb-false}
use lib.ListN.{length}
use lib.Dec.{eqb}
use Rattle.tree.specs.Record.{nth}
use Rattle.walk.specs.Bound.{is_named, bound_by}
use Rattle.walk.specs.Contract.{SomeBody, UsesName}
use Rattle.walk.specs.Marks.{is_marked, Unmarked, MarksNamed, MarksRecord, MarksUses}
use Rattle.walk.proofs.UsedNames.{Passed, start, found, next, pass, end}

-- The loop

module _ (rs : List ℕ) (first stop : ℕ) where
  -- a name that is marked is used; one that is not is not found yet
  pub record Sought (d i : ℕ) (m : List ℕ) : Type 0 where
    pub yes : (x : ℕ) → x < length m → is_marked m x ≡ true → UsesName rs first stop x true
    pub no : (x : ℕ) → x < length m → is_marked m x ≡ false → Passed x rs first stop d i

  pub marks-start : {m : List ℕ} → Unmarked m → SomeBody rs first stop → Sought 0 first m
  marks-start u s = record { yes = λ x h e. absurd (false≢true (sym (u x) ∙ e)); no = λ x h e. start x rs first stop s }

  module _ {d i : ℕ} {m : List ℕ} (a : Sought d i m) (h : i < stop) where
    -- no name is due
    marks-next : d ≡ 0 → {m' : List ℕ} → MarksNamed (nth rs i) m m' → length m' ≡ length m → {k : ℕ} → k ≡ bound_by (nth rs i) → Sought k (i + 1) m'
    marks-next z {m'} f g {k} e = record {
      yes = λ x l q. yes x (omega arith) (is_marked m x) refl (is_named x (nth rs i)) refl (sym (f.is x (omega arith)) ∙ q);
      no = λ x l q. no x (omega arith) (is_marked m x) refl (is_named x (nth rs i)) refl (sym (f.is x (omega arith)) ∙ q);
    }
      where
        yes : (x : ℕ) → x < length m → (b : Bool) → is_marked m x ≡ b → (t : Bool) → is_named x (nth rs i) ≡ t → (t || b) ≡ true → UsesName rs first stop x true
        yes x l true eb t et q = a.yes x l eb
        yes x l false eb true et q = found x rs first stop (a.no x l eb) h z (sym et) refl
        yes x l false eb false et q = absurd (false≢true q)

        no : (x : ℕ) → x < length m → (b : Bool) → is_marked m x ≡ b → (t : Bool) → is_named x (nth rs i) ≡ t → (t || b) ≡ false → Passed x rs first stop k (i + 1)
        no x l b eb true et q = absurd (false≢true (sym q))
        no x l true eb false et q = absurd (false≢true (sym q))
        no x l false eb false et q = next x rs first stop (a.no x l eb) h z (sym et) refl e

    -- one is
    marks_pass : 0 < d → {k : ℕ} → k ≡ d - 1 → Sought k (i + 1) m
    marks_pass g e = record { yes = a.yes; no = λ x l q. pass x rs first stop (a.no x l q) h g e }

    pub marks_record : {k : ℕ} {m' : List ℕ} → MarksRecord (nth rs i) d m k m' → length m' ≡ length m → Sought k (i + 1) m'
    marks_record {k} {m'} f g = go (eqb d 0) refl
      where
        go : (q : Bool) → eqb d 0 ≡ q → Sought k (i + 1) m'
        go true e = let z : d ≡ 0 = eqb-true d 0 e in marks-next z (f.none z).0 g (f.none z).1
        go false e =
            let z : 0 < d = omega (arith, eqb-false d 0 e) in
            subst (Sought k (i + 1)) (sym (f.some z).0) (marks_pass z (f.some z).1)

  pub marks-end : {d i : ℕ} {m : List ℕ} → Sought d i m → stop ≤ i → MarksUses rs first stop m
  marks-end {m = m} a h = record { is = λ x l. go x l (is_marked m x) refl }
    where
      go : (x : ℕ) → x < length m → (b : Bool) → is_marked m x ≡ b → UsesName rs first stop x b
      go x l true e = a.yes x l e
      go x l false e = end x rs first stop (a.no x l e) h
