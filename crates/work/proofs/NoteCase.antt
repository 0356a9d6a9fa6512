-- Refusals noted, beside a table that stays.
use Rattle.std.specs.Prelude.{Option, None, Some}
use Rattle.std.specs.Option.{option_or}
use Prim.Native.Nat.{ℕ}
use mathlib.Core.List.{List}
use mathlib.Core.Bool.{Bool, true, false}
use mathlib.Core.Path.{◌≡◌, refl, ap, sym, subst, ◌∙◌}
use Rattle.pass.specs.State.{State, or_kept, note_nine, note_ten}
use Rattle.pass.specs.Read.{note_live}
use Rattle.work.specs.Coded.{second_of}
use Rattle.work.specs.Works.{Beside, beside_pass, Works}
use Rattle.work.specs.Laws.Kept.{noting, works_as}
use Rattle.work.specs.Passes.{with_notes}
use Rattle.work.specs.Leaves.{Becomes}
use Rattle.work.specs.declared.Pass.{Pass}
use Rattle.work.specs.declared.SecondRefusal.{SecondRefusal}

-- The first place is kept
or_first : {j i : ℕ} (o : Option ℕ) {q : Option ℕ} → q ≡ option_or o (Some j) → j ≡ i → q ≡ or_kept o i
or_first None e z = e ∙ ap Some z
or_first (Some a) e z = e

module _ {p r : Pass} {nine ten : Option ℕ} {second : Option SecondRefusal} (e : r ≡ with_notes nine ten second p) where
  noted : (f : State → State) → ((s : State) (w : List ℕ) → Works p w s → Works (with_notes nine ten second p) w (f s)) → (w : List ℕ) → Becomes p w f r w
  noted f g w = record { is = λ s k. subst (λ (q : Pass). Works q w (f s)) (sym e) (g s w k) }

module _ {p r : Pass} {i j : ℕ} (z : j ≡ i) where
  pub nine_noted : {nine : Option ℕ} → nine ≡ option_or p.nine (Some j) → r ≡ with_notes nine p.ten p.second p → (w : List ℕ) → Becomes p w (note_nine i) r w
  nine_noted {nine} q e =
      noted e (note_nine i)
      (λ s w k.
      works_as k (with_notes nine p.ten p.second p) (note_nine i s) refl refl refl refl refl
      (ap (λ (n : Option ℕ). noting n p.ten (second_of p.second) (beside_pass p)) (or_first p.nine q z)
      ∙ ap (λ (b : Beside). noting (or_kept b.nine i) b.ten b.second b) k.beside))

  pub ten_noted_lem : {ten : Option ℕ} → ten ≡ option_or p.ten (Some j) → r ≡ with_notes p.nine ten p.second p → (w : List ℕ) → Becomes p w (note_ten i) r w
  ten_noted_lem {ten} q e =
      noted e (note_ten i)
      (λ s w k.
      works_as k (with_notes p.nine ten p.second p) (note_ten i s) refl refl refl refl refl
      (ap (λ (n : Option ℕ). noting p.nine n (second_of p.second) (beside_pass p)) (or_first p.ten q z)
      ∙ ap (λ (b : Beside). noting b.nine (or_kept b.ten i) b.second b) k.beside))

-- Refusal 9, or not

module _ {p : Pass} {b : Bool} (i : ℕ) where
  pub the_nine : {r : Pass} → b ≡ true → ((w : List ℕ) → Becomes p w (note_nine i) r w) → (w : List ℕ) → Becomes p w (note_live b i) r w
  the_nine e c w = rw e (c w)

  pub no_nine : b ≡ false → (w : List ℕ) → Becomes p w (note_live b i) p w
  no_nine e w = rw e (record { is = λ s k. k })
