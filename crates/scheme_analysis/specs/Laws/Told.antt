-- 0 is told only where nothing is refused.
use Rattle.std.specs.Prelude.{ℕ, false, List, ◌≡◌, refl, Option, None, Some}
use Rattle.std.proofs.Common.{true≢false, ap, sym, ◌∙◌}
use Rattle.tree.specs.Check.{Refusal, member}
use Rattle.pass.specs.Run.{Tables, Fresh, Settled}
use Rattle.pass_laws.specs.Laws.Numbers.{Among, fresh-numbers, settled-numbers}
use Rattle.scheme_analysis.specs.Told.{number_told, Tells}

told_none : {l : List ℕ} → member 0 l ≡ false → (o : Option Refusal) → Among l o → 0 ≡ number_told o → o ≡ None
told_none z None h e = refl
told_none {l} z (Some r) h e = absurd (true≢false (sym (h.is r refl) ∙ ap (λ (n : ℕ). member n l) (sym e) ∙ z))

module _ {classes rs : List ℕ} {t t' : Tables} {i : ℕ} where
  pub fresh-zero : (x : Tells Fresh classes rs t 0 i t') → x.refused ≡ None
  fresh-zero x = told_none refl x.refused (fresh-numbers x.answers) x.number

  pub settled-zero : (x : Tells Settled classes rs t 0 i t') → x.refused ≡ None
  settled-zero x = told_none refl x.refused (settled-numbers x.answers) x.number
