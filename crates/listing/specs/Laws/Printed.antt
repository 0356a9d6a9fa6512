-- For all bytes exactly one text is printed.
use Rattle.std.specs.Prelude.{Bool, true, false, List, ◌≡◌, refl, ℕ, ◌≤◌, length, Option, None, Some}
use Rattle.std.proofs.lemmas.Option.{none-some}
use Rattle.std.proofs.Common.{true≢false, ⊎_elim, ap, sym, ◌∙◌, arith}
use Rattle.tree.specs.Record.{Record, numbers}
use Rattle.tree.specs.Check.{Refusal, refusal}
use Rattle.tree.proofs.Laws.Acceptance.{accepted as acceptance, only, unique}
use Rattle.printing.specs.Laws.Below.{below_or}
use Rattle.printing.specs.Text.{bad_text}
use Rattle.reading.specs.Reading.{Answer, bad, good, read}
use Rattle.reading.specs.Held.{shown}
use Rattle.listing.specs.Listing.{records_most, refusal_text, fresh_text, Shows, too_many, refused, accepted, Prints, bad_line, unfit, shows}

pub record Text (P : List ℕ → Type 0) : Type 0 where
  pub text : List ℕ
  pub is : P text

-- there is one

told : (fit : Bool) (cs : List ℕ) (rs : List Record) → Text (Shows fit cs rs)
told false cs rs = record { text = _; is = unfit refl }
told true cs rs =
    ⊎_elim (λ h. record { text = _; is = too_many refl h }) (λ h. by_refusal h (refusal (length cs) (numbers rs)) refl) (below_or records_most (length rs))
  where
    by_refusal : length rs ≤ records_most → (o : Option Refusal) → refusal (length cs) (numbers rs) ≡ o → Text (Shows true cs rs)
    by_refusal h (Some r) e = record { text = refusal_text r; is = refused refl h e }
    by_refusal h None e = let (ts, a) = acceptance (length cs) (numbers rs) e in record { text = fresh_text cs ts; is = accepted refl h a }

pub printed : (fit : Bool) (b : List ℕ) → Text (Prints fit b)
printed fit b = go (read b) refl
  where
    go : (a : Answer) → read b ≡ a → Text (Prints fit b)
    go (bad n) e = record { text = bad_text (shown n); is = bad_line e }
    go (good cs rs) e = let w = told fit cs rs in record { text = w.text; is = shows e w.is }

-- and no other

told_once : {fit : Bool} {cs : List ℕ} {rs : List Record} {t u : List ℕ} → Shows fit cs rs t → Shows fit cs rs u → t ≡ u
told_once (unfit p) (unfit q) = refl
told_once (unfit p) (too_many q h) = absurd (true≢false (sym q ∙ p))
told_once (unfit p) (refused q h e) = absurd (true≢false (sym q ∙ p))
told_once (unfit p) (accepted q h a) = absurd (true≢false (sym q ∙ p))
told_once (too_many p h) (unfit q) = absurd (true≢false (sym p ∙ q))
told_once (too_many p h) (too_many q g) = refl
told_once (too_many p h) (refused q g e) = absurd (omega arith)
told_once (too_many p h) (accepted q g a) = absurd (omega arith)
told_once (refused p h e) (unfit q) = absurd (true≢false (sym p ∙ q))
told_once (refused p h e) (too_many q g) = absurd (omega arith)
told_once (refused {r} p h e) (refused {r = s} q g f) = let z : r ≡ s = cc in ap refusal_text z
told_once {cs = cs} {rs} (refused p h e) (accepted q g a) = absurd (none-some _ (sym (sym e ∙ only (length cs) (numbers rs) _ a)))
told_once (accepted p h a) (unfit q) = absurd (true≢false (sym p ∙ q))
told_once (accepted p h a) (too_many q g) = absurd (omega arith)
told_once {cs = cs} {rs} (accepted p h a) (refused q g e) = absurd (none-some _ (sym (sym e ∙ only (length cs) (numbers rs) _ a)))
told_once {cs = cs} (accepted p h a) (accepted q g c) = ap (fresh_text cs) (unique a c)

never : {n : ℕ} {cs : List ℕ} {rs : List Record} {P : Type 0} → bad n ≡ good cs rs → P
never e = let z : ◌≡◌ {A = ℕ} 0 1 = cc in absurd (omega arith)

pub printed_once : {fit : Bool} {b t u : List ℕ} → Prints fit b t → Prints fit b u → t ≡ u
printed_once (bad_line {n} e) (bad_line {n = m} f) = let p : n ≡ m = cc in ap (λ (i : ℕ). bad_text (shown i)) p
printed_once (bad_line e) (shows f w) = never (sym e ∙ f)
printed_once (shows f w) (bad_line e) = never (sym e ∙ f)
printed_once (shows {cs} {rs} e w) (shows {cs = ds} {rs = qs} f v) =
    let c : cs ≡ ds = cc in
    let r : rs ≡ qs = cc in
    told_once (rw (c, r) at w) v
