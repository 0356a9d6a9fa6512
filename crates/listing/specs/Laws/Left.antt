-- The tables are left in one way only.
use Rattle.std.specs.Prelude.{ℕ, ◌≤◌, Bool, true, false, List, ◌≡◌, refl, length, Option, None, Some}
use Rattle.std.proofs.Common.{⊎_elim, sym, ◌∙◌}
use Rattle.tree.specs.Record.{Record, numbers}
use Rattle.tree.specs.Check.{Refusal, refusal}
use Rattle.tree.proofs.Laws.Acceptance.{accepted as acceptance}
use Rattle.pass.specs.Run.{Tables}
use Rattle.printing.specs.Laws.Below.{below_or}
use Rattle.reading.specs.Reading.{Answer, bad, good, read}
use Rattle.listing.specs.Listing.{records_most}
use Rattle.listing.specs.Left.{Left, Leaves}

left_once : (fit : Bool) (cs : List ℕ) (rs : List Record) {t u v : Tables} → Left fit cs rs t u → Left fit cs rs t v → u ≡ v
left_once false cs rs p q = p.unfit refl ∙ sym (q.unfit refl)
left_once true cs rs {t} {u} {v} p q =
    ⊎_elim (λ h. p.too_many refl h ∙ sym (q.too_many refl h)) (λ h. by_refusal h (refusal (length cs) (numbers rs)) refl) (below_or records_most (length rs))
  where
    by_refusal : length rs ≤ records_most → (o : Option Refusal) → refusal (length cs) (numbers rs) ≡ o → u ≡ v
    by_refusal h (Some r) e = p.refused refl h r e ∙ sym (q.refused refl h r e)
    by_refusal h None e = let (ts, a) = acceptance (length cs) (numbers rs) e in p.accepted refl h ts a ∙ sym (q.accepted refl h ts a)

pub leaves_once : (fit : Bool) (b : List ℕ) {t u v : Tables} → Leaves fit b t u → Leaves fit b t v → u ≡ v
leaves_once fit b {t} {u} {v} p q = go (read b) refl
  where
    go : (a : Answer) → read b ≡ a → u ≡ v
    go (bad n) e = p.bad_line n e ∙ sym (q.bad_line n e)
    go (good cs rs) e = left_once fit cs rs (p.good_input cs rs e) (q.good_input cs rs e)
