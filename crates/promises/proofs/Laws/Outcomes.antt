-- An operation that refuses nothing leaves the facts of the trees that the records are.
use Rattle.std.specs.Prelude.{ℕ, Bool, true, false, List, ◌≡◌, refl, length, Option, None, Some}
use Rattle.std.proofs.lemmas.Option.{none-some}
use Rattle.std.proofs.Common.{ap, sym, ◌∙◌}
use Rattle.table.specs.Layout.{layout}
use Rattle.tree.specs.Tree.{Trees}
use Rattle.tree.specs.Check.{Refusal, refusal}
use Rattle.tree.specs.Accepted.{Accepted}
use Rattle.tree.proofs.Laws.Acceptance.{accepted}
use Rattle.semantic.specs.Rows.{put_row}
use Rattle.pass.specs.State.{Facts}
use Rattle.pass.specs.Run.{Tables, tables_of, Outcome, outcome, fitting, Answers}

-- the outcome is that of the trees
pub record Outcomes (outcome_of : List ℕ → Trees → Outcome) (classes rs : List ℕ) (o : Outcome) : Type 0 where
  pub ts : Trees
  pub accepted : Accepted (length classes) rs ts
  pub is : o ≡ outcome_of classes ts

refuses : {o : Outcome} {r : Refusal} {u : Tables} → o.refused ≡ None → o ≡ record { refused = Some r; tables = u } → ⊥
refuses {r = r} e q = none-some r (sym (sym (ap (λ (p : Outcome). p.refused) q) ∙ e))

pub outcomes : {f : List ℕ → Trees → Outcome} {classes rs : List ℕ} {t : Tables} {o : Outcome} → Answers f classes rs t o → o.refused ≡ None → Outcomes f classes rs o
outcomes {f} {classes} {rs} {t} {o} x e = by_checks (fitting rs t) refl (refusal (length classes) rs) refl
  where
    by_checks : (b : Bool) → fitting rs t ≡ b → (r : Option Refusal) → refusal (length classes) rs ≡ r → Outcomes f classes rs o
    by_checks false h r k = absurd (refuses e (x.unfit h))
    by_checks true h (Some r) k = absurd (refuses e (x.unsound h r k))
    by_checks true h None k = let (ts, a) = accepted (length classes) rs k in record { ts = ts; accepted = a; is = x.sound h ts a }

-- the run, whose refusal is q, refuses nothing, and its facts f stand in the table
pub record Kept (q : Option Refusal) (f : Facts) (o : Outcome) : Type 0 where
  pub unrefused : q ≡ None
  pub laid : o.tables.facts ≡ layout put_row f.rows

pub kept : (q : Option Refusal) (f : Facts) {o : Outcome} → o ≡ outcome q f → o.refused ≡ None → Kept q f o
unfolding tables_of
kept None f i e = record { unrefused = refl; laid = ap (λ (p : Outcome). p.tables.facts) i }
kept (Some r) f i e = absurd (refuses e i)
