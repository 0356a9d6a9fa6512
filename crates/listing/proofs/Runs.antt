-- The text of what a fresh run answers.
use Rattle.std.specs.Prelude.{Option, None, Some, Result, Ok, Err}
use Rattle.std.proofs.lemmas.Option.{none-some}
use Prim.Native.Nat.{ℕ, ◌*◌, ◌≤◌}
use mathlib.Core.Bool.{true}
use mathlib.Core.List.{List, []}
use mathlib.Core.Path.{◌≡◌, refl, ap, sym, ◌∙◌}
use native.Mathlib.Omega.{arith}
use lib.ListN.{length}
use Rattle.table.specs.Layout.{layout}
use Rattle.tree.specs.Record.{width}
use Rattle.tree.specs.Tree.{Trees, sizes, flats}
use Rattle.tree.proofs.Laws.Tree.{length-numbers, length_flats}
use Rattle.tree.specs.Check.{Refusal}
use Rattle.tree.specs.Accepted.{Accepted}
use Rattle.semantic.specs.Rows.{put_row}
use Rattle.pass.specs.State.{Facts}
use Rattle.pass.specs.Run.{Tables, rows_most, no_facts, start, fresh, refused_first, tables_of, Outcome, outcome, fresh_outcome, fitting, Fresh}
use Rattle.pass_laws.specs.Laws.Rows.{key, key-blank, blank-rows}
use Rattle.pass_laws.specs.Laws.Keeps.{keeps_run}
use Rattle.printing.specs.Text.{refused_text}
use Rattle.printing.specs.Puts.{Line}
use Rattle.answers.specs.Answer.{numbered, refusal_in}
use Rattle.answers.specs.declared.Refusal.{Refusal as Refused}
use Rattle.listing.specs.Listing.{outcome_text, fresh_text}
use Rattle.listing.specs.Answered.{BlankFrom, FactsIn, OutcomeIn, FreshIn}

-- By what was answered

module _ {a : Result (Unit {0}) Refused} {F d : List ℕ} {rows n : ℕ} where
  pub accepted_in : {u : Unit {0}} → a ≡ Ok u → FactsIn F rows d n → OutcomeIn a F rows d n
  accepted_in e v = record {
    is = λ o l q f b. let z : o ≡ None = sym q ∙ ap refusal_in e in v.is l (f z) b ∙ ap (λ (p : Option Refusal). outcome_text p l) (sym z);
    inside = v.inside;
  }

  pub refused_in : {r : Refused} → a ≡ Err r → Line (refused_text (numbered r).number (numbered r).at) d n → n ≤ length d → OutcomeIn a F rows d n
  refused_in {r} e v h = record {
    is = λ o l q f b. v.text ∙ ap (λ (p : Option Refusal). outcome_text p l) (sym (ap refusal_in e) ∙ q);
    inside = h;
  }

-- the rows behind the last record are as they were
rows-blank : (classes : List ℕ) {N : ℕ} {rs : List ℕ} {ts : Trees} → Accepted N rs ts → (rows : ℕ) → length rs ≡ width * rows → BlankFrom rows (fresh classes ts).facts.rows
unfolding fresh start no_facts
rows-blank classes {rs = rs} {ts} k rows e x h =
    let z : rows ≡ sizes ts = omega (arith, ap length k.flat ∙ length-numbers (flats ts), length_flats ts) in
    key-blank _ (keeps_run classes ts k.num no_facts x (λ l u. absurd (omega arith)) ∙ ap key (blank-rows rows_most x))

-- By the records

outcome-refused : (q : Option Refusal) (f : Facts) → (outcome q f).refused ≡ q
outcome-refused None f = refl
outcome-refused (Some r) f = refl

outcome_facts : (q : Option Refusal) (f : Facts) → q ≡ None → (outcome q f).tables.facts ≡ layout put_row f.rows
unfolding tables_of
outcome_facts None f e = refl
outcome_facts (Some r) f e = absurd (none-some r (sym e))

pub fresh_in : {classes rs d : List ℕ} {t u : Tables} {a : Result (Unit {0}) Refused} {rows n : ℕ} → fitting rs t ≡ true → length rs ≡ width * rows → Fresh classes rs t (record { refused = refusal_in a; tables = u })
    → OutcomeIn a u.facts rows d n → FreshIn classes rs u d n
unfolding fresh_text fresh_outcome
fresh_in {classes} {rs} {d} {t} {u} {a} {rows} {n} h m x v = record {
  refused = λ r e.
      let o = x.answers.unsound h r e in
      record {
        text = v.is (Some r) [] (ap (λ (p : Outcome). p.refused) o) (λ z. absurd (none-some r (sym z))) (λ i g. refl);
        tables = ap (λ (p : Outcome). p.tables) o;
      };
  accepted = λ ts k.
      let o = x.answers.sound h ts k in
      let s = fresh classes ts in
      let q = refused_first s.noted in
      record {
        text =
            v.is q s.facts.rows
            (ap (λ (p : Outcome). p.refused) o ∙ outcome-refused q s.facts)
            (λ z. ap (λ (p : Outcome). p.tables.facts) o ∙ outcome_facts q s.facts z)
            (rows-blank classes k rows m);
        tables = ap (λ (p : Outcome). p.tables) o;
      };
  inside = v.inside;
}
