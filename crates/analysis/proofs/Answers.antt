-- The checks before the runs, and what an operation answers.
use Rattle.std.specs.Prelude.{Option, None, Some, Result, Ok, Err, IsErrAnd}
use Rattle.std.proofs.lemmas.Option.{none-some}
use Prim.Native.Nat.{ℕ, ◌+◌, ◌%◌, ◌≤◌, ◌<◌}
use mathlib.Core.Bool.{true, false, true≢false}
use mathlib.Core.List.{List}
use mathlib.Core.Path.{◌≡◌, refl, ap, sym, subst, ◌∙◌}
use native.Mathlib.Omega.{arith}
use borrow.Author.Tests.{eq-eqb}
use lib.ListN.{length, replicate, length-replicate}
use Rattle.tree.specs.Record.{width, records}
use Rattle.tree.specs.Tree.{Trees}
use Rattle.tree.specs.Check.{Refusal, or_else, check1, check2, check3, check4, check5, check6, check7, check16, check8, refusal}
use Rattle.tree.proofs.Laws.Acceptance.{accepted, only}
use Rattle.tree.specs.Starts.{TellsStarts}
use Rattle.pass.specs.Run.{rows_most, Tables, Outcome, fitting, Answers}
use Rattle.checks.specs.Answer as checks
use Rattle.checks.specs.declared.Refusal.{Refusal as Checked}
use Rattle.checks.specs.declared.Refusal.TheVariants.{Ragged}
use Rattle.answers.specs.Answer.{numbered, refusal_in, Told}
use Rattle.answers.specs.declared.Refusal.{Refusal as Refused}
use Rattle.answers.specs.declared.Refusal.TheVariants.{Unfit}
use Rattle.answers.specs.Clear.{left, cleared, Blank}
use Rattle.answers.specs.Laws.Left.{few_records}
use Rattle.analysis.specs.Steps.{StartsFit, Begins, Ends, Checks}

-- a table of n + 1 numbers, where there are at most n records
pub starts_fit : {rs : List ℕ} (n : ℕ) → (length (records rs) ≤ rows_most → length (records rs) ≤ n) → StartsFit rs (replicate (n + 1) 0)
starts_fit n f = record { room = λ h. omega (arith, length-replicate {A = ℕ} (n + 1) 0, f h) }

-- the refusal that a `?` hands on
pub refused_by : (a : Result (Unit {0}) Refused) (r : Refused) → IsErrAnd a (λ e. e ≡ r) → refusal_in a ≡ Some (numbered r)
refused_by (Err e) r h = ap (λ (x : Refused). Some (numbered x)) h
refused_by (Ok u) r h = absurd h

pub told_by : (a : Result (Unit {0}) Refused) (r : Refused) → IsErrAnd a (λ e. e ≡ r) → Told (Err r) → Told a
told_by (Err e) r h t = subst (λ (x : Refused). Told (Err x)) (sym h) t
told_by (Ok u) r h t = tt

-- after check 1, the numbers are from 2 on
abbrev number_in : Option Refusal → ℕ
number_in None = 2
number_in (Some r) = r.number

least : (n : ℕ) (o : Option ℕ) (p : Option Refusal) → 2 ≤ n → 2 ≤ number_in p → 2 ≤ number_in (or_else n o p)
least n None p h g = g
least n (Some i) p h g = h

late : (N : ℕ) (rs : List ℕ) → length rs % width ≡ 0 → 2 ≤ number_in (refusal N rs)
unfolding refusal check1
late N rs e =
    rw (eq-eqb (length rs % width) 0 e)
    (least 2 (check2 N rs) _ (omega arith)
    (least 3 (check3 N rs) _ (omega arith)
    (least 4 (check4 N rs) _ (omega arith)
    (least 5 (check5 N rs) _ (omega arith)
    (least 6 (check6 N rs) _ (omega arith)
    (least 7 (check7 N rs) _ (omega arith)
    (least 16 (check16 N rs) _ (omega arith)
    (least 8 (check8 N rs) None (omega arith) (omega arith)))))))))

-- so no check tells of whole records that they are none
pub whole_told : (N : ℕ) (rs : List ℕ) (r : Checked) → length rs % width ≡ 0 → Some (checks.numbered r) ≡ refusal N rs → Told (Err (Unfit r))
whole_told N rs Ragged e g = let h : 2 ≤ number_in (refusal N rs) = late N rs e in omega (arith, h, ap number_in g)
whole_told N rs r e g = tt

module _ {classes rs : List ℕ} where
  pub accepted_begins : {t : Tables} → None ≡ refusal (length classes) rs → Blank t → Begins classes rs t
  accepted_begins e z = let (ts, k) = accepted (length classes) rs (sym e) in record { ts = ts; accepted = k; blank = z }

  pub accepted_checks : {f : List ℕ → Trees → Outcome} {o : Outcome} → None ≡ refusal (length classes) rs → Ends f classes rs o → Checks f classes rs o
  accepted_checks e x = record { unsound = λ r g. absurd (none-some r (e ∙ g)); sound = x.sound; rest = λ _. x.rest }

  pub refused-checks : {f : List ℕ → Trees → Outcome} {r : Refusal} {t : Tables} → Some r ≡ refusal (length classes) rs
      → Checks f classes rs (record { refused = Some r; tables = t })
  refused-checks {t = t} e = record {
    unsound = λ r g. ap (λ (o : Option Refusal). cleared (record { refused = o; tables = t })) (e ∙ g);
    sound = λ ts k. absurd (none-some _ (sym (e ∙ only (length classes) rs ts k)));
    rest = λ g. absurd (none-some _ (sym g));
  }

-- where the records are trees, the checks tell where those start
pub begun-told : {classes rs tops tops' : List ℕ} {t : Tables} {o : Option Refusal} → Begins classes rs t → StartsFit rs tops
    → o ≡ refusal (length classes) rs → (o ≡ None → length (records rs) < length tops → TellsStarts (length classes) rs tops')
    → TellsStarts (length classes) rs tops'
begun-told {classes} {rs} b s e f = f (e ∙ only (length classes) rs b.ts b.accepted) (s.room (few_records b.accepted))

module _ {f : List ℕ → Trees → Outcome} {classes rs : List ℕ} {t : Tables} where
  pub unfit_answers : fitting rs t ≡ false → Answers f classes rs t (record { refused = Some (record { number = 1; at = 0 }); tables = t })
  unfit_answers e = record {
    unfit = λ _. refl;
    unsound = λ g. absurd (true≢false (sym g ∙ e));
    sound = λ g. absurd (true≢false (sym g ∙ e));
  }

  -- what is left is what the operation answers
  pub fit_answers : {o : Option Refusal} {u v : Tables} → fitting rs t ≡ true → Checks f classes rs (record { refused = o; tables = u }) → v ≡ left o u
      → Answers f classes rs t (record { refused = o; tables = v })
  fit_answers {o} {u} {v} e k l = rw l (record { unfit = λ g. absurd (true≢false (sym e ∙ g)); unsound = λ _. k.unsound; sound = λ _. k.sound })
