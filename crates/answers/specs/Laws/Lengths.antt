-- Check 1: lent tables of their set lengths.
use Rattle.std.specs.Prelude.{ℕ, ◌%◌, true, List, ◌≡◌, length, eqb}
use Rattle.std.proofs.Math.Bool.{and-eq-true_iff}
use Rattle.std.proofs.Common.{◌∙◌, eqb-true, eq-eqb}
use Rattle.tree.specs.Record.{width}
use Rattle.pass.specs.Run.{Tables, facts_length, list_entries_length, work_length, lengths_fit, fitting}
use Rattle.answers.specs.Answer.{tables}

pub record Long (t : Tables) : Type 0 where
  pub facts : length t.facts ≡ facts_length
  pub captured : length t.captured ≡ list_entries_length
  pub arguments : length t.arguments ≡ list_entries_length
  pub work : length t.work ≡ work_length

pub long : (t : Tables) → lengths_fit t ≡ true → Long t
unfolding lengths_fit
long t e =
    let (f, e') = (and-eq-true_iff (eqb (length t.facts) facts_length) _).0 e in
    let (c, e'') = (and-eq-true_iff (eqb (length t.captured) list_entries_length) _).0 e' in
    let (a, w) = (and-eq-true_iff (eqb (length t.arguments) list_entries_length) _).0 e'' in
    record { facts = eqb-true _ _ f; captured = eqb-true _ _ c; arguments = eqb-true _ _ a; work = eqb-true _ _ w }

pub long_fits : {t : Tables} → Long t → lengths_fit t ≡ true
unfolding lengths_fit
long_fits {t} l =
    rw (
      eq-eqb (length t.facts) facts_length l.facts,
      eq-eqb (length t.captured) list_entries_length l.captured,
      eq-eqb (length t.arguments) list_entries_length l.arguments,
      eq-eqb (length t.work) work_length l.work,
    )

module _ (F C A w : List ℕ) (F' C' A' w' : List ℕ) where
  -- tables keep their lengths
  pub still_fits : lengths_fit (tables F C A w) ≡ true → length F' ≡ length F → length C' ≡ length C → length A' ≡ length A → length w' ≡ length w
      → lengths_fit (tables F' C' A' w') ≡ true
  still_fits h f c a z =
      let l = long (tables F C A w) h in
      long_fits (record { facts = f ∙ l.facts; captured = c ∙ l.captured; arguments = a ∙ l.arguments; work = z ∙ l.work })

pub fit_whole : (rs : List ℕ) (t : Tables) → fitting rs t ≡ true → length rs % width ≡ 0
unfolding fitting
fit_whole rs t e = eqb-true _ _ ((and-eq-true_iff (eqb (length rs % width) 0) (lengths_fit t)).0 e).0

pub fit_lengths : (rs : List ℕ) (t : Tables) → fitting rs t ≡ true → lengths_fit t ≡ true
unfolding fitting
fit_lengths rs t e = ((and-eq-true_iff (eqb (length rs % width) 0) (lengths_fit t)).0 e).1
