-- The test passes exactly for tables of their set lengths, so for arrays of zeros as a program starts with.
use Rattle.std.specs.Prelude.{ℕ, true, List, ◌≡◌, eqb, length, replicate}
use Rattle.std.proofs.Math.Bool.{and-eq-true_iff}
use Rattle.std.proofs.Common.{eq-eqb, eqb-true}
use Rattle.std.proofs.lemmas.List.{length-replicate}
use Rattle.pass.specs.Run.{Tables, facts_length, list_entries_length, work_length, lengths_fit}
use Rattle.answers.specs.Answer.{tables}
use Rattle.listing.specs.Listing.{classes_length, records_length, all_fit}
use Rattle.listing.specs.Fits.{Fits}

pub fits : (T R : List ℕ) (t : Tables) → all_fit T R t ≡ true → Fits T R t
unfolding all_fit
fits T R t e =
    let (c, f) = (and-eq-true_iff (eqb (length T) classes_length) _).0 e in
    let (r, k) = (and-eq-true_iff (eqb (length R) records_length) (lengths_fit t)).0 f in
    record { classes = eqb-true _ _ c; records = eqb-true _ _ r; tables = k }

pub all-fit : {T R : List ℕ} {t : Tables} → Fits T R t → all_fit T R t ≡ true
unfolding all_fit
all-fit {T} {R} f = rw (eq-eqb (length T) classes_length f.classes, eq-eqb (length R) records_length f.records, f.tables)

-- arrays of zeros, as a program starts with
of_lengths : (F C A w : List ℕ) → length F ≡ facts_length → length C ≡ list_entries_length → length A ≡ list_entries_length → length w ≡ work_length
    → lengths_fit (tables F C A w) ≡ true
unfolding lengths_fit
of_lengths F C A w f c a k =
    rw (
      eq-eqb (length F) facts_length f,
      eq-eqb (length C) list_entries_length c,
      eq-eqb (length A) list_entries_length a,
      eq-eqb (length w) work_length k,
    )

pub zeros-fit : (T R : List ℕ) → length T ≡ classes_length → length R ≡ records_length
    → all_fit T R (tables (replicate facts_length 0) (replicate list_entries_length 0) (replicate list_entries_length 0) (replicate work_length 0)) ≡ true
zeros-fit T R e f =
    all-fit
    (record {
      classes = e;
      records = f;
      tables =
          of_lengths (replicate facts_length 0) (replicate list_entries_length 0) (replicate list_entries_length 0) (replicate work_length 0)
          (length-replicate {A = ℕ} facts_length 0)
          (length-replicate {A = ℕ} list_entries_length 0)
          (length-replicate {A = ℕ} list_entries_length 0)
          (length-replicate {A = ℕ} work_length 0);
    })
