-- `text`: the tables of the run are of their set lengths.
use Prim.Native.Nat.{ℕ, ◌≤◌}
use mathlib.Core.Bool.{Bool}
use mathlib.Core.List.{List}
use mathlib.Core.Path.{◌≡◌, subst}
use native.Mathlib.Omega.{arith}
use lib.ListN.{length, take, replicate}
use Rattle.pass.specs.Run.{Tables, facts_length, list_entries_length, work_length}
use Rattle.answers.specs.Answer.{tables}
use Rattle.reading.specs.declared.reader.Reading.{Reading}
use Rattle.listing.specs.Listing.{classes_length, records_length, text_length, Prints}
use Rattle.listing.specs.Laws.Fits.{zeros-fit}
use Rattle.listing.specs.Answered.{Answered, TextIn}
use Rattle.listing.proofs.text.Goals as goal

text_in : {r : Reading} {T R d d' : List ℕ} {t : Tables} {n : ℕ}
    → Answered r T R (tables (replicate facts_length 0) (replicate list_entries_length 0) (replicate list_entries_length 0) (replicate work_length 0)) d t d' n
    → length T ≡ classes_length → length R ≡ records_length → text_length ≤ length d → TextIn r T R d' n
text_in {T = T} {R} {d' = d'} {n = n} w e f h = record {
  is = λ b L k. subst (λ (fit : Bool). Prints fit b (take n d')) (zeros-fit T R e f) (w.is h b L k);
  inside = w.inside;
}

pub returns : goal.returns
returns c = let o = c.well_formed in text_in c.answer.ensures (omega (arith, o)) (omega (arith, o)) (omega (arith, o))
