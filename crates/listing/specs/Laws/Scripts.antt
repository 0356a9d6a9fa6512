-- Document 01, "The printed facts" and "Scripts to try": what the program prints for the two scripts whose lines the document has.
use Rattle.std.specs.Prelude.{ℕ, ◌≤◌, true, List, [], ◌∷◌, ◌++◌, ◌≡◌, refl, length}
use Prim.Native.Char.{code}
use Prim.Native.String.{String, [] as empty, ◌∷◌ as ◌then◌}
use Rattle.std.proofs.Common.{subst}
use Rattle.std.proofs.Math.Bridge.{le_by_compare, IsLe}
use Rattle.tree.specs.Tree.{flat, flats}
use Rattle.pass.proofs.Laws.Scripts.{Script, classes, fresh_run, AsSaid, sample, no_records, all_as_said}
use Rattle.printing.specs.Numeral.{numeral, numeral_in}
use Rattle.printing.specs.Text.{LF, or_none, row_text, count, percent, summary_text, rows_text, facts_text}
use Rattle.reading.specs.Reading.{after, digits, fit, number_at, field_at, numbers_of, next, first, class, entry, with_line, with_byte, with_bytes, ending, answer, good, read}
use Rattle.listing.specs.Listing.{records_most, fresh_text, accepted, Prints, shows}
use Rattle.listing.specs.Laws.Printed.{printed_once}

-- Lines as bytes: characters of ASCII are one byte each, and LF ends a line

abbrev pub bytes : String → List ℕ
bytes empty = []
bytes (c then s) = code c ∷ bytes s

abbrev pub lines : List String → List ℕ
lines [] = []
lines (s ∷ l) = bytes s ++ (LF ∷ lines l)

-- the text t is printed for the bytes b, and no other; the program's tables are of their set lengths
pub record PrintsOnly (b t : List ℕ) : Type 0 where
  pub is : Prints true b t
  pub once : (u : List ℕ) → Prints true b u → u ≡ t

-- the text of the fresh run, for the bytes that say the script's records
prints_only : {s : Script} {b t : List ℕ} → AsSaid s → read b ≡ good (classes s) (flats s.tree) → length (flats s.tree) ≤ records_most
    → fresh_text (classes s) s.tree ≡ t → PrintsOnly b t
prints_only {b} h e few f =
    let p = subst (Prints true b) f (shows e (accepted refl few h.accepted)) in
    record { is = p; once = λ u q. printed_once q p }

-- "(define f (lambda (x) (f x))), f id 1, lambda 2, x 3, call 4, then 5 and 6, prints"

abbrev pub sample_input : List ℕ
sample_input =
    lines
    ("names=2"
    ∷ "class=0"
    ∷ "class=0"
    ∷ "form=5 id=0 name=0 count=0 from=0 to=0"
    ∷ "form=1 id=1 name=0 count=0 from=0 to=0"
    ∷ "form=6 id=2 name=0 count=1 from=0 to=0"
    ∷ "form=1 id=3 name=1 count=0 from=0 to=0"
    ∷ "form=8 id=4 name=0 count=2 from=0 to=0"
    ∷ "form=1 id=5 name=0 count=0 from=0 to=0"
    ∷ "form=1 id=6 name=1 count=0 from=0 to=0"
    ∷ [])

abbrev pub sample_text : List ℕ
sample_text =
    lines
    ("at=1 kind=1 depth=1 uses=1 refers=- slot=- last=0"
    ∷ "at=2 captured=0 escapes=0 depth=1"
    ∷ "at=3 kind=2 depth=2 uses=1 refers=- slot=- last=0"
    ∷ "at=4 call=3 self=1"
    ∷ "at=5 kind=1 depth=1 uses=1 refers=1 slot=- last=0"
    ∷ "at=6 kind=2 depth=2 uses=1 refers=3 slot=0 last=1"
    ∷ "calls=1 tail=1 percent=100"
    ∷ [])

sample-read : read sample_input ≡ good (classes sample) (flats sample.tree)
unfolding read answer ending with_bytes with_byte with_line first class entry next numbers_of field_at number_at fit digits after flat
sample-read = refl

sample_few : length (flats sample.tree) ≤ records_most
unfolding flat IsLe
sample_few = le_by_compare 7 512 tt

sample_text_lem : fresh_text (classes sample) sample.tree ≡ sample_text
unfolding fresh_run fresh_text numeral numeral_in or_none row_text count percent summary_text rows_text facts_text
sample_text_lem = refl

pub sample_prints : PrintsOnly sample_input sample_text
sample_prints = prints_only all_as_said.0 sample-read sample_few sample_text_lem

-- "No records: the last line alone, all 0."

abbrev pub empty_input : List ℕ
empty_input = lines ("names=0" ∷ [])

abbrev pub empty_text : List ℕ
empty_text = lines ("calls=0 tail=0 percent=0" ∷ [])

empty_read : read empty_input ≡ good (classes no_records) (flats no_records.tree)
unfolding read answer ending with_bytes with_byte with_line first class entry next numbers_of field_at number_at fit digits after flat
empty_read = refl

empty_few : length (flats no_records.tree) ≤ records_most
unfolding flat IsLe
empty_few = le_by_compare 0 512 tt

empty_text_lem : fresh_text (classes no_records) no_records.tree ≡ empty_text
unfolding fresh_run fresh_text numeral numeral_in or_none row_text count percent summary_text rows_text facts_text
empty_text_lem = refl

pub empty_prints : PrintsOnly empty_input empty_text
empty_prints = prints_only all_as_said.1.0 empty_read empty_few empty_text_lem
