-- The work table cleared: its names, its binders, all of it.
use Prim.Native.Nat.{ℕ, ◌+◌, ◌-◌, ◌*◌}
use mathlib.Core.List.{List}
use mathlib.Core.Path.{◌≡◌, refl, ap, ◌∙◌}
use native.Mathlib.Omega.{arith}
use lib.ListN.{length, replicate}
use Rattle.table.specs.Region.{region}
use Rattle.scope_map.specs.Hints.{rows_length, hints_length}
use Rattle.pass.specs.Run.{rows_most}
use Rattle.work.specs.Coded.{entry_width}
use Rattle.work.specs.Works.{work_long, entries_first, entries_length, captures_first, binders_first, binders_length}
use Rattle.answers.specs.Clear.{zeroed, names_cleared, Rested, Emptied}
use Rattle.answers.specs.Laws.Zeroed.{zeroed_further, zeroed-both, zeroed_elsewhere, zeroed-region}
use Rattle.answers.specs.Laws.Start.{cleared-names}

-- with no entries and no binders
pub emptied : (w : List ℕ) → length w ≡ work_long → Emptied (zeroed binders_first binders_length (names_cleared w))
emptied w l =
    let c = cleared-names w l in
    let k = zeroed_elsewhere binders_first binders_length (names_cleared w) (omega (arith, c.long)) in
    record {
      long = k.long ∙ c.long;
      entries = k.before entries_first entries_length (omega arith) ∙ c.entries;
      binders = zeroed-region binders_first binders_length (names_cleared w) (omega (arith, c.long));
    }

-- all entries are made zero where those of n records are
pub names-cleared : (w : List ℕ) (n : ℕ) → length w ≡ work_long → Rested n w
    → zeroed (captures_first + rows_length) hints_length (zeroed entries_first (entry_width * n) (zeroed rows_length hints_length w)) ≡ names_cleared w
unfolding names_cleared
names-cleared w n l r =
    let u = zeroed rows_length hints_length w in
    let m = entries_length - entry_width * n in
    let whole : entry_width * n + m ≡ entries_length = omega (arith, r.few) in
    let i = zeroed_elsewhere rows_length hints_length w (omega (arith, l)) in
    ap (zeroed (captures_first + rows_length) hints_length)
    (zeroed_further u entries_first (entry_width * n) m (i.after (entries_first + entry_width * n) m (omega arith) ∙ r.tail)
    ∙ ap (λ (j : ℕ). zeroed entries_first j u) whole)

pub work_cleared : (w : List ℕ) (n : ℕ) → length w ≡ work_long → Rested n w
    → zeroed captures_first (work_long - captures_first) (zeroed 0 (entries_first + entry_width * n) w) ≡ replicate work_long 0
work_cleared w n l r =
    let m = entries_length - entry_width * n in
    let whole : entries_first + entry_width * n + m ≡ captures_first = omega (arith, r.few) in
    let here : 0 + (entries_first + entry_width * n) ≡ entries_first + entry_width * n = omega arith in
    ap (zeroed captures_first (work_long - captures_first))
    (zeroed_further w 0 (entries_first + entry_width * n) m (ap (λ (j : ℕ). region w j m) here ∙ r.tail) ∙ ap (λ (j : ℕ). zeroed 0 j w) whole)
    ∙ zeroed-both w captures_first (work_long - captures_first) (omega (arith, l))

-- of all records there may be, nothing is left
pub all_rested : (w : List ℕ) → Rested rows_most w
all_rested w = record { few = omega arith; tail = refl }
