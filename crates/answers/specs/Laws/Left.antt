-- What a run leaves: of the entries those of the tree's records alone, and the outcome in the tables that hold its state.
use Rattle.std.specs.Prelude.{ℕ, ◌+◌, ◌-◌, ◌*◌, ◌≤◌, List, ◌≡◌, refl, length, get_or, drop, replicate, Option, None, Some}
use Rattle.std.proofs.Common.{ap, sym, ◌∙◌, arith, length-drop, get_or-drop, ext_get_or}
use Rattle.std.proofs.lemmas.List.{length-replicate}
use Rattle.table.specs.Layout.{layout}
use Rattle.table.specs.Laws.Layout.{drop-layout}
use Rattle.table.specs.Region.{region}
use Rattle.tree.specs.Record.{records}
use Rattle.tree.specs.Tree.{Trees}
use Rattle.tree.specs.Check.{Refusal}
use Rattle.tree.specs.Accepted.{Accepted}
use Rattle.tree.proofs.Laws.Acceptance.{many-records}
use Rattle.pass.specs.State.{Entry, Facts, State, no_entry, entry_at}
use Rattle.pass.specs.Run.{rows_most, work_length, Tables, run, tables_of, refused_first, nine_or, ten_at, outcome}
use Rattle.pass_laws.specs.Laws.Sound.Lists.{same_each}
use Rattle.pass_laws.specs.Laws.Sound.Runs.{run_owned}
use Rattle.work.specs.Coded.{entry_width, put_entry_row}
use Rattle.work.specs.Laws.Coded.{entry_long}
use Rattle.work.specs.Works.{entries_first, entries_length, Works, Beside}
use Rattle.work.specs.Laws.Works.{entries_many}
use Rattle.work.specs.Tied.{raw, Tied}
use Rattle.work.specs.declared.Pass.{Pass}
use Rattle.answers.specs.Answer.{tables}
use Rattle.answers.specs.Noted.{first_in}
use Rattle.answers.specs.Clear.{cleared, Rested}
use Rattle.answers.specs.Laws.Zeroed.{last-region}
use Rattle.answers.specs.Laws.Start.{no_entries}

blank-rest : (l : List Entry) (n : ℕ) → ((i : ℕ) → n ≤ i → get_or l i no_entry ≡ no_entry) → drop n l ≡ replicate (length l - n) no_entry
blank-rest l n z =
    ext_get_or no_entry (drop n l) (replicate (length l - n) no_entry) (length-drop n l ∙ sym (length-replicate {A = Entry} (length l - n) no_entry))
    (λ i h. get_or-drop n l i no_entry ∙ z (n + i) (omega arith) ∙ sym (same_each (λ (e : Entry). e ≡ no_entry) no_entry (length l - n) refl i))

works_rested : {p : Pass} {w : List ℕ} {s : State} (n : ℕ) → Works p w s → n ≤ rows_most → ((i : ℕ) → n ≤ i → entry_at s i ≡ no_entry) → Rested n w
works_rested {w = w} {s} n k h z =
    let l = s.scope.entries in
    let m = entries_length - entry_width * n in
    let whole : entry_width * n + m ≡ entries_length = omega arith in
    let many : entry_width * (length l - n) ≡ m = omega (arith, entries_many k) in
    record {
      few = h;
      tail = last-region w entries_first (entry_width * n) m (omega (arith, k.long))
          ∙ ap (drop (entry_width * n)) (ap (region w entries_first) whole ∙ k.entries)
          ∙ drop-layout entry_width put_entry_row entry_long l n
          ∙ ap (layout put_entry_row) (blank-rest l n z)
          ∙ no_entries (length l - n)
          ∙ ap (λ (j : ℕ). replicate j 0) many;
    }

-- the records are not too many
pub few_records : {N : ℕ} {rs : List ℕ} {ts : Trees} → Accepted N rs ts → length (records rs) ≤ rows_most
few_records a = omega (arith, a.few, many-records a)

pub run_rested : (classes : List ℕ) (f : Facts) {N : ℕ} {rs : List ℕ} {ts : Trees} {p : Pass} {w : List ℕ} → Accepted N rs ts
    → Works p w (run classes ts f) → Rested (length (records rs)) w
run_rested classes f {rs = rs} a k = works_rested (length (records rs)) k (few_records a) (λ i h. run_owned classes a f i (omega (arith, many-records a)))

-- The facts of a state, and whether a run was refused

pub refused_as : {p : Pass} {w : List ℕ} {s : State} → Works p w s → first_in p ≡ refused_first s.noted
refused_as k = ap (λ (b : Beside). nine_or b.nine (ten_at b.ten)) k.beside

-- of any work table, so that its zeros are not written out
same_tables : {F C A F' C' A' : List ℕ} (w : List ℕ) → F ≡ F' → C ≡ C' → A ≡ A' → tables F C A w ≡ tables F' C' A' w
same_tables w f c a = rw (f, c, a)

-- what is left of tables that hold a state is the outcome
pub tied_outcome : {p : Pass} {F C A w : List ℕ} {s : State} (o : Option Refusal) → Tied (raw p F C A w) s
    → cleared (record { refused = o; tables = tables F C A w }) ≡ outcome o s.facts
unfolding tables_of
tied_outcome None t =
    ap (λ (u : Tables). record { refused = None; tables = u }) (same_tables (replicate work_length 0) t.facts t.captured t.arguments)
tied_outcome (Some r) t = refl
