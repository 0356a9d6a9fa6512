-- What a run starts with: no facts and no entries, or the facts of the run before it; the binders are the captured entries'.
use Rattle.std.specs.Prelude.{ℕ, ◌+◌, ◌*◌, ◌≤◌, List, ◌≡◌, refl, length, replicate}
use Rattle.std.proofs.Math.Path.{sym}
use Rattle.std.proofs.Common.{◌∙◌, arith}
use Rattle.table.specs.Layout.{layout}
use Rattle.table.specs.Laws.Layout.{zeros-layout}
use Rattle.table.specs.Region.{region}
use Rattle.scope_map.specs.ScopeMap.{new}
use Rattle.scope_map.specs.Map.{map_values}
use Rattle.scope_map.proofs.Laws.Map.{map-new}
use Rattle.scope_map.specs.Hints.{rows_length, hints_length, map_length}
use Rattle.scope_map.specs.Held.{Held}
use Rattle.scope_map.proofs.Laws.Held.{held_new}
use Rattle.semantic.specs.Rows as rows
use Rattle.semantic.specs.Rows.{row_width, put_row, no_list_entry, list_entry_width, put_info, put_list_entry}
use Rattle.semantic.specs.Laws.Rows.{row_long, list-entry_long}
use Rattle.pass.specs.State.{Facts, State, no_entry}
use Rattle.pass.specs.Run.{rows_most, list_entries_most, no_facts, start}
use Rattle.work.specs.Coded.{entry_width, put_coded, put_entry_row, put_binder}
use Rattle.work.specs.Laws.Coded.{entry_long}
use Rattle.work.specs.Works.{work_long, scope_length, entries_first, entries_length, captures_first, captures_length, binders_first, binders_length, record_at, row_of, TakenIn, Works}
use Rattle.work.specs.Laws.Works.{part_length, captured_top_lem, arguments_top_lem}
use Rattle.work.specs.Passes.{pass_new}
use Rattle.work.specs.Tied.{raw, Tied}
use Rattle.work.specs.declared.Pass.{Pass}
use Rattle.answers.specs.Answer.{tables}
use Rattle.answers.specs.Clear.{zeroed, names_cleared, Emptied, Blank}
use Rattle.answers.specs.Laws.Zeroed.{zeroed_elsewhere, zeroed-region}

new-held : {A : Type 0} (f : A → ℕ) (t : List ℕ) → map_length ≤ length t → Held (record { depth = 1; length = 0 }) t (map_values f new)
new-held f t h = rw (map-new f) (held_new t h)

-- entries of zeros
pub no_entries : (n : ℕ) → layout put_entry_row (replicate n no_entry) ≡ replicate (entry_width * n) 0
unfolding put_coded
no_entries n = zeros-layout entry_width put_entry_row entry_long no_entry refl n

no_binders : (n : ℕ) → layout put_binder (replicate n no_list_entry) ≡ replicate (1 * n) 0
no_binders n = zeros-layout 1 put_binder (λ i. refl) no_list_entry refl n

-- the rows of a map without names may be anything
start_works : (f : Facts) (w : List ℕ) → length w ≡ work_long → region w entries_first entries_length ≡ replicate entries_length 0
    → region w binders_first binders_length ≡ layout put_binder f.captured → Works (pass_new f.captured_top f.arguments_top) w (start f)
unfolding start TakenIn
start_works f w l z b = record {
  long = l;
  names = new-held record_at (region w 0 scope_length) (omega (arith, part_length w l 0 scope_length (omega arith)));
  entries = z ∙ sym (no_entries rows_most);
  captures = new-held row_of (region w captures_first captures_length) (omega (arith, part_length w l captures_first captures_length (omega arith)));
  taken = tt;
  binders = b;
  beside = refl;
}

-- with no facts
pub fresh_works : {w : List ℕ} → Emptied w → Works (pass_new 0 0) w (start no_facts)
unfolding no_facts
fresh_works {w} z = start_works no_facts w z.long z.entries (z.binders ∙ sym (no_binders list_entries_most))

-- the work table with its names cleared
pub record Cleared (w w' : List ℕ) : Type 0 where
  pub long : length w' ≡ work_long
  pub entries : region w' entries_first entries_length ≡ replicate entries_length 0
  pub binders : region w' binders_first binders_length ≡ region w binders_first binders_length

pub cleared-names : (w : List ℕ) → length w ≡ work_long → Cleared w (names_cleared w)
unfolding names_cleared
cleared-names w l =
    let u = zeroed rows_length hints_length w in
    let v = zeroed entries_first entries_length u in
    let i = zeroed_elsewhere rows_length hints_length w (omega (arith, l)) in
    let j = zeroed_elsewhere entries_first entries_length u (omega (arith, l, i.long)) in
    let k = zeroed_elsewhere (captures_first + rows_length) hints_length v (omega (arith, l, i.long, j.long)) in
    record {
      long = k.long ∙ j.long ∙ i.long ∙ l;
      entries = k.before entries_first entries_length (omega arith) ∙ zeroed-region entries_first entries_length u (omega (arith, l, i.long));
      binders =
          k.after binders_first binders_length (omega arith)
          ∙ j.after binders_first binders_length (omega arith)
          ∙ i.after binders_first binders_length (omega arith);
    }

-- the table of another run, its names cleared, with that run's facts
pub again_works : {p : Pass} {w : List ℕ} {s : State} → Works p w s
    → Works (pass_new p.captured_top p.arguments_top) (names_cleared w) (start s.facts)
again_works {w = w} {s} k =
    let c = cleared-names w k.long in
    rw (captured_top_lem k, arguments_top_lem k) (start_works s.facts (names_cleared w) c.long c.entries (c.binders ∙ k.binders))

-- blank tables hold no facts
no_rows : (n : ℕ) → layout put_row (replicate n rows.Blank) ≡ replicate (row_width * n) 0
unfolding put_row
no_rows n = zeros-layout row_width put_row row_long rows.Blank refl n

no_list_entries : (n : ℕ) → layout put_list_entry (replicate n no_list_entry) ≡ replicate (list_entry_width * n) 0
unfolding put_list_entry put_info
no_list_entries n = zeros-layout list_entry_width put_list_entry list-entry_long no_list_entry refl n

module _ {F C A w : List ℕ} where
  pub blank_tied : Blank (tables F C A w) → Tied (raw (pass_new 0 0) F C A w) (start no_facts)
  unfolding start no_facts
  blank_tied b = record {
    facts = b.facts ∙ sym (no_rows rows_most);
    captured = b.captured ∙ sym (no_list_entries list_entries_most);
    arguments = b.arguments ∙ sym (no_list_entries list_entries_most);
    works = fresh_works b.work;
  }

-- the tables of another run, its names and captures cleared
pub again_tied : {p : Pass} {F C A w : List ℕ} {s : State} (w' : List ℕ) → Tied (raw p F C A w) s → w' ≡ names_cleared w
    → Tied (raw (pass_new p.captured_top p.arguments_top) F C A w') (start s.facts)
unfolding start
again_tied w' t z = record { facts = t.facts; captured = t.captured; arguments = t.arguments; works = rw z (again_works t.works) }
