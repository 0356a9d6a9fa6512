-- What follows of a state that is held: lengths, and what is threaded beside the table.
use Rattle.std.specs.Prelude.{ℕ, ◌+◌, ◌≤◌, List, ◌≡◌, refl, length}
use Rattle.std.proofs.Common.{ap, ◌∙◌, arith}
use Rattle.table.specs.Laws.Layout.{length-layout}
use Rattle.table.specs.Region.{region}
use Rattle.table.specs.Laws.Region.{region-length}
use Rattle.scope_map.proofs.Laws.Map.{map-length}
use Rattle.pass.specs.State.{State}
use Rattle.pass.specs.Run.{rows_most, list_entries_most}
use Rattle.work.specs.Coded.{second_of, entry_width, put_entry_row, put_binder}
use Rattle.work.specs.Laws.Coded.{entry_long}
use Rattle.work.specs.Works.{work_long, entries_first, entries_length, binders_first, binders_length, record_at, row_of, Beside, Works, Spacious}
use Rattle.work.specs.declared.Pass.{Pass}

-- a part of a work table
pub part_length : (w : List ℕ) → length w ≡ work_long → (a n : ℕ) → a + n ≤ work_long → length (region w a n) ≡ n
part_length w e a n h = region-length w a n (omega arith)

module _ {p : Pass} {w : List ℕ} {s : State} (k : Works p w s) where
  pub spacious : Spacious p w
  spacious = record {
    long = k.long;
    names = k.names.room.rows;
    captures = k.captures.room.rows;
  }

  -- how many names are live, and how many captures
  pub names-many : p.scope.length ≡ length s.scope.names.live
  names-many = k.names.many ∙ map-length record_at s.scope.names.live

  pub captures_many : p.captures.length ≡ length s.captures.live
  captures_many = k.captures.many ∙ map-length row_of s.captures.live

  pub entries_many : length s.scope.entries ≡ rows_most
  entries_many =
      let e = ap length k.entries ∙ length-layout entry_width put_entry_row entry_long s.scope.entries in
      omega (arith, part_length w k.long entries_first entries_length (omega arith))

  pub captured_many : length s.facts.captured ≡ list_entries_most
  captured_many =
      let e = ap length k.binders ∙ length-layout 1 put_binder (λ i. refl) s.facts.captured in
      omega (arith, part_length w k.long binders_first binders_length (omega arith))

  -- the newest layer, and the same of captures
  pub depth_is : p.scope.depth ≡ s.scope.names.depth
  depth_is = k.names.depth

  pub captures_depth : p.captures.depth ≡ s.captures.depth
  captures_depth = k.captures.depth

  pub context_is : p.context ≡ s.context
  context_is = ap (λ (b : Beside). b.context) k.beside

  pub captured_top_lem : p.captured_top ≡ s.facts.captured_top
  captured_top_lem = ap (λ (b : Beside). b.captured_top) k.beside

  pub arguments_top_lem : p.arguments_top ≡ s.facts.arguments_top
  arguments_top_lem = ap (λ (b : Beside). b.arguments_top) k.beside

  pub nine_is : p.nine ≡ s.noted.nine
  nine_is = ap (λ (b : Beside). b.nine) k.beside

  pub ten_is : p.ten ≡ s.noted.ten
  ten_is = ap (λ (b : Beside). b.ten) k.beside

  pub second_is : second_of p.second ≡ s.noted.second
  second_is = ap (λ (b : Beside). b.second) k.beside
