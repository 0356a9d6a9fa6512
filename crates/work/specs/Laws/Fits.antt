-- A good state that is held: where its rows lie, and how it changes with them.
use Rattle.std.specs.Prelude.{ℕ, ◌+◌, ◌*◌, ◌≤◌, ◌<◌, List, ◌≡◌, length}
use Rattle.std.proofs.Common.{ap, arith}
use Rattle.table.specs.Laws.Layout.{length-layout}
use Rattle.semantic.specs.Rows.{Row, Blank, row_width, put_row, list_entry_width, put_list_entry}
use Rattle.semantic.specs.Laws.Rows.{row_long, list-entry_long}
use Rattle.semantic.specs.Amend.{amended}
use Rattle.semantic.specs.Leaves.{Stores, Amends, Tells}
use Rattle.semantic.specs.Laws.Leaves.{row_inside}
use Rattle.semantic.specs.declared.SemanticInformation.{SemanticInformation}
use Rattle.pass.specs.State.{State, row_at, insert, amend, with_context}
use Rattle.pass.specs.Run.{rows_most, list_entries_most, facts_length, list_entries_length}
use Rattle.work.specs.Passes.{in_context}
use Rattle.work.specs.Laws.Kept.{context_kept}
use Rattle.work.specs.Tied.{Raw, raw, Tied}
use Rattle.work.specs.Laws.Tied as laws

-- the same but for the facts, or for the context
abbrev pub on_facts : List ℕ → Raw → Raw
on_facts F z = raw z.pass F z.captured z.arguments z.work

abbrev pub on_context : ℕ → Raw → Raw
on_context c z = raw (in_context c z.pass) z.facts z.captured z.arguments z.work

-- Rows of the facts

pub facts_length_lem : {z : Raw} {s : State} → Tied z s → length s.facts.rows ≡ rows_most → length z.facts ≡ facts_length
facts_length_lem {s = s} t many = omega (arith, ap length t.facts, length-layout row_width put_row row_long s.facts.rows)

pub arguments_length : {z : Raw} {s : State} → Tied z s → length s.facts.arguments ≡ list_entries_most → length z.arguments ≡ list_entries_length
arguments_length {s = s} t many = omega (arith, ap length t.arguments, length-layout list_entry_width put_list_entry list-entry_long s.facts.arguments)

module _ {z : Raw} {s : State} (t : Tied z s) (many : length s.facts.rows ≡ rows_most) (i : ℕ) (h : i < rows_most) where
  pub fact_inside : row_width * i + row_width ≤ length z.facts
  fact_inside = row_inside s.facts.rows t.facts (omega arith)

  pub tied_insert : (r : Row) {F : List ℕ} → Stores put_row z.facts i r F → Tied (on_facts F z) (insert i r s)
  tied_insert r k = laws.tied_insert t (omega arith) k

  pub tied_amend : (f : SemanticInformation → SemanticInformation) {F : List ℕ} → Amends put_row Blank (amended f) z.facts i F
      → Tied (on_facts F z) (amend f i s)
  tied_amend f k = laws.tied_amend t (omega arith) k

  -- what a row says
  pub told : {B : Type 0} (f : Row → B) {r : B} → Tells put_row Blank f z.facts i r → r ≡ f (row_at s i)
  told f k = k.is s.facts.rows t.facts (omega arith)

pub tied_context : {z : Raw} {s : State} (c : ℕ) → Tied z s → Tied (on_context c z) (with_context c s)
tied_context c t = record { facts = t.facts; captured = t.captured; arguments = t.arguments; works = context_kept t.works c }
