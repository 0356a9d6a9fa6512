-- Rows of entries, against their numbers. No place of the code stands here.
use Prim.Native.Nat.{ℕ, ◌+◌, ◌*◌, ◌/◌, ◌%◌, ◌<◌}
use mathlib.Core.List.{List, ◌∷◌}
use mathlib.Core.Bool.{Bool, true, false, ◌&&◌}
use mathlib.Core.Path.{◌≡◌, refl, ap, sym, ◌∙◌}
use native.Mathlib.Omega.{arith}
use borrow.Author.Tests.{eq-eqb, ne_eqb}
use lib.ListN.{get_or, set, drop}
use lib.Seq.{sets}
use lib.Dec.{eqb}
use Rattle.table.specs.Laws.Leaves.{stores_row, tells_number, tells_first, amends_number, amends_then}
use Rattle.semantic.specs.Rows.{ListEntry, marks, put_info, no_list_entry, list_entry_width, put_list_entry}
use Rattle.semantic.specs.Laws.Rows.{list-entry_long}
use Rattle.semantic.specs.ListEntries.{on_info, with_capture_offsets, with_heap_offsets}
use Rattle.semantic.specs.Decode.{info_of}
use Rattle.semantic.specs.Laws.Decode.{info_back}
use Rattle.semantic.specs.Laws.Marks.{captured_mark, mutated_mark}
use Rattle.semantic.specs.Leaves.{Amends, Tells, StoresListEntry}
use Rattle.semantic.specs.declared.ScopeInfo.{ScopeInfo}

-- a row but for the number that a call gave
pub list-entry-row : (name : ℕ) (v : ScopeInfo) {n : ℕ} → n ≡ marks v.captured v.escapes v.captured_from_enclosing v.mutated
    → name ∷ v.id ∷ n ∷ drop 2 (put_info v) ≡ name ∷ put_info v
unfolding put_info
list-entry-row name v e = ap (λ (n : ℕ). name ∷ v.id ∷ n ∷ drop 2 (put_info v)) e

-- captured and mutated, from the number
heap_mark : (c e n u : Bool) (m : ℕ) → m ≡ marks c e n u → m % 2 ≡ 1 → eqb (m / 8 % 2) 1 ≡ (c && u)
heap_mark c e n u m q h =
    let captured : c ≡ true = sym (captured_mark c e n u) ∙ ap (λ (k : ℕ). eqb (k % 2) 1) (sym q) ∙ eq-eqb (m % 2) 1 h in
    ap (λ (k : ℕ). eqb (k / 8 % 2) 1) q ∙ mutated_mark c e n u ∙ sym (ap (λ (b : Bool). b && u) captured)

no_heap_mark : (c e n u : Bool) (m : ℕ) → m ≡ marks c e n u → (m % 2 ≡ 1 → ⊥) → eqb (m % 2) 1 ≡ (c && u)
no_heap_mark c e n u m q h =
    let captured : c ≡ false = sym (captured_mark c e n u) ∙ ap (λ (k : ℕ). eqb (k % 2) 1) (sym q) ∙ ne_eqb (m % 2) 1 h in
    ne_eqb (m % 2) 1 h ∙ sym (ap (λ (b : Bool). b && u) captured)

module _ (F : List ℕ) (i : ℕ) where
  pub info_told : {row : List ℕ} {r : ScopeInfo} → Tells put_list_entry no_list_entry put_list_entry F i row → r ≡ info_of row → Tells put_list_entry no_list_entry (λ x. x.info) F i r
  info_told t k = record { is = λ l e h. k ∙ ap info_of (t.is l e h) ∙ info_back (get_or l i no_list_entry) }

  pub name_told : Tells put_list_entry no_list_entry (λ x. x.binder.name) F i (get_or F (list_entry_width * i) 0)
  unfolding put_list_entry put_info
  name_told = tells_first list_entry_width put_list_entry list-entry_long no_list_entry F i (omega arith)

  -- the number of the yes-or-no fields
  abbrev number : ℕ
  number = get_or F (list_entry_width * i + 2) 0

  marks-told : Tells put_list_entry no_list_entry (λ x. marks x.info.captured x.info.escapes x.info.captured_from_enclosing x.info.mutated) F i number
  unfolding put_list_entry put_info
  marks-told = tells_number list_entry_width put_list_entry list-entry_long no_list_entry F i 2 (omega arith)

  pub heap_told : number % 2 ≡ 1 → Tells put_list_entry no_list_entry (λ x. x.info.captured && x.info.mutated) F i (eqb (number / 8 % 2) 1)
  heap_told k = record {
    is = λ l e h.
        let v = (get_or l i no_list_entry).info in
        heap_mark v.captured v.escapes v.captured_from_enclosing v.mutated number (marks-told.is l e h) k;
  }

  pub no_heap_told : (number % 2 ≡ 1 → ⊥) → Tells put_list_entry no_list_entry (λ x. x.info.captured && x.info.mutated) F i (eqb (number % 2) 1)
  no_heap_told k = record {
    is = λ l e h.
        let v = (get_or l i no_list_entry).info in
        no_heap_mark v.captured v.escapes v.captured_from_enclosing v.mutated number (marks-told.is l e h) k;
  }

  pub stores_list-entry : (name : ℕ) (info : ScopeInfo) {row F' : List ℕ} → row ≡ name ∷ put_info info → F' ≡ sets F (list_entry_width * i) row → StoresListEntry F i name info F'
  unfolding put_list_entry
  stores_list-entry name info {row} e k = record {
    is = λ x n v. let q : row ≡ put_list_entry x = rw (n, v) e in stores_row list_entry_width put_list_entry list-entry_long no_list_entry F i x (k ∙ ap (sets F (list_entry_width * i)) q);
  }

  -- number j of an entry's row is written
  pub sets_field : (f : ScopeInfo → ScopeInfo) (j x : ℕ) → j < list_entry_width → ((a : ListEntry) → put_list_entry (on_info f a) ≡ set (put_list_entry a) j x)
      → Amends put_list_entry no_list_entry (on_info f) F i (set F (list_entry_width * i + j) x)
  sets_field f j x g k = amends_number list_entry_width put_list_entry list-entry_long no_list_entry F i (on_info f) j x g (λ l e h. k (get_or l i no_list_entry))

-- Several numbers, one after another

module _ (F : List ℕ) (i : ℕ) where
  pub sets_capture_offsets : (offset read : ℕ)
      → Amends put_list_entry no_list_entry (on_info (with_capture_offsets offset read)) F i (set (set F (list_entry_width * i + 6) offset) (list_entry_width * i + 8) read)
  unfolding put_list_entry put_info
  sets_capture_offsets offset read =
      amends_then put_list_entry no_list_entry
      (sets_field F i (λ v. with_capture_offsets offset v.read_capture_offset v) 6 offset (omega arith) (λ a. refl))
      (sets_field _ i (λ v. with_capture_offsets v.capture_offset read v) 8 read (omega arith) (λ a. refl))

  pub sets_heap_offsets : (heap read parent local : ℕ)
      → Amends put_list_entry no_list_entry (on_info (with_heap_offsets heap read parent local)) F i
      (set (set (set (set F (list_entry_width * i + 7) heap) (list_entry_width * i + 9) read) (list_entry_width * i + 10) parent) (list_entry_width * i + 11) local)
  unfolding put_list_entry put_info
  sets_heap_offsets heap read parent local =
      amends_then put_list_entry no_list_entry
      (amends_then put_list_entry no_list_entry
      (amends_then put_list_entry no_list_entry
      (sets_field F i (λ v. with_heap_offsets heap v.read_heap_offset v.parent_heap_offset v.local_heap_offset v) 7 heap (omega arith) (λ a. refl))
      (sets_field _ i (λ v. with_heap_offsets v.heap_offset read v.parent_heap_offset v.local_heap_offset v) 9 read (omega arith) (λ a. refl)))
      (sets_field _ i (λ v. with_heap_offsets v.heap_offset v.read_heap_offset parent v.local_heap_offset v) 10 parent (omega arith) (λ a. refl)))
      (sets_field _ i (λ v. with_heap_offsets v.heap_offset v.read_heap_offset v.parent_heap_offset local v) 11 local (omega arith) (λ a. refl))
