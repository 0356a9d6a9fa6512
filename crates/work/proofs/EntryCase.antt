-- Entries, against their rows.
use Prim.Native.Nat.{ℕ, ◌+◌, ◌*◌, ◌/◌, ◌%◌, ◌≤◌, ◌<◌}
use mathlib.Core.List.{List}
use mathlib.Core.Bool.{Bool}
use mathlib.Core.Path.{◌≡◌, ap, ◌∙◌}
use native.Mathlib.Omega.{arith}
use native.Mathlib.Nat.{add-mul-mod_self_left, mod-eq_of_lt}
use lib.ListN.{length, set}
use lib.Seq.{sets}
use Rattle.table.specs.Laws.Leaves.{tells_row, stores_row}
use Rattle.table.specs.Region.{region}
use Rattle.tree.specs.Tree.{bit}
use Rattle.semantic.specs.Laws.Numbers.{bit-one}
use Rattle.semantic.specs.Laws.Marks.{bit_low}
use Rattle.pass.specs.State.{no_entry, entry_at, put_entry}
use Rattle.pass.specs.Run.{rows_most}
use Rattle.work.specs.Coded.{coded, entry_width, put_coded, put_entry_row}
use Rattle.work.specs.Laws.Coded.{entry_long}
use Rattle.work.specs.Works.{work_long, entries_first, entries_length}
use Rattle.work.specs.Laws.Works.{entries_many}
use Rattle.work.specs.Entries.{entry_of}
use Rattle.work.specs.Leaves.{LoadsEntry, StoresEntry}
use Rattle.work.specs.declared.entries.Entry.{Entry as Coded}
use Rattle.work.proofs.Changes.{read-part, write_part, write_elsewhere, entries_changed}

low_bit : (b : Bool) (k : ℕ) → (bit b + 2 * k) % 2 ≡ bit b
low_bit b k = add-mul-mod_self_left (bit b) 2 k ∙ mod-eq_of_lt (omega (arith, bit_low b))

entry-back : (e : Coded) → entry_of (put_coded e) ≡ e
unfolding entry_of put_coded
entry-back e =
    let n = bit e.captured + 2 * bit e.mutated + 4 * e.uses in
    let z : n ≡ bit e.captured + 2 * (bit e.mutated + 2 * e.uses) = omega arith in
    let y : n / 2 ≡ bit e.mutated + 2 * e.uses = omega (arith, bit_low e.captured) in
    let a : n % 2 ≡ bit e.captured = ap (λ (m : ℕ). m % 2) z ∙ low_bit e.captured (bit e.mutated + 2 * e.uses) in
    let b : n / 2 % 2 ≡ bit e.mutated = ap (λ (m : ℕ). m % 2) y ∙ low_bit e.mutated e.uses in
    let c : n / 4 ≡ e.uses = omega (arith, bit_low e.captured, bit_low e.mutated) in
    rw (a, b, c, bit-one e.captured, bit-one e.mutated)

module _ (w : List ℕ) (at : ℕ) (h : at < rows_most) where
  abbrev t : List ℕ
  t = region w entries_first entries_length

  pub loads_entry : {row : List ℕ} → row ≡ region w (entries_first + entry_width * at) entry_width → LoadsEntry w at (entry_of row)
  loads_entry e = record {
    is = λ p s k.
        let q = e ∙ read-part w entries_first entries_length (omega (arith, k.long)) (entry_width * at) entry_width (omega arith) in
        ap entry_of ((tells_row entry_width put_entry_row entry_long no_entry t at q).is s.scope.entries k.entries (omega (arith, entries_many k)))
        ∙ entry-back (coded (entry_at s at));
  }

  pub stores_entry : (e : Coded) {w' : List ℕ} → length w ≡ work_long → w' ≡ sets w (entries_first + entry_width * at) (put_coded e) → StoresEntry w at e w'
  unfolding put_entry put_coded
  stores_entry e z q =
      let i : entries_first + entries_length ≤ length w = omega arith in
      rw q
      (record {
        is = λ p s v k c.
            entries_changed k (set s.scope.entries at v)
            (write_elsewhere (put_coded e) w entries_first entries_length (entry_width * at) i (omega arith))
            (write_part (put_coded e) w entries_first entries_length (entry_width * at) i (omega arith)
            ∙ (stores_row entry_width put_entry_row entry_long no_entry t at v (ap (λ (e : Coded). sets t (entry_width * at) (put_coded e)) c)).is
            s.scope.entries k.entries
            (omega (arith, entries_many k)));
      })
