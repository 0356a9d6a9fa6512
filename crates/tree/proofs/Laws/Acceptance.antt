-- The checks 1 to 8 and 16 pass exactly if the records are those of trees within every limit, and those trees are unique.
use Rattle.std.specs.Prelude.{ℕ, ◌%◌, List, [], true, ◌≡◌, length, None}
use Rattle.std.proofs.Common.{ap, sym, subst, ◌∙◌, arith}
use Rattle.tree.specs.Record.{Record, width, numbers, records}
use Rattle.tree.proofs.Laws.Record.{records-numbers, numbers-whole}
use Rattle.tree.specs.Form.{fits}
use Rattle.tree.specs.Tree.{Trees, flats, sizes}
use Rattle.tree.proofs.Laws.Tree.{length_flats, whole_numbers}
use Rattle.tree.specs.Check.{refusal}
use Rattle.tree.specs.Accepted.{All, Distinct, Accepted}
use Rattle.tree.proofs.Laws.Unique.{unique_trees}
use Passes.{passes, passed_none}
use Flat.{walk_flats}
use Fill.{walk_trees}
pub mod Tests
pub mod Walk
pub mod Flat
pub mod Fill
pub mod Ids
pub mod Passes

-- what passes is accepted as some trees
pub accepted : (N : ℕ) (rs : List ℕ) → refusal N rs ≡ None → (ts : Trees) × Accepted N rs ts
accepted N rs e =
    let p = passes N rs e in
    let t = walk_trees N (records rs) p.fields p.walks in (
      t.trees,
      record {
        flat = sym (numbers-whole rs p.whole) ∙ ap (λ (l : List Record). numbers l) t.is_flat;
        num = t.nums;
        fields = subst (λ (l : List Record). All (λ r. fits N r ≡ true) l) t.is_flat p.fields;
        nested = t.nested;
        few = omega (arith, p.few, ap length t.is_flat, length_flats t.trees);
        names = p.names;
        ids = subst (λ (l : List Record). Distinct l) t.is_flat p.ids;
      },
    )

-- the records of an accepted list
pub holds : {N : ℕ} {rs : List ℕ} {ts : Trees} → Accepted N rs ts → records rs ≡ flats ts
holds {ts = ts} a = ap records a.flat ∙ records-numbers (flats ts)

pub many-records : {N : ℕ} {rs : List ℕ} {ts : Trees} → Accepted N rs ts → length (records rs) ≡ sizes ts
many-records {ts = ts} a = ap length (holds a) ∙ length_flats ts

-- what is accepted passes
pub only : (N : ℕ) (rs : List ℕ) (ts : Trees) → Accepted N rs ts → refusal N rs ≡ None
only N rs ts a =
    let e = sym (holds a) in
    passed_none N rs
    (record {
      whole = ap (λ (m : List ℕ). length m % width) a.flat ∙ whole_numbers (flats ts);
      few = omega (arith, a.few, many-records a);
      names = a.names;
      fields = subst (λ (l : List Record). All (λ r. fits N r ≡ true) l) e a.fields;
      walks = subst (λ (l : List Record). Walk.Walk [] l) e (walk_flats ts 0 a.num a.nested);
      ids = subst (λ (l : List Record). Distinct l) e a.ids;
    })

pub unique : {N : ℕ} {rs : List ℕ} {ts us : Trees} → Accepted N rs ts → Accepted N rs us → ts ≡ us
unique {ts = ts} {us = us} a b = unique_trees ts us 0 a.num b.num (sym (holds a) ∙ holds b)
