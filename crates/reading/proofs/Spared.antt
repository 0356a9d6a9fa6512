-- What a line more leaves of the tables.
use Rattle.std.specs.Prelude.{Option, None}
use Prim.Native.Nat.{ℕ, ◌+◌, ◌*◌, ◌^◌, ◌≤◌, ◌<◌}
use mathlib.Core.List.{List, ◌++◌}
use mathlib.Core.Logic.{⊎_elim}
use mathlib.Core.Path.{◌≡◌, ap, sym, subst, ◌∙◌}
use native.Mathlib.Omega.{arith}
use lib.ListN.{length, take, drop, set, length-append, length-set}
use lib.Seq.{sets-eq, set_out, take-set-le, drop-set-lt, take-append-le, take_at, drop_at, length-take-le}
use Rattle.tree.specs.Record.{width}
use Rattle.printing.specs.Laws.Below.{below_or}
use Rattle.reading.specs.Leaves.{Between, begun, Spares}
use Rattle.reading.specs.Laws.Leaves.{between_none, between_then, begun-none, begun-some}
use Rattle.reading.specs.declared.reader.Reading.{Reading}
use Rattle.reading.specs.Held.{shown, spoiled, RowStored}

abbrev pub counted : Option ℕ → ℕ → ℕ → ℕ → ℕ → ℕ → Reading
counted d a n b k z = record { lines = a; bad = d; names = n; classes = b; records = k; length = z }

-- Nothing is stored

pub spares_none : {r : Reading} {T R : List ℕ} → Spares r T R r T R
spares_none = record { classes = between_none; records = between_none }

pub spares_then : {r q p : Reading} {T R T' R' T'' R'' : List ℕ} → Spares r T R q T' R' → Spares q T' R' p T'' R'' → Spares r T R p T'' R''
spares_then v w = record { classes = between_then v.classes w.classes; records = between_then v.records w.records }

pub spares_spoiled : {r q : Reading} {T R : List ℕ} → q ≡ spoiled r → Spares r T R q T R
spares_spoiled {r} {q} {T} {R} e = subst (λ (x : Reading). Spares r T R x T R) (sym e) (record { classes = between_none; records = between_none })

pub spares_first : {r : Reading} {n : ℕ} {T R : List ℕ} → r.lines ≡ 0 → Spares r T R (counted None 1 n 0 0 0) T R
unfolding begun
spares_first {r} h = record { classes = rw (begun-none r.classes h) between_none; records = rw (begun-none r.records h) between_none }

-- A class or a record is

between_set : (T T' : List ℕ) (i c : ℕ) → i < 2 ^ 64 → length T < 2 ^ 64 → T' ≡ set T i c → Between i (shown (i + 1)) T T'
between_set T T' i c h g e = record {
  onward = omega arith;
  long = ap length e ∙ length-set T i c;
  before = ap (take i) e ∙ take-set-le i T i c (omega arith);
  past =
      ap (drop (shown (i + 1))) e
      ∙ ⊎_elim (λ u. drop-set-lt (shown (i + 1)) T i c (omega arith)) (λ u. ap (drop (shown (i + 1))) (set_out T i c u)) (below_or i (length T));
}

module _ {R R' row : List ℕ} {i : ℕ} (small : i < 2 ^ 64) (long : length row ≡ width) (w : RowStored R i row R') where
  row_in : width * i + width ≤ length R → Between (width * i) (width * shown (i + 1)) R R'
  row_in h =
      let k : width * shown (i + 1) ≡ width * i + width = omega (arith, w.small) in
      let l : length (take (width * i) R) ≡ width * i = length-take-le (width * i) R (omega arith) in
      let m : length (take (width * i) R ++ row) ≡ width * i + width = length-append (take (width * i) R) row ∙ omega arith in
      let e : R' ≡ (take (width * i) R ++ row) ++ drop (width * i + width) R =
      w.is h ∙ sets-eq row R (width * i) (omega arith) ∙ ap (λ (n : ℕ). (take (width * i) R ++ row) ++ drop (width * i + n) R) long in
      record {
        onward = omega arith;
        long = w.long;
        before =
            ap (take (width * i)) e
            ∙ take-append-le (width * i) (take (width * i) R ++ row) (drop (width * i + width) R) (omega arith)
            ∙ take_at (take (width * i) R) row (width * i) l;
        past = rw k (ap (drop (width * i + width)) e ∙ drop_at (take (width * i) R ++ row) (drop (width * i + width) R) (width * i + width) m);
      }

  row_out : length R < width * i + width → Between (width * i) (width * shown (i + 1)) R R'
  row_out h = record {
    onward = omega arith;
    long = w.long;
    before = ap (take (width * i)) (w.out h);
    past = ap (drop (width * shown (i + 1))) (w.out h);
  }

  between_row : Between (width * i) (width * shown (i + 1)) R R'
  between_row = ⊎_elim row_out row_in (below_or (length R) (width * i + width))

module _ (r : Reading) (started : ¬ (r.lines ≡ 0)) {a b : ℕ} (ea : a ≡ shown (r.lines + 1)) where
  pub spares_class : {T T' R : List ℕ} (c : ℕ) → r.classes < 2 ^ 64 → length T < 2 ^ 64 → b ≡ shown (r.classes + 1) → T' ≡ set T r.classes c
      → Spares r T R (counted r.bad a r.names b r.records 0) T' R
  spares_class {T} {T'} {R} c h g eb e =
      let z : ¬ (a ≡ 0) = λ y. started (omega arith) in
      record {
        classes = rw (begun-some r.classes started, begun-some b z, eb) (between_set T T' r.classes c h g e);
        records = rw (begun-some r.records started, begun-some r.records z) between_none;
      }

  pub spares_record : {T R R' row : List ℕ} → r.records < 2 ^ 64 → length row ≡ width → b ≡ shown (r.records + 1) → RowStored R r.records row R'
      → Spares r T R (counted r.bad a r.names r.classes b 0) T R'
  spares_record h long eb w =
      let z : ¬ (a ≡ 0) = λ y. started (omega arith) in
      record {
        classes = rw (begun-some r.classes started, begun-some r.classes z) between_none;
        records = rw (begun-some r.records started, begun-some b z, eb) (between_row h long w);
      }
