-- One line more: what the state then says.
use Rattle.std.specs.Prelude.{None, Some}
use Prim.Native.Nat.{ℕ, suc, ◌+◌, ◌*◌, ◌^◌, ◌≤◌, ◌<◌}
use mathlib.Core.List.{List, [], ◌∷◌, ◌++◌}
use mathlib.Core.Path.{◌≡◌, refl, ap, sym, subst, ◌∙◌}
use native.Mathlib.Omega.{arith}
use lib.ListN.{length, take, drop, set, length-append, length-set}
use lib.Seq.{sets, sets-eq, take-suc-set, take_at, length-take-le}
use Rattle.table.specs.Layout.{layout}
use Rattle.table.specs.Laws.Layout.{layout-append}
use Rattle.tree.specs.Record.{Record, put, numbers, width}
use Rattle.printing.specs.Text.{names_marks, class_marks, record_marks}
use Rattle.reading.specs.Reading.{numbers_of, Said, nothing, says, differs, next, first, class, entry, record_of, with_line}
use Rattle.reading.specs.Input.{Below, none_left, one_more_lem}
use Rattle.reading.specs.Laws.Line.{numbers_sound}
use Rattle.reading.specs.Laws.Read.{line-class, line_record, class-fits, class-over}
use Rattle.reading.specs.declared.reader.Reading.{Reading}
use Rattle.reading.specs.Held.{shown, spoiled, Says, Tied, tied_nothing, tied_says, Turned, turned, spoilt, Turns, First, Class, Entry, RowStored}
use Rattle.reading.specs.Leaves.{Spares}
use Rattle.reading.proofs.Spared.{counted}

-- A bad line

module _ {r q : Reading} {n : ℕ} {cs : List ℕ} {rs : List Record} {T R T' R' l : List ℕ} (v : Says r n cs rs T R) (e : q ≡ spoiled r) where
  spoils : with_line (says n cs rs) l ≡ differs (next (says n cs rs)) → Turned (says n cs rs) l q T' R'
  unfolding next
  spoils d =
      let k : shown (r.lines + 1) ≡ shown (2 + length cs + length rs) = omega (arith, v.lines) in
      spoilt (ap (λ (x : Reading). x.bad) e ∙ ap Some k) d

  pub class-none : length cs < n → numbers_of class_marks l ≡ None → Turned (says n cs rs) l q T' R'
  unfolding class
  class-none h o = spoils (line-class n cs rs l h ∙ ap (class n cs rs) o)

  pub class_large : length cs < n → {c : ℕ} → numbers_of class_marks l ≡ Some (c ∷ []) → 256 ≤ c → Turned (says n cs rs) l q T' R'
  class_large h {c} o g = spoils (line-class n cs rs l h ∙ ap (class n cs rs) o ∙ class-over n cs rs (c ∷ []) g)

  pub record_none : n ≤ length cs → numbers_of record_marks l ≡ None → Turned (says n cs rs) l q T' R'
  unfolding entry
  record_none h o = spoils (line_record n cs rs l h ∙ ap (entry n cs rs) o)

-- The first line

pub first-none : (r : Reading) {q : Reading} {T R l : List ℕ} → q ≡ spoiled r → r.lines ≡ 0 → numbers_of names_marks l ≡ None → Turned nothing l q T R
unfolding next with_line first
first-none r e h o =
    let k : shown (r.lines + 1) ≡ shown 1 = omega arith in
    spoilt (ap (λ (x : Reading). x.bad) e ∙ ap Some k) (ap first o)

pub first_some : {T R l : List ℕ} {n : ℕ} → n < 2 ^ 32 → numbers_of names_marks l ≡ Some (n ∷ []) → Turned nothing l (counted None 1 n 0 0 0) T R
unfolding with_line first layout
first_some {T} {R} {l} {n} h o =
    let e : with_line nothing l ≡ says n [] [] = ap first o in
    turned refl
    (rw e
    (tied_says {cs = []} {rs = []}
    (record {
      fine = refl;
      lines = refl;
      names = refl;
      few = h;
      classes = refl;
      most = omega arith;
      records = refl;
      kept = record { classes = λ g. refl; records = λ g. refl };
    })))

-- A class line

keeps_class : (cs T : List ℕ) (c : ℕ) → (length cs ≤ length T → take (length cs) T ≡ cs) → length (cs ++ (c ∷ [])) ≤ length (set T (length cs) c)
    → take (length (cs ++ (c ∷ []))) (set T (length cs) c) ≡ cs ++ (c ∷ [])
keeps_class cs T c k h =
    let a : length (cs ++ (c ∷ [])) ≡ suc (length cs) = length-append cs (c ∷ []) ∙ omega arith in
    let b : length cs < length T = omega (arith, length-set T (length cs) c) in
    ap (λ (i : ℕ). take i (set T (length cs) c)) a ∙ take-suc-set T (length cs) c b ∙ ap (λ (m : List ℕ). m ++ (c ∷ [])) (k (omega arith))

pub class-some : {r : Reading} {n : ℕ} {cs : List ℕ} {rs : List Record} {T R T' l : List ℕ} {a b c : ℕ} → Says r n cs rs T R → length cs < n → c < 256
    → numbers_of class_marks l ≡ Some (c ∷ []) → a ≡ shown (r.lines + 1) → b ≡ shown (r.classes + 1) → T' ≡ set T r.classes c
    → Turned (says n cs rs) l (counted r.bad a r.names b r.records 0) T' R
class-some {r} {n} {cs} {rs} {T} {R} {T'} {l} {a} {b} {c} v h g o ea eb et =
    let e : with_line (says n cs rs) l ≡ says n (cs ++ (c ∷ [])) rs = line-class n cs rs l h ∙ ap (class n cs rs) o ∙ class-fits n cs rs (c ∷ []) g in
    let k : length (cs ++ (c ∷ [])) ≡ length cs + 1 = length-append cs (c ∷ []) in
    let t : T' ≡ set T (length cs) c = et ∙ ap (λ (i : ℕ). set T i c) v.classes in
    turned refl
    (rw e
    (tied_says {cs = cs ++ (c ∷ [])} {rs = rs}
    (record {
      fine = v.fine;
      lines = omega (arith, v.lines);
      names = v.names;
      few = v.few;
      classes = omega (arith, v.classes, v.few);
      most = omega arith;
      records = v.records;
      kept = record { classes = rw t (keeps_class cs T c v.kept.classes); records = v.kept.records };
    })))

-- A record line

keeps_record : (rs : List Record) (R R' : List ℕ) (x : Record) (i : ℕ) → i ≡ shown (length rs)
    → (width * length rs ≤ length R → take (width * length rs) R ≡ numbers rs)
    → RowStored R i (put x) R' → width * length (rs ++ (x ∷ [])) ≤ length R' → take (width * length (rs ++ (x ∷ []))) R' ≡ numbers (rs ++ (x ∷ []))
unfolding layout
keeps_record rs R R' x i e k w h =
    let a : length (rs ++ (x ∷ [])) ≡ length rs + 1 = length-append rs (x ∷ []) in
    let j : i ≡ length rs = omega (arith, w.long, w.small) in
    let f : width * length rs + width ≤ length R = omega (arith, w.long) in
    let g : width * i + width ≤ length R = omega arith in
    let t : R' ≡ (take (width * length rs) R ++ put x) ++ drop (width * length rs + width) R =
    w.is g ∙ ap (λ (y : ℕ). sets R (width * y) (put x)) j ∙ sets-eq (put x) R (width * length rs) f in
    let z : length (take (width * length rs) R ++ put x) ≡ width * length (rs ++ (x ∷ [])) =
    length-append (take (width * length rs) R) (put x) ∙ omega (arith, length-take-le (width * length rs) R (omega arith)) in
    ap (take (width * length (rs ++ (x ∷ [])))) t
    ∙ take_at (take (width * length rs) R ++ put x) (drop (width * length rs + width) R) (width * length (rs ++ (x ∷ []))) z
    ∙ ap (λ (m : List ℕ). m ++ put x) (k (omega arith))
    ∙ sym (layout-append put rs (x ∷ []))

row_is : {ns : List ℕ} → Below record_marks ns → ns ≡ put (record_of ns)
row_is (one_more_lem a (one_more_lem b (one_more_lem c (one_more_lem d (one_more_lem e (one_more_lem f none_left)))))) = refl

pub record_long : (l : List ℕ) {ns : List ℕ} → numbers_of record_marks l ≡ Some ns → length ns ≡ width
record_long l {ns} o = ap length (row_is (numbers_sound record_marks l ns o).below)

pub record_some : {r : Reading} {n : ℕ} {cs : List ℕ} {rs : List Record} {T R R' l ns : List ℕ} {a b : ℕ} → Says r n cs rs T R → n ≤ length cs
    → numbers_of record_marks l ≡ Some ns → a ≡ shown (r.lines + 1) → b ≡ shown (r.records + 1) → RowStored R r.records ns R'
    → Turned (says n cs rs) l (counted r.bad a r.names r.classes b 0) T R'
unfolding entry
record_some {r} {n} {cs} {rs} {T} {R} {R'} {l} {ns} v h o ea eb w =
    let e : with_line (says n cs rs) l ≡ says n cs (rs ++ (record_of ns ∷ [])) = line_record n cs rs l h ∙ ap (entry n cs rs) o in
    let k : length (rs ++ (record_of ns ∷ [])) ≡ length rs + 1 = length-append rs (record_of ns ∷ []) in
    let p : RowStored R r.records (put (record_of ns)) R' =
    subst (λ (m : List ℕ). RowStored R r.records m R') (row_is (numbers_sound record_marks l ns o).below) w in
    turned refl
    (rw e
    (tied_says {cs = cs} {rs = rs ++ (record_of ns ∷ [])}
    (record {
      fine = v.fine;
      lines = omega (arith, v.lines);
      names = v.names;
      few = v.few;
      classes = v.classes;
      most = v.most;
      records = omega (arith, v.records);
      kept = record { classes = v.kept.classes; records = keeps_record rs R R' (record_of ns) r.records v.records v.kept.records p };
    })))

-- Which line is due

turns : {r q : Reading} {l T R T' R' : List ℕ} → Spares r T R q T' R' → (Tied r T R nothing → Turned nothing l q T' R')
    → ((n : ℕ) (cs : List ℕ) (rs : List Record) → Says r n cs rs T R → Turned (says n cs rs) l q T' R') → Turns l r T R q T' R'
turns {r} {q} {l} {T} {R} {T'} {R'} k f g = record { is = go; spares = k }
  where
    go : (s : Said) → Tied r T R s → Turned s l q T' R'
    go nothing (tied_nothing h e) = f (tied_nothing h e)
    go (says n cs rs) (tied_says v) = g n cs rs v
    go (differs k) t = elim t [ ]

pub turns_first : {r q : Reading} {l T R : List ℕ} → r.lines ≡ 0 → First l r q → Turns l r T R q T R
turns_first {r} {q} {l} {T} {R} h w = turns (w.spares T R h) (λ t. w.is T R h) (λ n cs rs v. absurd (omega (arith, v.lines)))

begun : {r : Reading} {T R : List ℕ} → (r.lines ≡ 0 → ⊥) → Tied r T R nothing → ⊥
begun h (tied_nothing g e) = h g

pub turns_class : {r q : Reading} {l T R T' : List ℕ} → (r.lines ≡ 0 → ⊥) → r.classes < r.names → Class l r T q T' → Turns l r T R q T' R
turns_class {R = R} h g w = turns (w.spares R h) (λ t. absurd (begun h t)) (λ n cs rs v. w.is R n cs rs v (omega (arith, v.classes, v.names)))

pub turns_record : {r q : Reading} {l T R R' : List ℕ} → (r.lines ≡ 0 → ⊥) → r.names ≤ r.classes → Entry l r R q R' → Turns l r T R q T R'
turns_record {T = T} h g w = turns (w.spares T h) (λ t. absurd (begun h t)) (λ n cs rs v. w.is T n cs rs v (omega (arith, v.classes, v.names)))
