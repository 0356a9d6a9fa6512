-- Where the parameters and let names of an accepted tree stand: the record that has a name's id is the name's own, and it tells the name's slot.
use Rattle.std.specs.Prelude.{ℕ, suc, ◌+◌, ◌≡◌, refl, length, Option, None, Some, slice_get}
use mathlib.Core.List.{List, [], ◌∷◌, ◌++◌, map, map-append}
use Rattle.std.proofs.Common.{ap, sym, ◌∙◌}
use native.Mathlib.Omega.{arith}
use Rattle.std.proofs.lemmas.List.{length-map}
use Rattle.tree.specs.Record.{Record}
use Rattle.tree.specs.Tree.{Ident, Tree, Trees, ident, const, if, letin, define, lambda, sequence, call, set!, nil, cons, many, head, named, bit, flat, flats, size, sizes, NumNames, Num, Nums, node_in, form_in}
use Rattle.tree.proofs.Laws.Tree.{length_flat, length_flats}
use Rattle.tree.specs.Accepted.{Accepted}
use Rattle.semantic.specs.Rows.{Row}
use Rattle.lockstep.specs.Facts.{row_of, row_of_id}
use Rattle.lockstep.proofs.Laws.Simulation.Lists.{at-append, at_seam, at_map}
use Rattle.lockstep.proofs.Laws.Simulation.Ids.{row_of_id_lem}

-- The records of a tree in preorder, each with the slot of the name that it binds, 0 where it binds none. A let's names take the slots from its height
-- on, a lambda's those from 0 on.

unfoldable pub mark_names : List Ident → ℕ → List (Record × ℕ)
mark_names [] s = []
mark_names (x ∷ xs) s = (named x, s) ∷ mark_names xs (suc s)

unfoldable mutual
  pub marks : Tree → ℕ → List (Record × ℕ)
  marks (ident x) h = (named x, 0) ∷ []
  marks (const n q) h = (head 2 n (bit q) 0, 0) ∷ []
  marks (if n a b c) h = (head 3 n 0 0, 0) ∷ (marks a h ++ (marks b h ++ marks c h))
  marks (letin n xs es b) h = (head 4 n 0 (length xs), 0) ∷ (mark_names xs h ++ (marks_rising es h ++ marks b (h + length xs)))
  marks (define n x b) h = (head 5 n 0 0, 0) ∷ (named x, 0) ∷ marks b h
  marks (lambda n xs b) h = (head 6 n 0 (length xs), 0) ∷ (mark_names xs 0 ++ marks b (length xs))
  marks (sequence n es) h = (head (form_in n) (node_in n) 0 (many es), 0) ∷ marks_all es h
  marks (call n f es) h = (head 8 n 0 (suc (many es)), 0) ∷ (marks f (h + many es) ++ marks_rising es h)
  marks (set! n x e) h = (head 9 n 0 0, 0) ∷ (named x, 0) ∷ marks e h

  -- arguments or initial expressions: each leaves a value
  pub marks_rising : Trees → ℕ → List (Record × ℕ)
  marks_rising nil h = []
  marks_rising (cons e es) h = marks e h ++ marks_rising es (suc h)

  pub marks_all : Trees → ℕ → List (Record × ℕ)
  marks_all nil h = []
  marks_all (cons e es) h = marks e h ++ marks_all es h

abbrev record_of : Record × ℕ → Record
record_of m = m.0

names-records : (xs : List Ident) (s : ℕ) → map record_of (mark_names xs s) ≡ map named xs
unfolding mark_names
names-records [] s = refl
names-records (x ∷ xs) s = ap (λ (l : List Record). named x ∷ l) (names-records xs (suc s))

mutual
  unfolding marks flat

  marks-records : (t : Tree) (h : ℕ) → map record_of (marks t h) ≡ flat t
  marks-records (ident x) h = refl
  marks-records (const n q) h = refl
  marks-records (if n a b c) h = simp (map-append, marks-records a h, marks-records b h, marks-records c h)
  marks-records (letin n xs es b) h = simp (map-append, names-records xs h, rising_records es h, marks-records b (h + length xs))
  marks-records (define n x b) h = simp (marks-records b h)
  marks-records (lambda n xs b) h = simp (map-append, names-records xs 0, marks-records b (length xs))
  marks-records (sequence n es) h = simp (all-records es h)
  marks-records (call n f es) h = simp (map-append, marks-records f (h + many es), rising_records es h)
  marks-records (set! n x e) h = simp (marks-records e h)

  rising_records : (es : Trees) (h : ℕ) → map record_of (marks_rising es h) ≡ flats es
  rising_records nil h = refl
  rising_records (cons e es) h = simp (map-append, marks-records e h, rising_records es (suc h))

  all-records : (es : Trees) (h : ℕ) → map record_of (marks_all es h) ≡ flats es
  all-records nil h = refl
  all-records (cons e es) h = simp (map-append, marks-records e h, all-records es h)

length-names : (xs : List Ident) (s : ℕ) → length (mark_names xs s) ≡ length xs
unfolding mark_names
length-names [] s = refl
length-names (x ∷ xs) s = ap suc (length-names xs (suc s))

length-marks : (t : Tree) (h : ℕ) → length (marks t h) ≡ size t
length-marks t h = sym (length-map (marks t h) record_of) ∙ ap length (marks-records t h) ∙ length_flat t

length_rising : (es : Trees) (h : ℕ) → length (marks_rising es h) ≡ sizes es
length_rising es h = sym (length-map (marks_rising es h) record_of) ∙ ap length (rising_records es h) ∙ length_flats es

-- the slot of the name that the record i binds
abbrev slot_in : Option (Record × ℕ) → ℕ
slot_in None = 0
slot_in (Some m) = m.1

unfoldable pub slot_at : Trees → ℕ → ℕ
slot_at ts i = slot_in (slice_get (marks_all ts 0) i)

-- l stands in L from the place i on
record From {A : Type 0} (L : List A) (i : ℕ) (l : List A) : Type 0 where
  at : (j : ℕ) (a : A) → slice_get l j ≡ Some a → slice_get L (i + j) ≡ Some a

module _ {A : Type 0} {L : List A} {i : ℕ} where
  from_tail : {a : A} {l : List A} → From L i (a ∷ l) → From L (i + 1) l
  from_tail f = record { at = λ j b e. let q : i + 1 + j ≡ i + suc j = omega arith in rw q (f.at (suc j) b e) }

  from_append : (l : List A) {r : List A} {k : ℕ} → i + length l ≡ k → From L i (l ++ r) → From L i l × From L k r
  from_append l {r} q f = (
    record { at = λ j a e. f.at j a (at-append l r j e) },
    record {
      at = λ j a e.
          let p : i + length l + j ≡ i + (length l + j) = omega arith in
          rw (← q, p) (f.at (length l + j) a (at_seam l r j ∙ e));
    },
  )

module _ (ts : Trees) (T : List Row) where
  -- the record that has the name's id is the name's own, and it tells the slot
  pub record Stands (x : Ident) (s : ℕ) : Type 0 where
    pub row : row_of_id ts T x.id ≡ row_of T x.at
    pub slot : slot_at ts x.at ≡ s

  -- names in order, the first at the slot s
  abbrev pub StandAll : List Ident → ℕ → Type 0
  StandAll [] s = Unit {0}
  StandAll (x ∷ xs) s = Stands x s × StandAll xs (suc s)

  -- so stand all names that an expression at the height h binds
  abbrev mutual
    pub Placed : Tree → ℕ → Type 0
    Placed (ident x) h = Unit {0}
    Placed (const n q) h = Unit {0}
    Placed (if n a b c) h = Placed a h × Placed b h × Placed c h
    Placed (letin n xs es b) h = PlacedRising es h × StandAll xs h × Placed b (h + length xs)
    Placed (define n x b) h = Placed b h
    Placed (lambda n xs b) h = StandAll xs 0 × Placed b (length xs)
    Placed (sequence n es) h = PlacedAll es h
    Placed (call n f es) h = PlacedRising es h × Placed f (h + many es)
    Placed (set! n x e) h = Placed e h

    pub PlacedRising : Trees → ℕ → Type 0
    PlacedRising nil h = Unit {0}
    PlacedRising (cons e es) h = Placed e h × PlacedRising es (suc h)

    pub PlacedAll : Trees → ℕ → Type 0
    PlacedAll nil h = Unit {0}
    PlacedAll (cons e es) h = Placed e h × PlacedAll es h

  module _ (L : List (Record × ℕ)) (known : (x : Ident) (s : ℕ) → slice_get L x.at ≡ Some (named x, s) → Stands x s) where
    stand_all : (xs : List Ident) (s i : ℕ) → NumNames i xs → From L i (mark_names xs s) → StandAll xs s
    unfolding NumNames mark_names
    stand_all [] s i n f = tt
    stand_all (x ∷ xs) s i n f =
        let q : x.at ≡ i + 0 = omega arith in
        (known x s (rw q (f.at 0 (named x, s) refl)), stand_all xs (suc s) (i + 1) n.1 (from_tail f))

    mutual
      unfolding marks Num size

      place : (t : Tree) (h i : ℕ) → Num i t → From L i (marks t h) → Placed t h
      place (ident x) h i n f = tt
      place (const m q) h i n f = tt
      place (if m a b c) h i n f =
          let (fa, f') = from_append (marks a h) (ap (i + 1 +◌) (length-marks a h)) (from_tail f) in
          let (fb, fc) = from_append (marks b h) (ap (i + 1 + size a +◌) (length-marks b h)) f' in
          (place a h (i + 1) n.1 fa, place b h (i + 1 + size a) n.2 fb, place c h (i + 1 + size a + size b) n.3 fc)
      place (letin m xs es b) h i n f =
          let (fx, f') = from_append (mark_names xs h) (ap (i + 1 +◌) (length-names xs h)) (from_tail f) in
          let (fe, fb) = from_append (marks_rising es h) (ap (i + 1 + length xs +◌) (length_rising es h)) f' in (
            place_rising es h (i + 1 + length xs) n.3 fe,
            stand_all xs h (i + 1) n.2 fx,
            place b (h + length xs) (i + 1 + length xs + sizes es) n.4 fb,
          )
      place (define m x b) h i n f = let q : i + 1 + 1 ≡ i + 2 = omega arith in place b h (i + 2) n.2 (rw q at (from_tail (from_tail f)))
      place (lambda m xs b) h i n f =
          let (fx, fb) = from_append (mark_names xs 0) (ap (i + 1 +◌) (length-names xs 0)) (from_tail f) in
          (stand_all xs 0 (i + 1) n.1 fx, place b (length xs) (i + 1 + length xs) n.2 fb)
      place (sequence m es) h i n f = place_all es h (i + 1) n.1 (from_tail f)
      place (call m g es) h i n f =
          let (fg, fe) = from_append (marks g (h + many es)) (ap (i + 1 +◌) (length-marks g (h + many es))) (from_tail f) in
          (place_rising es h (i + 1 + size g) n.2 fe, place g (h + many es) (i + 1) n.1 fg)
      place (set! m x e) h i n f = let q : i + 1 + 1 ≡ i + 2 = omega arith in place e h (i + 2) n.2 (rw q at (from_tail (from_tail f)))

      place_rising : (es : Trees) (h i : ℕ) → Nums i es → From L i (marks_rising es h) → PlacedRising es h
      place_rising nil h i n f = tt
      place_rising (cons e es) h i n f =
          let (fe, fs) = from_append (marks e h) (ap (i +◌) (length-marks e h)) f in
          (place e h i n.0 fe, place_rising es (suc h) (i + size e) n.1 fs)

      place_all : (es : Trees) (h i : ℕ) → Nums i es → From L i (marks_all es h) → PlacedAll es h
      place_all nil h i n f = tt
      place_all (cons e es) h i n f =
          let (fe, fs) = from_append (marks e h) (ap (i +◌) (length-marks e h)) f in
          (place e h i n.0 fe, place_all es h (i + size e) n.1 fs)

-- every name of an accepted tree
pub placed : {N : ℕ} {rs : List ℕ} {ts : Trees} (T : List Row) → Accepted N rs ts → PlacedAll ts T ts 0
unfolding slot_at
placed {ts = ts} T a =
    place_all ts T (marks_all ts 0)
    (λ x s e. record {
      row = row_of_id_lem T x a (rw (← all-records ts 0) (at_map record_of (marks_all ts 0) x.at e));
      slot = ap slot_in e;
    })
    ts 0 0 a.num (record { at = λ j m e. let q : 0 + j ≡ j = omega arith in rw q e })
