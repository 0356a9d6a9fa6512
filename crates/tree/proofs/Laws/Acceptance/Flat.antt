-- The records of numbered trees stand where they may, and leave no place open.
use Rattle.std.specs.Prelude.{ℕ, suc, ◌+◌, ◌-◌, ◌≤◌, ◌<◌, List, [], ◌∷◌, ◌++◌, map, Bool, true, false, not, ◌&&◌, ◌≡◌, refl, length, eqb, ltb}
use Rattle.std.proofs.Common.{append_assoc, ap, subst₂, arith, le-ltb, ne_eqb}
use Rattle.std.proofs.Math.Bool.{and-false}
use Rattle.std.proofs.Math.Path.{subst⁻¹}
use Rattle.tree.specs.Record.{Record}
use Rattle.tree.specs.Form.{form_of, names_of, others_of}
use Rattle.tree.specs.Tree.{Ident, Tree, Trees, ident, const, if, letin, define, lambda, sequence, call, set!, nil, cons, many, begins, ands, whens, named, flat, flats, size, nesting, nestings, Num, Nums}
use Rattle.tree.proofs.Laws.Parts.{own, names, others, flat_with, nesting_own, names_nest, num_own, Each, induct}
use Rattle.tree.specs.Check.{untested}
use Rattle.tree.specs.Place.{Open, closed, taken, is_name_place, after}
use Rattle.tree.proofs.Laws.Acceptance.Walk.{deepest, empty_call, Stands, Walk, opened, still_open, length_taken}

no_empty_call : (t : Tree) → empty_call (own t) ≡ false
unfolding own
no_empty_call (ident x) = refl
no_empty_call (const n q) = refl
no_empty_call (if n a b c) = refl
no_empty_call (letin n xs es b) = refl
no_empty_call (define n x b) = refl
no_empty_call (lambda n xs b) = refl
no_empty_call (sequence (begins n) es) = refl
no_empty_call (sequence (ands n) es) = refl
no_empty_call (sequence (whens true n) es) = refl
no_empty_call (sequence (whens false n) es) = refl
no_empty_call (call n h es) = ne_eqb (suc (many es)) 0 (λ e. absurd (omega arith))
no_empty_call (set! n x e) = refl

-- a record in no name's place
stands : (s : List Open) (r : Record) → suc (length s) ≤ deepest → is_name_place s ≡ false → empty_call r ≡ false → untested r ≡ false → Stands s r
stands s r h p e q =
    record { deep = le-ltb deepest (suc (length s)) h; named = ap (λ (b : Bool). b && not (eqb r.form 1)) p; full = e; tested = q }

-- names take the places of the names
walk_names : (xs : List Ident) (k : ℕ) (s : List Open) (l : List Record) → (0 < length xs → suc (suc (length s)) ≤ deepest)
    → Walk (closed (opened 0 k ∷ s)) l → Walk (closed (opened (length xs) k ∷ s)) (map named xs ++ l)
unfolding after closed names_of others_of form_of
walk_names [] k s l h w = w
walk_names (x ∷ xs) k s l h w =
    subst⁻¹ (λ (z : List Open). Walk z (named x ∷ (map named xs ++ l))) (still_open (suc (length xs)) k s (omega arith)) (
      record { deep = le-ltb deepest (suc (suc (length s))) (h (omega arith)); named = and-false (ltb 0 (suc (length xs))); full = refl; tested = refl },
      walk_names xs k s l (λ g. h (omega arith)) w,
    )

-- What is shown of every tree: it takes one place that is not a name's
Walks : Tree → Type 0
Walks t = (s : List Open) (l : List Record) (i : ℕ) → Num i t → length s + nesting t ≤ deepest → is_name_place s ≡ false → Walk (closed (taken s)) l → Walk s (flat t ++ l)

walk_others : (ts : Trees) (s : List Open) (l : List Record) (i : ℕ) → Each Walks ts → Nums i ts → suc (length s) + nestings ts ≤ deepest
    → Walk (closed s) l → Walk (closed (opened 0 (many ts) ∷ s)) (flats ts ++ l)
unfolding Walks flat Num nesting closed
walk_others nil s l i h n d w = w
walk_others (cons t ts) s l i h n d w =
    let one : suc (many ts) - 1 ≡ many ts = omega arith in
    let w' : Walk (closed (opened 0 (suc (many ts) - 1) ∷ s)) (flats ts ++ l) =
    subst⁻¹ (λ (k : ℕ). Walk (closed (opened 0 k ∷ s)) (flats ts ++ l)) one
    (walk_others ts s l (i + size t) h.1 n.1 (omega arith) w) in
    subst⁻¹ (λ (z : List Open). Walk z ((flat t ++ flats ts) ++ l)) (still_open 0 (suc (many ts)) s (omega arith))
    (subst⁻¹ (λ (m : List Record). Walk (opened 0 (suc (many ts)) ∷ s) m) (append_assoc (flat t) (flats ts) l)
    (h.0 (opened 0 (suc (many ts)) ∷ s) (flats ts ++ l) i n.0 (omega arith) refl w'))

walk_step : (t : Tree) → Each Walks (others t) → Walks t
unfolding Walks after
walk_step t h s l i n d p w =
    let q = num_own i t n in
    let e = nesting_own t in
    let g = names_nest t in
    let k : length (taken s) ≡ length s = length_taken s in
    subst⁻¹ (λ (m : List Record). Walk s m) (flat_with t l) (
      stands s (own t) (omega arith) p (no_empty_call t) q.tested,
      subst₂ (λ (a b : ℕ). Walk (closed (opened a b ∷ taken s)) (map named (names t) ++ (flats (others t) ++ l))) q.name_count q.other_count
          (walk_names (names t) (many (others t)) (taken s) (flats (others t) ++ l) (λ z. omega (arith, g z))
          (walk_others (others t) (taken s) l (i + 1 + length (names t)) h q.other_nums (omega arith) w)),
    )

-- at top level
pub walk_flats : (ts : Trees) (i : ℕ) → Nums i ts → nestings ts ≤ deepest → Walk [] (flats ts)
unfolding Walks flat Num nesting closed
walk_flats nil i n d = refl
walk_flats (cons t ts) i n d =
    induct Walks walk_step t [] (flats ts) i n.0 (omega arith) refl (walk_flats ts (i + size t) n.1 (omega arith))
