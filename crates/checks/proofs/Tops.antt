-- The records of numbered trees that stand at top level are those at which the trees start: within a tree a record is open.
use Prim.Native.Nat.{ℕ, suc, ◌+◌, ◌-◌}
use mathlib.Core.List.{List, [], ◌∷◌, ◌++◌, map, append_assoc}
use mathlib.Core.Path.{◌≡◌, refl, ap, subst₂, ◌∙◌}
use native.Mathlib.Omega.{arith}
use lib.ListN.{length}
use Rattle.tree.specs.Record.{Record, records}
use Rattle.tree.specs.Form.{form_of, names_of, others_of}
use Rattle.tree.specs.Tree.{Ident, Tree, Trees, nil, cons, many, named, flat, flats, size, sizes, Num, Nums}
use Rattle.tree.proofs.Laws.Parts.{names, others, flat_with, size-own, num_own, Each, induct}
use Rattle.tree.specs.Place.{Open, closed, taken, after}
use Rattle.checks.specs.Leaves.{at_top, tops_in}
use Rattle.tree.specs.Starts.{starts}
use Rattle.tree.specs.Accepted.{Accepted}
use Rattle.tree.proofs.Laws.Acceptance.{holds}
use Rattle.tree.proofs.Laws.Acceptance.Walk.{opened, still_open}

-- names are no starts
tops_names : (xs : List Ident) (k : ℕ) (s : List Open) (l : List Record) (i : ℕ)
    → tops_in (closed (opened (length xs) k ∷ s)) i (map named xs ++ l) ≡ tops_in (closed (opened 0 k ∷ s)) (i + length xs) l
unfolding tops_in at_top after closed names_of others_of form_of
tops_names [] k s l i = let z : i ≡ i + 0 = omega arith in ap (λ (n : ℕ). tops_in (closed (opened 0 k ∷ s)) n l) z
tops_names (x ∷ xs) k s l i =
    let z : i + 1 + length xs ≡ i + suc (length xs) = omega arith in
    ap (λ (z : List Open). tops_in z i (named x ∷ (map named xs ++ l))) (still_open (suc (length xs)) k s (omega arith))
    ∙ tops_names xs k s l (i + 1)
    ∙ ap (λ (n : ℕ). tops_in (closed (opened 0 k ∷ s)) n l) z

-- What is shown of every tree: its own record alone may be a start
Tops : Tree → Type 0
Tops t = (s : List Open) (l : List Record) (i : ℕ) → Num i t → tops_in s i (flat t ++ l) ≡ at_top s i (tops_in (closed (taken s)) (i + size t) l)

tops_others : (ts : Trees) (s : List Open) (l : List Record) (i : ℕ) → Each Tops ts → Nums i ts
    → tops_in (closed (opened 0 (many ts) ∷ s)) i (flats ts ++ l) ≡ tops_in (closed s) (i + sizes ts) l
unfolding Tops flat size Num at_top closed
tops_others nil s l i h n = let z : i ≡ i + 0 = omega arith in ap (λ (n : ℕ). tops_in (closed s) n l) z
tops_others (cons t ts) s l i h n =
    let one : suc (many ts) - 1 ≡ many ts = omega arith in
    let z : i + size t + sizes ts ≡ i + (size t + sizes ts) = omega arith in
    ap (λ (z : List Open). tops_in z i ((flat t ++ flats ts) ++ l)) (still_open 0 (suc (many ts)) s (omega arith))
    ∙ ap (λ (m : List Record). tops_in (opened 0 (suc (many ts)) ∷ s) i m) (append_assoc (flat t) (flats ts) l)
    ∙ h.0 (opened 0 (suc (many ts)) ∷ s) (flats ts ++ l) i n.0
    ∙ ap (λ (k : ℕ). tops_in (closed (opened 0 k ∷ s)) (i + size t) (flats ts ++ l)) one
    ∙ tops_others ts s l (i + size t) h.1 n.1
    ∙ ap (λ (n : ℕ). tops_in (closed s) n l) z

tops_step : (t : Tree) → Each Tops (others t) → Tops t
unfolding Tops tops_in after
tops_step t h s l i n =
    let q = num_own i t n in
    let z : i + 1 + length (names t) + sizes (others t) ≡ i + size t = omega (arith, size-own t) in
    let inner : tops_in (closed (opened (length (names t)) (many (others t)) ∷ taken s)) (i + 1) (map named (names t) ++ (flats (others t) ++ l)) ≡ tops_in (closed (taken s)) (i + size t) l =
    tops_names (names t) (many (others t)) (taken s) (flats (others t) ++ l) (i + 1)
    ∙ tops_others (others t) (taken s) l (i + 1 + length (names t)) h q.other_nums
    ∙ ap (λ (n : ℕ). tops_in (closed (taken s)) n l) z in
    ap (tops_in s i) (flat_with t l)
    ∙ ap (at_top s i)
    (subst₂ (λ (a b : ℕ). tops_in (closed (opened a b ∷ taken s)) (i + 1) (map named (names t) ++ (flats (others t) ++ l)) ≡ tops_in (closed (taken s)) (i + size t) l) q.name_count q.other_count inner)

pub tops_flats : (ts : Trees) (i : ℕ) → Nums i ts → tops_in [] i (flats ts) ≡ starts i ts
unfolding Tops tops_in at_top starts flat Num closed
tops_flats nil i n = refl
tops_flats (cons t ts) i n = induct Tops tops_step t [] (flats ts) i n.0 ∙ ap (λ (l : List ℕ). i ∷ l) (tops_flats ts (i + size t) n.1)

-- of accepted records
pub top-starts : {N : ℕ} {rs : List ℕ} {ts : Trees} → Accepted N rs ts → tops_in [] 0 (records rs) ≡ starts 0 ts
top-starts {ts = ts} a = ap (tops_in [] 0) (holds a) ∙ tops_flats ts 0 a.num
