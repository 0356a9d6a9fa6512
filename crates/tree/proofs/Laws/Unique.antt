-- Records are the records of at most one numbered tree, and of at most one list of numbered trees.
use Rattle.std.specs.Prelude.{ℕ, ◌+◌, ◌≡◌, refl, length}
use mathlib.Core.List.{List, [], ◌∷◌, ◌++◌, map, append_assoc, head-eq_of_cons-eq, tail-eq_of_cons-eq}
use Rattle.std.proofs.Common.{ap, ap₂, sym, subst, ◌∙◌, arith, length-append}
use Rattle.tree.specs.Record.{Record}
use Rattle.tree.specs.Form.{names_of, others_of}
use Rattle.tree.specs.Tree.{Ident, Tree, Trees, nil, cons, many, named, flat, flats, size, NumNames, Num, Nums}
use Rattle.tree.proofs.Laws.Tree.{size_pos, length_flat}
use Rattle.tree.proofs.Laws.Parts.{own, names, others, at, flat_with, num_own, Each, induct, inducts}
use Rattle.tree.proofs.Laws.Build.{build, build-own}

ident_same : {x y : Ident} → named x ≡ named y → x.at ≡ y.at → x ≡ y
ident_same p q = λ i. record { at = q i; id = (p i).id; name = (p i).name; from = (p i).from; to = (p i).to }

-- the same names, and the same records after them
names_same : (xs ys : List Ident) (i : ℕ) (r s : List Record) → length xs ≡ length ys → NumNames i xs → NumNames i ys
    → map named xs ++ r ≡ map named ys ++ s → (xs ≡ ys) × (r ≡ s)
unfolding NumNames
names_same [] [] i r s k n m e = (refl, e)
names_same [] (y ∷ ys) i r s k n m e = absurd (omega arith)
names_same (x ∷ xs) [] i r s k n m e = absurd (omega arith)
names_same (x ∷ xs) (y ∷ ys) i r s k n m e =
    let same = names_same xs ys (i + 1) r s (omega arith) n.1 m.1 (tail-eq_of_cons-eq e) in
    (ap₂ (λ (z : Ident) (zs : List Ident). z ∷ zs) (ident_same (head-eq_of_cons-eq e) (n.0 ∙ sym m.0)) same.0, same.1)

-- what is shown of every tree
Same : Tree → Type 0
Same t = (u : Tree) (i : ℕ) (r s : List Record) → Num i t → Num i u → flat t ++ r ≡ flat u ++ s → (t ≡ u) × (r ≡ s)

others_same : (ts us : Trees) (i : ℕ) (r s : List Record) → Each Same ts → many ts ≡ many us → Nums i ts → Nums i us
    → flats ts ++ r ≡ flats us ++ s → (ts ≡ us) × (r ≡ s)
unfolding Same Num flat
others_same nil nil i r s h k n m e = (refl, e)
others_same nil (cons u us) i r s h k n m e = absurd (omega arith)
others_same (cons t ts) nil i r s h k n m e = absurd (omega arith)
others_same (cons t ts) (cons u us) i r s h k n m e =
    let one = h.0 u i (flats ts ++ r) (flats us ++ s) n.0 m.0 (sym (append_assoc (flat t) (flats ts) r) ∙ e ∙ append_assoc (flat u) (flats us) s) in
    let all = others_same ts us (i + size u) r s h.1 (omega arith) (subst (λ (v : Tree). Nums (i + size v) ts) one.0 n.1) m.1 one.1 in
    (ap₂ cons one.0 all.0, all.1)

parts_same : {t u : Tree} → at t ≡ at u → own t ≡ own u → names t ≡ names u → others t ≡ others u → t ≡ u
parts_same {t} {u} a o n s = sym (build-own t) ∙ (λ i. build (a i) (o i) (n i) (s i)) ∙ build-own u

same_step : (t : Tree) → Each Same (others t) → Same t
unfolding Same
same_step t h u i r s n m e =
    let p = num_own i t n in
    let q = num_own i u m in
    let e' = sym (flat_with t r) ∙ e ∙ flat_with u s in
    let o : own t ≡ own u = head-eq_of_cons-eq e' in
    let k : length (names t) ≡ length (names u) = p.name_count ∙ ap (λ (f : Record). names_of f.form f.count) o ∙ sym q.name_count in
    let l : many (others t) ≡ many (others u) = p.other_count ∙ ap (λ (f : Record). others_of f.form f.count) o ∙ sym q.other_count in
    let ns = names_same (names t) (names u) (i + 1) (flats (others t) ++ r) (flats (others u) ++ s) k p.name_nums q.name_nums (tail-eq_of_cons-eq e') in
    let os = others_same (others t) (others u) (i + 1 + length (names u)) r s h l (subst (λ (j : ℕ). Nums (i + 1 + j) (others t)) k p.other_nums) q.other_nums ns.1 in
    (parts_same (p.here ∙ sym q.here) o ns.0 os.0, os.1)

-- a tree and the records after it
pub unique_tree : (t u : Tree) (i : ℕ) (r s : List Record) → Num i t → Num i u → flat t ++ r ≡ flat u ++ s → (t ≡ u) × (r ≡ s)
unfolding Same
unique_tree = induct Same same_step

-- as many trees, and the records after them
pub unique_many : (ts us : Trees) (i : ℕ) (r s : List Record) → many ts ≡ many us → Nums i ts → Nums i us → flats ts ++ r ≡ flats us ++ s
    → (ts ≡ us) × (r ≡ s)
unique_many ts us i r s = others_same ts us i r s (inducts Same same_step ts)

-- trees to the end of the records
pub unique_trees : (ts us : Trees) (i : ℕ) → Nums i ts → Nums i us → flats ts ≡ flats us → ts ≡ us
unfolding Num flat
unique_trees nil nil i n m e = refl
unique_trees nil (cons u us) i n m e = absurd (omega (arith, ap length e, length-append (flat u) (flats us), length_flat u, size_pos u))
unique_trees (cons t ts) nil i n m e = absurd (omega (arith, ap length e, length-append (flat t) (flats ts), length_flat t, size_pos t))
unique_trees (cons t ts) (cons u us) i n m e =
    let one = unique_tree t u i (flats ts) (flats us) n.0 m.0 e in
    ap₂ cons one.0 (unique_trees ts us (i + size u) (subst (λ (v : Tree). Nums (i + size v) ts) one.0 n.1) m.1 one.1)
