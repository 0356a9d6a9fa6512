-- The tree that a record makes with its children: a record that fits its form, and as many names and other children as the form has, are
-- the parts of exactly one tree.
use Prim.Native.Nat.{ℕ, zero, suc, ◌+◌, ◌≤◌, ◌<◌}
use Rattle.std.specs.Prelude.{List, [], ◌∷◌, ◌++◌, map, Bool, true, false, ◌&&◌, ◌≡◌, length, eqb, leb, ltb, Option, None, Some}
use Rattle.std.proofs.Math.Bool.{and-eq-true_iff}
use Rattle.std.proofs.lemmas.Bool.{false≢true, eqb-false}
use Rattle.std.proofs.Math.Path.{refl, subst⁻¹}
use Rattle.std.proofs.Common.{ap, ap₂, sym, subst₂, ◌∙◌, arith, ltb-true, leb-true}
use Rattle.tree.specs.Record.{Record}
use Rattle.tree.specs.Form.{Form, form_of, names_of, others_of, id_fits, fits_as, fits}
use Rattle.tree.specs.Tree.{Node, Ident, Tree, Trees, ident, const, if, letin, define, lambda, sequence, call, set!, nil, cons, many, begins, ands, whens, named, bit, flat, flats, size, sizes, nesting, nestings, NumNames, Num, Nums}
use Rattle.tree.specs.Check.{untested}
use Rattle.tree.specs.Define.{◌⊕◌}
use Rattle.tree.proofs.Laws.Parts.{own, names, others, at, flat_own, size-own, nesting_own, own_num}

-- The first and the last of a list, where there is one, and what is left

abbrev name_or : Ident → List Ident → Ident
name_or d [] = d
name_or d (x ∷ xs) = x

abbrev first_or : Tree → Trees → Tree
first_or d nil = d
first_or d (cons t ts) = t

abbrev rest : Trees → Trees
rest nil = nil
rest (cons t ts) = ts

abbrev last_or : Tree → Trees → Tree
last_or d nil = d
last_or d (cons t ts) = last_or t ts

abbrev but_last_of : Tree → Trees → Trees
but_last_of t nil = nil
but_last_of t (cons u us) = cons t (but_last_of u us)

abbrev but_last : Trees → Trees
but_last nil = nil
but_last (cons t ts) = but_last_of t ts

-- by form; x stands for a child that is not there, and for no form
module _ (n : Node) (x : Ident) (q : Bool) (xs : List Ident) (ts : Trees) where
  abbrev make : ℕ → Tree
  make zero = ident x
  make (suc zero) = ident x
  make (suc (suc zero)) = const n q
  make (suc (suc (suc zero))) = if n (first_or (ident x) ts) (first_or (ident x) (rest ts)) (first_or (ident x) (rest (rest ts)))
  make (suc (suc (suc (suc zero)))) = letin n xs (but_last ts) (last_or (ident x) ts)
  make (suc (suc (suc (suc (suc zero))))) = define n (name_or x xs) (first_or (ident x) ts)
  make (suc (suc (suc (suc (suc (suc zero)))))) = lambda n xs (first_or (ident x) ts)
  make (suc (suc (suc (suc (suc (suc (suc zero))))))) = sequence (begins n) ts
  make (suc (suc (suc (suc (suc (suc (suc (suc zero)))))))) = call n (first_or (ident x) ts) (rest ts)
  make (suc (suc (suc (suc (suc (suc (suc (suc (suc zero))))))))) = set! n (name_or x xs) (first_or (ident x) ts)
  make (suc (suc (suc (suc (suc (suc (suc (suc (suc (suc zero)))))))))) = sequence (ands n) ts
  make (suc (suc (suc (suc (suc (suc (suc (suc (suc (suc (suc zero))))))))))) = sequence (whens true n) ts
  make (suc (suc (suc (suc (suc (suc (suc (suc (suc (suc (suc (suc zero)))))))))))) = sequence (whens false n) ts
  make (suc (suc (suc (suc (suc (suc (suc (suc (suc (suc (suc (suc (suc f))))))))))))) = ident x

-- the tree of the record r, which is record i, with these names and other children
unfoldable pub build : ℕ → Record → List Ident → Trees → Tree
build i r xs ts =
    make
    (record { at = i; id = r.id; from = r.from; to = r.to })
    (record { at = i; id = r.id; name = r.name; from = r.from; to = r.to })
    (eqb r.name 1)
    xs
    ts
    r.form

last-⊕ : (d t : Tree) (ts : Trees) → last_or d (ts ⊕ cons t nil) ≡ t
unfolding ◌⊕◌
last-⊕ d t nil = refl
last-⊕ d t (cons u us) = last-⊕ u t us

but_last_of-⊕ : (u t : Tree) (ts : Trees) → but_last_of u (ts ⊕ cons t nil) ≡ cons u ts
unfolding ◌⊕◌
but_last_of-⊕ u t nil = refl
but_last_of-⊕ u t (cons v ts) = ap (cons u) (but_last_of-⊕ v t ts)

but_last-⊕ : (t : Tree) (ts : Trees) → but_last (ts ⊕ cons t nil) ≡ ts
unfolding ◌⊕◌
but_last-⊕ t nil = refl
but_last-⊕ t (cons u us) = but_last_of-⊕ u t us

-- a tree is made of its parts
pub build-own : (t : Tree) → build (at t) (own t) (names t) (others t) ≡ t
unfolding build own names others at
build-own (ident x) = refl
build-own (const n true) = refl
build-own (const n false) = refl
build-own (if n a b c) = refl
build-own (letin n xs es b) = ap₂ (λ (ts : Trees) (t : Tree). letin n xs ts t) (but_last-⊕ b es) (last-⊕ _ b es)
build-own (define n x b) = refl
build-own (lambda n xs b) = refl
build-own (sequence (begins n) es) = refl
build-own (sequence (ands n) es) = refl
build-own (sequence (whens true n) es) = refl
build-own (sequence (whens false n) es) = refl
build-own (call n h es) = refl
build-own (set! n x b) = refl

-- Lists of a known length

pub no_name : (xs : List Ident) → length xs ≡ 0 → [] ≡ xs
no_name [] e = refl
no_name (x ∷ xs) e = absurd (omega arith)

one_name : (d : Ident) (xs : List Ident) → length xs ≡ 1 → name_or d xs ∷ [] ≡ xs
one_name d [] e = absurd (omega arith)
one_name d (x ∷ xs) e = ap (λ (ys : List Ident). x ∷ ys) (no_name xs (omega arith))

no_tree : (ts : Trees) → many ts ≡ 0 → nil ≡ ts
no_tree nil e = refl
no_tree (cons t ts) e = absurd (omega arith)

some_trees : (d : Tree) (ts : Trees) (k : ℕ) → many ts ≡ k → ¬ (k ≡ 0) → (cons (first_or d ts) (rest ts) ≡ ts) × (suc (many (rest ts)) ≡ k)
some_trees d nil k e z = absurd (z (sym e))
some_trees d (cons t ts) k e z = (refl, e)

one_tree : (d : Tree) (ts : Trees) → many ts ≡ 1 → cons (first_or d ts) nil ≡ ts
one_tree d nil e = absurd (omega arith)
one_tree d (cons t ts) e = ap (cons t) (no_tree ts (omega arith))

three_trees : (d : Tree) (ts : Trees) → many ts ≡ 3 → cons (first_or d ts) (cons (first_or d (rest ts)) (cons (first_or d (rest (rest ts))) nil)) ≡ ts
three_trees d nil e = absurd (omega arith)
three_trees d (cons t nil) e = absurd (omega arith)
three_trees d (cons t (cons u ts)) e = ap (λ (us : Trees). cons t (cons u us)) (one_tree d ts (omega arith))

last_trees_of : (t : Tree) (ts : Trees) → but_last_of t ts ⊕ cons (last_or t ts) nil ≡ cons t ts
unfolding ◌⊕◌
last_trees_of t nil = refl
last_trees_of t (cons u us) = ap (cons t) (last_trees_of u us)

last_trees : (d : Tree) (ts : Trees) (k : ℕ) → many ts ≡ k + 1 → but_last ts ⊕ cons (last_or d ts) nil ≡ ts
last_trees d nil k e = absurd (omega arith)
last_trees d (cons t ts) k e = last_trees_of t ts

-- A record by its fields

abbrev fields : (f i x c a b : ℕ) → Record
fields f i x c a b = record { form = f; id = i; name = x; count = c; from = a; to = b }

-- t is made of r and its children
pub record Built (i : ℕ) (r : Record) (xs : List Ident) (ts : Trees) (t : Tree) : Type 0 where
  pub here : at t ≡ i
  pub is_own : own t ≡ r
  pub is_names : names t ≡ xs
  pub is_others : others t ≡ ts

bit_of : (x : ℕ) → x < 2 → bit (eqb x 1) ≡ x
bit_of zero h = refl
bit_of (suc zero) h = refl
bit_of (suc (suc x)) h = absurd (omega arith)

-- What a row of the table of forms leaves of the name and the count

abbrev pub below_in : ℕ → Option Form → ℕ
below_in N None = 0
below_in N (Some f) = f.name_below N

abbrev pub most_in : Option Form → ℕ
most_in None = 0
most_in (Some f) = f.count_most

pub row : (N : ℕ) (r : Record) (o : Option Form) → fits_as N r o ≡ true → (r.name < below_in N o) × (r.count ≤ most_in o)
row N r None e = absurd (false≢true e)
row N r (Some f) e =
    let named = ltb r.name (f.name_below N) in
    let counted = leb r.count f.count_most in
    let h = (and-eq-true_iff named counted).0 ((and-eq-true_iff (id_fits f.has_id r.id) (named && counted)).0 e).1 in
    (ltb-true r.name (f.name_below N) h.0, leb-true r.count f.count_most h.1)

module _ (N i j x c a b : ℕ) (xs : List Ident) (ts : Trees) where
  -- the record of form f fits, and its children are as many as the form has
  record Fed (f : ℕ) : Type 0 where
    small : x < below_in N (form_of f)
    few : c ≤ most_in (form_of f)
    full : (eqb f 8 && eqb c 0) ≡ false
    name_count : length xs ≡ names_of f c
    other_count : many ts ≡ others_of f c

  -- the same record, with the name and the count that its row leaves
  same : (f : ℕ) {y k : ℕ} → y ≡ x → k ≡ c → fields f j y k a b ≡ fields f j x c a b
  same f = ap₂ (λ (y k : ℕ). fields f j y k a b)

  -- what `make` puts for a child that is not there
  absent : Tree
  absent = ident (record { at = i; id = j; name = x; from = a; to = b })

  built_as : (f : ℕ) → Fed f → Built i (fields f j x c a b) xs ts (build i (fields f j x c a b) xs ts)
  unfolding build own names others at form_of names_of others_of absent
  built_as zero p = absurd (omega arith)
  built_as (suc zero) p =
      record { here = refl; is_own = same 1 refl (omega arith); is_names = no_name xs p.name_count; is_others = no_tree ts p.other_count }
  built_as (suc (suc zero)) p =
      record { here = refl; is_own = same 2 (bit_of x p.small) (omega arith); is_names = no_name xs p.name_count; is_others = no_tree ts p.other_count }
  built_as (suc (suc (suc zero))) p =
      record { here = refl; is_own = same 3 (omega arith) (omega arith); is_names = no_name xs p.name_count; is_others = three_trees absent ts p.other_count }
  built_as (suc (suc (suc (suc zero)))) p =
      record { here = refl; is_own = same 4 (omega arith) p.name_count; is_names = refl; is_others = last_trees absent ts c p.other_count }
  built_as (suc (suc (suc (suc (suc zero))))) p =
      record { here = refl; is_own = same 5 (omega arith) (omega arith); is_names = one_name _ xs p.name_count; is_others = one_tree absent ts p.other_count }
  built_as (suc (suc (suc (suc (suc (suc zero)))))) p =
      record { here = refl; is_own = same 6 (omega arith) p.name_count; is_names = refl; is_others = one_tree absent ts p.other_count }
  built_as (suc (suc (suc (suc (suc (suc (suc zero))))))) p =
      record { here = refl; is_own = same 7 (omega arith) p.other_count; is_names = no_name xs p.name_count; is_others = refl }
  built_as (suc (suc (suc (suc (suc (suc (suc (suc zero)))))))) p =
      let m = some_trees absent ts c p.other_count (eqb-false c 0 p.full) in
      record { here = refl; is_own = same 8 (omega arith) m.1; is_names = no_name xs p.name_count; is_others = m.0 }
  built_as (suc (suc (suc (suc (suc (suc (suc (suc (suc zero))))))))) p =
      record { here = refl; is_own = same 9 (omega arith) (omega arith); is_names = one_name _ xs p.name_count; is_others = one_tree absent ts p.other_count }
  built_as (suc (suc (suc (suc (suc (suc (suc (suc (suc (suc zero)))))))))) p =
      record { here = refl; is_own = same 10 (omega arith) p.other_count; is_names = no_name xs p.name_count; is_others = refl }
  built_as (suc (suc (suc (suc (suc (suc (suc (suc (suc (suc (suc zero))))))))))) p =
      record { here = refl; is_own = same 11 (omega arith) p.other_count; is_names = no_name xs p.name_count; is_others = refl }
  built_as (suc (suc (suc (suc (suc (suc (suc (suc (suc (suc (suc (suc zero)))))))))))) p =
      record { here = refl; is_own = same 12 (omega arith) p.other_count; is_names = no_name xs p.name_count; is_others = refl }
  built_as (suc (suc (suc (suc (suc (suc (suc (suc (suc (suc (suc (suc (suc f))))))))))))) p = absurd (omega arith)

pub built : (N i : ℕ) (r : Record) (xs : List Ident) (ts : Trees) → fits N r ≡ true → (eqb r.form 8 && eqb r.count 0) ≡ false
    → length xs ≡ names_of r.form r.count → many ts ≡ others_of r.form r.count → Built i r xs ts (build i r xs ts)
unfolding fits
built N i r xs ts f e n o =
    let h = row N r (form_of r.form) f in
    built_as N i r.id r.name r.count r.from r.to xs ts r.form (record { small = h.0; few = h.1; full = e; name_count = n; other_count = o })

-- form 1 makes an identifier
pub build_ident : (i : ℕ) (r : Record) (xs : List Ident) (ts : Trees) → r.form ≡ 1 → (x : Ident) × (build i r xs ts ≡ ident x)
unfolding build
build_ident i r xs ts e = (_, ap (make _ _ _ xs ts) e)

module _ {i : ℕ} {r : Record} {xs : List Ident} {ts : Trees} {t : Tree} (b : Built i r xs ts t) where
  pub built_flat : flat t ≡ r ∷ (map named xs ++ flats ts)
  built_flat = flat_own t ∙ (λ k. b.is_own k ∷ (map named (b.is_names k) ++ flats (b.is_others k)))

  pub built_size : size t ≡ suc (length xs + sizes ts)
  built_size = size-own t ∙ (λ k. suc (length (b.is_names k) + sizes (b.is_others k)))

  pub built_nesting : nesting t ≡ suc (nestings ts)
  built_nesting = nesting_own t ∙ (λ k. suc (nestings (b.is_others k)))

  pub built_num : untested r ≡ false → length xs ≡ names_of r.form r.count → many ts ≡ others_of r.form r.count → NumNames (i + 1) xs
      → Nums (i + 1 + length xs) ts → Num i t
  built_num e n o ns os =
      own_num i t
      (record {
        here = b.here;
        name_count = ap length b.is_names ∙ n ∙ ap (λ (f : Record). names_of f.form f.count) (sym b.is_own);
        other_count = ap many b.is_others ∙ o ∙ ap (λ (f : Record). others_of f.form f.count) (sym b.is_own);
        tested = ap untested b.is_own ∙ e;
        name_nums = subst⁻¹ (λ (ys : List Ident). NumNames (i + 1) ys) b.is_names ns;
        other_nums = subst₂ (λ (ys : List Ident) (us : Trees). Nums (i + 1 + length ys) us) (sym b.is_names) (sym b.is_others) os;
      })
