-- Records that stand where they may, with no place open at the end, are the records of numbered trees.
use Rattle.std.specs.Prelude.{ℕ, zero, suc, ◌+◌, ◌-◌, ◌≤◌, ◌<◌, Bool, true, false, not, cond, ◌&&◌, ◌≡◌, refl, eqb}
use mathlib.Core.List.{List, [], ◌∷◌, ◌++◌, map, append_assoc, cons-ne-nil}
use Rattle.std.proofs.Math.Path.{ap, sym, subst, subst⁻¹}
use Rattle.std.proofs.Common.{◌∙◌, ltb-false, lt-ltb, eqb-true}
use native.Mathlib.Omega.{arith}
use Rattle.std.proofs.lemmas.Bool.{eqb-false, not-false}
use Rattle.std.proofs.Math.ListN.{length}
use Rattle.tree.specs.Record.{Record}
use Rattle.tree.specs.Form.{names_of, others_of, fits}
use Rattle.tree.specs.Tree.{Ident, Tree, Trees, ident, nil, cons, many, named, flat, flats, size, sizes, nesting, nestings, NumNames, Num, Nums}
use Rattle.tree.proofs.Laws.Build.{no_name, build, built, build_ident, built_flat, built_size, built_nesting, built_num}
use Rattle.tree.specs.Place.{Open, closed, take_one, taken, is_name_place, after}
use Rattle.tree.specs.Accepted.{All}
use Rattle.tree.proofs.Laws.Acceptance.Walk.{deepest, Stands, Walk, opened, length_taken}

-- The records l, from record i on, begin with n names and k trees, which nest no deeper than d
record Children (i n k d : ℕ) (l : List Record) : Type 0 where
  names : List Ident
  others : Trees
  rest : List Record
  split : l ≡ map named names ++ (flats others ++ rest)
  name_count : length names ≡ n
  other_count : many others ≡ k
  name_nums : NumNames i names
  other_nums : Nums (i + length names) others
  nested : nestings others ≤ d

pub record Top (i : ℕ) (l : List Record) : Type 0 where
  pub trees : Trees
  pub is_flat : l ≡ flats trees
  pub nums : Nums i trees
  pub nested : nestings trees ≤ deepest

-- the records l, from record i on, fill the places of the open records and then the top level
abbrev Fill : ℕ → List Open → List Record → Type 0
Fill i [] l = Top i l
Fill i (o ∷ s) l = (c : Children i o.names o.others (deepest - suc (length s)) l) × Fill (i + length c.names + sizes c.others) s c.rest

-- a closed record has no place
shut : (b : Bool) (i : ℕ) (o : Open) (s : List Open) (l : List Record) → eqb (o.names + o.others) 0 ≡ b
    → (Fill i (closed s) l → Fill i s l) → Fill i (cond b (closed s) (o ∷ s)) l → Fill i (o ∷ s) l
unfolding flat size nesting NumNames Num
shut false i o s l e h f = f
shut true i o s l e h f =
    let z = eqb-true (o.names + o.others) 0 e in
    let j : i ≡ i + 0 + 0 = omega arith in (
      record { names = []; others = nil; rest = l; split = refl; name_count = omega arith; other_count = omega arith; name_nums = tt; other_nums = tt; nested = omega arith },
      subst (λ (k : ℕ). Fill k s l) j (h f),
    )

reopen : (s : List Open) (i : ℕ) (l : List Record) → Fill i (closed s) l → Fill i s l
unfolding closed
reopen [] i l f = f
reopen (o ∷ s) i l f = shut (eqb (o.names + o.others) 0) i o s l refl (reopen s i l) f

-- the innermost open record has a place
abbrev Ready : List Open → Type 0
Ready [] = Unit {0}
Ready (o ∷ s) = 0 < o.names + o.others

ready_if : (b : Bool) (o : Open) (s : List Open) → eqb (o.names + o.others) 0 ≡ b → Ready (closed s) → Ready (cond b (closed s) (o ∷ s))
ready_if true o s e h = h
ready_if false o s e h = let z = eqb-false (o.names + o.others) 0 e in omega arith

ready : (s : List Open) → Ready (closed s)
unfolding closed
ready [] = tt
ready (o ∷ s) = ready_if (eqb (o.names + o.others) 0) o s refl (ready s)

-- The tree t takes a place

module _ (i : ℕ) (t : Tree) (l : List Record) (n : Num i t) where
  take-top : nesting t ≤ deepest → Top (i + size t) l → Top i (flat t ++ l)
  unfolding flat Num nesting
  take-top d f =
      record { trees = cons t f.trees; is_flat = ap (λ (m : List Record). flat t ++ m) f.is_flat; nums = (n, f.nums); nested = omega arith }

  take_other : (k : ℕ) (s : List Open) → 0 < k → nesting t ≤ deepest - suc (length s) → Fill (i + size t) (opened 0 (k - 1) ∷ s) l
      → Fill i (opened 0 k ∷ s) (flat t ++ l)
  unfolding flat Num nesting size NumNames
  take_other k s h d f =
      let c = f.0 in
      let e : i ≡ i + 0 = omega arith in
      let j : i + size t + length c.names ≡ i + 0 + size t = omega arith in
      let m : i + size t + length c.names + sizes c.others ≡ i + 0 + (size t + sizes c.others) = omega arith in
      let p : l ≡ flats c.others ++ c.rest =
      subst⁻¹ (λ (xs : List Ident). l ≡ map named xs ++ (flats c.others ++ c.rest)) (no_name c.names c.name_count) c.split in (
        record {
          names = [];
          others = cons t c.others;
          rest = c.rest;
          split = ap (λ (m : List Record). flat t ++ m) p ∙ sym (append_assoc (flat t) (flats c.others) c.rest);
          name_count = refl;
          other_count = omega (arith, c.other_count);
          name_nums = tt;
          other_nums = (subst (λ (k : ℕ). Num k t) e n, subst (λ (k : ℕ). Nums k c.others) j c.other_nums);
          nested = omega (arith, c.nested);
        },
        subst (λ (k : ℕ). Fill k s c.rest) m f.1,
      )

take_name : (i : ℕ) (x : Ident) (l : List Record) (n k : ℕ) (s : List Open) → x.at ≡ i → Fill (i + 1) (opened n k ∷ s) l
    → Fill i (opened (suc n) k ∷ s) (named x ∷ l)
unfolding NumNames
take_name i x l n k s a f =
    let c = f.0 in
    let j : i + 1 + length c.names ≡ i + suc (length c.names) = omega arith in (
      record {
        names = x ∷ c.names;
        others = c.others;
        rest = c.rest;
        split = ap (λ (m : List Record). named x ∷ m) c.split;
        name_count = ap suc c.name_count;
        other_count = c.other_count;
        name_nums = (a, c.name_nums);
        other_nums = subst (λ (k : ℕ). Nums k c.others) j c.other_nums;
        nested = c.nested;
      },
      subst (λ (k : ℕ). Fill (k + sizes c.others) s c.rest) j f.1,
    )

-- a name's place takes an identifier
Fits : List Open → Tree → Type 0
Fits s t = is_name_place s ≡ true → (x : Ident) × (t ≡ ident x)

take_at : (n k : ℕ) (s : List Open) (i : ℕ) (t : Tree) (l : List Record) → 0 < n + k → Num i t → nesting t ≤ deepest - suc (length s)
    → Fits (opened n k ∷ s) t → Fill (i + size t) (take_one n k ∷ s) l → Fill i (opened n k ∷ s) (flat t ++ l)
unfolding Fits flat size Num
take_at zero k s i t l h n d g f = take_other i t l n k s (omega arith) d f
take_at (suc m) k s i t l h n d g f =
    let x = g (lt-ltb 0 (suc m) (omega arith)) in
    subst⁻¹ (λ (u : Tree). Num i u → Fill (i + size u) (opened m k ∷ s) l → Fill i (opened (suc m) k ∷ s) (flat u ++ l)) x.1
    (take_name i x.0 l m k s) n f

take : (s : List Open) (i : ℕ) (t : Tree) (l : List Record) → Ready s → Num i t → nesting t ≤ deepest - length s → Fits s t
    → Fill (i + size t) (taken s) l → Fill i s (flat t ++ l)
take [] i t l h n d g f = take-top i t l n d f
take (o ∷ s) i t l h n d g f = take_at o.names o.others s i t l h n d g f

-- a record in a name's place is an identifier
named-form : (s : List Open) (r : Record) → Stands s r → is_name_place s ≡ true → r.form ≡ 1
named-form s r h p =
    eqb-true r.form 1
    (not-false (eqb r.form 1) (sym (ap (λ (b : Bool). b && not (eqb r.form 1)) p) ∙ h.named))

-- the record r with the children that follow it takes a place
grow : (N : ℕ) (r : Record) (s : List Open) (i : ℕ) (l : List Record) → Ready s → fits N r ≡ true → Stands s r
    → Fill (i + 1) (opened (names_of r.form r.count) (others_of r.form r.count) ∷ taken s) l → Fill i s (r ∷ l)
unfolding Fits
grow N r s i l h fit st f =
    let c = f.0 in
    let t = build i r c.names c.others in
    let b = built N i r c.names c.others fit st.full c.name_count c.other_count in
    let n = built_num b st.tested c.name_count c.other_count c.name_nums c.other_nums in
    let j : i + 1 + length c.names + sizes c.others ≡ i + size t = omega (arith, built_size b) in
    let d : nesting t ≤ deepest - length s = omega (arith, built_nesting b, c.nested, length_taken s, ltb-false deepest (suc (length s)) st.deep) in
    let e : flat t ++ c.rest ≡ r ∷ l =
    ap (λ (m : List Record). m ++ c.rest) (built_flat b)
    ∙ ap (λ (m : List Record). r ∷ m) (append_assoc (map named c.names) (flats c.others) c.rest ∙ sym c.split) in
    subst (λ (m : List Record). Fill i s m) e
    (take s i t c.rest h n d (λ p. build_ident i r c.names c.others (named-form s r st p)) (subst (λ (k : ℕ). Fill k (taken s) c.rest) j f.1))

fill : (N : ℕ) (l : List Record) (s : List Open) (i : ℕ) → Ready s → All (λ r. fits N r ≡ true) l → Walk s l → Fill i s l
unfolding after flat Num nesting
fill N [] [] i h f w = record { trees = nil; is_flat = refl; nums = tt; nested = omega arith }
fill N [] (o ∷ s) i h f w = absurd (cons-ne-nil o s w)
fill N (r ∷ l) s i h f w =
    let opens = opened (names_of r.form r.count) (others_of r.form r.count) ∷ taken s in
    grow N r s i l h f.0 w.0 (reopen opens (i + 1) l (fill N l (closed opens) (i + 1) (ready opens) f.1 w.1))

pub walk_trees : (N : ℕ) (l : List Record) → All (λ r. fits N r ≡ true) l → Walk [] l → Top 0 l
walk_trees N l = fill N l [] 0 tt
