-- `extent_at`: the records are passed until no child is to come.
use Prim.Native.Nat.{ℕ, zero, suc, ◌+◌, ◌-◌, ◌*◌, ◌≤◌, ◌<◌}
use mathlib.Core.List.{List, [], ◌∷◌, ◌++◌, map, append_assoc}
use mathlib.Core.Bool.{true}
use mathlib.Core.Path.{◌≡◌, refl, ap, ap₂, sym, ◌∙◌}
use native.Mathlib.Omega.{arith}
use native.Mathlib.Decide.{dec_lt}
use native.Mathlib.Nat.{zero-add, suc-add}
use native.Mathlib.Numerals.{add-one}
use lib.ListN.{length, drop, drop_of_length-le}
use lib.Seq.{drop-cons}
use Rattle.tree.specs.Record.{Record, records, blank, nth}
use Rattle.tree.specs.Form.{form_of, names_of, others_of, children_of, is_form}
use Rattle.tree.proofs.Laws.Form.{fits-known}
use Rattle.tree.specs.Tree.{Ident, Tree, Trees, nil, cons, many, named, flat, flats, size, sizes, Num, Nums}
use Rattle.tree.proofs.Laws.Tree.{length_flat}
use Rattle.tree.proofs.Laws.Parts.{own, names, others, flat_with, size-own, num_own, Each, induct}
use Rattle.tree.specs.Stands.{Stands}
use Rattle.tree.proofs.Laws.Stands.{tree_inside, tree_few}
use Rattle.tree.proofs.Laws.Within.{records-at, fit_at}
use Rattle.walk.specs.Contract.{SomeTree, Extends}

-- how many records are passed, k children being to come; a child that does not come counts as one
pub span : List Record → ℕ → ℕ
span [] k = k
span (r ∷ l) zero = 0
span (r ∷ l) (suc k) = suc (span l (k + children_of r.form r.count))

span-at : (r : Record) (l : List Record) {j k m : ℕ} → j ≡ suc k → m ≡ k + children_of r.form r.count → span (r ∷ l) j ≡ suc (span l m)
unfolding span
span-at r l {k = k} ej em = ap (span (r ∷ l)) ej ∙ ap (λ (n : ℕ). suc (span l n)) (sym em)

span-names : (xs : List Ident) (k : ℕ) (l : List Record) → span (map named xs ++ l) (length xs + k) ≡ length xs + span l k
unfolding children_of names_of others_of form_of
span-names [] k l = ap (span l) (zero-add k) ∙ sym (zero-add (span l k))
span-names (x ∷ xs) k l =
    span-at (named x) (map named xs ++ l) {k = length xs + k} {m = length xs + k} (omega arith) (omega arith) ∙ omega (arith, span-names xs k l)

-- What is shown of every tree: it takes the place of one child
Passes : Tree → Type 0
Passes t = (i k : ℕ) (l : List Record) → Num i t → span (flat t ++ l) (suc k) ≡ size t + span l k

span-others : (ts : Trees) (i k : ℕ) (l : List Record) → Each Passes ts → Nums i ts → span (flats ts ++ l) (many ts + k) ≡ sizes ts + span l k
unfolding Passes flat size Num
span-others nil i k l h n = ap (span l) (zero-add k) ∙ sym (zero-add (span l k))
span-others (cons t ts) i k l h n =
    ap₂ span (append_assoc (flat t) (flats ts) l) (suc-add (many ts) k)
    ∙ h.0 i (many ts + k) (flats ts ++ l) n.0
    ∙ omega (arith, span-others ts (i + size t) k l h.1 n.1)

span-step : (t : Tree) → Each Passes (others t) → Passes t
unfolding Passes children_of
span-step t h i k l n =
    let p = num_own i t n in
    let m = length (names t) + (many (others t) + k) in
    let e : m ≡ k + children_of (own t).form (own t).count = omega (arith, p.name_count, p.other_count) in
    ap (λ (a : List Record). span a (suc k)) (flat_with t l)
    ∙ span-at (own t) (map named (names t) ++ (flats (others t) ++ l)) refl e
    ∙ omega (
      arith,
      span-names (names t) (many (others t) + k) (flats (others t) ++ l),
      span-others (others t) (i + 1 + length (names t)) k l h p.other_nums,
      size-own t,
    )

span_none : (l : List Record) → span l 0 ≡ 0
unfolding span
span_none [] = refl
span_none (r ∷ l) = refl

span_tree : {N : ℕ} {rs : List ℕ} {at : ℕ} {t : Tree} → Stands N rs at t → span (drop at (records rs)) 1 ≡ size t
unfolding Passes
span_tree {at = at} {t} s =
    ap (λ (l : List Record). span l 1) (records-at s.within)
    ∙ induct Passes span-step t at 0 (records s.within.rest) s.num
    ∙ omega (arith, span_none (records s.within.rest))

-- The loop has come to record i

pub record Passed (rs : List ℕ) (at k i : ℕ) : Type 0 where
  pub rest : i + span (drop i (records rs)) k ≡ at + span (drop at (records rs)) 1
  pub above : at ≤ i
  pub few : k + 8589934593 * at ≤ 8589934593 * i + 1

-- neither i nor k can pass a usize: a tree has at most 4096 records
pub record Small (k i : ℕ) : Type 0 where
  pub records : i < 4096
  pub children : k ≤ 8589934593 * 4096 + 1

pub start : (rs : List ℕ) (at : ℕ) → Passed rs at 1 at
start rs at = record { rest = refl; above = omega arith; few = omega arith }

module _ {rs : List ℕ} {at k i : ℕ} (a : Passed rs at k i) where
  module _ (h : 0 < k) (g : i < length (records rs)) where
    here : span (drop i (records rs)) k ≡ suc (span (drop (i + 1) (records rs)) (k - 1 + children_of (nth rs i).form (nth rs i).count))
    here =
        ap (λ (l : List Record). span l k) (drop-cons (records rs) i blank g ∙ ap (λ (j : ℕ). nth rs i ∷ drop j (records rs)) (sym (add-one i)))
        ∙ span-at (nth rs i) (drop (i + 1) (records rs)) {k = k - 1} (omega arith) refl

    pub next : {c : ℕ} → c ≡ children_of (nth rs i).form (nth rs i).count → c ≤ 8589934593 → Passed rs at (k - 1 + c) (i + 1)
    next {c} e f = record {
      rest = omega (arith, a.rest, here, ap (λ (j : ℕ). span (drop (i + 1) (records rs)) (k - 1 + j)) e);
      above = omega (arith, a.above);
      few = omega (arith, a.few);
    }

  -- while a child is to come, record i is one of the tree's
  module _ (h : 0 < k) (s : SomeTree rs at) where
    either : Dec (i < length (records rs)) → i < length (records rs)
    unfolding span
    either (yes g) = g
    either (no g) =
        let l : length (records rs) ≤ i = omega arith in
        let e : span (drop i (records rs)) k ≡ k = ap (λ (m : List Record). span m k) (drop_of_length-le (records rs) l) in
        absurd (omega (arith, a.rest, span_tree s.tree.stands, tree_inside s.tree.stands))

    pub ahead : i < length (records rs)
    ahead = either (dec_lt i (length (records rs)))

    inside : i < at + size s.tree.t
    inside = omega (arith, here h ahead, a.rest, span_tree s.tree.stands)

    pub small : Small k i
    small = let f = tree_few s.tree.stands in let e = inside in record { records = omega arith; children = omega (arith, a.few) }

    pub known : is_form (form_of (nth rs i).form) ≡ true
    known = fits-known s.names (nth rs i) (fit_at s.tree.stands.within a.above (omega (arith, inside, length_flat s.tree.t)))

  pub ended : k ≤ 0 → Extends rs at (i - at)
  ended h =
      let z : k ≡ 0 = omega arith in
      let e : span (drop i (records rs)) k ≡ 0 = ap (span (drop i (records rs))) z ∙ span_none (drop i (records rs)) in
      record { is = λ N t s. omega (arith, a.rest, a.above, span_tree s) }
