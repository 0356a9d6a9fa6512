-- Laws of trees and names that stand in their place: the record of the root, and what follows the first of a row.
use Rattle.std.specs.Prelude.{ℕ, ◌+◌, ◌≤◌, ◌<◌, List, [], ◌∷◌, true, ◌≡◌, length}
use Rattle.std.proofs.Common.{append-nil, ap, sym, subst, ◌∙◌, arith}
use Rattle.std.proofs.lemmas.List.{length-map}
use Rattle.tree.specs.Record.{Record, numbers, records, nth}
use Rattle.tree.specs.Form.{fits}
use Rattle.tree.specs.Tree.{Ident, Tree, Trees, cons, named, flat, flats, size, sizes, NumNames, Num}
use Rattle.tree.proofs.Laws.Tree.{length_flat, length_flats}
use Rattle.tree.proofs.Laws.Parts.{own, at, flat_own}
use Rattle.tree.specs.Accepted.{All, Accepted}
use Rattle.tree.specs.Stands.{Within, Stands, StandAll, NamesStand}
use Rattle.tree.proofs.Laws.Within.{end-inside, front, following, first, first-inside, first_few, later, name_below_lem}
pub mod Parts
pub mod Forms

-- record i is r, within the limits
pub record RecordAt (N : ℕ) (rs : List ℕ) (i : ℕ) (r : Record) : Type 0 where
  pub is : nth rs i ≡ r
  pub inside : i < length (records rs)
  pub few : i < 4096
  pub fit : fits N r ≡ true

first-at : {N : ℕ} {rs : List ℕ} {i : ℕ} {r : Record} {l : List Record} → Within N rs i (r ∷ l) → RecordAt N rs i r
first-at w = record { is = first w; inside = first-inside w; few = first_few w; fit = w.fields.0 }

-- an identifier at its record
abbrev pub IdentAt : ℕ → List ℕ → Ident → Type 0
IdentAt N rs x = RecordAt N rs x.at (named x)

pub ident_name : {N : ℕ} {rs : List ℕ} (x : Ident) → IdentAt N rs x → x.name < N
ident_name {N} x a = name_below_lem N x a.fit

module _ {N : ℕ} {rs : List ℕ} where
  -- The root

  pub root : {i : ℕ} {t : Tree} → Stands N rs i t → RecordAt N rs i (own t)
  root {i} {t} s = first-at (subst (λ (l : List Record). Within N rs i l) (flat_own t) s.within)

  pub root_form : {i : ℕ} {t : Tree} → Stands N rs i t → (nth rs i).form ≡ (own t).form
  root_form s = ap (λ (r : Record). r.form) (root s).is

  pub root_count : {i : ℕ} {t : Tree} → Stands N rs i t → (nth rs i).count ≡ (own t).count
  root_count s = ap (λ (r : Record). r.count) (root s).is

  pub tree_inside : {i : ℕ} {t : Tree} → Stands N rs i t → i + size t ≤ length (records rs)
  tree_inside {i} {t} s = omega (arith, end-inside s.within, length_flat t)

  pub tree_few : {i : ℕ} {t : Tree} → Stands N rs i t → i + size t ≤ 4096
  tree_few {i} {t} s = omega (arith, s.within.few, length_flat t)

  pub trees_inside : {i : ℕ} {ts : Trees} → StandAll N rs i ts → i + sizes ts ≤ length (records rs)
  trees_inside {i} {ts} s = omega (arith, end-inside s.within, length_flats ts)

  pub trees_few : {i : ℕ} {ts : Trees} → StandAll N rs i ts → i + sizes ts ≤ 4096
  trees_few {i} {ts} s = omega (arith, s.within.few, length_flats ts)

  pub names-inside : {i : ℕ} {xs : List Ident} → NamesStand N rs i xs → i + length xs ≤ length (records rs)
  names-inside {i} {xs} s = omega (arith, end-inside s.within, length-map xs named)

  -- Names in a row

  pub name_at : {i : ℕ} {x : Ident} → x.at ≡ i → {l : List Record} → Within N rs i (named x ∷ l) → IdentAt N rs x
  name_at {x = x} e {l} w = first-at (subst (λ (k : ℕ). Within N rs k (named x ∷ l)) (sym e) w)

  pub first_name : {i : ℕ} {x : Ident} {xs : List Ident} → NamesStand N rs i (x ∷ xs) → IdentAt N rs x
  unfolding NumNames
  first_name s = name_at s.num.0 s.within

  pub first_place : {i : ℕ} {x : Ident} {xs : List Ident} → NamesStand N rs i (x ∷ xs) → x.at ≡ i
  unfolding NumNames
  first_place s = s.num.0

  pub later-names : {i : ℕ} {x : Ident} {xs : List Ident} → NamesStand N rs i (x ∷ xs) → NamesStand N rs (i + 1) xs
  unfolding NumNames
  later-names s = record { within = later s.within; num = s.num.1 }

  pub names_at : {i : ℕ} (xs : List Ident) → NamesStand N rs i xs → All (λ x. IdentAt N rs x) xs
  names_at [] s = tt
  names_at {i = i} (x ∷ xs) s = (first_name s, names_at {i = i + 1} xs (later-names s))

  -- Trees in a row

  pub first_tree : {i : ℕ} {t : Tree} {ts : Trees} → StandAll N rs i (cons t ts) → Stands N rs i t
  unfolding flat Num
  first_tree {t = t} {ts} s = record { within = front (flat t) (flats ts) s.within; num = s.num.0 }

  pub later_trees : {i : ℕ} {t : Tree} {ts : Trees} → StandAll N rs i (cons t ts) → StandAll N rs (i + size t) ts
  unfolding flat Num
  later_trees {t = t} {ts} s = record { within = following (flat t) (flats ts) (length_flat t) s.within; num = s.num.1 }

-- Accepted trees stand from the first record on
pub accepted_stand : {N : ℕ} {rs : List ℕ} {ts : Trees} → Accepted N rs ts → StandAll N rs 0 ts
accepted_stand {ts = ts} a = record {
  within = record {
    rest = [];
    is = a.flat ∙ sym (append-nil (numbers (flats ts)));
    inside = omega arith;
    fields = a.fields;
    few = omega (arith, a.few, length_flats ts);
  };
  num = a.num;
}
