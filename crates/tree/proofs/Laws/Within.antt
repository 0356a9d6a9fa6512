-- Laws of records that stand in their place: the first of them, and what follows.
use Rattle.std.specs.Prelude.{ℕ, zero, suc, ◌+◌, ◌-◌, ◌*◌, ◌≤◌, ◌<◌, List, [], ◌∷◌, ◌++◌, true, ◌≡◌, refl, length, get_or, drop}
use Rattle.std.proofs.Common.{append_assoc, subst, ◌∙◌, arith, add-zero, length-drop, drop-drop, get_or-drop}
use Rattle.std.proofs.Math.Path.{ap, sym}
use Rattle.std.proofs.Math.ListN.{length-append, get_or-append}
use Rattle.std.proofs.Math.Seq.{drop_at}
use Rattle.table.specs.Layout.{layout}
use Rattle.tree.specs.Record.{Record, width, numbers, records, blank, nth}
use Rattle.tree.proofs.Laws.Record.{length-records, records-drop}
use Rattle.tree.specs.Form.{form_of, fits}
use Rattle.tree.specs.Tree.{Ident, named}
use Rattle.tree.proofs.Laws.Tree.{numbers-append, length-numbers}
use Rattle.tree.proofs.Laws.Build.{row}
use Rattle.tree.specs.Accepted.{All}
use Rattle.tree.specs.Stands.{Within}

-- from record at + k on
pub drop-records : (rs : List ℕ) (at k : ℕ) → drop (width * k) (drop (width * at) rs) ≡ drop (width * (at + k)) rs
drop-records rs at k =
    let e : width * at + width * k ≡ width * (at + k) = omega arith in
    drop-drop (width * k) (width * at) rs ∙ ap (λ (n : ℕ). drop n rs) e

records-append : (l : List Record) (m : List ℕ) → records (numbers l ++ m) ≡ l ++ records m
unfolding records layout
records-append [] m = refl
records-append (r ∷ l) m = ap (λ (k : List Record). r ∷ k) (records-append l m)

module _ {A : Type 0} (P : A → Type 0) where
  pub all_front : (l m : List A) → All P (l ++ m) → All P l
  all_front [] m p = tt
  all_front (a ∷ l) m p = (p.0, all_front l m p.1)

  pub all_rest : (l m : List A) → All P (l ++ m) → All P m
  all_rest [] m p = p
  all_rest (a ∷ l) m p = all_rest l m p.1

  all-at : (l : List A) (d : A) (j : ℕ) → j < length l → All P l → P (get_or l j d)
  all-at [] d j h p = absurd (omega arith)
  all-at (a ∷ l) d zero h p = p.0
  all-at (a ∷ l) d (suc j) h p = all-at l d j (omega arith) p.1

module _ {N : ℕ} {rs : List ℕ} {at : ℕ} where
  pub records-at : {l : List Record} (w : Within N rs at l) → drop at (records rs) ≡ l ++ records w.rest
  records-at {l} w = sym (records-drop rs at) ∙ ap records w.is ∙ records-append l w.rest

  pub end-inside : {l : List Record} → Within N rs at l → at + length l ≤ length (records rs)
  end-inside {l} w =
      omega (
        arith,
        w.inside,
        length-records rs,
        length-drop at (records rs),
        ap length (records-at w),
        length-append l (records w.rest),
      )

  -- Each of them
  module _ {l : List Record} (w : Within N rs at l) where
    record_at_lem : (j : ℕ) → j < length l → nth rs (at + j) ≡ get_or l j blank
    record_at_lem j h =
        sym (get_or-drop at (records rs) j blank)
        ∙ ap (λ (m : List Record). get_or m j blank) (records-at w)
        ∙ get_or-append l (records w.rest) blank j h

    fit-after : (j : ℕ) → j < length l → fits N (nth rs (at + j)) ≡ true
    fit-after j h = rw (record_at_lem j h) (all-at (λ r. fits N r ≡ true) l blank j h w.fields)

    pub fit_at : {i : ℕ} → at ≤ i → i < at + length l → fits N (nth rs i) ≡ true
    fit_at {i} g h =
        let z : at + (i - at) ≡ i = omega arith in
        subst (λ (k : ℕ). fits N (nth rs k) ≡ true) z (fit-after (i - at) (omega arith))

  -- The records in front, and those after them
  pub front : (l m : List Record) → Within N rs at (l ++ m) → Within N rs at l
  front l m w = record {
    rest = numbers m ++ w.rest;
    is = w.is ∙ ap (λ (k : List ℕ). k ++ w.rest) (numbers-append l m) ∙ append_assoc (numbers l) (numbers m) w.rest;
    inside = w.inside;
    fields = all_front (λ r. fits N r ≡ true) l m w.fields;
    few = omega (arith, w.few, length-append l m);
  }

  pub following : (l m : List Record) {k : ℕ} → length l ≡ k → Within N rs at (l ++ m) → Within N rs (at + k) m
  unfolding front
  following l m {k} e w =
      let f = front l m w in
      record {
        rest = w.rest;
        is = sym (drop-records rs at k)
            ∙ ap (drop (width * k)) f.is
            ∙ drop_at (numbers l) (numbers m ++ w.rest) (width * k) (omega (arith, length-numbers l));
        inside = omega (arith, end-inside f, length-records rs);
        fields = all_rest (λ r. fits N r ≡ true) l m w.fields;
        few = omega (arith, w.few, length-append l m);
      }

  -- The first record
  module _ {r : Record} {l : List Record} (w : Within N rs at (r ∷ l)) where
    pub first : nth rs at ≡ r
    first = ap (λ (n : ℕ). get_or (records rs) n blank) (sym (add-zero at)) ∙ record_at_lem w 0 (omega arith)

    pub first-inside : at < length (records rs)
    first-inside = omega (arith, end-inside w)

    pub first_few : at < 4096
    first_few = omega (arith, w.few)

    pub later : Within N rs (at + 1) l
    later = following (r ∷ []) l refl w

-- the name of a record of form 1 is one of the N
pub name_below_lem : (N : ℕ) (x : Ident) → fits N (named x) ≡ true → x.name < N
unfolding fits form_of
name_below_lem N x e = (row N (named x) (form_of 1) e).0
