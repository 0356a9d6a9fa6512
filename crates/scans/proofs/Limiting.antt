-- The limits by form are the rows of the table of forms: to be within them is to be sound.
use Rattle.std.specs.Prelude.{Option, None, Some}
use Prim.Native.Nat.{ℕ, zero, suc, ◌+◌, ◌*◌, ◌≤◌, ◌<◌}
use mathlib.Core.Bool.{Bool, true, false, cond, ◌&&◌, ◌||◌, true≢false}
use mathlib.Core.Path.{◌≡◌, refl, sym, subst, ◌∙◌}
use native.Mathlib.Omega.{arith}
use native.Mathlib.Decide.{ℕ_discrete}
use borrow.Author.Tests.{leb-true, le-leb, lt-leb, ne_eqb}
use lib.Dec.{eqb, leb, ltb}
use Rattle.tree.specs.Record.{Record}
use Rattle.tree.specs.Form.{Form, form_of, names_of, others_of, children_of, id_fits, fits_as, fits, is_form, has_id_in}
use Rattle.tree.proofs.Laws.Form.{fits-known, each, is_form_lem, known_least, known_most, few_children, few_names}
use Rattle.scans.specs.declared.limits.Limits.{Limits}
use Rattle.scans.specs.Limits.{limits, limit_of, Between, parts_at, Fields, Within}
use Rattle.scans.specs.Tells.{Tells}
use Rattle.scans.specs.Sound.{Sound}
use Rattle.scans.proofs.Telling.{tells_no, tells_same, tells_alike, tells_itself, tells_le, tells_lt, tells_both}

-- The parts of what a record's fields may be; an unknown form counts as one with no id, no name and no count

abbrev name_below_in : Option Form → ℕ → ℕ
name_below_in None N = 1
name_below_in (Some f) N = f.name_below N

abbrev count_most_in : Option Form → ℕ
count_most_in None = 0
count_most_in (Some f) = f.count_most

parts : (N : ℕ) (r : Record) (o : Option Form) → fits_as N r o ≡ is_form o && (id_fits (has_id_in o) r.id && (ltb r.name (name_below_in o N) && leb r.count (count_most_in o)))
parts N r None = refl
parts N r (Some f) = refl

-- how many names may be due where a record of form f stands: none but an identifier takes a name's place, and a record has 255 names at the most
unfoldable due_most : ℕ → ℕ
due_most f = cond (eqb f 1) 255 0

-- what the limits of form f are
record Row (N f : ℕ) : Type 0 where
  pub least : limit_of (limits N).least_count f ≡ cond (eqb f 8 || (eqb f 11 || eqb f 12)) 1 0
  pub most : limit_of (limits N).most_count f ≡ count_most_in (form_of f)
  pub below : limit_of (limits N).name_below f ≡ name_below_in (form_of f) N
  pub due : limit_of (limits N).most_due f ≡ due_most f

row_of : (N f : ℕ) → f ≤ 12 → Row N f
unfolding limits form_of due_most
row_of N f h = record {
  least = each (λ n. limit_of (limits N).least_count n ≡ cond (eqb n 8 || (eqb n 11 || eqb n 12)) 1 0) 13 (omega arith) f (omega arith);
  most = each (λ n. limit_of (limits N).most_count n ≡ count_most_in (form_of n)) 13 (omega arith) f (omega arith);
  below = each (λ n. limit_of (limits N).name_below n ≡ name_below_in (form_of n) N) 13 (omega arith) f (omega arith);
  due = each (λ n. limit_of (limits N).most_due n ≡ due_most n) 13 (omega arith) f (omega arith);
}

-- what those of the names and the children give together, with c counted
record Parts (N c f : ℕ) : Type 0 where
  pub names : limit_of (limits N).names.every f + limit_of (limits N).names.counted f * c ≡ names_of f c
  pub children : limit_of (limits N).children.every f + limit_of (limits N).children.counted f * c ≡ children_of f c

parts_of : (N c f : ℕ) → f ≤ 12 → Parts N c f
unfolding limits form_of names_of others_of children_of
parts_of N c f h = each (Parts N c) 13 (omega arith) f (omega arith)

count_few : (N f : ℕ) → f ≤ 12 → limit_of (limits N).most_count f ≤ 255
unfolding limits
count_few N f h = each (λ n. limit_of (limits N).most_count n ≤ 255) 13 (omega arith) f (omega arith)

-- an id is within those of a form alone
id_form : (N i f : ℕ) → f ≤ 12 → Between (limits N) f i → 1 ≤ f
unfolding limits
id_form N i f h = each (λ n. Between (limits N) n i → 1 ≤ n) 13 (omega arith) f (omega arith)

abbrev bit : Bool → ℕ
bit true = 1
bit false = 0

-- what those of the id are
id_of_lem : (N f : ℕ) → 1 ≤ f → f ≤ 12 → let b = bit (has_id_in (form_of f)) in (limit_of (limits N).least_id f ≡ b) × (limit_of (limits N).most_id f ≡ b * 4294967294)
unfolding limits form_of
id_of_lem N f g h = (
  each (λ n. 1 ≤ n → limit_of (limits N).least_id n ≡ bit (has_id_in (form_of n))) 13 (omega arith) f (omega arith) g,
  each (λ n. 1 ≤ n → limit_of (limits N).most_id n ≡ bit (has_id_in (form_of n)) * 4294967294) 13 (omega arith) f (omega arith) g,
)

zero-only : (i : ℕ) → leb i 0 ≡ eqb i 0
zero-only zero = refl
zero-only (suc i) = lt-leb (suc i) 0 (omega arith) ∙ sym (ne_eqb (suc i) 0 (λ e. omega arith))

as_bit : (b : Bool) (i : ℕ) → leb (bit b) i && leb i (bit b * 4294967294) ≡ id_fits b i
as_bit true i = refl
as_bit false i = rw (le-leb 0 i (omega arith)) (zero-only i)

tells_id : (N f i : ℕ) → 1 ≤ f → f ≤ 12 → Tells (id_fits (has_id_in (form_of f)) i) (Between (limits N) f i)
tells_id N f i g h =
    let b = has_id_in (form_of f) in
    let l = id_of_lem N f g h in
    subst (λ (t : Bool). Tells t (Between (limits N) f i)) (as_bit b i)
    (tells_same (tells_both (tells_le (bit b) i) (tells_le i (bit b * 4294967294)))
    (λ u. rw (l.0, l.1) u) (λ u. rw (l.0, l.1) at u))

-- a record fits if its form is known, and the fields are within the form's limits, but for the least count
module _ (N : ℕ) (r : Record) where
  tells_parts : let f = r.form in 1 ≤ f → f ≤ 12
      → Tells (fits N r) ((is_form (form_of f) ≡ true) × (Between (limits N) f r.id × ((r.name < limit_of (limits N).name_below f) × (r.count ≤ limit_of (limits N).most_count f))))
  unfolding fits
  tells_parts g h =
      let o = form_of r.form in
      rw (parts N r o, (row_of N r.form h).below, (row_of N r.form h).most)
      (tells_both (tells_itself (is_form o)) (tells_both (tells_id N r.form r.id g h) (tells_both (tells_lt r.name (name_below_in o N)) (tells_le r.count (count_most_in o)))))

  fit-fields : fits N r ≡ true → Fields (limits N) r
  fit-fields e =
      let k = fits-known N r e in
      let h = known_most r.form k in
      let f = (tells_parts (known_least r.form k) h).yes e in
      record { known = h; id = f.1.0; most = f.1.1.1; name = f.1.1.0 }

  fields_fit : Fields (limits N) r → fits N r ≡ true
  fields_fit w =
      let h = w.known in
      let g = id_form N r.id r.form h w.id in
      (tells_parts g h).all (is_form_lem r.form g h, (w.id, (w.name, w.most)))

-- an empty call, a when and an unless have fewer than their least

both_out : (a b z : Bool) → ((a || b) && z) ≡ false → ((a && z) ≡ false) × ((b && z) ≡ false)
both_out true true z e = (e, e)
both_out true false z e = (e, refl)
both_out false b z e = (refl, e)

in_both : (a b z : Bool) → (a && z) ≡ false → (b && z) ≡ false → ((a || b) && z) ≡ false
in_both true b z p q = p
in_both false b z p q = q

tells_called : (b : Bool) (c : ℕ) → Tells (leb (cond b 1 0) c) (b && eqb c 0 ≡ false)
tells_called true zero = tells_no true≢false
tells_called true (suc c) = tells_same (tells_le 1 (suc c)) (λ h. ne_eqb (suc c) 0 (λ e. omega arith)) (λ e. omega arith)
tells_called false c = tells_same (tells_le 0 c) (λ h. refl) (λ e. omega arith)

-- where names are due, only an identifier is within
module _ (f due : ℕ) (h : due ≤ 255) where
  by_name : Dec (f ≡ 1) → Tells (leb due (due_most f)) (0 < due → f ≡ 1)
  unfolding due_most
  by_name (yes e) = record { yes = λ t z. e; all = λ g. rw e (le-leb due 255 h) }
  by_name (no n) = record {
    yes = λ t z. absurd (omega (arith, leb-true due 0 (rw (ne_eqb f 1 n) at t)));
    all = λ g. let z : 0 < due → ⊥ = λ y. n (g y) in rw (ne_eqb f 1 n) (le-leb due 0 (omega arith));
  }

  tells_named : Tells (leb due (due_most f)) (0 < due → f ≡ 1)
  tells_named = by_name (ℕ_discrete f 1)

module _ (N : ℕ) (r : Record) (due : ℕ) (few : due ≤ 255) where
  within_sound : Within (limits N) r due → Sound N r due
  within_sound w =
      let o = row_of N r.form w.fields.known in
      let f = r.form in
      let full = both_out (eqb f 8) (eqb f 11 || eqb f 12) (eqb r.count 0)
      ((tells_called (eqb f 8 || (eqb f 11 || eqb f 12)) r.count).yes (le-leb _ _ (rw o.least at w.least))) in
      record {
        fit = fields_fit N r w.fields;
        called = full.0;
        tested = full.1;
        named = (tells_named r.form due few).yes (le-leb _ _ (rw o.due at w.few));
      }

  sound_within : Sound N r due → Within (limits N) r due
  sound_within s =
      let f = fit-fields N r s.fit in
      let o = row_of N r.form f.known in
      let g = r.form in
      record {
        fields = f;
        least = rw o.least (leb-true _ _ ((tells_called (eqb g 8 || (eqb g 11 || eqb g 12)) r.count).all (in_both (eqb g 8) (eqb g 11 || eqb g 12) (eqb r.count 0) s.called s.tested)));
        few = rw o.due (leb-true _ _ ((tells_named r.form due few).all s.named));
      }

-- the same of any list that is the limits
module _ (N : ℕ) {t : Limits} (e : t ≡ limits N) (r : Record) where
  pub fit-told : {b : Bool} → Tells b (Fields t r) → b ≡ fits N r
  fit-told {b} u = tells_alike b (fits N r) u (tells_same (tells_itself (fits N r)) (λ f. rw e (fit-fields N r f)) (λ w. fields_fit N r (rw e at w)))

  pub tells_sound : {due : ℕ} → due ≤ 255 → {b : Bool} → Tells b (Within t r due) → Tells b (Sound N r due)
  tells_sound {due} h u = tells_same u (λ w. within_sound N r due h (rw e at w)) (λ s. rw e (sound_within N r due h s))

  module _ {due : ℕ} (w : Within t r due) where
    pub names_at : parts_at t.names r ≡ names_of r.form r.count
    names_at = rw e (parts_of N r.count r.form w.fields.known).names

    pub children_at : parts_at t.children r ≡ children_of r.form r.count
    children_at = rw e (parts_of N r.count r.form w.fields.known).children

    counted : r.count ≤ 255
    counted = let k = rw e at w.fields.most in omega (arith, count_few N r.form w.fields.known)

    pub names_few : parts_at t.names r ≤ 256
    names_few = omega (arith, names_at, few_names r.form r.count, counted)

    pub children_few : parts_at t.children r ≤ 513
    children_few = omega (arith, children_at, few_children r.form r.count, counted)
