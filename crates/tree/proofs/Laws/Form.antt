-- The rows of the table of forms, by the form's number. Each rule is computed at the forms 0 to 12; above them there is no form.
use Rattle.std.specs.Prelude.{ℕ, zero, suc, ◌+◌, ◌*◌, ◌≤◌, ◌<◌, List, [], ◌∷◌, Bool, true, false, not, ◌⊎◌, ◌≡◌, refl, length, T, Option, None, Some, slice_get}
use Rattle.std.proofs.Common.{true≢false, inl, inr, ap, sym, subst, ◌∙◌, arith}
use Rattle.std.proofs.Math.Decide.{dec_le, dec_lt}
use Rattle.tree.specs.Record.{Record}
use Rattle.tree.specs.Form.{Form, forms, form_of, names_of, others_of, children_of, fits_as, fits, is_form, has_id_in}
use Rattle.tree.proofs.Laws.Build.{most_in, row}

-- what holds of each number below n, one after another, holds of every number below n
module _ (P : ℕ → Type 0) where
  abbrev pub Each : ℕ → ℕ → Type 0
  Each i zero = Unit {0}
  Each i (suc n) = P i × Each (suc i) n

  from : (n i : ℕ) → Each i n → (k : ℕ) → k < n → P (i + k)
  from zero i e k h = absurd (omega arith)
  from (suc n) i e zero h = subst P (omega arith) e.0
  from (suc n) i e (suc k) h = subst P (omega arith) (from n (suc i) e.1 k (omega arith))

  pub each : (n : ℕ) → Each 0 n → (k : ℕ) → k < n → P k
  each n e k h = subst P (omega arith) (from n 0 e k h)

past : (l : List Form) (n : ℕ) → length l ≤ n → slice_get l n ≡ None
past [] n h = refl
past (f ∷ l) zero h = absurd (omega arith)
past (f ∷ l) (suc n) h = past l n (omega arith)

pub unknown : (f : ℕ) → 12 < f → form_of f ≡ None
unfolding form_of
unknown zero h = absurd (omega arith)
unknown (suc n) h = past forms n (omega arith)

by : (P : ℕ → Type 0) → Each P 0 13 → ((f : ℕ) → 12 < f → P f) → (f : ℕ) → Dec (f < 13) → P f
by P e g f (yes h) = each P 13 e f h
by P e g f (no h) = g f (omega arith)

-- what holds of the forms 0 to 12 and of those above holds of every form
pub by_form_lem : (P : ℕ → Type 0) → Each P 0 13 → ((f : ℕ) → 12 < f → P f) → (f : ℕ) → P f
by_form_lem P e g f = by P e g f (dec_lt f 13)

true_of : (b : Bool) → T b → b ≡ true
true_of true t = refl
true_of false t = absurd t

false_of : (b : Bool) → T (not b) → b ≡ false
false_of true t = absurd t
false_of false t = refl

-- the forms are the numbers 1 to 12
pub is_form_lem : (f : ℕ) → 1 ≤ f → f ≤ 12 → is_form (form_of f) ≡ true
unfolding form_of
is_form_lem f h g = true_of _ (by_form_lem (λ n. 1 ≤ n → n ≤ 12 → T (is_form (form_of n))) (omega arith) (λ n a b c. absurd (omega arith)) f h g)

at_most : (f : ℕ) → is_form (form_of f) ≡ true → Dec (f ≤ 12) → f ≤ 12
at_most f e (yes g) = g
at_most f e (no g) = absurd (true≢false (sym e ∙ ap is_form (unknown f (omega arith))))

pub known_most : (f : ℕ) → is_form (form_of f) ≡ true → f ≤ 12
known_most f e = at_most f e (dec_le f 12)

pub known_least : (f : ℕ) → is_form (form_of f) ≡ true → 1 ≤ f
unfolding form_of
known_least zero e = absurd (true≢false (sym e))
known_least (suc f) e = omega arith

-- ids stand on the forms 1, 2, 4, 6 and 8
abbrev IdAt : ℕ → Type 0
IdAt f = (f ≡ 4) ⊎ ((f ≡ 6) ⊎ (f ≡ 8))

pub id_on : (f : ℕ) → 1 ≤ f → f ≤ 2 → true ≡ has_id_in (form_of f)
unfolding form_of
id_on f h g = sym (true_of _ (by_form_lem (λ n. 1 ≤ n → n ≤ 2 → T (has_id_in (form_of n))) (omega arith) (λ n a b c. absurd (omega arith)) f h g))

pub id_at : (f : ℕ) → IdAt f → true ≡ has_id_in (form_of f)
unfolding form_of
id_at f (inl e) = rw e
id_at f (inr (inl e)) = rw e
id_at f (inr (inr e)) = rw e

abbrev Other : ℕ → Type 0
Other f = (f ≡ 1 → ⊥) × (f ≡ 2 → ⊥) × (f ≡ 4 → ⊥) × (f ≡ 6 → ⊥) × (f ≡ 8 → ⊥)

other : (f : ℕ) → Other f → T (not (has_id_in (form_of f)))
unfolding form_of
other = by_form_lem (λ n. Other n → T (not (has_id_in (form_of n)))) (omega arith) (λ n h o. rw (unknown n h) tt)

pub no_id : (f : ℕ) → (f ≡ 1 → ⊥) → (f ≡ 2 → ⊥) → (IdAt f → ⊥) → false ≡ has_id_in (form_of f)
no_id f a b k = sym (false_of _ (other f (a, b, λ e. k (inl e), λ e. k (inr (inl e)), λ e. k (inr (inr e)))))

pub few_children : (f c : ℕ) → children_of f c ≤ 2 * c + 3
unfolding form_of names_of others_of children_of
few_children f c = by_form_lem (λ n. children_of n c ≤ 2 * c + 3) (omega arith) (λ n h. rw (unknown n h) (omega arith)) f

pub more_children : (f : ℕ) → children_of f 0 ≤ children_of f 1
unfolding form_of names_of others_of children_of
more_children f = by_form_lem (λ n. children_of n 0 ≤ children_of n 1) (omega arith) (λ n h. rw (unknown n h) (omega arith)) f

-- a count of 32 bits gives no more
pub children_at : {n f c g d : ℕ} → n ≡ children_of f c → f ≡ g → c ≡ d → c < 4294967296 → (n ≡ children_of g d) × (n ≤ 8589934593)
children_at {f = f} {c} e p q h = (e ∙ rw (p, q), omega (arith, e, few_children f c))

pub few_names : (f c : ℕ) → names_of f c ≤ c + 1
unfolding form_of names_of
few_names f c = by_form_lem (λ n. names_of n c ≤ c + 1) (omega arith) (λ n h. rw (unknown n h) (omega arith)) f

pub more-names : (f : ℕ) → names_of f 0 ≤ names_of f 1
unfolding form_of names_of
more-names f = by_form_lem (λ n. names_of n 0 ≤ names_of n 1) (omega arith) (λ n h. rw (unknown n h) (omega arith)) f

counted-names : (f c : ℕ) → c ≤ most_in (form_of f) → names_of f c ≤ 255
unfolding form_of names_of
counted-names f c = by_form_lem (λ n. c ≤ most_in (form_of n) → names_of n c ≤ 255) (omega arith) (λ n h g. rw (unknown n h) (omega arith)) f

-- a record that fits has 255 names at the most
pub fit-names : (N : ℕ) (r : Record) → fits N r ≡ true → names_of r.form r.count ≤ 255
unfolding fits
fit-names N r e = counted-names r.form r.count (row N r (form_of r.form) e).1

-- a record that fits is of a known form
known_as : (N : ℕ) (r : Record) (o : Option Form) → fits_as N r o ≡ true → is_form o ≡ true
known_as N r None e = e
known_as N r (Some f) e = refl

pub fits-known : (N : ℕ) (r : Record) → fits N r ≡ true → is_form (form_of r.form) ≡ true
unfolding fits
fits-known N r e = known_as N r (form_of r.form) e
