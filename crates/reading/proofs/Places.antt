-- One line, field by field.
use Rattle.std.specs.Prelude.{Option, None, Some}
use Prim.Native.Nat.{ℕ, ◌+◌, ◌-◌, ◌*◌, ◌^◌, ◌≤◌, ◌<◌}
use mathlib.Core.Bool.{true, false}
use mathlib.Core.List.{List, [], ◌∷◌, ◌++◌}
use mathlib.Core.Path.{◌≡◌, refl, ap, sym, ◌∙◌}
use native.Mathlib.Omega.{arith}
use native.Mathlib.Numerals.{add-one}
use lib.ListN.{length, get_or, drop, drop_of_length-le}
use lib.Seq.{drop-cons}
use Rattle.reading.specs.Reading.{Numbered, after, is_digit, digits, fit, number_at, field_at, onto, numbers_of}
use Rattle.reading.specs.Laws.Line.{numbers-none, numbers-some}
use Rattle.reading.specs.declared.line.Field.{Field}
use Rattle.reading.specs.Found.{numbered_in, found}
use Rattle.reading.specs.Laws.Numbers.{numbered, Digit, digit, other, digit_or, digits_more, digits-stop, fits, fits_not, number-zero, number_digit, number_other, after_sound, after_complete}
use lib.Dec.{eqb}
use borrow.Author.Tests.{eqb-true, ne_eqb}

next : (l : List ℕ) (i : ℕ) → i < length l → drop i l ≡ get_or l i 0 ∷ drop (i + 1) l
next l i h = rw add-one (drop-cons l i 0 h)

-- What follows a mark

pub after_some : (m l r : List ℕ) → l ≡ m ++ r → after m l ≡ Some r
after_some m l r e = ap (after m) e ∙ after_complete m r

pub after-none : (m l : List ℕ) → ((r : List ℕ) → l ≡ m ++ r → ⊥) → after m l ≡ None
after-none m l f = go (after m l) refl
  where
    go : (o : Option (List ℕ)) → after m l ≡ o → after m l ≡ None
    go None e = e
    go (Some r) e = absurd (f r (after_sound m l r e))

-- The digits from the place i on

module _ (l : List ℕ) (v i : ℕ) where
  pub digits_turn : i < length l → is_digit (get_or l i 0) ≡ true → digits v (drop i l) ≡ digits (10 * v + (get_or l i 0 - 48)) (drop (i + 1) l)
  digits_turn h e = rw (next l i h) (digits_more v (get_or l i 0) (drop (i + 1) l) e)

  pub digits_turn_as : (w : ℕ) → i < length l → is_digit (get_or l i 0) ≡ true → w ≡ 10 * v + (get_or l i 0 - 48) → digits v (drop i l) ≡ digits w (drop (i + 1) l)
  digits_turn_as w h e q = digits_turn h e ∙ ap (λ (n : ℕ). digits n (drop (i + 1) l)) (sym q)

  pub digits-over : i < length l → is_digit (get_or l i 0) ≡ false → digits v (drop i l) ≡ numbered v (drop i l)
  digits-over h e = rw (next l i h) (digits-stop v (get_or l i 0) (drop (i + 1) l) e)

  pub digits-end : length l ≤ i → digits v (drop i l) ≡ numbered v []
  unfolding digits
  digits-end h = rw (drop_of_length-le l h)

digits_grow : (l : List ℕ) (v : ℕ) → v ≤ (digits v l).value
unfolding digits
digits_grow [] v = omega arith
digits_grow (x ∷ l) v = go (digit_or x) (digits_grow l (10 * v + (x - 48)))
  where
    go : Digit x → 10 * v + (x - 48) ≤ (digits (10 * v + (x - 48)) l).value → v ≤ (digits v (x ∷ l)).value
    go (digit a b e) i = rw (digits_more v x l e) (omega arith)
    go (other e) i = rw (digits-stop v x l e) (omega arith)

-- the number ends, or is too large
pub fits_as : {o : Numbered} (v : ℕ) {r q : List ℕ} → v < 2 ^ 32 → o ≡ numbered v q → r ≡ q → Some (numbered v r) ≡ fit o
fits_as v {r} {q} h e k = ap (λ (l : List ℕ). Some (numbered v l)) k ∙ sym (ap fit e ∙ fits (numbered v q) h)

pub fits-none : {o : Numbered} (v : ℕ) (r : List ℕ) → 2 ^ 32 ≤ v → o ≡ digits v r → None ≡ fit o
fits-none v r h e = sym (ap fit e ∙ fits_not (digits v r) (omega (arith, digits_grow r v)))

-- The number at the start

pub number_digits : {l rest : List ℕ} {x : ℕ} → l ≡ x ∷ rest → (x ≡ 48 → ⊥) → is_digit x ≡ true → number_at l ≡ fit (digits (x - 48) rest)
number_digits {l} {rest} {x} e h d = ap number_at e ∙ number_digit x rest (ne_eqb x 48 h) d

pub number-none : {l rest : List ℕ} {x : ℕ} → l ≡ x ∷ rest → (x ≡ 48 → ⊥) → is_digit x ≡ false → number_at l ≡ None
number-none {l} {rest} {x} e h d = ap number_at e ∙ number_other x rest (ne_eqb x 48 h) d

pub number_nought : {l rest : List ℕ} {x : ℕ} → l ≡ x ∷ rest → x ≡ 48 → number_at l ≡ Some (numbered 0 rest)
number_nought {l} {rest} e h = ap number_at (e ∙ ap (λ (y : ℕ). y ∷ rest) h) ∙ number-zero rest

pub number-end : (l : List ℕ) → length l ≡ 0 → number_at l ≡ None
unfolding number_at
number-end [] h = refl
number-end (x ∷ l) h = absurd (omega arith)

-- the line ends, or goes on
pub line_ends : (l : List ℕ) → true ≡ eqb (length l) 0 → numbers_of [] l ≡ Some []
unfolding numbers_of
line_ends [] h = refl
line_ends (x ∷ l) h = absurd (omega (arith, eqb-true (length (x ∷ l)) 0 (sym h)))

pub line_goes : (l : List ℕ) → false ≡ eqb (length l) 0 → numbers_of [] l ≡ None
unfolding numbers_of
line_goes [] h = cc
line_goes (x ∷ l) h = refl

-- A line's fields, one after another

module _ (m l : List ℕ) {r : Option Field} (e : found r ≡ field_at m l) (ms : List (List ℕ)) where
  pub field-none : r ≡ None → numbers_of (m ∷ ms) l ≡ None
  field-none q = numbers-none m ms l (sym e ∙ ap found q)

  pub field_then : {f : Field} {o : Option (List ℕ)} → r ≡ Some f → numbers_of ms f.rest.now ≡ o → numbers_of (m ∷ ms) l ≡ onto f.value o
  field_then {f} q k = numbers-some m ms l (numbered_in f) (sym e ∙ ap found q) ∙ ap (onto f.value) k
