-- A line has numbers exactly if it is the printed line of numbers below 2^32.
use Rattle.std.specs.Prelude.{ℕ, ◌+◌, ◌^◌, ◌≤◌, ◌<◌, List, [], ◌∷◌, ◌++◌, ◌≡◌, refl, length, Option, None, Some}
use Rattle.std.proofs.Common.{append_assoc, ap, sym, ◌∙◌, arith, length-append}
use Rattle.printing.specs.Numeral.{numeral}
use Rattle.printing.specs.Laws.Numeral.{numeral-length}
use Rattle.printing.specs.Text.{LF, line, numbers}
use Rattle.reading.specs.Input.{Below, none_left, one_more_lem}
use Rattle.reading.specs.Reading.{Numbered, digits, number_if, after, field_at, onto, numbers_of}
use Rattle.reading.specs.Laws.Numbers.{numbered, never, Stops, number_sound, number_complete, after_sound, after_complete}

-- the printed line without its LF
unfoldable pub body : List (List ℕ) → List ℕ → List ℕ
body [] ns = []
body (m ∷ ms) [] = []
body (m ∷ ms) (n ∷ ns) = m ++ (numeral n ++ body ms ns)

pub line-body : (ms : List (List ℕ)) (ns : List ℕ) → line (numbers ms ns) ≡ body ms ns ++ (LF ∷ [])
unfolding body
line-body [] ns = refl
line-body (m ∷ ms) [] = refl
line-body (m ∷ ms) (n ∷ ns) =
    ap (λ (l : List ℕ). m ++ (numeral n ++ l)) (line-body ms ns)
    ∙ ap (λ (l : List ℕ). m ++ l) (sym (append_assoc (numeral n) (body ms ns) (LF ∷ [])))
    ∙ sym (append_assoc m (numeral n ++ body ms ns) (LF ∷ []))

pub record Prints (ms : List (List ℕ)) (ns l : List ℕ) : Type 0 where
  pub text : l ≡ body ms ns
  pub below : Below ms ns

-- One field

pub field_sound : (m l : List ℕ) (n : Numbered) → field_at m l ≡ Some n → (l ≡ m ++ (numeral n.value ++ n.rest)) × (n.value < 2 ^ 32)
unfolding field_at
field_sound m l n e = go (after m l) refl
  where
    go : (o : Option (List ℕ)) → after m l ≡ o → (l ≡ m ++ (numeral n.value ++ n.rest)) × (n.value < 2 ^ 32)
    go None q = never (sym (ap number_if q) ∙ e)
    go (Some r) q =
        let s = number_sound r n (sym (ap number_if q) ∙ e) in
        (after_sound m l r q ∙ ap (λ (k : List ℕ). m ++ k) s.text, s.below)

pub field_complete : (m : List ℕ) (v : ℕ) (t : List ℕ) → v < 2 ^ 32 → Stops t → field_at m (m ++ (numeral v ++ t)) ≡ Some (numbered v t)
unfolding field_at
field_complete m v t h s = ap number_if (after_complete m (numeral v ++ t)) ∙ number_complete v t h s

-- The fields of a line, from one on

pub numbers-none : (m : List ℕ) (ms : List (List ℕ)) (l : List ℕ) → field_at m l ≡ None → numbers_of (m ∷ ms) l ≡ None
unfolding numbers_of
numbers-none m ms l e = rw (numbers_of, e)

pub numbers-some : (m : List ℕ) (ms : List (List ℕ)) (l : List ℕ) (n : Numbered) → field_at m l ≡ Some n
    → numbers_of (m ∷ ms) l ≡ onto n.value (numbers_of ms n.rest)
unfolding numbers_of
numbers-some m ms l n e = rw (numbers_of, e)

pub numbers_sound : (ms : List (List ℕ)) (l ns : List ℕ) → numbers_of ms l ≡ Some ns → Prints ms ns l
unfolding numbers_of body
numbers_sound [] [] ns e = let q : [] ≡ ns = cc in rw (← q) (record { text = refl; below = none_left })
numbers_sound [] (x ∷ l) ns e = never e
numbers_sound (m ∷ ms) l ns e = go (field_at m l) refl (λ (r k : List ℕ). numbers_sound ms r k)
  where
    more : (n : Numbered) (o : Option (List ℕ)) → field_at m l ≡ Some n → ((k : List ℕ) → o ≡ Some k → Prints ms k n.rest)
        → onto n.value o ≡ Some ns → Prints (m ∷ ms) ns l
    more n None f i q = never q
    more n (Some k) f i q =
        let p = field_sound m l n f in
        let r = i k refl in
        let s : n.value ∷ k ≡ ns = cc in
        rw (← s)
        (record {
          text = p.0 ∙ ap (λ (t : List ℕ). m ++ (numeral n.value ++ t)) r.text;
          below = one_more_lem p.1 r.below;
        })

    go : (o : Option Numbered) → field_at m l ≡ o → ((r k : List ℕ) → numbers_of ms r ≡ Some k → Prints ms k r) → Prints (m ∷ ms) ns l
    go None f i = never (sym (numbers-none m ms l f) ∙ e)
    go (Some n) f i = more n (numbers_of ms n.rest) f (i n.rest) (sym (numbers-some m ms l n f) ∙ e)

-- each mark parts its number from the one before: it does not start with a digit
pub data Parted : List (List ℕ) → Type 0 where
  last : Parted []
  parted : {m : List ℕ} {ms : List (List ℕ)} → ((t : List ℕ) → Stops (m ++ t)) → Parted ms → Parted (m ∷ ms)

stops_body : (ms : List (List ℕ)) (ns : List ℕ) → Parted ms → Stops (body ms ns)
unfolding body digits
stops_body [] ns p = λ u. refl
stops_body (m ∷ ms) [] p = λ u. refl
stops_body (m ∷ ms) (n ∷ ns) (parted s p) = s (numeral n ++ body ms ns)

pub numbers_complete : (ms : List (List ℕ)) (ns : List ℕ) → Parted ms → Below ms ns → numbers_of ms (body ms ns) ≡ Some ns
unfolding numbers_of body
numbers_complete [] [] p none_left = refl
numbers_complete [] (n ∷ ns) p b = elim b [ ]
numbers_complete (m ∷ ms) [] p b = elim b [ ]
numbers_complete (m ∷ ms) (n ∷ ns) (parted s p) (one_more_lem h b) =
    numbers-some m ms (m ++ (numeral n ++ body ms ns)) (numbered n (body ms ns)) (field_complete m n (body ms ns) h (stops_body ms ns p))
    ∙ ap (onto n) (numbers_complete ms ns p b)

-- how long a line can be: ten digits a number
unfoldable pub longest : List (List ℕ) → ℕ
longest [] = 0
longest (m ∷ ms) = length m + 10 + longest ms

pub body-length : (ms : List (List ℕ)) (ns : List ℕ) → Below ms ns → length (body ms ns) ≤ longest ms
unfolding body longest
body-length [] [] none_left = omega arith
body-length [] (n ∷ ns) b = elim b [ ]
body-length (m ∷ ms) [] b = elim b [ ]
body-length (m ∷ ms) (n ∷ ns) (one_more_lem h b) =
    omega (arith, length-append m (numeral n ++ body ms ns), length-append (numeral n) (body ms ns), numeral-length 9 n (omega arith), body-length ms ns b)

pub too_long : (ms : List (List ℕ)) (l : List ℕ) → longest ms < length l → numbers_of ms l ≡ None
too_long ms l h = go (numbers_of ms l) refl
  where
    go : (o : Option (List ℕ)) → numbers_of ms l ≡ o → numbers_of ms l ≡ None
    go None e = e
    go (Some ns) e =
        let p = numbers_sound ms l ns e in
        absurd (omega (arith, ap length p.text, body-length ms ns p.below))
