-- Inputs that are bad whatever follows.
use Rattle.std.specs.Prelude.{ℕ, ◌<◌, Bool, true, false, List, [], ◌∷◌, ◌++◌, ◌≡◌, refl, eqb, length}
use Rattle.std.proofs.Common.{⊎_elim, ap, ◌∙◌, arith, eqb-true, length-append}
use Rattle.printing.specs.Laws.Below.{below_or}
use Rattle.printing.specs.Text.{LF, names_marks, class_marks, record_marks}
use Rattle.reading.specs.Reading.{
  Said,
  nothing,
  says,
  differs,
  next,
  first,
  class,
  entry,
  with_line,
  State,
  state,
  with_byte,
  with_bytes,
  Answer,
  bad,
  ending,
  answer,
  read,
}
use Rattle.reading.specs.Laws.Line.{longest, too_long}
use Rattle.reading.specs.Laws.Read.{line-class, line_record, byte_end, byte_more, bytes-append}

abbrev pub reached : List ℕ → State
reached b = with_bytes (state nothing []) b

abbrev pub told : State → Answer
told s = answer s.said s.rest

pub reached_byte : (b : List ℕ) (x : ℕ) → reached (b ++ (x ∷ [])) ≡ with_byte (reached b) x
unfolding with_bytes
reached_byte b x = bytes-append (state nothing []) b (x ∷ [])

pub read-on : (b t : List ℕ) → read (b ++ t) ≡ told (with_bytes (reached b) t)
unfolding read
read-on b t = ap told (bytes-append (state nothing []) b t)

pub read_is : (b : List ℕ) → read b ≡ told (reached b)
unfolding read
read_is b = refl

-- a line has differed
differs_told : (k : ℕ) (l : List ℕ) → answer (differs k) l ≡ bad k
unfolding answer ending next
differs_told k [] = refl
differs_told k (x ∷ l) = refl

differs_stays : (k : ℕ) (t p : List ℕ) → told (with_bytes (state (differs k) p) t) ≡ bad k
unfolding with_bytes with_line
differs_stays k [] p = differs_told k p
differs_stays k (x ∷ t) p = go (eqb x LF) refl (differs_stays k t []) (differs_stays k t (p ++ (x ∷ [])))
  where
    go : (e : Bool) → eqb x LF ≡ e → told (with_bytes (state (differs k) []) t) ≡ bad k → told (with_bytes (state (differs k) (p ++ (x ∷ []))) t) ≡ bad k
        → told (with_bytes (with_byte (state (differs k) p) x) t) ≡ bad k
    go true e i j =
        ap (λ (y : ℕ). told (with_bytes (with_byte (state (differs k) p) y) t)) (eqb-true x LF e)
        ∙ ap (λ (s : State). told (with_bytes s t)) (byte_end (state (differs k) p))
        ∙ i
    go false e i j = ap (λ (s : State). told (with_bytes s t)) (byte_more (state (differs k) p) x e) ∙ j

pub differs_lost : (b : List ℕ) (k : ℕ) (p t : List ℕ) → reached b ≡ state (differs k) p → read (b ++ t) ≡ bad k
differs_lost b k p t e = read-on b t ∙ ap (λ (s : State). told (with_bytes s t)) e ∙ differs_stays k t p

-- a line has grown longer than any that is printed
long_line : (s : Said) (p : List ℕ) → 92 < length p → with_line s p ≡ differs (next s)
unfolding with_line first class entry next longest
long_line nothing p h = ap first (too_long names_marks p (omega arith))
long_line (says n cs rs) p h =
    ⊎_elim
    (λ g. line-class n cs rs p g ∙ ap (class n cs rs) (too_long class_marks p (omega arith)))
    (λ g. line_record n cs rs p g ∙ ap (entry n cs rs) (too_long record_marks p (omega arith)))
    (below_or (length cs) n)
long_line (differs k) p h = refl

long_stays : (s : Said) (t p : List ℕ) → 92 < length p → told (with_bytes (state s p) t) ≡ bad (next s)
unfolding with_bytes answer
long_stays s [] [] h = absurd (omega arith)
long_stays s [] (x ∷ p) h = refl
long_stays s (x ∷ t) p h = go (eqb x LF) refl (long_stays s t (p ++ (x ∷ [])) (omega (arith, length-append p (x ∷ []))))
  where
    go : (e : Bool) → eqb x LF ≡ e → told (with_bytes (state s (p ++ (x ∷ []))) t) ≡ bad (next s) → told (with_bytes (with_byte (state s p) x) t) ≡ bad (next s)
    go true e i =
        ap (λ (y : ℕ). told (with_bytes (with_byte (state s p) y) t)) (eqb-true x LF e)
        ∙ ap (λ (u : State). told (with_bytes u t)) (byte_end (state s p) ∙ ap (λ (d : Said). state d []) (long_line s p h))
        ∙ differs_stays (next s) t []
    go false e i = ap (λ (u : State). told (with_bytes u t)) (byte_more (state s p) x e) ∙ i

pub long_lost : (b : List ℕ) (s : Said) (p t : List ℕ) → reached b ≡ state s p → 92 < length p → read (b ++ t) ≡ bad (next s)
long_lost b s p t e h = read-on b t ∙ ap (λ (u : State). told (with_bytes u t)) e ∙ long_stays s t p h
