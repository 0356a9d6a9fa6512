-- What the definition of reading does, line by line and byte by byte.
use Rattle.std.specs.Prelude.{ℕ, zero, suc, ◌+◌, ◌/◌, ◌%◌, ◌≤◌, ◌<◌, Bool, true, false, not, ◌&&◌, List, [], ◌∷◌, ◌++◌, ◌≡◌, refl, eqb, length, get_or, Some}
use Rattle.std.proofs.Common.{append_assoc, append-nil, ⊎_elim, ap, sym, ◌∙◌, arith, lt-ltb, le-ltb, ne_eqb}
use Rattle.tree.specs.Record.{Record}
use Rattle.printing.specs.Numeral.{numeral}
use Rattle.printing.specs.Laws.Below.{below_or}
use Rattle.printing.specs.Laws.Numeral.{numeral_small, numeral-more}
use Rattle.printing.specs.Text.{LF, line, numbers, class_marks, record_marks}
use Rattle.reading.specs.Reading.{numbers_of, Said, says, differs, next, class, entry, with_line, State, state, with_byte, with_bytes}
use Rattle.reading.specs.Laws.Line.{body, line-body}

-- A line more

pub line-class : (n : ℕ) (cs : List ℕ) (rs : List Record) (l : List ℕ) → length cs < n → with_line (says n cs rs) l ≡ class n cs rs (numbers_of class_marks l)
unfolding with_line
line-class n cs rs l h = rw (with_line, lt-ltb (length cs) n h)

pub line_record : (n : ℕ) (cs : List ℕ) (rs : List Record) (l : List ℕ) → n ≤ length cs → with_line (says n cs rs) l ≡ entry n cs rs (numbers_of record_marks l)
unfolding with_line
line_record n cs rs l h = rw (with_line, le-ltb (length cs) n h)

pub class-fits : (n : ℕ) (cs : List ℕ) (rs : List Record) (ns : List ℕ) → get_or ns 0 0 < 256 → class n cs rs (Some ns) ≡ says n (cs ++ (get_or ns 0 0 ∷ [])) rs
unfolding class
class-fits n cs rs ns h = rw (class, lt-ltb (get_or ns 0 0) 256 h)

pub class-over : (n : ℕ) (cs : List ℕ) (rs : List Record) (ns : List ℕ) → 256 ≤ get_or ns 0 0 → class n cs rs (Some ns) ≡ differs (next (says n cs rs))
unfolding class
class-over n cs rs ns h = rw (class, le-ltb (get_or ns 0 0) 256 h)

-- A byte more

pub byte_end : (s : State) → with_byte s LF ≡ state (with_line s.said s.rest) []
unfolding with_byte
byte_end s = refl

pub byte_more : (s : State) (x : ℕ) → eqb x LF ≡ false → with_byte s x ≡ state s.said (s.rest ++ (x ∷ []))
unfolding with_byte
byte_more s x e = rw (with_byte, e)

pub bytes-append : (s : State) (a b : List ℕ) → with_bytes s (a ++ b) ≡ with_bytes (with_bytes s a) b
unfolding with_bytes
bytes-append s [] b = refl
bytes-append s (x ∷ a) b = bytes-append (with_byte s x) a b

-- A text without LF

unfoldable pub plain : List ℕ → Bool
plain [] = true
plain (x ∷ l) = not (eqb x LF) && plain l

plain_more : (x : ℕ) (l : List ℕ) → eqb x LF ≡ false → plain l ≡ true → plain (x ∷ l) ≡ true
unfolding plain
plain_more x l e p = rw (plain, e, p)

plain-none : plain [] ≡ true
unfolding plain
plain-none = refl

plain-append : (a b : List ℕ) → plain a ≡ true → plain b ≡ true → plain (a ++ b) ≡ true
unfolding plain
plain-append [] b p q = q
plain-append (x ∷ a) b p q = go (eqb x LF) refl (plain-append a b)
  where
    go : (s : Bool) → eqb x LF ≡ s → (plain a ≡ true → plain b ≡ true → plain (a ++ b) ≡ true) → plain (x ∷ a ++ b) ≡ true
    go true e i = let z : false ≡ true = rw (plain, e) at p in let y : ◌≡◌ {A = ℕ} 0 1 = cc in absurd (omega arith)
    go false e i = plain_more x (a ++ b) e (i (rw (plain, e) at p) q)

plain-digits : (turns n : ℕ) → n < turns → plain (numeral n) ≡ true
plain-digits zero n h = absurd (omega arith)
plain-digits (suc turns) n h =
    ⊎_elim
    (λ s. rw (numeral_small n s) (plain_more (48 + n) [] (ne_eqb (48 + n) LF (λ q. omega arith)) plain-none))
    (λ s.
    rw (numeral-more n s)
    (plain-append (numeral (n / 10)) ((48 + n % 10) ∷ []) (plain-digits turns (n / 10) (omega arith))
    (plain_more (48 + n % 10) [] (ne_eqb (48 + n % 10) LF (λ q. omega arith)) plain-none)))
    (below_or n 10)

-- Marks without LF

pub data Marks : List (List ℕ) → Type 0 where
  no_mark : Marks []
  a_mark : {m : List ℕ} {ms : List (List ℕ)} → plain m ≡ true → Marks ms → Marks (m ∷ ms)

pub plain_body : (ms : List (List ℕ)) (ns : List ℕ) → Marks ms → plain (body ms ns) ≡ true
unfolding body plain
plain_body [] ns p = refl
plain_body (m ∷ ms) [] p = refl
plain_body (m ∷ ms) (n ∷ ns) (a_mark q p) =
    plain-append m (numeral n ++ body ms ns) q (plain-append (numeral n) (body ms ns) (plain-digits (suc n) n (omega arith)) (plain_body ms ns p))

-- the bytes of a line
bytes-line : (s : Said) (p l t : List ℕ) → plain l ≡ true → with_bytes (state s p) (l ++ (LF ∷ t)) ≡ with_bytes (state (with_line s (p ++ l)) []) t
unfolding with_bytes plain
bytes-line s p [] t e =
    ap (λ (u : State). with_bytes u t) (byte_end (state s p)) ∙ ap (λ (m : List ℕ). with_bytes (state (with_line s m) []) t) (sym (append-nil p))
bytes-line s p (x ∷ l) t e = go (eqb x LF) refl (bytes-line s (p ++ (x ∷ [])) l t)
  where
    go : (b : Bool) → eqb x LF ≡ b
        → (plain l ≡ true → with_bytes (state s (p ++ (x ∷ []))) (l ++ (LF ∷ t)) ≡ with_bytes (state (with_line s ((p ++ (x ∷ [])) ++ l)) []) t)
        → with_bytes (with_byte (state s p) x) (l ++ (LF ∷ t)) ≡ with_bytes (state (with_line s (p ++ (x ∷ l))) []) t
    go true f i = let z : false ≡ true = rw (plain, f) at e in let y : ◌≡◌ {A = ℕ} 0 1 = cc in absurd (omega arith)
    go false f i =
        ap (λ (u : State). with_bytes u (l ++ (LF ∷ t))) (byte_more (state s p) x f)
        ∙ i (rw (plain, f) at e)
        ∙ ap (λ (m : List ℕ). with_bytes (state (with_line s m) []) t) (append_assoc p (x ∷ []) l)

pub reads-line : (s : Said) (ms : List (List ℕ)) (ns t : List ℕ) → Marks ms
    → with_bytes (state s []) (line (numbers ms ns) ++ t) ≡ with_bytes (state (with_line s (body ms ns)) []) t
reads-line s ms ns t p =
    ap (λ (l : List ℕ). with_bytes (state s []) (l ++ t)) (line-body ms ns)
    ∙ ap (with_bytes (state s [])) (append_assoc (body ms ns) (LF ∷ []) t)
    ∙ bytes-line s [] (body ms ns) t (plain_body ms ns p)
