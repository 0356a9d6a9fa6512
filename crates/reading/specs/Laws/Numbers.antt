-- The number at the start of a list is the one whose numeral stands there; what follows a mark.
use Rattle.std.specs.Prelude.{ℕ, zero, suc, ◌+◌, ◌-◌, ◌*◌, ◌/◌, ◌%◌, ◌^◌, ◌≤◌, ◌<◌, Bool, true, false, List, [], ◌∷◌, ◌++◌, ◌≡◌, refl, eqb, leb, Option, None, Some}
use Rattle.std.proofs.Common.{append_assoc, ⊎_elim, ap, sym, subst, ◌∙◌, arith, lt-ltb, le-ltb, leb-true, le-leb, eqb-true, eq-eqb, ne_eqb}
use Rattle.std.proofs.lemmas.Bool.{eqb-false}
use Rattle.printing.specs.Numeral.{numeral}
use Rattle.printing.specs.Laws.Below.{below_or}
use Rattle.printing.specs.Laws.Numeral.{numeral_small, numeral-more, numeral_snoc}
use Rattle.reading.specs.Reading.{Numbered, after, is_digit, digits, fit, number_at}

abbrev pub numbered : ℕ → List ℕ → Numbered
numbered v l = record { value = v; rest = l }

-- a digit or not
pub data Digit (x : ℕ) : Type 0 where
  digit : 48 ≤ x → x ≤ 57 → is_digit x ≡ true → Digit x
  other : is_digit x ≡ false → Digit x

pub is_digit_lem : (x : ℕ) → 48 ≤ x → x ≤ 57 → is_digit x ≡ true
is_digit_lem x h g = rw (le-leb 48 x h, le-leb x 57 g)

pub digit_or : (x : ℕ) → Digit x
digit_or x = go (leb 48 x) (leb x 57) refl refl
  where
    go : (s t : Bool) → leb 48 x ≡ s → leb x 57 ≡ t → Digit x
    go true true e f = digit (leb-true 48 x e) (leb-true x 57 f) (rw (e, f))
    go true false e f = other (rw (e, f))
    go false true e f = other (rw (e))
    go false false e f = other (rw (e))

-- The laws of `digits`, by what comes

pub digits_more : (v x : ℕ) (l : List ℕ) → is_digit x ≡ true → digits v (x ∷ l) ≡ digits (10 * v + (x - 48)) l
unfolding digits
digits_more v x l e = rw (digits, e)

pub digits-stop : (v x : ℕ) (l : List ℕ) → is_digit x ≡ false → digits v (x ∷ l) ≡ numbered v (x ∷ l)
unfolding digits
digits-stop v x l e = rw (digits, e)

-- digits read on from v > 0 are the numeral read on
read-on : (v : ℕ) (l : List ℕ) → 0 < v → numeral v ++ l ≡ numeral (digits v l).value ++ (digits v l).rest
unfolding digits
read-on v [] h = refl
read-on v (x ∷ l) h = go (digit_or x) (read-on (10 * v + (x - 48)) l (omega arith))
  where
    go : Digit x → numeral (10 * v + (x - 48)) ++ l ≡ numeral (digits (10 * v + (x - 48)) l).value ++ (digits (10 * v + (x - 48)) l).rest
        → numeral v ++ (x ∷ l) ≡ numeral (digits v (x ∷ l)).value ++ (digits v (x ∷ l)).rest
    go (digit a b e) ih =
        let d : 48 + (x - 48) ≡ x = omega arith in
        let s : numeral v ++ (x ∷ l) ≡ numeral (10 * v + (x - 48)) ++ l =
        ap (λ (y : ℕ). numeral v ++ (y ∷ l)) (sym d)
        ∙ sym (append_assoc (numeral v) ((48 + (x - 48)) ∷ []) l)
        ∙ ap (λ (m : List ℕ). m ++ l) (sym (numeral_snoc v (x - 48) h (omega arith))) in
        rw (digits_more v x l e) (s ∙ ih)
    go (other e) ih = rw (digits-stop v x l e) refl

-- The number at the start of a list

pub number-zero : (l : List ℕ) → number_at (48 ∷ l) ≡ Some (numbered 0 l)
unfolding number_at
number-zero l = refl

pub number_digit : (x : ℕ) (l : List ℕ) → eqb x 48 ≡ false → is_digit x ≡ true → number_at (x ∷ l) ≡ fit (digits (x - 48) l)
unfolding number_at
number_digit x l e f = rw (number_at, e, f)

pub number_other : (x : ℕ) (l : List ℕ) → eqb x 48 ≡ false → is_digit x ≡ false → number_at (x ∷ l) ≡ None
unfolding number_at
number_other x l e f = rw (number_at, e, f)

pub fits : (n : Numbered) → n.value < 2 ^ 32 → fit n ≡ Some n
unfolding fit
fits n h = rw (fit, lt-ltb n.value (2 ^ 32) h)

pub fits_not : (n : Numbered) → 2 ^ 32 ≤ n.value → fit n ≡ None
unfolding fit
fits_not n h = rw (fit, le-ltb n.value (2 ^ 32) h)

pub record Starts (l : List ℕ) (n : Numbered) : Type 0 where
  pub text : l ≡ numeral n.value ++ n.rest
  pub below : n.value < 2 ^ 32

pub never : {A : Type 0} {B : Type 0} {x : A} → ◌≡◌ {A = Option A} None (Some x) → B
never e = let z : ◌≡◌ {A = ℕ} 0 1 = cc in absurd (omega arith)

fit_sound : (n m : Numbered) → fit n ≡ Some m → (n ≡ m) × (n.value < 2 ^ 32)
fit_sound n m e =
    ⊎_elim
    (λ h. let q : Some n ≡ Some m = sym (fits n h) ∙ e in (cc, h))
    (λ h. never (sym (fits_not n h) ∙ e))
    (below_or n.value (2 ^ 32))

pub number_sound : (l : List ℕ) (n : Numbered) → number_at l ≡ Some n → Starts l n
unfolding number_at
number_sound [] n e = never e
number_sound (x ∷ l) n e = go (eqb x 48) refl (digit_or x)
  where
    go : (s : Bool) → eqb x 48 ≡ s → Digit x → Starts (x ∷ l) n
    go true s d =
        let q : x ≡ 48 = eqb-true x 48 s in
        let p : Some (numbered 0 l) ≡ Some n = sym (number-zero l) ∙ ap (λ (y : ℕ). number_at (y ∷ l)) (sym q) ∙ e in
        let r : numbered 0 l ≡ n = cc in
        subst (Starts (x ∷ l)) r (record { text = rw (q, numeral_small 0 (omega arith)); below = omega arith })
    go false s (digit a b f) =
        let z : x ≡ 48 → ⊥ = eqb-false x 48 s in
        let p = fit_sound (digits (x - 48) l) n (sym (number_digit x l s f) ∙ e) in
        let d : 48 + (x - 48) ≡ x = omega arith in
        subst (Starts (x ∷ l)) p.0
        (record {
          text = ap (λ (y : ℕ). y ∷ l) (sym d) ∙ ap (λ (m : List ℕ). m ++ l) (sym (numeral_small (x - 48) (omega arith))) ∙ read-on (x - 48) l (omega arith);
          below = p.1;
        })
    go false s (other f) = never (sym (number_other x l s f) ∙ e)

-- the first digit of a number above 0, and reading on from it
record Lead (v : ℕ) : Type 0 where
  x : ℕ
  l : List ℕ
  text : numeral v ≡ x ∷ l
  low : 49 ≤ x
  high : x ≤ 57
  on : (t : List ℕ) → digits (x - 48) (l ++ t) ≡ digits v t

lead : (turns v : ℕ) → v < turns → 0 < v → Lead v
lead zero v h g = absurd (omega arith)
lead (suc turns) v h g =
    ⊎_elim
    (λ s. record {
      x = 48 + v;
      l = [];
      text = numeral_small v s;
      low = omega arith;
      high = omega arith;
      on = λ t. ap (λ (k : ℕ). digits k t) (omega arith);
    })
    (λ s.
    let i = lead turns (v / 10) (omega arith) (omega arith) in
    let w : 48 + v % 10 ≤ 57 = omega arith in
    let k : 10 * (v / 10) + (48 + v % 10 - 48) ≡ v = omega arith in
    record {
      x = i.x;
      l = i.l ++ ((48 + v % 10) ∷ []);
      text = numeral-more v s ∙ ap (λ (m : List ℕ). m ++ ((48 + v % 10) ∷ [])) i.text;
      low = i.low;
      high = i.high;
      on = λ t.
          ap (digits (i.x - 48)) (append_assoc i.l ((48 + v % 10) ∷ []) t)
          ∙ i.on ((48 + v % 10) ∷ t)
          ∙ digits_more (v / 10) (48 + v % 10) t (is_digit_lem (48 + v % 10) (omega arith) w)
          ∙ ap (λ (u : ℕ). digits u t) k;
    })
    (below_or v 10)

-- no digit stands at the start of t
abbrev pub Stops : List ℕ → Type 0
Stops t = (u : ℕ) → digits u t ≡ numbered u t

pub number_complete : (v : ℕ) (t : List ℕ) → v < 2 ^ 32 → Stops t → number_at (numeral v ++ t) ≡ Some (numbered v t)
number_complete zero t h s = ap (λ (m : List ℕ). number_at (m ++ t)) (numeral_small 0 (omega arith)) ∙ number-zero t
number_complete (suc v) t h s =
    let i = lead (suc (suc v)) (suc v) (omega arith) (omega arith) in
    let e : digits (i.x - 48) (i.l ++ t) ≡ numbered (suc v) t = i.on t ∙ s (suc v) in
    let lo : 49 ≤ i.x = i.low in
    let hi : i.x ≤ 57 = i.high in
    ap (λ (m : List ℕ). number_at (m ++ t)) i.text
    ∙ number_digit i.x (i.l ++ t) (ne_eqb i.x 48 (λ q. omega arith)) (is_digit_lem i.x (omega arith) hi)
    ∙ ap fit e
    ∙ fits (numbered (suc v) t) h

-- Marks

pub after_sound : (m l r : List ℕ) → after m l ≡ Some r → l ≡ m ++ r
unfolding after
after_sound [] l r e = cc
after_sound (x ∷ m) [] r e = never e
after_sound (x ∷ m) (y ∷ l) r e = go (eqb x y) refl (after_sound m l r)
  where
    go : (s : Bool) → eqb x y ≡ s → (after m l ≡ Some r → l ≡ m ++ r) → y ∷ l ≡ x ∷ m ++ r
    go true s k =
        let q : x ≡ y = eqb-true x y s in
        let p : after m l ≡ Some r = rw (after, s) at e in
        let t : l ≡ m ++ r = k p in
        cc
    go false s k = let p : None ≡ Some r = rw (after, s) at e in never p

pub after_complete : (m r : List ℕ) → after m (m ++ r) ≡ Some r
unfolding after
after_complete [] r = refl
after_complete (x ∷ m) r = rw (after, eq-eqb x x refl) (after_complete m r)
