-- The laws of regions. A table with a region replaced, or a number of it set, is elsewhere as it was.
use Rattle.std.specs.Prelude.{ℕ, ◌+◌, ◌-◌, ◌≤◌, ◌<◌, List, ◌++◌, ◌≡◌, refl, length, take, drop, set}
use Rattle.std.proofs.Common.{append_assoc, ap, sym, ◌∙◌, arith, length-append, length-drop, length-set, take-append-drop, length-take-le, take_at, drop_at, drop-drop, drop-set-lt}
use Rattle.std.proofs.lemmas.List.Edits.{sets, sets-eq}
use Rattle.std.proofs.lemmas.List.{take-append-le, drop-append-le, take-set-le, drop-set-add}
use Rattle.std.proofs.Math.Seq.{take-set-lt}
use Rattle.table.specs.Region.{region, replaced}

pub region-length : (w : List ℕ) (a n : ℕ) → a + n ≤ length w → length (region w a n) ≡ n
region-length w a n h = length-take-le n (drop a w) (omega (arith, length-drop a w))

-- the tables differ in the n numbers from number a on at most
pub record Elsewhere (a n : ℕ) (w w' : List ℕ) : Type 0 where
  pub long : length w' ≡ length w
  pub before : (b m : ℕ) → b + m ≤ a → region w' b m ≡ region w b m
  pub after : (b m : ℕ) → a + n ≤ b → region w' b m ≡ region w b m

-- a region among the first numbers, and one among the last
pub within : (w : List ℕ) (a b m : ℕ) → a ≤ length w → b + m ≤ a → region w b m ≡ region (take a w) b m
within w a b m h g =
    let e = length-take-le a w h in
    ap (λ (l : List ℕ). region l b m) (sym (take-append-drop a w))
    ∙ ap (take m) (drop-append-le b (take a w) (drop a w) (omega arith))
    ∙ take-append-le m (drop b (take a w)) (drop a w) (omega (arith, length-drop b (take a w)))

beyond : (w : List ℕ) (e b m : ℕ) → e ≤ b → region w b m ≡ region (drop e w) (b - e) m
beyond w e b m h =
    let z : b ≡ e + (b - e) = omega arith in
    ap (λ (k : ℕ). take m (drop k w)) z ∙ ap (take m) (sym (drop-drop (b - e) e w))

elsewhere : (a n : ℕ) (w w' : List ℕ) → a + n ≤ length w → length w' ≡ length w → take a w' ≡ take a w → drop (a + n) w' ≡ drop (a + n) w → Elsewhere a n w w'
elsewhere a n w w' h l t d = record {
  long = l;
  before = λ b m g. within w' a b m (omega arith) g ∙ ap (λ (v : List ℕ). region v b m) t ∙ sym (within w a b m (omega arith) g);
  after = λ b m g. beyond w' (a + n) b m g ∙ ap (λ (v : List ℕ). region v (b - (a + n)) m) d ∙ sym (beyond w (a + n) b m g);
}

module _ (w : List ℕ) (a n : ℕ) (h : a + n ≤ length w) where
  module _ (ys : List ℕ) (e : length ys ≡ n) where
    -- from number a on
    from : drop a (replaced w a n ys) ≡ ys ++ drop n (drop a w)
    from = drop_at (take a w) (ys ++ drop n (drop a w)) a (length-take-le a w (omega arith))

    replaced_long : length (replaced w a n ys) ≡ length w
    replaced_long =
        length-append (take a w) (ys ++ drop n (drop a w))
        ∙ omega (arith, length-append ys (drop n (drop a w)), length-take-le a w (omega arith), length-drop n (drop a w), length-drop a w)

    pub replaced-region : region (replaced w a n ys) a n ≡ ys
    replaced-region = ap (take n) from ∙ take_at ys (drop n (drop a w)) n e

    pub replaced_elsewhere : Elsewhere a n w (replaced w a n ys)
    replaced_elsewhere =
        elsewhere a n w (replaced w a n ys) h replaced_long
        (take_at (take a w) (ys ++ drop n (drop a w)) a (length-take-le a w (omega arith)))
        (sym (drop-drop n a (replaced w a n ys)) ∙ ap (drop n) from ∙ drop_at ys (drop n (drop a w)) n e ∙ drop-drop n a w)

  module _ (j x : ℕ) (g : j < n) where
    pub set-region : region (set w (a + j) x) a n ≡ set (region w a n) j x
    set-region = ap (take n) (drop-set-add a w j x) ∙ take-set-lt n (drop a w) j x g

    pub set_elsewhere : Elsewhere a n w (set w (a + j) x)
    set_elsewhere =
        elsewhere a n w (set w (a + j) x) h (length-set w (a + j) x)
        (take-set-le a w (a + j) x (omega arith))
        (drop-set-lt (a + n) w (a + j) x (omega arith))

pub sets_replaced : (w : List ℕ) (a : ℕ) (ys : List ℕ) → a + length ys ≤ length w → sets w a ys ≡ replaced w a (length ys) ys
sets_replaced w a ys h =
    sets-eq ys w a h
    ∙ append_assoc (take a w) ys (drop (a + length ys) w)
    ∙ ap (λ (l : List ℕ). take a w ++ (ys ++ l)) (sym (drop-drop (length ys) a w))

module _ {w : List ℕ} where
  pub elsewhere_same : {a n : ℕ} → Elsewhere a n w w
  elsewhere_same = record { long = refl; before = λ b m g. refl; after = λ b m g. refl }

  pub elsewhere_then : {a n : ℕ} {w' w'' : List ℕ} → Elsewhere a n w w' → Elsewhere a n w' w'' → Elsewhere a n w w''
  elsewhere_then e f = record {
    long = f.long ∙ e.long;
    before = λ b m g. f.before b m g ∙ e.before b m g;
    after = λ b m g. f.after b m g ∙ e.after b m g;
  }

  pub elsewhere_wider : {a n b m : ℕ} {w' : List ℕ} → b ≤ a → a + n ≤ b + m → Elsewhere a n w w' → Elsewhere b m w w'
  elsewhere_wider h g e = record {
    long = e.long;
    before = λ c k i. e.before c k (omega arith);
    after = λ c k i. e.after c k (omega arith);
  }
