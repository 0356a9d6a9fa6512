-- Text in front of a place in a buffer, and one byte or piece more.
use Prim.Native.Nat.{ℕ, ◌+◌, ◌/◌, ◌%◌, ◌≤◌, ◌<◌}
use mathlib.Core.List.{List, [], ◌∷◌, ◌++◌, append_assoc}
use mathlib.Core.Path.{◌≡◌, ap, sym, ◌∙◌}
use native.Mathlib.Omega.{arith}
use borrow.Author.Tests.{eq-eqb, ne_eqb}
use lib.ListN.{length, take, length-append}
use Rattle.printing.specs.Numeral.{numeral}
use Rattle.printing.specs.Laws.Numeral.{numeral_small, numeral-more}
use Rattle.semantic.specs.Information.{NONE}
use Rattle.printing.specs.Text.{or_none}
use Rattle.printing.specs.Puts.{Puts, Line}
use Rattle.printing.specs.declared.text.Text.{Text}

-- The last digit of a numeral

pub length_small : (n : ℕ) → n < 10 → length (numeral n) ≡ 1
length_small n h = ap length (numeral_small n h)

pub length_more : (n : ℕ) → 10 ≤ n → length (numeral n) ≡ length (numeral (n / 10)) + 1
length_more n h = ap length (numeral-more n h) ∙ length-append (numeral (n / 10)) ((48 + n % 10) ∷ [])

-- One piece after another

pub puts_then : {t u : List ℕ} {x y z : Text} → Puts t x y → Puts u y z → Puts (t ++ u) x z
puts_then {t} {u} {x} v w = record {
  text = w.text ∙ ap (λ (l : List ℕ). l ++ u) v.text ∙ append_assoc (take x.len x.out.now) t u;
  long = w.long ∙ v.long;
}

-- a field, then what follows it
pub puts_field : (mark v : List ℕ) {u : List ℕ} {x y z : Text} → Puts (mark ++ v) x y → Puts u y z → Puts (mark ++ (v ++ u)) x z
puts_field mark v {u} h g = rw (sym (append_assoc mark v u)) (puts_then h g)

-- The numeral, after its last digit

pub puts_digit : {x y : Text} (n : ℕ) → n < 10 → Puts ((48 + n % 10) ∷ []) x y → Puts (numeral n) x y
puts_digit n h v =
    let k : n % 10 ≡ n = omega arith in
    rw (numeral_small n h) (rw k at v)

pub puts_more : {x y z : Text} (n : ℕ) → 10 ≤ n → Puts (numeral (n / 10)) x y → Puts ((48 + n % 10) ∷ []) y z → Puts (numeral n) x z
puts_more n h v w = rw (numeral-more n h) (puts_then v w)

-- A number or none

pub puts_none : {mark : List ℕ} {x y z : Text} (n : ℕ) → n ≡ NONE → Puts mark x y → Puts (45 ∷ []) y z → Puts (mark ++ or_none n) x z
unfolding or_none
puts_none n h v w =
    let e : or_none n ≡ 45 ∷ [] = rw (or_none, eq-eqb n NONE h) in
    rw e (puts_then v w)

pub puts_some : (mark : List ℕ) {x y : Text} (n : ℕ) → (n ≡ NONE → ⊥) → Puts (mark ++ numeral n) x y → Puts (mark ++ or_none n) x y
unfolding or_none
puts_some mark n h v =
    let e : or_none n ≡ numeral n = rw (or_none, ne_eqb n NONE h) in
    rw e v

-- a whole line, in what is left of the buffer d
pub line_of : {t d : List ℕ} {x y : Text} → d ≡ y.out.now → x.len ≡ 0 → y.len ≤ 128 → Puts t x y → Line t d y.len
line_of {t} {d} {x} {y} q e h v = record {
  text = ap (take y.len) q ∙ v.text ∙ ap (λ (n : ℕ). take n x.out.now ++ t) e;
  short = h;
}
