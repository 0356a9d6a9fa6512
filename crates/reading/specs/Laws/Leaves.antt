-- What reading leaves: where nothing is written, and one reading after another; how much was read, before the first line has ended and after.
use Rattle.std.specs.Prelude.{ℕ, ◌+◌, ◌-◌, ◌≤◌, List, ◌≡◌, refl, take, drop}
use Rattle.std.proofs.Common.{ap, sym, ◌∙◌, arith, eq-eqb, ne_eqb, take-take, drop-drop}
use Rattle.reading.specs.Leaves.{Between, begun}

pub between_none : {a : ℕ} {t : List ℕ} → Between a a t t
between_none = record { onward = omega arith; long = refl; before = refl; past = refl }

before_less : (a b : ℕ) (t u : List ℕ) → a ≤ b → take b u ≡ take b t → take a u ≡ take a t
before_less a b t u h e = sym (take-take a b u h) ∙ ap (take a) e ∙ take-take a b t h

past_more : (a b : ℕ) (t u : List ℕ) → a ≤ b → drop a u ≡ drop a t → drop b u ≡ drop b t
past_more a b t u h e =
    let k : a + (b - a) ≡ b = omega arith in
    ap (λ (n : ℕ). drop n u) (sym k)
    ∙ sym (drop-drop (b - a) a u)
    ∙ ap (drop (b - a)) e
    ∙ drop-drop (b - a) a t
    ∙ ap (λ (n : ℕ). drop n t) k

pub between_then : {a b c : ℕ} {t u v : List ℕ} → Between a b t u → Between b c u v → Between a c t v
between_then {a} {b} {c} {t} {u} {v} p q = record {
  onward = omega (arith, p.onward, q.onward);
  long = q.long ∙ p.long;
  before = before_less a b u v p.onward q.before ∙ p.before;
  past = q.past ∙ past_more b c t u q.onward p.past;
}

pub begun-none : {lines : ℕ} (n : ℕ) → lines ≡ 0 → begun lines n ≡ 0
unfolding begun
begun-none {lines} n h = rw (begun, eq-eqb lines 0 h)

pub begun-some : {lines : ℕ} (n : ℕ) → ¬ (lines ≡ 0) → begun lines n ≡ n
unfolding begun
begun-some {lines} n h = rw (begun, ne_eqb lines 0 h)
