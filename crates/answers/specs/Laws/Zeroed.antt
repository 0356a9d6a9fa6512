-- Numbers of a table made zero: a part and what follows it, and a table in two parts.
use Rattle.std.specs.Prelude.{ℕ, ◌+◌, ◌≤◌, List, [], ◌++◌, ◌≡◌, length, take, drop, replicate}
use Rattle.std.proofs.Common.{append_assoc, append-nil, ap, sym, ◌∙◌, arith, take-append-drop, drop_of_length-le, drop-drop, take-add, take_at, drop_at}
use Rattle.std.proofs.lemmas.List.{length-replicate, replicate-append-replicate}
use Rattle.table.specs.Region.{region}
use Rattle.table.specs.Laws.Region.{Elsewhere, region-length, replaced-region, replaced_elsewhere}
use Rattle.answers.specs.Clear.{zeroed}

-- the last m of a part
pub last-region : (w : List ℕ) (a n m : ℕ) → a + (n + m) ≤ length w → region w (a + n) m ≡ drop n (region w a (n + m))
last-region w a n m h =
    ap (take m) (sym (drop-drop n a w))
    ∙ sym (ap (drop n) (take-add n m (drop a w)) ∙ drop_at (region w a n) (take m (drop n (drop a w))) n (region-length w a n (omega arith)))

-- what is zero already need not be made so
pub zeroed_further : (w : List ℕ) (a n m : ℕ) → region w (a + n) m ≡ replicate m 0 → zeroed a n w ≡ zeroed a (n + m) w
unfolding zeroed
zeroed_further w a n m z =
    let v = drop a w in
    let rest = drop (n + m) v in
    let split : drop n v ≡ replicate m 0 ++ rest =
    sym (take-append-drop m (drop n v))
    ∙ ap (λ (l : List ℕ). l ++ drop m (drop n v)) (ap (take m) (drop-drop n a w) ∙ z)
    ∙ ap (λ (l : List ℕ). replicate m 0 ++ l) (drop-drop m n v) in
    ap (λ (l : List ℕ). take a w ++ l)
    (ap (λ (l : List ℕ). replicate n 0 ++ l) split
    ∙ sym (append_assoc (replicate n 0) (replicate m 0) rest)
    ∙ ap (λ (l : List ℕ). l ++ rest) (replicate-append-replicate n m 0))

-- the first n, then the other m
pub zeroed-both : (w : List ℕ) (n m : ℕ) → length w ≡ n + m → zeroed n m (zeroed 0 n w) ≡ replicate (n + m) 0
unfolding zeroed
zeroed-both w n m e =
    let first : List ℕ = replicate n 0 in
    let u = first ++ drop n w in
    let long = length-replicate {A = ℕ} n 0 in
    let end : length w ≤ n + m = omega arith in
    let none : drop m (drop n u) ≡ [] =
    ap (drop m) (drop_at first (drop n w) n long) ∙ drop-drop m n w ∙ drop_of_length-le w end in
    ap (λ (l : List ℕ). l ++ (replicate m 0 ++ drop m (drop n u))) (take_at first (drop n w) n long)
    ∙ ap (λ (l : List ℕ). first ++ (replicate m 0 ++ l)) none
    ∙ ap (λ (l : List ℕ). first ++ l) (append-nil (replicate m 0))
    ∙ replicate-append-replicate n m 0

-- what is zero, and what stays

pub zeroed_elsewhere : (a n : ℕ) (w : List ℕ) → a + n ≤ length w → Elsewhere a n w (zeroed a n w)
unfolding zeroed
zeroed_elsewhere a n w h = replaced_elsewhere w a n h (replicate n 0) (length-replicate {A = ℕ} n 0)

pub zeroed-region : (a n : ℕ) (w : List ℕ) → a + n ≤ length w → region (zeroed a n w) a n ≡ replicate n 0
unfolding zeroed
zeroed-region a n w h = replaced-region w a n h (replicate n 0) (length-replicate {A = ℕ} n 0)
