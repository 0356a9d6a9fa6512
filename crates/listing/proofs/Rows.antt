-- The text of rows: one row more, rows without a fact at the end, and the summary behind them.
use Prim.Native.Nat.{ℕ, suc, ◌+◌, ◌*◌, ◌≤◌, ◌<◌}
use mathlib.Core.List.{List, [], ◌∷◌, ◌++◌, append_assoc, append-nil}
use mathlib.Core.Path.{◌≡◌, refl, ap, sym, ◌∙◌}
use native.Mathlib.Omega.{arith}
use native.Mathlib.Numerals.{add-one}
use lib.ListN.{length, get_or, take, drop, length-append, take-append-drop}
use lib.Seq.{take-suc, get_or-drop, length-take-le, take-append-le, take-append-add}
use Rattle.table.specs.Layout.{layout}
use Rattle.table.specs.Laws.Layout.{length-layout}
use Rattle.table.specs.Region.{replaced}
use Rattle.semantic.specs.Rows.{Row, Blank, row_width, put_row}
use Rattle.semantic.specs.Laws.Rows.{row_long}
use Rattle.printing.specs.Text.{row_text, rows_text, facts_text}
use Rattle.printing.specs.Counts.{Summed}
use Rattle.listing.specs.Answered.{RowsIn, BlankFrom, FactsIn}

rows_append : (i : ℕ) (a b : List Row) → rows_text i (a ++ b) ≡ rows_text i a ++ rows_text (i + length a) b
unfolding rows_text
rows_append i [] b = ap (λ (k : ℕ). rows_text k b) (omega arith)
rows_append i (r ∷ a) b =
    let k : suc i + length a ≡ i + length (r ∷ a) = omega arith in
    ap (λ (t : List ℕ). row_text i r ++ t) (rows_append (suc i) a b ∙ ap (λ (n : ℕ). rows_text (suc i) a ++ rows_text n b) k)
    ∙ sym (append_assoc (row_text i r) (rows_text (suc i) a) (rows_text (i + length (r ∷ a)) b))

pub rows_more : (l : List Row) (i : ℕ) → i < length l → rows_text 0 (take (i + 1) l) ≡ rows_text 0 (take i l) ++ row_text i (get_or l i Blank)
unfolding rows_text
rows_more l i h =
    let k : 0 + length (take i l) ≡ i = omega (arith, length-take-le i l (omega arith)) in
    rw (add-one i, take-suc l i Blank)
    (rows_append 0 (take i l) (get_or l i Blank ∷ [])
    ∙ ap (λ (n : ℕ). rows_text 0 (take i l) ++ (row_text n (get_or l i Blank) ++ [])) k
    ∙ ap (λ (t : List ℕ). rows_text 0 (take i l) ++ t) (append-nil (row_text i (get_or l i Blank))))

blank-rows : (i : ℕ) (l : List Row) → BlankFrom 0 l → rows_text i l ≡ []
unfolding rows_text row_text
blank-rows i [] b = refl
blank-rows i (r ∷ l) b =
    ap (λ (q : Row). row_text i q ++ rows_text (suc i) l) (b 0 (omega arith)) ∙ blank-rows (suc i) l (λ x h. b (suc x) (omega arith))

-- rows without a fact at the end print nothing
pub rows_but : (l : List Row) (n : ℕ) → BlankFrom n l → rows_text 0 (take n l) ≡ rows_text 0 l
rows_but l n b =
    sym
    (ap (rows_text 0) (sym (take-append-drop n l))
    ∙ rows_append 0 (take n l) (drop n l)
    ∙ ap (λ (t : List ℕ). rows_text 0 (take n l) ++ t) (blank-rows (0 + length (take n l)) (drop n l) (λ x h. get_or-drop n l x Blank ∙ b (n + x) (omega arith)))
    ∙ append-nil (rows_text 0 (take n l)))

-- a table of so many rows
pub rows_in : (F : List ℕ) (l : List Row) (n : ℕ) → F ≡ layout put_row l → row_width * n ≤ length F → n ≤ length l
rows_in F l n e h = omega (arith, ap length e ∙ length-layout row_width put_row row_long l)

-- the part of a buffer from `end` on is back as q, and starts with n bytes of text
pub put-after : (d q : List ℕ) (end k n : ℕ) → end ≤ length d → n ≤ length q → take (end + n) (replaced d end k q) ≡ take end d ++ take n q
put-after d q end k n h g =
    let z : end + n ≡ length (take end d) + n = omega (arith, length-take-le end d h) in
    let r = drop k (drop end d) in
    ap (λ (m : ℕ). take m (take end d ++ (q ++ r))) z
    ∙ take-append-add (take end d) (q ++ r) n
    ∙ ap (λ (t : List ℕ). take end d ++ t) (take-append-le n q r g)

pub facts_in : {F d q : List ℕ} {rows end n : ℕ} (k : ℕ) → RowsIn F rows d end → Summed F q n → end ≤ length d → n ≤ length q
    → FactsIn F rows (replaced d end k q) (end + n)
unfolding facts_text
facts_in {F} {d} {q} {rows} {end} {n} k v w h g = record {
  is = λ l e b.
      put-after d q end k n h g
      ∙ ap (λ (t : List ℕ). t ++ take n q) (v.is l e ∙ rows_but l rows b)
      ∙ ap (λ (t : List ℕ). rows_text 0 l ++ t) (w.is l e);
  inside =
      let r = drop k (drop end d) in
      omega (arith, length-append (take end d) (q ++ r), length-append q r, length-take-le end d h);
}
