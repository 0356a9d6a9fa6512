-- Calls among the rows, by the rows' numbers.
use Prim.Native.Nat.{ℕ, ◌+◌, ◌*◌, ◌/◌, ◌≤◌, ◌<◌}
use mathlib.Core.Bool.{Bool, true, not}
use mathlib.Core.List.{List, [], ◌∷◌, ◌++◌}
use mathlib.Core.Path.{◌≡◌, refl, ap, sym, ◌∙◌}
use native.Mathlib.Omega.{arith}
use native.Mathlib.Numerals.{add-one}
use borrow.Author.Tests.{ne_eqb}
use lib.Dec.{eqb}
use lib.ListN.{length, get_or, take}
use lib.Seq.{take-suc, take_all}
use Rattle.table.specs.Layout.{layout}
use Rattle.table.specs.Laws.Layout.{length-layout}
use Rattle.table.specs.Laws.Leaves.{tells_first, tells_number}
use Rattle.tree.specs.Tree.{bit}
use Rattle.semantic.specs.Rows.{kind_number, call_number, Row, Blank, Variable, Function, CallSite, Let, row_width, put_row}
use Rattle.semantic.specs.Kinds.{is_call_site, is_tail, is_tail_row}
use Rattle.semantic.specs.Laws.Rows.{row_long}
use Rattle.semantic.specs.Laws.Kinds.{kind_low}
use Rattle.semantic.specs.Leaves.{Tells}
use Rattle.semantic.specs.declared.CallKind.{CallKind}
use Rattle.semantic.specs.declared.CallKind.TheVariants.{Normal, TailCall, SelfTailCall}
use Rattle.printing.specs.Text.{count}
use Rattle.printing.specs.Laws.Counts.{count_snoc}

row_call : (r : Row) → eqb (get_or (put_row r) 0 0) 10 ≡ is_call_site r
unfolding put_row
row_call Blank = refl
row_call (Variable v) = ne_eqb (kind_number v.kind) 10 (λ q. omega (arith, (kind_low v.kind).below))
row_call (Function v) = refl
row_call (CallSite v) = refl
row_call (Let v) = refl

kind_tail : (k : CallKind) → not (eqb (call_number k) 1) ≡ is_tail k
kind_tail Normal = refl
kind_tail TailCall = refl
kind_tail (SelfTailCall d) = refl

row_tail : (r : Row) → is_call_site r ≡ true → not (eqb (get_or (put_row r) 1 0) 1) ≡ is_tail_row r
unfolding put_row
row_tail Blank q = cc
row_tail (Variable v) q = cc
row_tail (Function v) q = cc
row_tail (CallSite v) q = kind_tail v.kind
row_tail (Let v) q = cc

module _ (F : List ℕ) (i : ℕ) where
  first : (l : List Row) → F ≡ layout put_row l → i < length l → get_or F (row_width * i) 0 ≡ get_or (put_row (get_or l i Blank)) 0 0
  first = (tells_first row_width put_row row_long Blank F i (omega arith)).is

  second : (l : List Row) → F ≡ layout put_row l → i < length l → get_or F (row_width * i + 1) 0 ≡ get_or (put_row (get_or l i Blank)) 1 0
  second = (tells_number row_width put_row row_long Blank F i 1 (omega arith)).is

  pub call_told : Tells put_row Blank is_call_site F i (eqb (get_or F (row_width * i) 0) 10)
  call_told = record { is = λ l e h. ap (λ (n : ℕ). eqb n 10) (first l e h) ∙ row_call (get_or l i Blank) }

  pub tail_told : {b : Bool} → Tells put_row Blank is_call_site F i b → b ≡ true
      → Tells put_row Blank is_tail_row F i (not (eqb (get_or F (row_width * i + 1) 0) 1))
  tail_told t q = record {
    is = λ l e h. ap (λ (n : ℕ). not (eqb n 1)) (second l e h) ∙ row_tail (get_or l i Blank) (sym (t.is l e h) ∙ q);
  }

-- Counting

pub rows_of : (F : List ℕ) (l : List Row) → F ≡ layout put_row l → length F / 20 ≡ length l
rows_of F l e = omega (arith, ap length e ∙ length-layout row_width put_row row_long l)

pub count_turn : (test : Row → Bool) (F : List ℕ) (l : List Row) (i n : ℕ) {b : Bool} {k : ℕ} → F ≡ layout put_row l → i < length F / 20
    → Tells put_row Blank test F i b → k ≡ bit b → n ≡ count test (take i l) → n + k ≡ count test (take (i + 1) l)
count_turn test F l i n {b} {k} e h t q p =
    let g : i < length l = omega (arith, rows_of F l e) in
    let s : take (i + 1) l ≡ take i l ++ (get_or l i Blank ∷ []) = rw add-one (take-suc l i Blank g) in
    let y : k ≡ bit (test (get_or l i Blank)) = q ∙ ap bit (t.is l e g) in
    rw s (omega (arith, count_snoc test (take i l) (get_or l i Blank)))

pub count-end : (test : Row → Bool) (F : List ℕ) (l : List Row) (i n : ℕ) → F ≡ layout put_row l
    → length F / 20 ≤ i → n ≡ count test (take i l) → n ≡ count test l
count-end test F l i n e h p = p ∙ ap (count test) (take_all i l (omega (arith, rows_of F l e)))
