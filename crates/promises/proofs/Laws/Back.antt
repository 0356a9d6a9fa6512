-- Rows from the numbers of a table: no other rows have them.
use Rattle.std.specs.Prelude.{ℕ, ◌<◌, cond, ◌≡◌, get_or, take, drop, eqb, ltb}
use mathlib.Core.List.{List, [], ◌∷◌}
use Rattle.std.proofs.Math.Path.{refl, ap, sym}
use Rattle.std.proofs.Common.{◌∙◌, arith, ne_eqb, lt-ltb}
use Rattle.std.proofs.Math.ListN.{length}
use Rattle.std.proofs.Math.Seq.{take_at, drop_at}
use Rattle.table.specs.Layout.{layout}
use Rattle.table.specs.Laws.Layout.{length-layout}
use Rattle.semantic.specs.Rows.{kind_number, Row, Blank, Variable, Function, CallSite, Let, row_width, put_row}
use Rattle.semantic.specs.Laws.Rows.{row_long}
use Rattle.semantic.specs.Numbers.{status_of}
use Rattle.semantic.specs.Laws.Numbers.{status_kind, bit-one}
use Rattle.semantic.specs.Decode.{information_of, function_of, let_of}
use Rattle.semantic.specs.Laws.Decode.{information_back}
use Rattle.semantic.specs.Laws.Kinds.{kind_low}
use Rattle.semantic.specs.declared.CallKind.{CallKind}
use Rattle.semantic.specs.declared.CallKind.TheVariants.{Normal, TailCall, SelfTailCall}
use Rattle.semantic.specs.declared.CallSiteInformation.{CallSiteInformation}

abbrev pub call_kind_of : ℕ → ℕ → CallKind
call_kind_of k d = cond (eqb k 1) Normal (cond (eqb k 2) TailCall (SelfTailCall d))

abbrev pub call_of : List ℕ → CallSiteInformation
call_of row = record { kind = call_kind_of (get_or row 1 0) (get_or row 2 0); span = record { start = get_or row 3 0; end = get_or row 4 0 } }

-- the row by its first number
abbrev pub row_by : ℕ → List ℕ → Row
row_by n row =
    cond (eqb n 0) Blank
    (cond (ltb n 8) (Variable (information_of (status_of n) row))
    (cond (eqb n 8) (Function (function_of row)) (cond (eqb n 9) (Let (let_of row)) (CallSite (call_of row)))))

abbrev pub row_from : List ℕ → Row
row_from row = row_by (get_or row 0 0) row

call_back : (v : CallSiteInformation) → CallSite (call_of (put_row (CallSite v))) ≡ CallSite v
unfolding put_row
call_back v = go v.kind refl
  where
    go : (k : CallKind) → v.kind ≡ k → CallSite (call_of (put_row (CallSite v))) ≡ CallSite v
    go Normal e = rw e
    go TailCall e = rw e
    go (SelfTailCall d) e = rw e

pub row_back : (r : Row) → row_from (put_row r) ≡ r
unfolding put_row
row_back Blank = refl
row_back (Variable v) =
    let n = kind_number v.kind in
    rw (ne_eqb n 0 (kind_low v.kind).some, lt-ltb n 8 (kind_low v.kind).below, status_kind v.kind) (ap Variable (information_back v))
row_back (Function v) = rw (bit-one v.escapes)
row_back (CallSite v) = call_back v
row_back (Let v) = refl

pub row_same : (r q : Row) → put_row r ≡ put_row q → r ≡ q
row_same r q e = sym (row_back r) ∙ ap row_from e ∙ row_back q

module _ {A : Type 0} (W : ℕ) (put : A → List ℕ) (long : (a : A) → length (put a) ≡ W) (some : 0 < W) (same : (a b : A) → put a ≡ put b → a ≡ b) where
  pub layout_same : (l m : List A) → layout put l ≡ layout put m → l ≡ m
  unfolding layout
  layout_same [] [] e = refl
  layout_same [] (b ∷ m) e = absurd (omega (arith, ap length e, length-layout W put long (b ∷ m)))
  layout_same (a ∷ l) [] e = absurd (omega (arith, ap length e, length-layout W put long (a ∷ l)))
  layout_same (a ∷ l) (b ∷ m) e =
      let p : put a ≡ put b = sym (take_at (put a) (layout put l) W (long a)) ∙ ap (take W) e ∙ take_at (put b) (layout put m) W (long b) in
      let q : layout put l ≡ layout put m = sym (drop_at (put a) (layout put l) W (long a)) ∙ ap (drop W) e ∙ drop_at (put b) (layout put m) W (long b) in
      ap (λ (x : A). x ∷ l) (same a b p) ∙ ap (λ (k : List A). b ∷ k) (layout_same l m q)

-- the numbers of a table of facts are those of one list of rows
pub rows_same : (T U : List Row) → layout put_row T ≡ layout put_row U → T ≡ U
rows_same T U e = layout_same row_width put_row row_long (omega arith) row_same T U e
