-- Whole rows of the facts, against their numbers. No place of the code stands here.
use Rattle.std.specs.Prelude.{Option, None, Some}
use Prim.Native.Nat.{ℕ, ◌+◌, ◌*◌}
use mathlib.Core.List.{List}
use mathlib.Core.Bool.{Bool, true, false, cond}
use mathlib.Core.Path.{◌≡◌, refl, ap, sym, ◌∙◌}
use native.Mathlib.Omega.{arith}
use borrow.Author.Tests.{eq-eqb, ne_eqb}
use lib.ListN.{get_or}
use lib.Dec.{eqb}
use Rattle.table.specs.Laws.Leaves.{tells_number, tells_first}
use Rattle.semantic.specs.Information.{NONE}
use Rattle.semantic.specs.Rows.{kind_number, Row, Blank, Variable, Function, CallSite, Let, row_width, put_row}
use Rattle.semantic.specs.Laws.Rows.{row_long}
use Rattle.semantic.specs.Kinds.{is_identifier, refers_in}
use Rattle.semantic.specs.Laws.Kinds.{kind_low, low_identifier}
use Rattle.semantic.specs.Leaves.{Tells}

-- what the row says by a test of its first number

module _ (F : List ℕ) (i : ℕ) {B : Type 0} (test : ℕ → Bool) (f g : Row → B) (no : B)
    (back : (r : Row) → cond (test (get_or (put_row r) 0 0)) (f r) no ≡ g r) where
  told : {b : Bool} → test (get_or F (row_width * i) 0) ≡ b → {x : B} → Tells put_row Blank (λ r. cond b (f r) no) F i x → Tells put_row Blank g F i x
  told t s = record {
    is = λ l e h.
        let r = get_or l i Blank in
        s.is l e h
        ∙ ap (λ (b : Bool). cond b (f r) no) (sym t ∙ ap test ((tells_first row_width put_row row_long Blank F i (omega arith)).is l e h))
        ∙ back r;
  }

-- the fact that a row holds whose first number is n
module _ (F : List ℕ) (i n : ℕ) {A : Type 0} (decode : List ℕ → A) (g : Row → Option A)
    (back : (r : Row) → cond (eqb (get_or (put_row r) 0 0) n) (Some (decode (put_row r))) None ≡ g r) where
  pub found : get_or F (row_width * i) 0 ≡ n → {row : List ℕ} → Tells put_row Blank put_row F i row → Tells put_row Blank g F i (Some (decode row))
  found k t =
      told F i (λ m. eqb m n) (λ r. Some (decode (put_row r))) g None back (eq-eqb (get_or F (row_width * i) 0) n k)
      (record { is = λ l e h. ap (λ (m : List ℕ). Some (decode m)) (t.is l e h) })

  pub not_found : (get_or F (row_width * i) 0 ≡ n → ⊥) → Tells put_row Blank g F i None
  not_found k =
      told F i (λ m. eqb m n) (λ r. Some (decode (put_row r))) g None back (ne_eqb (get_or F (row_width * i) 0) n k) (record { is = λ l e h. refl })

refers_back : (r : Row) → cond (is_identifier (get_or (put_row r) 0 0)) (get_or (put_row r) 7 0) NONE ≡ refers_in r
unfolding put_row
refers_back Blank = refl
refers_back (Variable v) = rw (low_identifier (kind_number v.kind) (kind_low v.kind))
refers_back (Function v) = refl
refers_back (CallSite v) = refl
refers_back (Let v) = refl

module _ (F : List ℕ) (i : ℕ) where
  pub refers : true ≡ is_identifier (get_or F (row_width * i) 0) → Tells put_row Blank refers_in F i (get_or F (row_width * i + 7) 0)
  refers t =
      told F i is_identifier (λ r. get_or (put_row r) 7 0) refers_in NONE refers_back (sym t) (tells_number row_width put_row row_long Blank F i 7 (omega arith))

  pub no_refers : false ≡ is_identifier (get_or F (row_width * i) 0) → Tells put_row Blank refers_in F i NONE
  no_refers t = told F i is_identifier (λ r. get_or (put_row r) 7 0) refers_in NONE refers_back (sym t) (record { is = λ l e h. refl })
