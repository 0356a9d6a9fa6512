-- A row's first number tells what it is.
use Rattle.std.specs.Prelude.{ℕ, ◌*◌, ◌≤◌, ◌<◌, Bool, true, ◌≡◌, refl, List, get_or, eqb}
use Rattle.std.proofs.Common.{ap, ◌∙◌, arith, ne_eqb, lt-ltb, le-ltb}
use Rattle.table.specs.Leaves.{Tells}
use Rattle.table.specs.Laws.Leaves.{tells_first}
use Rattle.semantic.specs.Rows.{kind_number, Row, Blank, Variable, Function, CallSite, Let, row_width, put_row}
use Rattle.semantic.specs.Laws.Rows.{row_long}
use Rattle.semantic.specs.Kinds.{row_kind, kind_of, is_blank, is_variable, is_identifier}
use Rattle.semantic.specs.declared.IdentifierStatus.{IdentifierStatus}
use Rattle.semantic.specs.declared.IdentifierStatus.TheVariants.{Global, Local, LocallyDefinedFunction, LetVar, Captured, Free, HeapAllocated}
use Rattle.semantic.specs.declared.RowKind.{RowKind}
use Rattle.semantic.specs.declared.RowKind.TheVariants as kind

-- the numbers of kinds, 1 to 7
pub record Low (n : ℕ) : Type 0 where
  pub some : n ≡ 0 → ⊥
  pub below : n < 8

pub kind_low : (k : IdentifierStatus) → Low (kind_number k)
kind_low Global = record { some = omega arith; below = omega arith }
kind_low Local = record { some = omega arith; below = omega arith }
kind_low LocallyDefinedFunction = record { some = omega arith; below = omega arith }
kind_low LetVar = record { some = omega arith; below = omega arith }
kind_low Captured = record { some = omega arith; below = omega arith }
kind_low Free = record { some = omega arith; below = omega arith }
kind_low HeapAllocated = record { some = omega arith; below = omega arith }

pub low_kind : (n : ℕ) → Low n → kind_of n ≡ kind.Variable
low_kind n b = simp (ne_eqb n 0 b.some, lt-ltb n 8 b.below)

pub high_kind : (n : ℕ) → 8 ≤ n → (n ≡ 8 → ⊥) → (n ≡ 9 → ⊥) → kind_of n ≡ kind.CallSite
high_kind n h a b = simp (ne_eqb n 0 (omega arith), le-ltb n 8 h, ne_eqb n 8 a, ne_eqb n 9 b)

pub low_identifier : (n : ℕ) → Low n → is_identifier n ≡ true
low_identifier n b = simp (ne_eqb n 0 b.some, lt-ltb n 8 b.below)

pub row_kind_lem : (r : Row) → kind_of (get_or (put_row r) 0 0) ≡ row_kind r
unfolding put_row
row_kind_lem Blank = refl
row_kind_lem (Variable v) = low_kind (kind_number v.kind) (kind_low v.kind)
row_kind_lem (Function v) = refl
row_kind_lem (CallSite v) = refl
row_kind_lem (Let v) = refl

pub row-blank : (r : Row) → eqb (get_or (put_row r) 0 0) 0 ≡ is_blank r
unfolding put_row
row-blank Blank = refl
row-blank (Variable v) = ne_eqb (kind_number v.kind) 0 (kind_low v.kind).some
row-blank (Function v) = refl
row-blank (CallSite v) = refl
row-blank (Let v) = refl

pub row_identifier : (r : Row) → is_identifier (get_or (put_row r) 0 0) ≡ is_variable r
unfolding put_row
row_identifier Blank = refl
row_identifier (Variable v) = low_identifier (kind_number v.kind) (kind_low v.kind)
row_identifier (Function v) = refl
row_identifier (CallSite v) = refl
row_identifier (Let v) = refl

module _ (F : List ℕ) (i : ℕ) where
  -- what the first number says, the row says
  first-told : {B : Type 0} (f : ℕ → B) (g : Row → B) → ((r : Row) → f (get_or (put_row r) 0 0) ≡ g r)
      → {x : B} → x ≡ f (get_or F (row_width * i) 0) → Tells put_row Blank g F i x
  first-told f g k q = record { is = λ l e h. q ∙ ap f ((tells_first row_width put_row row_long Blank F i (omega arith)).is l e h) ∙ k (get_or l i Blank) }

  pub kind_told : {x : RowKind} → x ≡ kind_of (get_or F (row_width * i) 0) → Tells put_row Blank row_kind F i x
  kind_told = first-told kind_of row_kind row_kind_lem

  pub blank-told : {x : Bool} → x ≡ eqb (get_or F (row_width * i) 0) 0 → Tells put_row Blank is_blank F i x
  blank-told = first-told (λ n. eqb n 0) is_blank row-blank

  pub variable_told : {x : Bool} → x ≡ is_identifier (get_or F (row_width * i) 0) → Tells put_row Blank is_variable F i x
  variable_told = first-told is_identifier is_variable row_identifier
