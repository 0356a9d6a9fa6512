-- Facts of identifiers changed in place, against the rows. No place of the code stands here.
use Prim.Native.Nat.{ℕ, ◌+◌, ◌*◌, ◌<◌}
use mathlib.Core.List.{List}
use mathlib.Core.Bool.{Bool, true, false, false≢true, true≢false}
use mathlib.Core.Path.{◌≡◌, refl, ap, sym, ◌∙◌}
use native.Mathlib.Omega.{arith}
use native.Mathlib.Numerals.{add-one}
use lib.ListN.{length, get_or, set}
use Rattle.table.specs.Layout.{layout}
use Rattle.table.specs.Laws.Leaves.{tells_number, amends_number, amends_none, amends_as, amends_then, amends_stores}
use Rattle.tree.specs.Tree.{bit}
use Rattle.semantic.specs.Information.{mark_shadowed}
use Rattle.semantic.specs.Rows.{Row, Blank, Variable, Function, CallSite, Let, row_width, put_row}
use Rattle.semantic.specs.Laws.Rows.{row_long}
use Rattle.semantic.specs.Amend.{amended, mark_if, one_use_more, used_or}
use Rattle.semantic.specs.Kinds.{is_blank, is_variable, is_identifier}
use Rattle.semantic.specs.Laws.Kinds.{variable_told}
use Rattle.semantic.specs.Leaves.{Stores, Amends, Tells, SetsNumber}
use Rattle.semantic.specs.declared.SemanticInformation.{SemanticInformation}

-- a row that is an identifier's, or not

abbrev pub SetTo : (SemanticInformation → SemanticInformation) → ℕ → ℕ → Row → Type 0
SetTo f j x r = (v : SemanticInformation) → r ≡ Variable v → put_row (Variable (f v)) ≡ set (put_row (Variable v)) j x

amended-number : (f : SemanticInformation → SemanticInformation) (j x : ℕ) (r : Row)
    → true ≡ is_variable r → SetTo f j x r → put_row (amended f r) ≡ set (put_row r) j x
amended-number f j x Blank t k = absurd (true≢false t)
amended-number f j x (Variable v) t k = k v refl
amended-number f j x (Function v) t k = absurd (true≢false t)
amended-number f j x (CallSite v) t k = absurd (true≢false t)
amended-number f j x (Let v) t k = absurd (true≢false t)

pub amended_other : (f : SemanticInformation → SemanticInformation) (r : Row) → false ≡ is_variable r → amended f r ≡ r
amended_other f Blank t = refl
amended_other f (Variable v) t = absurd (false≢true t)
amended_other f (Function v) t = refl
amended_other f (CallSite v) t = refl
amended_other f (Let v) t = refl

module _ (F : List ℕ) (i : ℕ) where
  -- number j of a row that is an identifier's is written
  pub amends_field : (f : SemanticInformation → SemanticInformation) (j x : ℕ) → j < row_width → Tells put_row Blank is_variable F i true
      → ((l : List Row) → F ≡ layout put_row l → i < length l → SetTo f j x (get_or l i Blank))
      → Amends put_row Blank (amended f) F i (set F (row_width * i + j) x)
  amends_field f j x g t k =
      amends_number row_width put_row row_long Blank F i (amended f) j x g (λ l e h. amended-number f j x (get_or l i Blank) (t.is l e h) (k l e h))

  pub amends_other : (f : SemanticInformation → SemanticInformation) → Tells put_row Blank is_variable F i false → Amends put_row Blank (amended f) F i F
  amends_other f t = amends_none put_row Blank (amended f) (λ l e h. amended_other f (get_or l i Blank) (t.is l e h))

  pub sets_number : (j x : ℕ) → j < row_width → true ≡ is_identifier (get_or F (row_width * i) 0) → SetsNumber F i j x (set F (row_width * i + j) x)
  sets_number j x g t = record { is = λ f k. amends_field f j x g (variable_told F i t) k }

  pub sets_none : (j x : ℕ) → false ≡ is_identifier (get_or F (row_width * i) 0) → SetsNumber F i j x F
  sets_none j x t = record { is = λ f k. amends_other f (variable_told F i t) }

  -- number j of an identifier's row, in the table
  cell : (j : ℕ) → j < row_width → (l : List Row) → F ≡ layout put_row l → i < length l → (v : SemanticInformation) → get_or l i Blank ≡ Variable v
      → get_or F (row_width * i + j) 0 ≡ get_or (put_row (Variable v)) j 0
  cell j g l e h v q = (tells_number row_width put_row row_long Blank F i j g).is l e h ∙ ap (λ (r : Row). get_or (put_row r) j 0) q

  pub counts : true ≡ is_identifier (get_or F (row_width * i) 0)
      → Amends put_row Blank (amended one_use_more) F i (set F (row_width * i + 4) (get_or F (row_width * i + 4) 0 + 1))
  unfolding put_row
  counts t =
      amends_field one_use_more 4 (get_or F (row_width * i + 4) 0 + 1) (omega arith) (variable_told F i t)
      (λ l e h v q. rw (cell 4 (omega arith) l e h v q, add-one))

-- Shadowed builtins

shadowed : (v : SemanticInformation) (b : Bool) → bit b ≡ 1 → put_row (Variable (mark_if b mark_shadowed v)) ≡ set (put_row (Variable v)) 18 1
unfolding put_row
shadowed v true k = refl
shadowed v false k = absurd (omega arith)

unshadowed : (v : SemanticInformation) (b : Bool) → (bit b ≡ 1 → ⊥) → mark_if b mark_shadowed v ≡ v
unshadowed v true k = absurd (k refl)
unshadowed v false k = refl

unshadowed_row : (r : Row) → (get_or (put_row r) 9 0 ≡ 1 → ⊥) → amended (λ v. mark_if v.builtin mark_shadowed v) r ≡ r
unfolding put_row
unshadowed_row Blank k = refl
unshadowed_row (Variable v) k = ap Variable (unshadowed v v.builtin k)
unshadowed_row (Function v) k = refl
unshadowed_row (CallSite v) k = refl
unshadowed_row (Let v) k = refl

module _ (F : List ℕ) (i : ℕ) where
  pub shadows_builtin : {F' : List ℕ} → get_or F (row_width * i + 9) 0 ≡ 1 → SetsNumber F i 18 1 F'
      → Amends put_row Blank (amended (λ v. mark_if v.builtin mark_shadowed v)) F i F'
  unfolding put_row
  shadows_builtin t s =
      s.is (λ v. mark_if v.builtin mark_shadowed v) (λ l e h v q. shadowed v v.builtin (sym (cell F i 9 (omega arith) l e h v q) ∙ t))

  pub shadows-none : (get_or F (row_width * i + 9) 0 ≡ 1 → ⊥) → Amends put_row Blank (amended (λ v. mark_if v.builtin mark_shadowed v)) F i F
  shadows-none t = amends_none put_row Blank (amended (λ v. mark_if v.builtin mark_shadowed v))
      (λ l e h. unshadowed_row (get_or l i Blank) (λ k. t ((tells_number row_width put_row row_long Blank F i 9 (omega arith)).is l e h ∙ k)))

-- One change after another

amended_twice : (f g : SemanticInformation → SemanticInformation) (r : Row) → amended g (amended f r) ≡ amended (λ v. g (f v)) r
amended_twice f g Blank = refl
amended_twice f g (Variable v) = refl
amended_twice f g (Function v) = refl
amended_twice f g (CallSite v) = refl
amended_twice f g (Let v) = refl

pub amends_twice : (f g : SemanticInformation → SemanticInformation) {F F' F'' : List ℕ} {i : ℕ}
    → Amends put_row Blank (amended f) F i F' → Amends put_row Blank (amended g) F' i F'' → Amends put_row Blank (amended (λ v. g (f v))) F i F''
amends_twice f g {i = i} c d = amends_as put_row Blank (λ l e h. amended_twice f g (get_or l i Blank)) (amends_then put_row Blank c d)

-- A fact made before, or a new one

blank-used : (v : SemanticInformation) (r : Row) → true ≡ is_blank r → Variable v ≡ used_or v r
blank-used v Blank k = refl
blank-used v (Variable w) k = absurd (true≢false k)
blank-used v (Function w) k = absurd (true≢false k)
blank-used v (CallSite w) k = absurd (true≢false k)
blank-used v (Let w) k = absurd (true≢false k)

made-used : (v : SemanticInformation) (r : Row) → false ≡ is_blank r → amended one_use_more r ≡ used_or v r
made-used v Blank k = absurd (false≢true k)
made-used v (Variable w) k = refl
made-used v (Function w) k = refl
made-used v (CallSite w) k = refl
made-used v (Let w) k = refl

module _ {F : List ℕ} {i : ℕ} (v : SemanticInformation) {b : Bool} {F' : List ℕ} (t : Tells put_row Blank is_blank F i b) where
  pub uses-new : b ≡ true → Stores put_row F i (Variable v) F' → Amends put_row Blank (used_or v) F i F'
  uses-new q s = amends_as put_row Blank (λ l e h. blank-used v (get_or l i Blank) (sym q ∙ t.is l e h)) (amends_stores put_row Blank s)

  pub uses-made : b ≡ false → Amends put_row Blank (amended one_use_more) F i F' → Amends put_row Blank (used_or v) F i F'
  uses-made q c = amends_as put_row Blank (λ l e h. made-used v (get_or l i Blank) (sym q ∙ t.is l e h)) c
