-- What the functions that read and write rows require, from the rows.
use Rattle.std.specs.Prelude.{ℕ, ◌+◌, ◌*◌, ◌≤◌, ◌<◌, List, true, ◌≡◌, refl, length, get_or}
use Rattle.std.proofs.lemmas.Bool.{false≢true}
use Rattle.std.proofs.Common.{sym, subst, ◌∙◌, arith}
use Rattle.table.specs.Layout.{layout}
use Rattle.table.specs.Laws.Leaves.{inside, tells_number}
use Rattle.semantic.specs.Information.{NONE}
use Rattle.semantic.specs.Rows.{Row, Blank, Variable, Function, CallSite, Let, row_width, put_row, ListEntry, no_list_entry, list_entry_width, put_list_entry}
use Rattle.semantic.specs.Kinds.{is_variable}
use Rattle.semantic.specs.Leaves.{UsesFit}
use Rattle.semantic.specs.Laws.Rows.{row_long, list-entry_long}
use Rattle.semantic.specs.Laws.Kinds.{variable_told}
use Rattle.semantic.specs.declared.SemanticInformation.{SemanticInformation}

pub row_inside : (l : List Row) {F : List ℕ} {i : ℕ} → F ≡ layout put_row l → i < length l → row_width * i + row_width ≤ length F
row_inside l {F} {i} e h = inside row_width put_row row_long Blank F i l e h

pub list-entry-inside : (l : List ListEntry) {F : List ℕ} {i : ℕ} → F ≡ layout put_list_entry l → i < length l → list_entry_width * i + list_entry_width ≤ length F
list-entry-inside l {F} {i} e h = inside list_entry_width put_list_entry list-entry_long no_list_entry F i l e h

pub uses-fit : (l : List Row) {F : List ℕ} {i : ℕ} → F ≡ layout put_row l → i < length l
    → ((v : SemanticInformation) → get_or l i Blank ≡ Variable v → v.usage_count < NONE) → UsesFit F i
unfolding put_row
uses-fit l {F} {i} e h k = record {
  fits = λ t. subst (λ (n : ℕ). n < NONE) (sym ((tells_number row_width put_row row_long Blank F i 4 (omega arith)).is l e h))
      (go (get_or l i Blank) (sym ((variable_told F i refl).is l e h) ∙ t) k);
}
  where
    go : (r : Row) → is_variable r ≡ true → ((v : SemanticInformation) → r ≡ Variable v → v.usage_count < NONE) → get_or (put_row r) 4 0 < NONE
    go Blank t f = absurd (false≢true t)
    go (Variable v) t f = f v refl
    go (Function v) t f = absurd (false≢true t)
    go (CallSite v) t f = absurd (false≢true t)
    go (Let v) t f = absurd (false≢true t)
