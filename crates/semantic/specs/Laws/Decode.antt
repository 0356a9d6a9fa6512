-- Facts and entries come back from the numbers of their rows.
use Rattle.std.specs.Prelude.{cond, ◌≡◌, refl, get_or, eqb, None, Some}
use Rattle.std.proofs.Common.{arith, ne_eqb}
use Rattle.semantic.specs.Rows.{kind_number, Row, Blank, Variable, Function, CallSite, Let, put_row, ListEntry, put_info, put_list_entry}
use Rattle.semantic.specs.Kinds.{function_in, let_in}
use Rattle.semantic.specs.Decode.{information_of, function_of, let_of, info_of}
use Rattle.semantic.specs.Laws.Kinds.{kind_low}
use Rattle.semantic.specs.Laws.Numbers.{bit-one}
use Rattle.semantic.specs.Laws.Marks.{captured_mark, escapes_mark, enclosing_mark, mutated_mark}
use Rattle.semantic.specs.declared.SemanticInformation.{SemanticInformation}

pub information_back : (v : SemanticInformation) → information_of v.kind (put_row (Variable v)) ≡ v
unfolding put_row
information_back v =
    rw (
      bit-one v.set_bang,
      bit-one v.builtin,
      bit-one v.last_usage,
      bit-one v.escapes,
      bit-one v.captured_from_enclosing,
      bit-one v.is_shadowed,
      bit-one v.is_required_identifier,
    )

pub function_back : (r : Row) → cond (eqb (get_or (put_row r) 0 0) 8) (Some (function_of (put_row r))) None ≡ function_in r
unfolding put_row
function_back Blank = refl
function_back (Variable v) = rw (ne_eqb (kind_number v.kind) 8 (omega (arith, kind_low v.kind)))
function_back (Function v) = rw (bit-one v.escapes)
function_back (CallSite v) = refl
function_back (Let v) = refl

pub let_back : (r : Row) → cond (eqb (get_or (put_row r) 0 0) 9) (Some (let_of (put_row r))) None ≡ let_in r
unfolding put_row
let_back Blank = refl
let_back (Variable v) = rw (ne_eqb (kind_number v.kind) 9 (omega (arith, kind_low v.kind)))
let_back (Function v) = refl
let_back (CallSite v) = refl
let_back (Let v) = refl

pub info_back : (x : ListEntry) → info_of (put_list_entry x) ≡ x.info
unfolding put_list_entry put_info
info_back x =
    let v = x.info in
    rw (
      captured_mark v.captured v.escapes v.captured_from_enclosing v.mutated,
      escapes_mark v.captured v.escapes v.captured_from_enclosing v.mutated,
      enclosing_mark v.captured v.escapes v.captured_from_enclosing v.mutated,
      mutated_mark v.captured v.escapes v.captured_from_enclosing v.mutated,
    )
