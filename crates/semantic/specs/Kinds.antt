-- What a row of the facts is, and what it says.
use Rattle.std.specs.Prelude.{ℕ, Bool, true, false, cond, eqb, ltb, Option, None, Some}
use Rattle.semantic.specs.Information.{NONE}
use Rattle.semantic.specs.Rows.{Row, Blank, Variable, Function, CallSite, Let}
use Rattle.semantic.specs.declared.CallKind.{CallKind}
use Rattle.semantic.specs.declared.CallKind.TheVariants.{Normal, TailCall, SelfTailCall}
use Rattle.semantic.specs.declared.FunctionInformation.{FunctionInformation}
use Rattle.semantic.specs.declared.LetInformation.{LetInformation}
use Rattle.semantic.specs.declared.RowKind.{RowKind}
use Rattle.semantic.specs.declared.RowKind.TheVariants as kind

abbrev pub row_kind : Row → RowKind
row_kind Blank = kind.Blank
row_kind (Variable v) = kind.Variable
row_kind (Function v) = kind.Function
row_kind (CallSite v) = kind.CallSite
row_kind (Let v) = kind.Let

abbrev pub is_blank : Row → Bool
is_blank Blank = true
is_blank (Variable v) = false
is_blank (Function v) = false
is_blank (CallSite v) = false
is_blank (Let v) = false

abbrev pub is_variable : Row → Bool
is_variable Blank = false
is_variable (Variable v) = true
is_variable (Function v) = false
is_variable (CallSite v) = false
is_variable (Let v) = false

-- the same from a row's first number
abbrev pub kind_of : ℕ → RowKind
kind_of n =
    cond (eqb n 0) kind.Blank
    (cond (ltb n 8) kind.Variable (cond (eqb n 8) kind.Function (cond (eqb n 9) kind.Let kind.CallSite)))

abbrev pub is_identifier : ℕ → Bool
is_identifier n = cond (eqb n 0) false (ltb n 8)

-- the id that an identifier's fact refers to
abbrev pub refers_in : Row → ℕ
refers_in Blank = NONE
refers_in (Variable v) = v.refers_to
refers_in (Function v) = NONE
refers_in (CallSite v) = NONE
refers_in (Let v) = NONE

-- the fact of a lambda, of a let
abbrev pub function_in : Row → Option FunctionInformation
function_in Blank = None
function_in (Variable v) = None
function_in (Function v) = Some v
function_in (CallSite v) = None
function_in (Let v) = None

abbrev pub let_in : Row → Option LetInformation
let_in Blank = None
let_in (Variable v) = None
let_in (Function v) = None
let_in (CallSite v) = None
let_in (Let v) = Some v

abbrev pub is_call_site : Row → Bool
is_call_site Blank = false
is_call_site (Variable v) = false
is_call_site (Function v) = false
is_call_site (CallSite v) = true
is_call_site (Let v) = false

-- a tail call
abbrev pub is_tail : CallKind → Bool
is_tail Normal = false
is_tail TailCall = true
is_tail (SelfTailCall d) = true

-- a row that records a tail call
abbrev pub is_tail_row : Row → Bool
is_tail_row Blank = false
is_tail_row (Variable v) = false
is_tail_row (Function v) = false
is_tail_row (CallSite v) = is_tail v.kind
is_tail_row (Let v) = false
