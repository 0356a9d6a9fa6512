-- The line of a row, from the row's numbers.
use Rattle.std.specs.Prelude.{ℕ, List, [], ◌∷◌, get_or}
use Rattle.semantic.specs.declared.RowKind.{RowKind}
use Rattle.semantic.specs.declared.RowKind.TheVariants as kind
use Rattle.printing.specs.Text.{
  line,
  number,
  option,
  at=,
  kind=,
  depth=,
  uses=,
  refers=,
  slot=,
  last=,
  captured=,
  escapes=,
  let=,
  in=,
  call=,
  self=,
}

abbrev pub variable_text : ℕ → List ℕ → List ℕ
variable_text i row =
    line
    (number at= i
    ∷ number kind= (get_or row 0 0)
    ∷ number depth= (get_or row 2 0)
    ∷ number uses= (get_or row 4 0)
    ∷ option refers= (get_or row 7 0)
    ∷ option slot= (get_or row 11 0)
    ∷ number last= (get_or row 10 0)
    ∷ [])

abbrev pub function_text : ℕ → List ℕ → List ℕ
function_text i row = line (number at= i ∷ number captured= (get_or row 2 0) ∷ number escapes= (get_or row 5 0) ∷ number depth= (get_or row 7 0) ∷ [])

-- of a let or a call
abbrev pub pair_text : ℕ → List ℕ → ℕ → List ℕ → ℕ → List ℕ
pair_text i first n second m = line (number at= i ∷ number first n ∷ option second m ∷ [])

-- by the kind of row
unfoldable pub text_of : ℕ → RowKind → List ℕ → List ℕ
text_of i kind.Blank row = []
text_of i kind.Variable row = variable_text i row
text_of i kind.Function row = function_text i row
text_of i kind.CallSite row = pair_text i call= (get_or row 1 0) self= (get_or row 2 0)
text_of i kind.Let row = pair_text i let= (get_or row 1 0) in= (get_or row 2 0)
