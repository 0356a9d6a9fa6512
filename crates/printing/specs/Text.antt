-- The lines of document 01, "The printed facts", as ASCII.
use Rattle.std.specs.Prelude.{ℕ, suc, ◌+◌, ◌*◌, ◌/◌, Bool, cond, List, [], ◌∷◌, ◌++◌, eqb}
use Rattle.tree.specs.Tree.{bit}
use Rattle.tree.specs.Record.{Record, put}
use Rattle.semantic.specs.Information.{NONE}
use Rattle.semantic.specs.Rows.{Row, Blank, Variable, Function, CallSite, Let, kind_number, call_number, self_number}
use Rattle.semantic.specs.Kinds.{is_call_site, is_tail_row}
use Rattle.printing.specs.Numeral.{numeral}

abbrev pub LF : ℕ
LF = 10

-- A mark is a field's word and `=`. Where it is not a line's first, the space that parts the fields stands in front.

abbrev pub names= : List ℕ
names= = 110 ∷ 97 ∷ 109 ∷ 101 ∷ 115 ∷ 61 ∷ []

abbrev pub class= : List ℕ
class= = 99 ∷ 108 ∷ 97 ∷ 115 ∷ 115 ∷ 61 ∷ []

abbrev pub form= : List ℕ
form= = 102 ∷ 111 ∷ 114 ∷ 109 ∷ 61 ∷ []

abbrev pub id= : List ℕ
id= = 32 ∷ 105 ∷ 100 ∷ 61 ∷ []

abbrev pub name= : List ℕ
name= = 32 ∷ 110 ∷ 97 ∷ 109 ∷ 101 ∷ 61 ∷ []

abbrev pub count= : List ℕ
count= = 32 ∷ 99 ∷ 111 ∷ 117 ∷ 110 ∷ 116 ∷ 61 ∷ []

abbrev pub from= : List ℕ
from= = 32 ∷ 102 ∷ 114 ∷ 111 ∷ 109 ∷ 61 ∷ []

abbrev pub to= : List ℕ
to= = 32 ∷ 116 ∷ 111 ∷ 61 ∷ []

abbrev pub at= : List ℕ
at= = 97 ∷ 116 ∷ 61 ∷ []

abbrev pub kind= : List ℕ
kind= = 32 ∷ 107 ∷ 105 ∷ 110 ∷ 100 ∷ 61 ∷ []

abbrev pub depth= : List ℕ
depth= = 32 ∷ 100 ∷ 101 ∷ 112 ∷ 116 ∷ 104 ∷ 61 ∷ []

abbrev pub uses= : List ℕ
uses= = 32 ∷ 117 ∷ 115 ∷ 101 ∷ 115 ∷ 61 ∷ []

abbrev pub refers= : List ℕ
refers= = 32 ∷ 114 ∷ 101 ∷ 102 ∷ 101 ∷ 114 ∷ 115 ∷ 61 ∷ []

abbrev pub slot= : List ℕ
slot= = 32 ∷ 115 ∷ 108 ∷ 111 ∷ 116 ∷ 61 ∷ []

abbrev pub last= : List ℕ
last= = 32 ∷ 108 ∷ 97 ∷ 115 ∷ 116 ∷ 61 ∷ []

abbrev pub captured= : List ℕ
captured= = 32 ∷ 99 ∷ 97 ∷ 112 ∷ 116 ∷ 117 ∷ 114 ∷ 101 ∷ 100 ∷ 61 ∷ []

abbrev pub escapes= : List ℕ
escapes= = 32 ∷ 101 ∷ 115 ∷ 99 ∷ 97 ∷ 112 ∷ 101 ∷ 115 ∷ 61 ∷ []

abbrev pub let= : List ℕ
let= = 32 ∷ 108 ∷ 101 ∷ 116 ∷ 61 ∷ []

abbrev pub in= : List ℕ
in= = 32 ∷ 105 ∷ 110 ∷ 61 ∷ []

abbrev pub call= : List ℕ
call= = 32 ∷ 99 ∷ 97 ∷ 108 ∷ 108 ∷ 61 ∷ []

abbrev pub self= : List ℕ
self= = 32 ∷ 115 ∷ 101 ∷ 108 ∷ 102 ∷ 61 ∷ []

abbrev pub calls= : List ℕ
calls= = 99 ∷ 97 ∷ 108 ∷ 108 ∷ 115 ∷ 61 ∷ []

abbrev pub tail= : List ℕ
tail= = 32 ∷ 116 ∷ 97 ∷ 105 ∷ 108 ∷ 61 ∷ []

abbrev pub percent= : List ℕ
percent= = 32 ∷ 112 ∷ 101 ∷ 114 ∷ 99 ∷ 101 ∷ 110 ∷ 116 ∷ 61 ∷ []

abbrev pub refused= : List ℕ
refused= = 114 ∷ 101 ∷ 102 ∷ 117 ∷ 115 ∷ 101 ∷ 100 ∷ 61 ∷ []

abbrev pub ␣at= : List ℕ
␣at= = 32 ∷ 97 ∷ 116 ∷ 61 ∷ []

abbrev pub bad= : List ℕ
bad= = 98 ∷ 97 ∷ 100 ∷ 61 ∷ []

-- A line: marks, each with its value's text, then LF

pub record Field : Type 0 where
  pub mark : List ℕ
  pub value : List ℕ

abbrev pub line : List Field → List ℕ
line [] = LF ∷ []
line (f ∷ fs) = f.mark ++ (f.value ++ line fs)

abbrev pub number : List ℕ → ℕ → Field
number mark n = record { mark = mark; value = numeral n }

-- a number, or `-` for none
unfoldable pub or_none : ℕ → List ℕ
or_none n = cond (eqb n NONE) (45 ∷ []) (numeral n)

abbrev pub option : List ℕ → ℕ → Field
option mark n = record { mark = mark; value = or_none n }

-- The input

abbrev pub numbers : List (List ℕ) → List ℕ → List Field
numbers [] ns = []
numbers (m ∷ ms) [] = []
numbers (m ∷ ms) (n ∷ ns) = number m n ∷ numbers ms ns

abbrev pub names_marks : List (List ℕ)
names_marks = names= ∷ []

abbrev pub class_marks : List (List ℕ)
class_marks = class= ∷ []

abbrev pub record_marks : List (List ℕ)
record_marks = form= ∷ id= ∷ name= ∷ count= ∷ from= ∷ to= ∷ []

abbrev pub names_line : ℕ → List ℕ
names_line n = line (numbers names_marks (n ∷ []))

abbrev pub class_line : ℕ → List ℕ
class_line c = line (numbers class_marks (c ∷ []))

abbrev pub record_line : Record → List ℕ
record_line r = line (numbers record_marks (put r))

-- The facts: the line of record i, none where it has no fact

unfoldable pub row_text : ℕ → Row → List ℕ
row_text i Blank = []
row_text i (Variable v) =
    line
    (number at= i
    ∷ number kind= (kind_number v.kind)
    ∷ number depth= v.depth
    ∷ number uses= v.usage_count
    ∷ option refers= v.refers_to
    ∷ option slot= v.stack_offset
    ∷ number last= (bit v.last_usage)
    ∷ [])
row_text i (Function v) =
    line
    (number at= i
    ∷ number captured= v.captured_vars.length
    ∷ number escapes= (bit v.escapes)
    ∷ number depth= v.depth
    ∷ [])
row_text i (Let v) = line (number at= i ∷ number let= v.stack_offset ∷ option in= v.function_context ∷ [])
row_text i (CallSite v) = line (number at= i ∷ number call= (call_number v.kind) ∷ option self= (self_number v.kind) ∷ [])

-- The summary, of the rows that record a call and those that record a tail call

-- how many rows pass the test
unfoldable pub count : (Row → Bool) → List Row → ℕ
count test [] = 0
count test (r ∷ l) = bit (test r) + count test l

-- 100 * tail / all, rounded half up; 0 for no calls
unfoldable pub percent : ℕ → ℕ → ℕ
percent all tail = cond (eqb all 0) 0 ((200 * tail + all) / (2 * all))

unfoldable pub summary_text : ℕ → ℕ → List ℕ
summary_text all tail = line (number calls= all ∷ number tail= tail ∷ number percent= (percent all tail) ∷ [])

-- All that is printed of the rows, from record i on

unfoldable pub rows_text : ℕ → List Row → List ℕ
rows_text i [] = []
rows_text i (r ∷ l) = row_text i r ++ rows_text (suc i) l

unfoldable pub facts_text : List Row → List ℕ
facts_text l = rows_text 0 l ++ summary_text (count is_call_site l) (count is_tail_row l)

-- The refusals

unfoldable pub refused_text : ℕ → ℕ → List ℕ
refused_text n at = line (number refused= n ∷ number ␣at= at ∷ [])

unfoldable pub bad_text : ℕ → List ℕ
bad_text n = line (number bad= n ∷ [])
