-- What a byte string says, read as the input of document 01, "The printed facts".
use Rattle.std.specs.Prelude.{ℕ, ◌+◌, ◌-◌, ◌*◌, ◌^◌, Bool, true, false, ◌&&◌, List, [], ◌∷◌, ◌++◌, eqb, leb, ltb, length, get_or, Option, None, Some}
use Rattle.tree.specs.Record.{Record}
use Rattle.printing.specs.Text.{LF, names_marks, class_marks, record_marks}

-- One line, without its LF. LineLaws.antt: a line has numbers exactly if it is the printed line of them, and then they are below 2^32.

-- what follows the mark m, where l starts with it
unfoldable pub after : List ℕ → List ℕ → Option (List ℕ)
after [] l = Some l
after (m ∷ ms) [] = None
after (m ∷ ms) (x ∷ l) = elim (eqb m x) [ true ↦ after ms l | false ↦ None ]

pub record Numbered : Type 0 where
  pub value : ℕ
  pub rest : List ℕ

abbrev pub is_digit : ℕ → Bool
is_digit x = leb 48 x && leb x 57

-- the digits at the start of l, read on from v; and what follows them
unfoldable pub digits : ℕ → List ℕ → Numbered
digits v [] = record { value = v; rest = [] }
digits v (x ∷ l) = elim (is_digit x) [ true ↦ digits (10 * v + (x - 48)) l | false ↦ record { value = v; rest = x ∷ l } ]

-- below 2^32
unfoldable pub fit : Numbered → Option Numbered
fit n = elim (ltb n.value (2 ^ 32)) [ true ↦ Some n | false ↦ None ]

-- the number at the start of l: a 0 alone, or digits of which the first is not 0
unfoldable pub number_at : List ℕ → Option Numbered
number_at [] = None
number_at (x ∷ l) = elim (eqb x 48) [ true ↦ Some (record { value = 0; rest = l }) | false ↦ elim (is_digit x) [ true ↦ fit (digits (x - 48) l) | false ↦ None ] ]

-- the number after the mark m
abbrev pub number_if : Option (List ℕ) → Option Numbered
number_if None = None
number_if (Some l) = number_at l

unfoldable pub field_at : List ℕ → List ℕ → Option Numbered
field_at m l = number_if (after m l)

abbrev pub onto : ℕ → Option (List ℕ) → Option (List ℕ)
onto n None = None
onto n (Some ns) = Some (n ∷ ns)

-- the numbers of a line of these marks
unfoldable pub numbers_of : List (List ℕ) → List ℕ → Option (List ℕ)
numbers_of [] [] = Some []
numbers_of [] (x ∷ l) = None
numbers_of (m ∷ ms) l = elim (field_at m l) [ None ↦ None | Some n ↦ onto n.value (numbers_of ms n.rest) ]

-- What the lines so far say

pub data Said : Type 0 where
  nothing : Said  -- no line yet
  says : ℕ → List ℕ → List Record → Said  -- the number of names, the classes and the records
  differs : ℕ → Said  -- the number of the first line that differs

-- the number of the line that comes next
unfoldable pub next : Said → ℕ
next nothing = 1
next (says n cs rs) = 2 + length cs + length rs
next (differs k) = k

-- What the numbers of a line, if it has them, add: of the first line, of a class line and of a record line

unfoldable pub first : Option (List ℕ) → Said
first None = differs 1
first (Some ns) = says (get_or ns 0 0) [] []

unfoldable pub class : ℕ → List ℕ → List Record → Option (List ℕ) → Said
class n cs rs None = differs (next (says n cs rs))
class n cs rs (Some ns) = elim (ltb (get_or ns 0 0) 256) [ true ↦ says n (cs ++ (get_or ns 0 0 ∷ [])) rs | false ↦ differs (next (says n cs rs)) ]

abbrev pub record_of : List ℕ → Record
record_of ns = record { form = get_or ns 0 0; id = get_or ns 1 0; name = get_or ns 2 0; count = get_or ns 3 0; from = get_or ns 4 0; to = get_or ns 5 0 }

unfoldable pub entry : ℕ → List ℕ → List Record → Option (List ℕ) → Said
entry n cs rs None = differs (next (says n cs rs))
entry n cs rs (Some ns) = says n cs (rs ++ (record_of ns ∷ []))

-- with one line more
unfoldable pub with_line : Said → List ℕ → Said
with_line nothing l = first (numbers_of names_marks l)
with_line (says n cs rs) l = elim (ltb (length cs) n) [ true ↦ class n cs rs (numbers_of class_marks l) | false ↦ entry n cs rs (numbers_of record_marks l) ]
with_line (differs k) l = differs k

-- The bytes, one after another: an LF ends a line

pub record State : Type 0 where
  pub said : Said
  pub rest : List ℕ  -- of the line that has not ended

abbrev pub state : Said → List ℕ → State
state s l = record { said = s; rest = l }

unfoldable pub with_byte : State → ℕ → State
with_byte s x = elim (eqb x LF) [ true ↦ state (with_line s.said s.rest) [] | false ↦ state s.said (s.rest ++ (x ∷ [])) ]

unfoldable pub with_bytes : State → List ℕ → State
with_bytes s [] = s
with_bytes s (x ∷ b) = with_bytes (with_byte s x) b

-- The end

pub data Answer : Type 0 where
  bad : ℕ → Answer  -- the number of the first line that differs or is missing
  good : List ℕ → List Record → Answer  -- the classes and the records

-- the input ends with a line
unfoldable pub ending : Said → Answer
ending nothing = bad 1
ending (says n cs rs) = elim (ltb (length cs) n) [ true ↦ bad (next (says n cs rs)) | false ↦ good cs rs ]
ending (differs k) = bad k

-- or with one that has no LF, which differs
unfoldable pub answer : Said → List ℕ → Answer
answer s [] = ending s
answer s (x ∷ l) = bad (next s)

unfoldable pub read : List ℕ → Answer
read b = let s = with_bytes (state nothing []) b in answer s.said s.rest
