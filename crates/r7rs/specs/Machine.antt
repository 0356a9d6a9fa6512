-- What the two machines share: where a run stands, what waits, and what one more moment comes to. Document 01, "The slot machine of demand 3".
use Rattle.std.specs.Prelude.{ℕ, ◌-◌, List, [], ◌∷◌, Bool, true, false, cond, not, length, take, drop, eqb, Option, None, Some}
use Rattle.tree.specs.Tree.{Ident, Tree, Trees, ident, const, if, letin, define, lambda, sequence, call, set!, node_in}

-- an expression's record
abbrev pub at : Tree → ℕ
at (ident x) = x.at
at (const n q) = n.at
at (if n a b c) = n.at
at (letin n xs es b) = n.at
at (define n x b) = n.at
at (lambda n xs b) = n.at
at (sequence n es) = (node_in n).at
at (call n h es) = n.at
at (set! n x e) = n.at

-- what values are pushed for: a call's head comes next (the call's record, its head), or a let's body (its names, its body)
pub data After : Type 0 where
  to_head : ℕ → Tree → After
  to_body : List Ident → Tree → After

-- "A moment is an expression entered, an argument or initial value pushed, or a name read." The last one:
pub data Moment : Type 0 where
  start : Trees → Moment  -- none yet; the top-level expressions
  entered : Tree → Moment
  read : ℕ → Moment  -- the name at this record; its value is in hand
  pushed : ℕ → After → ℕ → Trees → Moment  -- the value of the expression at this record: what for, how many are pushed, the expressions left

-- "After a moment a machine is at the record entered, or read, or whose value was pushed"; "before the first moment both are at record 0"
abbrev pub stands_at : Moment → ℕ
stands_at (start ts) = 0
stands_at (entered e) = at e
stands_at (read i) = i
stands_at (pushed i w n es) = i

-- What waits for a value, innermost first; B is what a body that waits keeps. The last child of a begin, a branch of an if and a let's body
-- leave nothing of theirs behind but the let's names.
pub data Kont (B : Type 0) : Type 0 where
  kend : Trees → Kont B  -- the top-level expressions left
  kif : Tree → Tree → Kont B → Kont B  -- then, else
  kseq : Tree → Trees → Kont B → Kont B  -- a begin's children left
  kand : Tree → Trees → Kont B → Kont B  -- an and's
  kwhen : Bool → Trees → Kont B → Kont B  -- what follows a test, and what the test must be
  kpush : ℕ → After → ℕ → Trees → Kont B → Kont B  -- the expression's record, what for, how many are pushed before it, the expressions left
  khead : ℕ → ℕ → Kont B → Kont B  -- a call's record, and how many arguments are pushed
  kdrop : ℕ → Kont B → Kont B  -- how many names a let has
  kret : ℕ → B → Kont B → Kont B  -- a call's record, and the body that made it
  kset : Ident → Kont B → Kont B
  kdef : Ident → Kont B → Kont B

-- does what follows a test run: what the test must be, and whether it is false
abbrev pub runs : Bool → Bool → Bool
runs true f = not f
runs false f = f

-- the bodies that wait, the last caller first: of each the record of its call, and what it keeps
abbrev pub waiting : {B : Type 0} → Kont B → List (ℕ × B)
waiting (kend es) = []
waiting (kif t e k) = waiting k
waiting (kseq e es k) = waiting k
waiting (kand e es k) = waiting k
waiting (kwhen q es k) = waiting k
waiting (kpush i w n es k) = waiting k
waiting (khead i n k) = waiting k
waiting (kdrop n k) = waiting k
waiting (kret i b k) = (i, b) ∷ waiting k
waiting (kset x k) = waiting k
waiting (kdef x k) = waiting k

-- W: values; B: what a body has; M: the rest of what a machine holds
pub record State (W B M : Type 0) : Type 0 where
  pub moment : Moment
  pub hand : Option W  -- the value last given
  pub body : B
  pub kont : Kont B
  pub mem : M

-- what a try at one more moment comes to
pub data Out (W B M : Type 0) : Type 0 where
  next : State W B M → Out W B M  -- one more moment
  ended : W → M → Out W B M
  stopped : Out W B M
  outside : Out W B M  -- a read or a set! went outside a frame

-- what a name's value is, or what is left after a name was set
pub data Got (A : Type 0) : Type 0 where
  got : A → Got A
  missing : Got A  -- an unbound cell
  astray : Got A  -- outside a frame

module _ {W B M : Type 0} where
  abbrev pub state : Moment → Option W → B → Kont B → M → State W B M
  state l h b k m = record { moment = l; hand = h; body = b; kont = k; mem = m }

  abbrev pub on : {A : Type 0} → Got A → (A → Out W B M) → Out W B M
  on (got a) f = f a
  on missing f = stopped
  on astray f = outside

-- "Non-local names are cells by name number." "Cells start unbound in both."
abbrev pub Cells : Type 0 → Type 0
Cells W = ℕ → Option W

module _ {W : Type 0} where
  abbrev pub unbound : Cells W
  unbound x = None

  abbrev pub fill : Cells W → ℕ → W → Cells W
  fill c x v y = cond (eqb x y) (Some v) (c y)

  abbrev pub in_cell : Option W → Got W
  in_cell None = missing
  in_cell (Some v) = got v

-- a lambda with these parameters takes n arguments; "a wrong argument count stops both machines alike"
abbrev pub takes : List Ident → ℕ → Bool
takes xs n = eqb (length xs) n

-- the last n of a list, and what stands before them
module _ {A : Type 0} where
  abbrev pub last_n : ℕ → List A → List A
  last_n n l = drop (length l - n) l

  abbrev pub but_n : ℕ → List A → List A
  but_n n l = take (length l - n) l
