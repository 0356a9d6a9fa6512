-- The plain machine: R7RS's environments, and no fact. Document 01, "The slot machine of demand 3", second paragraph.
use Rattle.std.specs.Prelude.{ℕ, suc, List, [], ◌∷◌, ◌++◌, Bool, false, cond, length, drop, set, eqb, Option, None, Some, slice_get}
use Rattle.tree.specs.Tree.{Ident, Tree}
use Rattle.r7rs.specs.Machine.{Kont, kret, State, Out, Got, got, missing, Cells, fill, in_cell, last_n, but_n}
use Rattle.r7rs.specs.Steps.{Procedure, Ops}

-- "an environment here: name numbers with locations, newest first"
abbrev pub Env : Type 0
Env = List (ℕ × ℕ)

-- "A constant's value is its id, false only where marked #f." "A lambda gives a procedure: itself with the environment it is made in."
pub data PVal : Type 0 where
  pconst : ℕ → Bool → PVal
  punit : PVal  -- the unspecified value
  pclo : ℕ → List Ident → Tree → Env → PVal  -- the lambda's record, its parameters, its body

-- a location holds a value and, for whoever looks on, the record of the name that it was made for
abbrev pub Store : Type 0
Store = List (ℕ × PVal)

pub record PMem : Type 0 where
  pub store : Store
  pub cells : Cells PVal

-- "Each body, a lambda's or a top-level expression, has an environment here": the expression that it runs, its environment, the values it has pushed
pub record PBody : Type 0 where
  pub of : Tree
  pub env : Env
  pub stack : List PVal

abbrev pub mem : Store → Cells PVal → PMem
mem σ c = record { store = σ; cells = c }

abbrev pub body : Tree → Env → List PVal → PBody
body e ρ s = record { of = e; env = ρ; stack = s }

abbrev pub PKont : Type 0
PKont = Kont PBody

abbrev pub PState : Type 0
PState = State PVal PBody PMem

abbrev pub POut : Type 0
POut = Out PVal PBody PMem

-- "An identifier reads its name's first location, else its cell."

abbrev pub locate : Env → ℕ → Option ℕ
locate [] x = None
locate (p ∷ ρ) x = cond (eqb p.0 x) (Some p.1) (locate ρ x)

abbrev pub in_store : Option (ℕ × PVal) → Got PVal
in_store None = missing
in_store (Some c) = got c.1

abbrev pub pget_at : Option ℕ → ℕ → PMem → Got PVal
pget_at None x m = in_cell (m.cells x)
pget_at (Some ℓ) x m = in_store (slice_get m.store ℓ)

abbrev pub pget : ℕ → PBody → PMem → Got PVal
pget x b m = pget_at (locate b.env x) x m

-- "A set! ... fills what a read would find"; "reading or setting an unbound cell ... stops both machines alike"

abbrev pub pput_cell : Option PVal → ℕ → PVal → PBody → PMem → Got (PBody × PMem)
pput_cell None x w b m = missing
pput_cell (Some _) x w b m = got (b, mem m.store (fill m.cells x w))

abbrev pub put_store : Option (ℕ × PVal) → ℕ → PVal → PBody → PMem → Got (PBody × PMem)
put_store None ℓ w b m = missing
put_store (Some c) ℓ w b m = got (b, mem (set m.store ℓ (c.0, w)) m.cells)

abbrev pub pput_at : Option ℕ → ℕ → PVal → PBody → PMem → Got (PBody × PMem)
pput_at None x w b m = pput_cell (m.cells x) x w b m
pput_at (Some ℓ) x w b m = put_store (slice_get m.store ℓ) ℓ w b m

abbrev pub pput : ℕ → PVal → PBody → PMem → Got (PBody × PMem)
pput x w b m = pput_at (locate b.env x) x w b m

-- Values move "into a new location for each" name: the environment with the names, the first location being n; and the new locations

abbrev pub bind_env : List Ident → ℕ → Env → Env
bind_env [] n ρ = ρ
bind_env (x ∷ xs) n ρ = bind_env xs (suc n) ((x.name, n) ∷ ρ)

abbrev pub locations : List Ident → List PVal → Store
locations [] ws = []
locations (x ∷ xs) [] = []
locations (x ∷ xs) (w ∷ ws) = (x.at, w) ∷ locations xs ws

abbrev pub binds : List Ident → Env → PMem → Env
binds xs ρ m = bind_env xs (length m.store) ρ

abbrev pub holds : List Ident → List PVal → PMem → PMem
holds xs ws m = mem (m.store ++ locations xs ws) m.cells

abbrev pub pis_false : PVal → Bool
pis_false (pconst c q) = q
pis_false punit = false
pis_false (pclo i xs e ρ) = false

abbrev pub procedure : PVal → Option (Procedure Env)
procedure (pconst c q) = None
procedure punit = None
procedure (pclo i xs e ρ) = Some (record { names = xs; of = e; kept = ρ })

-- what the plain machine does in its own way (Steps.antt): "A let ... moves each into a new location for its name ... and drops the names"; "a call ... enters
-- ... the body of the procedure that the head gave, in that procedure's environment with the arguments moved into a new location for each
-- parameter; the caller waits, at tail calls too."
abbrev pub plainly : Ops PVal Env PBody PMem
plainly = record {
  constant = pconst;
  unit = punit;
  is_false = pis_false;
  made = λ i xs e b. pclo i xs e b.env;
  procedure = procedure;
  get = λ x b m. pget x.name b m;
  put = λ x w b m. pput x.name w b m;
  fill = λ x w m. mem m.store (fill m.cells x.name w);
  top = λ e. body e [] [];
  push = λ w b. body b.of b.env (b.stack ++ (w ∷ []));
  bind = λ xs n b m. (body b.of (binds xs b.env m) (but_n n b.stack), holds xs (last_n n b.stack) m);
  drop = λ n b. body b.of (drop n b.env) b.stack;
  callee = λ p n b m. (body p.of (binds p.names p.kept m) [], holds p.names (last_n n b.stack) m);
  caller = λ i n b k. kret i (body b.of b.env (but_n n b.stack)) k;
}
