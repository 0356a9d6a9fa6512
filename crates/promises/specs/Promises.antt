-- What `fresh` and `settled` promise whoever calls them, of what they answer and of the numbers that they leave, whatever the lent tables held.
-- `Fresh` and `Settled` are what the functions ensure. Read this after execution/specs/Claims.antt; each word leads to its definition.
use Rattle.std.specs.Prelude.{ℕ, List, [], map, true, ◌≡◌, length, None}
use Rattle.table.specs.Layout.{layout}
use Rattle.tree.specs.Record.{Record, records}
use Rattle.tree.specs.Tree.{Trees}
use Rattle.tree.specs.Define.{inner_defines}
use Rattle.tree.specs.Accepted.{Accepted}
use Rattle.semantic.specs.Rows.{Row, put_row}
use Rattle.pass.specs.Bare.{bare_row}
use Rattle.pass.specs.Run.{Tables, Outcome, fitting, Fresh, Settled}
use Rattle.r7rs.specs.Run.{plain}
use Rattle.lockstep.specs.Slot.{slots}
use Rattle.lockstep.specs.Lock.{Lockstep}
use Rattle.execution.specs.Calls.{CallsRecorded}
use Rattle.execution.specs.Premises.{Premises}
use Rattle.execution.specs.References.{Referred, LambdasMade, DefinesNamed, UsesCounted, fresh_reference, fresh_binder, settled_reference, settled_binder}
use Rattle.execution.specs.Acceptance.{fresh_refusal, settled_refusal}

-- Demands 2 and 3 of document 00, of the table of facts where nothing is refused. What holds of the tree ts and of the rows T that the table is:

pub record FreshFacts (classes : List ℕ) (ts : Trees) (T : List Row) : Type 0 where
  -- "proved are tail position": a record has a call's fact exactly if it is a call whose head is no constant, and that fact is of a tail call exactly if
  -- R7RS has the call in tail position
  pub tail : CallsRecorded T ts
  -- each name that is defined at top level is Global, of depth 1, with no reference and no slot; each lambda tells the layer that it is made at
  pub defined : DefinesNamed ts T × LambdasMade ts T
  -- "and, where no define is inner, binding from R7RS": kind, reference, depth and slot of each identifier read or set, parameter and let name
  pub binding : inner_defines ts ≡ [] → Referred ts T (fresh_reference classes ts) (fresh_binder classes ts)
  -- how often each name is used: parameters and let names, names defined at top level, identifiers read or set
  pub uses : inner_defines ts ≡ [] → UsesCounted ts T
  -- "for every number n, after n moments", the machine that goes by these facts and the plain machine are in step
  pub machines : Premises ts → (n : ℕ) → Lockstep ts T (slots ts T n) (plain ts n)

pub record SettledFacts (classes : List ℕ) (ts : Trees) (T : List Row) : Type 0 where
  pub tail : CallsRecorded T ts
  pub defined : DefinesNamed ts T × LambdasMade ts T
  pub binding : inner_defines ts ≡ [] → Referred ts T (settled_reference classes ts) (settled_binder classes ts)

-- The records are the records of a tree, and the table of facts is laid out of rows; and of every such tree and rows the facts say what is claimed

pub record Promise (classes rs : List ℕ) (o : Outcome) (Facts : Trees → List Row → Type 0) : Type 0 where
  pub tree : (ts : Trees) × Accepted (length classes) rs ts
  pub rows : (T : List Row) × (o.tables.facts ≡ layout put_row T)
  pub facts : (ts : Trees) (T : List Row) → Accepted (length classes) rs ts → o.tables.facts ≡ layout put_row T → Facts ts T

abbrev pub FreshPromise : Type 0
FreshPromise = (classes rs : List ℕ) (t : Tables) (o : Outcome) → Fresh classes rs t o → o.refused ≡ None → Promise classes rs o (FreshFacts classes)

abbrev pub SettledPromise : Type 0
SettledPromise = (classes rs : List ℕ) (t : Tables) (o : Outcome) → Settled classes rs t o → o.refused ≡ None → Promise classes rs o (SettledFacts classes)

-- Which of the refusals 9 to 12 is answered, of every script without an inner define: exactly what R7RS's walk over the script says. "First, a pass that
-- refuses every script: the conditions above are exact both ways." What the checks 1 to 8 and 16 refuse is in `Fresh` and `Settled` themselves.

abbrev pub FreshRefuses : Type 0
FreshRefuses =
    (classes rs : List ℕ) (t : Tables) (o : Outcome) (ts : Trees) → Fresh classes rs t o → fitting rs t ≡ true → Accepted (length classes) rs ts
    → inner_defines ts ≡ [] → o.refused ≡ fresh_refusal ts

abbrev pub SettledRefuses : Type 0
SettledRefuses =
    (classes rs : List ℕ) (t : Tables) (o : Outcome) (ts : Trees) → Settled classes rs t o → fitting rs t ≡ true → Accepted (length classes) rs ts
    → inner_defines ts ≡ [] → o.refused ≡ settled_refusal ts

-- "Positions are carried and never consulted: trees that differ only there give equal rows but for positions." Of any two inputs whose records agree in
-- all but their fields from and to: both are answered alike, refused or not, and the numbers left are the same but for positions.

abbrev pub bare_record : Record → Record
bare_record r = record { form = r.form; id = r.id; name = r.name; count = r.count; from = 0; to = 0 }

-- the records of a list of numbers, but for their positions
abbrev pub bare_records : List ℕ → List Record
bare_records rs = map bare_record (records rs)

-- two tables of facts: the same rows but for positions. No other rows have those numbers (Laws/Back.antt `rows_same`).
pub record SameRows (F G : List ℕ) : Type 0 where
  pub T : List Row
  pub U : List Row
  pub is_t : F ≡ layout put_row T
  pub is_u : G ≡ layout put_row U
  pub same : map bare_row T ≡ map bare_row U

-- two answers
pub record Alike (o p : Outcome) : Type 0 where
  pub refused : o.refused ≡ p.refused
  pub facts : SameRows o.tables.facts p.tables.facts
  pub captured : o.tables.captured ≡ p.tables.captured
  pub arguments : o.tables.arguments ≡ p.tables.arguments

abbrev pub FreshPositions : Type 0
FreshPositions =
    (classes rs qs : List ℕ) (t u : Tables) (o p : Outcome) → fitting rs t ≡ true → fitting qs u ≡ true → bare_records rs ≡ bare_records qs
    → Fresh classes rs t o → Fresh classes qs u p → Alike o p

abbrev pub SettledPositions : Type 0
SettledPositions =
    (classes rs qs : List ℕ) (t u : Tables) (o p : Outcome) → fitting rs t ≡ true → fitting qs u ≡ true → bare_records rs ≡ bare_records qs
    → Settled classes rs t o → Settled classes qs u p → Alike o p
