-- What is claimed of the facts: demands 2 and 3 of document 00, and order 7 of document 02. Read this first; each word leads to its definition.
use Rattle.std.specs.Prelude.{ℕ, List, [], ◌≡◌, length, None}
use Rattle.tree.specs.Tree.{Trees}
use Rattle.tree.specs.Define.{inner_defines}
use Rattle.tree.specs.Expand.{expands, NineFormsIn}
use Rattle.tree.specs.Accepted.{Accepted}
use Rattle.semantic.specs.Rows.{Row}
use Rattle.pass.specs.State.{State}
use Rattle.pass.specs.Run.{fresh, settled}
use Rattle.execution.specs.Calls.{CallsRecorded}
use Rattle.pass.specs.Bare.{bares}
use Rattle.r7rs.specs.Binding.{events}
use Rattle.r7rs.specs.Tail.{calls_in}
use Rattle.r7rs.specs.Tail.{keys}
use Rattle.r7rs.specs.Alike.{RunAlike}
use Rattle.r7rs.specs.Run.{plain}
use Rattle.lockstep.specs.Slot.{slots}
use Rattle.lockstep.specs.Lock.{Lockstep}
use Rattle.execution.specs.Premises.{FreshAccepts, SettledAccepts, Premises}
use Rattle.execution.specs.References.{Referred, LambdasMade, DefinesNamed, UsesCounted, fresh_reference, fresh_binder, settled_reference, settled_binder}
use Rattle.execution.specs.Acceptance.{nine_in, ten_in, second_in}
use Rattle.execution.specs.Positions.{Same}

-- the facts that a run leaves
abbrev pub rows : State → List Row
rows s = s.facts.rows

-- Demand 2: "proved are tail position and, where no define is inner, binding from R7RS". Tail position: a record has a call's fact exactly if it is a
-- call whose head is no constant, and that fact's kind is TailCall or SelfTailCall exactly if R7RS puts the call in tail position. Of every accepted
-- tree, inner defines or not.

abbrev pub TailFresh : Type 0
TailFresh = (classes rs : List ℕ) (ts : Trees) → FreshAccepts classes rs ts → CallsRecorded (rows (fresh classes ts)) ts

abbrev pub TailSettled : Type 0
TailSettled = (classes rs : List ℕ) (ts : Trees) → SettledAccepts classes rs ts → CallsRecorded (rows (settled classes ts)) ts

-- Binding: kind, reference, depth and slot of each identifier read or set, and of each parameter and let name

abbrev pub BindingFresh : Type 0
BindingFresh =
    (classes rs : List ℕ) (ts : Trees) → FreshAccepts classes rs ts → inner_defines ts ≡ []
    → Referred ts (rows (fresh classes ts)) (fresh_reference classes ts) (fresh_binder classes ts)

abbrev pub BindingSettled : Type 0
BindingSettled =
    (classes rs : List ℕ) (ts : Trees) → SettledAccepts classes rs ts → inner_defines ts ≡ []
    → Referred ts (rows (settled classes ts)) (settled_reference classes ts) (settled_binder classes ts)

-- The same of each name that is defined at top level, and the depth of each lambda, inner defines or not

abbrev pub DefinedFresh : Type 0
DefinedFresh = (classes rs : List ℕ) (ts : Trees) → FreshAccepts classes rs ts → DefinesNamed ts (rows (fresh classes ts)) × LambdasMade ts (rows (fresh classes ts))

abbrev pub DefinedSettled : Type 0
DefinedSettled = (classes rs : List ℕ) (ts : Trees) → SettledAccepts classes rs ts → DefinesNamed ts (rows (settled classes ts)) × LambdasMade ts (rows (settled classes ts))

-- How often each name is used, after a fresh run: parameters and let names, names defined at top level, identifiers read or set

abbrev pub UsesFresh : Type 0
UsesFresh = (classes rs : List ℕ) (ts : Trees) → FreshAccepts classes rs ts → inner_defines ts ≡ [] → UsesCounted ts (rows (fresh classes ts))

-- Demand 3. "Take any tree that the fresh run accepts, with no inner define and no set! of a parameter or let name that an inner lambda mentions. Run it
-- on a machine that finds parameters and let names only by the recorded references, depths and slots, and gives up a frame before its return only at
-- recorded tail calls" (`slots`); "and on the plain machine of document 01, which has R7RS's environments and no fact" (`plain`). "Then no read or
-- set! ever goes outside a frame. And for every number n, after n moments" the two are in step (`Lockstep`).
abbrev pub Demand3 : Type 0
Demand3 =
    (classes rs : List ℕ) (ts : Trees) → FreshAccepts classes rs ts → Premises ts
    → (n : ℕ) → let T = rows (fresh classes ts) in Lockstep ts T (slots ts T n) (plain ts n)

-- Refusals 9 to 12, "exact both ways", where no define is inner

abbrev pub NineExact : Type 0
NineExact = (classes rs : List ℕ) (ts : Trees) → Accepted (length classes) rs ts → inner_defines ts ≡ [] → (fresh classes ts).noted.nine ≡ nine_in (events ts)

abbrev pub TenExact : Type 0
TenExact =
    (classes rs : List ℕ) (ts : Trees) → Accepted (length classes) rs ts → inner_defines ts ≡ [] → (fresh classes ts).noted.nine ≡ None
    → (fresh classes ts).noted.ten ≡ ten_in (events ts)

abbrev pub SecondExact : Type 0
SecondExact =
    (classes rs : List ℕ) (ts : Trees) → FreshAccepts classes rs ts → inner_defines ts ≡ [] → (settled classes ts).noted.second ≡ second_in (events ts)

-- "Positions are carried and never consulted: trees that differ only there give equal rows but for positions."

abbrev pub PositionsCarried : Type 0
PositionsCarried =
    (classes : List ℕ) (ts us : Trees) → bares ts ≡ bares us → Same (fresh classes ts) (fresh classes us) × Same (settled classes ts) (settled classes us)

-- Order 7 of document 02: "Facts must equal those of the expanded tree, apart from records that the expansion added". The expansion has the nine forms
-- of document 01; both runs leave the same facts for it and note the same refusals, so none for an added record. Of every tree.

abbrev pub FactsExpanded : Type 0
FactsExpanded =
    (classes : List ℕ) (ts : Trees)
    → NineFormsIn (expands ts) × (fresh classes (expands ts) ≡ fresh classes ts) × (settled classes (expands ts) ≡ settled classes ts)

-- "Whether a define is inner, and what a call's head or a define's body is, is judged on the expansion": inner defines, mentions and what they mean, and
-- each call's record and whether it stands in tail position are those of the expansion. What a head or a body is shows in the facts.

abbrev pub JudgedExpanded : Type 0
JudgedExpanded =
    (ts : Trees)
    → (inner_defines (expands ts) ≡ inner_defines ts) × (events (expands ts) ≡ events ts) × (keys (calls_in (expands ts)) ≡ keys (calls_in ts))

-- "R7RS 4.2.1 gives their meaning": the plain machine on the tree as written and on its expansion end alike, or both stop, or neither ends (`RunAlike`)

abbrev pub RunsExpanded : Type 0
RunsExpanded = (ts : Trees) → RunAlike ts
