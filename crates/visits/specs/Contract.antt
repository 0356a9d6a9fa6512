-- What the visits promise, of every tree and every state that fit.
use Rattle.std.specs.Prelude.{ℕ, ◌*◌, ◌≤◌, List, ◌≡◌, length, drop}
use Rattle.tree.specs.Record.{width}
use Rattle.tree.specs.Tree.{Ident, Tree, Trees, many, size, sizes}
use Rattle.tree.specs.Stands.{Stands, StandAll}
use Rattle.pass.specs.State.{State}
use Rattle.pass.specs.Visit.{Flags, visit, visit_arguments, visit_children}
use Rattle.pass_laws.specs.Visitable.{Visitable, VisitableArguments, VisitableChildren}
use Rattle.work.specs.Known.{Known}
use Rattle.work.specs.Tied.{Raw, Tied}
use Rattle.flags.specs.Flags.{FlagsAre}
use Rattle.flags.specs.declared.Flags.{Flags as Coded}
use Rattle.visits.specs.Lent.{Slice, Loan, Lent, Kept}

-- a tree stands at the record, where the part starts, and can be visited in a state that is held
pub record Fit (classes rs part : List ℕ) (at : ℕ) (g : Coded) (z : Raw) : Type 0 where
  pub t : Tree
  pub f : Flags
  pub s : State
  pub is : part ≡ drop (width * at) rs
  pub stands : Stands (length classes) rs at t
  pub flags : FlagsAre g f
  pub tied : Tied z s
  pub fits : Visitable (Known rs) at t f s

pub record Done (classes rs part : List ℕ) (at : ℕ) (g : Coded) (z : Raw) (n : ℕ) (z' : Raw) : Type 0 where
  pub used : (x : Fit classes rs part at g z) → n ≡ size x.t
  pub state : (x : Fit classes rs part at g z) → Tied z' (visit classes x.t x.f x.s)

-- trees in a row: arguments or initial expressions, each of which pushes a value, and children
pub data Row : Type 0 where
  values : Row
  children : Row

abbrev pub visit_row : Row → List ℕ → Trees → Flags → State → State
visit_row values = visit_arguments
visit_row children = visit_children

abbrev pub VisitableRow : Row → (Ident → Type 0) → ℕ → Trees → Flags → State → Type 0
VisitableRow values = VisitableArguments
VisitableRow children = VisitableChildren

-- k of them
pub record FitRow (row : Row) (classes rs part : List ℕ) (k at : ℕ) (g : Coded) (z : Raw) : Type 0 where
  pub ts : Trees
  pub f : Flags
  pub s : State
  pub is : part ≡ drop (width * at) rs
  pub stand : StandAll (length classes) rs at ts
  pub count : many ts ≡ k
  pub flags : FlagsAre g f
  pub tied : Tied z s
  pub fits : VisitableRow row (Known rs) at ts f s

pub record DoneRow (row : Row) (classes rs part : List ℕ) (k at : ℕ) (g : Coded) (z : Raw) (n : ℕ) (z' : Raw) : Type 0 where
  pub used : (x : FitRow row classes rs part k at g z) → n ≡ sizes x.ts
  pub state : (x : FitRow row classes rs part k at g z) → Tied z' (visit_row row classes x.ts x.f x.s)

-- the form of a when or an unless
abbrev pub IsWhen : ℕ → Type 0
IsWhen form = (11 ≤ form) × (form ≤ 12)

-- what a visit requires and ensures of what it is lent

abbrev pub MayVisit : Lent → Slice → ℕ → Coded → Type 0
MayVisit l part at g = Fit l.classes l.rs part.now at g l.raw

abbrev pub HasVisited : Loan Lent → Loan Slice → ℕ → Coded → ℕ → Type 0
HasVisited l part at g n = Done l.entry.classes l.entry.rs part.entry.now at g l.entry.raw n l.exit.raw × Kept l

abbrev pub MayVisitRow : Row → Lent → Slice → ℕ → ℕ → Coded → Type 0
MayVisitRow row l part k at g = FitRow row l.classes l.rs part.now k at g l.raw

abbrev pub HasVisitedRow : Row → Loan Lent → Loan Slice → ℕ → ℕ → Coded → ℕ → Type 0
HasVisitedRow row l part k at g n = DoneRow row l.entry.classes l.entry.rs part.entry.now k at g l.entry.raw n l.exit.raw × Kept l
