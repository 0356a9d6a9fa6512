-- What the functions over the top level promise: of every tree there, and of every accepted row of trees.
use Rattle.std.specs.Prelude.{ℕ, ◌*◌, List, Bool, true, false, cond, ◌≡◌, length, drop}
use Rattle.std.specs.Borrow.{Bor, MutBor}
use Rattle.tree.specs.Record.{width}
use Rattle.tree.specs.Tree.{Ident, Node, Tree, Trees, define, many, size, sizes}
use Rattle.tree.specs.Core.{core}
use Rattle.tree.specs.Define.{top_of, top_level}
use Rattle.tree.specs.Stands.{Stands}
use Rattle.tree.specs.Accepted.{Accepted}
use Rattle.tree.specs.Starts.{TellsStarts}
use Rattle.semantic.specs.Information.{NONE}
use Rattle.semantic.specs.declared.IdentifierStatus.TheVariants.{Global}
use Rattle.pass.specs.State.{State, with_context}
use Rattle.pass.specs.Read.{enter_top_level_value}
use Rattle.pass.specs.Visit.{top_flags, is_lambda, enter_children, visit_top, visit_tops}
use Rattle.pass_laws.specs.Visitable.{Visitable, VisitableTops, EnterableTops}
use Rattle.work.specs.Known.{Known}
use Rattle.work.specs.Tied.{Raw, raw, Tied, Fits}
use Rattle.work.specs.Passes.{in_context}
use Rattle.work.specs.declared.Pass.{Pass}
use Rattle.walk.specs.Contract.{body_of}
use Rattle.walk.specs.declared.body.Body.{Body}
use Rattle.names.specs.Contract.{NamesRoom}
use Rattle.forms.specs.Contract.{DefineFits}
use Rattle.visits.specs.Lent.{Slice, MutSlice, Loan, Lent, Kept}
use Rattle.visits.specs.declared.Script.{Script}

-- Names enter

-- a tree stands at the record; as many names as it has trees at top level have room. What the function is not lent is any table
pub record TopEnters (N : ℕ) (rs : List ℕ) (at : ℕ) (p : Pass) (F w : List ℕ) : Type 0 where
  pub captured : List ℕ
  pub arguments : List ℕ
  pub t : Tree
  pub s : State
  pub stands : Stands N rs at t
  pub fits : Fits rs (raw p F captured arguments w) s
  pub room : NamesRoom p (many (top_of (core t)))

pub record EntersTop (classes rs : List ℕ) (at : ℕ) (p : Pass) (F w : List ℕ) (p' : Pass) (F' w' : List ℕ) : Type 0 where
  pub is : (C A : List ℕ) (s : State) (t : Tree) → Stands (length classes) rs at t → Fits rs (raw p F C A w) s
      → Tied (raw p' F' C A w') (enter_children classes Global (top_of (core t)) s)

-- accepted trees, whose lambda defines at top level are still to enter
pub record TopsEnter (classes rs : List ℕ) (p : Pass) (F w : List ℕ) : Type 0 where
  pub captured : List ℕ
  pub arguments : List ℕ
  pub ts : Trees
  pub s : State
  pub accepted : Accepted (length classes) rs ts
  pub tied : Tied (raw p F captured arguments w) s
  pub fits : EnterableTops (Known rs) (top_level ts) s

pub record EntersTops (classes rs : List ℕ) (p : Pass) (F w : List ℕ) (p' : Pass) (F' w' : List ℕ) : Type 0 where
  pub is : (x : TopsEnter classes rs p F w) → Tied (raw p' F' x.captured x.arguments w') (enter_children classes Global (top_level x.ts) x.s)

-- A define, before its body and after it

abbrev pub before_top : List ℕ → Bool → Ident → Tree → State → State
before_top classes true x b s = with_context x.id s
before_top classes false x b s = enter_top_level_value classes x b s

abbrev pub after_top : Bool → State → State
after_top true s = with_context NONE s
after_top false s = s

pub record BeforeTop (rs : List ℕ) (at : ℕ) (b : Body) (p : Pass) (F w : List ℕ) (p' : Pass) (F' w' : List ℕ) : Type 0 where
  pub is : (classes C A : List ℕ) (s : State) (n : Node) (x : Ident) (t : Tree) → Stands (length classes) rs at (define n x t) → b ≡ body_of classes t
      → Fits rs (raw p F C A w) s → Tied (raw p' F' C A w') (before_top classes (is_lambda t) x t s)

abbrev pub leaves_top : Bool → Pass → Pass
leaves_top lambda p = cond lambda (in_context NONE p) p

-- A tree stands at the record, where the part starts, and can be visited at top level

pub record TopFits (classes rs part : List ℕ) (at : ℕ) (z : Raw) : Type 0 where
  pub t : Tree
  pub s : State
  pub is : part ≡ drop (width * at) rs
  pub stands : Stands (length classes) rs at t
  pub tied : Tied z s
  pub fits : Visitable (Known rs) at t top_flags s

pub record VisitsTop (classes rs part : List ℕ) (at : ℕ) (z : Raw) (n : ℕ) (z' : Raw) : Type 0 where
  pub used : (x : TopFits classes rs part at z) → n ≡ size x.t
  pub state : (x : TopFits classes rs part at z) → Tied z' (visit_top classes x.t x.s)

-- Accepted trees, whose lambda defines at top level have entered

pub record TopsFit (classes rs : List ℕ) (z : Raw) : Type 0 where
  pub ts : Trees
  pub s : State
  pub accepted : Accepted (length classes) rs ts
  pub tied : Tied z s
  pub fits : VisitableTops (Known rs) 0 (sizes ts) (top_level ts) s

pub record VisitsTops (classes rs : List ℕ) (z z' : Raw) : Type 0 where
  pub is : (x : TopsFit classes rs z) → Tied z' (visit_tops classes (top_level x.ts) x.s)

-- The same of what is lent

abbrev pub MayEnterTop : Bor Script → ℕ → MutBor Pass → (facts work : MutSlice) → Type 0
MayEnterTop s at p f w = TopEnters (length s.now.classes.now) s.now.all.now at p.now f.now w.now

abbrev pub HasEnteredTop : Loan (Bor Script) → ℕ → Loan (MutBor Pass) → (facts work : Loan MutSlice) → Type 0
HasEnteredTop s at p f w =
    EntersTop s.entry.now.classes.now s.entry.now.all.now at p.entry.now f.entry.now w.entry.now p.exit.now f.exit.now w.exit.now

abbrev pub MayEnterTops : Slice → Bor Script → MutBor Pass → (facts work : MutSlice) → Type 0
MayEnterTops tops s p f w =
    TellsStarts (length s.now.classes.now) s.now.all.now tops.now × TopsEnter s.now.classes.now s.now.all.now p.now f.now w.now

abbrev pub HasEnteredTops : Loan (Bor Script) → Loan (MutBor Pass) → (facts work : Loan MutSlice) → Type 0
HasEnteredTops s p f w =
    EntersTops s.entry.now.classes.now s.entry.now.all.now p.entry.now f.entry.now w.entry.now p.exit.now f.exit.now w.exit.now

abbrev pub MayBeginTop : Bor Script → ℕ → MutBor Pass → (facts work : MutSlice) → Type 0
MayBeginTop s at p f w = DefineFits s.now.all.now at p.now f.now w.now

abbrev pub HasBegunTop : Loan (Bor Script) → ℕ → Body → Loan (MutBor Pass) → (facts work : Loan MutSlice) → Type 0
HasBegunTop s at b p f w = BeforeTop s.entry.now.all.now at b p.entry.now f.entry.now w.entry.now p.exit.now f.exit.now w.exit.now

abbrev pub MayVisitTop : Lent → Slice → ℕ → Type 0
MayVisitTop l part at = TopFits l.classes l.rs part.now at l.raw

abbrev pub HasVisitedTop : Loan Lent → Loan Slice → ℕ → ℕ → Type 0
HasVisitedTop l part at n = VisitsTop l.entry.classes l.entry.rs part.entry.now at l.entry.raw n l.exit.raw × Kept l

abbrev pub MayVisitTops : Lent → Type 0
MayVisitTops l = TopsFit l.classes l.rs l.raw

abbrev pub HasVisitedTops : Loan Lent → Type 0
HasVisitedTops l = VisitsTops l.entry.classes l.entry.rs l.entry.raw l.exit.raw × Kept l
