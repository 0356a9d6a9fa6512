-- What a run promises: of every accepted tree and every start that the tables hold.
use Rattle.std.specs.Prelude.{List, ◌≡◌, ℕ, length, None}
use Rattle.tree.specs.Tree.{Trees}
use Rattle.tree.specs.Accepted.{Accepted}
use Rattle.tree.specs.Starts.{TellsStarts}
use Rattle.pass.specs.State.{Facts}
use Rattle.pass.specs.Run.{no_facts, start, run, fresh, refused_first}
use Rattle.work.specs.Tied.{Raw, Tied}
use Rattle.visits.specs.Lent.{Slice, Loan, Lent, Kept}

-- the facts that a run may start with: none, or those of a fresh run that was not refused
pub data Starts (classes : List ℕ) (ts : Trees) (f : Facts) : Type 0 where
  anew : f ≡ no_facts → Starts classes ts f
  again : refused_first (fresh classes ts).noted ≡ None → f ≡ (fresh classes ts).facts → Starts classes ts f

-- accepted trees, and tables that hold the start of a run over them
pub record Ready (classes rs : List ℕ) (z : Raw) : Type 0 where
  pub ts : Trees
  pub facts : Facts
  pub accepted : Accepted (length classes) rs ts
  pub starts : Starts classes ts facts
  pub tied : Tied z (start facts)

pub record Runs (classes rs : List ℕ) (z z' : Raw) : Type 0 where
  pub is : (x : Ready classes rs z) → Tied z' (run classes x.ts x.facts)

-- The same of what is lent

abbrev pub MayRun : Slice → Lent → Type 0
MayRun tops l = TellsStarts (length l.classes) l.rs tops.now × Ready l.classes l.rs l.raw

abbrev pub HasRun : Loan Lent → Type 0
HasRun l = Runs l.entry.classes l.entry.rs l.entry.raw l.exit.raw × Kept l
