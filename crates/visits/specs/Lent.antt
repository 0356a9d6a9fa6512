-- What a visit is lent, and what that holds where the visit begins and where it ends.
use Rattle.std.specs.Prelude.{ℕ, List, ◌≡◌}
use Rattle.std.specs.Borrow.{Bor, MutBor}
use denote.Triple.Both.{Both}
use Rattle.tree.specs.Record.{nth}
use Rattle.work.specs.Tied.{Raw, raw}
use Rattle.visits.specs.declared.AnalysisPass.{AnalysisPass}
use Rattle.visits.specs.declared.Script.{Script}

abbrev pub Slice : Type 0
Slice = Bor (List ℕ)

abbrev pub MutSlice : Type 0
MutSlice = MutBor (List ℕ)

-- from a function's entry to its exit
abbrev pub Loan : Type 0 → Type 0
Loan X = Both X X

abbrev pub raw_of : AnalysisPass → Raw
raw_of a = raw a.pass a.facts.now a.captured.now a.arguments.now a.work.now

-- which tables are lent
abbrev pub tables : AnalysisPass → ℕ × ℕ × ℕ × ℕ
tables a = (a.facts.ghost_name, a.captured.ghost_name, a.arguments.ghost_name, a.work.ghost_name)

pub record Lent : Type 0 where
  pub classes : List ℕ
  pub rs : List ℕ
  pub raw : Raw
  pub tables : ℕ × ℕ × ℕ × ℕ

abbrev pub lent : Bor Script → MutBor AnalysisPass → Lent
lent s a = record { classes = s.now.classes.now; rs = s.now.all.now; raw = raw_of a.now; tables = tables a.now }

abbrev pub loan : Loan (Bor Script) → Loan (MutBor AnalysisPass) → Loan Lent
loan s a = record { entry = lent s.entry a.entry; exit = lent s.exit a.exit }

-- A visit keeps the tables that it is lent, so whoever lends one has it back
abbrev pub Kept : Loan Lent → Type 0
Kept l = l.exit.tables ≡ l.entry.tables

abbrev pub form_at : Bor Script → ℕ → ℕ
form_at s at = (nth s.now.all.now at).form
