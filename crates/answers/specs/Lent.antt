-- What lent tables hold, and which tables they are.
use Rattle.std.specs.Prelude.{◌≡◌, length, Result}
use Rattle.pass.specs.Run.{Tables, Outcome}
use Rattle.answers.specs.declared.Refusal.{Refusal}
use Rattle.answers.specs.declared.Tables.{Tables as Lent}
use Rattle.answers.specs.Answer.{tables, outcome_of}

abbrev pub held : Lent → Tables
held t = tables t.facts.now t.captured.now t.arguments.now t.work.now

-- an answer and what it leaves
abbrev pub outcome_in : Result (Unit {0}) Refusal → Lent → Outcome
outcome_in r t = outcome_of r t.facts.now t.captured.now t.arguments.now t.work.now

-- the same tables, so that whoever lends them has them back, as long as they were
pub record Same (s t : Lent) : Type 0 where
  pub facts : t.facts.ghost_name ≡ s.facts.ghost_name
  pub captured : t.captured.ghost_name ≡ s.captured.ghost_name
  pub arguments : t.arguments.ghost_name ≡ s.arguments.ghost_name
  pub work : t.work.ghost_name ≡ s.work.ghost_name
  pub facts_long : length t.facts.now ≡ length s.facts.now
  pub captured_long : length t.captured.now ≡ length s.captured.now
  pub arguments_long : length t.arguments.now ≡ length s.arguments.now
  pub work_long : length t.work.now ≡ length s.work.now
