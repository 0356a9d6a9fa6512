-- The refusal of a fresh run, by what was noted.
use Rattle.std.specs.Prelude.{Option}
use Rattle.tree.specs.Check.{Refusal}
use Rattle.pass.specs.Run.{nine_or, ten_at}
use Rattle.work.specs.declared.Pass.{Pass}

abbrev pub first_in : Pass → Option Refusal
first_in p = nine_or p.nine (ten_at p.ten)
