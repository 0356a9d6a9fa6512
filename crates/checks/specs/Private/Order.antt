-- The checks in order: what is left of them once the first have passed.
use Rattle.std.specs.Prelude.{ℕ, List, Option, None}
use Rattle.tree.specs.Check.{Refusal, or_else, check3, check4, check5, check6, check7, check16, check8}

module _ (N : ℕ) (rs : List ℕ) where
  abbrev pub from8 : Option Refusal
  from8 = or_else 8 (check8 N rs) None

  abbrev pub from16 : Option Refusal
  from16 = or_else 16 (check16 N rs) from8

  abbrev pub from7 : Option Refusal
  from7 = or_else 7 (check7 N rs) from16

  abbrev pub from6 : Option Refusal
  from6 = or_else 6 (check6 N rs) from7

  abbrev pub from5 : Option Refusal
  from5 = or_else 5 (check5 N rs) from6

  abbrev pub from4 : Option Refusal
  from4 = or_else 4 (check4 N rs) from5

  abbrev pub from3 : Option Refusal
  from3 = or_else 3 (check3 N rs) from4
