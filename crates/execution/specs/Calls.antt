-- Demand 2, tail position: a record has a call's fact exactly if it is a call whose head is no constant, and that fact is of a tail call, TailCall or
-- SelfTailCall, exactly if the call stands in tail position of the innermost lambda around it, as R7RS 3.5 has it (`calls`).
use Rattle.std.specs.Prelude.{ℕ, List, false, ◌≡◌, get_or}
use Rattle.tree.specs.Tree.{Trees}
use Rattle.tree.specs.Core.{is_constant}
use Rattle.tree.specs.Accepted.{All}
use Rattle.semantic.specs.Rows.{Row, Blank}
use Rattle.semantic.specs.Kinds.{is_call_site, is_tail_row}
use Rattle.r7rs.specs.Tail.{calls_in, has_fact}

pub record CallsRecorded (T : List Row) (ts : Trees) : Type 0 where
  -- the row at i is a call's fact exactly if i is the record of a call whose head is no constant
  pub fact : (i : ℕ) → is_call_site (get_or T i Blank) ≡ has_fact i (calls_in ts)
  -- that fact is of a tail call exactly if the call stands in tail position
  pub tail : All (λ c. is_constant c.head ≡ false → is_tail_row (get_or T c.at Blank) ≡ c.tail) (calls_in ts)
