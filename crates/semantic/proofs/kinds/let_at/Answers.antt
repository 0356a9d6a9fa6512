-- `let_at`: the row's first number tells a let's.
use Rattle.semantic.specs.Kinds.{let_in}
use Rattle.semantic.specs.Decode.{let_of}
use Rattle.semantic.specs.Laws.Decode.{let_back}
use Rattle.semantic.proofs.RowCase.{found, not_found}
use Rattle.semantic.proofs.kinds.let_at.Goals as goal

pub returns-then-facts-at-ne-LET : goal.returns-then-facts-at-ne-LET
returns-then-facts-at-ne-LET c = not_found _ _ 9 let_of let_in let_back c.if-facts-at-ne-LET.true

pub returns : goal.returns
returns c = found _ _ 9 let_of let_in let_back c.if-facts-at-ne-LET.false c.row_at-row.ensures
