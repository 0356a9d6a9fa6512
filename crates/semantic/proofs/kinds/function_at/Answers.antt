-- `function_at`: the row's first number tells a lambda's.
use Rattle.semantic.specs.Kinds.{function_in}
use Rattle.semantic.specs.Decode.{function_of}
use Rattle.semantic.specs.Laws.Decode.{function_back}
use Rattle.semantic.proofs.RowCase.{found, not_found}
use Rattle.semantic.proofs.kinds.function_at.Goals as goal

pub returns-then-facts-at-ne-FUNCTION : goal.returns-then-facts-at-ne-FUNCTION
returns-then-facts-at-ne-FUNCTION c = not_found _ _ 8 function_of function_in function_back c.if-facts-at-ne-FUNCTION.true

pub returns : goal.returns
returns c = found _ _ 8 function_of function_in function_back c.if-facts-at-ne-FUNCTION.false c.row_at-row.ensures
