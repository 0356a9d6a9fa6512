-- `is_blank`: the row's first number tells.
use mathlib.Core.Path.{refl}
use Rattle.semantic.specs.Laws.Kinds.{blank-told}
use Rattle.semantic.proofs.kinds.is_blank.Goals as goal

pub returns : goal.returns
returns c = blank-told _ _ refl
