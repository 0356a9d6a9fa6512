-- `row_kind`: the row's first number tells.
use mathlib.Core.Path.{sym, ap}
use Prim.Native.Nat.{◌*◌}
use native.Mathlib.Omega.{arith}
use lib.ListN.{get_or}
use Rattle.semantic.specs.Rows.{row_width}
use Rattle.semantic.specs.Laws.Kinds.{kind_told, low_kind, high_kind}
use Rattle.semantic.specs.Kinds.{kind_of}
use Rattle.semantic.proofs.kinds.row_kind.Goals as goal

pub returns-in-0 : goal.returns-in-0
returns-in-0 c = kind_told _ _ (sym (ap kind_of c.in-0.is))

pub returns-in-8 : goal.returns-in-8
returns-in-8 c = kind_told _ _ (sym (ap kind_of c.in-8.is))

pub returns-in-9 : goal.returns-in-9
returns-in-9 c = kind_told _ _ (sym (ap kind_of c.in-9.is))

pub returns-in-1-to-7 : goal.returns-in-1-to-7
returns-in-1-to-7 c =
    let n = get_or c.args.facts.now (row_width * c.args.at) 0 in
    kind_told _ _ (sym (low_kind n (record { some = omega arith; below = omega arith })))

pub returns-in_default : goal.returns-in_default
returns-in_default c =
    let n = get_or c.args.facts.now (row_width * c.args.at) 0 in
    kind_told _ _ (sym (high_kind n (omega arith) (omega arith) (omega arith)))
