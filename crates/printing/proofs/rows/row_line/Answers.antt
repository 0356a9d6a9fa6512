-- `row_line`: the row's kind chooses the line.
use native.Mathlib.Omega.{arith}
use mathlib.Core.List.{[]}
use mathlib.Core.Path.{refl}
use Rattle.printing.specs.Numbers.{text_of}
use Rattle.printing.proofs.Told.{row_told}
use Rattle.printing.proofs.rows.row_line.Goals as goal

pub returns-in-Blank-clause-tells : goal.returns-in-Blank-clause-tells
unfolding text_of
returns-in-Blank-clause-tells c =
    row_told {d = []} {r = 0} c.row_at-row.ensures c.row_kind-kind.ensures c.in-Blank.is (record { text = refl; short = omega arith })

pub returns-in-Variable-clause-tells : goal.returns-in-Variable-clause-tells
unfolding text_of
returns-in-Variable-clause-tells c = row_told c.row_at-row.ensures c.row_kind-kind.ensures c.in-Variable.is c.variable_line.ensures

pub returns-in-Function-clause-tells : goal.returns-in-Function-clause-tells
unfolding text_of
returns-in-Function-clause-tells c = row_told c.row_at-row.ensures c.row_kind-kind.ensures c.in-Function.is c.function_line.ensures

pub returns-in-CallSite-clause-tells : goal.returns-in-CallSite-clause-tells
unfolding text_of
returns-in-CallSite-clause-tells c = row_told c.row_at-row.ensures c.row_kind-kind.ensures c.in-CallSite.is c.pair_line.ensures

pub returns-in-Let-clause-tells : goal.returns-in-Let-clause-tells
unfolding text_of
returns-in-Let-clause-tells c = row_told c.row_at-row.ensures c.row_kind-kind.ensures c.in-Let.is c.pair_line-in-Let.ensures
