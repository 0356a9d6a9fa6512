-- `number_rows`: what is left of the rows gives the whole.
use native.Mathlib.Omega.{arith}
use Rattle.amending.proofs.NumberCase.{rows_at, numbering_start, numbering_row, numbering_next, numbering_last}
use Rattle.amending.proofs.number.number_rows.Goals as goal

pub loop-k-init : goal.loop-k-init
loop-k-init c = record {
  few = omega arith;
  numbering = numbering_start (rows_at c.args.e c.wide-first.ensures c.wide-n.ensures c.requires.1);
}

pub number_row-requires : goal.number_row-requires
number_row-requires c =
    (numbering_row c.loop-k.invariant.numbering c.loop-k-test.true (omega (arith, c.requires.0)), omega arith)

pub loop-k-preserved : goal.loop-k-preserved
loop-k-preserved c = record {
  few = omega (arith, c.number_row.ensures.few);
  numbering = numbering_next c.loop-k.invariant.numbering c.loop-k-test.true (omega (arith, c.requires.0)) c.number_row.ensures.numbers_row;
}

pub returns : goal.returns
returns c = numbering_last c.loop-k.invariant.numbering c.loop-k-test.false c.args.e c.wide-first.ensures c.wide-n.ensures
