-- `number`: the mark, then at most 10 digits, or 20.
use native.Mathlib.Omega.{arith}
use Rattle.printing.specs.Laws.Numeral.{numeral-length}
use Rattle.printing.proofs.text.Text.number.Goals as goal

pub numeral-requires : goal.numeral-requires
numeral-requires c = grind (arith, numeral-length 9 c.args.n, numeral-length 19 c.args.n)

pub returns-clause-few : goal.returns-clause-few
returns-clause-few c = λ h. omega (arith, numeral-length 9 c.args.n)

pub returns-clause-most : goal.returns-clause-most
returns-clause-most c = omega (arith, numeral-length 19 c.args.n)
