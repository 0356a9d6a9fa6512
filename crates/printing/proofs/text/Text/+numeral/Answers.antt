-- `numeral`: the digits but the last, then the last.
use native.Mathlib.Omega.{arith}
use Rattle.printing.proofs.Write.{length_small, length_more, puts_digit, puts_more}
use Rattle.printing.proofs.text.Text.+numeral.Goals as goal

pub word-requires : goal.word-requires
word-requires t c = omega (arith, length_small c.args.n c.if-n-lt10.true)

pub returns-then-n-lt10-clause-puts : goal.returns-then-n-lt10-clause-puts
returns-then-n-lt10-clause-puts t c = puts_digit c.args.n c.if-n-lt10.true c.word.ensures.puts

pub returns-then-n-lt10-clause-long : goal.returns-then-n-lt10-clause-long
returns-then-n-lt10-clause-long t c = omega (arith, length_small c.args.n c.if-n-lt10.true)

pub numeral-requires : goal.numeral-requires
numeral-requires t c = (omega arith, omega (arith, length_more c.args.n c.if-n-lt10.false))

pub word-requires-2 : goal.word-requires-2
word-requires-2 t c = omega (arith, length_more c.args.n c.if-n-lt10.false)

pub returns-clause-puts : goal.returns-clause-puts
returns-clause-puts t c = puts_more c.args.n c.if-n-lt10.false c.numeral.ensures.puts c.word-2.ensures.puts

pub returns-clause-long : goal.returns-clause-long
returns-clause-long t c = omega (arith, length_more c.args.n c.if-n-lt10.false)
