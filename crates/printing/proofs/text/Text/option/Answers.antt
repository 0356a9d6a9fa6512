-- `option`: the mark, then `-` or a number.
use Rattle.printing.proofs.Write.{puts_none, puts_some}
use Rattle.printing.proofs.text.Text.option.Goals as goal

pub returns-then-n-eq-NONE-clause-puts : goal.returns-then-n-eq-NONE-clause-puts
returns-then-n-eq-NONE-clause-puts c = puts_none c.args.n c.if-n-eq-NONE.true c.word.ensures.puts c.word-then-n-eq-NONE.ensures.puts

pub returns-clause-puts : goal.returns-clause-puts
returns-clause-puts c = puts_some c.args.mark.now c.args.n c.if-n-eq-NONE.false c.number.ensures.puts
