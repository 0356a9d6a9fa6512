-- `pair_line`: field after field.
use native.Mathlib.Omega.{arith}
use Rattle.std.proofs.Common.{rules}
use Rattle.printing.specs.Numeral.{numeral}
use Rattle.printing.specs.Text.{or_none}
use Rattle.printing.proofs.Write.{puts_then, puts_field, line_of}
use Rattle.printing.proofs.rows.pair_line.Goals as goal

pub returns : goal.returns
returns c =
    let o = c.args in
    line_of (search rules) (search rules) (omega arith)
    (puts_then c.number.ensures.puts
    (puts_field o.first.now (numeral o.n) c.number-2.ensures.puts
    (puts_field o.second.now (or_none o.m) c.option.ensures.puts c.word.ensures.puts)))
