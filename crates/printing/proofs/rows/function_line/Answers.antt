-- `function_line`: field after field.
use native.Mathlib.Omega.{arith}
use Rattle.std.proofs.Common.{rules}
use Rattle.printing.proofs.Write.{puts_then, line_of}
use Rattle.printing.proofs.rows.function_line.Goals as goal

pub returns : goal.returns
returns c =
    line_of (search rules) (search rules) (omega arith)
    (puts_then c.number.ensures.puts
    (puts_then c.number-2.ensures.puts
    (puts_then c.number-3.ensures.puts (puts_then c.number-4.ensures.puts c.word.ensures.puts))))
