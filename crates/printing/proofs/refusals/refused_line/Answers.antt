-- `refused_line`: field after field.
use native.Mathlib.Omega.{arith}
use Rattle.std.proofs.Common.{rules}
use Rattle.printing.specs.Text.{refused_text}
use Rattle.printing.proofs.Write.{puts_then, line_of}
use Rattle.printing.proofs.refusals.refused_line.Goals as goal

pub returns : goal.returns
unfolding refused_text
returns c = line_of (search rules) (search rules) (omega arith) (puts_then c.number.ensures.puts (puts_then c.number-2.ensures.puts c.word.ensures.puts))
