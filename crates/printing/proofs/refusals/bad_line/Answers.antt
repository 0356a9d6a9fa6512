-- `bad_line`: field after field.
use native.Mathlib.Omega.{arith}
use Rattle.std.proofs.Common.{rules}
use Rattle.printing.specs.Text.{bad_text}
use Rattle.printing.proofs.Write.{puts_then, line_of}
use Rattle.printing.proofs.refusals.bad_line.Goals as goal

pub returns : goal.returns
unfolding bad_text
returns c = line_of (search rules) (search rules) (omega arith) (puts_then c.number.ensures.puts c.word.ensures.puts)
