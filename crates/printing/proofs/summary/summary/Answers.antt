-- `summary`: its three fields, of the counts.
use native.Mathlib.Omega.{arith}
use Rattle.std.proofs.Common.{rules}
use Rattle.printing.proofs.Write.{puts_then, line_of}
use Rattle.printing.proofs.Told.{summed}
use Rattle.printing.proofs.summary.summary.Goals as goal

pub returns : goal.returns
returns c =
    summed c.args.facts.now c.count_calls-all.result c.count_calls-all.ensures c.percent.ensures
    (line_of (search rules) (search rules) (omega arith)
    (puts_then c.number.ensures.puts
    (puts_then c.number-2.ensures.puts (puts_then c.number-3.ensures.puts c.word.ensures.puts))))
