-- `print_all` ends: each input leaves less.
use lib.ListN.{length}
use Rattle.listing_main.proofs.print_all.Given as goal

abbrev pub decreases-loop-rest : goal.decreases-loop-rest
decreases-loop-rest g l = length l.rest
