-- `clear_list_entries`: the rows from `first` up to r have no binder.
use Rattle.amending.proofs.ClearCase.{Unbound}
use Rattle.amending.proofs.amend.clear_list_entries.Given as goal

abbrev pub invariant-loop-r : goal.invariant-loop-r
invariant-loop-r l = Unbound l.initial.work l.first l.r l.work
