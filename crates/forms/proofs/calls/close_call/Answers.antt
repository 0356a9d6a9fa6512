-- `close_call`: the arguments, then the call.
use Rattle.forms.proofs.CallsCase.{call_arguments, call_made, call_closes}
use Rattle.forms.proofs.calls.close_call.Goals as goal

pub mark_if_tail-requires : goal.mark_if_tail-requires
mark_if_tail-requires c = call_arguments _ _ _ _ _ _ _ c.requires

pub call_fact-requires : goal.call_fact-requires
call_fact-requires c = call_made _ _ _ _ _ _ _ c.mark_if_tail.ensures c.requires

pub returns : goal.returns
returns c = call_closes _ _ _ _ _ _ _ c.mark_if_tail.ensures c.is_tail-eligible.ensures c.call_fact.ensures
