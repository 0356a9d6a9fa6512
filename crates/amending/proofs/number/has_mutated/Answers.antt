-- `has_mutated`.
use Rattle.amending.proofs.MutatedCase.{passed_start, passed-next, passed_found, passed-all}
use Rattle.amending.proofs.number.has_mutated.Goals as goal

pub loop-k-init : goal.loop-k-init
loop-k-init c = passed_start

pub returns-then-load_list_entry : goal.returns-then-load_list_entry
returns-then-load_list_entry c =
    passed_found c.loop-k.invariant c.args.e c.wide-first.ensures c.wide-n.ensures c.loop-k-test.true c.load_list_entry.ensures c.if-load_list_entry.true

pub loop-k-preserved : goal.loop-k-preserved
loop-k-preserved c = passed-next c.loop-k.invariant c.loop-k-test.true c.load_list_entry.ensures c.if-load_list_entry.false

pub returns : goal.returns
returns c = passed-all c.loop-k.invariant c.args.e c.wide-first.ensures c.wide-n.ensures c.loop-k-test.false
