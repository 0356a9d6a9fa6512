-- `make_let`: the list, then the fact.
use native.Mathlib.Omega.{arith}
use Rattle.std.proofs.Common.{ap, not}
use Rattle.layers.proofs.LetEnds.{not_made, make-names, make-top, make_fact, let_made}
use Rattle.layers.proofs.lets.make_let.Goals as goal

pub returns-then-not-blank : goal.returns-then-not-blank
returns-then-not-blank c = not_made (ap not c.if-not-blank.true)

pub store_names-q-requires : goal.store_names-q-requires
store_names-q-requires c = make-names (ap not c.if-not-blank.false) c.requires

pub narrow-requires : goal.narrow-requires
narrow-requires c = omega (arith, make-top (ap not c.if-not-blank.false) c.requires)

pub narrow-requires-2 : goal.narrow-requires-2
narrow-requires-2 c = omega (arith, make-top (ap not c.if-not-blank.false) c.requires)

pub store-requires : goal.store-requires
store-requires c = make_fact c.requires

pub returns : goal.returns
returns c = let_made (ap not c.if-not-blank.false) c.requires.few c.store_names-q.ensures c.narrow.ensures c.narrow-2.ensures c.function_id.ensures c.new-fact.ensures c.store.ensures
