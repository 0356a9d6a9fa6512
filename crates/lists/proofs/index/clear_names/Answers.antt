-- `clear_names`: the names from the i-th on are left.
use native.Mathlib.Omega.{arith}
use mathlib.Core.Path.{◌∙◌}
use lib.ListN.{length-map}
use Rattle.tree.specs.Tree.{named}
use Rattle.tree.proofs.Laws.Stands.{names-inside}
use Rattle.lists.proofs.IndexCase.{clear_start, clear_next, clear_last}
use Rattle.lists.proofs.index.clear_names.Goals as goal

pub loop-i-init : goal.loop-i-init
loop-i-init c = clear_start

pub overflow_add-names : goal.overflow_add-names
overflow_add-names c = omega (arith, names-inside c.requires.stand, c.requires.many, length-map c.requires.xs named)

pub name-requires : goal.name-requires
name-requires c = omega (arith, names-inside c.requires.stand, c.requires.many, length-map c.requires.xs named)

pub loop-i-preserved : goal.loop-i-preserved
loop-i-preserved c = clear_next c.loop-i.invariant (c.wide.ensures ∙ c.name.ensures) c.loop-i-test.true c.clear_name.ensures c.clear_name.auto.index

pub returns : goal.returns
returns c = clear_last c.loop-i.invariant c.loop-i-test.false
