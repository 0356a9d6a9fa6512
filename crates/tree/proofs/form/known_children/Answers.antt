-- `known_children`: a form that is known is in the columns.
use mathlib.Core.Path.{◌∙◌}
use Rattle.tree.proofs.Laws.Form.{known_most}
use Rattle.tree.proofs.Counting.{counts_children}
use Rattle.tree.proofs.form.known_children.Goals as goal

pub of-requires : goal.of-requires
of-requires c = known_most _ c.requires

pub returns : goal.returns
returns c = c.of.ensures ∙ counts_children _ _ (known_most _ c.requires)
