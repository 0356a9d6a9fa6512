-- `known_children`: by the record's form and count.
use Rattle.tree.proofs.Laws.Form.{children_at}
use Rattle.tree.proofs.record.known_children.Goals as goal

pub known_children-requires : goal.known_children-requires
known_children-requires c = rw c.form.ensures c.requires.i_value

pub returns-clause-value : goal.returns-clause-value
returns-clause-value c = (children_at c.known_children.ensures c.form.ensures c.count.ensures c.count.type_inv).0

pub returns-clause-few : goal.returns-clause-few
returns-clause-few c = (children_at c.known_children.ensures c.form.ensures c.count.ensures c.count.type_inv).1
