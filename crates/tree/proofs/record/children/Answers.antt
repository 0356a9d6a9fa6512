-- `children`: by the record's form and count.
use Rattle.tree.proofs.Laws.Form.{children_at}
use Rattle.tree.proofs.record.children.Goals as goal

pub returns-clause-value : goal.returns-clause-value
returns-clause-value c = (children_at c.children.ensures c.form.ensures c.count.ensures c.count.type_inv).0

pub returns-clause-few : goal.returns-clause-few
returns-clause-few c = (children_at c.children.ensures c.form.ensures c.count.ensures c.count.type_inv).1
