-- `new`: a column after another.
use Rattle.std.proofs.Common.{◌-◌, rules}
use Rattle.std.proofs.iter.Serving.{serving}
use Rattle.std.proofs.lemmas.List.FromFn.{fill_by_all}
use Rattle.tree.specs.Form.{form_of, names_of, others_of, children_of}
use Rattle.tree.proofs.Laws.Form.{more-names, more_children}
use Rattle.scans.specs.Limits.{limits}
use Rattle.scans.proofs.limits.Limits.new.Goals as goal

pub from_fn-requires-2 : goal.from_fn-requires-2
from_fn-requires-2 c = grind (serving, more-names)

pub from_fn-requires-4 : goal.from_fn-requires-4
from_fn-requires-4 c = grind (serving, more_children)

pub returns : goal.returns
unfolding limits form_of names_of others_of children_of
returns c =
    let a = c.from_fn.ensures.items in
    let b = c.from_fn-2.ensures.items in
    let d = c.from_fn-3.ensures.items in
    let e = c.from_fn-4.ensures.items in
    rw (
      fill_by_all (λ f. children_of f 1 - children_of f 0) _ 13 0 e.long (λ i h. let k = (e.at i 0 h).2 in search rules),
      fill_by_all (λ f. children_of f 0) _ 13 0 d.long (λ i h. let k = (d.at i 0 h).2 in search rules),
      fill_by_all (λ f. names_of f 1 - names_of f 0) _ 13 0 b.long (λ i h. let k = (b.at i 0 h).2 in search rules),
      fill_by_all (λ f. names_of f 0) _ 13 0 a.long (λ i h. let k = (a.at i 0 h).2 in search rules),
      c.id_column-2.ensures,
      c.id_column.ensures,
    )
