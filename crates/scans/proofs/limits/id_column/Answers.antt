-- `id_column`: a limit for each form, and the one given for form 0.
use Rattle.std.proofs.Common.{List, ℕ, rules, ap}
use Rattle.std.proofs.lemmas.List.FromFn.{fill_by_all}
use lib.ListN.{set}
use Rattle.tree.specs.Form.{form_of}
use Rattle.scans.specs.Limits.{id_limit}
use Rattle.scans.proofs.limits.id_column.Goals as goal

pub returns : goal.returns
unfolding form_of
returns c =
    let made = c.from_fn-column.ensures.items in
    ap (λ (l : List ℕ). set l 0 c.args.none) (fill_by_all (id_limit c.args.limit) _ 13 0 made.long (λ i h. let k = (made.at i 0 h).2 in search rules))
