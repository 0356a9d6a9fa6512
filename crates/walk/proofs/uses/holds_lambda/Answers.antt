-- `holds_lambda`.
use Rattle.std.proofs.Common.{rules, refl, ◌≤◌, length, arith}
use Rattle.std.proofs.iter.Serving.{serving}
use Rattle.std.proofs.lemmas.Iterator.{YieldsList-from_range}
use Rattle.std.proofs.lemmas.Iterator.Search.{any_from_yields_List}
use Rattle.tree.specs.Record.{records}
use Rattle.tree.proofs.Laws.Stands.{tree_inside}
use Rattle.walk.proofs.Lambdas.{holds_any}
use Rattle.walk.proofs.uses.holds_lambda.Goals as goal

pub any-requires-clause-callable : goal.any-requires-clause-callable
any-requires-clause-callable c =
    let h : c.args.end ≤ length (records c.args.all.now) = omega (arith, tree_inside c.requires.stands, c.requires.ends) in
    grind serving

pub returns : goal.returns
returns c =
    let o = c.args in
    holds_any o.all.now o.first o.end c.requires (
    any_from_yields_List _ c.any.new.self _ c.any.result c.any.ensures.ran (YieldsList-from_range o.first o.end _ refl refl) (λ x b q h. (search rules, search rules)))
