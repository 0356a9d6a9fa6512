-- `holds`.
use Rattle.std.proofs.Common.{rules, ◌+◌, ◌≤◌, length, eqb, arith}
use Rattle.std.proofs.iter.Serving.{serving}
use Rattle.std.proofs.lemmas.Iterator.{YieldsList-from_range}
use Rattle.std.proofs.lemmas.Iterator.Search.{any_from_yields_List}
use Rattle.tree.specs.Record.{records, nth}
use Rattle.walk.proofs.Names.{inside, holds_any}
use Rattle.walk.proofs.uses.holds.Goals as goal

pub any-requires-clause-callable : goal.any-requires-clause-callable
any-requires-clause-callable c =
    let h : c.args.names.first + c.args.names.count ≤ length (records c.args.all.now) = inside c.requires in
    grind serving

pub returns : goal.returns
returns c =
    let o = c.args in
    let n = o.names in
    holds_any o.x o.all.now n c.requires (
    any_from_yields_List (λ i. eqb o.x (nth o.all.now i).name) c.any.new.self _ c.any.result c.any.ensures.ran
    (YieldsList-from_range n.first (n.first + n.count) n.count c.records.ensures (omega arith))
    (λ x b q h. (search rules, search rules)))
