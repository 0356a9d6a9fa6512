-- The claims on the names that are defined at top level, and on the depths of lambdas, hold.
use Rattle.std.specs.Prelude.{List, ◌≡◌, get_or, Some}
use Rattle.std.proofs.Common.{ap, ◌∙◌}
use Rattle.tree.specs.Tree.{Trees}
use Rattle.tree.specs.Define.{top_level}
use Rattle.tree.specs.Site.{lambdas_in}
use Rattle.tree.specs.Accepted.{All}
use Rattle.semantic.specs.Rows.{Row, Blank}
use Rattle.pass.specs.Run.{fresh, settled}
use Rattle.pass_laws.specs.Laws.All.{all_map}
use Rattle.pass_laws.specs.Laws.Defined.{Defined, fresh-defined, settled-defined}
use Rattle.pass_laws.specs.Laws.Depths.{MadeIn, fresh_makes, settled_makes}
use Rattle.r7rs.specs.Bottom.{defines_of}
use Rattle.execution.specs.References.{reference, reference_in, depth_in, LambdasMade, defined_name, DefinesNamed}
use Rattle.execution.specs.Claims.{DefinedFresh, DefinedSettled}

refer : (ts : Trees) (T : List Row) → All (λ d. Defined (get_or T d.name.at Blank)) (defines_of (top_level ts)) → DefinesNamed ts T
refer ts T =
    all_map (λ d. Defined (get_or T d.name.at Blank)) (λ d. reference_in (get_or T d.name.at Blank) ≡ Some defined_name)
    (λ d p. ap reference_in p.is ∙ (λ i. Some (reference (p.kind i) (p.refers i) (p.depth i) (p.slot i)))) (defines_of (top_level ts))

tell : (ts : Trees) (T : List Row) → All (MadeIn T) (lambdas_in ts 1) → LambdasMade ts T
tell ts T = all_map (MadeIn T) (λ l. depth_in (get_or T l.0 Blank) ≡ Some l.1) (λ l m. ap depth_in m.is ∙ ap Some m.depth) (lambdas_in ts 1)

pub defined-fresh : DefinedFresh
defined-fresh classes rs ts a =
    let T = (fresh classes ts).facts.rows in
    let n = a.accepted.num in
    let h = a.accepted.few in
    (refer ts T (fresh-defined classes ts n h), tell ts T (fresh_makes classes ts n h))

pub defined-settled : DefinedSettled
defined-settled classes rs ts a =
    let T = (settled classes ts).facts.rows in
    let n = a.accepted.num in
    let h = a.accepted.few in
    (refer ts T (settled-defined classes ts n h), tell ts T (settled_makes classes ts n h))
