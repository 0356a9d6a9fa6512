-- `after_top_define`: the context of a lambda define ends.
use mathlib.Core.Bool.{Bool}
use mathlib.Core.Path.{◌≡◌, ap, sym, ◌∙◌}
use Rattle.visits.specs.Tops.{leaves_top}
use Rattle.visits.proofs.run.after_top_define.Goals.{Start}
use Rattle.visits.proofs.run.after_top_define.Goals as goal

-- once it is known what was defined
left : (c : Start) {l : Bool} → c.args.lambda ≡ l → leaves_top l c.args.p.now ≡ leaves_top c.args.lambda c.args.p.now
left c e = ap (λ (l : Bool). leaves_top l c.args.p.now) (sym e)

pub returns-then-lambda : goal.returns-then-lambda
returns-then-lambda c = left (goal.at.returns-then-lambda c).Start c.if-lambda.true

pub returns-else-lambda : goal.returns-else-lambda
returns-else-lambda c = left (goal.at.returns-else-lambda c).Start c.if-lambda.false
