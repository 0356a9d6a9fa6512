-- `visit_top_define`: before the body, the body, after it.
use native.Mathlib.Omega.{arith}
use Rattle.visits.proofs.TopDefineCase.{long, body_tree, define-fits, body-fits, used_few, define_done}
use Rattle.visits.proofs.AnalysisPass.visit_top_define.Goals as goal

-- the places that are looked back to, each from the one after it

pub body_at-b-requires : goal.body_at-b-requires
body_at-b-requires c = let start = c in body_tree start.requires.1 start.requires.0

pub before_top_define-requires : goal.before_top_define-requires
before_top_define-requires c = let start = c in define-fits start.requires.1 start.requires.0

pub part_at-p-requires : goal.part_at-p-requires
part_at-p-requires c = let start = c in long start.requires.1 start.requires.0

pub visit_body-o-requires : goal.visit_body-o-requires
visit_body-o-requires c =
    let handed = c in
    let cut = handed in
    let entered = cut in
    let told = entered in
    let start = told in
    body-fits start.requires.1 told.body_at-b.ensures entered.before_top_define.ensures handed.top-f.ensures
    cut.part_at-p.ensures start.requires.0

pub overflow_add-result : goal.overflow_add-result
overflow_add-result c =
    let visited = c in
    let handed = visited in
    let cut = handed in
    let entered = cut in
    let told = entered in
    let start = told in
    let u =
    used_few start.requires.1 told.body_at-b.ensures entered.before_top_define.ensures handed.top-f.ensures
    cut.part_at-p.ensures visited.visit_body-o.ensures.0.used start.requires.0 in
    omega (arith, u)

pub returns : goal.returns
returns c =
    let visited = c in
    let handed = visited in
    let cut = handed in
    let entered = cut in
    let told = entered in
    let start = told in
    let done =
    define_done start.requires.1 told.body_at-b.ensures entered.before_top_define.ensures handed.top-f.ensures
    cut.part_at-p.ensures visited.visit_body-o.ensures.0 c.after_top_define.ensures in
    (done, visited.visit_body-o.ensures.1)
