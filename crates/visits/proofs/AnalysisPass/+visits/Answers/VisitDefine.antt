-- What holds at places of `visit_define`.
use Prim.Native.Nat.{ℕ, ◌+◌, ◌≤◌}
use Rattle.visits.specs.Lent.{raw_of}
use Rattle.work.specs.Tied.{raw}
use Rattle.tree.specs.Tree.{size}
use Rattle.visits.proofs.DefineCase as define_case
use Rattle.visits.specs.Contract.{Done}
use Rattle.visits.proofs.AnalysisPass.+visits.Goals.{visit_define-After-close_define, visit_define-Start}

pub first : (t : ℕ) (c : visit_define-Start t) → 3 ≤ size c.requires.0.t
first t c =
    define_case.define_long c.requires.1 c.requires.0

pub done : (t : ℕ) (c : visit_define-After-close_define t) → let o = c.args in
    Done o.s.now.classes.now o.s.now.all.now o.rs.now o.at o.f (raw_of o.self.now)
    (2 + c.visit_body-o.result) (raw c.close_define.new.p c.close_define.new.facts c.visit_body-o.new.self.captured.now c.visit_body-o.new.self.arguments.now c.close_define.new.work)
done t c =
    define_case.define_done c.requires.1 c.body_at-b.ensures c.open_define.ensures c.part-g.ensures
    c.part_at-p.ensures c.visit_body-o.ensures.0 c.close_define.ensures
