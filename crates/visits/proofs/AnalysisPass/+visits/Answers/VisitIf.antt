-- What holds at places of `visit_if`.
use Prim.Native.Nat.{ℕ, ◌+◌, ◌≤◌}
use Rattle.visits.specs.Lent.{raw_of}
use Rattle.tree.specs.Tree.{size}
use Rattle.visits.proofs.IfCase as if_case
use Rattle.visits.specs.Contract.{Done}
use Rattle.visits.proofs.AnalysisPass.+visits.Goals.{visit_if-After-visit_part-a, visit_if-After-visit_part-b, visit_if-After-visit_part-c, visit_if-Start}

pub first : (t : ℕ) (c : visit_if-Start t) → 4 ≤ size c.requires.0.t
first t c =
    if_case.if_long c.requires.1 c.requires.0

pub second : (t : ℕ) (c : visit_if-After-visit_part-a t) → c.visit_part-a.result + 3 ≤ size c.requires.0.t
second t c =
    if_case.then_long c.requires.1 c.part-h.ensures c.part_at-p.ensures c.visit_part-a.ensures.0 c.requires.0

pub third : (t : ℕ) (c : visit_if-After-visit_part-b t) → c.visit_part-a.result + c.visit_part-b.result + 2 ≤ size c.requires.0.t
third t c =
    if_case.else_long c.requires.1 c.part-h.ensures c.part-g.ensures c.part_at-p.ensures c.visit_part-a.ensures.0 c.part_at-p-2.ensures
    c.visit_part-b.ensures.0 c.requires.0

pub done : (t : ℕ) (c : visit_if-After-visit_part-c t) → let o = c.args in
    Done o.s.now.classes.now o.s.now.all.now o.rs.now o.at o.f (raw_of o.self.now)
    (1 + c.visit_part-a.result + c.visit_part-b.result + c.visit_part-c.result)
    (raw_of c.visit_part-c.new.self)
done t c =
    let k = c.part-g.ensures in
    if_case.if_done c.requires.1 c.part-h.ensures k c.part_at-p.ensures c.visit_part-a.ensures.0 c.part_at-p-2.ensures c.visit_part-b.ensures.0 k
    c.part_at-p-3.ensures c.visit_part-c.ensures.0
