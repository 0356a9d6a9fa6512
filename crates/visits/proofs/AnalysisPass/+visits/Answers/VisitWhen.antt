-- What holds at places of `visit_when`.
use Prim.Native.Nat.{suc, ℕ, ◌+◌, ◌-◌, ◌≤◌}
use Rattle.visits.specs.Lent.{raw_of}
use Rattle.tree.specs.Record.{nth}
use Rattle.tree.specs.Tree.{size}
use Rattle.visits.proofs.Views.{own_field}
use Rattle.visits.proofs.WhenCase as when_case
use Rattle.visits.specs.Contract.{Done}
use mathlib.Core.Path.{◌∙◌, ◌≡◌}
use native.Mathlib.Omega.{arith}
use Rattle.visits.proofs.AnalysisPass.+visits.Goals.{visit_when-After-visit_children-b, visit_when-After-visit_part-a, visit_when-After-wide-k}

pub counts : (t : ℕ) (c : visit_when-After-wide-k t) → c.wide-k.result ≡ (nth c.args.s.now.all.now c.args.at).count
counts t c =
    c.wide-k.ensures ∙ own_field c.requires.0 (λ r. r.count) c.count.ensures

pub reach : (t : ℕ) (c : visit_when-After-visit_part-a t) → 1 + c.visit_part-a.result ≤ size c.requires.0.t
reach t c =
    when_case.test_long c.requires.1 c.parts.ensures.0 c.part_at-p.ensures c.visit_part-a.ensures.0 c.requires.0

pub many : (t : ℕ) (c : visit_when-After-wide-k t) → suc (c.wide-k.result - 1) ≡ (nth c.args.s.now.all.now c.args.at).count
many t c =
    let counts : c.wide-k.result ≡ (nth c.args.s.now.all.now c.args.at).count =
    c.wide-k.ensures ∙ own_field c.requires.0 (λ r. r.count) c.count.ensures in
    omega (arith, counts, (when_case.when_long c.requires.1 c.requires.0).1)

pub done : (t : ℕ) (c : visit_when-After-visit_children-b t) → let a = c.args in
    Done a.s.now.classes.now a.s.now.all.now a.rs.now a.at a.f (raw_of a.self.now)
    (1 + c.visit_part-a.result + c.visit_children-b.result) (raw_of c.visit_children-b.new.self)
done t c =
    let counts : c.wide-k.result ≡ (nth c.args.s.now.all.now c.args.at).count =
    c.wide-k.ensures ∙ own_field c.requires.0 (λ r. r.count) c.count.ensures in
    let many : suc (c.wide-k.result - 1) ≡ (nth c.args.s.now.all.now c.args.at).count =
    omega (arith, counts, (when_case.when_long c.requires.1 c.requires.0).1) in
    when_case.when_done c.requires.1 many c.parts.ensures.0 c.part_at-p.ensures c.visit_part-a.ensures.0 c.enter_defines.ensures
    c.parts.ensures.1 c.part_at.ensures c.visit_children-b.ensures.0
