-- What holds at places of `visit_begin`.
use Prim.Native.Nat.{ℕ, ◌+◌}
use Rattle.visits.specs.Lent.{raw_of}
use Rattle.tree.specs.Record.{nth}
use Rattle.visits.proofs.SequenceCase as sequence_case
use Rattle.visits.proofs.Views.{own_field}
use Rattle.visits.specs.Contract.{Done}
use mathlib.Core.Path.{◌∙◌, ◌≡◌}
use Rattle.visits.proofs.AnalysisPass.+visits.Goals.{visit_begin-After-visit_children-a, visit_begin-After-wide-count}

pub counts : (t : ℕ) (c : visit_begin-After-wide-count t) → c.wide-count.result ≡ (nth c.args.s.now.all.now c.args.at).count
counts t c =
    c.wide-count.ensures ∙ own_field c.requires.0 (λ r. r.count) c.count.ensures

pub done : (t : ℕ) (c : visit_begin-After-visit_children-a t) → let a = c.args in
    Done a.s.now.classes.now a.s.now.all.now a.rs.now a.at a.f (raw_of a.self.now)
    (1 + c.visit_children-a.result) (raw_of c.visit_children-a.new.self)
done t c =
    let counts : c.wide-count.result ≡ (nth c.args.s.now.all.now c.args.at).count =
    c.wide-count.ensures ∙ own_field c.requires.0 (λ r. r.count) c.count.ensures in
    sequence_case.begin_done c.requires.1 counts c.enter_defines.ensures c.part.ensures c.part_at.ensures c.visit_children-a.ensures.0
