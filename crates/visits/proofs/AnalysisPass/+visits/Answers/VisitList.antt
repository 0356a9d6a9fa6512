-- What holds at places of `visit_list`.
use Prim.Native.Nat.{suc, ℕ, ◌+◌, ◌-◌, ◌≤◌}
use Rattle.flags.specs.Flags.{HandsHead}
use Rattle.pass.specs.Visit.{is_lambda}
use Rattle.tree.specs.Record.{nth}
use Rattle.tree.specs.Stands.{Stands}
use Rattle.tree.specs.Tree.{Tree, size}
use Rattle.visits.proofs.Bounds.{Span}
use Rattle.visits.proofs.Bounds as bounds
use Rattle.visits.proofs.CallCase as call_case
use Rattle.visits.proofs.Views.{own_field}
use lib.Dec.{eqb}
use lib.ListN.{length}
use mathlib.Core.Path.{subst, ◌∙◌, ◌≡◌}
use native.Mathlib.Omega.{arith}
use Rattle.visits.proofs.AnalysisPass.+visits.Goals.{visit_list-After-extent_at-head, visit_list-After-form-lambda, visit_list-After-part-g, visit_list-After-visit_arguments-a, visit_list-After-wide-k}

pub counts : (t : ℕ) (c : visit_list-After-wide-k t) → c.wide-k.result ≡ (nth c.args.s.now.all.now c.args.at).count
counts t c =
    c.wide-k.ensures ∙ own_field c.requires.0 (λ r. r.count) c.count.ensures

pub reach : (t : ℕ) (c : visit_list-After-extent_at-head t) → 1 + c.extent_at-head.result ≤ size c.requires.0.t
reach t c =
    call_case.operator_long c.requires.1 c.extent_at-head.ensures c.requires.0

pub many : (t : ℕ) (c : visit_list-After-wide-k t) → suc (c.wide-k.result - 1) ≡ (nth c.args.s.now.all.now c.args.at).count
many t c =
    let counts : c.wide-k.result ≡ (nth c.args.s.now.all.now c.args.at).count =
    c.wide-k.ensures ∙ own_field c.requires.0 (λ r. r.count) c.count.ensures in
    omega (arith, counts, (call_case.call_long c.requires.1 c.requires.0).2)

pub abstraction : (t : ℕ) (c : visit_list-After-form-lambda t) → let o = c.args in
    (u : Tree) → Stands (length o.s.now.classes.now) o.s.now.all.now (o.at + 1) u → eqb c.form-lambda.result 6 ≡ is_lambda u
abstraction t c =
    call_case.form_lambda c.core_at.ensures c.form-lambda.ensures

pub operator : (t : ℕ) (c : visit_list-After-part-g t) → HandsHead c.args.f (eqb c.form-lambda.result 6) (c.wide-k.result - 1) c.part-g.result
operator t c =
    let b = eqb c.form-lambda.result 6 in
    subst (λ (j : ℕ). HandsHead c.args.f b j c.part-g.result) c.narrow.ensures c.part-g.ensures

pub end : (t : ℕ) (c : visit_list-After-visit_arguments-a t) → let o = c.args in
    Span o.s.now.all.now c.part_at.result.now (o.at + 1 + c.extent_at-head.result) c.visit_arguments-a.result
end t c =
    let counts : c.wide-k.result ≡ (nth c.args.s.now.all.now c.args.at).count =
    c.wide-k.ensures ∙ own_field c.requires.0 (λ r. r.count) c.count.ensures in
    let many : suc (c.wide-k.result - 1) ≡ (nth c.args.s.now.all.now c.args.at).count =
    omega (arith, counts, (call_case.call_long c.requires.1 c.requires.0).2) in
    bounds.used_all (call_case.operands_fit c.requires.1 many c.extent_at-head.ensures c.part.ensures c.part_at.ensures c.requires.0)
    c.visit_arguments-a.ensures.0
