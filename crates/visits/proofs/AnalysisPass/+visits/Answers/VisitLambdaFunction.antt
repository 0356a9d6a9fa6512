-- What holds at places of `visit_lambda_function`.
use Prim.Native.Nat.{ℕ, ◌+◌, ◌≤◌}
use Rattle.flags.specs.Flags.{HandsBody}
use Rattle.flags.specs.declared.Flags.{Flags as Coded}
use Rattle.visits.specs.Lent.{raw_of}
use Rattle.work.specs.Tied.{raw}
use Rattle.tree.specs.Record.{nth}
use Rattle.tree.specs.Tree.{size}
use Rattle.visits.proofs.LambdaCase as lambda_case
use Rattle.visits.proofs.Views.{own_field}
use Rattle.visits.specs.Contract.{Done}
use mathlib.Core.Path.{subst, sym, ◌∙◌, ◌≡◌}
use Rattle.visits.proofs.AnalysisPass.+visits.Goals.{visit_lambda_function-After-close_lambda-self, visit_lambda_function-After-part-g, visit_lambda_function-After-wide-count}

hands : {g h : Coded} {at i j k m : ℕ} → i ≡ j → m ≡ k → HandsBody g at i k h → HandsBody g at j m h
hands {g} {h} {at} {i} {j} {k} {m} e d b = subst (λ (l : ℕ). HandsBody g at l m h) e (subst (λ (l : ℕ). HandsBody g at i l h) (sym d) b)

pub tells : (t : ℕ) (c : visit_lambda_function-After-wide-count t) → c.wide-count.result ≡ (nth c.args.s.now.all.now c.args.at).count
tells t c =
    c.wide-count.ensures ∙ own_field c.requires.0 (λ r. r.count) c.count-many.ensures

pub long : (t : ℕ) (c : visit_lambda_function-After-wide-count t) → c.wide-count.result + 2 ≤ size c.requires.0.t
long t c =
    let tells : c.wide-count.result ≡ (nth c.args.s.now.all.now c.args.at).count =
    c.wide-count.ensures ∙ own_field c.requires.0 (λ r. r.count) c.count-many.ensures in
    lambda_case.lambda_long c.requires.1 tells c.requires.0

pub handed : (t : ℕ) (c : visit_lambda_function-After-part-g t) → let o = c.args in
    HandsBody o.f o.at (nth o.s.now.all.now o.at).id c.wide-count.result c.part-g.result
handed t c =
    hands (own_field c.requires.0 (λ r. r.id) c.id.ensures) c.wide-count.ensures c.part-g.ensures

pub done : (t : ℕ) (c : visit_lambda_function-After-close_lambda-self t) → let o = c.args in
    Done o.s.now.classes.now o.s.now.all.now o.rs.now o.at o.f (raw_of o.self.now)
    (1 + c.wide-count.result + c.visit_body-o.result)
    (raw c.close_lambda-self.result c.close_lambda-self.new.facts c.close_lambda-self.new.captured c.close_lambda-self.new.arguments c.close_lambda-self.new.work)
done t c =
    let tells : c.wide-count.result ≡ (nth c.args.s.now.all.now c.args.at).count =
    c.wide-count.ensures ∙ own_field c.requires.0 (λ r. r.count) c.count-many.ensures in
    let handed : let o = c.args in
    HandsBody o.f o.at (nth o.s.now.all.now o.at).id c.wide-count.result c.part-g.result =
    hands (own_field c.requires.0 (λ r. r.id) c.id.ensures) c.wide-count.ensures c.part-g.ensures in
    lambda_case.lambda_done c.requires.1 tells c.open_lambda-self.ensures handed c.part_at-p.ensures
    c.visit_body-o.ensures.0 c.close_lambda-self.ensures
