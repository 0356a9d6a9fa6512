-- The visits of the forms.
mod Visit
mod VisitAnd
mod VisitArguments
mod VisitBegin
mod VisitChildren
mod VisitDefine
mod VisitIf
mod VisitLambdaFunction
mod VisitLet
mod VisitList
mod VisitPart
mod VisitSet
mod VisitWhen
use Prim.Native.Nat.{◌+◌, ◌-◌}
use Rattle.tree.proofs.Laws.Stands.{tree_few}
use Rattle.tree.proofs.Laws.Tree.{many_sizes}
use Rattle.visits.proofs.Bounds.{part_length, some, used, whole}
use Rattle.visits.proofs.Bounds as bounds
use Rattle.visits.proofs.CallCase as call_case
use Rattle.visits.proofs.DefineCase as define_case
use Rattle.visits.proofs.IfCase as if_case
use Rattle.visits.proofs.LambdaCase as lambda_case
use Rattle.visits.proofs.LeafCase as leaf_case
use Rattle.visits.proofs.LetCalls as calls
use Rattle.visits.proofs.LetCase as let_case
use Rattle.visits.proofs.RowCase as row_case
use Rattle.visits.proofs.SequenceCase as sequence_case
use Rattle.visits.proofs.SetCase as set_case
use Rattle.visits.proofs.Views.{own_field}
use Rattle.visits.proofs.WhenCase as when_case
use Rattle.visits.specs.Contract.{IsWhen}
use Rattle.work.specs.Laws.Fits.{facts_length_lem}
use mathlib.Core.Path.{refl, subst, sym, ◌∙◌, ◌≡◌}
use native.Mathlib.Omega.{arith}
use Rattle.visits.proofs.AnalysisPass.+visits.Goals as goal

pub visit-form-form-requires : goal.visit-form-form-requires
visit-form-form-requires t c = let x = c.requires in omega (arith, bounds.whole x, bounds.some x)

pub visit-visit_if-requires : goal.visit-visit_if-requires
visit-visit_if-requires t c =
    (omega (arith, c.decreases), (c.requires, sym (Visit.formed t (goal.at.visit-visit_if-requires t c).After-form-form) ∙ c.in-3.is))

pub visit-visit_let-requires : goal.visit-visit_let-requires
visit-visit_let-requires t c =
    (omega (arith, c.decreases), (c.requires, sym (Visit.formed t (goal.at.visit-visit_let-requires t c).After-form-form) ∙ c.in-4.is))

pub visit-visit_define-requires : goal.visit-visit_define-requires
visit-visit_define-requires t c =
    (omega (arith, c.decreases), (c.requires, sym (Visit.formed t (goal.at.visit-visit_define-requires t c).After-form-form) ∙ c.in-5.is))

pub visit-visit_lambda_function-requires : goal.visit-visit_lambda_function-requires
visit-visit_lambda_function-requires t c =
    (omega (arith, c.decreases), (c.requires, sym (Visit.formed t (goal.at.visit-visit_lambda_function-requires t c).After-form-form) ∙ c.in-6.is))

pub visit-visit_begin-requires : goal.visit-visit_begin-requires
visit-visit_begin-requires t c =
    (omega (arith, c.decreases), (c.requires, sym (Visit.formed t (goal.at.visit-visit_begin-requires t c).After-form-form) ∙ c.in-7.is))

pub visit-visit_list-requires : goal.visit-visit_list-requires
visit-visit_list-requires t c =
    (omega (arith, c.decreases), (c.requires, sym (Visit.formed t (goal.at.visit-visit_list-requires t c).After-form-form) ∙ c.in-8.is))

pub visit-visit_set-requires : goal.visit-visit_set-requires
visit-visit_set-requires t c =
    (omega (arith, c.decreases), (c.requires, sym (Visit.formed t (goal.at.visit-visit_set-requires t c).After-form-form) ∙ c.in-9.is))

pub visit-visit_and-requires : goal.visit-visit_and-requires
visit-visit_and-requires t c =
    (omega (arith, c.decreases), (c.requires, sym (Visit.formed t (goal.at.visit-visit_and-requires t c).After-form-form) ∙ c.in-10.is))

pub visit-visit_atom-requires : goal.visit-visit_atom-requires
visit-visit_atom-requires t c =
    leaf_case.atom_fits {g = c.args.f} (Visit.formed t (goal.at.visit-visit_atom-requires t c).After-form-form) (omega (arith, c.in-1-to-2.if-form-lt3-own.true)) c.requires

pub visit-visit_when-requires : goal.visit-visit_when-requires
visit-visit_when-requires t c =
    (omega (arith, c.decreases), (c.requires, subst IsWhen (Visit.formed t (goal.at.visit-visit_when-requires t c).After-form-form) (omega arith, omega arith)))

pub visit-returns-in-1-to-2 : goal.visit-returns-in-1-to-2
visit-returns-in-1-to-2 t c =
    (leaf_case.atom_done (Visit.formed t (goal.at.visit-returns-in-1-to-2 t c).After-form-form) (omega (arith, c.in-1-to-2.if-form-lt3-own.true)) c.visit_atom.ensures, refl)

pub visit-returns-in_default : goal.visit-returns-in_default
visit-returns-in_default t c = absurd (leaf_case.none_below (Visit.formed t (goal.at.visit-returns-in_default t c).After-form-form) c.in_default.if-form-lt1-own.true c.requires)

pub visit-returns-in_default-2 : goal.visit-returns-in_default-2
visit-returns-in_default-2 t c = absurd (leaf_case.none_above (Visit.formed t (goal.at.visit-returns-in_default-2 t c).After-form-form) c.in_default.if-form-lt13-own.false c.requires)

pub visit_and-count-requires : goal.visit_and-count-requires
visit_and-count-requires t c = let x = c.requires.0 in omega (arith, bounds.whole x, bounds.some x)

pub visit_and-part_at-requires : goal.visit_and-part_at-requires
visit_and-part_at-requires t c = let x = c.requires.0 in omega (arith, bounds.whole x, bounds.some x)

pub visit_and-overflow_add-at : goal.visit_and-overflow_add-at
visit_and-overflow_add-at t c = let x = c.requires.0 in omega (arith, bounds.whole x, bounds.some x)

pub visit_and-visit_children-a-requires : goal.visit_and-visit_children-a-requires
visit_and-visit_children-a-requires t c =
    let x = c.requires.0 in
    let p = c.part_at.ensures in (
      omega (arith, c.decreases, bounds.whole x, bounds.some x, bounds.part_length c.args.rs.now 1 p),
      sequence_case.and-fits c.requires.1 (VisitAnd.counts t (goal.at.visit_and-visit_children-a-requires t c).After-wide-count) c.part.ensures p x,
    )

pub visit_and-overflow_add-result : goal.visit_and-overflow_add-result
visit_and-overflow_add-result t c = omega (arith, bounds.used c.requires.0 (VisitAnd.done t (goal.at.visit_and-overflow_add-result t c).After-visit_children-a))

pub visit_and-returns : goal.visit_and-returns
visit_and-returns t c = ((VisitAnd.done t (goal.at.visit_and-returns t c).After-visit_children-a), c.visit_children-a.ensures.1)

pub visit_arguments-loop-init : goal.visit_arguments-loop-init
visit_arguments-loop-init t c = (omega arith, refl, row_case.all_left)

pub visit_arguments-part_at-p-requires : goal.visit_arguments-part_at-p-requires
visit_arguments-part_at-p-requires t c = omega (arith, row_case.next_long (VisitArguments.here t (goal.at.visit_arguments-part_at-p-requires t c).In-loop), bounds.all c.requires)

pub visit_arguments-overflow_add-n : goal.visit_arguments-overflow_add-n
visit_arguments-overflow_add-n t c = omega (arith, row_case.next_long (VisitArguments.here t (goal.at.visit_arguments-overflow_add-n t c).In-loop), bounds.all c.requires)

pub visit_arguments-visit_part-used-requires : goal.visit_arguments-visit_part-used-requires
visit_arguments-visit_part-used-requires t c = (
  omega (arith, c.decreases, row_case.next_long (VisitArguments.here t (goal.at.visit_arguments-visit_part-used-requires t c).In-loop), bounds.all c.requires, bounds.part_length c.args.rs.now c.loop.used c.part_at-p.ensures),
  row_case.next_fits (VisitArguments.here t (goal.at.visit_arguments-visit_part-used-requires t c).In-loop) c.part_at-p.ensures refl row_case.alike,
)

pub visit_arguments-overflow_add-used : goal.visit_arguments-overflow_add-used
visit_arguments-overflow_add-used t c = omega (arith, bounds.used (row_case.next_fits (VisitArguments.here t (goal.at.visit_arguments-overflow_add-used t c).In-loop) c.part_at-p.ensures refl row_case.alike) c.visit_part-used.ensures.0)

pub visit_arguments-part-g-requires : goal.visit_arguments-part-g-requires
visit_arguments-part-g-requires t c = row_case.next_height (VisitArguments.here t (goal.at.visit_arguments-part-g-requires t c).In-loop)

pub visit_arguments-loop-preserved : goal.visit_arguments-loop-preserved
visit_arguments-loop-preserved t c =
    let l = c.loop in
    let m = c.args.k in
    let e : m - l.counter - 1 ≡ m - (l.counter + 1) = omega arith in (
      omega (arith, c.loop-test.true),
      c.visit_part-used.ensures.1 ∙ l.invariant.1,
      λ x. row_case.left_at e (row_case.one_less (row_case.next (l.invariant.2 x) (omega (arith, c.loop-test.true))) c.part_at-p.ensures refl row_case.alike c.visit_part-used.ensures.0
          c.part-g.ensures),
    )

pub visit_arguments-returns : goal.visit_arguments-returns
visit_arguments-returns t c =
    let e : c.args.k - c.loop.counter ≡ 0 = omega (arith, c.loop-test.false) in
    (row_case.row_done_lem (λ x. row_case.left_at e (c.loop.invariant.2 x)), c.loop.invariant.1)

pub visit_begin-count-requires : goal.visit_begin-count-requires
visit_begin-count-requires t c = let x = c.requires.0 in omega (arith, bounds.whole x, bounds.some x)

pub visit_begin-enter_defines-requires : goal.visit_begin-enter_defines-requires
visit_begin-enter_defines-requires t c =
    sequence_case.begin_enter {g = c.args.f} c.requires.1 (VisitBegin.counts t (goal.at.visit_begin-enter_defines-requires t c).After-wide-count) c.requires.0

pub visit_begin-part_at-requires : goal.visit_begin-part_at-requires
visit_begin-part_at-requires t c = let x = c.requires.0 in omega (arith, bounds.whole x, bounds.some x)

pub visit_begin-visit_children-a-requires : goal.visit_begin-visit_children-a-requires
visit_begin-visit_children-a-requires t c =
    let x = c.requires.0 in
    let p = c.part_at.ensures in (
      omega (arith, c.decreases, bounds.whole x, bounds.some x, bounds.part_length c.args.rs.now 1 p),
      sequence_case.begin_fits c.requires.1 (VisitBegin.counts t (goal.at.visit_begin-visit_children-a-requires t c).After-wide-count) c.enter_defines.ensures c.part.ensures p x,
    )

pub visit_begin-overflow_add-result : goal.visit_begin-overflow_add-result
visit_begin-overflow_add-result t c = omega (arith, bounds.used c.requires.0 (VisitBegin.done t (goal.at.visit_begin-overflow_add-result t c).After-visit_children-a))

pub visit_begin-returns : goal.visit_begin-returns
visit_begin-returns t c = ((VisitBegin.done t (goal.at.visit_begin-returns t c).After-visit_children-a), c.visit_children-a.ensures.1)

pub visit_body-form-requires : goal.visit_body-form-requires
visit_body-form-requires t c = let x = c.requires in omega (arith, bounds.whole x, bounds.some x)

pub visit_body-visit_lambda_function-requires : goal.visit_body-visit_lambda_function-requires
visit_body-visit_lambda_function-requires t c =
    (omega (arith, c.decreases), (c.requires, sym (own_field c.requires (λ r. r.form) c.form.ensures) ∙ c.if-form-eq-LAMBDA.true))

pub visit_body-visit_part-requires : goal.visit_body-visit_part-requires
visit_body-visit_part-requires t c = (omega (arith, c.decreases), c.requires)

pub visit_children-loop-i-init : goal.visit_children-loop-i-init
visit_children-loop-i-init t c = (omega arith, refl, row_case.all_left)

pub visit_children-part_at-p-requires : goal.visit_children-part_at-p-requires
visit_children-part_at-p-requires t c = omega (arith, row_case.next_long (VisitChildren.here t (goal.at.visit_children-part_at-p-requires t c).In-loop-i), bounds.all c.requires)

pub visit_children-overflow_add-n : goal.visit_children-overflow_add-n
visit_children-overflow_add-n t c = omega (arith, row_case.next_long (VisitChildren.here t (goal.at.visit_children-overflow_add-n t c).In-loop-i), bounds.all c.requires)

pub visit_children-visit_part-used-requires : goal.visit_children-visit_part-used-requires
visit_children-visit_part-used-requires t c =
    let p = c.part_at-p.ensures in (
      omega (arith, c.decreases, row_case.next_long (VisitChildren.here t (goal.at.visit_children-visit_part-used-requires t c).In-loop-i), bounds.all c.requires, bounds.part_length c.args.rs.now c.loop-i.used p),
      row_case.next_fits (VisitChildren.here t (goal.at.visit_children-visit_part-used-requires t c).In-loop-i) p (VisitChildren.lasts t (goal.at.visit_children-visit_part-used-requires t c).In-loop-i) c.part-g.ensures,
    )

pub visit_children-overflow_add-used : goal.visit_children-overflow_add-used
visit_children-overflow_add-used t c =
    omega (arith, bounds.used (row_case.next_fits (VisitChildren.here t (goal.at.visit_children-overflow_add-used t c).In-loop-i) c.part_at-p.ensures (VisitChildren.lasts t (goal.at.visit_children-overflow_add-used t c).In-loop-i) c.part-g.ensures) c.visit_part-used.ensures.0)

pub visit_children-loop-i-preserved : goal.visit_children-loop-i-preserved
visit_children-loop-i-preserved t c =
    let l = c.loop-i in
    let m = c.args.k in
    let e : m - l.i - 1 ≡ m - (l.i + 1) = omega arith in (
      omega (arith, c.loop-i-test.true),
      c.visit_part-used.ensures.1 ∙ l.invariant.1,
      λ x. row_case.left_at e (row_case.one_less (row_case.next (l.invariant.2 x) (omega (arith, c.loop-i-test.true))) c.part_at-p.ensures (VisitChildren.lasts t (goal.at.visit_children-loop-i-preserved t c).In-loop-i) c.part-g.ensures
          c.visit_part-used.ensures.0 row_case.alike),
    )

pub visit_children-returns : goal.visit_children-returns
visit_children-returns t c =
    let e : c.args.k - c.loop-i.i ≡ 0 = omega (arith, c.loop-i-test.false) in
    (row_case.row_done_lem (λ x. row_case.left_at e (c.loop-i.invariant.2 x)), c.loop-i.invariant.1)

pub visit_define-body_at-b-requires : goal.visit_define-body_at-b-requires
visit_define-body_at-b-requires t c = define_case.body_stands c.requires.1 c.requires.0

pub visit_define-open_define-requires : goal.visit_define-open_define-requires
visit_define-open_define-requires t c = define_case.begins_fit c.requires.1 c.requires.0

pub visit_define-part_at-p-requires : goal.visit_define-part_at-p-requires
visit_define-part_at-p-requires t c =
    omega (arith, (VisitDefine.first t (goal.at.visit_define-part_at-p-requires t c).Start), bounds.whole c.requires.0)

pub visit_define-overflow_add-n : goal.visit_define-overflow_add-n
visit_define-overflow_add-n t c =
    omega (arith, (VisitDefine.first t (goal.at.visit_define-overflow_add-n t c).Start), bounds.whole c.requires.0)

pub visit_define-visit_body-o-requires : goal.visit_define-visit_body-o-requires
visit_define-visit_body-o-requires t c =
    let x = c.requires.0 in (
      omega (arith, c.decreases, (VisitDefine.first t (goal.at.visit_define-visit_body-o-requires t c).Start), bounds.whole x, bounds.part_length c.args.rs.now 2 c.part_at-p.ensures),
      define_case.body-fits c.requires.1 c.body_at-b.ensures c.open_define.ensures c.part-g.ensures c.part_at-p.ensures x,
    )

pub visit_define-close_define-requires : goal.visit_define-close_define-requires
visit_define-close_define-requires t c =
    define_case.ends_fit c.requires.1 c.body_at-b.ensures c.open_define.ensures c.part-g.ensures
    c.part_at-p.ensures c.visit_body-o.ensures.0 c.requires.0

pub visit_define-overflow_add-result : goal.visit_define-overflow_add-result
visit_define-overflow_add-result t c =
    omega (arith, bounds.used c.requires.0 (VisitDefine.done t (goal.at.visit_define-overflow_add-result t c).After-close_define))

pub visit_define-returns : goal.visit_define-returns
visit_define-returns t c = ((VisitDefine.done t (goal.at.visit_define-returns t c).After-close_define), c.visit_body-o.ensures.1)

pub visit_if-part_at-p-requires : goal.visit_if-part_at-p-requires
visit_if-part_at-p-requires t c = omega (arith, (VisitIf.first t (goal.at.visit_if-part_at-p-requires t c).Start), bounds.whole c.requires.0)

pub visit_if-visit_part-a-requires : goal.visit_if-visit_part-a-requires
visit_if-visit_part-a-requires t c =
    let x = c.requires.0 in (
      omega (arith, c.decreases, (VisitIf.first t (goal.at.visit_if-visit_part-a-requires t c).Start), bounds.whole x, bounds.part_length c.args.rs.now 1 c.part_at-p.ensures),
      if_case.test_fits c.requires.1 c.part-h.ensures c.part_at-p.ensures x,
    )

pub visit_if-overflow_add-i : goal.visit_if-overflow_add-i
visit_if-overflow_add-i t c = omega (arith, (VisitIf.second t (goal.at.visit_if-overflow_add-i t c).After-visit_part-a), bounds.whole c.requires.0)

pub visit_if-part_at-p-requires-2 : goal.visit_if-part_at-p-requires-2
visit_if-part_at-p-requires-2 t c = omega (arith, (VisitIf.second t (goal.at.visit_if-part_at-p-requires-2 t c).After-visit_part-a), bounds.whole c.requires.0)

pub visit_if-overflow_add-n-2 : goal.visit_if-overflow_add-n-2
visit_if-overflow_add-n-2 t c = omega (arith, (VisitIf.second t (goal.at.visit_if-overflow_add-n-2 t c).After-visit_part-a), bounds.whole c.requires.0)

pub visit_if-visit_part-b-requires : goal.visit_if-visit_part-b-requires
visit_if-visit_part-b-requires t c =
    let x = c.requires.0 in (
      omega (arith, c.decreases, (VisitIf.second t (goal.at.visit_if-visit_part-b-requires t c).After-visit_part-a), bounds.whole x, bounds.part_length c.args.rs.now (1 + c.visit_part-a.result) c.part_at-p-2.ensures),
      if_case.then-fits c.requires.1 c.part-h.ensures c.part-g.ensures c.part_at-p.ensures c.visit_part-a.ensures.0 c.part_at-p-2.ensures x,
    )

pub visit_if-overflow_add-j : goal.visit_if-overflow_add-j
visit_if-overflow_add-j t c = omega (arith, (VisitIf.third t (goal.at.visit_if-overflow_add-j t c).After-visit_part-b), bounds.whole c.requires.0)

pub visit_if-part_at-p-requires-3 : goal.visit_if-part_at-p-requires-3
visit_if-part_at-p-requires-3 t c = omega (arith, (VisitIf.third t (goal.at.visit_if-part_at-p-requires-3 t c).After-visit_part-b), bounds.whole c.requires.0)

pub visit_if-overflow_add-n-3 : goal.visit_if-overflow_add-n-3
visit_if-overflow_add-n-3 t c = omega (arith, (VisitIf.third t (goal.at.visit_if-overflow_add-n-3 t c).After-visit_part-b), bounds.whole c.requires.0)

pub visit_if-visit_part-c-requires : goal.visit_if-visit_part-c-requires
visit_if-visit_part-c-requires t c =
    let k = c.part-g.ensures in
    let x = c.requires.0 in (
      omega (arith, c.decreases, (VisitIf.third t (goal.at.visit_if-visit_part-c-requires t c).After-visit_part-b), bounds.whole x, bounds.part_length c.args.rs.now (1 + c.visit_part-a.result + c.visit_part-b.result) c.part_at-p-3.ensures),
      if_case.else-fits c.requires.1 c.part-h.ensures k c.part_at-p.ensures c.visit_part-a.ensures.0 c.part_at-p-2.ensures c.visit_part-b.ensures.0 k
          c.part_at-p-3.ensures x,
    )

pub visit_if-overflow_add-result : goal.visit_if-overflow_add-result
visit_if-overflow_add-result t c = omega (arith, bounds.used c.requires.0 (VisitIf.done t (goal.at.visit_if-overflow_add-result t c).After-visit_part-c))

pub visit_if-returns : goal.visit_if-returns
visit_if-returns t c =
    ((VisitIf.done t (goal.at.visit_if-returns t c).After-visit_part-c), c.visit_part-c.ensures.1 ∙ c.visit_part-b.ensures.1 ∙ c.visit_part-a.ensures.1)

pub visit_lambda_function-count-many-requires : goal.visit_lambda_function-count-many-requires
visit_lambda_function-count-many-requires t c = let x = c.requires.0 in omega (arith, bounds.whole x, bounds.some x)

pub visit_lambda_function-open_lambda-self-requires : goal.visit_lambda_function-open_lambda-self-requires
visit_lambda_function-open_lambda-self-requires t c =
    lambda_case.lambda_fits c.requires.1 (VisitLambdaFunction.tells t (goal.at.visit_lambda_function-open_lambda-self-requires t c).After-wide-count) c.requires.0

pub visit_lambda_function-part_at-p-requires : goal.visit_lambda_function-part_at-p-requires
visit_lambda_function-part_at-p-requires t c = omega (arith, (VisitLambdaFunction.long t (goal.at.visit_lambda_function-part_at-p-requires t c).After-wide-count), bounds.whole c.requires.0)

pub visit_lambda_function-overflow_add-n : goal.visit_lambda_function-overflow_add-n
visit_lambda_function-overflow_add-n t c = omega (arith, (VisitLambdaFunction.long t (goal.at.visit_lambda_function-overflow_add-n t c).After-wide-count), bounds.whole c.requires.0)

pub visit_lambda_function-overflow_add-n-2 : goal.visit_lambda_function-overflow_add-n-2
visit_lambda_function-overflow_add-n-2 t c = omega (arith, (VisitLambdaFunction.long t (goal.at.visit_lambda_function-overflow_add-n-2 t c).After-wide-count), bounds.whole c.requires.0)

pub visit_lambda_function-id-requires : goal.visit_lambda_function-id-requires
visit_lambda_function-id-requires t c = let x = c.requires.0 in omega (arith, bounds.whole x, bounds.some x)

pub visit_lambda_function-part-g-requires : goal.visit_lambda_function-part-g-requires
visit_lambda_function-part-g-requires t c = let x = c.requires.0 in (omega (arith, x.flags.counter, x.fits.ample.counter), omega (arith, bounds.whole x, bounds.some x))

pub visit_lambda_function-visit_body-o-requires : goal.visit_lambda_function-visit_body-o-requires
visit_lambda_function-visit_body-o-requires t c =
    let x = c.requires.0 in
    let p = c.part_at-p.ensures in (
      omega (arith, c.decreases, (VisitLambdaFunction.long t (goal.at.visit_lambda_function-visit_body-o-requires t c).After-wide-count), bounds.whole x, bounds.part_length c.args.rs.now (1 + c.wide-count.result) p),
      lambda_case.body-fits c.requires.1 (VisitLambdaFunction.tells t (goal.at.visit_lambda_function-visit_body-o-requires t c).After-wide-count) c.open_lambda-self.ensures (VisitLambdaFunction.handed t (goal.at.visit_lambda_function-visit_body-o-requires t c).After-part-g) p x,
    )

pub visit_lambda_function-overflow_add-end : goal.visit_lambda_function-overflow_add-end
visit_lambda_function-overflow_add-end t c =
    let b = lambda_case.body_stands c.requires.1 (VisitLambdaFunction.tells t (goal.at.visit_lambda_function-overflow_add-end t c).After-wide-count) c.open_lambda-self.ensures (VisitLambdaFunction.handed t (goal.at.visit_lambda_function-overflow_add-end t c).After-part-g) c.part_at-p.ensures
    c.visit_body-o.ensures.0 c.requires.0 in
    omega (arith, b.ends, tree_few b.stands)

pub visit_lambda_function-close_lambda-self-requires : goal.visit_lambda_function-close_lambda-self-requires
visit_lambda_function-close_lambda-self-requires t c =
    lambda_case.end-fit c.requires.1 (VisitLambdaFunction.tells t (goal.at.visit_lambda_function-close_lambda-self-requires t c).After-wide-count) c.open_lambda-self.ensures (VisitLambdaFunction.handed t (goal.at.visit_lambda_function-close_lambda-self-requires t c).After-part-g) c.part_at-p.ensures
    c.visit_body-o.ensures.0 c.requires.0

pub visit_lambda_function-overflow_add-result : goal.visit_lambda_function-overflow_add-result
visit_lambda_function-overflow_add-result t c = omega (arith, (VisitLambdaFunction.long t (goal.at.visit_lambda_function-overflow_add-result t c).After-wide-count), bounds.whole c.requires.0)

pub visit_lambda_function-overflow_add-result-2 : goal.visit_lambda_function-overflow_add-result-2
visit_lambda_function-overflow_add-result-2 t c =
    omega (arith, bounds.used c.requires.0 (VisitLambdaFunction.done t (goal.at.visit_lambda_function-overflow_add-result-2 t c).After-close_lambda-self))

pub visit_lambda_function-returns : goal.visit_lambda_function-returns
visit_lambda_function-returns t c = ((VisitLambdaFunction.done t (goal.at.visit_lambda_function-returns t c).After-close_lambda-self), c.visit_body-o.ensures.1)

pub visit_let-count-many-requires : goal.visit_let-count-many-requires
visit_let-count-many-requires t c = let x = c.requires.0 in omega (arith, whole x, some x)

pub visit_let-parts-requires : goal.visit_let-parts-requires
visit_let-parts-requires t c = let x = c.requires.0 in
    let long = let_case.let_long c.requires.1 (c.wide-count.ensures ∙ (VisitLet.counts t (goal.at.visit_let-parts-requires t c).After-wide-count)) x in
    (tt, omega (arith, c.wide-count.ensures, long, x.flags.height, x.fits.ample.height))

pub visit_let-part_at-requires : goal.visit_let-part_at-requires
visit_let-part_at-requires t c = omega (arith, (VisitLet.names-span t (goal.at.visit_let-part_at-requires t c).After-wide-count))

pub visit_let-overflow_add-at : goal.visit_let-overflow_add-at
visit_let-overflow_add-at t c = omega (arith, (VisitLet.names-span t (goal.at.visit_let-overflow_add-at t c).After-wide-count))

pub visit_let-overflow_add-at-2 : goal.visit_let-overflow_add-at-2
visit_let-overflow_add-at-2 t c = omega (arith, (VisitLet.names-span t (goal.at.visit_let-overflow_add-at-2 t c).After-wide-count))

pub visit_let-visit_arguments-a-requires : goal.visit_let-visit_arguments-a-requires
visit_let-visit_arguments-a-requires t c = (
  omega (arith, c.decreases, (VisitLet.names-span t (goal.at.visit_let-visit_arguments-a-requires t c).After-wide-count), part_length c.args.rs.now (1 + c.wide-count.result) c.part_at.ensures),
  calls.initials (VisitLet.begins t (goal.at.visit_let-visit_arguments-a-requires t c).After-part_at) c.requires.0,
)

pub visit_let-open_let-self-requires : goal.visit_let-open_let-self-requires
visit_let-open_let-self-requires t c = calls.names (VisitLet.begins t (goal.at.visit_let-open_let-self-requires t c).After-part_at) c.visit_arguments-a.ensures.0 refl c.requires.0

pub visit_let-overflow_add-i : goal.visit_let-overflow_add-i
visit_let-overflow_add-i t c = omega (arith, (VisitLet.body-span t (goal.at.visit_let-overflow_add-i t c).After-visit_arguments-a))

pub visit_let-overflow_add-i-2 : goal.visit_let-overflow_add-i-2
visit_let-overflow_add-i-2 t c = omega (arith, (VisitLet.body-span t (goal.at.visit_let-overflow_add-i-2 t c).After-visit_arguments-a))

pub visit_let-part_at-p-requires : goal.visit_let-part_at-p-requires
visit_let-part_at-p-requires t c = omega (arith, (VisitLet.body-span t (goal.at.visit_let-part_at-p-requires t c).After-visit_arguments-a))

pub visit_let-overflow_add-n : goal.visit_let-overflow_add-n
visit_let-overflow_add-n t c = omega (arith, (VisitLet.body-span t (goal.at.visit_let-overflow_add-n t c).After-visit_arguments-a))

pub visit_let-visit_part-b-requires : goal.visit_let-visit_part-b-requires
visit_let-visit_part-b-requires t c = let i = 1 + c.wide-count.result + c.visit_arguments-a.result in (
  omega (arith, c.decreases, (VisitLet.body-span t (goal.at.visit_let-visit_part-b-requires t c).After-visit_arguments-a), part_length c.args.rs.now i c.part_at-p.ensures),
  calls.body (VisitLet.begins t (goal.at.visit_let-visit_part-b-requires t c).After-part_at) c.visit_arguments-a.ensures.0 refl c.open_let-self.ensures c.parts.ensures.1 c.part_at-p.ensures
      c.requires.0,
)

pub visit_let-close_let-self-requires : goal.visit_let-close_let-self-requires
visit_let-close_let-self-requires t c = calls.ends (VisitLet.begins t (goal.at.visit_let-close_let-self-requires t c).After-part_at) c.visit_arguments-a.ensures.0 refl c.open_let-self.ensures c.parts.ensures.1 c.part_at-p.ensures
    c.visit_part-b.ensures.0 c.requires.0

pub visit_let-overflow_add-result : goal.visit_let-overflow_add-result
visit_let-overflow_add-result t c = let x = calls.body (VisitLet.begins t (goal.at.visit_let-overflow_add-result t c).After-part_at) c.visit_arguments-a.ensures.0 refl c.open_let-self.ensures c.parts.ensures.1 c.part_at-p.ensures
    c.requires.0 in
    omega (arith, used x c.visit_part-b.ensures.0)

pub visit_let-returns : goal.visit_let-returns
visit_let-returns t c = let done =
    calls.done (VisitLet.begins t (goal.at.visit_let-returns t c).After-part_at) c.visit_arguments-a.ensures.0 refl c.open_let-self.ensures c.parts.ensures.1 c.part_at-p.ensures
    c.visit_part-b.ensures.0 refl c.close_let-self.ensures in
    (done, c.visit_part-b.ensures.1 ∙ c.visit_arguments-a.ensures.1)

pub visit_list-count-requires : goal.visit_list-count-requires
visit_list-count-requires t c = let x = c.requires.0 in omega (arith, bounds.whole x, bounds.some x)

pub visit_list-overflow_sub-k : goal.visit_list-overflow_sub-k
visit_list-overflow_sub-k t c = omega (arith, (VisitList.counts t (goal.at.visit_list-overflow_sub-k t c).After-wide-k), (call_case.call_long c.requires.1 c.requires.0).2)

pub visit_list-extent_at-head-requires : goal.visit_list-extent_at-head-requires
visit_list-extent_at-head-requires t c = call_case.operator_stands c.requires.1 c.requires.0

pub visit_list-overflow_add-first-2 : goal.visit_list-overflow_add-first-2
visit_list-overflow_add-first-2 t c = omega (arith, (VisitList.reach t (goal.at.visit_list-overflow_add-first-2 t c).After-extent_at-head), bounds.whole c.requires.0)

pub visit_list-core_at-requires : goal.visit_list-core_at-requires
visit_list-core_at-requires t c = call_case.operator_stands c.requires.1 c.requires.0

pub visit_list-form-lambda-requires : goal.visit_list-form-lambda-requires
visit_list-form-lambda-requires t c = call_case.reached-inside c.requires.1 c.core_at.ensures c.requires.0

pub visit_list-overflow_add-head : goal.visit_list-overflow_add-head
visit_list-overflow_add-head t c = omega (arith, (VisitList.reach t (goal.at.visit_list-overflow_add-head t c).After-extent_at-head), bounds.whole c.requires.0)

pub visit_list-part_at-requires : goal.visit_list-part_at-requires
visit_list-part_at-requires t c = omega (arith, (VisitList.reach t (goal.at.visit_list-part_at-requires t c).After-extent_at-head), bounds.whole c.requires.0)

pub visit_list-visit_arguments-a-requires : goal.visit_list-visit_arguments-a-requires
visit_list-visit_arguments-a-requires t c = let x = c.requires.0 in
    let p = c.part_at.ensures in (
      omega (arith, c.decreases, (VisitList.reach t (goal.at.visit_list-visit_arguments-a-requires t c).After-extent_at-head), bounds.whole x, bounds.part_length c.args.rs.now (1 + c.extent_at-head.result) p),
      call_case.operands_fit c.requires.1 (VisitList.many t (goal.at.visit_list-visit_arguments-a-requires t c).After-wide-k) c.extent_at-head.ensures c.part.ensures p x,
    )

pub visit_list-part_at-p-requires : goal.visit_list-part_at-p-requires
visit_list-part_at-p-requires t c =
    let x = c.requires.0 in
    omega (arith, (call_case.call_long c.requires.1 x).0, bounds.whole x)

pub visit_list-overflow_add-n : goal.visit_list-overflow_add-n
visit_list-overflow_add-n t c =
    let x = c.requires.0 in
    omega (arith, (call_case.call_long c.requires.1 x).0, bounds.whole x)

pub visit_list-narrow-requires : goal.visit_list-narrow-requires
visit_list-narrow-requires t c = let x = c.requires.0 in
    omega (arith, (VisitList.counts t (goal.at.visit_list-narrow-requires t c).After-wide-k), (call_case.call_long c.requires.1 x).1, x.fits.ample.height)

pub visit_list-part-g-requires : goal.visit_list-part-g-requires
visit_list-part-g-requires t c = let x = c.requires.0 in
    omega (arith, c.narrow.ensures, (VisitList.counts t (goal.at.visit_list-part-g-requires t c).After-wide-k), (call_case.call_long c.requires.1 x).1, x.flags.height, x.fits.ample.height)

pub visit_list-visit_part-requires : goal.visit_list-visit_part-requires
visit_list-visit_part-requires t c = let x = c.requires.0 in
    let p = c.part_at-p.ensures in (
      omega (arith, c.decreases, (call_case.call_long c.requires.1 x).0, bounds.whole x, bounds.part_length c.args.rs.now 1 p),
      call_case.operator_fits c.requires.1 (VisitList.many t (goal.at.visit_list-visit_part-requires t c).After-wide-k) c.extent_at-head.ensures c.part.ensures c.part_at.ensures
          c.visit_arguments-a.ensures.0 (VisitList.abstraction t (goal.at.visit_list-visit_part-requires t c).After-form-lambda) (VisitList.operator t (goal.at.visit_list-visit_part-requires t c).After-part-g) p x,
    )

pub visit_list-close_call-requires : goal.visit_list-close_call-requires
visit_list-close_call-requires t c = call_case.call_fits c.requires.1 (VisitList.many t (goal.at.visit_list-close_call-requires t c).After-wide-k) c.extent_at-head.ensures c.part.ensures c.part_at.ensures
    c.visit_arguments-a.ensures.0 (VisitList.abstraction t (goal.at.visit_list-close_call-requires t c).After-form-lambda) (VisitList.operator t (goal.at.visit_list-close_call-requires t c).After-part-g) c.part_at-p.ensures c.visit_part.ensures.0 c.requires.0

pub visit_list-overflow_add-result : goal.visit_list-overflow_add-result
visit_list-overflow_add-result t c =
    omega (arith, (VisitList.reach t (goal.at.visit_list-overflow_add-result t c).After-extent_at-head), bounds.whole c.requires.0, (VisitList.end t (goal.at.visit_list-overflow_add-result t c).After-visit_arguments-a))

pub visit_list-overflow_add-result-2 : goal.visit_list-overflow_add-result-2
visit_list-overflow_add-result-2 t c =
    omega (arith, (VisitList.reach t (goal.at.visit_list-overflow_add-result-2 t c).After-extent_at-head), bounds.whole c.requires.0, (VisitList.end t (goal.at.visit_list-overflow_add-result-2 t c).After-visit_arguments-a))

pub visit_list-returns : goal.visit_list-returns
visit_list-returns t c = let done =
    call_case.call_done c.requires.1 (VisitList.many t (goal.at.visit_list-returns t c).After-wide-k) c.extent_at-head.ensures c.part.ensures c.part_at.ensures
    c.visit_arguments-a.ensures.0 (VisitList.abstraction t (goal.at.visit_list-returns t c).After-form-lambda) (VisitList.operator t (goal.at.visit_list-returns t c).After-part-g) c.part_at-p.ensures c.visit_part.ensures.0 c.close_call.ensures in
    (done, c.visit_part.ensures.1 ∙ c.visit_arguments-a.ensures.1)

pub visit_part-form-form-requires : goal.visit_part-form-form-requires
visit_part-form-form-requires t c = let x = c.requires in omega (arith, bounds.whole x, bounds.some x)

pub visit_part-visit_atom-requires : goal.visit_part-visit_atom-requires
visit_part-visit_atom-requires t c =
    leaf_case.atom_fits {g = c.args.f} (VisitPart.formed t (goal.at.visit_part-visit_atom-requires t c).After-form-form) c.if-form-le-CONSTANT.true c.requires

pub visit_part-returns-then-form-le-CONSTANT : goal.visit_part-returns-then-form-le-CONSTANT
visit_part-returns-then-form-le-CONSTANT t c =
    (leaf_case.atom_done (VisitPart.formed t (goal.at.visit_part-returns-then-form-le-CONSTANT t c).After-form-form) c.if-form-le-CONSTANT.true c.visit_atom.ensures, refl)

pub visit_part-visit-requires : goal.visit_part-visit-requires
visit_part-visit-requires t c = (omega (arith, c.decreases), c.requires)

pub visit_set-clear_context-self-requires : goal.visit_set-clear_context-self-requires
visit_set-clear_context-self-requires t c = let x = c.requires.0 in
    (omega (arith, (VisitSet.long t (goal.at.visit_set-clear_context-self-requires t c).Start), bounds.whole x), facts_length_lem x.tied x.fits.ample.rows)

pub visit_set-part_at-p-requires : goal.visit_set-part_at-p-requires
visit_set-part_at-p-requires t c = omega (arith, (VisitSet.long t (goal.at.visit_set-part_at-p-requires t c).Start), bounds.whole c.requires.0)

pub visit_set-visit_part-o-requires : goal.visit_set-visit_part-o-requires
visit_set-visit_part-o-requires t c = let x = c.requires.0 in (
  omega (arith, c.decreases, (VisitSet.long t (goal.at.visit_set-visit_part-o-requires t c).Start), bounds.whole x, bounds.part_length c.args.rs.now 2 c.part_at-p.ensures),
  set_case.expression_fits c.requires.1 c.part-g.ensures c.clear_context-self.ensures c.part_at-p.ensures x,
)

pub visit_set-name-requires : goal.visit_set-name-requires
visit_set-name-requires t c = omega (arith, (VisitSet.long t (goal.at.visit_set-name-requires t c).Start), bounds.whole c.requires.0)

pub visit_set-mutate-requires : goal.visit_set-mutate-requires
visit_set-mutate-requires t c = set_case.target_sets c.requires.1 c.part-g.ensures c.clear_context-self.ensures c.part_at-p.ensures c.visit_part-o.ensures.0 c.requires.0

pub visit_set-overflow_add-at-2 : goal.visit_set-overflow_add-at-2
visit_set-overflow_add-at-2 t c = omega (arith, (VisitSet.long t (goal.at.visit_set-overflow_add-at-2 t c).Start), bounds.whole c.requires.0)

pub visit_set-visit_atom-requires : goal.visit_set-visit_atom-requires
visit_set-visit_atom-requires t c = set_case.target_fits c.requires.1 c.part-g.ensures c.clear_context-self.ensures c.part_at-p.ensures c.visit_part-o.ensures.0 (VisitSet.tells t (goal.at.visit_set-visit_atom-requires t c).After-name)
    c.mutate.ensures c.requires.0

pub visit_set-overflow_add-result : goal.visit_set-overflow_add-result
visit_set-overflow_add-result t c = let x = set_case.expression_fits c.requires.1 c.part-g.ensures c.clear_context-self.ensures c.part_at-p.ensures c.requires.0 in
    omega (arith, bounds.used x c.visit_part-o.ensures.0)

pub visit_set-returns : goal.visit_set-returns
visit_set-returns t c = let done =
    set_case.set_done c.requires.1 c.part-g.ensures c.clear_context-self.ensures c.part_at-p.ensures c.visit_part-o.ensures.0 (VisitSet.tells t (goal.at.visit_set-returns t c).After-name)
    c.mutate.ensures c.visit_atom.ensures in
    (done, c.visit_part-o.ensures.1)

pub visit_when-count-requires : goal.visit_when-count-requires
visit_when-count-requires t c = let x = c.requires.0 in omega (arith, bounds.whole x, bounds.some x)

pub visit_when-overflow_sub-k : goal.visit_when-overflow_sub-k
visit_when-overflow_sub-k t c = omega (arith, (VisitWhen.counts t (goal.at.visit_when-overflow_sub-k t c).After-wide-k), (when_case.when_long c.requires.1 c.requires.0).1)

pub visit_when-part_at-p-requires : goal.visit_when-part_at-p-requires
visit_when-part_at-p-requires t c = let x = c.requires.0 in omega (arith, bounds.whole x, bounds.some x)

pub visit_when-overflow_add-n : goal.visit_when-overflow_add-n
visit_when-overflow_add-n t c = let x = c.requires.0 in omega (arith, bounds.whole x, bounds.some x)

pub visit_when-visit_part-a-requires : goal.visit_when-visit_part-a-requires
visit_when-visit_part-a-requires t c =
    let x = c.requires.0 in (
      omega (arith, c.decreases, bounds.whole x, bounds.some x, bounds.part_length c.args.rs.now 1 c.part_at-p.ensures),
      when_case.test_fits c.requires.1 c.parts.ensures.0 c.part_at-p.ensures x,
    )

pub visit_when-overflow_add-first : goal.visit_when-overflow_add-first
visit_when-overflow_add-first t c = let x = c.requires.0 in omega (arith, bounds.whole x, bounds.some x)

pub visit_when-overflow_add-first-2 : goal.visit_when-overflow_add-first-2
visit_when-overflow_add-first-2 t c = omega (arith, (VisitWhen.reach t (goal.at.visit_when-overflow_add-first-2 t c).After-visit_part-a), bounds.whole c.requires.0)

pub visit_when-enter_defines-requires : goal.visit_when-enter_defines-requires
visit_when-enter_defines-requires t c =
    when_case.follow-enter c.requires.1 (VisitWhen.many t (goal.at.visit_when-enter_defines-requires t c).After-wide-k) c.parts.ensures.0 c.part_at-p.ensures c.visit_part-a.ensures.0 c.requires.0

pub visit_when-overflow_add-a : goal.visit_when-overflow_add-a
visit_when-overflow_add-a t c = omega (arith, (VisitWhen.reach t (goal.at.visit_when-overflow_add-a t c).After-visit_part-a), bounds.whole c.requires.0)

pub visit_when-part_at-requires : goal.visit_when-part_at-requires
visit_when-part_at-requires t c = omega (arith, (VisitWhen.reach t (goal.at.visit_when-part_at-requires t c).After-visit_part-a), bounds.whole c.requires.0)

pub visit_when-visit_children-b-requires : goal.visit_when-visit_children-b-requires
visit_when-visit_children-b-requires t c =
    let x = c.requires.0 in (
      omega (arith, c.decreases, (VisitWhen.reach t (goal.at.visit_when-visit_children-b-requires t c).After-visit_part-a), bounds.whole x, bounds.part_length c.args.rs.now (1 + c.visit_part-a.result) c.part_at.ensures),
      when_case.follow-fits c.requires.1 (VisitWhen.many t (goal.at.visit_when-visit_children-b-requires t c).After-wide-k) c.parts.ensures.0 c.part_at-p.ensures c.visit_part-a.ensures.0 c.enter_defines.ensures
          c.parts.ensures.1 c.part_at.ensures x,
    )

pub visit_when-overflow_add-result : goal.visit_when-overflow_add-result
visit_when-overflow_add-result t c = omega (arith, bounds.used c.requires.0 (VisitWhen.done t (goal.at.visit_when-overflow_add-result t c).After-visit_children-b))

pub visit_when-overflow_add-result-2 : goal.visit_when-overflow_add-result-2
visit_when-overflow_add-result-2 t c = omega (arith, bounds.used c.requires.0 (VisitWhen.done t (goal.at.visit_when-overflow_add-result-2 t c).After-visit_children-b))

pub visit_when-returns : goal.visit_when-returns
visit_when-returns t c = ((VisitWhen.done t (goal.at.visit_when-returns t c).After-visit_children-b), c.visit_children-b.ensures.1 ∙ c.visit_part-a.ensures.1)
