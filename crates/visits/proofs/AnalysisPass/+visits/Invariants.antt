-- The number of records left in the part falls with each call.
use Rattle.std.proofs.Common.{◌+◌, ◌*◌, length}
use Prim.Native.Nat.{◌+◌, ◌-◌, ◌≤◌}
use Rattle.visits.proofs.RowCase as row_case
use Rattle.visits.specs.Contract.{FitRow, children, values}
use Rattle.visits.specs.Lent.{raw_of, tables}
use lib.ListN.{length}
use mathlib.Core.Path.{◌≡◌}
use Rattle.visits.proofs.AnalysisPass.+visits.Given as goal

abbrev pub decreases-visit_and : goal.decreases-visit_and
decreases-visit_and l = 4 * length l.rs.now

abbrev pub decreases-visit_begin : goal.decreases-visit_begin
decreases-visit_begin l = 4 * length l.rs.now

abbrev pub decreases-visit_children : goal.decreases-visit_children
decreases-visit_children l = 4 * length l.rs.now + 3

abbrev pub decreases-visit_when : goal.decreases-visit_when
decreases-visit_when l = 4 * length l.rs.now

abbrev pub decreases-visit : goal.decreases-visit
decreases-visit l = 4 * length l.rs.now + 1

abbrev pub decreases-visit_arguments : goal.decreases-visit_arguments
decreases-visit_arguments l = 4 * length l.rs.now + 3

abbrev pub decreases-visit_body : goal.decreases-visit_body
decreases-visit_body l = 4 * length l.rs.now + 3

abbrev pub decreases-visit_define : goal.decreases-visit_define
decreases-visit_define l = 4 * length l.rs.now

abbrev pub decreases-visit_if : goal.decreases-visit_if
decreases-visit_if l = 4 * length l.rs.now

abbrev pub decreases-visit_lambda_function : goal.decreases-visit_lambda_function
decreases-visit_lambda_function l = 4 * length l.rs.now

abbrev pub decreases-visit_let : goal.decreases-visit_let
decreases-visit_let l = 4 * length l.rs.now

abbrev pub decreases-visit_list : goal.decreases-visit_list
decreases-visit_list l = 4 * length l.rs.now

abbrev pub decreases-visit_part : goal.decreases-visit_part
decreases-visit_part l = 4 * length l.rs.now + 2

abbrev pub decreases-visit_set : goal.decreases-visit_set
decreases-visit_set l = 4 * length l.rs.now

abbrev pub invariant-visit_arguments-loop : goal.invariant-visit_arguments-loop
invariant-visit_arguments-loop l =
    (l.counter ≤ l.k)
    × (tables l.self ≡ tables l.initial.self)
    × ((x : FitRow values l.s.classes.now l.s.all.now l.rs l.k l.at l.initial.g (raw_of l.initial.self))
    → row_case.Left x l.used (l.k - l.counter) l.g (raw_of l.self))

abbrev pub invariant-visit_children-loop-i : goal.invariant-visit_children-loop-i
invariant-visit_children-loop-i l =
    (l.i ≤ l.k)
    × (tables l.self ≡ tables l.initial.self)
    × ((x : FitRow children l.s.classes.now l.s.all.now l.rs l.k l.at l.f (raw_of l.initial.self))
    → row_case.Left x l.used (l.k - l.i) l.f (raw_of l.self))
