-- `heaps_around`: by whether a lambda stands around, and has a fact.
use native.Mathlib.Omega.{arith}
use Rattle.layers.proofs.LetsCase.{no_lambda, around_few, around_fact, no_function, list_inside, heaps_counted}
use Rattle.layers.proofs.lets.heaps_around.Goals as goal

pub returns-in_err-a : goal.returns-in_err-a
returns-in_err-a c = rw (c.in_err-a.was, c.from_residual.ensures) (no_lambda _ _)

pub function_at-requires : goal.function_at-requires
function_at-requires c = omega (arith, c.wide.ensures, around_fact c.in_ok-a.a (rw c.in_ok-a.was at c.requires))

pub returns-in_err-v : goal.returns-in_err-v
returns-in_err-v c =
    let b = rw c.in_ok-a.was at c.requires in
    rw (c.in_ok-a.was, c.from_residual-in_err-v.ensures)
    (no_function c.in_ok-a.a (around_few _ b) c.function_at.result (rw c.wide.ensures at c.function_at.ensures) c.in_err-v.was)

pub heap_count-requires : goal.heap_count-requires
heap_count-requires c =
    let b = rw c.in_ok-a.was at c.requires in
    list_inside c.in_ok-a.a (around_few _ b) c.function_at.result (rw c.wide.ensures at c.function_at.ensures) c.in_ok-v.was b

pub returns : goal.returns
returns c =
    let b = rw c.in_ok-a.was at c.requires in
    let h = c.heap_count.ensures in
    rw c.in_ok-a.was (heaps_counted c.in_ok-a.a (around_few _ b) c.function_at.result (rw c.wide.ensures at c.function_at.ensures) c.in_ok-v.was h.counts_heap h.few)
