-- `define_at`: a row is replaced, or added.
use native.Mathlib.Omega.{arith}
use Rattle.scope_map.proofs.Cases.{define-old, define-new}
use Rattle.scope_map.proofs.ScopeMap.define_at.Goals as goal

pub put-requires : goal.put-requires
put-requires c =
    let i = c.place-place.result in
    (omega (arith, c.place-place.ensures.most), c.requires.1, omega (arith, c.requires.0.rows, c.requires.0.long))

pub returns-then-place-length : goal.returns-then-place-length
returns-then-place-length c =
    let s = c in
    define-old c.place-place.ensures _ s.requires.0 s.requires.1 c.if-place-length.true c.put.ensures

pub returns : goal.returns
returns c = define-new c.place-place.ensures c.requires.0 c.enter.ensures c.if-place-length.false
