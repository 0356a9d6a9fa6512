-- `stands`: a walk along a chain, newest first.
use native.Mathlib.Omega.{arith}
use Prim.Native.Nat.{suc, ◌-◌}
use mathlib.Core.Path.{◌≡◌, refl, sym, ◌∙◌}
use Rattle.scans.proofs.Repeated.{seen_hit, seen_none}
use Rattle.scans.proofs.Chaining.{chain_less, chain_next, chain_miss}
use Rattle.scans.proofs.ids.stands.Goals as goal

pub loop-p-init : goal.loop-p-init
loop-p-init c = (c.requires.chain, refl, c.requires.last_value)

pub returns-then-id : goal.returns-then-id
returns-then-id c =
    let l = c.loop-p in
    let s : l.p ≡ suc (l.p - 1) = omega arith in
    sym (l.invariant.1 ∙ seen_hit _ _ s (sym c.id.ensures ∙ c.if-id.true))

pub loop-p-smaller : goal.loop-p-smaller
loop-p-smaller c = chain_less c.loop-p.invariant.0 c.loop-p-test.true c.from-p.ensures

pub loop-p-preserved : goal.loop-p-preserved
loop-p-preserved c =
    let t = c in
    let l = t.loop-p in
    let h = t.loop-p-test.true in
    let e = c.from-p.ensures in
    let given : t.args.id ≡ 0 → ⊥ = λ z. omega (arith, l.invariant.2 z) in (
      chain_next l.invariant.0 h e,
      l.invariant.1 ∙ chain_miss l.invariant.0 h e given (λ m. c.if-id.false (c.id.ensures ∙ m)),
      λ z. absurd (given z),
    )

pub returns : goal.returns
returns c =
    let l = c.loop-p in
    let z : l.p ≡ 0 = omega arith in
    sym (l.invariant.1 ∙ seen_none _ _ z)
