-- `visit_atom`: for an identifier `read`, whose answer becomes a part of the pass.
use Rattle.steps.proofs.AtomCase.{ident_reads, ident_visited, const_visited}
use native.Mathlib.Omega.{arith}
use Rattle.steps.proofs.visit_atom.Goals as goal

pub returns-then-form-ne-IDENTIFIER : goal.returns-then-form-ne-IDENTIFIER
returns-then-form-ne-IDENTIFIER c = const_visited c.requires (λ e. omega (arith, c.if-form-ne-IDENTIFIER.true))

pub read-p-requires : goal.read-p-requires
read-p-requires c = ident_reads c.requires (omega (arith, c.if-form-ne-IDENTIFIER.false))

pub returns : goal.returns
returns c = ident_visited c.requires (omega (arith, c.if-form-ne-IDENTIFIER.false)) c.read-p.ensures
