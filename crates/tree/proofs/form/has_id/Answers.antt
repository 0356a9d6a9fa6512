-- `has_id`: by the form's row.
use native.Mathlib.Omega.{arith}
use Rattle.tree.proofs.Laws.Form.{id_on, id_at, no_id}
use Rattle.tree.proofs.form.has_id.Goals as goal

pub returns-in_default : goal.returns-in_default
returns-in_default c = no_id _ (λ e. omega arith) (λ e. omega arith) c.in_default.in_default-own.rest.1

pub returns-in_default-2 : goal.returns-in_default-2
returns-in_default-2 c = no_id _ (λ e. omega arith) (λ e. omega arith) c.in_default.in_default-own.rest.1

pub returns-in-1-to-2 : goal.returns-in-1-to-2
returns-in-1-to-2 c = id_at _ c.in-1-to-2.in-1-to-2-own.keys1

pub returns-in-1-to-2-2 : goal.returns-in-1-to-2-2
returns-in-1-to-2-2 c = id_on _ (omega arith) (omega arith)
