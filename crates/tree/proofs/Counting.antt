-- The two columns give a form's children, and the names among them, at every count.
use Rattle.std.specs.Prelude.{ℕ, ◌+◌, ◌*◌, ◌≤◌, ◌≡◌, get_or}
use Rattle.std.proofs.Common.{arith}
use Rattle.tree.specs.Form.{form_of, names_of, others_of, children_of}
use Rattle.tree.specs.declared.form.TheConstants.{CHILDREN, NAMES}
use Rattle.tree.proofs.Laws.Form.{each}

pub counts_children : (f c : ℕ) → f ≤ 12 → get_or CHILDREN.fixed f 0 + get_or CHILDREN.counted f 0 * c ≡ children_of f c
unfolding form_of names_of others_of children_of
counts_children f c h = each (λ n. get_or CHILDREN.fixed n 0 + get_or CHILDREN.counted n 0 * c ≡ children_of n c) 13 (omega arith) f (omega arith)

pub counts_names : (f c : ℕ) → f ≤ 12 → get_or NAMES.fixed f 0 + get_or NAMES.counted f 0 * c ≡ names_of f c
unfolding form_of names_of
counts_names f c h = each (λ n. get_or NAMES.fixed n 0 + get_or NAMES.counted n 0 * c ≡ names_of n c) 13 (omega arith) f (omega arith)
