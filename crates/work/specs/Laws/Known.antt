-- An identifier that stands in the records is known.
use Rattle.std.specs.Prelude.{ℕ, List}
use Rattle.tree.specs.Tree.{Ident}
use Rattle.tree.proofs.Laws.Stands.{IdentAt}
use Rattle.work.specs.Known.{Known}

pub known_ident : {N : ℕ} {rs : List ℕ} {x : Ident} → IdentAt N rs x → Known rs x
known_ident a = record { inside = a.inside; few = a.few; is = a.is }
