-- What the claims presume of a tree.
use Rattle.std.specs.Prelude.{List, [], true, ◌≡◌, ℕ, length, None}
use mathlib.Core.List.{Memᴰ as Member}
use Rattle.tree.specs.Tree.{Trees}
use Rattle.tree.specs.Define.{inner_defines}
use Rattle.tree.specs.Accepted.{Accepted}
use Rattle.pass.specs.Run.{fresh, settled, refused_first, or_second}
use Rattle.r7rs.specs.Binding.{Use, uses}

-- the records rs are the tree ts, and the fresh run refuses nothing
pub record FreshAccepts (classes rs : List ℕ) (ts : Trees) : Type 0 where
  pub accepted : Accepted (length classes) rs ts
  pub not_refused : refused_first (fresh classes ts).noted ≡ None

-- nor does the settled run
pub record SettledAccepts (classes rs : List ℕ) (ts : Trees) : Type 0 where
  pub accepted : Accepted (length classes) rs ts
  pub not_refused : or_second (refused_first (fresh classes ts).noted) (settled classes ts).noted.second ≡ None

-- "with no inner define and no set! of a parameter or let name that an inner lambda mentions"
pub record Premises (ts : Trees) : Type 0 where
  pub no_inner_define : inner_defines ts ≡ []
  pub no_inner_set : (u v : Use) → Member u (uses ts) → Member v (uses ts) → u.binder ≡ v.binder → u.is_set ≡ true → v.is_inner ≡ true → ⊥
