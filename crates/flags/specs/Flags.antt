-- What a visit inherits, as the code holds it.
use Rattle.std.specs.Prelude.{ℕ, Bool, ◌≡◌, Option, None, Some}
use Rattle.tree.specs.Tree.{Node, Tree}
use Rattle.pass.specs.Visit.{Flags, is_lambda, body_flags, head_flags}
use Rattle.flags.specs.declared.Flags.{Flags as Coded}
use Rattle.flags.specs.declared.Around.{Around}

abbrev pub AroundIs : Option Around → Option Node → Type 0
AroundIs (Some a) (Some n) = (a.at ≡ n.at) × (a.id ≡ n.id)
AroundIs None None = Unit {0}
AroundIs (Some a) None = ⊥
AroundIs None (Some n) = ⊥

pub record FlagsAre (g : Coded) (f : Flags) : Type 0 where
  pub tail : g.tail ≡ f.tail
  pub escape : g.escape ≡ f.escape
  pub height : g.height ≡ f.height
  pub counter : g.counter ≡ f.counter
  pub function : AroundIs g.function f.function
  pub direct : g.direct ≡ f.direct

-- what a number of the code stays below
abbrev pub Most : ℕ
Most = 4294967296

-- what a part is handed, from what the whole was
pub record Handed (g : Coded) (f : Flags → Flags) (r : Coded) : Type 0 where
  pub is : (h : Flags) → FlagsAre g h → FlagsAre r (f h)

-- the body of the lambda at the record, with k parameters
pub record HandsBody (g : Coded) (at id k : ℕ) (r : Coded) : Type 0 where
  pub is : (n : Node) (h : Flags) → at ≡ n.at → id ≡ n.id → FlagsAre g h → FlagsAre r (body_flags n k h)

-- the head of a call with k arguments
pub record HandsHead (g : Coded) (lambda : Bool) (k : ℕ) (r : Coded) : Type 0 where
  pub is : (t : Tree) (h : Flags) → lambda ≡ is_lambda t → FlagsAre g h → FlagsAre r (head_flags t k h)
