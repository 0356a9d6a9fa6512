-- What the visit of an identifier or a constant promises, of every tree and every state that fit.
use Rattle.std.specs.Prelude.{ℕ, ◌≤◌, List, ◌≡◌, length}
use Rattle.tree.specs.Record.{nth}
use Rattle.tree.specs.Tree.{Tree}
use Rattle.tree.specs.Stands.{Stands}
use Rattle.pass.specs.State.{State}
use Rattle.pass.specs.Visit.{Flags, visit}
use Rattle.work.specs.Tied.{raw, Tied, Good}
use Rattle.work.specs.declared.Pass.{Pass}

-- a tree stands at the record, whose form is that of an identifier or a constant, and some state is held
pub record AtomFits (N : ℕ) (rs : List ℕ) (form at : ℕ) (p : Pass) (F C w : List ℕ) : Type 0 where
  pub arguments : List ℕ
  pub t : Tree
  pub s : State
  pub own : form ≡ (nth rs at).form
  pub atom : form ≤ 2
  pub stands : Stands N rs at t
  pub good : Good rs s
  pub tied : Tied (raw p F C arguments w) s

-- a state becomes `visit` of the tree: an identifier is read in it, a constant leaves it as it was
pub record VisitsAtom (classes rs : List ℕ) (at : ℕ) (p : Pass) (F C w : List ℕ) (p' : Pass) (F' w' : List ℕ) : Type 0 where
  pub is : (A : List ℕ) (t : Tree) (f : Flags) (s : State) → Stands (length classes) rs at t → Good rs s → Tied (raw p F C A w) s
      → Tied (raw p' F' C A w') (visit classes t f s)
