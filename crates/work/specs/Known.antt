-- The identifiers of the tree: those that the records hold.
use Rattle.std.specs.Prelude.{ℕ, ◌<◌, List, ◌≡◌, length}
use Rattle.tree.specs.Record.{records, nth}
use Rattle.tree.specs.Tree.{Ident, named}
use Rattle.pass.specs.Run.{rows_most}

pub record Known (rs : List ℕ) (x : Ident) : Type 0 where
  pub inside : x.at < length (records rs)
  pub few : x.at < rows_most
  pub is : nth rs x.at ≡ named x
