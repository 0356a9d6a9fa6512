-- Where in the records a tree stands.
use Rattle.std.specs.Prelude.{ℕ, ◌+◌, ◌*◌, ◌≤◌, List, ◌++◌, map, true, ◌≡◌, length, drop}
use Rattle.tree.specs.Record.{Record, width, numbers}
use Rattle.tree.specs.Form.{fits}
use Rattle.tree.specs.Tree.{Ident, Tree, Trees, named, flat, flats, NumNames, Num, Nums}
use Rattle.tree.specs.Accepted.{All}

-- the records l stand in rs from the record at on, each within the limits, over N names
pub record Within (N : ℕ) (rs : List ℕ) (at : ℕ) (l : List Record) : Type 0 where
  pub rest : List ℕ
  pub is : drop (width * at) rs ≡ numbers l ++ rest
  pub inside : width * at ≤ length rs
  pub fields : All (λ r. fits N r ≡ true) l
  pub few : at + length l ≤ 4096

pub record Stands (N : ℕ) (rs : List ℕ) (at : ℕ) (t : Tree) : Type 0 where
  pub within : Within N rs at (flat t)
  pub num : Num at t

pub record StandAll (N : ℕ) (rs : List ℕ) (at : ℕ) (ts : Trees) : Type 0 where
  pub within : Within N rs at (flats ts)
  pub num : Nums at ts

pub record NamesStand (N : ℕ) (rs : List ℕ) (at : ℕ) (xs : List Ident) : Type 0 where
  pub within : Within N rs at (map named xs)
  pub num : NumNames at xs
