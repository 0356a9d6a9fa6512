-- What the checks accept: the records of trees. Document 01, "The tree".
use Rattle.std.specs.Prelude.{ℕ, ◌≤◌, List, [], ◌∷◌, true, ◌≡◌}
use Rattle.tree.specs.Record.{Record, numbers}
use Rattle.tree.specs.Form.{fits}
use Rattle.tree.specs.Tree.{Trees, flats, sizes, nestings, Nums}

abbrev pub All : {A : Type 0} → (A → Type 0) → List A → Type 0
All P [] = Unit {0}
All P (a ∷ l) = P a × All P l

-- no id stands twice; 0 is none
abbrev pub Distinct : List Record → Type 0
Distinct [] = Unit {0}
Distinct (r ∷ l) = All (λ q. r.id ≡ q.id → r.id ≡ 0) l × Distinct l

-- rs are the records of the trees ts, over N names, within every limit. That names stand in the names' places and that no call is
-- empty is in what a tree is.
pub record Accepted (N : ℕ) (rs : List ℕ) (ts : Trees) : Type 0 where
  pub flat : rs ≡ numbers (flats ts)
  pub num : Nums 0 ts
  pub fields : All (λ r. fits N r ≡ true) (flats ts)
  pub nested : nestings ts ≤ 64
  pub few : sizes ts ≤ 4096
  pub names : N ≤ 1024
  pub ids : Distinct (flats ts)
