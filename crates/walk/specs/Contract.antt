-- What the functions over the records of a tree promise, of every tree that stands there.
use Rattle.std.specs.Prelude.{ℕ, ◌+◌, ◌<◌, List, map, Bool, ◌≡◌, length}
use Rattle.tree.specs.Tree.{Ident, Tree, size}
use Rattle.tree.specs.Core.{core, peel}
use Rattle.tree.specs.Check.{member}
use Rattle.tree.specs.Stands.{Stands, NamesStand}
use Rattle.pass.specs.Read.{is_ident_of, is_builtin, is_required, alias}
use Rattle.pass.specs.Lambda.{names_used, holds_lambda, name_in}
use Rattle.pass.specs.Visit.{is_lambda_form}
use Rattle.walk.specs.declared.body.Body.{Body}
use Rattle.walk.specs.declared.uses.Names.{Names}

-- a tree stands at the record, over N names; over some
pub record SomeTreeOf (N : ℕ) (rs : List ℕ) (at : ℕ) : Type 0 where
  pub t : Tree
  pub stands : Stands N rs at t

pub record SomeTree (rs : List ℕ) (at : ℕ) : Type 0 where
  pub names : ℕ
  pub tree : SomeTreeOf names rs at

pub record Extends (rs : List ℕ) (at n : ℕ) : Type 0 where
  pub is : (N : ℕ) (t : Tree) → Stands N rs at t → n ≡ size t

-- the next tree starts n records on, where `left` are to come
pub record StepsOver (rs : List ℕ) (at left n : ℕ) : Type 0 where
  pub none : left ≡ 0 → n ≡ 0
  pub some : 0 < left → Extends rs at n

-- the records from `first` up to `end` are a tree's
pub record SomeBody (rs : List ℕ) (first end : ℕ) : Type 0 where
  pub names : ℕ
  pub t : Tree
  pub stands : Stands names rs first t
  pub ends : first + size t ≡ end

pub record UsesName (rs : List ℕ) (first end name : ℕ) (r : Bool) : Type 0 where
  pub is : (N : ℕ) (t : Tree) → Stands N rs first t → first + size t ≡ end → r ≡ member name (names_used t)

pub record HoldsLambda (rs : List ℕ) (first end : ℕ) (r : Bool) : Type 0 where
  pub is : (N : ℕ) (t : Tree) → Stands N rs first t → first + size t ≡ end → r ≡ holds_lambda t

-- names stand in a row
pub record SomeNames (rs : List ℕ) (n : Names) : Type 0 where
  pub names : ℕ
  pub xs : List Ident
  pub stand : NamesStand names rs n.first xs
  pub many : length xs ≡ n.count

pub record HoldsName (rs : List ℕ) (n : Names) (x : ℕ) (r : Bool) : Type 0 where
  pub is : (N : ℕ) (xs : List Ident) → NamesStand N rs n.first xs → length xs ≡ n.count → r ≡ member x (map name_in xs)

-- from the record at, r is reached by stepping over ands of one child
pub record Reaches (rs : List ℕ) (at r : ℕ) : Type 0 where
  pub is : (N : ℕ) (t : Tree) → Stands N rs at t → Stands N rs r (peel t)
  pub ends : (N : ℕ) (t : Tree) → Stands N rs at t → r + size (peel t) ≡ at + size t

pub record TellsIdent (classes : List ℕ) (k : ℕ) (rs : List ℕ) (at : ℕ) (r : Bool) : Type 0 where
  pub is : (t : Tree) → Stands (length classes) rs at t → r ≡ is_ident_of classes k t

pub record TellsBuiltin (classes : List ℕ) (rs : List ℕ) (at : ℕ) (r : Bool) : Type 0 where
  pub is : (t : Tree) → Stands (length classes) rs at t → r ≡ is_builtin classes t

-- a tree by its form
abbrev pub body_form : List ℕ → Tree → Body
body_form classes t = record { builtin = is_builtin classes t; required = is_required classes t; alias = alias t; lambda = is_lambda_form t }

abbrev pub body_of : List ℕ → Tree → Body
body_of classes t = body_form classes (core t)

pub record TellsForm (classes : List ℕ) (rs : List ℕ) (at : ℕ) (r : Body) : Type 0 where
  pub is : (t : Tree) → Stands (length classes) rs at t → r ≡ body_form classes t

pub record TellsBody (classes : List ℕ) (rs : List ℕ) (at : ℕ) (r : Body) : Type 0 where
  pub is : (t : Tree) → Stands (length classes) rs at t → r ≡ body_of classes t
