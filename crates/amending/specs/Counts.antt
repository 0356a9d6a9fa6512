-- How often a name stands in the list made anew, where a second run leaves a lambda: what the functions promise.
use Rattle.std.specs.Prelude.{ℕ, suc, ◌+◌, ◌≤◌, ◌<◌, List, ◌∷◌, map, Bool, false, cond, ◌&&◌, ◌||◌, ◌≡◌, length, get_or, eqb, Option, is_some}
use Rattle.tree.specs.Tree.{Ident, Tree}
use Rattle.tree.specs.Check.{member}
use Rattle.scope_map.specs.ScopeMap.{Live}
use Rattle.semantic.specs.Rows.{ListEntry}
use Rattle.pass.specs.State.{State}
use Rattle.pass.specs.Lists.{captured_vars, count_of}
use Rattle.pass.specs.Lambda.{name_in, names_used, holds_lambda, now_used}
use Rattle.work.specs.Coded.{record_in}
use Rattle.work.specs.Works.{Works}
use Rattle.work.specs.Scope.{before}
use Rattle.work.specs.Tied.{Good}
use Rattle.work.specs.declared.Pass.{Pass}
use Rattle.walk.specs.Marks.{MarksUses}
use Rattle.walk.specs.declared.uses.Names.{Names}
use Rattle.amending.specs.declared.amend.Ending.{Ending}
use Rattle.amending.specs.Contract.{Body}
use Rattle.lists.specs.Contract.{Told}
use Rattle.lists.specs.Index.{Indexes}
use Rattle.lists.specs.Given.{given}

-- whether live row i is of the name and gives an entry
pub record GivesName (rs : List ℕ) (n : Names) (p : Pass) (w : List ℕ) (i name : ℕ) (r : Bool) : Type 0 where
  pub is : (xs : List Ident) (s : State) (e : Live Ident) → Told rs n xs → Works p w s
      → before (suc i) s.scope.names.live ≡ e ∷ before i s.scope.names.live
      → r ≡ (eqb e.name name && is_some (record_in (given (map name_in xs) s.scope e)))

pub record CountsNow (rs : List ℕ) (n : Names) (p : Pass) (w : List ℕ) (name r : ℕ) : Type 0 where
  pub is : (xs : List Ident) (s : State) → Told rs n xs → Good rs s → Works p w s → r ≡ count_of name (captured_vars (map name_in xs) s)

-- The names that the body uses

-- what a list is amended to: the entries of the list made anew whose names the body uses
abbrev pub now_of : List Ident → Tree → State → List ListEntry
now_of xs b s = now_used b (captured_vars (map name_in xs) s)

abbrev pub used_in : Tree → ℕ → Bool
used_in b x = holds_lambda b || member x (names_used b)

-- the marks tell which names the body uses, unless it holds a lambda
pub record MarksBody (rs : List ℕ) (d : Ending) (m : List ℕ) : Type 0 where
  pub is : d.holds ≡ false → MarksUses rs d.lambda.first d.lambda.end m

pub record TellsUsed (rs : List ℕ) (d : Ending) (m : List ℕ) (name : ℕ) (r : Bool) : Type 0 where
  pub is : (b : Tree) → Body rs d b → MarksBody rs d m → r ≡ used_in b name

-- All names counted

-- the counts tell of each name that they have how often it stands in the list
abbrev pub Counts : List ℕ → List ListEntry → Type 0
Counts a l = (x : ℕ) → x < length a → get_or a x 0 ≡ count_of x l

-- how often a name does, by the counts a
pub record CountsUsed (rs : List ℕ) (d : Ending) (p : Pass) (w a : List ℕ) (name r : ℕ) : Type 0 where
  pub is : (xs : List Ident) (b : Tree) (s : State) → Told rs d.lambda.names xs → Body rs d b → Good rs s → Works p w s → Counts a (now_of xs b s)
      → r ≡ count_of name (now_of xs b s)

abbrev pub AtMost : ℕ → List ℕ → Type 0
AtMost i a = (x : ℕ) → get_or a x 0 ≤ i

-- what live row i gives is counted, by an index and the marks m
pub record CountsRow (rs : List ℕ) (d : Ending) (p : Pass) (w : List ℕ) (index : List (Option ℕ)) (m : List ℕ) (i : ℕ) (a a' : List ℕ) : Type 0 where
  pub most : AtMost (i + 1) a'
  pub is : (xs : List Ident) (b : Tree) (s : State) (e : Live Ident) → Told rs d.lambda.names xs → Body rs d b → Works p w s
      → Indexes index (map name_in xs) s.scope → MarksBody rs d m → before (suc i) s.scope.names.live ≡ e ∷ before i s.scope.names.live
      → (x : ℕ) → x < length a
      → get_or a' x 0 ≡ get_or a x 0 + cond (eqb e.name x && (used_in b x && is_some (record_in (given (map name_in xs) s.scope e)))) 1 0

pub record CountsRows (rs : List ℕ) (d : Ending) (p : Pass) (w : List ℕ) (index : List (Option ℕ)) (m a : List ℕ) : Type 0 where
  pub is : (xs : List Ident) (b : Tree) (s : State) → Told rs d.lambda.names xs → Body rs d b → Good rs s → Works p w s → Indexes index (map name_in xs) s.scope
      → MarksBody rs d m → Counts a (now_of xs b s)

pub record CountsNames (rs : List ℕ) (d : Ending) (p : Pass) (w : List ℕ) (index : List (Option ℕ)) (a : List ℕ) : Type 0 where
  pub is : (xs : List Ident) (b : Tree) (s : State) → Told rs d.lambda.names xs → Body rs d b → Good rs s → Works p w s → Indexes index (map name_in xs) s.scope
      → Counts a (now_of xs b s)
