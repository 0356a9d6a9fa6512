-- What the functions over the captured lists of a second run promise, of every state that the tables hold.
use Rattle.std.specs.Prelude.{ℕ, ◌+◌, ◌*◌, ◌≤◌, List, [], map, ◌≡◌, length}
use Rattle.table.specs.Layout.{layout}
use Rattle.tree.specs.Tree.{Ident, Tree, size}
use Rattle.tree.specs.Stands.{Stands}
use Rattle.scope_map.specs.Hints.{rows_length}
use Rattle.semantic.specs.Rows.{ListEntry, put_list_entry}
use Rattle.semantic.specs.declared.ListAt.{ListAt}
use Rattle.pass.specs.State.{State}
use Rattle.pass.specs.Lists.{captured_vars, list_in, rewrite_captured, number_list, heap_count, amend_list}
use Rattle.pass.specs.Lambda.{name_in, now_used, kept_of, holds_lambda}
use Rattle.pass.specs.Run.{list_entries_most}
use Rattle.work.specs.Tied.{raw, Tied, Good}
use Rattle.work.specs.declared.Pass.{Pass}
use Rattle.walk.specs.Contract.{HoldsLambda}
use Rattle.lists.specs.Contract.{Told, Held, Becomes}
use Rattle.amending.specs.declared.amend.Lambda.{Lambda}
use Rattle.amending.specs.declared.amend.Ending.{Ending}

pub record SomeHeld (p : Pass) (C w : List ℕ) : Type 0 where
  pub rs : List ℕ
  pub held : Held rs p C w

-- the list of a lambda that a second run enters
pub record Numbers (e : ListAt) (p : Pass) (C w : List ℕ) (p' : Pass) (C' w' : List ℕ) : Type 0 where
  pub is : (rs : List ℕ) → Becomes rs p C w (number_list e) p' C' w'

-- there is room for its entries among the captures
abbrev pub CapturesRoom : Pass → ListAt → Type 0
CapturesRoom p e = 3 * (p.captures.length + e.length) ≤ rows_length

pub record CountsHeap (t : List ℕ) (e : ListAt) (r : ℕ) : Type 0 where
  pub is : (l : List ListEntry) → t ≡ layout put_list_entry l → length l ≡ list_entries_most → r ≡ heap_count (list_in l e)

-- the list of a lambda that a second run leaves

-- its body is b
pub record HasBody (rs : List ℕ) (l : Lambda) (b : Tree) : Type 0 where
  pub many : ℕ
  pub stands : Stands many rs l.first b
  pub ends : l.first + size b ≡ l.end

pub record SomeLambda (rs : List ℕ) (l : Lambda) : Type 0 where
  pub xs : List Ident
  pub b : Tree
  pub names : Told rs l.names xs
  pub body : HasBody rs l b

-- a lambda of which it is known whether its body holds one

pub record Body (rs : List ℕ) (d : Ending) (b : Tree) : Type 0 where
  pub lies : HasBody rs d.lambda b
  pub holds : d.holds ≡ holds_lambda b

pub record Ended (rs : List ℕ) (d : Ending) : Type 0 where
  pub lambda : SomeLambda rs d.lambda
  pub holds : HoldsLambda rs d.lambda.first d.lambda.end d.holds

abbrev pub amended_list : List Ident → Tree → ListAt → State → List ListEntry
amended_list xs b e s =
    let now = now_used b (captured_vars (map name_in xs) s) in
    amend_list now s.captures [] (kept_of b now (list_in s.facts.captured e))

pub record AmendsList (rs : List ℕ) (l : Lambda) (e : ListAt) (p : Pass) (C w : List ℕ) (n : ℕ) (C' w' : List ℕ) : Type 0 where
  pub many : (F A : List ℕ) (s : State) (xs : List Ident) (b : Tree) → Told rs l.names xs → HasBody rs l b → Good rs s → Tied (raw p F C A w) s
      → n ≡ length (amended_list xs b e s)
  pub is : (F A : List ℕ) (s : State) (xs : List Ident) (b : Tree) → Told rs l.names xs → HasBody rs l b → Good rs s → Tied (raw p F C A w) s
      → Tied (raw p F C' A w') (rewrite_captured e (amended_list xs b e s) s)
