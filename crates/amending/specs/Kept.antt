-- The list that a second run keeps at a lambda's end, entry by entry: what its functions promise.
use Rattle.std.specs.Prelude.{ℕ, ◌-◌, ◌≤◌, ◌<◌, List, ◌∷◌, map, Bool, cond, not, ◌&&◌, ◌||◌, ◌≡◌, length, set, replicate, eqb, Option, None, Some}
use Rattle.std.proofs.lemmas.List.Edits.{sets}
use Rattle.table.specs.Layout.{layout}
use Rattle.tree.specs.Tree.{Ident, Tree}
use Rattle.tree.specs.Check.{member}
use Rattle.scope_map.specs.ScopeMap.{ScopeMap, get}
use Rattle.semantic.specs.Rows.{ListEntry, no_list_entry, put_list_entry}
use Rattle.semantic.specs.ListEntries.{with_enclosing, with_heap}
use Rattle.semantic.specs.declared.ScopeInfo.{ScopeInfo}
use Rattle.pass.specs.State.{State, Scope, Capture, list_entry_at, list_entry_of, with_captured}
use Rattle.pass.specs.Lists.{name_of, names_of, count_of, first_of, kept_list_entry, enclosing_of}
use Rattle.pass.specs.Lambda.{name_in}
use Rattle.pass.specs.Run.{rows_most, list_entries_most}
use Rattle.work.specs.Coded.{record_in}
use Rattle.work.specs.Works.{Works}
use Rattle.work.specs.Tied.{Raw, raw, Tied, Good}
use Rattle.work.specs.declared.Pass.{Pass}
use Rattle.walk.specs.Marks.{is_marked}
use Rattle.walk.specs.declared.uses.Names.{Names}
use Rattle.lists.specs.declared.rows.ListEntry.{ListEntry as Coded}
use Rattle.amending.specs.declared.amend.Ending.{Ending}
use Rattle.amending.specs.Contract.{Body, Ended}
use Rattle.lists.specs.Contract.{Told, Held, ListEntryIs}
use Rattle.lists.specs.Index.{entry_in, Indexes}
use Rattle.lists.specs.Given.{rows_up_to}
use Rattle.amending.specs.Counts.{now_of, Counts}

-- the marks tell which names stand in the list
abbrev pub Marks : List ℕ → List ℕ → Type 0
Marks m l = (x : ℕ) → x < length m → is_marked m x ≡ member x l

-- whether a name stands in the rows, by the marks m
pub record StandsBefore (C : List ℕ) (first end : ℕ) (m : List ℕ) (name : ℕ) (r : Bool) : Type 0 where
  pub is : (l : List ListEntry) → C ≡ layout put_list_entry l → length l ≡ list_entries_most → Marks m (names_of (rows_up_to first end l)) → r ≡ member name (names_of (rows_up_to first end l))

-- One entry

-- the entry of a binder
abbrev pub list_entry_in : Scope → Option Ident → Option ListEntry
list_entry_in c None = None
list_entry_in c (Some b) = Some (list_entry_of b (entry_in c b.at))

abbrev pub amended_info : Option ListEntry → Bool → ScopeInfo → ScopeInfo
amended_info None enclosing v = v
amended_info (Some i) enclosing v = with_heap i.info.heap_offset (with_enclosing enclosing v)

-- a binder whose record lies inside the table, if any
pub record SomeBinder (found : Option ℕ) : Type 0 where
  pub o : Option Ident
  pub code : found ≡ record_in o
  pub few : (b : Ident) → o ≡ Some b → b.at < rows_most

pub record AmendsInfo (found : Option ℕ) (p : Pass) (w : List ℕ) (name n : ℕ) (v r : ScopeInfo) : Type 0 where
  pub is : (s : State) (o : Option Ident) → Works p w s → found ≡ record_in o
      → r ≡ amended_info (list_entry_in s.scope o) (eqb n 1 && enclosing_of (get s.captures name)) v

-- a state is held for which the index is right
pub record IndexHeld (rs : List ℕ) (n : Names) (p : Pass) (w : List ℕ) (index : List (Option ℕ)) : Type 0 where
  pub xs : List Ident
  pub told : Told rs n xs
  pub s : State
  pub works : Works p w s
  pub good : Good rs s
  pub indexes : Indexes index (map name_in xs) s.scope

-- the entry x of a name that stands n times in the list made anew, as it is kept if one of its name is kept before it or not
pub record KeepsListEntry (rs : List ℕ) (names : Names) (p : Pass) (w : List ℕ) (index : List (Option ℕ)) (n : ℕ) (seen : Bool) (x r : Coded) : Type 0 where
  pub is : (xs : List Ident) (b : Tree) (s : State) (y : ListEntry) → Told rs names xs → Good rs s → Works p w s → Indexes index (map name_in xs) s.scope
      → n ≡ count_of x.name (now_of xs b s) → ListEntryIs x y
      → ListEntryIs r (cond seen y (kept_list_entry (now_of xs b s) s.captures (first_of (name_of y) (now_of xs b s)) y))

-- One row

-- whether an entry of the name is kept
abbrev pub is_kept : Bool → List ListEntry → ℕ → Bool
is_kept holds now x = holds || not (eqb (count_of x now) 0)

-- as it is kept after the entries l
abbrev pub kept_after : List ListEntry → ScopeMap Capture → List ListEntry → ListEntry → ListEntry
kept_after now m l x = cond (member (name_of x) (names_of l)) x (kept_list_entry now m (first_of (name_of x) now) x)

abbrev pub kept_row : Bool → List ListEntry → ScopeMap Capture → ℕ → ℕ → ListEntry → List ListEntry → List ListEntry
kept_row holds now m first to x l = cond (is_kept holds now (name_of x)) (set l to (kept_after now m (rows_up_to first to l) x)) l

-- the names of the rows then
abbrev pub kept_names : Bool → List ListEntry → ℕ → List ℕ → List ℕ
kept_names holds now x l = cond (is_kept holds now x) (x ∷ l) l

pub record KeepHeld (rs : List ℕ) (d : Ending) (p : Pass) (index : List (Option ℕ)) (first to r : ℕ) (C w : List ℕ) : Type 0 where
  pub ended : Ended rs d
  pub held : Held rs p C w
  pub indexes : Indexes index (map name_in ended.lambda.xs) held.s.scope
  pub order : first ≤ to
  pub most : to ≤ r
  pub inside : r < list_entries_most

-- the index and the counts are right in a state that is good
pub record Right (rs : List ℕ) (d : Ending) (index : List (Option ℕ)) (counts : List ℕ) (xs : List Ident) (b : Tree) (s : State) : Type 0 where
  pub told : Told rs d.lambda.names xs
  pub body : Body rs d b
  pub good : Good rs s
  pub indexes : Indexes index (map name_in xs) s.scope
  pub counted : Counts counts (now_of xs b s)

-- and the marks m of the rows from `first` up to `to`
abbrev pub Seen : List ℕ → ℕ → ℕ → State → Type 0
Seen m first to s = Marks m (names_of (rows_up_to first to s.facts.captured))

-- row r is kept among those from `first` up to `to`, or not: k tells it, and the marks m tell the names of the rows then
pub record RowKept (holds : Bool) (now : List ListEntry) (first to r : ℕ) (s : State) (z : Raw) (k : Bool) (m : List ℕ) : Type 0 where
  pub tied : Tied z (with_captured (kept_row holds now s.captures first to (list_entry_at s r) s.facts.captured) s)
  pub kept : k ≡ is_kept holds now (name_of (list_entry_at s r))
  pub seen : Marks m (kept_names holds now (name_of (list_entry_at s r)) (names_of (rows_up_to first to s.facts.captured)))

module _ (rs : List ℕ) (d : Ending) (p : Pass) (index : List (Option ℕ)) (counts : List ℕ) (m : List ℕ) (first to r : ℕ) (C w : List ℕ) where
  pub record KeepsRow (k : Bool) (m' C' w' : List ℕ) : Type 0 where
    pub is : (F A : List ℕ) (s : State) (xs : List Ident) (b : Tree) → Right rs d index counts xs b s → Seen m first to s → Tied (raw p F C A w) s
        → RowKept d.holds (now_of xs b s) first to r s (raw p F C' A w') k m'

-- the index and the counts are right in every state held
pub record AllRight (rs : List ℕ) (d : Ending) (p : Pass) (w : List ℕ) (index : List (Option ℕ)) (counts : List ℕ) : Type 0 where
  pub indexes : (xs : List Ident) (s : State) → Told rs d.lambda.names xs → Works p w s → Indexes index (map name_in xs) s.scope
  pub counted : (xs : List Ident) (b : Tree) (s : State) → Told rs d.lambda.names xs → Body rs d b → Good rs s → Works p w s → Counts counts (now_of xs b s)

-- What the list gives up

-- zeros in the rows from `first` up to `end`
abbrev pub cleared : ℕ → ℕ → List ListEntry → List ListEntry
cleared first end l = sets l first (replicate (end - first) no_list_entry)
