-- The two stages of a pass: on the first run each lambda and each let makes its lists; on the second it finds them made. What a visit may rely on, so that
-- it stays inside its tables.
use Rattle.std.specs.Prelude.{ℕ, zero, suc, ◌+◌, ◌-◌, ◌*◌, ◌≤◌, ◌<◌, List, [], ◌∷◌, Bool, ◌≡◌, length, Option, None, Some}
use Rattle.tree.specs.Tree.{Node, Tree, Trees, ident, const, if, letin, define, lambda, sequence, call, set!, nil, cons, bit, size, sizes}
use Rattle.tree.specs.Core.{core}
use Rattle.tree.specs.Define.{top_level}
use Rattle.tree.specs.Accepted.{All}
use Rattle.scope_map.specs.ScopeMap.{Live, newest_layer}
use Rattle.semantic.specs.Information.{NONE}
use Rattle.semantic.specs.Rows.{Row, Blank}
use Rattle.semantic.specs.Kinds.{function_in, let_in}
use Rattle.semantic.specs.declared.FunctionInformation.{FunctionInformation}
use Rattle.semantic.specs.declared.ListAt.{ListAt}
use Rattle.semantic.specs.declared.LetInformation.{LetInformation}
use Rattle.semantic.specs.declared.IdentifierStatus.TheVariants.{Global}
use Rattle.pass.specs.State.{Facts, State, with_context, list_entry_at, row_at, depth}
use Rattle.pass.specs.Lists.{is_of, numbered_capture}
use Rattle.pass.specs.Visit.{Flags, not_tail, is_lambda, visit_arguments, enter_children}
use Rattle.pass.specs.Run.{list_entries_most, start}

-- Lambdas and lets

-- F holds of the record of every lambda, L of that of every let
module _ (F L : ℕ → Type 0) where
  unfoldable mutual
    pub Blocks : Tree → Type 0
    Blocks (ident x) = Unit {0}
    Blocks (const n q) = Unit {0}
    Blocks (if n a b c) = Blocks a × Blocks b × Blocks c
    Blocks (letin n xs es b) = L n.at × BlocksAll es × Blocks b
    Blocks (define n x b) = Blocks b
    Blocks (lambda n xs b) = F n.at × Blocks b
    Blocks (sequence n es) = BlocksAll es
    Blocks (call n h es) = Blocks h × BlocksAll es
    Blocks (set! n x e) = Blocks e

    pub BlocksAll : Trees → Type 0
    BlocksAll nil = Unit {0}
    BlocksAll (cons t ts) = Blocks t × BlocksAll ts

-- The argument entries that are stored, and those that the live names may become
abbrev pub due : State → ℕ
due s = s.facts.arguments_top + length s.scope.names.live

-- does the tree enter a name before it is visited, in a begin or at top level
abbrev pub entering_form : Tree → ℕ
entering_form (ident x) = 0
entering_form (const n q) = 0
entering_form (if n a b c) = 0
entering_form (letin n xs es b) = 0
entering_form (define n x b) = bit (is_lambda b)
entering_form (lambda n xs b) = 0
entering_form (sequence n es) = 0
entering_form (call n h es) = 0
entering_form (set! n x e) = 0

abbrev pub entering : Tree → ℕ
entering t = entering_form (core t)

abbrev pub enterings : Trees → ℕ
enterings nil = 0
enterings (cons t ts) = entering t + enterings ts

-- the layers of live names, newest first
abbrev pub layers_of : {A : Type 0} → List (Live A) → List ℕ
layers_of [] = []
layers_of (e ∷ l) = e.layer ∷ layers_of l

-- How many captured entries a lambda's list has, by its fact; and those of n rows from i on
abbrev pub list_length : Option FunctionInformation → ℕ
list_length None = 0
list_length (Some v) = v.captured_vars.length

abbrev pub held : Row → ℕ
held r = list_length (function_in r)

abbrev pub lists : State → ℕ → ℕ → ℕ
lists s i zero = 0
lists s i (suc n) = held (row_at s i) + lists s (suc i) n

-- There is a bottom layer of names and of captures, and no capture lies above the newest
pub record Layered (s : State) : Type 0 where
  pub scope : 1 ≤ depth s
  pub captures : 1 ≤ s.captures.depth
  pub within : All (λ k. k ≤ s.captures.depth) (layers_of s.captures.live)

-- how many of the captured entries from r on, k of them, are mutated or not, as `which` says
abbrev pub of_kind : Bool → State → ℕ → ℕ → ℕ
of_kind which s r zero = 0
of_kind which s r (suc k) = bit (is_of which numbered_capture (list_entry_at s r)) + of_kind which s (suc r) k

-- Made or not

-- where a list ends
abbrev pub end_of : ListAt → ℕ
end_of e = e.first + e.length

-- the fact of a lambda whose captured entries end by c and its arguments by a; that of a let whose arguments do
abbrev pub ListsWithin : ℕ → ℕ → Option FunctionInformation → Type 0
ListsWithin c a None = ⊥
ListsWithin c a (Some v) = (end_of v.captured_vars ≤ c) × (end_of v.arguments ≤ a)

abbrev pub FunctionWithin : ℕ → ℕ → Row → Type 0
FunctionWithin c a r = ListsWithin c a (function_in r)

abbrev pub NamesWithin : ℕ → Option LetInformation → Type 0
NamesWithin a None = ⊥
NamesWithin a (Some v) = end_of v.arguments ≤ a

abbrev pub LetWithin : ℕ → Row → Type 0
LetWithin a r = NamesWithin a (let_in r)

abbrev pub IsBlank : Row → Type 0
IsBlank r = r ≡ Blank

-- no lambda and no let has its fact yet; each has it, with its lists within the tables
abbrev pub BlocksIn : (Row → Type 0) → (Row → Type 0) → State → Tree → Type 0
BlocksIn F L s t = Blocks (λ x. F (row_at s x)) (λ x. L (row_at s x)) t

abbrev pub BlocksAllIn : (Row → Type 0) → (Row → Type 0) → State → Trees → Type 0
BlocksAllIn F L s ts = BlocksAll (λ x. F (row_at s x)) (λ x. L (row_at s x)) ts

abbrev pub Unmade : State → Tree → Type 0
Unmade = BlocksIn IsBlank IsBlank

abbrev pub UnmadeAll : State → Trees → Type 0
UnmadeAll = BlocksAllIn IsBlank IsBlank

abbrev pub Made : State → Tree → Type 0
Made = BlocksIn (FunctionWithin list_entries_most list_entries_most) (LetWithin list_entries_most)

abbrev pub MadeAll : State → Trees → Type 0
MadeAll = BlocksAllIn (FunctionWithin list_entries_most list_entries_most) (LetWithin list_entries_most)

-- The stages

-- the innermost lambda around, if there is one, stands before the record i, and P holds of its row
abbrev pub Around : (Row → Type 0) → ℕ → State → Option Node → Type 0
Around P i s None = Unit {0}
Around P i s (Some n) = (n.at < i) × P (row_at s n.at)

-- on the first run nothing is made, there is room for r argument entries, all but one, and the n records may add captured entries
pub record First (i n r : ℕ) (U : Type 0) (around : Option Node) (s : State) : Type 0 where
  pub unmade : U
  pub function : Around IsBlank i s around
  pub room : due s + r ≤ suc list_entries_most
  pub captured : s.facts.captured_top + list_entries_most * n ≤ list_entries_most * list_entries_most

-- on the second all is made, and the lists of the n records from i on have room among the captures
pub record Second (i n : ℕ) (M : Type 0) (around : Option Node) (s : State) : Type 0 where
  pub made : M
  pub function : Around (FunctionWithin list_entries_most list_entries_most) i s around
  pub room : length s.captures.live + lists s i n ≤ list_entries_most
  pub arguments : s.facts.arguments_top ≤ list_entries_most
  pub captured : s.facts.captured_top ≤ list_entries_most

pub data OnRun (i n r : ℕ) (U M : Type 0) (around : Option Node) (s : State) : Type 0 where
  first : First i n r U around s → OnRun i n r U M around s
  second : Second i n M around s → OnRun i n r U M around s

pub record Staged (i n r : ℕ) (U M : Type 0) (around : Option Node) (s : State) : Type 0 where
  pub layered : Layered s
  pub run : OnRun i n r U M around s

-- before a tree is visited; before arguments or initial expressions are; before the children of a begin are, whose names have entered
abbrev pub Stage : ℕ → Tree → Flags → State → Type 0
Stage i t f s = Staged i (size t) (size t) (Unmade s t) (Made s t) f.function s

abbrev pub StageArguments : ℕ → Trees → Flags → State → Type 0
StageArguments i ts f s = Staged i (sizes ts) (sizes ts) (UnmadeAll s ts) (MadeAll s ts) f.function s

abbrev pub StageChildren : ℕ → Trees → Flags → State → Type 0
StageChildren i ts f s = Staged i (sizes ts) (suc (sizes ts) - enterings ts) (UnmadeAll s ts) (MadeAll s ts) f.function s

-- Where a let's names enter, its initial expressions visited
abbrev pub AfterInitials : List ℕ → Trees → Flags → State → State
AfterInitials classes es f s = with_context s.context (visit_arguments classes es (not_tail f) (with_context NONE s))

-- What a lambda finds of its fact: on entering, its lists lie within the tables and there is room for its captures; at its end, there is room for
-- its arguments, or its lists lie within the tables
abbrev pub EntersWithin : State → Option FunctionInformation → Type 0
EntersWithin s None = Unit {0}
EntersWithin s (Some v) =
    (end_of v.captured_vars ≤ list_entries_most) × (end_of v.arguments ≤ list_entries_most) × (length s.captures.live + v.captured_vars.length ≤ list_entries_most)

abbrev pub LeavesWithin : State → Option FunctionInformation → Type 0
LeavesWithin s None =
    (s.facts.arguments_top + length (newest_layer s.scope.names) ≤ list_entries_most)
    × (s.facts.captured_top + length s.scope.names.live ≤ list_entries_most * list_entries_most)
LeavesWithin s (Some v) = (end_of v.captured_vars ≤ list_entries_most) × (end_of v.arguments ≤ list_entries_most)

-- and a let, of its own and of the lambda around
abbrev pub LetEntersWithin : Option LetInformation → Type 0
LetEntersWithin None = Unit {0}
LetEntersWithin (Some v) = end_of v.arguments ≤ list_entries_most

abbrev pub LetLeavesWithin : ℕ → State → Row → Type 0
LetLeavesWithin k s r = r ≡ Blank → s.facts.arguments_top + k ≤ list_entries_most

abbrev pub CapturedWithin : Option FunctionInformation → Type 0
CapturedWithin None = Unit {0}
CapturedWithin (Some v) = end_of v.captured_vars ≤ list_entries_most

abbrev pub AroundWithin : State → Option Node → Type 0
AroundWithin s None = Unit {0}
AroundWithin s (Some n) = CapturedWithin (function_in (row_at s n.at))

-- Before the trees at top level are visited, which stand from the record i up to j; their names have entered
abbrev pub StageTops : ℕ → ℕ → Trees → State → Type 0
StageTops i j ts s = Staged i (j - i) (suc (sizes ts) - enterings ts) (UnmadeAll s ts) (MadeAll s ts) None s

-- Where a run with the facts f begins its visits; and what it leaves, where it noted no refusal 10
abbrev pub entered : List ℕ → Trees → Facts → State
entered classes ts f = enter_children classes Global (top_level ts) (start f)

pub record Left (ts : Trees) (s : State) : Type 0 where
  pub made : MadeAll s (top_level ts)
  pub lists : lists s 0 (sizes ts) ≤ list_entries_most
  pub arguments : s.facts.arguments_top ≤ list_entries_most
  pub captured : s.facts.captured_top ≤ list_entries_most
