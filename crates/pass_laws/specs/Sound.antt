-- What a state holds: identifiers of the tree alone, rows inside their table, counts of uses and layers within bounds. The code of the pass stays
-- inside its tables by it.
use Rattle.std.specs.Prelude.{ℕ, suc, ◌+◌, ◌≤◌, ◌<◌, List, Bool, true, false, ◌≡◌, length, Option, None, Some}
use Rattle.tree.specs.Tree.{Ident, Tree, Trees, ident, const, if, letin, define, lambda, sequence, call, set!, nil, cons, many, begins, ands, whens}
use Rattle.tree.specs.Core.{cores}
use Rattle.tree.specs.Accepted.{All}
use Rattle.semantic.specs.Information.{NONE}
use Rattle.scope_map.specs.ScopeMap.{Live}
use Rattle.semantic.specs.Rows.{Row, Blank, Variable, Function, CallSite, Let, ListEntry, no_list_entry}
use Rattle.semantic.specs.declared.ListAt.{ListAt}
use Rattle.semantic.specs.declared.FunctionInformation.{FunctionInformation}
use Rattle.semantic.specs.declared.ScopeInfo.{ScopeInfo}
use Rattle.semantic.specs.declared.IdentifierStatus.TheVariants.{LocallyDefinedFunction}
use Rattle.pass.specs.State.{Entry, State, no_entry, with_context, list_entry_at, info_at, row_at, entry_at, list_entry_of, depth}
use Rattle.pass.specs.Read.{enter_top_level_value}
use Rattle.pass.specs.Lists.{captured_most}
use Rattle.pass.specs.Lambda.{function_in, open_lambda, open_let}
use Rattle.pass.specs.Visit.{Flags, top_flags, not_tail, same_tail, pushed, let_body_flags, body_flags, argument_flags, is_lambda, head_flags, is_nil, child_flags, define_flags, clear_context, open_define, enter_children, visit, visit_arguments, visit_top, in_begin, in_and, is_alone}
use Rattle.pass.specs.Run.{rows_most}

-- A property of what a state holds: identifiers, captured entries and captures

pub record Property : Type 1 where
  pub ident : Ident → Type 0  -- of a binder, and of a last use
  pub list_entry : ListEntry → Type 0  -- of a captured entry
  pub row : ℕ → Type 0  -- of the row of an entry that becomes a capture
  pub capture : ℕ → Ident → Type 0  -- of a capture's row and binder

-- It passes on to what the pass makes of them
pub record Lawful (Q : Property) : Type 0 where
  pub absent : Q.list_entry no_list_entry
  pub made : (b : Ident) (e : Entry) → Q.ident b → Q.list_entry (list_entry_of b e)
  pub changed : (x : ListEntry) (v : ScopeInfo) → v.id ≡ x.info.id → Q.list_entry x → Q.list_entry (record { binder = x.binder; info = v })
  pub taken : (r : ℕ) (x : ListEntry) → Q.row r → Q.list_entry x → Q.capture r x.binder

-- F k n: n uses are few enough for k
pub record Counting (F : ℕ → ℕ → Type 0) : Type 0 where
  pub none : (k : ℕ) → F k 0
  pub keep : (k m n : ℕ) → k ≤ m → F k n → F m n
  pub more : (k n : ℕ) → F k n → F (suc k) (suc n)

-- the uses that an identifier's fact counts
abbrev pub uses_in : Row → ℕ
uses_in Blank = 0
uses_in (Variable v) = v.usage_count
uses_in (Function v) = 0
uses_in (CallSite v) = 0
uses_in (Let v) = 0

-- a live name is its binder's
abbrev pub IsNamed : Live Ident → Type 0
IsNamed e = e.value.name ≡ e.name

-- All that s holds has the property Q, and every count of uses has F
pub record Each (Q : Property) (F : ℕ → Type 0) (s : State) : Type 0 where
  pub named : All IsNamed s.scope.names.live
  pub binders : All (λ e. Q.ident e.value) s.scope.names.live
  pub lasts : (i : ℕ) (y : Ident) → (entry_at s i).last_used ≡ Some y → Q.ident y
  pub list_entries : (i : ℕ) → Q.list_entry (list_entry_at s i)
  pub taken : All (λ c. Q.capture c.value.row c.value.binder) s.captures.live
  pub entry_uses : (i : ℕ) → F (entry_at s i).usage_count
  pub row_uses : (i : ℕ) → F (uses_in (row_at s i))
  pub list_entry_uses : (i : ℕ) → F (info_at s i).usage_count
  pub capture_uses : All (λ c. F c.value.usage_count) s.captures.live
  -- entries are made for binders alone
  pub owned : (i : ℕ) → ((b : Ident) → Q.ident b → b.at ≡ i → ⊥) → entry_at s i ≡ no_entry

-- Identifiers have P, and the rows of captures lie inside the table

abbrev pub known : (Ident → Type 0) → Property
known P = record {
  ident = P;
  list_entry = λ x. (x.info.id ≡ x.binder.id) × (x.binder.at < rows_most);
  row = λ r. r < captured_most;
  capture = λ r b. (r < captured_most) × (b.at < rows_most);
}

abbrev pub Sound : (Ident → Type 0) → State → Type 0
Sound P s = Each (known P) (λ n. Unit {0}) s

-- No count of uses passes k

abbrev pub anything : Property
anything = record { ident = λ x. Unit {0}; list_entry = λ x. Unit {0}; row = λ r. Unit {0}; capture = λ r b. Unit {0} }

abbrev pub Counted : ℕ → State → Type 0
Counted k s = Each anything (λ n. n ≤ k) s

-- From s to t: as many layers, and at most b - a live names more
pub record Grows (a b : ℕ) (s t : State) : Type 0 where
  pub live : length t.scope.names.live + a ≤ length s.scope.names.live + b
  pub layers : 1 ≤ depth s → depth t ≡ depth s
  pub capture_layers : 1 ≤ s.captures.depth → t.captures.depth ≡ s.captures.depth

-- every identifier of a tree has P
module _ (P : Ident → Type 0) where
  unfoldable mutual
    pub Holds : Tree → Type 0
    Holds (ident x) = P x
    Holds (const n q) = Unit {0}
    Holds (if n a b c) = Holds a × Holds b × Holds c
    Holds (letin n xs es b) = All P xs × HoldsAll es × Holds b
    Holds (define n x b) = P x × Holds b
    Holds (lambda n xs b) = All P xs × Holds b
    Holds (sequence n es) = HoldsAll es
    Holds (call n h es) = Holds h × HoldsAll es
    Holds (set! n x e) = P x × Holds e

    pub HoldsAll : Trees → Type 0
    HoldsAll nil = Unit {0}
    HoldsAll (cons t ts) = Holds t × HoldsAll ts

-- every row of a list has R; of a lambda's captured list, if it has a fact

abbrev pub OverRows : (ℕ → Type 0) → ListAt → Type 0
OverRows R e = (r : ℕ) → e.first ≤ r → r < e.first + e.length → R r

abbrev pub Listed : (ℕ → Type 0) → Option FunctionInformation → Type 0
Listed R None = Unit {0}
Listed R (Some v) = OverRows R v.captured_vars

-- that list lies inside the table
abbrev pub Inside : Option FunctionInformation → Type 0
Inside None = Unit {0}
Inside (Some v) = v.captured_vars.first + v.captured_vars.length ≤ captured_most

-- Every lambda that a visit enters finds a fact with L, or none
module _ (L : Option FunctionInformation → Type 0) (classes : List ℕ) where
  unfoldable mutual
    pub Opens : Tree → Flags → State → Type 0
    Opens (ident x) f s = Unit {0}
    Opens (const n q) f s = Unit {0}
    Opens (if n a b c) f s =
        Opens a (not_tail f) s
        × Opens b (same_tail f) (visit classes a (not_tail f) s)
        × Opens c (same_tail f) (visit classes b (same_tail f) (visit classes a (not_tail f) s))
    Opens (letin n xs es b) f s =
        OpensArguments es (not_tail f) (with_context NONE s)
        × Opens b (let_body_flags (many es) f)
        (open_let n xs f.height f.function (with_context s.context (visit_arguments classes es (not_tail f) (with_context NONE s))))
    Opens (define n x b) f s = Opens b (define_flags f) (open_define classes f.direct (is_lambda b) x b s)
    Opens (lambda n xs b) f s = L (function_in (row_at s n.at)) × Opens b (body_flags n (length xs) f) (open_lambda n xs s)
    Opens (sequence (begins n) es) f s = OpensChildren es (in_begin f) (enter_children classes LocallyDefinedFunction (cores es) s)
    Opens (sequence (ands n) es) f s = OpensChildren es (in_and (is_alone es) f) s
    Opens (sequence (whens b n) es) f s = OpensTested es f s
    Opens (call n h es) f s =
        OpensArguments es (argument_flags f) s × Opens h (head_flags h (many es) f) (visit_arguments classes es (argument_flags f) s)
    Opens (set! n x e) f s = Opens e (not_tail f) (clear_context x s)

    pub OpensArguments : Trees → Flags → State → Type 0
    OpensArguments nil f s = Unit {0}
    OpensArguments (cons t ts) f s = Opens t f s × OpensArguments ts (pushed f) (visit classes t f s)

    pub OpensChildren : Trees → Flags → State → Type 0
    OpensChildren nil f s = Unit {0}
    OpensChildren (cons t ts) f s =
        Opens t (child_flags (is_nil ts) f) s × OpensChildren ts f (visit classes t (child_flags (is_nil ts) f) s)

    pub OpensTested : Trees → Flags → State → Type 0
    OpensTested nil f s = Unit {0}
    OpensTested (cons t ts) f s = Opens t (not_tail f) s × OpensChildren ts (in_begin f) (enter_children classes LocallyDefinedFunction (cores ts) (visit classes t (not_tail f) s))

  -- at top level
  abbrev pub OpensDefine : Bool → Ident → Tree → State → Type 0
  OpensDefine true x b s = Opens b top_flags (with_context x.id s)
  OpensDefine false x b s = Opens b top_flags (enter_top_level_value classes x b s)

  unfoldable pub OpensTop : Tree → State → Type 0
  OpensTop (ident x) s = Unit {0}
  OpensTop (const n q) s = Unit {0}
  OpensTop (if n a b c) s = Opens (if n a b c) top_flags s
  OpensTop (letin n xs es b) s = Opens (letin n xs es b) top_flags s
  OpensTop (define n x b) s = OpensDefine (is_lambda b) x b s
  OpensTop (lambda n xs b) s = Opens (lambda n xs b) top_flags s
  OpensTop (sequence n es) s = Opens (sequence n es) top_flags s
  OpensTop (call n h es) s = Opens (call n h es) top_flags s
  OpensTop (set! n x e) s = Opens (set! n x e) top_flags s

  unfoldable pub OpensTops : Trees → State → Type 0
  OpensTops nil s = Unit {0}
  OpensTops (cons t ts) s = OpensTop t s × OpensTops ts (visit_top classes t s)
