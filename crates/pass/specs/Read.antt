-- A name is read, set, or enters the scope. docs/RULES.md, 3, 5 and 6.
use Rattle.std.specs.Prelude.{ℕ, ◌/◌, ◌%◌, suc, List, [], ◌∷◌, Bool, true, false, cond, not, ◌&&◌, get_or, eqb, ltb, Option, None, Some}
use Rattle.tree.specs.Tree.{Ident, Tree, Trees, ident, const, if, letin, define, lambda, sequence, call, set!, nil, cons}
use Rattle.tree.specs.Core.{core}
use Rattle.scope_map.specs.ScopeMap.{ScopeMap, Live, get, has_at_top}
use Rattle.scope_map.specs.ScopeMap as map
use Rattle.semantic.specs.Information.{NONE, new, shadows, with_usage_count, refers_to, aliases_to, mark_builtin, mark_required, with_offset, with_capture_index, with_read_capture_offset, with_heap_offset, with_read_heap_offset, with_captured_from_enclosing, mark_set, mark_shadowed}
use Rattle.semantic.specs.Rows.{Row, Variable}
use Rattle.semantic.specs.Amend.{used_or}
use Rattle.semantic.specs.declared.IdentifierStatus.{IdentifierStatus}
use Rattle.semantic.specs.declared.IdentifierStatus.TheVariants.{Global, Local, Captured, Free, HeapAllocated}
use Rattle.semantic.specs.declared.Span.{Span}
use Rattle.semantic.specs.declared.SemanticInformation.{SemanticInformation}
use Rattle.semantic.specs.declared.ScopeInfo.{ScopeInfo}
use Rattle.pass.specs.State.{Entry, Capture, State, info_at, with_names, with_captures, insert, amend, row_at, entry_at, put_entry, top_level_entry, used_entry, last_entry, captured_entry, mutated_entry, newest, depth, id_of, note_nine, note_second}
pub use Rattle.semantic.specs.Amend.{mark_if, one_use_more}

abbrev pub span : Ident → Span
span x = record { start = x.from; end = x.to }

-- The class byte of a name

abbrev pub is_class : ℕ → ℕ → Bool
is_class k c = eqb (c / k % 2) 1

-- the classes by name
module _ (classes : List ℕ) where
  abbrev pub is_prelude : ℕ → Bool
  is_prelude x = is_class 1 (get_or classes x 0)

  -- a tree that is an identifier of the class k
  abbrev pub is_ident_of : ℕ → Tree → Bool
  is_ident_of k (ident x) = is_class k (get_or classes x.name 0)
  is_ident_of k (const n q) = false
  is_ident_of k (if n a b c) = false
  is_ident_of k (letin n xs es b) = false
  is_ident_of k (define n x b) = false
  is_ident_of k (lambda n xs b) = false
  is_ident_of k (sequence n es) = false
  is_ident_of k (call n h es) = false
  is_ident_of k (set! n x e) = false

  abbrev pub first_is_ident_of : ℕ → Trees → Bool
  first_is_ident_of k nil = false
  first_is_ident_of k (cons t ts) = is_ident_of k (core t)

  -- `is_a_builtin_definition`, `is_a_require_definition`: what the body is
  abbrev pub is_builtin : Tree → Bool
  is_builtin (ident x) = false
  is_builtin (const n q) = false
  is_builtin (if n a b c) = false
  is_builtin (letin n xs es b) = false
  is_builtin (define n x b) = false
  is_builtin (lambda n xs b) = false
  is_builtin (sequence n es) = false
  is_builtin (call n h es) = is_ident_of 2 (core h) && first_is_ident_of 4 es
  is_builtin (set! n x e) = false

  abbrev pub is_required : Tree → Bool
  is_required (ident x) = false
  is_required (const n q) = false
  is_required (if n a b c) = false
  is_required (letin n xs es b) = false
  is_required (define n x b) = false
  is_required (lambda n xs b) = false
  is_required (sequence n es) = false
  is_required (call n h es) = is_ident_of 8 (core h)
  is_required (set! n x e) = false

-- `is_an_alias_definition`
abbrev pub alias : Tree → ℕ
alias (ident x) = x.id
alias (const n q) = NONE
alias (if n a b c) = NONE
alias (letin n xs es b) = NONE
alias (define n x b) = NONE
alias (lambda n xs b) = NONE
alias (sequence n es) = NONE
alias (call n h es) = NONE
alias (set! n x e) = NONE

-- A name enters the newest layer: refusal 9 where it is live in a layer above the bottom

abbrev pub note_live : Bool → ℕ → State → State
note_live true i s = note_nine i s
note_live false i s = s

unfoldable pub enter : Ident → Entry → State → State
enter x e s =
    put_entry x.at e
    (with_names (map.define x.name x s.scope.names)
    (note_live (ltb 1 (depth s) && has_at_top s.scope.names x.name) x.at s))

-- A define enters, and its fact is made: `visit_define_without_body` and, with an alias, `visit_top_level_define_value_without_body`

abbrev pub status_at : ℕ → IdentifierStatus → IdentifierStatus
status_at d k = cond (eqb d 1) Global k

module _ (classes : List ℕ) where
  unfoldable pub define_fact : IdentifierStatus → ℕ → Ident → Tree → State → SemanticInformation
  define_fact k a x b s =
      aliases_to a
      (shadows (id_of (newest s x.name))
      (mark_if (is_builtin classes (core b)) mark_builtin (mark_if (is_required classes (core b)) mark_required (new (status_at (depth s) k) (depth s) (span x)))))

  unfoldable pub enter_define : IdentifierStatus → ℕ → Ident → Tree → State → State
  enter_define k a x b s = insert x.at (Variable (define_fact k a x b s)) (enter x top_level_entry s)

  -- the builtin that a top-level value define hides is marked
  abbrev pub shadow_if_builtin : SemanticInformation → SemanticInformation
  shadow_if_builtin i = mark_if i.builtin mark_shadowed i

  abbrev pub shadow : Option Ident → State → State
  shadow None s = s
  shadow (Some b) s = amend shadow_if_builtin b.at s

  unfoldable pub enter_top_level_value : Ident → Tree → State → State
  enter_top_level_value x b s = enter_define Global (alias (core b)) x b (shadow (newest s x.name) s)

-- Which rule decides a read

pub data Rule : Type 0 where
  no_entry : Rule
  depth_one : Ident → Rule  -- the newest entry has depth 1
  current_layer : Ident → Rule  -- it has the depth of the scope
  taken_capture : Ident → Capture → Rule  -- the captures hold the name
  home_slot : Ident → Rule

abbrev pub capture_rule : Ident → Option (Live Capture) → Rule
capture_rule b None = home_slot b
capture_rule b (Some c) = taken_capture b c.value

abbrev pub entry_rule : State → ℕ → Option Ident → Rule
entry_rule s x None = no_entry
entry_rule s x (Some b) =
    cond (eqb (entry_at s b.at).depth 1) (depth_one b)
    (cond (eqb (entry_at s b.at).depth (depth s)) (current_layer b) (capture_rule b (get s.captures x)))

unfoldable pub rule_of : State → ℕ → Rule
rule_of s x = entry_rule s x (newest s x)

-- The fact of a read, by its rule

abbrev pub free_fact : Bool → ℕ → Ident → SemanticInformation
free_fact prelude d x = cond prelude (mark_builtin (new Global d (span x))) (new Free d (span x))

-- one made before counts a use more
abbrev pub free_row : Bool → ℕ → Ident → Row → Row
free_row prelude d x r = used_or (free_fact prelude d x) r

abbrev pub global_fact : Bool → Ident → Ident → SemanticInformation
global_fact prelude b x = mark_if prelude mark_builtin (refers_to b.id (with_usage_count 1 (new Global 1 (span x))))

abbrev pub heap_fact : Entry → SemanticInformation → SemanticInformation
heap_fact e i = with_heap_offset e.heap_offset (with_read_heap_offset e.heap_offset i)

abbrev pub local_fact : ℕ → Ident → Entry → Ident → SemanticInformation
local_fact d b e x =
    mark_if (e.captured && e.mutated) (heap_fact e)
    (with_offset e.stack_offset (refers_to b.id (with_usage_count 1 (new (cond (e.captured && e.mutated) HeapAllocated Local) d (span x)))))

abbrev pub home_fact : ℕ → Ident → Entry → Ident → SemanticInformation
home_fact d b e x = with_offset e.stack_offset (refers_to b.id (with_usage_count 1 (new Captured d (span x))))

abbrev pub has_number : ℕ → Bool
has_number n = not (eqb n NONE)

abbrev pub capture_offsets : ScopeInfo → SemanticInformation → SemanticInformation
capture_offsets c i = with_read_capture_offset c.read_capture_offset (with_capture_index c.capture_offset i)

abbrev pub taken_fact : ℕ → Capture → ScopeInfo → Ident → SemanticInformation
taken_fact d c v x =
    with_heap_offset v.heap_offset
    (with_read_heap_offset v.read_heap_offset
    (mark_if (has_number v.read_capture_offset) (capture_offsets v)
    (with_captured_from_enclosing c.from_enclosing
    (refers_to c.binder.id (with_usage_count 1 (new (cond v.mutated HeapAllocated Captured) d (span x)))))))

-- a capture that is used once more
abbrev pub used_capture : Capture → Capture
used_capture c = record { binder = c.binder; row = c.row; usage_count = suc c.usage_count; from_enclosing = c.from_enclosing }

-- the newest capture of a name
unfoldable pub use_in : ℕ → List (Live Capture) → List (Live Capture)
use_in x [] = []
use_in x (e ∷ l) =
    cond (eqb e.name x) (record { name = e.name; layer = e.layer; value = used_capture e.value } ∷ l) (e ∷ use_in x l)

abbrev pub use_capture : ℕ → State → State
use_capture x s = with_captures (record { depth = s.captures.depth; live = use_in x s.captures.live }) s

-- refusal 12: a read offset and no capture offset
abbrev pub note_taken : ScopeInfo → Ident → State → State
note_taken c x s = cond (has_number c.read_capture_offset && eqb c.capture_offset NONE) (note_second 12 x.at s) s

-- the binder's fact takes the entry's uses
abbrev pub count_uses : ℕ → Ident → State → State
count_uses n b s = amend (with_usage_count n) b.at s

-- `visit_atom`: the identifier x is read
module _ (classes : List ℕ) where
  abbrev pub read_by : Rule → Ident → State → State
  read_by no_entry x s = insert x.at (free_row (is_prelude classes x.name) (depth s) x (row_at s x.at)) s
  read_by (depth_one b) x s =
      insert x.at (Variable (global_fact (is_prelude classes x.name) b x))
      (amend one_use_more b.at (put_entry b.at (used_entry (entry_at s b.at)) s))
  read_by (current_layer b) x s =
      let e = last_entry x (used_entry (entry_at s b.at)) in
      insert x.at (Variable (local_fact (depth s) b e x)) (count_uses e.usage_count b (put_entry b.at e s))
  read_by (taken_capture b c) x s =
      let v = info_at s c.row in
      note_taken v x
      (insert x.at (Variable (taken_fact (depth s) c v x))
      (count_uses (suc c.usage_count) c.binder
      (put_entry b.at (captured_entry (last_entry x (entry_at s b.at))) (use_capture x.name s))))
  read_by (home_slot b) x s =
      let e = captured_entry (last_entry x (used_entry (entry_at s b.at))) in
      insert x.at (Variable (home_fact (depth s) b e x)) (count_uses e.usage_count b (put_entry b.at e s))

  unfoldable pub read : Ident → State → State
  read x s = read_by (rule_of s x.name) x s

-- set!: the newest entry of the name is used once more and mutated, and its binder's fact tells
abbrev pub mutate_at : Option Ident → State → State
mutate_at None s = s
mutate_at (Some b) s = amend mark_set b.at (put_entry b.at (mutated_entry (used_entry (entry_at s b.at))) s)

unfoldable pub mutate : ℕ → State → State
mutate x s = mutate_at (newest s x) s
