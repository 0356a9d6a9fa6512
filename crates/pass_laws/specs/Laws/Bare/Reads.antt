-- Names that are read, set, or enter the scope.
use Rattle.std.specs.Prelude.{ℕ, suc, List, [], ◌∷◌, Bool, cond, ◌&&◌, ◌≡◌, eqb, Option, None, Some, option_map}
use Rattle.std.proofs.Math.Bool.{true, false}
use Rattle.std.proofs.Math.Path.{refl}
use Rattle.std.proofs.Common.{ap, ◌∙◌}
use Rattle.tree.specs.Tree.{Ident, Tree}
use Rattle.tree.specs.Core.{core}
use Rattle.scope_map.specs.ScopeMap.{ScopeMap, Live, has_at_top}
use Rattle.scope_map.specs.ScopeMap as scopeMap
use Rattle.scope_map.specs.Map.{map_value, map_values, map_live}
use Rattle.scope_map.proofs.Laws.Map.{map-define, map-has_at_top}
use Rattle.semantic.specs.Information.{NONE, new, shadows, with_heap_offset, with_read_heap_offset, with_usage_count, refers_to, with_offset, aliases_to, mark_builtin, mark_required, mark_shadowed}
use Rattle.semantic.specs.Rows.{Row, Blank, Variable, Function, CallSite, Let}
use Rattle.semantic.specs.declared.IdentifierStatus.{IdentifierStatus}
use Rattle.semantic.specs.declared.IdentifierStatus.TheVariants.{Local, HeapAllocated}
use Rattle.semantic.specs.declared.Span.{Span}
use Rattle.semantic.specs.declared.SemanticInformation.{SemanticInformation}
use Rattle.semantic.specs.declared.ScopeInfo.{ScopeInfo}
use Rattle.pass.specs.State.{Entry, Capture, State, with_names, insert, captured_entry, last_entry, info_at, note_second, put_entry, entry_at, newest, depth, id_of}
use Rattle.pass.specs.Read.{span, status_at, is_builtin, is_required, note_live, enter, mark_if, define_fact, enter_define, shadow_if_builtin, shadow, enter_top_level_value, Rule, no_entry, depth_one, current_layer, taken_capture, home_slot, capture_rule, entry_rule, rule_of, free_row, local_fact, heap_fact, global_fact, taken_fact, has_number, capture_offsets, is_prelude, count_uses, note_taken, use_in, use_capture, read_by, read, mutate_at, mutate}
use Rattle.pass.specs.Bare.{bare_ident, bare_fact, bare_row, bare_entry, bare_capture, bare_state, bare, nowhere, ◌↝◌}
use Rattle.pass_laws.specs.Laws.Bare.Maps.{map_cond}
use Rattle.pass_laws.specs.Laws.Bare.Steps.{bare-put, bare-depth, bare-newest, bare_id, bare-amend, bare-capture, bare_info, bare-entry, steps}
use Rattle.pass_laws.specs.Laws.Bare.Looks.{bare_looks, bare_core}

-- A name enters

names-noted : (m : ScopeMap Ident) (b : Bool) (i : ℕ) (s : State)
    → bare_state (with_names m (note_live b i s)) ≡ with_names (map_values bare_ident m) (note_live b i (bare_state s))
unfolding bare_state
names-noted m true i s = refl
names-noted m false i s = refl

bare-has : (x : ℕ) (s : State) → has_at_top (bare_state s).scope.names x ≡ has_at_top s.scope.names x
unfolding bare_state
bare-has x s = map-has_at_top bare_ident s.scope.names x

bare-define : (x : Ident) (s : State)
    → map_values bare_ident (scopeMap.define x.name x s.scope.names) ≡ scopeMap.define x.name (bare_ident x) (bare_state s).scope.names
unfolding bare_state
bare-define x s = map-define bare_ident x.name x s.scope.names

pub bare-enter : (x : Ident) (e : Entry) → enter x e ↝ enter (bare_ident x) (bare_entry e)
unfolding enter
bare-enter x e s = rw (bare-put, names-noted, bare-define x s, bare-has, bare-depth)

-- A define enters

bare_mark : (b : Bool) (f : SemanticInformation → SemanticInformation) (i : SemanticInformation) → ((v : SemanticInformation) → bare_fact (f v) ≡ f (bare_fact v))
    → bare_fact (mark_if b f i) ≡ mark_if b f (bare_fact i)
bare_mark true f i h = h i
bare_mark false f i h = refl

module _ (k : IdentifierStatus) (a : ℕ) where
  -- the fact of a define, of what was looked up for it
  made : ℕ → Bool → Bool → ℕ → Span → SemanticInformation
  made hides builtin required d p =
      aliases_to a (shadows hides (mark_if builtin mark_builtin (mark_if required mark_required (new (status_at d k) d p))))

  bare-made : (i : ℕ) (b c : Bool) (d : ℕ) (p : Span) → bare_fact (made i b c d p) ≡ made i b c d nowhere
  unfolding made
  bare-made i true true d p = refl
  bare-made i true false d p = refl
  bare-made i false true d p = refl
  bare-made i false false d p = refl

module _ (classes : List ℕ) (k : IdentifierStatus) (a : ℕ) where
  is_made : (x : Ident) (b : Tree) (s : State)
      → define_fact classes k a x b s ≡ made k a (id_of (newest s x.name)) (is_builtin classes (core b)) (is_required classes (core b)) (depth s) (span x)
  unfolding define_fact made
  is_made x b s = refl

  define_fact_lem : (x : Ident) (b : Tree) (s : State) → bare_fact (define_fact classes k a x b s) ≡ define_fact classes k a (bare_ident x) (bare b) (bare_state s)
  define_fact_lem x b s =
      let l = bare_looks classes (core b) in
      rw (is_made x b s, is_made (bare_ident x) (bare b) (bare_state s), bare_core b, bare-newest, bare_id, bare-depth, l.is_builtin, l.is_required)
      (bare-made k a _ _ _ _ _)

  pub bare-enter-define : (x : Ident) (b : Tree) → enter_define classes k a x b ↝ enter_define classes k a (bare_ident x) (bare b)
  unfolding enter_define
  bare-enter-define x b s = simp (steps, bare-enter, define_fact_lem)

module _ (classes : List ℕ) where
  bare-shadow : (o : Option Ident) → shadow classes o ↝ shadow classes (option_map bare_ident o)
  bare-shadow None s = refl
  bare-shadow (Some b) s = bare-amend (shadow_if_builtin classes) (λ v. bare_mark v.builtin mark_shadowed v (λ w. refl)) b.at s

  pub bare-enter_value : (x : Ident) (b : Tree) → enter_top_level_value classes x b ↝ enter_top_level_value classes (bare_ident x) (bare b)
  unfolding enter_top_level_value
  bare-enter_value x b s = simp (steps, bare-enter-define, bare-shadow, bare_core b, (bare_looks classes (core b)).alias)

-- A name is read

abbrev bare_rule : Rule → Rule
bare_rule no_entry = no_entry
bare_rule (depth_one b) = depth_one (bare_ident b)
bare_rule (current_layer b) = current_layer (bare_ident b)
bare_rule (taken_capture b c) = taken_capture (bare_ident b) (bare_capture c)
bare_rule (home_slot b) = home_slot (bare_ident b)

capture_rule_lem : (b : Ident) (o : Option (Live Capture)) → capture_rule (bare_ident b) (option_map (map_value bare_capture) o) ≡ bare_rule (capture_rule b o)
capture_rule_lem b None = refl
capture_rule_lem b (Some c) = refl

entry_rule_lem : (s : State) (x : ℕ) (o : Option Ident) → entry_rule (bare_state s) x (option_map bare_ident o) ≡ bare_rule (entry_rule s x o)
entry_rule_lem s x None = refl
entry_rule_lem s x (Some b) = simp (steps, map_cond bare_rule, bare-capture, capture_rule_lem)

bare_rule_lem : (s : State) (x : ℕ) → rule_of (bare_state s) x ≡ bare_rule (rule_of s x)
unfolding rule_of
bare_rule_lem s x = rw bare-newest (entry_rule_lem s x (newest s x))

free_row_lem : (p : Bool) (d : ℕ) (x : Ident) (r : Row) → bare_row (free_row p d x r) ≡ free_row p d (bare_ident x) (bare_row r)
free_row_lem p d x (Variable v) = refl
free_row_lem true d x Blank = refl
free_row_lem false d x Blank = refl
free_row_lem p d x (Function v) = refl
free_row_lem p d x (CallSite v) = refl
free_row_lem p d x (Let v) = refl

local_fact_lem : (d : ℕ) (b : Ident) (e : Entry) (x : Ident) → bare_fact (local_fact d b e x) ≡ local_fact d (bare_ident b) (bare_entry e) (bare_ident x)
local_fact_lem d b e x = go (e.captured && e.mutated)
  where
    go : (c : Bool) → bare_fact (mark_if c (heap_fact e) (with_offset e.stack_offset (refers_to b.id (with_usage_count 1 (new (cond c HeapAllocated Local) d (span x))))))
        ≡ mark_if c (heap_fact e) (with_offset e.stack_offset (refers_to b.id (with_usage_count 1 (new (cond c HeapAllocated Local) d nowhere))))
    go true = refl
    go false = refl

global_fact_lem : (p : Bool) (b x : Ident) → bare_fact (global_fact p b x) ≡ global_fact p (bare_ident b) (bare_ident x)
global_fact_lem p b x = bare_mark p mark_builtin _ (λ v. refl)

taken_fact_lem : (d : ℕ) (c : Capture) (v : ScopeInfo) (x : Ident) → bare_fact (taken_fact d c v x) ≡ taken_fact d (bare_capture c) v (bare_ident x)
taken_fact_lem d c v x =
    ap (λ (w : SemanticInformation). with_heap_offset v.heap_offset (with_read_heap_offset v.read_heap_offset w))
    (bare_mark (has_number v.read_capture_offset) (capture_offsets v) _ (λ w. refl))

-- the fact put last
insert_fact : (i : ℕ) (s : State) {v w : SemanticInformation} → v ≡ w → insert i (Variable v) s ≡ insert i (Variable w) s
insert_fact i s h = ap (λ (u : SemanticInformation). insert i (Variable u) s) h

bare_use : (x : ℕ) (l : List (Live Capture)) → map_live bare_capture (use_in x l) ≡ use_in x (map_live bare_capture l)
unfolding map_live use_in
bare_use x [] = refl
bare_use x (e ∷ l) = map_cond (map_live bare_capture) (eqb e.name x) _ _ ∙ rw (bare_use x l)

bare-used : (x : ℕ) → use_capture x ↝ use_capture x
unfolding bare_state
bare-used x s = rw (bare_use x s.captures.live)

bare-taken : (v : ScopeInfo) (x : Ident) → note_taken v x ↝ note_taken v (bare_ident x)
unfolding bare_state
bare-taken v x s = map_cond bare_state (has_number v.read_capture_offset && eqb v.capture_offset NONE) (note_second 12 x.at s) s

-- what a read by a capture leaves, of what was looked up for it
takes : Ident → Capture → Ident → ℕ → ScopeInfo → Entry → State → State
takes b c x d v e s =
    insert x.at (Variable (taken_fact d c v x))
    (count_uses (suc c.usage_count) c.binder (put_entry b.at (captured_entry (last_entry x e)) (use_capture x.name s)))

bare-takes : (b : Ident) (c : Capture) (x : Ident) (d : ℕ) (v : ScopeInfo) (e : Entry)
    → takes b c x d v e ↝ takes (bare_ident b) (bare_capture c) (bare_ident x) d v (bare_entry e)
unfolding takes
bare-takes b c x d v e s = simp (steps, bare-used) (insert_fact x.at _ (taken_fact_lem d c v x))

abbrev taken : Ident → Capture → Ident → State → State
taken b c x s = let v = info_at s c.row in note_taken v x (takes b c x (depth s) v (entry_at s b.at) s)

taken-read : (b : Ident) (c : Capture) (x : Ident) → taken b c x ↝ taken (bare_ident b) (bare_capture c) (bare_ident x)
taken-read b c x s =
    let v = info_at s c.row in
    simp (bare-depth s, bare_info s c.row, bare-entry s b.at)
    (bare-taken v x _ ∙ ap (note_taken v (bare_ident x)) (bare-takes b c x (depth s) v (entry_at s b.at) s))

module _ (classes : List ℕ) where
  read_by_lem : (r : Rule) (x : Ident) → read_by classes r x ↝ read_by classes (bare_rule r) (bare_ident x)
  unfolding takes
  read_by_lem no_entry x s = simp (steps, free_row_lem)
  read_by_lem (depth_one b) x s = simp steps (insert_fact x.at _ (global_fact_lem (is_prelude classes x.name) b x))
  read_by_lem (current_layer b) x s = simp steps (insert_fact x.at _ (local_fact_lem (depth s) b (entry_at s b.at) x))
  read_by_lem (taken_capture b c) x s = taken-read b c x s
  read_by_lem (home_slot b) x s = simp steps

  pub bare-read : (x : Ident) → read classes x ↝ read classes (bare_ident x)
  unfolding read
  bare-read x s = rw bare_rule_lem (read_by_lem (rule_of s x.name) x s)

-- A name is set

mutate-at : (o : Option Ident) → mutate_at o ↝ mutate_at (option_map bare_ident o)
mutate-at None s = refl
mutate-at (Some b) s = simp steps

pub bare-mutate : (x : ℕ) → mutate x ↝ mutate x
unfolding mutate
bare-mutate x s = simp (steps, mutate-at)
