-- A state read and changed at one place.
use Rattle.std.specs.Prelude.{ℕ, List, ◌≡◌, Option, None, Some, option_map}
use Rattle.std.proofs.Math.Path.{refl}
use Rattle.std.proofs.Common.{ap, ◌∙◌}
use Rattle.std.proofs.Math.ListN.{get_or-map}
use Rattle.tree.specs.Tree.{Ident}
use Rattle.scope_map.specs.ScopeMap.{Live, get}
use Rattle.scope_map.specs.Map.{map_value}
use Rattle.scope_map.proofs.Laws.Map.{map_get}
use Rattle.semantic.specs.Rows.{Row, Blank, Variable, Function, CallSite, Let, ListEntry, no_list_entry}
use Rattle.semantic.specs.declared.SemanticInformation.{SemanticInformation}
use Rattle.pass.specs.State.{Entry, State, with_context, with_rows, with_entries, row_at, insert, amended, amend, no_entry, entry_at, put_entry, list_entry_at, info_at, binder_in, newest, depth, id_of}
use Rattle.pass.specs.Bare.{bare_ident, bare_fact, bare_row, bare_list_entry, bare_facts, bare_entry, bare_capture, bare_state, ◌↝◌}
use Rattle.pass_laws.specs.Laws.Bare.Maps.{map-set}

module _ (s : State) where
  -- What is read

  pub bare-row : (i : ℕ) → row_at (bare_state s) i ≡ bare_row (row_at s i)
  unfolding bare_state bare_facts
  bare-row i = get_or-map bare_row s.facts.rows i Blank

  pub bare-entry : (i : ℕ) → entry_at (bare_state s) i ≡ bare_entry (entry_at s i)
  unfolding bare_state
  bare-entry i = get_or-map bare_entry s.scope.entries i no_entry

  pub bare-list-entry : (r : ℕ) → list_entry_at (bare_state s) r ≡ bare_list_entry (list_entry_at s r)
  unfolding bare_state bare_facts
  bare-list-entry r = get_or-map bare_list_entry s.facts.captured r no_list_entry

  pub bare_info : (r : ℕ) → info_at (bare_state s) r ≡ info_at s r
  bare_info r = ap (λ (i : ListEntry). i.info) (bare-list-entry r)

  pub bare-newest : (x : ℕ) → newest (bare_state s) x ≡ option_map bare_ident (newest s x)
  unfolding bare_state
  bare-newest x = rw (map_get bare_ident) (go (get s.scope.names x))
    where
      go : (o : Option (Live Ident)) → binder_in (option_map (map_value bare_ident) o) ≡ option_map bare_ident (binder_in o)
      go None = refl
      go (Some e) = refl

  pub bare-depth : depth (bare_state s) ≡ depth s
  unfolding bare_state
  bare-depth = refl

  pub bare-capture : (x : ℕ) → get (bare_state s).captures x ≡ option_map (map_value bare_capture) (get s.captures x)
  unfolding bare_state
  bare-capture x = map_get bare_capture s.captures x

  pub bare_layers : (bare_state s).captures.depth ≡ s.captures.depth
  unfolding bare_state
  bare_layers = refl

  pub bare_context : (bare_state s).context ≡ s.context
  unfolding bare_state
  bare_context = refl

  pub bare_captured_top : (bare_state s).facts.captured_top ≡ s.facts.captured_top
  unfolding bare_state bare_facts
  bare_captured_top = refl

  pub bare_arguments_top : (bare_state s).facts.arguments_top ≡ s.facts.arguments_top
  unfolding bare_state bare_facts
  bare_arguments_top = refl

-- What is changed

pub bare_context_set : (c : ℕ) → with_context c ↝ with_context c
unfolding bare_state
bare_context_set c s = refl

-- to the context of s
pub bare_context_back : (s t : State) {u : State} → bare_state t ≡ u → bare_state (with_context s.context t) ≡ with_context (bare_state s).context u
unfolding bare_state
bare_context_back s t h = ap (with_context s.context) h

pub bare-insert : (i : ℕ) (r : Row) → insert i r ↝ insert i (bare_row r)
unfolding bare_state bare_facts insert
bare-insert i r s = ap (λ (l : List Row). with_rows l (bare_state s)) (map-set bare_row s.facts.rows i r)

pub bare-put : (i : ℕ) (e : Entry) → put_entry i e ↝ put_entry i (bare_entry e)
unfolding bare_state put_entry
bare-put i e s = ap (λ (l : List Entry). with_entries l (bare_state s)) (map-set bare_entry s.scope.entries i e)

-- a change of a fact that leaves its position alone
pub bare-amend : (f : SemanticInformation → SemanticInformation) → ((v : SemanticInformation) → bare_fact (f v) ≡ f (bare_fact v)) → (i : ℕ)
    → amend f i ↝ amend f i
unfolding amend
bare-amend f h i s = bare-insert i (amended f (row_at s i)) s ∙ rw bare-row (ap (λ (r : Row). insert i r (bare_state s)) (go (row_at s i)))
  where
    go : (r : Row) → bare_row (amended f r) ≡ amended f (bare_row r)
    go Blank = refl
    go (Variable v) = ap {B = Row} (λ (w : SemanticInformation). Variable w) (h v)
    go (Function v) = refl
    go (CallSite v) = refl
    go (Let v) = refl

pub bare_id : (o : Option Ident) → id_of (option_map bare_ident o) ≡ id_of o
bare_id None = refl
bare_id (Some x) = refl

-- for `simp`
pub ruleset reads = (bare-row, bare-entry, bare-list-entry, bare_info, bare-newest, bare_id, bare-depth, bare-capture, bare_layers)

pub ruleset parts = (bare_context, bare_captured_top, bare_arguments_top)

pub ruleset steps = (reads, parts, bare-insert, bare-put, bare-amend)
