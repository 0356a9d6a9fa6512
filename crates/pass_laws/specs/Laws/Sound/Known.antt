-- `Sound` of what functions of the pass answer: identifiers held are of P, and rows lie inside the table.
use Rattle.std.specs.Prelude.{ℕ, ◌+◌, ◌≤◌, ◌<◌, List, ◌≡◌, refl, Option, None, Some}
use Rattle.std.proofs.Common.{◌∙◌, arith}
use Rattle.tree.specs.Tree.{Ident, Node, Tree}
use Rattle.tree.specs.Accepted.{All}
use Rattle.scope_map.specs.ScopeMap.{Live, get}
use Rattle.semantic.specs.Kinds.{function_in}
use Rattle.semantic.specs.declared.ListAt.{ListAt}
use Rattle.semantic.specs.declared.FunctionInformation.{FunctionInformation}
use Rattle.pass.specs.State.{Capture, State, with_context, row_at, newest}
use Rattle.pass.specs.Read.{enter_top_level_value, mutate}
use Rattle.pass.specs.Lists.{captured_most}
use Rattle.pass.specs.Lambda.{open_lambda, open_let}
use Rattle.pass.specs.Visit.{clear_context}
use Rattle.pass.specs.Run.{rows_most}
use Rattle.pass_laws.specs.Sound.{Lawful, Counting, known, Sound, OverRows, Listed, Inside}
use Rattle.pass_laws.specs.Laws.Sound.Lists.{maybe_some, get_value}
use Rattle.pass_laws.specs.Laws.Sound.Each.{newest-held, each_context}
use Rattle.pass_laws.specs.Laws.Sound.Names.{each_value, each_mutate}
use Rattle.pass_laws.specs.Laws.Sound.Scopes.{each_open_lambda, each_open_let}
use Rattle.pass_laws.specs.Laws.Sound.Calls.{each_clear}

-- a list that lies in the table; and that of a lambda, if it has a fact

pub covered : (e : ListAt) → e.first + e.length ≤ captured_most → OverRows (λ r. r < captured_most) e
covered e h r a b = omega arith

pub inside_listed : (f : Option FunctionInformation) → Inside f → Listed (λ r. r < captured_most) f
inside_listed None h = tt
inside_listed (Some v) h = covered v.captured_vars h

-- no count is asked for
pub uncounted : Counting (λ k n. Unit {0})
uncounted = record { none = λ k. tt; keep = λ k m n e h. tt; more = λ k n h. tt }

module _ {P : Ident → Type 0} (small : (x : Ident) → P x → x.at < rows_most) where
  pub knowing : Lawful (known P)
  knowing = record {
    absent = (refl, omega arith);
    made = λ b e p. (refl, small b p);
    changed = λ x v e p. (e ∙ p.0, p.1);
    taken = λ r x q p. (q, p.1);
  }

  -- What is found

  pub sound_newest : (x : ℕ) (b : Ident) {s : State} → Sound P s → newest s x ≡ Some b → P b
  sound_newest x b h e = maybe_some P (newest-held x h) e

  pub sound_capture : (x : ℕ) (c : Live Capture) {s : State} → Sound P s → get s.captures x ≡ Some c
      → (c.value.row < captured_most) × (c.value.binder.at < rows_most)
  sound_capture x c {s} h e =
      maybe_some (λ (e : Live Capture). (e.value.row < captured_most) × (e.value.binder.at < rows_most))
      (get_value (λ (c : Capture). (c.row < captured_most) × (c.binder.at < rows_most)) s.captures.live x h.taken) e

  -- Names

  module _ (classes : List ℕ) where
    pub sound_value : (x : Ident) (b : Tree) {s : State} → P x → Sound P s → Sound P (enter_top_level_value classes x b s)
    sound_value x b p h = each_value tt classes x b p h

  pub sound_mutate : (x : ℕ) {s : State} → Sound P s → Sound P (mutate x s)
  sound_mutate x h = each_mutate uncounted 0 x h

  pub sound_context : (c : ℕ) {s : State} → Sound P s → Sound P (with_context c s)
  sound_context c h = each_context c h

  -- Lambda, let, set!

  pub sound_open_lambda : (n : Node) (xs : List Ident) {s : State} → Inside (function_in (row_at s n.at)) → All P xs → Sound P s
      → Sound P (open_lambda n xs s)
  sound_open_lambda n xs {s} q p h = each_open_lambda knowing tt n xs (inside_listed (function_in (row_at s n.at)) q) p h

  pub sound_open_let : (n : Node) (xs : List Ident) (height : ℕ) (function : Option Node) {s : State} → All P xs → Sound P s
      → Sound P (open_let n xs height function s)
  sound_open_let n xs height function p h = each_open_let knowing tt n xs height function p h

  pub sound_clear : (x : Ident) {s : State} → Sound P s → Sound P (clear_context x s)
  sound_clear x h = each_clear knowing tt x h
