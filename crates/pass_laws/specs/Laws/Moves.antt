-- Changes that may also open or close a layer: into a body, out of it, and from any place of a walk to any later one.
use Rattle.std.specs.Prelude.{ℕ, List, Bool, ◌≡◌, refl, Option}
use Rattle.std.proofs.Math.Bool.{true, false}
use Rattle.std.proofs.Common.{◌∙◌}
use Rattle.tree.specs.Tree.{Ident, Node, Tree}
use Rattle.tree.specs.Accepted.{All}
use Rattle.pass.specs.State.{State, row_at}
use Rattle.pass.specs.Lambda.{function_in, open_scope, close_scope, open_lambda, close_lambda, open_layer, close_layer, at_bottom, open_let, close_let}
use Rattle.pass_laws.specs.Laws.Rows.{key}
use Rattle.pass_laws.specs.Laws.Changes.{Later, no_later, later_trans, Changes, ◌⨾◌, Lengths, untouched, lengths_trans, keeps_key, keeps_lengths, keeps_noted}
use Rattle.pass_laws.specs.Laws.Scopes.{names_changes, open_changes, parameters_changes, leave_changes, leaving_changes, make_changes}

infixl 40 ◌⨟◌
pub data Moves (own : ℕ → Type 0) : State → State → Type 0 where
  by : {s t : State} → Changes own s t → Moves own s t
  opens : {s : State} → Moves own s (open_scope s)
  closes : {s : State} → Moves own s (close_scope s)
  ◌⨟◌ : {s t u : State} → Moves own s t → Moves own t u → Moves own s u

pub moves_key : {own : ℕ → Type 0} {s t : State} → Moves own s t → (x : ℕ) → (own x → ⊥) → key (row_at t x) ≡ key (row_at s x)
unfolding open_scope close_scope
moves_key (by c) x o = keeps_key c x o
moves_key opens x o = refl
moves_key closes x o = refl
moves_key (c ⨟ d) x o = moves_key d x o ∙ moves_key c x o

pub moves_lengths : {own : ℕ → Type 0} {s t : State} → Moves own s t → Lengths s t
unfolding open_scope close_scope
moves_lengths (by c) = keeps_lengths c
moves_lengths opens = untouched refl refl
moves_lengths closes = untouched refl refl
moves_lengths (c ⨟ d) = lengths_trans (moves_lengths c) (moves_lengths d)

pub moves_noted : {own : ℕ → Type 0} {s t : State} → Moves own s t → Later s.noted t.noted
unfolding open_scope close_scope
moves_noted (by c) = keeps_noted c
moves_noted opens = no_later
moves_noted closes = no_later
moves_noted (c ⨟ d) = later_trans (moves_noted c) (moves_noted d)

module _ {own : ℕ → Type 0} where
  pub into_lambda : (n : Node) (xs : List Ident) (s : State) → All (λ x. own x.at) xs → Moves own s (open_lambda n xs s)
  unfolding open_lambda
  into_lambda n xs s o = let f = function_in (row_at s n.at) in by (open_changes f s) ⨟ opens ⨟ by (parameters_changes f xs _ o)

  pub out_of_lambda : (n : Node) (xs : List Ident) (b : Tree) (escapes : Bool) (s : State) → own n.at → Moves own s (close_lambda n xs b escapes s)
  out_of_lambda n xs b escapes s o = closes ⨟ by (leave_changes n xs b escapes s o)

  let_opens : (b : Bool) (s : State) {t : State} → Changes own (open_layer b s) t → Moves own s t
  unfolding open_layer
  let_opens true s c = opens ⨟ by c
  let_opens false s c = by c

  let_closes : (b : Bool) {s t : State} → Changes own s t → Moves own s (close_layer b t)
  unfolding close_layer
  let_closes true c = by c ⨟ closes
  let_closes false c = by c

  pub into_let : (n : Node) (xs : List Ident) (height : ℕ) (function : Option Node) (s : State)
      → All (λ x. own x.at) xs → Moves own s (open_let n xs height function s)
  unfolding open_let
  into_let n xs height function s o = let_opens (at_bottom s) s (names_changes _ height _ _ xs 0 0 _ o)

  pub out_of_let : (opened : Bool) (n : Node) (xs : List Ident) (height : ℕ) (function : Option Node) (s : State)
      → own n.at → Moves own s (close_let opened n xs height function s)
  unfolding close_let
  out_of_let opened n xs height function s o = let_closes opened (leaving_changes xs s ⨾ make_changes (row_at s n.at) n _ height function _ o)
