-- A second visit leaves a lambda: its list is written again in its place, and its captures go.
use Rattle.std.specs.Prelude.{ℕ, zero, suc, ◌+◌, ◌-◌, ◌≤◌, ◌<◌, Bool, true, false, cond, ◌≡◌, length, get_or, take, drop, replicate, Option, None, Some}
use Rattle.std.proofs.lemmas.Option.{same_Some, none-some}
use mathlib.Core.List.{List, [], ◌∷◌, ◌++◌, map, reverse_aux}
use Rattle.std.proofs.Math.Path.{refl, ap}
use Rattle.std.proofs.Common.{sym, subst, ◌∙◌, arith, length-append}
use Rattle.std.proofs.lemmas.List.{length-replicate}
use Rattle.tree.specs.Tree.{Ident, Node, Tree}
use Rattle.tree.specs.Check.{member}
use Rattle.scope_map.specs.ScopeMap.{ScopeMap, Live, get_in, newest_layer}
use Rattle.semantic.specs.Rows.{ListEntry, no_list_entry}
use Rattle.semantic.specs.declared.FunctionInformation.{FunctionInformation}
use Rattle.pass.specs.State.{Facts, Capture, Scope, State, list_entry_at, row_at, insert}
use Rattle.pass.specs.Lists.{captured_vars, rewrite_captured, name_of, names_of, keep, amend_list}
use Rattle.pass.specs.Lambda.{holds_lambda, function_in, name_in, list_entries_of, close_scope, close_captures, open_lambda, close_lambda, function_ends, amend_function, now_used, kept_of, captured_list, mark_lasts, end_parameters}
use Rattle.pass_laws.specs.Laws.Rows.{key, key_function}
use Rattle.pass_laws.specs.Laws.Changes.{quiet}
use Rattle.pass_laws.specs.Laws.Moves.{Moves, moves_key, out_of_lambda}
use Rattle.pass_laws.specs.Laws.Scopes.{Any, lambda_ends}
use Rattle.pass_laws.specs.Laws.Keeps.{Off}
use Rattle.pass_laws.specs.Laws.Leaves.{names, open_lambda_lem, close_lambda_lem}
use Rattle.pass_laws.specs.Laws.Finds.{all_map}
use Rattle.pass_laws.specs.Laws.Reads.{Only}
use Rattle.pass_laws.specs.Laws.Enters.{in_scope}
use Rattle.pass_laws.specs.Laws.Idle.{Idle, idle_steps, closed_idle}
use Rattle.pass_laws.specs.Laws.Preserved.{ended_preserves, lasts_preserves}
use Rattle.r7rs.specs.Binding.{Binder, Place, Use}
use Rattle.execution.proofs.Laws.Settled.Tables.{put_other}
use Rattle.execution.proofs.Laws.Settled.Kept.{LambdaKept}
use Rattle.execution.proofs.Laws.Settled.Layer.{Lives, pops}
use Rattle.execution.proofs.Laws.Settled.Again.{Frame, CaughtOf, none_of, one_of, CaughtIn, MutatedIn, OffsetsAt, OffsetsIn, FunctionIn, Script, tabled_but, Again, again_layered}
use Rattle.execution.proofs.Laws.Settled.Refuses.{Above, frame_of}
use Rattle.execution.proofs.Laws.Settled.Rebodies.{stands_again}

-- The list is no longer than it was

take_most : (k : ℕ) (l : List ListEntry) → length (take k l) ≤ k
take_most zero l = omega arith
take_most (suc k) [] = omega arith
take_most (suc k) (i ∷ l) = omega (arith, take_most k l)

keep_most : (p : ℕ → Bool) (l : List ListEntry) → length (keep p l) ≤ length l
unfolding keep
keep_most p [] = omega arith
keep_most p (i ∷ l) = go (p (name_of i)) (keep_most p l)
  where
    go : (b : Bool) → length (keep p l) ≤ length l → length (cond b (i ∷ keep p l) (keep p l)) ≤ suc (length l)
    go true h = omega arith
    go false h = omega arith

amend-length : (now : List ListEntry) (m : ScopeMap Capture) (seen : List ℕ) (l : List ListEntry) → length (amend_list now m seen l) ≡ length l
unfolding amend_list
amend-length now m seen [] = refl
amend-length now m seen (i ∷ l) = ap suc (amend-length now m (name_of i ∷ seen) l)

kept_most : (b : Tree) (now l : List ListEntry) → length (kept_of b now l) ≤ length l
kept_most b now l = go (holds_lambda b)
  where
    go : (q : Bool) → length (cond q l (keep (λ x. member x (names_of now)) l)) ≤ length l
    go true = omega arith
    go false = keep_most _ l

-- What the end changes in the lists
pub record Amended (lo hi : ℕ) (s t : State) : Type 0 where
  pub arguments : t.facts.arguments ≡ s.facts.arguments
  pub outside : (r : ℕ) → Off lo hi r → list_entry_at t r ≡ list_entry_at s r

amends : (n : Node) (b : Tree) (now : List ListEntry) (m : ScopeMap Capture) (v : FunctionInformation) (s : State)
    → Amended v.captured_vars.first (v.captured_vars.first + v.captured_vars.length) s (amend_function n b now m v s)
unfolding amend_function rewrite_captured insert
amends n b now m v s =
    let e = v.captured_vars in
    let used = now_used b now in
    let l = amend_list used m [] (kept_of b used (captured_list s v)) in
    let most : length l ≤ e.length =
    omega (
      arith,
      amend-length used m [] (kept_of b used (captured_list s v)),
      kept_most b used (captured_list s v),
      take_most e.length
          (drop e.first s.facts.captured),
    ) in
    let all = length-append l (replicate (e.length - length l) no_list_entry) in
    let rest = length-replicate (e.length - length l) no_list_entry in
    record {
      arguments = refl;
      outside = λ r o. put_other s.facts.captured (l ++ replicate (e.length - length l) no_list_entry) e.first r (λ a c. o a (omega arith));
    }

function_amends : (o : Option FunctionInformation) (v : FunctionInformation) (n : Node) (b : Tree) (escapes : Bool) (now a : List ListEntry) (m : ScopeMap Capture)
    (s : State) → o ≡ Some v
    → Amended v.captured_vars.first (v.captured_vars.first + v.captured_vars.length) s (function_ends o n b escapes now a m s)
function_amends o v n b escapes now a m s e =
    subst (λ (f : Option FunctionInformation). Amended v.captured_vars.first (v.captured_vars.first + v.captured_vars.length) s
    (function_ends f n b escapes now a m s)) (sym e)
    (amends n b now m v s)

pub lambda_amends : (n : Node) (xs : List Ident) (b : Tree) (escapes : Bool) (v : FunctionInformation) (s : State) → function_in (row_at s n.at) ≡ Some v
    → Amended v.captured_vars.first (v.captured_vars.first + v.captured_vars.length) s (close_lambda n xs b escapes s)
unfolding close_lambda
lambda_amends n xs b escapes v s e =
    let layer = newest_layer (names s) in
    let closed = close_captures (close_scope s) in
    let u = end_parameters xs (mark_lasts layer closed) in
    let idle : Idle s u = ended_preserves idle_steps xs (mark_lasts layer closed) ∙ lasts_preserves idle_steps layer closed ∙ closed_idle s in
    let a = function_amends (function_in (row_at s n.at)) v n b escapes (captured_vars (map name_in xs) s) (list_entries_of s layer) s.captures u e in
    record {
      arguments = a.arguments ∙ ap (λ (g : Facts). g.arguments) idle;
      outside = λ r o. a.outside r o ∙ ap (λ (g : Facts). get_or g.captured r no_list_entry) idle;
    }

pub mutated_still : (C : List ListEntry) (fr : Option Frame) (lo hi : ℕ) (s t : State) → Above hi fr → ((r : ℕ) → Off lo hi r → list_entry_at t r ≡ list_entry_at s r)
    → MutatedIn C fr s.facts.captured → MutatedIn C fr t.facts.captured
mutated_still C None lo hi s t a o m = tt
mutated_still C (Some f) lo hi s t a o m = λ r l h. ap (λ (i : ListEntry). i.info.mutated) (o r (λ x y. omega arith)) ∙ m r l h

pub offsets_still : (C : List ListEntry) (fr : Option Frame) (lo hi : ℕ) (top : Lives) (s t : State) → Above hi fr
    → ((r : ℕ) → Off lo hi r → list_entry_at t r ≡ list_entry_at s r)
    → ((x : ℕ) → CaughtIn C fr x (get_in top x)) → OffsetsIn fr top s.facts.captured → OffsetsIn fr top t.facts.captured
offsets_still C None lo hi top s t a o k m = tt
offsets_still C (Some f) lo hi top s t a o k m = λ x c e. subst (λ (i : ListEntry). OffsetsAt f x i.info) (sym (o c.value.row (λ u v. row x c e u v)))
    (m x c e)
  where
    row : (x : ℕ) (c : Live Capture) → get_in top x ≡ Some c → lo ≤ c.value.row → c.value.row < hi → ⊥
    row x c e u v = go (subst (CaughtOf C f.lo f.hi x) e (k x)) refl
      where
        go : {z : Option (Live Capture)} → CaughtOf C f.lo f.hi x z → z ≡ Some c → ⊥
        go (none_of n) q = none-some c q
        go (one_of {c = b} l h n d) q = let same = ap (λ (y : Live Capture). y.value.row) (same_Some b c q) in omega arith

-- Out of a lambda
module _ (S : Script) {own mid : ℕ → Type 0} {bottom : List (Live Ident)} {function : Option Node} {fr : Option Frame} {d : ℕ} {old : Lives} {p : Place}
    {s t : State} (n : Node) (xs : List Ident)
    (q : Place) (bs : List Binder) (lo hi : ℕ) (after : List Use) (kept : LambdaKept S.T S.C S.A lo hi after n xs p.scope)
    (f : Again S own bottom function fr d old p s)
    (g : Again S mid bottom (Some n) (Some (frame_of fr n lo hi xs p.scope after)) (suc d) s.captures.live (in_scope q (reverse_aux bs p.scope)) t) where
  pub left-outside : (b : Tree) (escapes : Bool) (r : ℕ) → Off lo hi r → list_entry_at (close_lambda n xs b escapes t) r ≡ list_entry_at t r
  left-outside b escapes r o =
      let row = ap function_in (key_function (row_at t n.at) (g.inside.0 ∙ ap key kept.is)) in
      (lambda_amends n xs b escapes kept.info t row).outside r (λ x y. o (omega (arith, kept.from)) (omega (arith, kept.from, kept.to)))

  pub lambda_left-again : {left : ℕ → Type 0} → ((y : ℕ) → left y → mid y) → ((y : ℕ) → left y → ¬ (y ≡ n.at)) → ((y : ℕ) → left y → own y)
      → own n.at → (b : Tree) (escapes : Bool) → (open_lambda n xs s).noted.nine ≡ None
      → names t ≡ names (open_lambda n xs s) → Moves own s (close_lambda n xs b escapes t) → MutatedIn S.C fr (close_lambda n xs b escapes t).facts.captured
      → OffsetsIn fr f.captures.top (close_lambda n xs b escapes t).facts.captured
      → Again S left bottom function fr d old p (close_lambda n xs b escapes t)
  unfolding close_scope close_captures
  lambda_left-again {left} keeps apart w here b escapes e same whole mutated offsets =
      let en = open_lambda_lem n xs s (again_layered S f).one e in
      let a = quiet (lambda_ends {own = Any} n xs b escapes t tt) in
      let row = ap function_in (key_function (row_at t n.at) (g.inside.0 ∙ ap key kept.is)) in
      let lists = lambda_amends n xs b escapes kept.info t row in
      let c = out_of_lambda {own = Only n.at} n xs b escapes t refl in
      let m = f.captures in
      let k = g.captures in
      let popped = a.captures ∙ pops d k.top s.captures.live t.captures m.one k.depth k.live k.layer k.below in
      record {
        tables = tabled_but keeps apart (all_map (λ e h z. h.apart (subst own (sym z) here)) bottom f.tables.globals) g.tables c;
        arguments = lists.arguments ∙ g.arguments;
        inside = still function f.inside;
        captures = record {
          top = m.top;
          one = m.one;
          depth = ap (λ (z : ScopeMap Capture). z.depth) popped;
          live = ap (λ (z : ScopeMap Capture). z.live) popped ∙ m.live;
          layer = m.layer;
          below = m.below;
          caught = m.caught;
          mutated = mutated;
          offsets = offsets;
        };
        one = f.one;
        live = close_lambda_lem n xs b escapes (names s) t (again_layered S f) (same ∙ en.after) ∙ f.live;
        around = f.around;
        stands = stands_again S bs p.scope keeps t.scope.entries _ (ap (λ (k : Scope). k.entries) a.scope) g.stands;
      }
    where
      still : (z : Option Node) → FunctionIn S.T own z s → FunctionIn S.T left z (close_lambda n xs b escapes t)
      still None h = tt
      still (Some m) h = (moves_key whole m.at h.1 ∙ h.0, λ l. h.1 (w m.at l))
