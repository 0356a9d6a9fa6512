-- A fresh run puts each list after those before it: what a let and a lambda leave in the tables at their end.
use Rattle.std.specs.Prelude.{ℕ, zero, suc, ◌+◌, ◌≤◌, ◌<◌, Bool, true, false, cond, ◌≡◌, refl, length, get_or, set, ltb, Option, None, Some}
use Rattle.std.proofs.lemmas.Option.{none-some}
use mathlib.Core.List.{List, [], ◌∷◌, ◌++◌, map, reverse_aux, append_assoc, append-nil}
use Rattle.std.proofs.Common.{ap, sym, subst, ◌∙◌, arith, ltb-false, ne_eqb, eq-eqb, length-set, get_or-set_same, get_or-set_other}
use Rattle.std.proofs.lemmas.List.Edits.{sets}
use Rattle.tree.specs.Tree.{Ident, Node, Tree}
use Rattle.tree.specs.Accepted.{All}
use Rattle.scope_map.specs.ScopeMap.{ScopeMap, Live, layer_in, newest_layer}
use Rattle.semantic.specs.Rows.{Row, Blank, Function, Let, ListEntry, no_list_entry}
use Rattle.semantic.specs.declared.ListAt.{ListAt}
use Rattle.semantic.specs.declared.FunctionInformation.{FunctionInformation}
use Rattle.semantic.specs.declared.LetInformation.{LetInformation}
use Rattle.pass.specs.State.{Facts, Capture, State, with_facts, entry_at, list_entry_of, row_at, note_ten, insert}
use Rattle.pass.specs.Lists.{captured_vars, sort_by_id, captured_most, store_captured, store_arguments}
use Rattle.pass.specs.Lambda.{function_in, name_in, list_entries_of, make_function, function_ends, mark_lasts, end_parameters, close_scope, close_captures, close_lambda, entered, function_id, leave_names, make_let, close_layer, close_let, open_captures, open_scope, enter_parameters, open_lambda}
use Rattle.pass_laws.specs.Laws.Rows.{row_put}
use Rattle.pass_laws.specs.Laws.Moves.{moves_lengths, out_of_lambda, out_of_let}
use Rattle.pass_laws.specs.Laws.Scopes.{Any}
use Rattle.pass_laws.specs.Laws.Layers.{live_at}
use Rattle.pass_laws.specs.Laws.Leaves.{names, not_noted}
use Rattle.pass_laws.specs.Laws.Finds.{lives_of, Around, layer_most}
use Rattle.pass_laws.specs.Laws.Idle.{Idle, idle_steps, closed_idle}
use Rattle.pass_laws.specs.Laws.Preserved.{ended_preserves, lasts_preserves, leaving_preserves, close_layer_preserves, parameters_preserves}
use Rattle.r7rs.specs.Binding.{Binder, Place, binders}
use Rattle.execution.proofs.Laws.Exact.Captured.{top_of}

-- A list in its table

pub put_other : (C l : List ListEntry) (i r : ℕ) → (i ≤ r → r < i + length l → ⊥) → get_or (sets C i l) r no_list_entry ≡ get_or C r no_list_entry
put_other C [] i r h = refl
put_other C (a ∷ l) i r h =
    put_other (set C i a) l (suc i) r (λ x y. h (omega arith) (omega arith)) ∙ get_or-set_other C i r a no_list_entry (λ e. h (omega arith) (omega arith))

pub put-at : (C l : List ListEntry) (i j : ℕ) → i + length l ≤ length C → j < length l → get_or (sets C i l) (i + j) no_list_entry ≡ get_or l j no_list_entry
put-at C [] i j h g = absurd (omega arith)
put-at C (a ∷ l) i zero h g =
    ap (λ (k : ℕ). get_or (sets (set C i a) (suc i) l) k no_list_entry) (omega arith)
    ∙ put_other (set C i a) l (suc i) i (λ x y. omega arith) ∙ get_or-set_same C i a no_list_entry (omega arith)
put-at C (a ∷ l) i (suc j) h g =
    ap (λ (k : ℕ). get_or (sets (set C i a) (suc i) l) k no_list_entry) (omega arith)
    ∙ put-at (set C i a) l (suc i) j (omega (arith, length-set C i a)) (omega arith)

abbrev pub arguments_of : State → ℕ
arguments_of s = s.facts.arguments_top

abbrev span : ℕ → List ListEntry → ListAt
span i l = record { first = i; length = length l }

-- A lambda with the captured list l and the argument list a ends
pub record Ended (n : Node) (l a : List ListEntry) (s t : State) : Type 0 where
  pub captured : t.facts.captured ≡ sets s.facts.captured (top_of s) l
  pub top : top_of t ≡ top_of s + length l
  pub fits : top_of s + length l ≤ captured_most
  pub arguments : t.facts.arguments ≡ sets s.facts.arguments (arguments_of s) a
  pub arguments_top : arguments_of t ≡ arguments_of s + length a
  pub info : FunctionInformation
  pub is : row_at t n.at ≡ Function info
  pub captured_at : info.captured_vars ≡ span (top_of s) l
  pub arguments_at : info.arguments ≡ span (arguments_of s) a

record Stored (l : List ListEntry) (s t : State) : Type 0 where
  captured : t.facts.captured ≡ sets s.facts.captured (top_of s) l
  top : top_of t ≡ top_of s + length l
  fits : top_of s + length l ≤ captured_most
  arguments : t.facts.arguments ≡ s.facts.arguments
  arguments_top : arguments_of t ≡ arguments_of s

stored : (i : ℕ) (l : List ListEntry) (s : State) → (store_captured i l s).noted.ten ≡ None → Stored l s (store_captured i l s)
unfolding store_captured
stored i l s e = go (ltb captured_most (top_of s + length l)) refl e
  where
    f : Bool → Facts
    f full = record {
      rows = s.facts.rows;
      captured = cond full s.facts.captured (sets s.facts.captured (top_of s) l);
      captured_top = top_of s + length l;
      arguments = s.facts.arguments;
      arguments_top = s.facts.arguments_top;
    }

    go : (full : Bool) → ltb captured_most (top_of s + length l) ≡ full → (cond full (note_ten i (with_facts (f full) s)) (with_facts (f full) s)).noted.ten ≡ None
        → Stored l s (cond full (note_ten i (with_facts (f full) s)) (with_facts (f full) s))
    go true q n = absurd (not_noted s.noted.ten i n)
    go false q n = record { captured = refl; top = refl; fits = ltb-false captured_most (top_of s + length l) q; arguments = refl; arguments_top = refl }

make_ended : (n : Node) (escapes : Bool) (l a : List ListEntry) (s : State) → (make_function n escapes l a s).noted.ten ≡ None
    → n.at < length (make_function n escapes l a s).facts.rows → Ended n l a s (make_function n escapes l a s)
unfolding make_function insert store_arguments
make_ended n escapes l a s e h =
    let q = stored n.at l s e in
    record {
      captured = q.captured;
      top = q.top;
      fits = q.fits;
      arguments = λ i. sets (q.arguments i) (q.arguments_top i) a;
      arguments_top = ap (λ (k : ℕ). k + length a) q.arguments_top;
      info = _;
      is = row_put n.at _ (store_arguments a (store_captured n.at l s)) h;
      captured_at = refl;
      arguments_at = refl;
    }

-- from an earlier state with the same lists
earlier_ended : {n : Node} {l a : List ListEntry} (r s t : State) → Idle r s → Ended n l a s t → Ended n l a r t
earlier_ended {l = l} {a} r s t i e =
    record {
      captured = e.captured ∙ ap (λ (g : Facts). sets g.captured g.captured_top l) i;
      top = e.top ∙ ap (λ (g : Facts). g.captured_top + length l) i;
      fits = subst (λ (g : Facts). g.captured_top + length l ≤ captured_most) i e.fits;
      arguments = e.arguments ∙ ap (λ (g : Facts). sets g.arguments g.arguments_top a) i;
      arguments_top = e.arguments_top ∙ ap (λ (g : Facts). g.arguments_top + length a) i;
      info = e.info;
      is = e.is;
      captured_at = e.captured_at ∙ ap (λ (g : Facts). span g.captured_top l) i;
      arguments_at = e.arguments_at ∙ ap (λ (g : Facts). span g.arguments_top a) i;
    }

function_ended : (o : Option FunctionInformation) (n : Node) (b : Tree) (escapes : Bool) (now a : List ListEntry) (m : ScopeMap Capture) (s : State) → o ≡ None
    → (function_ends o n b escapes now a m s).noted.ten ≡ None → n.at < length (function_ends o n b escapes now a m s).facts.rows
    → Ended n (sort_by_id now) a s (function_ends o n b escapes now a m s)
function_ended None n b escapes now a m s r e h = make_ended n escapes (sort_by_id now) a s e h
function_ended (Some v) n b escapes now a m s r e h = absurd (none-some v (sym r))

pub lambda_ended : (n : Node) (xs : List Ident) (b : Tree) (escapes : Bool) (s : State) → row_at s n.at ≡ Blank → n.at < length s.facts.rows
    → (close_lambda n xs b escapes s).noted.ten ≡ None
    → Ended n (sort_by_id (captured_vars (map name_in xs) s)) (list_entries_of s (newest_layer (names s))) s (close_lambda n xs b escapes s)
unfolding close_lambda
lambda_ended n xs b escapes s r h e =
    let layer = newest_layer (names s) in
    let closed = close_captures (close_scope s) in
    let u = end_parameters xs (mark_lasts layer closed) in
    earlier_ended s u _ (ended_preserves idle_steps xs (mark_lasts layer closed) ∙ lasts_preserves idle_steps layer closed ∙ closed_idle s)
    (function_ended (function_in (row_at s n.at)) n b escapes _ _ _ u (ap function_in r) e
    (omega (arith, (moves_lengths (out_of_lambda {own = Any} n xs b escapes s tt)).rows)))

-- A let with the argument list a ends
pub record LetEnded (n : Node) (a : List ListEntry) (s t : State) : Type 0 where
  pub captured : t.facts.captured ≡ s.facts.captured
  pub top : top_of t ≡ top_of s
  pub arguments : t.facts.arguments ≡ sets s.facts.arguments (arguments_of s) a
  pub arguments_top : arguments_of t ≡ arguments_of s + length a
  pub info : LetInformation
  pub is : row_at t n.at ≡ Let info
  pub arguments_at : info.arguments ≡ span (arguments_of s) a

close_row : (b : Bool) (s : State) (i : ℕ) → row_at (close_layer b s) i ≡ row_at s i
unfolding close_layer close_scope
close_row true s i = refl
close_row false s i = refl

close_rows : (b : Bool) (s : State) → (close_layer b s).facts.rows ≡ s.facts.rows
unfolding close_layer close_scope
close_rows true s = refl
close_rows false s = refl

made_let : (r : Row) (n : Node) (a : List ListEntry) (height : ℕ) (function : Option Node) (s : State) → r ≡ Blank
    → n.at < length (make_let r n a height function s).facts.rows
    → LetEnded n a s (make_let r n a height function s)
unfolding insert store_arguments
made_let r n a height function s e h =
    subst (λ (q : Row). n.at < length (make_let q n a height function s).facts.rows → LetEnded n a s (make_let q n a height function s)) (sym e)
    (λ h. record {
      captured = refl;
      top = refl;
      arguments = refl;
      arguments_top = refl;
      info = v;
      is = row_put n.at (Let v) (store_arguments a s) h;
      arguments_at = refl;
    }) h
  where
    v : LetInformation
    v = record { stack_offset = height; function_context = function_id function; arguments = span (arguments_of s) a }

pub let_ended : (b : Bool) (n : Node) (xs : List Ident) (height : ℕ) (function : Option Node) (s : State) → row_at s n.at ≡ Blank
    → n.at < length s.facts.rows
    → LetEnded n (entered xs s) s (close_let b n xs height function s)
unfolding close_let
let_ended b n xs height function s r h =
    let u = leave_names xs s in
    let v = make_let (row_at s n.at) n (entered xs s) height function u in
    let i = leaving_preserves idle_steps xs s in
    let c = close_layer_preserves idle_steps b v in
    let l = (moves_lengths (out_of_let {own = Any} b n xs height function s tt)).rows in
    let e = made_let (row_at s n.at) n (entered xs s) height function u r (omega (arith, l, ap length (close_rows b v))) in
    let a = entered xs s in
    record {
      captured = ap (λ (g : Facts). g.captured) c ∙ e.captured ∙ ap (λ (g : Facts). g.captured) i;
      top = ap (λ (g : Facts). g.captured_top) c ∙ e.top ∙ ap (λ (g : Facts). g.captured_top) i;
      arguments = ap (λ (g : Facts). g.arguments) c ∙ e.arguments ∙ ap (λ (g : Facts). sets g.arguments g.arguments_top a) i;
      arguments_top = ap (λ (g : Facts). g.arguments_top) c ∙ e.arguments_top ∙ ap (λ (g : Facts). g.arguments_top + length a) i;
      info = e.info;
      is = close_row b v n.at ∙ e.is;
      arguments_at = e.arguments_at ∙ ap (λ (g : Facts). span g.arguments_top a) i;
    }

-- A fresh lambda is entered
fresh_idle : (o : Option FunctionInformation) (xs : List Ident) (s : State) → o ≡ None → Idle s (enter_parameters o xs (open_scope (open_captures o s)))
unfolding open_scope open_captures
fresh_idle None xs s e = parameters_preserves idle_steps None xs (open_scope (open_captures None s))
fresh_idle (Some v) xs s e = absurd (none-some v (sym e))

pub open_lambda_idle : (n : Node) (xs : List Ident) (s : State) → row_at s n.at ≡ Blank → Idle s (open_lambda n xs s)
unfolding open_lambda
open_lambda_idle n xs s e = fresh_idle (function_in (row_at s n.at)) xs s (ap function_in e)

-- The newest layer of a lambda is its parameters, in order

abbrev lives_at : ℕ → List Ident → List (Live Ident)
lives_at d [] = []
lives_at d (x ∷ xs) = live_at d x ∷ lives_at d xs

layer_names : (is_let : Bool) (base : ℕ) (q : Place) (j : ℕ) (xs : List Ident) (sc : List Binder) (bottom : List (Live Ident))
    → layer_in q.site.layer (lives_of (reverse_aux (binders is_let base q j xs) sc) bottom)
    ≡ layer_in q.site.layer (lives_of sc bottom) ++ lives_at q.site.layer xs
unfolding binders layer_in
layer_names is_let base q j [] sc bottom = sym (append-nil (layer_in q.site.layer (lives_of sc bottom)))
layer_names is_let base q j (x ∷ xs) sc bottom =
    layer_names is_let base q (suc j) xs _ bottom
    ∙ rw (eq-eqb q.site.layer q.site.layer refl)
    (append_assoc (layer_in q.site.layer (lives_of sc bottom)) (live_at q.site.layer x ∷ []) (lives_at q.site.layer xs))

no_layer : (d : ℕ) (l : List (Live Ident)) → All (λ (e : Live Ident). e.layer < d) l → layer_in d l ≡ []
unfolding layer_in
no_layer d [] a = refl
no_layer d (e ∷ l) a = rw (ne_eqb e.layer d (λ z. omega (arith, a.0)))

lives_below : (layer : ℕ) (lambdas : List ℕ) (sc : List Binder) (bottom : List (Live Ident)) → 1 ≤ layer → All (Around layer lambdas) sc
    → All (λ (e : Live Ident). e.layer ≤ 1) bottom
    → All (λ (e : Live Ident). e.layer < suc layer) (lives_of sc bottom)
lives_below layer lambdas [] bottom h a b = low bottom b
  where
    low : (l : List (Live Ident)) → All (λ (e : Live Ident). e.layer ≤ 1) l → All (λ (e : Live Ident). e.layer < suc layer) l
    low [] b = tt
    low (e ∷ l) b = (omega (arith, b.0), low l b.1)
lives_below layer lambdas (c ∷ sc) bottom h a b = (omega (arith, layer_most layer h a.0), lives_below layer lambdas sc bottom h a.1 b)

list_entries_entered : (d : ℕ) (s : State) (xs : List Ident) → list_entries_of s (lives_at d xs) ≡ entered xs s
unfolding entered
list_entries_entered d s [] = refl
list_entries_entered d s (x ∷ xs) = ap (λ (l : List ListEntry). list_entry_of x (entry_at s x.at) ∷ l) (list_entries_entered d s xs)

pub parameters-entered : (layer : ℕ) (lambdas : List ℕ) (base : ℕ) (q : Place) (xs : List Ident) (sc : List Binder) (bottom : List (Live Ident)) (s : State)
    → 1 ≤ layer → q.site.layer ≡ suc layer → All (Around layer lambdas) sc → All (λ (e : Live Ident). e.layer ≤ 1) bottom
    → names s ≡ record { depth = q.site.layer; live = lives_of (reverse_aux (binders false base q 0 xs) sc) bottom }
    → list_entries_of s (newest_layer (names s)) ≡ entered xs s
parameters-entered layer lambdas base q xs sc bottom s h e a b l =
    let none_below = no_layer q.site.layer (lives_of sc bottom) (subst (λ (d : ℕ). All (λ (e : Live Ident). e.layer < d) (lives_of sc bottom)) (sym e)
    (lives_below layer lambdas sc bottom h a b)) in
    ap (λ (m : ScopeMap Ident). list_entries_of s (newest_layer m)) l
    ∙ ap (list_entries_of s) (layer_names false base q 0 xs sc bottom ∙ ap (λ (k : List (Live Ident)). k ++ lives_at q.site.layer xs) none_below)
    ∙ list_entries_entered q.site.layer s xs
