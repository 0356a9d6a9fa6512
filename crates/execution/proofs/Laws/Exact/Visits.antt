-- A visit of a tree without define notes refusal 9 at the first name of R7RS's walk that is live where it enters.
use Rattle.std.specs.Prelude.{ℕ, suc, ◌≤◌, Bool, true, false, cond, ◌&&◌, ◌≡◌, length, eqb, Option, None, Some}
use mathlib.Core.List.{List, [], ◌∷◌, ◌++◌, reverse_aux, cons-ne-nil}
use Rattle.std.proofs.Math.Path.{refl}
use Rattle.std.proofs.Common.{ap, sym, subst, ◌∙◌, arith, eqb-true}
use Rattle.tree.specs.Tree.{Ident, Node, Tree, Trees, ident, const, if, letin, define, lambda, sequence, call, set!, nil, cons, many, begins, ands, whens}
use Rattle.tree.specs.Define.{defines, defines_in}
use Rattle.scope_map.specs.ScopeMap.{ScopeMap, push_layer}
use Rattle.scope_map.specs.ScopeMap as map
use Rattle.semantic.specs.Information.{NONE}
use Rattle.semantic.specs.declared.FunctionInformation.{FunctionInformation}
use Rattle.pass.specs.State.{Scope, Noted, State, info_at, insert, amend, put_entry, with_names, row_at, entry_at, newest, depth}
use Rattle.pass.specs.Read.{has_number, Rule, no_entry, depth_one, current_layer, taken_capture, home_slot, read_by, read, rule_of, mutate_at, mutate}
use Rattle.pass.specs.Lambda.{function_in, open_captures, open_scope, enter_parameters, open_lambda, close_scope, close_captures, close_lambda, open_layer, close_layer, at_bottom, open_let, leave_names, entered, close_let}
use Rattle.pass.specs.Visit.{Flags, not_tail, same_tail, pushed, let_body_flags, body_flags, argument_flags, head_flags, is_nil, child_flags, visit, visit_arguments, visit_children, in_begin, in_and, is_alone, visit_tested}
use Rattle.pass_laws.specs.Laws.Changes.{Steps, Later, later_trans, keeps_depth, keeps_noted, same, context, quiet}
use Rattle.pass_laws.specs.Laws.Scopes.{Any, last_changes, make_changes, lambda_ends, leave_changes, let_deep, lambda_depth, let_stays}
use Rattle.pass_laws.specs.Laws.Visits.{stays, call_changes, clear_changes}
use Rattle.pass_laws.specs.Laws.Layers.{entered_in}
use Rattle.pass_laws.specs.Laws.Leaves.{names, in_layer, opened_to, Beside, captures_beside, open_let_lem, open_lambda_lem}
use Rattle.pass_laws.specs.Laws.Finds.{lives_of}
use Rattle.pass_laws.specs.Laws.Bodies.{two_deep}
use Rattle.pass_laws.specs.Laws.Live.{Restores, none_left, none_right, none-entered, calm, read_restores, mutate_restores, entered_layered, lambda_restores, let_restores}
use Rattle.pass_laws.specs.Laws.Live as live
use Rattle.r7rs.specs.Binding.{Binder, Place, Event, ends, lambda_body, let_body, binders, parameters, let_names, raised, within, entering, walk, walk_arguments, walk_all}
use Rattle.execution.specs.Acceptance.{nine_in}
use Rattle.execution.proofs.Laws.Exact.Scope.{first, Scoped, entered_lives, names_nine}

-- from s on to t the walk meets l, where the layer is d and the names in scope are sc
pub record Notes (d : ℕ) (sc : List Binder) (l : List Event) (s t : State) : Type 0 where
  pub restores : Restores s t
  pub nine : Scoped d sc (names s) → s.noted.nine ≡ None → t.noted.nine ≡ nine_in l

module _ {d : ℕ} {sc : List Binder} where
  then : {l r : List Event} {s t u : State} → 1 ≤ depth s → Notes d sc l s t → (1 ≤ depth t → Notes d sc r t u) → Notes d sc (l ++ r) s u
  then {l} {r} {s} {t} {u} h p q =
      let k = q (stays p.restores.changes h) in
      record {
        restores = live.then h p.restores (λ j. k.restores);
        nine = λ st e.
            first t u l r (p.nine st e)
            (λ n. k.nine (subst (Scoped d sc) (sym (p.restores.restored st.layered n)) st) n)
            (keeps_noted k.restores.changes);
      }

  -- no 9 is noted

  none-noted : {l : List Event} {s t : State} → nine_in l ≡ None → Restores s t → t.noted.nine ≡ s.noted.nine → Notes d sc l s t
  none-noted e r q = record { restores = r; nine = λ st n. q ∙ n ∙ sym e }

  -- a quiet step, before and after a visit

  before : {l : List Event} {s t u : State} → 1 ≤ depth s → ((free : Type 0) → Steps free Any s t) → (1 ≤ depth t → Notes d sc l t u) → Notes d sc l s u
  unfolding nine_in
  before h c q = then {l = []} h (none-noted refl (calm c) (quiet (c ⊥)).nine) q

  after : {l : List Event} {s t u : State} → 1 ≤ depth s → Notes d sc l s t → ((free : Type 0) → Steps free Any t u) → Notes d sc l s u
  after h p c =
      record { restores = live.then h p.restores (λ k. calm c); nine = λ st n. (quiet (c ⊥)).nine ∙ p.nine st n }

-- A name is read or set

either_nine : (b : Bool) (s t : State) → s.noted.nine ≡ t.noted.nine → (cond b s t).noted.nine ≡ t.noted.nine
either_nine true s t e = e
either_nine false s t e = refl

by_nine : (classes : List ℕ) (r : Rule) (x : Ident) (s : State) → (read_by classes r x s).noted.nine ≡ s.noted.nine
unfolding insert amend put_entry
by_nine classes no_entry x s = refl
by_nine classes (depth_one b) x s = refl
by_nine classes (current_layer b) x s = refl
by_nine classes (taken_capture b c) x s = either_nine (has_number (info_at s c.row).read_capture_offset && eqb (info_at s c.row).capture_offset NONE) _ _ refl
by_nine classes (home_slot b) x s = refl

read_nine : (classes : List ℕ) (x : Ident) (s : State) → (read classes x s).noted.nine ≡ s.noted.nine
unfolding read
read_nine classes x s = by_nine classes (rule_of s x.name) x s

set_nine : (o : Option Ident) (s : State) → (mutate_at o s).noted.nine ≡ s.noted.nine
unfolding insert amend put_entry
set_nine None s = refl
set_nine (Some b) s = refl

mutate_nine : (x : ℕ) (s : State) → (mutate x s).noted.nine ≡ s.noted.nine
unfolding mutate
mutate_nine x s = set_nine (newest s x) s

-- Lambda

scoped-one : {d : ℕ} {sc : List Binder} {m : ScopeMap Ident} → Scoped d sc m → 1 ≤ d
scoped-one st = omega (arith, st.layered.one, ap (λ (j : ScopeMap Ident). j.depth) st.live)

-- names have entered
entered-scoped : (is_let : Bool) (slot : ℕ) (p q : Place) (xs : List Ident) (m : ScopeMap Ident) {k : ScopeMap Ident} (st : Scoped p.site.layer p.scope m) → p.site.layer ≤ q.site.layer
    → k ≡ in_layer q.site.layer (entered_in q.site.layer xs m.live) → Scoped q.site.layer (reverse_aux (binders is_let slot q 0 xs) p.scope) k
entered-scoped is_let slot p q xs m st h e =
    record {
      bottom = st.bottom;
      low = st.low;
      live = e ∙ ap (in_layer q.site.layer) (ap (λ (j : ScopeMap Ident). entered_in q.site.layer xs j.live) st.live ∙ entered_lives is_let slot q 0 xs p.scope st.bottom);
      layered = entered_layered q.site.layer xs m e (omega (arith, ap (λ (j : ScopeMap Ident). j.depth) st.live)) st.layered;
    }

parameters_nine : (o : Option FunctionInformation) (n : Node) (xs : List Ident) (p : Place) (s : State) → Scoped p.site.layer p.scope (names s) → s.noted.nine ≡ None
    → (enter_parameters o xs (open_scope (open_captures o s))).noted.nine ≡ nine_in (entering (parameters n xs p) p.scope)
unfolding enter_parameters open_scope
parameters_nine o n xs p s st e = go o refl
  where
    q : Place
    q = lambda_body n (length xs) p

    side : Beside s (open_captures o s)
    side = captures_beside o s

    opened : push_layer (names (open_captures o s)) ≡ in_layer (suc p.site.layer) (lives_of p.scope st.bottom)
    opened = ap push_layer (ap (λ (c : Scope). c.names) side.scope ∙ st.live)

    fine : (open_captures o s).noted.nine ≡ None
    fine = ap (λ (n : Noted). n.nine) side.noted ∙ e

    two : 2 ≤ suc p.site.layer
    two = omega (arith, scoped-one st)

    go : (f : Option FunctionInformation) → o ≡ f → (enter_parameters f xs (open_scope (open_captures o s))).noted.nine ≡ nine_in (entering (parameters n xs p) p.scope)
    go None r = names_nine _ _ _ _ false 0 q two st.bottom st.low xs 0 0 0 _ p.scope opened fine
    go (Some v) r = names_nine _ _ _ _ false 0 q two st.bottom st.low xs 0 0 0 _ p.scope opened fine

end_nine : (n : Node) (xs : List Ident) (b : Tree) (escapes : Bool) (s : State) → (close_lambda n xs b escapes s).noted.nine ≡ s.noted.nine
unfolding close_scope close_captures
end_nine n xs b escapes s = (quiet (lambda_ends {own = Any} n xs b escapes s tt)).nine

end_later : (n : Node) (xs : List Ident) (b : Tree) (escapes : Bool) (s : State) → Later s.noted (close_lambda n xs b escapes s).noted
unfolding close_scope
end_later n xs b escapes s = keeps_noted (leave_changes {own = Any} n xs b escapes s tt)

lambda_notes : (n : Node) (xs : List Ident) (b : Tree) (escapes : Bool) (p : Place) (s : State) {t : State} {l : List Event} → 1 ≤ depth s
    → (1 ≤ depth (open_lambda n xs s) → Notes (suc p.site.layer) (reverse_aux (parameters n xs p) p.scope) l (open_lambda n xs s) t)
    → Notes p.site.layer p.scope (entering (parameters n xs p) p.scope ++ (l ++ (ends n.at xs p.scope ∷ []))) s (close_lambda n xs b escapes t)
unfolding open_lambda nine_in
lambda_notes n xs b escapes p s {t} {l} h q =
    let k = q (omega (arith, lambda_depth n xs s h)) in
    let u = close_lambda n xs b escapes t in
    let ended = end_later n xs b escapes t in
    record {
      restores = lambda_restores n xs b escapes s h (λ j. k.restores);
      nine = λ st e.
          first (open_lambda n xs s) u (entering (parameters n xs p) p.scope) _ (parameters_nine (function_in (row_at s n.at)) n xs p s st e)
          (λ m.
          let deep = ap (λ (j : ScopeMap Ident). j.depth) st.live in
          let en = (open_lambda_lem n xs s h m).after ∙ ap (λ (d : ℕ). in_layer (suc d) (entered_in (suc d) xs (names s).live)) deep in
          let body = entered-scoped false 0 p (lambda_body n (length xs) p) xs (names s) st (omega arith) en in
          first t u l _ (k.nine body m) (λ j. end_nine n xs b escapes t ∙ j) ended)
          (later_trans (keeps_noted k.restores.changes) ended);
    }

-- Let

open_nine : (b : Bool) (s : State) → (open_layer b s).noted.nine ≡ s.noted.nine
unfolding open_layer open_scope
open_nine true s = refl
open_nine false s = refl

open_names : (b : Bool) (s : State) → names (open_layer b s) ≡ in_layer (opened_to b (names s)) (names s).live
unfolding open_layer open_scope
open_names true s = refl
open_names false s = refl

let_layer_lem : (d : ℕ) → 1 ≤ d → d ≤ cond (eqb d 1) 2 d
let_layer_lem d h = go (eqb d 1) refl
  where
    go : (b : Bool) → eqb d 1 ≡ b → d ≤ cond b 2 d
    go true e = omega (arith, eqb-true d 1 e)
    go false e = omega arith

-- how deep a let's body is
opened_layer : {d : ℕ} {sc : List Binder} (m : ScopeMap Ident) → Scoped d sc m → opened_to (eqb m.depth 1) m ≡ cond (eqb d 1) 2 d
opened_layer m st =
    let_deep m.depth (eqb m.depth 1) refl ∙ ap (λ (j : ScopeMap Ident). cond (eqb j.depth 1) 2 j.depth) st.live

let_nine : (n : Node) (xs : List Ident) (height : ℕ) (function : Option Node) (p : Place) (s : State) → Scoped p.site.layer p.scope (names s) → s.noted.nine ≡ None
    → (open_let n xs height function s).noted.nine ≡ nine_in (entering (let_names xs p) p.scope)
unfolding open_let
let_nine n xs height function p s st e =
    let q = let_body (length xs) p in
    let one = scoped-one st in
    let opened = open_names (at_bottom s) s
    ∙ ap (λ (d : ℕ). in_layer d (names s).live) (opened_layer (names s) st)
    ∙ ap (λ (j : ScopeMap Ident). in_layer q.site.layer j.live) st.live in
    names_nine _ _ _ _ true p.site.height q (two_deep p.site.layer (eqb p.site.layer 1) refl one) st.bottom st.low xs 0 0 0 _ p.scope opened (open_nine (at_bottom s) s ∙ e)

leaving_nine : (xs : List Ident) (s : State) → (leave_names xs s).noted.nine ≡ s.noted.nine
unfolding leave_names
leaving_nine [] s = refl
leaving_nine (x ∷ xs) s = leaving_nine xs _ ∙ (quiet (last_changes {own = Any} (entry_at s x.at).last_used (with_names (map.remove x.name (names s)) s))).nine

close_nine : (b : Bool) (s : State) → (close_layer b s).noted.nine ≡ s.noted.nine
unfolding close_layer close_scope
close_nine true s = refl
close_nine false s = refl

let_end_nine : (b : Bool) (n : Node) (xs : List Ident) (height : ℕ) (function : Option Node) (s : State) → (close_let b n xs height function s).noted.nine ≡ s.noted.nine
unfolding close_let
let_end_nine b n xs height function s =
    close_nine b _ ∙ (quiet (make_changes {own = Any} (row_at s n.at) n (entered xs s) height function (leave_names xs s) tt)).nine ∙ leaving_nine xs s

let_notes : (b : Bool) (n : Node) (xs : List Ident) (height : ℕ) (function : Option Node) (p : Place) (s : State) {t : State} {l : List Event} → b ≡ at_bottom s → 1 ≤ depth s
    → (1 ≤ depth (open_let n xs height function s) → Notes (let_body (length xs) p).site.layer (reverse_aux (let_names xs p) p.scope) l (open_let n xs height function s) t)
    → Notes p.site.layer p.scope (entering (let_names xs p) p.scope ++ l) s (close_let b n xs height function t)
let_notes b n xs height function p s {t} {l} a h q =
    let k = q (let_stays n xs height function s h) in
    record {
      restores = let_restores b n xs height function s a h (λ j. k.restores);
      nine = λ st e.
          let_end_nine b n xs height function t
          ∙ first (open_let n xs height function s) t (entering (let_names xs p) p.scope) l (let_nine n xs height function p s st e)
          (λ m.
          let one = scoped-one st in
          let en = (open_let_lem n xs height function s h m).after ∙ ap (λ (d : ℕ). in_layer d (entered_in d xs (names s).live)) (opened_layer (names s) st) in
          k.nine (entered-scoped true p.site.height p (let_body (length xs) p) xs (names s) st (let_layer_lem p.site.layer one) en) m)
          (keeps_noted k.restores.changes);
    }

module _ (classes : List ℕ) where
  mutual
    unfolding visit defines walk nine_in

    pub notes : (t : Tree) (f : Flags) (p : Place) (s : State) → defines t ≡ [] → 1 ≤ depth s
        → Notes p.site.layer p.scope (walk t p) s (visit classes t f s)
    notes (ident x) f p s e h = none-noted refl (read_restores classes x s) (read_nine classes x s)
    notes (const n q) f p s e h = none-noted refl (calm (λ free. same)) refl
    notes (if n a b c) f p s e h =
        let bc = none_right (defines a) (defines b ++ defines c) e in
        then h (notes a (not_tail f) p s (none_left (defines a) (defines b ++ defines c) e) h)
        (λ k. then k (notes b (same_tail f) p _ (none_left (defines b) (defines c) bc) k)
        (λ j. notes c (same_tail f) p _ (none_right (defines b) (defines c) bc) j))
    notes (letin n xs es b) f p s e h =
        let arguments = before h (λ free. context NONE) (λ k. notes_arguments es (not_tail f) p _ (none_left (defines_in es) (defines b) e) k) in
        let q = after h arguments (λ free. context s.context) in
        let bottom = ap (λ (d : ℕ). eqb d 1) (sym (keeps_depth q.restores.changes h)) in
        then h q (λ k. let_notes (at_bottom s) n xs f.height f.function p _ bottom k
        (λ j. notes b (let_body_flags (many es) f) (within (let_names xs p) (let_body (length xs) p)) _ (none_right (defines_in es) (defines b) e) j))
    notes (define n x b) f p s e h = absurd (cons-ne-nil n.at (defines b) e)
    notes (lambda n xs b) f p s e h = lambda_notes n xs b f.escape p s h (λ k. notes b (body_flags n (length xs) f) (within (parameters n xs p) (lambda_body n (length xs) p)) _ e k)
    notes (sequence (begins n) es) f p s e h =
        subst (λ (u : State). Notes p.site.layer p.scope (walk_all es p) s (visit_children classes es (in_begin f) u)) (sym (none-entered classes es s e))
        (notes_children es (in_begin f) p s e h)
    notes (sequence (ands n) es) f p s e h = notes_children es (in_and (is_alone es) f) p s e h
    notes (sequence (whens b n) es) f p s e h = notes_tested es f p s e h
    notes (call n g es) f p s e h =
        let q = notes_arguments es (argument_flags f) p s (none_right (defines g) (defines_in es) e) h in
        then h q (λ k. after k (notes g (head_flags g (many es) f) (raised (many es) p) _ (none_left (defines g) (defines_in es) e) k) (λ free. call_changes n g es f _ (λ c. tt)))
    notes (set! n x b) f p s e h =
        let q = before h (λ free. clear_changes x s) (λ k. notes b (not_tail f) p _ e k) in
        then h q (λ k. none-noted refl (live.then k (mutate_restores x.name _) (λ j. read_restores classes x _)) (read_nine classes x _ ∙ mutate_nine x.name _))

    pub notes_arguments : (ts : Trees) (f : Flags) (p : Place) (s : State) → defines_in ts ≡ [] → 1 ≤ depth s
        → Notes p.site.layer p.scope (walk_arguments ts p) s (visit_arguments classes ts f s)
    notes_arguments nil f p s e h = none-noted refl (calm (λ free. same)) refl
    notes_arguments (cons t ts) f p s e h =
        then h (notes t f p s (none_left (defines t) (defines_in ts) e) h) (λ k. notes_arguments ts (pushed f) (raised 1 p) _ (none_right (defines t) (defines_in ts) e) k)

    pub notes_children : (ts : Trees) (f : Flags) (p : Place) (s : State) → defines_in ts ≡ [] → 1 ≤ depth s
        → Notes p.site.layer p.scope (walk_all ts p) s (visit_children classes ts f s)
    notes_children nil f p s e h = none-noted refl (calm (λ free. same)) refl
    notes_children (cons t ts) f p s e h =
        then h (notes t (child_flags (is_nil ts) f) p s (none_left (defines t) (defines_in ts) e) h) (λ k. notes_children ts f p _ (none_right (defines t) (defines_in ts) e) k)

    notes_tested : (ts : Trees) (f : Flags) (p : Place) (s : State) → defines_in ts ≡ [] → 1 ≤ depth s
        → Notes p.site.layer p.scope (walk_all ts p) s (visit_tested classes ts f s)
    notes_tested nil f p s e h = none-noted refl (calm (λ free. same)) refl
    notes_tested (cons t ts) f p s e h =
        let g = none_right (defines t) (defines_in ts) e in
        let s₁ = visit classes t (not_tail f) s in
        subst (λ (u : State). Notes p.site.layer p.scope (walk_all (cons t ts) p) s (visit_children classes ts (in_begin f) u)) (sym (none-entered classes ts s₁ g))
        (then h (notes t (not_tail f) p s (none_left (defines t) (defines_in ts) e) h) (λ k. notes_children ts (in_begin f) p s₁ g k))
