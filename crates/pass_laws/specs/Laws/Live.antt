-- A visit of a tree with no define in it gives the live names back as they were, unless a refusal 9 is noted.
use Rattle.std.specs.Prelude.{ℕ, suc, ◌≤◌, Bool, true, false, cond, ◌&&◌, ◌≡◌, length, eqb, Option, None, Some}
use mathlib.Core.List.{List, [], ◌∷◌, ◌++◌, cons-ne-nil}
use Rattle.std.proofs.Math.Path.{refl}
use Rattle.std.proofs.Common.{ap, sym, subst, ◌∙◌, arith}
use Rattle.tree.specs.Tree.{Ident, Node, Tree, Trees, ident, const, if, letin, define, lambda, sequence, call, set!, nil, cons, many, begins, ands, whens}
use Rattle.tree.specs.Define.{defines, defines_in}
use Rattle.tree.specs.Core.{cores}
use Rattle.tree.proofs.Laws.Core.{defines_cores}
use Rattle.scope_map.specs.ScopeMap.{ScopeMap}
use Rattle.semantic.specs.Information.{NONE}
use Rattle.semantic.specs.declared.IdentifierStatus.TheVariants.{LocallyDefinedFunction}
use Rattle.pass.specs.State.{info_at, Noted, State, insert, amend, row_at, put_entry, newest, depth}
use Rattle.pass.specs.Lambda.{open_lambda, close_scope, close_lambda, close_layer, at_bottom, open_let, leave_names, entered, close_let}
use Rattle.pass.specs.Visit.{Flags, not_tail, same_tail, pushed, let_body_flags, body_flags, argument_flags, head_flags, is_nil, child_flags, enter_child, enter_children, visit, visit_arguments, visit_children, in_begin, in_and, is_alone, visit_tested}
use Rattle.pass.specs.Read.{has_number, Rule, no_entry, depth_one, current_layer, taken_capture, home_slot, read_by, read, rule_of, mutate_at, mutate}
use Rattle.pass_laws.specs.Laws.Changes.{Steps, Changes, keeps_depth, keeps_noted, same, ◌⨾◌, context}
use Rattle.pass_laws.specs.Laws.Scopes.{Any, names-any, make_changes, leave_changes, leaving_changes, lambda_changes, lambda_depth, let_changes, let_stays}
use Rattle.pass_laws.specs.Laws.Names.{read_changes, mutate_changes}
use Rattle.pass_laws.specs.Laws.Visits.{stays, call_changes, clear_changes}
use Rattle.pass_laws.specs.Laws.Leaves.{names, in_layer, Layered, quiet_names, opened_to, open_let_lem, close_let_lem, open_lambda_lem, close_lambda_lem}
use Rattle.pass_laws.specs.Laws.Layers.{within_up, entered_in, within-entered}

-- No define: nothing enters before a begin's children

pub none_left : {A : Type 0} (l r : List A) → l ++ r ≡ [] → l ≡ []
none_left [] r e = refl
none_left (a ∷ l) r e = absurd (cons-ne-nil a (l ++ r) e)

pub none_right : {A : Type 0} (l r : List A) → l ++ r ≡ [] → r ≡ []
none_right [] r e = e
none_right (a ∷ l) r e = absurd (cons-ne-nil a (l ++ r) e)

module _ (classes : List ℕ) where
  none_child : (t : Tree) (s : State) → defines t ≡ [] → enter_child classes LocallyDefinedFunction t s ≡ s
  unfolding defines
  none_child (ident x) s e = refl
  none_child (const n q) s e = refl
  none_child (if n a b c) s e = refl
  none_child (letin n xs es b) s e = refl
  none_child (define n x b) s e = absurd (cons-ne-nil n.at (defines b) e)
  none_child (lambda n xs b) s e = refl
  none_child (sequence n es) s e = refl
  none_child (call n h es) s e = refl
  none_child (set! n x b) s e = refl

  pub none_enters : (ts : Trees) (s : State) → defines_in ts ≡ [] → enter_children classes LocallyDefinedFunction ts s ≡ s
  unfolding enter_children defines
  none_enters nil s e = refl
  none_enters (cons t ts) s e =
      none_enters ts (enter_child classes LocallyDefinedFunction t s) (none_right (defines t) (defines_in ts) e) ∙ none_child t s (none_left (defines t) (defines_in ts) e)

  -- what the trees are
  pub none-entered : (ts : Trees) (s : State) → defines_in ts ≡ [] → enter_children classes LocallyDefinedFunction (cores ts) s ≡ s
  none-entered ts s e = none_enters (cores ts) s (defines_cores ts ∙ e)

-- The visits

-- from s on to t the names are restored
pub record Restores (s t : State) : Type 0 where
  pub changes : Changes Any s t
  pub restored : Layered (names s) → t.noted.nine ≡ None → names t ≡ names s

-- h: s has a bottom layer
pub then : {s t u : State} (h : 1 ≤ depth s) → Restores s t → (1 ≤ depth t → Restores t u) → Restores s u
then h p q =
    let r = q (stays p.changes h) in
    record {
      changes = p.changes ⨾ r.changes;
      restored = λ l e.
          let same_names = p.restored l ((keeps_noted r.changes).nine e) in
          r.restored (subst Layered (sym same_names) l) e ∙ same_names;
    }

-- a quiet step
pub calm : {s t : State} → ((free : Type 0) → Steps free Any s t) → Restores s t
calm c = record { changes = c (Unit {0}); restored = λ l e. quiet_names (c ⊥) }

-- a name is read, or set: entries change, and no name comes or goes

either_names : (b : Bool) (s t : State) → names s ≡ names t → names (cond b s t) ≡ names t
either_names true s t e = e
either_names false s t e = refl

pub by_names : (classes : List ℕ) (r : Rule) (x : Ident) (s : State) → names (read_by classes r x s) ≡ names s
unfolding insert amend put_entry
by_names classes no_entry x s = refl
by_names classes (depth_one b) x s = refl
by_names classes (current_layer b) x s = refl
by_names classes (taken_capture b c) x s = either_names (has_number (info_at s c.row).read_capture_offset && eqb (info_at s c.row).capture_offset NONE) _ _ refl
by_names classes (home_slot b) x s = refl

pub read_restores : (classes : List ℕ) (x : Ident) (s : State) → Restores s (read classes x s)
unfolding read
read_restores classes x s = record { changes = read_changes classes x s tt; restored = λ l e. by_names classes (rule_of s x.name) x s }

set-names : (o : Option Ident) (s : State) → names (mutate_at o s) ≡ names s
unfolding insert amend put_entry
set-names None s = refl
set-names (Some b) s = refl

pub mutate_restores : (x : ℕ) (s : State) → Restores s (mutate x s)
unfolding mutate
mutate_restores x s = record { changes = mutate_changes x s; restored = λ l e. set-names (newest s x) s }

-- names entered the layer d
pub entered_layered : {m : ScopeMap Ident} (d : ℕ) (xs : List Ident) (k : ScopeMap Ident) → m ≡ in_layer d (entered_in d xs k.live) → k.depth ≤ d → Layered k → Layered m
entered_layered d xs k e o l =
    let layered : Layered (in_layer d (entered_in d xs k.live)) =
    record { one = omega (arith, l.one); within = within-entered d xs k.live (within_up k.live o l.within) } in
    subst Layered (sym e) layered

-- the whole of a lambda, and of a let after its initial expressions

pub lambda_restores : (n : Node) (xs : List Ident) (b : Tree) (escapes : Bool) (s : State) {t : State} → 1 ≤ depth s
    → (1 ≤ depth (open_lambda n xs s) → Restores (open_lambda n xs s) t) → Restores s (close_lambda n xs b escapes t)
unfolding close_scope
lambda_restores n xs b escapes s {t} h q =
    let p = q (omega (arith, lambda_depth n xs s h)) in
    record {
      changes = lambda_changes n xs b escapes s t tt (names-any xs) p.changes;
      restored = λ l e.
          let nine = (keeps_noted (leave_changes {own = Any} n xs b escapes t tt)).nine e in
          let en = open_lambda_lem n xs s h ((keeps_noted p.changes).nine nine) in
          let layered = entered_layered (suc (depth s)) xs (names s) en.after (omega arith) l in
          close_lambda_lem n xs b escapes (names s) t l (p.restored layered nine ∙ en.after);
    }

opened_pos : (b : Bool) (m : ScopeMap Ident) → m.depth ≤ opened_to b m
opened_pos true m = omega arith
opened_pos false m = omega arith

close_noted : (b : Bool) (s : State) → (close_layer b s).noted ≡ s.noted
unfolding close_layer close_scope
close_noted true s = refl
close_noted false s = refl

let_noted : (b : Bool) (n : Node) (xs : List Ident) (height : ℕ) (function : Option Node) (s : State) → (close_let b n xs height function s).noted.nine ≡ None → s.noted.nine ≡ None
unfolding close_let
let_noted b n xs height function s e =
    let c = leaving_changes {own = Any} xs s ⨾ make_changes (row_at s n.at) n (entered xs s) height function (leave_names xs s) tt in
    (keeps_noted c).nine (ap (λ (m : Noted). m.nine) (sym (close_noted b _)) ∙ e)

pub let_restores : (b : Bool) (n : Node) (xs : List Ident) (height : ℕ) (function : Option Node) (s : State) {t : State} → b ≡ at_bottom s → 1 ≤ depth s
    → (1 ≤ depth (open_let n xs height function s) → Restores (open_let n xs height function s) t) → Restores s (close_let b n xs height function t)
let_restores b n xs height function s {t} a h q =
    let p = q (let_stays n xs height function s h) in
    record {
      changes = let_changes b n xs height function s t a tt (names-any xs) p.changes;
      restored = λ l e.
          let nine = let_noted b n xs height function t e in
          let en = rw (← a) at (open_let_lem n xs height function s h ((keeps_noted p.changes).nine nine)) in
          let layered = entered_layered (opened_to b (names s)) xs (names s) en.after (opened_pos b (names s)) l in
          close_let_lem b n xs height function (names s) t l en.anew (p.restored layered nine ∙ en.after);
    }

module _ (classes : List ℕ) where
  mutual
    unfolding visit defines

    pub live : (t : Tree) (f : Flags) (s : State) → defines t ≡ [] → 1 ≤ depth s → Restores s (visit classes t f s)
    live (ident x) f s e h = read_restores classes x s
    live (const n q) f s e h = calm (λ free. same)
    live (if n a b c) f s e h =
        let bc = none_right (defines a) (defines b ++ defines c) e in
        let p = live a (not_tail f) s (none_left (defines a) (defines b ++ defines c) e) h in
        let q = then h p (λ k. live b (same_tail f) _ (none_left (defines b) (defines c) bc) k) in
        then h q (λ k. live c (same_tail f) _ (none_right (defines b) (defines c) bc) k)
    live (letin n xs es b) f s e h =
        let arguments = then h (calm (λ free. context NONE)) (λ k. live_arguments es (not_tail f) _ (none_left (defines_in es) (defines b) e) k) in
        let p = then h arguments (λ k. calm (λ free. context s.context)) in
        let bottom = ap (λ (d : ℕ). eqb d 1) (sym (keeps_depth p.changes h)) in
        then h p (λ k. let_restores (at_bottom s) n xs f.height f.function _ bottom k
        (λ k. live b (let_body_flags (many es) f) _ (none_right (defines_in es) (defines b) e) k))
    live (define n x b) f s e h = absurd (cons-ne-nil n.at (defines b) e)
    live (lambda n xs b) f s e h = lambda_restores n xs b f.escape s h (λ k. live b (body_flags n (length xs) f) _ e k)
    live (sequence (begins n) es) f s e h =
        subst (λ (u : State). Restores s (visit_children classes es (in_begin f) u)) (sym (none-entered classes es s e)) (live_children es (in_begin f) s e h)
    live (sequence (ands n) es) f s e h = live_children es (in_and (is_alone es) f) s e h
    live (sequence (whens b n) es) f s e h = live_tested es f s e h
    live (call n g es) f s e h =
        let p = live_arguments es (argument_flags f) s (none_right (defines g) (defines_in es) e) h in
        let q = then h p (λ k. live g (head_flags g (many es) f) _ (none_left (defines g) (defines_in es) e) k) in
        then h q (λ k. calm (λ free. call_changes n g es f _ (λ c. tt)))
    live (set! n x b) f s e h =
        let p = then h (calm (λ free. clear_changes x s)) (λ k. live b (not_tail f) _ e k) in
        then h (then h p (λ k. mutate_restores x.name _)) (λ k. read_restores classes x _)

    pub live_arguments : (ts : Trees) (f : Flags) (s : State) → defines_in ts ≡ [] → 1 ≤ depth s → Restores s (visit_arguments classes ts f s)
    live_arguments nil f s e h = calm (λ free. same)
    live_arguments (cons t ts) f s e h =
        let p = live t f s (none_left (defines t) (defines_in ts) e) h in
        then h p (λ k. live_arguments ts (pushed f) _ (none_right (defines t) (defines_in ts) e) k)

    pub live_children : (ts : Trees) (f : Flags) (s : State) → defines_in ts ≡ [] → 1 ≤ depth s → Restores s (visit_children classes ts f s)
    live_children nil f s e h = calm (λ free. same)
    live_children (cons t ts) f s e h =
        let p = live t (child_flags (is_nil ts) f) s (none_left (defines t) (defines_in ts) e) h in
        then h p (λ k. live_children ts f _ (none_right (defines t) (defines_in ts) e) k)

    pub live_tested : (ts : Trees) (f : Flags) (s : State) → defines_in ts ≡ [] → 1 ≤ depth s → Restores s (visit_tested classes ts f s)
    live_tested nil f s e h = calm (λ free. same)
    live_tested (cons t ts) f s e h =
        let g = none_right (defines t) (defines_in ts) e in
        let s₁ = visit classes t (not_tail f) s in
        subst (λ (u : State). Restores s (visit_children classes ts (in_begin f) u)) (sym (none-entered classes ts s₁ g))
        (then h (live t (not_tail f) s (none_left (defines t) (defines_in ts) e) h) (λ k. live_children ts (in_begin f) s₁ g k))
