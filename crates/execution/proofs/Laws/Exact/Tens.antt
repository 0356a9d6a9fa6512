-- A fresh visit of a tree without define counts its captured entries, and notes refusal 10, as R7RS's walk does.
use Rattle.std.specs.Prelude.{ℕ, ◌+◌, ◌≤◌, true, false, ◌≡◌, refl, length, None}
use mathlib.Core.List.{List, [], ◌++◌, cons-ne-nil}
use Rattle.std.proofs.Common.{ap, sym, subst, arith}
use Rattle.tree.specs.Tree.{Ident, Tree, Trees, ident, const, if, letin, define, lambda, sequence, call, set!, nil, cons, many, size, sizes, Num, Nums, begins, ands, whens}
use Rattle.tree.specs.Define.{defines, defines_in}
use Rattle.scope_map.specs.ScopeMap.{Live}
use Rattle.semantic.specs.Information.{NONE}
use Rattle.r7rs.specs.Binding.{Place, Mention, Use, lambda_body, let_body, parameters, let_names, walk, walk_arguments, walk_all}
use Rattle.pass.specs.State.{State, with_context, depth}
use Rattle.pass.specs.Lambda.{open_lambda, at_bottom, open_let}
use Rattle.pass_laws.specs.Static.{Presumption}
use Rattle.pass.specs.Visit.{Flags, not_tail, same_tail, pushed, let_body_flags, body_flags, argument_flags, head_flags, is_nil, child_flags, clear_context, visit, visit_arguments, visit_children, in_begin, in_and, is_alone, visit_tested}
use Rattle.pass_laws.specs.Laws.Changes.{◌⨾◌, context, no_later, keeps_noted}
use Rattle.pass_laws.specs.Laws.Moves.{moves_noted, into_let, into_lambda, out_of_let, out_of_lambda}
use Rattle.pass_laws.specs.Laws.Scopes.{Any, names-any, lambda_depth, let_stays}
use Rattle.pass_laws.specs.Laws.Names.{read_changes, mutate_changes}
use Rattle.pass_laws.specs.Laws.Visits.{stays, call_changes, clear_changes}
use Rattle.pass_laws.specs.Laws.Ranges.{Covers, names_writes}
use Rattle.pass_laws.specs.Laws.Keeps.{visited, visited_arguments, visited_children}
use Rattle.pass_laws.specs.Laws.Live.{none_left, none_right, none-entered}
use Rattle.pass_laws.specs.Laws.Says.{uses_in, uses-entering}
use Rattle.pass_laws.specs.Laws.Finds.{Finds, layered}
use Rattle.pass_laws.specs.Laws.Onward.{calmly}
use Rattle.pass_laws.specs.Laws.Bodies.{no_part, at_height}
use Rattle.pass_laws.specs.Laws.Bodies as bodies
use Rattle.pass_laws.specs.Laws.Done.{with_uses_lem}
use Rattle.pass_laws.specs.Laws.Forms.{Minus}
use Rattle.pass_laws.specs.Laws.Fresh.{visits, visits_in}
use Rattle.pass_laws.specs.Laws.Preserved.{read_preserves, open_let_preserves, call_preserves, mutate_preserves, clear_preserves}
use Rattle.execution.proofs.Laws.Exact.Places.{if_first, if_second, if_third, if_off, let_initials, let_names_lem, let_body_lem, let_begins, let_off, lambda_names, lambda_body_lem, lambda_begins, lambda_ends, lambda_off, call_operands, call_head, call_off, row_first, row-rest, row_off}
use Rattle.execution.proofs.Laws.Exact.Seen.{Seen}
use Rattle.execution.proofs.Laws.Exact.Plain.{plain, ◌then◌, plain_steps, open_lambda_plain, close_let_plain}
use Rattle.execution.proofs.Laws.Exact.Counts.{Counts, both, preceded, out, fewer, nothing, mentioned, entered, ended}

-- nothing is presumed
abbrev pub presumed : Presumption
presumed = record { ReadInside = λ x. Unit {0}; SetOwn = λ x. Unit {0}; SetInside = λ x. Unit {0} }

module _ (classes : List ℕ) (bottom : List (Live Ident)) where
  -- What a visit leaves to the next

  module _ {own : ℕ → Type 0} {before : List Use} {p : Place} {s : State} (i : ℕ) (f : Flags) (h : f.height ≡ p.site.height) where
    pub found : (t : Tree) → Num i t → defines t ≡ [] → Covers own i (i + size t) → Finds own bottom before p s → (visit classes t f s).noted.nine ≡ None
        → Finds (Minus own i (i + size t)) bottom (before ++ uses_in (walk t p)) p (visit classes t f s)
    found t n d o g e = (visits classes [] presumed bottom i t n d f f.tail refl h o g e).finds

    pub found_in_lem : (ts : Trees) → Nums i ts → defines_in ts ≡ [] → f.tail ≡ false → Covers own i (i + sizes ts) → Finds own bottom before p s
        → (visit_arguments classes ts f s).noted.nine ≡ None
        → Finds (Minus own i (i + sizes ts)) bottom (before ++ uses_in (walk_arguments ts p)) p (visit_arguments classes ts f s)
    found_in_lem ts n d b o g e = (visits_in classes [] presumed bottom i ts n d f b h o g e).finds

  mutual
    unfolding visit walk defines Num size

    pub tens : (i : ℕ) (t : Tree) → Num i t → defines t ≡ [] → (f : Flags) {own : ℕ → Type 0} {before : List Use} {seen : List Mention} {p : Place} {s : State} → f.height ≡ p.site.height
        → Covers own i (i + size t) → Finds own bottom before p s → Seen own before seen p.scope → (visit classes t f s).noted.nine ≡ None
        → Counts (Minus own i (i + size t)) before seen (walk t p) p.scope s (visit classes t f s)
    tens i (ident x) n d f {s = s} h o g w e =
        fewer (λ y z. z.0) (mentioned x false (read_preserves plain_steps classes x s) (keeps_noted (read_changes {own = Any} classes x s tt)) g w)
    tens i (const m q) n d f h o g w e = fewer (λ y z. z.0) (nothing plain no_later w)
    tens i (if m a c k) n d f {own} {before} {seen} {p} {s} h o g w e =
        let s₁ = visit classes a (not_tail f) s in
        let s₂ = visit classes c (same_tail f) s₁ in
        let h₀ = (layered g).one in
        let h₁ = stays (visited classes a (not_tail f) s h₀) h₀ in
        let h₂ = stays (visited classes c (same_tail f) s₁ h₁) h₁ in
        let e₂ = (keeps_noted (visited classes k (same_tail f) s₂ h₂)).nine e in
        let e₁ = (keeps_noted (visited classes c (same_tail f) s₁ h₁)).nine e₂ in
        let ck = none_right (defines a) (defines c ++ defines k) d in
        let i₁ = i + 1 in
        let i₂ = i₁ + size a in
        let i₃ = i₂ + size c in
        let a-none = none_left (defines a) (defines c ++ defines k) d in
        let c-none = none_left (defines c) (defines k) ck in
        let o₁ = if_first i (size a) (size c) (size k) o in
        let o₂ = if_second i (size a) (size c) (size k) o in
        let o₃ = if_third i (size a) (size c) (size k) o in
        let A = tens i₁ a n.1 a-none (not_tail f) h o₁ g w e₁ in
        let g₁ = found i₁ (not_tail f) h a n.1 a-none o₁ g e₁ in
        let C = tens i₂ c n.2 c-none (same_tail f) h o₂ g₁ A.met e₂ in
        let g₂ = found i₂ (same_tail f) h c n.2 c-none o₂ g₁ e₂ in
        let K = tens i₃ k n.3 (none_right (defines c) (defines k) ck) (same_tail f) h o₃ g₂ C.met e in
        fewer (if_off own i (size a) (size c) (size k)) (both A (both C K))
    tens i (letin m xs es c) n d f {own} {before} {seen} {p} {s} h o g w e =
        let s₁ = with_context NONE s in
        let s₂ = visit_arguments classes es (not_tail f) s₁ in
        let s₃ = with_context s.context s₂ in
        let s₄ = open_let m xs f.height f.function s₃ in
        let k = let_body_flags (many es) f in
        let s₅ = visit classes c k s₄ in
        let h₀ = (layered g).one in
        let h₂ = stays (visited_arguments classes es (not_tail f) s₁ h₀) h₀ in
        let h₄ = let_stays m xs f.height f.function s₃ h₂ in
        let last = moves_noted (out_of_let {own = Any} (at_bottom s) m xs f.height f.function s₅ tt) in
        let e₅ = last.nine e in
        let e₄ = (keeps_noted (visited classes c k s₄ h₄)).nine e₅ in
        let entering-noted = moves_noted (into_let {own = Any} m xs f.height f.function s₃ (names-any xs)) in
        let e₂ = entering-noted.nine e₄ in
        let i₁ = i + 1 in
        let i₂ = i₁ + length xs in
        let i₃ = i₂ + sizes es in
        let q = let_body (length xs) p in
        let es-none = none_left (defines_in es) (defines c) d in
        let o₂ = let_initials i (length xs) (sizes es) (size c) o in
        let names-left = let_names_lem i (length xs) (sizes es) (size c) o in
        let o₃ = let_body_lem i (length xs) (sizes es) (size c) o in
        let g₁ : Finds own bottom before p s₁ = calmly no_part g (λ free. context NONE) in
        let A = tens_in i₂ es n.3 es-none (not_tail f) refl h o₂ g₁ w e₂ in
        let g₂ = found_in_lem i₂ (not_tail f) h es n.3 es-none refl o₂ g₁ e₂ in
        let g₃ : Finds (Minus own i₂ i₃) bottom (before ++ uses_in (walk_arguments es p)) p s₃ = calmly no_part g₂ (λ free. context s.context) in
        let N = bodies.into_let classes {left = Minus (Minus own i₂ i₃) i₁ i₂} m i₁ xs n.2 names-left
        (let_begins i (length xs) (sizes es) (size c) o n.0) (λ y z. z.0) (λ y z l u. z.1 l u) g₃ f.height h f.function e₄ in
        let E = entered {left = Minus (Minus own i₂ i₃) i₁ i₂} true p.site.height q xs p.scope (λ y z. z.0) (names_writes (Minus own i₂ i₃) i₁ xs n.2 names-left) (λ x z. (g₃.unused x z).captured)
        (open_let_preserves plain_steps m xs f.height f.function s₃) entering-noted A.met in
        let g₄ = with_uses_lem (uses-entering (before ++ uses_in (walk_arguments es p)) (let_names xs p) p.scope) N.finds in
        let C = tens i₃ c n.4 (none_right (defines_in es) (defines c) d) k (omega (arith, n.1)) o₃ g₄ E.met e₅ in
        let X = preceded {t = s₁} (record { top = refl; ten = refl }) no_later (both A (preceded {t = s₃} (record { top = refl; ten = refl }) no_later (both E C))) in
        out (let_names xs p) p.scope
        (let_off own i (length xs) (sizes es) (size c)) X
        (close_let_plain (at_bottom s) m xs f.height f.function s₅) last
    tens i (define m x c) n d f h o g w e = absurd (cons-ne-nil m.at (defines c) d)
    tens i (lambda m xs c) n d f {own} {before} {seen} {p} {s} h o g w e =
        let k = body_flags m (length xs) f in
        let s₁ = open_lambda m xs s in
        let s₂ = visit classes c k s₁ in
        let h₁ : 1 ≤ depth s₁ = omega (arith, lambda_depth m xs s (layered g).one) in
        let e₂ = (moves_noted (out_of_lambda {own = Any} m xs c f.escape s₂ tt)).nine e in
        let e₁ = (keeps_noted (visited classes c k s₁ h₁)).nine e₂ in
        let i₁ = i + 1 in
        let i₂ = i₁ + length xs in
        let j = i₂ + size c in
        let q = lambda_body m (length xs) p in
        let here = lambda_begins i (length xs) (size c) o n.0 in
        let o₁ = lambda_names i (length xs) (size c) o in
        let o₂ = lambda_body_lem i (length xs) (size c) o in
        let N = bodies.into_lambda classes {left = Minus own i₁ i₂} m i₁ xs n.1 o₁ here (λ y z. z.0) (λ y z l u. z.1 l u) g e₁ in
        let E = entered {left = Minus own i₁ i₂} false 0 q xs p.scope (λ y z. z.0) (names_writes own i₁ xs n.1 o₁) (λ x z. (g.unused x z).captured)
        (open_lambda_plain m xs s (g.tables.blank m.at here)) (moves_noted (into_lambda {own = Any} m xs s (names-any xs))) w in
        let g₁ = with_uses_lem (uses-entering before (parameters m xs p) p.scope) N.finds in
        let C = tens i₂ c n.2 d k refl o₂ g₁ E.met e₂ in
        let g₂ = found i₂ k refl c n.2 d o₂ g₁ e₂ in
        let X = ended {left = Minus own i (i + size (lambda m xs c))} m xs c f.escape q p.scope
        (lambda_off own i (length xs) (size c)) (g₂.tables.blank m.at (lambda_ends i (length xs) (size c) o n.0)) g₂ C.met in
        both E (both C X)
    tens i (sequence (begins m) es) n d f {own} {before} {seen} {p} {s} h o g w e =
        subst (λ (u : State). (visit_children classes es (in_begin f) u).noted.nine ≡ None
        → Counts (Minus own i (i + size (sequence (begins m) es))) before seen (walk_all es p) p.scope s (visit_children classes es (in_begin f) u))
        (sym (none-entered classes es s d))
        (λ q. fewer (λ x z. (z.0, λ l u. z.1 (omega arith) (omega arith))) (tens_all (i + 1) es n.1 d (in_begin f) h (λ x l u. o x (omega arith) (omega arith)) g w q)) e
    tens i (sequence (ands m) es) n d f h o g w e =
        fewer (λ x z. (z.0, λ l u. z.1 (omega arith) (omega arith))) (tens_all (i + 1) es n.1 d (in_and (is_alone es) f) h (λ x l u. o x (omega arith) (omega arith)) g w e)
    tens i (sequence (whens b m) es) n d f h o g w e =
        fewer (λ x z. (z.0, λ l u. z.1 (omega arith) (omega arith))) (tens_tested (i + 1) es n.1 d f h (λ x l u. o x (omega arith) (omega arith)) g w e)
    tens i (call m c es) n d f {own} {before} {seen} {p} {s} h o g w e =
        let k = head_flags c (many es) f in
        let s₁ = visit_arguments classes es (argument_flags f) s in
        let s₂ = visit classes c k s₁ in
        let h₀ = (layered g).one in
        let h₁ = stays (visited_arguments classes es (argument_flags f) s h₀) h₀ in
        let last = keeps_noted (call_changes {free = ⊥} {own = Any} m c es f s₂ (λ q. tt)) in
        let e₂ = last.nine e in
        let e₁ = (keeps_noted (visited classes c k s₁ h₁)).nine e₂ in
        let i₁ = i + 1 in
        let i₂ = i₁ + size c in
        let j = i₂ + sizes es in
        let es-none = none_right (defines c) (defines_in es) d in
        let o₂ = call_operands i (size c) (sizes es) o in
        let o₁ = call_head i (size c) (sizes es) o in
        let A = tens_in i₂ es n.2 es-none (argument_flags f) refl h o₂ g w e₁ in
        let g₁ = at_height (p.site.height + many es) (found_in_lem i₂ (argument_flags f) h es n.2 es-none refl o₂ g e₁) in
        let C = tens i₁ c n.1 (none_left (defines c) (defines_in es) d) k (ap (λ (l : ℕ). l + many es) h) o₁ g₁ A.met e₂ in
        out [] p.scope (call_off own i (size c) (sizes es)) (both A C) (call_preserves plain_steps m c es f s₂) last
    tens i (set! m x c) n d f {own} {before} {seen} {p} {s} h o g w e =
        let s₁ = clear_context x s in
        let s₂ = visit classes c (not_tail f) s₁ in
        let g₁ : Finds own bottom before p s₁ = calmly no_part g (λ free. clear_changes x s) in
        let last = keeps_noted (mutate_changes {own = Any} x.name s₂ ⨾ read_changes classes x _ tt) in
        let e₂ = last.nine e in
        let o₂ : Covers own (i + 2) (i + 2 + size c) = λ y l u. o y (omega arith) (omega arith) in
        let C = tens (i + 2) c n.2 d (not_tail f) h o₂ g₁ w e₂ in
        let g₂ = found (i + 2) (not_tail f) h c n.2 d o₂ g₁ e₂ in
        let X = mentioned x true (mutate_preserves plain_steps x.name s₂ then read_preserves plain_steps classes x _) last g₂ C.met in
        fewer (λ y z. (z.0, λ l u. z.1 (omega arith) (omega arith)))
        (preceded (clear_preserves plain_steps x s) (keeps_noted (clear_changes {free = ⊥} {own = Any} x s)) (both C X))

    pub tens_in : (i : ℕ) (ts : Trees) → Nums i ts → defines_in ts ≡ [] → (f : Flags) → f.tail ≡ false → {own : ℕ → Type 0} {before : List Use} {seen : List Mention} {p : Place} {s : State}
        → f.height ≡ p.site.height → Covers own i (i + sizes ts) → Finds own bottom before p s → Seen own before seen p.scope → (visit_arguments classes ts f s).noted.nine ≡ None
        → Counts (Minus own i (i + sizes ts)) before seen (walk_arguments ts p) p.scope s (visit_arguments classes ts f s)
    tens_in i nil n d f b h o g w e = fewer (λ y z. z.0) (nothing plain no_later w)
    tens_in i (cons c ts) n d f b {own} {before} {seen} {p} {s} h o g w e =
        let s₁ = visit classes c f s in
        let h₀ = (layered g).one in
        let h₁ = stays (visited classes c f s h₀) h₀ in
        let e₁ = (keeps_noted (visited_arguments classes ts (pushed f) s₁ h₁)).nine e in
        let k = i + size c in
        let c-none = none_left (defines c) (defines_in ts) d in
        let o₁ = row_first i (size c) (sizes ts) o in
        let A = tens i c n.0 c-none f h o₁ g w e₁ in
        let g₁ = at_height (p.site.height + 1) (found i f h c n.0 c-none o₁ g e₁) in
        let R = tens_in k ts n.1 (none_right (defines c) (defines_in ts) d) (pushed f) b (omega arith) (row-rest i (size c) (sizes ts) o) g₁ A.met e in
        fewer (row_off own i (size c) (sizes ts)) (both A R)

    tens_tested : (i : ℕ) (ts : Trees) → Nums i ts → defines_in ts ≡ [] → (f : Flags) {own : ℕ → Type 0} {before : List Use} {seen : List Mention} {p : Place} {s : State}
        → f.height ≡ p.site.height → Covers own i (i + sizes ts) → Finds own bottom before p s → Seen own before seen p.scope → (visit_tested classes ts f s).noted.nine ≡ None
        → Counts (Minus own i (i + sizes ts)) before seen (walk_all ts p) p.scope s (visit_tested classes ts f s)
    tens_tested i nil n d f h o g w e = fewer (λ y z. z.0) (nothing plain no_later w)
    tens_tested i (cons c ts) n d f {own} {before} {seen} {p} {s} h o g w e =
        let l = not_tail f in
        let s₁ = visit classes c l s in
        let h₀ = (layered g).one in
        let h₁ = stays (visited classes c l s h₀) h₀ in
        let k = i + size c in
        let c-none = none_left (defines c) (defines_in ts) d in
        let rest-none = none_right (defines c) (defines_in ts) d in
        let o₁ = row_first i (size c) (sizes ts) o in
        subst (λ (u : State). (visit_children classes ts (in_begin f) u).noted.nine ≡ None
        → Counts (Minus own i (i + sizes (cons c ts))) before seen (walk_all (cons c ts) p) p.scope s (visit_children classes ts (in_begin f) u))
        (sym (none-entered classes ts s₁ rest-none))
        (λ e.
        let e₁ = (keeps_noted (visited_children classes ts (in_begin f) s₁ h₁)).nine e in
        let A = tens i c n.0 c-none l h o₁ g w e₁ in
        let g₁ = found i l h c n.0 c-none o₁ g e₁ in
        let R = tens_all k ts n.1 rest-none (in_begin f) h (row-rest i (size c) (sizes ts) o) g₁ A.met e in
        fewer (row_off own i (size c) (sizes ts)) (both A R)) e

    pub tens_all : (i : ℕ) (ts : Trees) → Nums i ts → defines_in ts ≡ [] → (f : Flags) {own : ℕ → Type 0} {before : List Use} {seen : List Mention} {p : Place} {s : State}
        → f.height ≡ p.site.height → Covers own i (i + sizes ts) → Finds own bottom before p s → Seen own before seen p.scope → (visit_children classes ts f s).noted.nine ≡ None
        → Counts (Minus own i (i + sizes ts)) before seen (walk_all ts p) p.scope s (visit_children classes ts f s)
    tens_all i nil n d f h o g w e = fewer (λ y z. z.0) (nothing plain no_later w)
    tens_all i (cons c ts) n d f {own} {before} {seen} {p} {s} h o g w e =
        let l = child_flags (is_nil ts) f in
        let s₁ = visit classes c l s in
        let h₀ = (layered g).one in
        let h₁ = stays (visited classes c l s h₀) h₀ in
        let e₁ = (keeps_noted (visited_children classes ts f s₁ h₁)).nine e in
        let k = i + size c in
        let c-none = none_left (defines c) (defines_in ts) d in
        let o₁ = row_first i (size c) (sizes ts) o in
        let A = tens i c n.0 c-none l h o₁ g w e₁ in
        let g₁ = found i l h c n.0 c-none o₁ g e₁ in
        let R = tens_all k ts n.1 (none_right (defines c) (defines_in ts) d) f h (row-rest i (size c) (sizes ts) o) g₁ A.met e in
        fewer (row_off own i (size c) (sizes ts)) (both A R)
