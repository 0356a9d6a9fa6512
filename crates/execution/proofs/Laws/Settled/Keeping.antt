-- A fresh visit of a tree without define leaves in the tables what `Kept` says of it.
use Rattle.std.specs.Prelude.{ℕ, suc, ◌+◌, ◌≤◌, false, ◌≡◌, refl, length}
use mathlib.Core.List.{List, [], ◌++◌, cons-ne-nil}
use Rattle.std.proofs.Common.{ap, sym, subst, ◌∙◌, arith}
use Rattle.tree.specs.Tree.{Ident, Tree, Trees, ident, const, if, letin, define, lambda, sequence, call, set!, nil, cons, many, size, sizes, Num, Nums, begins, ands, whens}
use Rattle.tree.specs.Define.{defines, defines_in}
use Rattle.scope_map.specs.ScopeMap.{Live}
use Rattle.semantic.specs.Information.{NONE}
use Rattle.semantic.specs.Rows.{Row, ListEntry}
use Rattle.r7rs.specs.Binding.{Place, Use, lambda_body, let_body, parameters, let_names, raised, within, walk, walk_arguments}
use Rattle.pass.specs.State.{State, with_context, depth}
use Rattle.pass.specs.Lambda.{open_lambda, close_lambda, at_bottom, open_let, close_let}
use Rattle.pass.specs.Visit.{Flags, not_tail, same_tail, pushed, let_body_flags, body_flags, argument_flags, head_flags, is_nil, child_flags, clear_context, close_call, visit, visit_arguments, visit_children, in_begin, in_and, is_alone, visit_tested}
use Rattle.pass.specs.Read.{read, mutate}
use Rattle.pass_laws.specs.Laws.Changes.{Changes, ◌⨾◌, context, keeps_noted, keeps_lengths}
use Rattle.pass_laws.specs.Laws.Moves.{by, ◌⨟◌, moves_noted, moves_lengths, into_let, into_lambda, out_of_let, out_of_lambda}
use Rattle.pass_laws.specs.Laws.Scopes.{Any, names-any, lambda_depth, let_stays}
use Rattle.pass_laws.specs.Laws.Names.{read_changes, mutate_changes}
use Rattle.pass_laws.specs.Laws.Visits.{stays, call_changes, clear_changes, visit_changes, arguments_visited, children_visited}
use Rattle.pass_laws.specs.Laws.Ranges.{Covers, names_writes, tree_writes, trees_writes}
use Rattle.pass_laws.specs.Laws.Keeps.{visited, visited_arguments, visited_children}
use Rattle.pass_laws.specs.Laws.Live.{none_left, none_right, none-entered}
use Rattle.pass_laws.specs.Laws.Says.{uses_in}
use Rattle.pass_laws.specs.Laws.Finds.{Finds, layered}
use Rattle.pass_laws.specs.Laws.Onward.{calmly}
use Rattle.pass_laws.specs.Laws.Bodies.{no_part, at_height}
use Rattle.pass_laws.specs.Laws.Bodies as bodies
use Rattle.pass_laws.specs.Laws.Forms.{Minus}
use Rattle.pass_laws.specs.Laws.Idle.{Idle, idle_steps}
use Rattle.pass_laws.specs.Laws.Preserved.{read_preserves, open_let_preserves, call_preserves, clear_preserves, mutate_preserves}
use Rattle.execution.proofs.Laws.Exact.Captured.{top_of}
use Rattle.execution.proofs.Laws.Exact.Plain.{close_let_plain}
use Rattle.execution.proofs.Laws.Exact.Places.{if_first, if_second, if_third, let_initials, let_names_lem, let_body_lem, let_begins, let_ends, lambda_names, lambda_body_lem, lambda_begins, lambda_ends, call_operands, call_head, row_first, row-rest, off_next, off_later, off_before, off_here, off_far}
use Rattle.execution.proofs.Laws.Exact.Tens.{found, found_in_lem}
use Rattle.execution.proofs.Laws.Settled.Tables.{open_lambda_idle}
use Rattle.execution.proofs.Laws.Settled.Kept.{Kept, KeptIn, KeptAll, idle_grown, Leaves, closed, idle_before}
use Rattle.execution.proofs.Laws.Settled.Parts.{if_leaves, let_kept, lambda_kept, call_kept, set_kept, in_kept, all_kept}
use Rattle.execution.proofs.Laws.Settled.Ending.{Unnoted, unnoted, Room, room_after, room_part, let_leaves, lambda_leaves}

-- The argument entries of a form's parts

as_many : (n : ℕ) → n ≤ n
as_many n = omega arith

none_more : (n : ℕ) → 0 + n ≤ n
none_more n = omega arith

one_more_lem : (n : ℕ) → n ≤ 1 + n
one_more_lem n = omega arith

left_few : (a b : ℕ) → a ≤ a + b
left_few a b = omega arith

first_few : (a b : ℕ) → a ≤ 1 + (a + b)
first_few a b = omega arith

last_few : (a b : ℕ) → b ≤ 1 + (a + b)
last_few a b = omega arith

middle_few : (a b c : ℕ) → b ≤ 1 + (a + (b + c))
middle_few a b c = omega arith

let_few : (names es body : ℕ) → es + (body + names) ≤ 1 + (names + (es + body))
let_few names es body = omega arith

lambda_few : (names body : ℕ) → 0 + (body + names) ≤ 1 + (names + body)
lambda_few names body = omega arith

call_few : (head es : ℕ) → es + head ≤ 1 + (head + es)
call_few head es = omega arith

let_level : (f : Flags) (p : Place) (m n : ℕ) → f.height ≡ p.site.height → m ≡ n → f.height + m ≡ p.site.height + n
let_level f p m n h e = omega arith

next_level : (f : Flags) (p : Place) → f.height ≡ p.site.height → suc f.height ≡ p.site.height + 1
next_level f p h = omega arith

module _ (classes : List ℕ) (bottom : List (Live Ident)) (T : List Row) (C A : List ListEntry) where
  past : {own : ℕ → Type 0} (i : ℕ) (t : Tree) → Num i t → Covers own i (i + size t) → (f : Flags) (s : State) → 1 ≤ depth s
      → Changes own s (visit classes t f s)
  past {own} i t n o f s h = visit_changes classes t f s (tree_writes own i t n o) h

  mutual
    unfolding visit walk defines Num size Kept

    pub keeping : (i : ℕ) (t : Tree) → Num i t → defines t ≡ [] → (f : Flags) {own : ℕ → Type 0} {before : List Use} {p : Place} {s : State}
        → f.height ≡ p.site.height
        → Covers own i (i + size t) → Finds own bottom before p s → Room (size t) s → Unnoted (visit classes t f s).noted
        → Leaves T C A i (i + size t) (size t) s (visit classes t f s) (Kept T C A (top_of s) (top_of (visit classes t f s)) before p t)
    keeping i (ident x) n d f {s = s} h o g r e =
        let w = idle_grown 1 s (read classes x s) (read_preserves idle_steps classes x s) in
        record { grown = w; kept = λ q. w.top }
    keeping i (const m q) n d f {s = s} h o g r e = let w = idle_grown 1 s s refl in record { grown = w; kept = λ q. w.top }
    keeping i (if m a c k) n d f {own} {before} {p} {s} h o g r e =
        let s₁ = visit classes a (not_tail f) s in
        let s₂ = visit classes c (same_tail f) s₁ in
        let s₃ = visit classes k (same_tail f) s₂ in
        let h₀ = (layered g).one in
        let v₁ = visited classes a (not_tail f) s h₀ in
        let h₁ = stays v₁ h₀ in
        let v₂ = visited classes c (same_tail f) s₁ h₁ in
        let h₂ = stays v₂ h₁ in
        let e₂ = unnoted (keeps_noted (visited classes k (same_tail f) s₂ h₂)) e in
        let e₁ = unnoted (keeps_noted v₂) e₂ in
        let ck = none_right (defines a) (defines c ++ defines k) d in
        let i₁ = i + 1 in
        let i₂ = i₁ + size a in
        let i₃ = i₂ + size c in
        let j = i₃ + size k in
        let a-none = none_left (defines a) (defines c ++ defines k) d in
        let c-none = none_left (defines c) (defines k) ck in
        let o₁ = if_first i (size a) (size c) (size k) o in
        let o₂ = if_second i (size a) (size c) (size k) o in
        let o₃ = if_third i (size a) (size c) (size k) o in
        let X = keeping i₁ a n.1 a-none (not_tail f) h o₁ g (room_part (size a) r (first_few (size a) (size c + size k))) e₁ in
        let g₁ = found classes bottom i₁ (not_tail f) h a n.1 a-none o₁ g e₁.nine in
        let r₁ = room_after (size c + size k) r X.grown (keeps_lengths v₁) (one_more_lem (size a + (size c + size k))) in
        let Y = keeping i₂ c n.2 c-none (same_tail f) h o₂ g₁ (room_part (size c) r₁ (left_few (size c) (size k))) e₂ in
        let g₂ = found classes bottom i₂ (same_tail f) h c n.2 c-none o₂ g₁ e₂.nine in
        let r₂ = room_after (size k) r₁ Y.grown (keeps_lengths v₂) (as_many (size c + size k)) in
        let Z = keeping i₃ k n.3 (none_right (defines c) (defines k) ck) (same_tail f) h o₃ g₂ r₂ e in
        if_leaves T C A i before p m a c k s s₁ s₂ s₃ X
        (by (past i₂ c n.2 (off_next i₁ i₂ i₃) (same_tail f) s₁ h₁) ⨟ by (past i₃ k n.3 (off_later i₁ i₂ (size c) j) (same_tail f) s₂ h₂)) Y
        (by (past i₃ k n.3 (off_next i₂ i₃ j) (same_tail f) s₂ h₂)) Z
    keeping i (letin m xs es c) n d f {own} {before} {p} {s} h o g r e =
        let s₁ = with_context NONE s in
        let s₂ = visit_arguments classes es (not_tail f) s₁ in
        let s₃ = with_context s.context s₂ in
        let s₄ = open_let m xs f.height f.function s₃ in
        let k = let_body_flags (many es) f in
        let s₅ = visit classes c k s₄ in
        let s₆ = close_let (at_bottom s) m xs f.height f.function s₅ in
        let h₀ = (layered g).one in
        let v₂ = visited_arguments classes es (not_tail f) s₁ h₀ in
        let h₂ = stays v₂ h₀ in
        let h₄ = let_stays m xs f.height f.function s₃ h₂ in
        let e₅ = unnoted (moves_noted (out_of_let {own = Any} (at_bottom s) m xs f.height f.function s₅ tt)) e in
        let v₅ = visited classes c k s₄ h₄ in
        let e₄ = unnoted (keeps_noted v₅) e₅ in
        let entering-moves = into_let {own = Any} m xs f.height f.function s₃ (names-any xs) in
        let e₂ = unnoted (moves_noted entering-moves) e₄ in
        let i₁ = i + 1 in
        let i₂ = i₁ + length xs in
        let i₃ = i₂ + sizes es in
        let j = i₃ + size c in
        let es-none = none_left (defines_in es) (defines c) d in
        let o₂ = let_initials i (length xs) (sizes es) (size c) o in
        let names-left = let_names_lem i (length xs) (sizes es) (size c) o in
        let o₃ = let_body_lem i (length xs) (sizes es) (size c) o in
        let g₁ : Finds own bottom before p s₁ = calmly no_part g (λ free. context NONE) in
        let r₀ : Room (size (letin m xs es c)) s₁ = record { captured = r.captured; arguments = r.arguments; few = r.few } in
        let X = keeping_in i₂ es n.3 es-none (not_tail f) refl h o₂ g₁ (room_part (sizes es) r₀ (middle_few (length xs) (sizes es) (size c))) e₂ in
        let g₂ = found_in_lem classes bottom i₂ (not_tail f) h es n.3 es-none refl o₂ g₁ e₂.nine in
        let r₂ = room_after (size c + length xs) r₀ X.grown (keeps_lengths v₂) (let_few (length xs) (sizes es) (size c)) in
        let g₃ : Finds (Minus own i₂ i₃) bottom (before ++ uses_in (walk_arguments es p)) p s₃ = calmly no_part g₂ (λ free. context s.context) in
        let N = bodies.into_let classes {left = Minus (Minus own i₂ i₃) i₁ i₂} m i₁ xs n.2 names-left
        (let_begins i (length xs) (sizes es) (size c) o n.0) (λ y z. z.0) (λ y z l u. z.1 l u) g₃ f.height h f.function e₄.nine in
        let r₃ : Room (size c + length xs) s₃ = record { captured = r₂.captured; arguments = r₂.arguments; few = r₂.few } in
        let idle = open_let_preserves idle_steps m xs f.height f.function s₃ in
        let r₄ = room_after (size c + length xs) r₃ (idle_grown 0 s₃ s₄ idle) (moves_lengths entering-moves) (none_more (size c + length xs)) in
        let body : Place = within (let_names xs p) (let_body (length xs) p) in
        let level = let_level f p (many es) (length xs) h n.1 in
        let Y = keeping i₃ c n.4 (none_right (defines_in es) (defines c) d) k {p = body} level o₃ N.finds
        (room_part (size c) r₄ (left_few (size c) (length xs))) e₅ in
        let g₅ = found classes bottom {p = body} i₃ k level c n.4 (none_right (defines_in es) (defines c) d) o₃ N.finds e₅.nine in
        let r₅ = room_after (length xs) r₄ Y.grown (keeps_lengths v₅) (as_many (size c + length xs)) in
        let Z = let_leaves {T = T} {C = C} {A = A} i (at_bottom s) m xs f.height f.function p s₅ n.0
        (let_ends i (length xs) (sizes es) (size c) o n.0) g₅ r₅ in
        let_kept T C A i before p m xs es c s s₂ s₄ s₅ s₆ (idle_before s refl X)
        (by (context {s = s₂} s.context)
        ⨟ into_let m xs f.height f.function s₃ (names_writes _ i₁ xs n.2 (off_before i₁ i₂ i₃))
        ⨟ by (past i₃ c n.4 (off_next i₂ i₃ j) k s₄ h₄)
        ⨟ out_of_let (at_bottom s) m xs f.height f.function s₅ (off_here n.0 (length xs) i₃)) idle Y
        (out_of_let (at_bottom s) m xs f.height f.function s₅ (off_far n.0 (length xs) (sizes es) j)) (close_let_plain (at_bottom s) m xs f.height f.function s₅).top Z
    keeping i (define m x c) n d f h o g r e = absurd (cons-ne-nil m.at (defines c) d)
    keeping i (lambda m xs c) n d f {own} {before} {p} {s} h o g r e =
        let k = body_flags m (length xs) f in
        let s₁ = open_lambda m xs s in
        let s₂ = visit classes c k s₁ in
        let s₃ = close_lambda m xs c f.escape s₂ in
        let h₁ : 1 ≤ depth s₁ = omega (arith, lambda_depth m xs s (layered g).one) in
        let v₂ = visited classes c k s₁ h₁ in
        let e₂ = unnoted (moves_noted (out_of_lambda {own = Any} m xs c f.escape s₂ tt)) e in
        let e₁ = unnoted (keeps_noted v₂) e₂ in
        let i₁ = i + 1 in
        let i₂ = i₁ + length xs in
        let j = i₂ + size c in
        let here = lambda_begins i (length xs) (size c) o n.0 in
        let o₁ = lambda_names i (length xs) (size c) o in
        let o₂ = lambda_body_lem i (length xs) (size c) o in
        let N = bodies.into_lambda classes {left = Minus own i₁ i₂} m i₁ xs n.1 o₁ here (λ y z. z.0) (λ y z l u. z.1 l u) g e₁.nine in
        let idle = open_lambda_idle m xs s (g.tables.blank m.at here) in
        let r₁ = room_after (size c + length xs) r (idle_grown 0 s s₁ idle) (moves_lengths (into_lambda {own = Any} m xs s (names-any xs)))
        (lambda_few (length xs) (size c)) in
        let body : Place = within (parameters m xs p) (lambda_body m (length xs) p) in
        let Y = keeping i₂ c n.2 d k {p = body} refl o₂ N.finds (room_part (size c) r₁ (left_few (size c) (length xs))) e₂ in
        let g₂ = found classes bottom {p = body} i₂ k refl c n.2 d o₂ N.finds e₂.nine in
        let r₂ = room_after (length xs) r₁ Y.grown (keeps_lengths v₂) (as_many (size c + length xs)) in
        let Z = lambda_leaves {T = T} {C = C} {A = A} i m xs c f.escape p s₂ n.0 (lambda_ends i (length xs) (size c) o n.0) g.one g.around g₂
        r₂ e.ten in
        lambda_kept T C A i before p m xs c s s₁ s₂ s₃ idle Y (out_of_lambda m xs c f.escape s₂ (off_here n.0 (length xs) j)) Z
    keeping i (sequence (begins m) es) n d f {own} {before} {p} {s} h o g r e =
        subst (λ (u : State). Unnoted (visit_children classes es (in_begin f) u).noted
        → Leaves T C A i (i + size (sequence (begins m) es)) (size (sequence (begins m) es)) s (visit_children classes es (in_begin f) u)
        (KeptAll T C A (top_of s) (top_of (visit_children classes es (in_begin f) u)) before p es))
        (sym (none-entered classes es s d))
        (λ q. closed i (i + size (sequence (begins m) es)) (size (sequence (begins m) es)) (omega arith) (omega arith) (omega arith)
        (keeping_all (i + 1) es n.1 d (in_begin f) h (λ x l u. o x (omega arith) (omega arith)) g (record {
          captured = r.captured;
          arguments = r.arguments;
          few = omega (arith, r.few);
        }) q) (λ k. k)) e
    keeping i (sequence (ands m) es) n d f h o g r e =
        closed i (i + size (sequence (ands m) es)) (size (sequence (ands m) es)) (omega arith) (omega arith) (omega arith)
        (keeping_all (i + 1) es n.1 d (in_and (is_alone es) f) h (λ x l u. o x (omega arith) (omega arith)) g (record {
          captured = r.captured;
          arguments = r.arguments;
          few = omega (arith, r.few);
        }) e) (λ k. k)
    keeping i (sequence (whens b m) es) n d f h o g r e =
        closed i (i + size (sequence (whens b m) es)) (size (sequence (whens b m) es)) (omega arith) (omega arith) (omega arith)
        (keeping_tested (i + 1) es n.1 d f h (λ x l u. o x (omega arith) (omega arith)) g (record {
          captured = r.captured;
          arguments = r.arguments;
          few = omega (arith, r.few);
        }) e) (λ k. k)
    keeping i (call m c es) n d f {own} {before} {p} {s} h o g r e =
        let k = head_flags c (many es) f in
        let s₁ = visit_arguments classes es (argument_flags f) s in
        let s₂ = visit classes c k s₁ in
        let s₃ = close_call m c es f s₂ in
        let h₀ = (layered g).one in
        let v₁ = visited_arguments classes es (argument_flags f) s h₀ in
        let h₁ = stays v₁ h₀ in
        let e₂ = unnoted (keeps_noted (call_changes {free = ⊥} {own = Any} m c es f s₂ (λ q. tt))) e in
        let e₁ = unnoted (keeps_noted (visited classes c k s₁ h₁)) e₂ in
        let i₁ = i + 1 in
        let i₂ = i₁ + size c in
        let j = i₂ + sizes es in
        let es-none = none_right (defines c) (defines_in es) d in
        let o₂ = call_operands i (size c) (sizes es) o in
        let o₁ = call_head i (size c) (sizes es) o in
        let X = keeping_in i₂ es n.2 es-none (argument_flags f) refl h o₂ g (room_part (sizes es) r (last_few (size c) (sizes es))) e₁ in
        let g₁ = at_height (p.site.height + many es) (found_in_lem classes bottom i₂ (argument_flags f) h es n.2 es-none refl o₂ g e₁.nine) in
        let r₁ = room_after (size c) r X.grown (keeps_lengths v₁) (call_few (size c) (sizes es)) in
        let Y = keeping i₁ c n.1 (none_left (defines c) (defines_in es) d) k {p = raised (many es) p} (ap (λ (l : ℕ). l + many es) h) o₁ g₁ r₁ e₂ in
        call_kept T C A i before p m c es s s₁ s₂ s₃ X (by (past i₁ c n.1 (off_before i₁ i₂ j) k s₁ h₁)) Y (call_preserves idle_steps m c es f s₂)
        (by (call_changes m c es f s₂ (λ q l u. omega arith)))
    keeping i (set! m x c) n d f {own} {before} {p} {s} h o g r e =
        let s₁ = clear_context x s in
        let s₂ = visit classes c (not_tail f) s₁ in
        let s₃ = read classes x (mutate x.name s₂) in
        let g₁ : Finds own bottom before p s₁ = calmly no_part g (λ free. clear_changes x s) in
        let e₂ = unnoted (keeps_noted (mutate_changes {own = Any} x.name s₂ ⨾ read_changes classes x _ tt)) e in
        let o₂ : Covers own (i + 2) (i + 2 + size c) = λ y l u. o y (omega arith) (omega arith) in
        let clears = clear_preserves idle_steps x s in
        let r₁ = room_after (size c) r (idle_grown 0 s s₁ clears) (keeps_lengths (clear_changes {free = ⊥} {own = Any} x s)) (omega arith) in
        let X = keeping (i + 2) c n.2 d (not_tail f) h o₂ g₁ r₁ e₂ in
        let sets : Idle s₂ s₃ = read_preserves idle_steps classes x (mutate x.name s₂) ∙ mutate_preserves idle_steps x.name s₂ in
        set_kept T C A i before p m x c s s₁ s₂ s₃ clears X sets (by (mutate_changes x.name s₂ ⨾ read_changes classes x _ (λ l u. omega arith)))

    pub keeping_in : (i : ℕ) (ts : Trees) → Nums i ts → defines_in ts ≡ [] → (f : Flags) → f.tail ≡ false
        → {own : ℕ → Type 0} {before : List Use} {p : Place} {s : State}
        → f.height ≡ p.site.height → Covers own i (i + sizes ts) → Finds own bottom before p s → Room (sizes ts) s
        → Unnoted (visit_arguments classes ts f s).noted
        → Leaves T C A i (i + sizes ts) (sizes ts) s (visit_arguments classes ts f s) (KeptIn T C A (top_of s) (top_of (visit_arguments classes ts f s)) before p
        ts)
    keeping_in i nil n d f b {s = s} h o g r e = let w = idle_grown 0 s s refl in record { grown = w; kept = λ q. w.top }
    keeping_in i (cons c ts) n d f b {own} {before} {p} {s} h o g r e =
        let s₁ = visit classes c f s in
        let h₀ = (layered g).one in
        let v₁ = visited classes c f s h₀ in
        let h₁ = stays v₁ h₀ in
        let e₁ = unnoted (keeps_noted (visited_arguments classes ts (pushed f) s₁ h₁)) e in
        let k = i + size c in
        let j = k + sizes ts in
        let c-none = none_left (defines c) (defines_in ts) d in
        let o₁ = row_first i (size c) (sizes ts) o in
        let X = keeping i c n.0 c-none f h o₁ g (room_part (size c) r (left_few (size c) (sizes ts))) e₁ in
        let g₁ = at_height (p.site.height + 1) (found classes bottom i f h c n.0 c-none o₁ g e₁.nine) in
        let r₁ = room_after (sizes ts) r X.grown (keeps_lengths v₁) (as_many (size c + sizes ts)) in
        let Y = keeping_in k ts n.1 (none_right (defines c) (defines_in ts) d) (pushed f) b {p = raised 1 p} (next_level f p h)
        (row-rest i (size c) (sizes ts) o) g₁ r₁ e in
        in_kept T C A i before p c ts s s₁ (visit_arguments classes ts (pushed f) s₁) X
        (by (arguments_visited classes ts (pushed f) s₁ (trees_writes _ k ts n.1 (off_next i k j)) h₁)) Y

    keeping_tested : (i : ℕ) (ts : Trees) → Nums i ts → defines_in ts ≡ [] → (f : Flags) {own : ℕ → Type 0} {before : List Use} {p : Place} {s : State}
        → f.height ≡ p.site.height → Covers own i (i + sizes ts) → Finds own bottom before p s → Room (sizes ts) s
        → Unnoted (visit_tested classes ts f s).noted
        → Leaves T C A i (i + sizes ts) (sizes ts) s (visit_tested classes ts f s) (KeptAll T C A (top_of s) (top_of (visit_tested classes ts f s)) before p ts)
    keeping_tested i nil n d f {s = s} h o g r e = let w = idle_grown 0 s s refl in record { grown = w; kept = λ q. w.top }
    keeping_tested i (cons c ts) n d f {own} {before} {p} {s} h o g r e =
        let l = not_tail f in
        let s₁ = visit classes c l s in
        let h₀ = (layered g).one in
        let v₁ = visited classes c l s h₀ in
        let h₁ = stays v₁ h₀ in
        let k = i + size c in
        let j = k + sizes ts in
        let c-none = none_left (defines c) (defines_in ts) d in
        let rest-none = none_right (defines c) (defines_in ts) d in
        let o₁ = row_first i (size c) (sizes ts) o in
        subst (λ (u : State). Unnoted (visit_children classes ts (in_begin f) u).noted
        → Leaves T C A i (i + sizes (cons c ts)) (sizes (cons c ts)) s (visit_children classes ts (in_begin f) u)
        (KeptAll T C A (top_of s) (top_of (visit_children classes ts (in_begin f) u)) before p (cons c ts)))
        (sym (none-entered classes ts s₁ rest-none))
        (λ e.
        let e₁ = unnoted (keeps_noted (visited_children classes ts (in_begin f) s₁ h₁)) e in
        let X = keeping i c n.0 c-none l h o₁ g (room_part (size c) r (left_few (size c) (sizes ts))) e₁ in
        let g₁ = found classes bottom i l h c n.0 c-none o₁ g e₁.nine in
        let r₁ = room_after (sizes ts) r X.grown (keeps_lengths v₁) (as_many (size c + sizes ts)) in
        let Y = keeping_all k ts n.1 rest-none (in_begin f) h (row-rest i (size c) (sizes ts) o) g₁ r₁ e in
        all_kept T C A i before p c ts s s₁ (visit_children classes ts (in_begin f) s₁) X
        (by (children_visited classes ts (in_begin f) s₁ (trees_writes _ k ts n.1 (off_next i k j)) h₁)) Y) e

    pub keeping_all : (i : ℕ) (ts : Trees) → Nums i ts → defines_in ts ≡ [] → (f : Flags) {own : ℕ → Type 0} {before : List Use} {p : Place} {s : State}
        → f.height ≡ p.site.height → Covers own i (i + sizes ts) → Finds own bottom before p s → Room (sizes ts) s
        → Unnoted (visit_children classes ts f s).noted
        → Leaves T C A i (i + sizes ts) (sizes ts) s (visit_children classes ts f s) (KeptAll T C A (top_of s) (top_of (visit_children classes ts f s)) before p ts)
    keeping_all i nil n d f {s = s} h o g r e = let w = idle_grown 0 s s refl in record { grown = w; kept = λ q. w.top }
    keeping_all i (cons c ts) n d f {own} {before} {p} {s} h o g r e =
        let l = child_flags (is_nil ts) f in
        let s₁ = visit classes c l s in
        let h₀ = (layered g).one in
        let v₁ = visited classes c l s h₀ in
        let h₁ = stays v₁ h₀ in
        let e₁ = unnoted (keeps_noted (visited_children classes ts f s₁ h₁)) e in
        let k = i + size c in
        let j = k + sizes ts in
        let c-none = none_left (defines c) (defines_in ts) d in
        let o₁ = row_first i (size c) (sizes ts) o in
        let X = keeping i c n.0 c-none l h o₁ g (room_part (size c) r (left_few (size c) (sizes ts))) e₁ in
        let g₁ = found classes bottom i l h c n.0 c-none o₁ g e₁.nine in
        let r₁ = room_after (sizes ts) r X.grown (keeps_lengths v₁) (as_many (size c + sizes ts)) in
        let Y = keeping_all k ts n.1 (none_right (defines c) (defines_in ts) d) f h (row-rest i (size c) (sizes ts) o) g₁ r₁ e
        in
        all_kept T C A i before p c ts s s₁ (visit_children classes ts f s₁) X
        (by (children_visited classes ts f s₁ (trees_writes _ k ts n.1 (off_next i k j)) h₁)) Y
