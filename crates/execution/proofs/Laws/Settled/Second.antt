-- A second visit of a tree without define: its rows tell of each name what is to be told after what the first run left.
use Rattle.std.specs.Prelude.{ℕ, suc, ◌+◌, ◌≤◌, ◌≡◌, refl, length, eqb, Option, None, Some}
use mathlib.Core.List.{List, [], ◌∷◌, ◌++◌, cons-ne-nil}
use Rattle.std.proofs.Common.{ap, sym, subst, arith}
use Rattle.tree.specs.Tree.{Ident, Tree, Trees, ident, const, if, letin, define, lambda, sequence, call, set!, nil, cons, many, size, sizes, Num, Nums, begins, ands, whens}
use Rattle.tree.specs.Define.{defines, defines_in}
use Rattle.scope_map.specs.ScopeMap.{Live}
use Rattle.semantic.specs.Information.{NONE}
use Rattle.pass.specs.State.{State, with_context, depth}
use Rattle.pass.specs.Lambda.{open_lambda, at_bottom, open_let, close_let}
use Rattle.pass.specs.Visit.{Flags, not_tail, same_tail, pushed, let_body_flags, body_flags, argument_flags, head_flags, is_nil, child_flags, clear_context, close_call, visit, visit_arguments, visit_children, in_begin, in_and, is_alone, visit_tested}
use Rattle.pass.specs.Read.{read, mutate}
use Rattle.pass_laws.specs.Laws.Changes.{Changes, ◌⨾◌, context, keeps_noted, keeps_depth}
use Rattle.pass_laws.specs.Laws.Moves.{by, moves_noted, into_let, out_of_let, out_of_lambda}
use Rattle.pass_laws.specs.Laws.Scopes.{Any, names-any, lambda_depth, let_stays}
use Rattle.pass_laws.specs.Laws.Names.{read_changes, mutate_changes}
use Rattle.pass_laws.specs.Laws.Visits.{stays, call_changes, clear_changes, visit_changes, arguments_visited, children_visited}
use Rattle.pass_laws.specs.Laws.Ranges.{Covers, tree_writes, trees_writes}
use Rattle.pass_laws.specs.Laws.Keeps.{visited, visited_arguments, visited_children}
use Rattle.pass_laws.specs.Laws.Live.{none_left, none_right, none-entered}
use Rattle.pass_laws.specs.Laws.Says.{cell_of, uses_in, Says}
use Rattle.pass_laws.specs.Laws.Finds.{all_map}
use Rattle.pass_laws.specs.Laws.Bodies.{no_part}
use Rattle.pass_laws.specs.Laws.Forms.{Minus}
use Rattle.pass_laws.specs.Laws.Sets.{set_at}
use Rattle.pass_laws.specs.Laws.Idle.{idle_steps}
use Rattle.pass_laws.specs.Laws.Preserved.{call_preserves, clear_preserves}
use Rattle.r7rs.specs.Binding.{Place, Use, Event, lambda_body, let_body, parameters, let_names, raised, within, entering, ends, mentions, walk, walk_arguments, walk_all}
use Rattle.execution.proofs.Laws.Settled.Kept.{Kept, KeptIn, KeptAll}
use Rattle.execution.proofs.Laws.Settled.Layer.{Lives}
use Rattle.execution.proofs.Laws.Settled.Again.{Frame, FramedIn, Script, Again, again_layered, calmly_again}
use Rattle.execution.proofs.Laws.Settled.Refuses.{Above, frame_of, Pending}
use Rattle.execution.proofs.Laws.Settled.Unsaid.{unsaid_steps}
use Rattle.execution.proofs.Laws.Settled.Refused.{second_by}
use Rattle.execution.proofs.Laws.Settled.Rebodies.{FunctionOf}
use Rattle.execution.proofs.Laws.Settled.Bounded.{Bounded, BoundedIn, BoundedAll, framed_raised, framed_let, framed_lambda}
use Rattle.execution.proofs.Laws.Settled.Did.{Did, fewer_again, again_height, did_after, did_closed}
use Rattle.execution.proofs.Laws.Settled.Reforms.{says_split, says_entered, did_read, did_set}
use Rattle.execution.proofs.Laws.Settled.Joined.{if_case, let_case, lambda_case, call_case, set_case, in_case}

module _ (classes : List ℕ) (S : Script) (bottom : List (Live Ident)) where
  past : {own : ℕ → Type 0} (i : ℕ) (t : Tree) → Num i t → Covers own i (i + size t) → (f : Flags) (s : State) → 1 ≤ depth s
      → Changes own s (visit classes t f s)
  past {own} i t n o f s h = visit_changes classes t f s (tree_writes own i t n o) h

  abbrev SaysT : List Use → List Event → Type 0
  SaysT before l = Says classes S.T (cell_of bottom) before l

  split : (before : List Use) (l r : List Event) → SaysT before (l ++ r) → SaysT before l × SaysT (before ++ uses_in l) r
  split before l r q = says_split classes S.T (cell_of bottom) before l r q

  -- heights
  let_height : (h k : ℕ) {a b : ℕ} → a ≡ b → h ≡ k → h + a ≡ k + b
  let_height h k e g = omega arith

  next_height : (h k : ℕ) → h ≡ k → suc h ≡ k + 1
  next_height h k g = omega arith

  -- a tree's rows are in order
  mutual
    unfolding Kept

    kept_order : (lo hi : ℕ) (before : List Use) (p : Place) (t : Tree) → Kept S.T S.C S.A lo hi before p t → lo ≤ hi
    kept_order lo hi before p (ident x) k = k
    kept_order lo hi before p (const n q) k = k
    kept_order lo hi before p (if n a b c) k = let l₁ = k.2 in let l₂ = k.3 in let l₃ = k.4 in omega arith
    kept_order lo hi before p (letin n xs es b) k = let l₁ = k.1 in let l₂ = k.2 in omega arith
    kept_order lo hi before p (define n x b) k = kept_order lo hi before p b k
    kept_order lo hi before p (lambda n xs b) k = let l₁ = k.1 in let l₂ = k.2 in omega arith
    kept_order lo hi before p (sequence n es) k = kept_all_order lo hi before p es k
    kept_order lo hi before p (call n h es) k = let l₁ = k.1 in let l₂ = k.2 in omega arith
    kept_order lo hi before p (set! n x e) k = kept_order lo hi before p e k

    kept_all_order : (lo hi : ℕ) (before : List Use) (p : Place) (ts : Trees) → KeptAll S.T S.C S.A lo hi before p ts → lo ≤ hi
    kept_all_order lo hi before p nil k = k
    kept_all_order lo hi before p (cons t ts) k = let l₁ = k.1 in let l₂ = k.2 in omega arith

  mutual
    unfolding visit walk defines Num size Kept Bounded second_by

    pub again : (i : ℕ) (t : Tree) → Num i t → defines t ≡ []
        → (f : Flags) (own : ℕ → Type 0) (fr : Option Frame) (d : ℕ) (old : Lives) (p : Place) (s : State) (lo hi : ℕ) (before : List Use)
        → f.height ≡ p.site.height → Covers own i (i + size t) → Kept S.T S.C S.A lo hi before p t → Bounded S.U S.G before p t
        → SaysT before (walk t p)
        → FramedIn S.C S.G fr p → FunctionOf S.T f.function p.around → Above hi fr → Again S own bottom f.function fr d old p s
        → Pending S.C lo hi s → (visit classes t f s).noted.nine ≡ None
        → Did classes S bottom (Minus own i (i + size t)) f.function fr d old p (walk t p) i (i + size t) lo hi s (visit classes t f s)
    again i (ident x) n z f own fr d old p s lo hi before h o k b q w fo a g r e = did_read classes S bottom before i lo hi x n o b w q g
    again i (const m c) n z f own fr d old p s lo hi before h o k b q w fo a g r e =
        record { again = fewer_again S (λ x y. y.0) g; outside = λ r x. refl; tells = λ R ag. tt; second = λ v. v }
    again i (if m x y c) n z f own fr d old p s lo hi before h o k b q w fo a g r e =
        let s₁ = visit classes x (not_tail f) s in
        let s₂ = visit classes y (same_tail f) s₁ in
        let s₃ = visit classes c (same_tail f) s₂ in
        let h₀ = (again_layered S g).one in
        let h₁ = stays (visited classes x (not_tail f) s h₀) h₀ in
        let h₂ = stays (visited classes y (same_tail f) s₁ h₁) h₁ in
        let e₂ = (keeps_noted (visited classes c (same_tail f) s₂ h₂)).nine e in
        let e₁ = (keeps_noted (visited classes y (same_tail f) s₁ h₁)).nine e₂ in
        let yc = none_right (defines x) (defines y ++ defines c) z in
        let i₂ = i + 1 + size x in
        let i₃ = i₂ + size y in
        let u₁ = before ++ uses_in (walk x p) in
        let q₁ = split before (walk x p) (walk y p ++ walk c p) q in
        let q₂ = split u₁ (walk y p) (walk c p) q₁.1 in
        if_case classes S bottom i m x y c own f.function fr d old p s s₁ s₂ s₃ lo k.0 k.1 hi k.2 k.3 k.4 o r a
        (λ o r a. again (i + 1) x n.1 (none_left (defines x) (defines y ++ defines c) z) (not_tail f) own fr d old p s lo k.0 before h o k.5 b.0
        q₁.0 w fo a g r e₁)
        (λ own w. past i₂ y n.2 w (same_tail f) s₁ h₁)
        (λ g o r a. again i₂ y n.2 (none_left (defines y) (defines c) yc) (same_tail f) (Minus own (i + 1) i₂) fr d old p s₁ k.0 k.1 u₁ h o k.6
        b.1 q₂.0 w fo a g r e₂)
        (λ own w. past i₃ c n.3 w (same_tail f) s₂ h₂)
        (λ g o r. again i₃ c n.3 (none_right (defines y) (defines c) yc) (same_tail f) (Minus (Minus own (i + 1) i₂) i₂ i₃) fr d old p s₂ k.1 hi
        (u₁ ++ uses_in (walk y p)) h o k.7 b.2 q₂.1 w fo a g r e)
    again i (letin m xs es c) n z f own fr d old p s lo hi before h o k b q w fo a g r e =
        let s₁ = with_context NONE s in
        let s₂ = visit_arguments classes es (not_tail f) s₁ in
        let s₃ = with_context s.context s₂ in
        let s₄ = open_let m xs f.height f.function s₃ in
        let l = let_body_flags (many es) f in
        let s₅ = visit classes c l s₄ in
        let s₆ = close_let (at_bottom s) m xs f.height f.function s₅ in
        let h₀ = (again_layered S g).one in
        let v₂ = visited_arguments classes es (not_tail f) s₁ h₀ in
        let h₂ = stays v₂ h₀ in
        let h₄ = let_stays m xs f.height f.function s₃ h₂ in
        let e₅ = (moves_noted (out_of_let {own = Any} (at_bottom s) m xs f.height f.function s₅ tt)).nine e in
        let e₄ = (keeps_noted (visited classes c l s₄ h₄)).nine e₅ in
        let e₂ = (moves_noted (into_let {own = Any} m xs f.height f.function s₃ (names-any xs))).nine e₄ in
        let i₂ = i + 1 + length xs in
        let i₃ = i₂ + sizes es in
        let body : Place = within (let_names xs p) (let_body (length xs) p) in
        let used = before ++ uses_in (walk_arguments es p) in
        let q₁ = split before (walk_arguments es p) (entering (let_names xs p) p.scope ++ walk c body) q in
        let q₂ = says_entered classes S.T (cell_of bottom) used (let_names xs p) p.scope (walk c body) q₁.1 in
        let g₁ : Again S own bottom f.function fr d old p s₁ = calmly_again S g no_part (λ free. context NONE) refl in
        let_case classes S bottom i m xs es c f.height s.context f.function (at_bottom s) own fr d old p s s₂ s₅ lo k.0 hi
        (used ++ uses_in (walk c body)) n.0 n.2 h o k.1 k.2 k.5 b.2
        (ap (λ (k : ℕ). eqb k 1) (sym (keeps_depth v₂ h₀))) e₄ r a fo
        (λ o r a. did_after s (λ r. refl) refl
        (again_in i₂ es n.3 (none_left (defines_in es) (defines c) z) (not_tail f) own fr d old p s₁ lo k.0 before h o k.3 b.0 q₁.0 w fo a g₁
        (record { at = r.at }) e₂))
        (λ own w. past i₃ c n.4 w l s₄ h₄)
        (λ g₄ r₄ o. again i₃ c n.4 (none_right (defines_in es) (defines c) z) l (Minus (Minus own i₂ i₃) (i + 1) i₂) fr d old body s₄ k.0 hi used
        (let_height f.height p.site.height n.1 h) o k.4 b.1 q₂
        (framed_let S.C S.G fr xs p w) fo a g₄ r₄ e₅)
    again i (define m x c) n z f own fr d old p s lo hi before h o k b q w fo a g r e = absurd (cons-ne-nil m.at (defines c) z)
    again i (lambda m xs c) n z f own fr d old p s lo hi before h o k b q w fo a g r e =
        let l = body_flags m (length xs) f in
        let s₁ = open_lambda m xs s in
        let s₂ = visit classes c l s₁ in
        let h₀ = (again_layered S g).one in
        let h₁ : 1 ≤ depth s₁ = omega (arith, lambda_depth m xs s h₀) in
        let e₂ = (moves_noted (out_of_lambda {own = Any} m xs c f.escape s₂ tt)).nine e in
        let e₁ = (keeps_noted (visited classes c l s₁ h₁)).nine e₂ in
        let i₂ = i + 1 + length xs in
        let body : Place = within (parameters m xs p) (lambda_body m (length xs) p) in
        let after = before ++ uses_in (walk c body) in
        let q₁ = says_entered classes S.T (cell_of bottom) before (parameters m xs p) p.scope (walk c body ++ (ends m.at xs p.scope ∷ [])) q in
        let q₂ = split before (walk c body) (ends m.at xs p.scope ∷ []) q₁ in
        let mid = k.0 in
        lambda_case classes S bottom i m xs c f.escape f.function own fr d old p s s₂ lo mid hi after n.0 n.1 o k.1 k.2 k.4 b.2 e₁ a w
        g r (λ own w. past i₂ c n.2 w l s₁ h₁)
        (by (past i (lambda m xs c) n o f s h₀))
        (λ g₁ r₁ o a. again i₂ c n.2 z l (Minus own i i₂) (Some (frame_of fr m mid hi xs p.scope after)) (suc d) s.captures.live body s₁ lo mid before
        refl
        o k.3 b.0 q₂.0 (framed_lambda S.C S.G fr m xs p mid hi after b.1 k.4 w (all_map (λ c q. q.most) p.scope g.around))
        (refl, (k.4.info, k.4.is)) a g₁ r₁ e₂)
    again i (sequence (begins m) es) n z f own fr d old p s lo hi before h o k b q w fo a g r e =
        subst (λ (u : State). (visit_children classes es (in_begin f) u).noted.nine ≡ None
        → Did classes S bottom (Minus own i (i + size (sequence (begins m) es))) f.function fr d old p (walk_all es p) i (i + size (sequence (begins m) es)) lo hi s
        (visit_children classes es (in_begin f) u))
        (sym (none-entered classes es s z))
        (λ e. did_closed i (i + size (sequence (begins m) es)) (omega arith) (omega arith) (λ x v. (v.0, λ l u. v.1 (omega arith) (omega arith)))
        (again-all (i + 1) es n.1 z (in_begin f) own fr d old p s lo hi before h (λ v l u. o v (omega arith) (omega arith)) k b q w fo a g r e)) e
    again i (sequence (ands m) es) n z f own fr d old p s lo hi before h o k b q w fo a g r e =
        did_closed i (i + size (sequence (ands m) es)) (omega arith) (omega arith) (λ x v. (v.0, λ l u. v.1 (omega arith) (omega arith)))
        (again-all (i + 1) es n.1 z (in_and (is_alone es) f) own fr d old p s lo hi before h (λ v l u. o v (omega arith) (omega arith)) k b q w fo a g r e)
    again i (sequence (whens t m) es) n z f own fr d old p s lo hi before h o k b q w fo a g r e =
        did_closed i (i + size (sequence (whens t m) es)) (omega arith) (omega arith) (λ x v. (v.0, λ l u. v.1 (omega arith) (omega arith)))
        (again-tested (i + 1) es n.1 z f own fr d old p s lo hi before h (λ v l u. o v (omega arith) (omega arith)) k b q w fo a g r e)
    again i (call m c es) n z f own fr d old p s lo hi before h o k b q w fo a g r e =
        let l = head_flags c (many es) f in
        let s₁ = visit_arguments classes es (argument_flags f) s in
        let s₂ = visit classes c l s₁ in
        let s₃ = close_call m c es f s₂ in
        let h₀ = (again_layered S g).one in
        let h₁ = stays (visited_arguments classes es (argument_flags f) s h₀) h₀ in
        let e₂ = (keeps_noted (call_changes {free = ⊥} {own = Any} m c es f s₂ (λ q. tt))).nine e in
        let e₁ = (keeps_noted (visited classes c l s₁ h₁)).nine e₂ in
        let i₂ = i + 1 + size c in
        let q₁ = split before (walk_arguments es p) (walk c (raised (many es) p)) q in
        call_case classes S bottom i m c es own f.function fr d old p s s₁ s₂ s₃ lo k.0 hi k.1 k.2 n.0 o r a
        (λ o r a. again_in i₂ es n.2 (none_right (defines c) (defines_in es) z) (argument_flags f) own fr d old p s lo k.0 before h o k.3 b.0 q₁.0
        w fo a g r e₁)
        (λ own w. past (i + 1) c n.1 w l s₁ h₁)
        (λ g o r. again (i + 1) c n.1 (none_left (defines c) (defines_in es) z) l (Minus own i₂ (i₂ + sizes es)) fr d old (raised (many es) p) s₁ k.0 hi
        (before ++ uses_in (walk_arguments es p))
        (ap (λ (v : ℕ). v + many es) h) o k.4 b.1 q₁.1 (framed_raised S.C S.G fr (many es) p w) fo a g r e₂)
        (λ free. call_changes m c es f s₂ (λ q. refl)) (call_preserves idle_steps m c es f s₂) (call_preserves unsaid_steps m c es f s₂)
    again i (set! m x c) n z f own fr d old p s lo hi before h o k b q w fo a g r e =
        let s₁ = clear_context x s in
        let s₂ = visit classes c (not_tail f) s₁ in
        let s₃ = read classes x (mutate x.name s₂) in
        let idle = clear_preserves idle_steps x s in
        let g₁ : Again S own bottom f.function fr d old p s₁ = calmly_again S g no_part (λ free. clear_changes x s) idle in
        let e₂ = (keeps_noted (mutate_changes {own = Any} x.name s₂ ⨾ read_changes classes x _ tt)).nine e in
        let q₁ = split before (walk c p) (mentions (set_at x p) ∷ []) q in
        set_case classes S bottom i m x c own f.function fr d old p s s₁ s₂ s₃ lo hi (kept_order lo hi before p c k) n.1 o r idle (clear_preserves unsaid_steps x s)
        (λ o r. again (i + 2) c n.2 z (not_tail f) own fr d old p s₁ lo hi before h o k b.0 q₁.0 w fo a g₁ r e₂)
        (λ own w. mutate_changes x.name s₂ ⨾ read_changes classes x _ w)
        (λ g o. did_set classes S bottom (before ++ uses_in (walk c p)) (i + 1) hi hi x n.1 o b.1 w q₁.1 g)

    pub again_in : (i : ℕ) (ts : Trees) → Nums i ts → defines_in ts ≡ []
        → (f : Flags) (own : ℕ → Type 0) (fr : Option Frame) (d : ℕ) (old : Lives) (p : Place) (s : State) (lo hi : ℕ) (before : List Use)
        → f.height ≡ p.site.height → Covers own i (i + sizes ts) → KeptIn S.T S.C S.A lo hi before p ts → BoundedIn S.U S.G before p ts
        → SaysT before (walk_arguments ts p)
        → FramedIn S.C S.G fr p → FunctionOf S.T f.function p.around → Above hi fr → Again S own bottom f.function fr d old p s
        → Pending S.C lo hi s → (visit_arguments classes ts f s).noted.nine ≡ None
        → Did classes S bottom (Minus own i (i + sizes ts)) f.function fr d old p (walk_arguments ts p) i (i + sizes ts) lo hi s
        (visit_arguments classes ts f s)
    again_in i nil n z f own fr d old p s lo hi before h o k b q w fo a g r e =
        record { again = fewer_again S (λ x y. y.0) g; outside = λ r x. refl; tells = λ R ag. tt; second = λ v. v }
    again_in i (cons c ts) n z f own fr d old p s lo hi before h o k b q w fo a g r e =
        let s₁ = visit classes c f s in
        let h₀ = (again_layered S g).one in
        let h₁ = stays (visited classes c f s h₀) h₀ in
        let e₁ = (keeps_noted (visited_arguments classes ts (pushed f) s₁ h₁)).nine e in
        let i₁ = i + size c in
        let q₁ = split before (walk c p) (walk_arguments ts (raised 1 p)) q in
        let Z = in_case classes S bottom i c ts own f.function fr d old p (raised 1 p) (walk c p) (walk_arguments ts (raised 1 p)) s s₁
        (visit_arguments classes ts (pushed f) s₁) lo k.0 hi k.1 k.2 o r a
        (λ o r a. again i c n.0 (none_left (defines c) (defines_in ts) z) f own fr d old p s lo k.0 before h o k.3 b.0 q₁.0 w fo a g r e₁)
        (λ own w. arguments_visited classes ts (pushed f) s₁ (trees_writes own i₁ ts n.1 w) h₁)
        (λ g o r. again_in i₁ ts n.1 (none_right (defines c) (defines_in ts) z) (pushed f) (Minus own i i₁) fr d old (raised 1 p) s₁ k.0 hi
        (before ++ uses_in (walk c p)) (next_height f.height p.site.height h) o
        k.4 b.1 q₁.1 (framed_raised S.C S.G fr 1 p w) fo a (again_height S (p.site.height + 1) g) r e) in
        record { again = again_height S p.site.height Z.again; outside = Z.outside; tells = Z.tells; second = Z.second }

    again-tested : (i : ℕ) (ts : Trees) → Nums i ts → defines_in ts ≡ []
        → (f : Flags) (own : ℕ → Type 0) (fr : Option Frame) (d : ℕ) (old : Lives) (p : Place) (s : State) (lo hi : ℕ) (before : List Use)
        → f.height ≡ p.site.height → Covers own i (i + sizes ts) → KeptAll S.T S.C S.A lo hi before p ts → BoundedAll S.U S.G before p ts
        → SaysT before (walk_all ts p)
        → FramedIn S.C S.G fr p → FunctionOf S.T f.function p.around → Above hi fr → Again S own bottom f.function fr d old p s
        → Pending S.C lo hi s → (visit_tested classes ts f s).noted.nine ≡ None
        → Did classes S bottom (Minus own i (i + sizes ts)) f.function fr d old p (walk_all ts p) i (i + sizes ts) lo hi s (visit_tested classes ts f s)
    again-tested i nil n z f own fr d old p s lo hi before h o k b q w fo a g r e =
        record { again = fewer_again S (λ x y. y.0) g; outside = λ r x. refl; tells = λ R ag. tt; second = λ v. v }
    again-tested i (cons c ts) n z f own fr d old p s lo hi before h o k b q w fo a g r e =
        let t = not_tail f in
        let s₁ = visit classes c t s in
        let h₀ = (again_layered S g).one in
        let h₁ = stays (visited classes c t s h₀) h₀ in
        let i₁ = i + size c in
        let q₁ = split before (walk c p) (walk_all ts p) q in
        let rest-none = none_right (defines c) (defines_in ts) z in
        subst (λ (u : State). (visit_children classes ts (in_begin f) u).noted.nine ≡ None
        → Did classes S bottom (Minus own i (i + sizes (cons c ts))) f.function fr d old p (walk_all (cons c ts) p) i (i + sizes (cons c ts)) lo hi s
        (visit_children classes ts (in_begin f) u))
        (sym (none-entered classes ts s₁ rest-none))
        (λ e.
        let e₁ = (keeps_noted (visited_children classes ts (in_begin f) s₁ h₁)).nine e in
        in_case classes S bottom i c ts own f.function fr d old p p (walk c p) (walk_all ts p) s s₁ (visit_children classes ts (in_begin f) s₁) lo k.0 hi k.1
        k.2 o r a
        (λ o r a. again i c n.0 (none_left (defines c) (defines_in ts) z) t own fr d old p s lo k.0 before h o k.3 b.0 q₁.0 w fo a g r e₁)
        (λ own w. children_visited classes ts (in_begin f) s₁ (trees_writes own i₁ ts n.1 w) h₁)
        (λ g o r. again-all i₁ ts n.1 rest-none (in_begin f) (Minus own i i₁) fr d old p s₁ k.0 hi (before ++ uses_in (walk c p)) h o
        k.4 b.1 q₁.1 w fo a g r e)) e

    pub again-all : (i : ℕ) (ts : Trees) → Nums i ts → defines_in ts ≡ []
        → (f : Flags) (own : ℕ → Type 0) (fr : Option Frame) (d : ℕ) (old : Lives) (p : Place) (s : State) (lo hi : ℕ) (before : List Use)
        → f.height ≡ p.site.height → Covers own i (i + sizes ts) → KeptAll S.T S.C S.A lo hi before p ts → BoundedAll S.U S.G before p ts
        → SaysT before (walk_all ts p)
        → FramedIn S.C S.G fr p → FunctionOf S.T f.function p.around → Above hi fr → Again S own bottom f.function fr d old p s
        → Pending S.C lo hi s → (visit_children classes ts f s).noted.nine ≡ None
        → Did classes S bottom (Minus own i (i + sizes ts)) f.function fr d old p (walk_all ts p) i (i + sizes ts) lo hi s (visit_children classes ts f s)
    again-all i nil n z f own fr d old p s lo hi before h o k b q w fo a g r e =
        record { again = fewer_again S (λ x y. y.0) g; outside = λ r x. refl; tells = λ R ag. tt; second = λ v. v }
    again-all i (cons c ts) n z f own fr d old p s lo hi before h o k b q w fo a g r e =
        let t = child_flags (is_nil ts) f in
        let s₁ = visit classes c t s in
        let h₀ = (again_layered S g).one in
        let h₁ = stays (visited classes c t s h₀) h₀ in
        let e₁ = (keeps_noted (visited_children classes ts f s₁ h₁)).nine e in
        let i₁ = i + size c in
        let q₁ = split before (walk c p) (walk_all ts p) q in
        in_case classes S bottom i c ts own f.function fr d old p p (walk c p) (walk_all ts p) s s₁ (visit_children classes ts f s₁) lo k.0 hi k.1
        k.2 o r a
        (λ o r a. again i c n.0 (none_left (defines c) (defines_in ts) z) t own fr d old p s lo k.0 before h o k.3 b.0 q₁.0 w fo a g r e₁)
        (λ own w. children_visited classes ts f s₁ (trees_writes own i₁ ts n.1 w) h₁)
        (λ g o r. again-all i₁ ts n.1 (none_right (defines c) (defines_in ts) z) f (Minus own i i₁) fr d old p s₁ k.0 hi (before ++ uses_in (walk c p)) h o
        k.4 b.1 q₁.1 w fo a g r e)
