-- The parts of each form of a second visit put together.
use Prim.Native.Nat.{ℕ, suc, ◌+◌, ◌≤◌}
use Rattle.std.specs.Prelude.{List, [], ◌∷◌, ◌++◌, Bool, ◌≡◌, Option, None, Some}
use Rattle.std.proofs.Math.Path.{refl}
use Rattle.std.proofs.Common.{◌∙◌, arith}
use Rattle.std.proofs.Math.ListN.{length}
use Rattle.tree.specs.Tree.{Ident, Node, Tree, Trees, if, letin, lambda, call, set!, cons, many, size, sizes, NumNames}
use Rattle.scope_map.specs.ScopeMap.{Live}
use Rattle.pass.specs.State.{State, with_context}
use Rattle.pass.specs.Lambda.{open_lambda, close_lambda, at_bottom, open_let, close_let}
use Rattle.pass_laws.specs.Laws.Changes.{Steps, Changes, widen, context}
use Rattle.pass_laws.specs.Laws.Moves.{Moves, by, ◌⨟◌, into_let, out_of_let}
use Rattle.pass_laws.specs.Laws.Ranges.{Covers, names_writes}
use Rattle.pass_laws.specs.Laws.Keeps.{Off}
use Rattle.pass_laws.specs.Laws.Says.{cell_of}
use Rattle.pass_laws.specs.Laws.Onward.{Parts}
use Rattle.pass_laws.specs.Laws.Reads.{Only}
use Rattle.pass_laws.specs.Laws.Sets.{set_at}
use Rattle.pass_laws.specs.Laws.Bodies.{no_part}
use Rattle.pass_laws.specs.Laws.Forms.{Minus}
use Rattle.pass_laws.specs.Laws.Idle.{Idle, idle_steps}
use Rattle.pass_laws.specs.Laws.Preserved.{open_let_preserves}
use Rattle.r7rs.specs.Binding.{Place, Use, Event, lambda_body, let_body, parameters, let_names, raised, within, entering, ends, mentions, walk, walk_arguments}
use Rattle.execution.proofs.Laws.Settled.Kept.{LetKept, LambdaKept}
use Rattle.execution.proofs.Laws.Settled.Layer.{Lives}
use Rattle.execution.proofs.Laws.Settled.Again.{Frame, FramedIn, Script, Again, calmly_again}
use Rattle.execution.proofs.Laws.Settled.Refuses.{Above, frame_of, Pending}
use Rattle.execution.proofs.Laws.Settled.Unsaid.{Unsaid}
use Rattle.execution.proofs.Laws.Settled.Rebodies.{Closed, FunctionOf, into_let_again, into_lambda_again, enter-outside}
use Rattle.execution.proofs.Laws.Settled.Did.{Did, again_height, pending_after, pending_part, did_both, did_ended, did_after, did_closed}
use Rattle.execution.proofs.Laws.Settled.Reforms.{idle_list-entry, let_did, lambda_did}

-- the list of the lambda around lies further on
above : (fr : Option Frame) {k hi : ℕ} → k ≤ hi → Above hi fr → Above k fr
above None h a = tt
above (Some f) h a = omega arith

module _ (classes : List ℕ) (S : Script) (bottom : List (Live Ident)) where
  if_did : (i : ℕ) (m : Node) (x y c : Tree) (own : ℕ → Type 0) (fn : Option Node) (fr : Option Frame) (d : ℕ) (old : Lives) (p : Place) (s s₁ s₂ s₃ : State)
      (lo k₁ k₂ hi : ℕ) → lo ≤ k₁ → k₁ ≤ k₂
      → k₂ ≤ hi → Did classes S bottom (Minus own (i + 1) (i + 1 + size x)) fn fr d old p (walk x p) (i + 1) (i + 1 + size x) lo k₁ s s₁
      → Moves (Off (i + 1) (i + 1 + size x)) s₁ s₃
      → Did classes S bottom (Minus (Minus own (i + 1) (i + 1 + size x)) (i + 1 + size x) (i + 1 + size x + size y)) fn fr d old p (walk y p) (i + 1 + size x)
      (i + 1 + size x + size y) k₁ k₂ s₁ s₂
      → Moves (Off (i + 1 + size x) (i + 1 + size x + size y)) s₂ s₃
      → Did classes S bottom (Minus (Minus (Minus own (i + 1) (i + 1 + size x)) (i + 1 + size x) (i + 1 + size x + size y)) (i + 1 + size x + size y)
      (i + 1 + size x + size y + size c)) fn fr d old p
      (walk c p) (i + 1 + size x + size y) (i + 1 + size x + size y + size c) k₂ hi s₂ s₃
      → Did classes S bottom (Minus own i (i + size (if m x y c))) fn fr d old p (walk x p ++ (walk y p ++ walk c p)) i (i + size (if m x y c)) lo hi s s₃
  unfolding size
  if_did i m x y c own fn fr d old p s s₁ s₂ s₃ lo k₁ k₂ hi l₁ l₂ l₃ X v Y w Z =
      let j = i + 1 + size x + size y + size c in
      did_closed i (i + size (if m x y c)) (omega arith) (omega arith)
      (λ x z. (((z.0, λ l u. z.1 (omega arith) (omega arith)), λ l u. z.1 (omega arith) (omega arith)), λ l u. z.1 (omega arith) (omega arith)))
      (did_both (i + 1) j lo hi (omega arith) (omega arith) (omega arith) (omega arith) (omega arith) (omega arith) X v
      (did_both (i + 1 + size x) j k₁ hi (omega arith) (omega arith) (omega arith) (omega arith) (omega arith) (omega arith) Y w Z))

  let_whole : (i : ℕ) (m : Node) (xs : List Ident) (es : Trees) (c : Tree) (own : ℕ
      → Type 0) (fn : Option Node) (fr : Option Frame) (d : ℕ) (old : Lives) (p : Place) (s s₁ s₂ : State) (lo k hi : ℕ)
      → lo ≤ k → k ≤ hi
      → Did classes S bottom (Minus own (i + 1 + length xs) (i + 1 + length xs + sizes es)) fn fr d old p (walk_arguments es p) (i + 1 + length xs)
      (i + 1 + length xs + sizes es) lo k s s₁
      → Moves (Off (i + 1 + length xs) (i + 1 + length xs + sizes es)) s₁ s₂
      → Did classes S bottom (Minus (Minus (Minus (Minus own (i + 1 + length xs) (i + 1 + length xs + sizes es)) (i + 1) (i + 1 + length xs))
      (i + 1 + length xs + sizes es) (i + 1 + length xs + sizes es + size c))
      i (i + 1)) fn fr d old p (entering (let_names xs p) p.scope ++ walk c (within (let_names xs p) (let_body (length xs) p))) i
      (i + 1 + length xs + sizes es + size c) k hi s₁ s₂
      → Did classes S bottom (Minus own i (i + size (letin m xs es c))) fn fr d old p
      (walk_arguments es p ++ (entering (let_names xs p) p.scope ++ walk c (within (let_names xs p) (let_body (length xs) p)))) i (i + size (letin m xs es c))
      lo hi s s₂
  unfolding size
  let_whole i m xs es c own fn fr d old p s s₁ s₂ lo k hi l₁ l₂ X v Y =
      let j = i + 1 + length xs + sizes es + size c in
      did_closed i (i + size (letin m xs es c)) (omega arith) (omega arith)
      (λ x z. (
        (((z.0, λ l u. z.1 (omega arith) (omega arith)), λ l u. z.1 (omega arith) (omega arith)), λ l u. z.1 (omega arith) (omega arith)),
        λ l u.
            z.1 (omega arith) (omega arith),
      ))
      (did_both i j lo hi (omega arith) (omega arith) (omega arith) (omega arith) (omega arith) (omega arith) X v Y)

  call_did : (i : ℕ) (m : Node) (c : Tree) (es : Trees) (own : ℕ
      → Type 0) (fn : Option Node) (fr : Option Frame) (d : ℕ) (old : Lives) (p : Place) (s s₁ s₂ s₃ : State) (lo k hi : ℕ) → lo ≤ k → k ≤ hi
      → m.at ≡ i → Covers own i (i + size (call m c es))
      → Did classes S bottom (Minus own (i + 1 + size c) (i + 1 + size c + sizes es)) fn fr d old p (walk_arguments es p) (i + 1 + size c)
      (i + 1 + size c + sizes es) lo k s s₁
      → Moves (Off (i + 1 + size c) (i + 1 + size c + sizes es)) s₁ s₂
      → Did classes S bottom (Minus (Minus own (i + 1 + size c) (i + 1 + size c + sizes es)) (i + 1) (i + 1 + size c)) fn fr d old (raised (many es) p)
      (walk c (raised (many es) p)) (i + 1) (i + 1 + size c) k hi s₁ s₂
      → ((free : Type 0) → Steps free (Only m.at) s₂ s₃) → Idle s₂ s₃ → Unsaid s₂ s₃
      → Did classes S bottom (Minus own i (i + size (call m c es))) fn fr d old p (walk_arguments es p ++ walk c (raised (many es) p)) i
      (i + size (call m c es)) lo hi s s₃
  unfolding size
  call_did i m c es own fn fr d old p s s₁ s₂ s₃ lo k hi l₁ l₂ e o X v Y steps idle unsaid =
      let j = i + 1 + size c + sizes es in
      let XY = did_both (i + 1) j lo hi (omega arith) (omega arith) (omega arith) (omega arith) (omega arith) (omega arith) X v Y in
      let mid : ℕ → Type 0 = Minus (Minus own (i + 1 + size c) (i + 1 + size c + sizes es)) (i + 1) (i + 1 + size c) in
      let parts : Parts mid (Only m.at) (Minus own i (i + size (call m c es))) =
      record {
        written = λ x q. ((o x (omega arith) (omega arith), λ l u. omega arith), λ l u. omega arith);
        kept = λ x z. ((z.0, λ l u. z.1 (omega arith) (omega arith)), λ l u. z.1 (omega arith) (omega arith));
        apart = λ x z q. z.1 (omega arith) (omega arith);
      } in
      did_ended i (i + size (call m c es)) (omega arith) (omega arith) XY (by (widen (λ x q l u. omega arith) (steps (Unit {0}))))
      (again_height S p.site.height (calmly_again S Y.again parts steps idle)) (λ r z. idle_list-entry s₂ s₃ idle r) unsaid

  set_did : (i : ℕ) (m : Node) (x : Ident) (c : Tree) (own : ℕ
      → Type 0) (fn : Option Node) (fr : Option Frame) (d : ℕ) (old : Lives) (p : Place) (s s₁ s₂ s₃ : State) (lo hi : ℕ) → lo ≤ hi → Idle s s₁ → Unsaid s s₁
      → Did classes S bottom (Minus own (i + 2) (i + 2 + size c)) fn fr d old p (walk c p) (i + 2) (i + 2 + size c) lo hi s₁ s₂
      → Moves (Off (i + 2) (i + 2 + size c)) s₂ s₃
      → Did classes S bottom (Minus (Minus own (i + 2) (i + 2 + size c)) (i + 1) (i + 1 + 1)) fn fr d old p (mentions (set_at x p) ∷ []) (i + 1) (i + 1 + 1) hi
      hi s₂ s₃
      → Did classes S bottom (Minus own i (i + size (set! m x c))) fn fr d old p (walk c p ++ (mentions (set_at x p) ∷ [])) i (i + size (set! m x c)) lo hi s s₃
  unfolding size
  set_did i m x c own fn fr d old p s s₁ s₂ s₃ lo hi l idle unsaid X v Y =
      did_closed i (i + size (set! m x c)) (omega arith) (omega arith) (λ y z. (
        (z.0, λ l u. z.1 (omega arith) (omega arith)),
        λ l u. z.1 (omega arith)
            (omega arith),
      ))
      (did_both (i + 1) (i + 2 + size c) lo hi (omega arith) (omega arith) (omega arith) (omega arith) (omega arith) (omega arith)
      (did_after s (idle_list-entry s s₁ idle) unsaid X) v Y)

  in_did : (i : ℕ) (c : Tree) (ts : Trees) (own : ℕ → Type 0) (fn : Option Node) (fr : Option Frame) (d : ℕ) (old : Lives) (p q : Place) (l r : List Event)
      (s s₁ s₂ : State) (lo k hi : ℕ) → lo ≤ k → k ≤ hi
      → Did classes S bottom (Minus own i (i + size c)) fn fr d old p l i (i + size c) lo k s s₁ → Moves (Off i (i + size c)) s₁ s₂
      → Did classes S bottom (Minus (Minus own i (i + size c)) (i + size c) (i + size c + sizes ts)) fn fr d old q r (i + size c) (i + size c + sizes ts) k hi
      s₁ s₂
      → Did classes S bottom (Minus own i (i + sizes (cons c ts))) fn fr d old q (l ++ r) i (i + sizes (cons c ts)) lo hi s s₂
  unfolding size
  in_did i c ts own fn fr d old p q l r s s₁ s₂ lo k hi l₁ l₂ X v Y =
      did_closed i (i + sizes (cons c ts)) (omega arith) (omega arith) (λ x z. (
        (z.0, λ l u. z.1 (omega arith) (omega arith)),
        λ l u. z.1 (omega arith)
            (omega arith),
      ))
      (did_both i (i + size c + sizes ts) lo hi (omega arith) (omega arith) (omega arith) (omega arith) (omega arith) (omega arith) X v Y)

  -- s₁: the initial expressions are done; u: the body is
  pub let_case : (i : ℕ) (m : Node) (xs : List Ident) (es : Trees) (c : Tree) (height ctx : ℕ) (fn : Option Node) (opened : Bool) (own : ℕ
      → Type 0) (fr : Option Frame) (d : ℕ) (old : Lives) (p : Place)
      (s s₁ u : State) (lo k hi : ℕ) (after : List Use) → m.at ≡ i → NumNames (i + 1) xs → height ≡ p.site.height → Covers own i (i + size (letin m xs es c))
      → lo ≤ k → k ≤ hi
      → LetKept S.T S.C S.A after m xs → Closed S.U after xs → opened ≡ at_bottom (with_context ctx s₁)
      → (open_let m xs height fn (with_context ctx s₁)).noted.nine ≡ None
      → Pending S.C lo hi s → Above hi fr → FunctionOf S.T fn p.around
      → (Covers own (i + 1 + length xs) (i + 1 + length xs + sizes es) → Pending S.C lo k s → Above k fr
      → Did classes S bottom (Minus own (i + 1 + length xs) (i + 1 + length xs + sizes es)) fn fr d old p (walk_arguments es p) (i + 1 + length xs)
      (i + 1 + length xs + sizes es) lo k s s₁)
      → ((own : ℕ → Type 0) → Covers own (i + 1 + length xs + sizes es) (i + 1 + length xs + sizes es + size c)
      → Changes own (open_let m xs height fn (with_context ctx s₁)) u)
      → (Again S (Minus (Minus own (i + 1 + length xs) (i + 1 + length xs + sizes es)) (i + 1) (i + 1 + length xs)) bottom fn fr d old
      (within (let_names xs p) (let_body (length xs) p))
      (open_let m xs height fn (with_context ctx s₁)) → Pending S.C k hi (open_let m xs height fn (with_context ctx s₁))
      → Covers (Minus (Minus own (i + 1 + length xs) (i + 1 + length xs + sizes es)) (i + 1) (i + 1 + length xs)) (i + 1 + length xs + sizes es)
      (i + 1 + length xs + sizes es + size c)
      → Did classes S bottom (Minus (Minus (Minus own (i + 1 + length xs) (i + 1 + length xs + sizes es)) (i + 1) (i + 1 + length xs))
      (i + 1 + length xs + sizes es) (i + 1 + length xs + sizes es + size c))
      fn fr d old (within (let_names xs p) (let_body (length xs) p)) (walk c (within (let_names xs p) (let_body (length xs) p))) (i + 1 + length xs + sizes es)
      (i + 1 + length xs + sizes es + size c) k hi
      (open_let m xs height fn (with_context ctx s₁)) u)
      → Did classes S bottom (Minus own i (i + size (letin m xs es c))) fn fr d old p
      (walk_arguments es p ++ (entering (let_names xs p) p.scope ++ walk c (within (let_names xs p) (let_body (length xs) p)))) i (i + size (letin m xs es c))
      lo hi s
      (close_let opened m xs height fn u)
  unfolding size
  let_case i m xs es c height ctx fn opened own fr d old p s s₁ u lo k hi after e n h o l₁ l₂ kept closed q nine r a fo first past B =
      let i₁ = i + 1 in
      let i₂ = i₁ + length xs in
      let i₃ = i₂ + sizes es in
      let X = first (λ v l u. o v (omega arith) (omega arith)) (pending_part lo k r (omega arith) l₂) (above fr l₂ a) in
      let s₃ = with_context ctx s₁ in
      let s₄ = open_let m xs height fn s₃ in
      let own₂ : ℕ → Type 0 = Minus own i₂ i₃ in
      let g₃ : Again S own₂ bottom fn fr d old p s₃ = calmly_again S X.again no_part (λ free. context ctx) refl in
      let names-left : Covers own₂ i₁ i₂ = λ v l u. (o v (omega arith) (omega arith), λ y z. omega arith) in
      let rest-left : Covers own₂ i₃ (i₃ + size c) = λ v l u. (o v (omega arith) (omega arith), λ y z. omega arith) in
      let here : Covers own₂ i (i + 1) = λ v l u. (o v (omega arith) (omega arith), λ y z. omega arith) in
      let N = into_let_again S classes (cell_of bottom) {left = Minus own₂ i₁ i₂} after m i₁ xs n names-left (here m.at (omega arith) (omega arith))
      (λ y v. v.0) (λ y v l u. v.1 l u) kept closed fo g₃ height h nine in
      let r₁ : Pending S.C k hi s₁ = pending_after {C = S.C} s s₁ (pending_part k hi r l₁ (omega arith)) X.outside (omega arith) in
      let r₄ : Pending S.C k hi s₄ = record { at = λ v x y. idle_list-entry s₃ s₄ (open_let_preserves idle_steps m xs height fn s₃) v ∙ r₁.at v x y } in
      let L = let_did classes S bottom own₂ fn fr d old p s₃ i m xs es c after k hi height opened e here names-left rest-left kept q nine g₃ N
      (past _ (λ x l u y z. omega arith))
      (B N.again r₄ (λ v l u. ((o v (omega arith) (omega arith), λ y z. omega arith), λ y z. omega arith))) in
      let_whole i m xs es c own fn fr d old p s s₁ (close_let opened m xs height fn u) lo k hi l₁ l₂ X
      (by (context {s = s₁} ctx)
      ⨟ into_let m xs height fn s₃ (names_writes _ i₁ xs n (λ x l u y z. omega arith))
      ⨟ by (past _ (λ x l u y z. omega arith))
      ⨟ out_of_let opened m xs height fn u (λ l u. omega arith)) (did_after s₁ (λ r. refl) refl L)

  pub lambda_case : (i : ℕ) (m : Node) (xs : List Ident) (c : Tree) (escapes : Bool) (fn : Option Node) (own : ℕ
      → Type 0) (fr : Option Frame) (d : ℕ) (old : Lives) (p : Place) (s u : State)
      (lo mid hi : ℕ) (after : List Use) → m.at ≡ i → NumNames (i + 1) xs → Covers own i (i + size (lambda m xs c)) → lo ≤ mid → mid ≤ hi
      → LambdaKept S.T S.C S.A mid hi after m xs p.scope → Closed S.U after xs → (open_lambda m xs s).noted.nine ≡ None → Above hi fr
      → FramedIn S.C S.G fr p → Again S own bottom fn fr d old p s
      → Pending S.C lo hi s → ((own : ℕ → Type 0) → Covers own (i + 1 + length xs) (i + 1 + length xs + size c) → Changes own (open_lambda m xs s) u)
      → Moves own s (close_lambda m xs c escapes u)
      → (Again S (Minus own i (i + 1 + length xs)) bottom (Some m) (Some (frame_of fr m mid hi xs p.scope after)) (suc d) s.captures.live
      (within (parameters m xs p) (lambda_body m (length xs) p))
      (open_lambda m xs s) → Pending S.C lo mid (open_lambda m xs s) → Covers (Minus own i (i + 1 + length xs)) (i + 1 + length xs)
      (i + 1 + length xs + size c)
      → Above mid (Some (frame_of fr m mid hi xs p.scope after))
      → Did classes S bottom (Minus (Minus own i (i + 1 + length xs)) (i + 1 + length xs) (i + 1 + length xs + size c)) (Some m)
      (Some (frame_of fr m mid hi xs p.scope after)) (suc d) s.captures.live
      (within (parameters m xs p) (lambda_body m (length xs) p)) (walk c (within (parameters m xs p) (lambda_body m (length xs) p))) (i + 1 + length xs)
      (i + 1 + length xs + size c) lo mid
      (open_lambda m xs s) u)
      → Did classes S bottom (Minus own i (i + size (lambda m xs c))) fn fr d old p
      (entering (parameters m xs p) p.scope ++ (walk c (within (parameters m xs p) (lambda_body m (length xs) p)) ++ (ends m.at xs p.scope ∷ []))) i
      (i + size (lambda m xs c)) lo hi s
      (close_lambda m xs c escapes u)
  unfolding size
  lambda_case i m xs c escapes fn own fr d old p s u lo mid hi after e n o l₁ l₂ kept closed nine a w g r past whole B =
      let i₁ = i + 1 in
      let i₂ = i₁ + length xs in
      let here = o m.at (omega arith) (omega arith) in
      let pending : Pending S.C mid hi s = pending_part mid hi r l₁ (omega arith) in
      let opened = enter-outside S m xs mid hi after kept g w a pending here in
      let N = into_lambda_again S m xs mid hi after kept g w a pending classes (cell_of bottom) {left = Minus own i i₂} i₁ n
      (λ v l u. o v (omega arith) (omega arith)) here (λ y v. v.0)
      (λ y v l u. v.1 (omega arith) (omega arith)) (λ v. v.1 (omega arith) (omega arith)) (omega arith) closed nine in
      did_closed i (i + size (lambda m xs c)) (omega arith) (omega arith) (λ x v. (
        (v.0, λ l u. v.1 (omega arith) (omega arith)),
        λ l u. v.1 (omega arith)
            (omega arith),
      ))
      (lambda_did classes S bottom own fn fr d old p s i m xs c after lo mid hi escapes e (λ v l u. o v (omega arith) (omega arith)) kept l₁ l₂ a nine g
      pending opened N
      (past _ (λ x l u y z. omega arith)) whole (B N.again (record { at = λ v x y. opened v (λ c d. omega arith) ∙ r.at v x (omega arith) })
      (λ v l u. (o v (omega arith) (omega arith), λ y z. omega arith)) (omega arith)))

  pub if_case : (i : ℕ) (m : Node) (x y c : Tree) (own : ℕ → Type 0) (fn : Option Node) (fr : Option Frame) (d : ℕ) (old : Lives) (p : Place)
      (s s₁ s₂ s₃ : State) (lo k₁ k₂ hi : ℕ) → lo ≤ k₁ → k₁ ≤ k₂
      → k₂ ≤ hi → Covers own i (i + size (if m x y c)) → Pending S.C lo hi s → Above hi fr
      → (Covers own (i + 1) (i + 1 + size x) → Pending S.C lo k₁ s → Above k₁ fr
      → Did classes S bottom (Minus own (i + 1) (i + 1 + size x)) fn fr d old p (walk x p) (i + 1) (i + 1 + size x) lo k₁ s s₁)
      → ((own : ℕ → Type 0) → Covers own (i + 1 + size x) (i + 1 + size x + size y) → Changes own s₁ s₂)
      → (Again S (Minus own (i + 1) (i + 1 + size x)) bottom fn fr d old p s₁
      → Covers (Minus own (i + 1) (i + 1 + size x)) (i + 1 + size x) (i + 1 + size x + size y) → Pending S.C k₁ k₂ s₁ → Above k₂ fr
      → Did classes S bottom (Minus (Minus own (i + 1) (i + 1 + size x)) (i + 1 + size x) (i + 1 + size x + size y)) fn fr d old p (walk y p) (i + 1 + size x)
      (i + 1 + size x + size y) k₁ k₂ s₁ s₂)
      → ((own : ℕ → Type 0) → Covers own (i + 1 + size x + size y) (i + 1 + size x + size y + size c) → Changes own s₂ s₃)
      → (Again S (Minus (Minus own (i + 1) (i + 1 + size x)) (i + 1 + size x) (i + 1 + size x + size y)) bottom fn fr d old p s₂
      → Covers (Minus (Minus own (i + 1) (i + 1 + size x)) (i + 1 + size x) (i + 1 + size x + size y)) (i + 1 + size x + size y)
      (i + 1 + size x + size y + size c) → Pending S.C k₂ hi s₂
      → Did classes S bottom (Minus (Minus (Minus own (i + 1) (i + 1 + size x)) (i + 1 + size x) (i + 1 + size x + size y)) (i + 1 + size x + size y)
      (i + 1 + size x + size y + size c)) fn fr d old p
      (walk c p) (i + 1 + size x + size y) (i + 1 + size x + size y + size c) k₂ hi s₂ s₃)
      → Did classes S bottom (Minus own i (i + size (if m x y c))) fn fr d old p (walk x p ++ (walk y p ++ walk c p)) i (i + size (if m x y c)) lo hi s s₃
  unfolding size
  if_case i m x y c own fn fr d old p s s₁ s₂ s₃ lo k₁ k₂ hi l₁ l₂ l₃ o r a first past second past-last last =
      let X = first (λ v l u. o v (omega arith) (omega arith)) (pending_part lo k₁ r (omega arith) (omega arith)) (above fr (omega arith) a) in
      let Y = second X.again (λ v l u. (o v (omega arith) (omega arith), λ y z. omega arith))
      (pending_after s s₁ (pending_part k₁ k₂ r l₁ l₃) X.outside (omega arith)) (above fr l₃ a) in
      let r₁ = pending_after {C = S.C} s s₁ (pending_part k₂ hi r (omega arith) (omega arith)) X.outside l₂ in
      let Z = last Y.again (λ v l u. ((o v (omega arith) (omega arith), λ y z. omega arith), λ y z. omega arith))
      (pending_after {C = S.C} s₁ s₂ r₁ Y.outside (omega arith)) in
      if_did i m x y c own fn fr d old p s s₁ s₂ s₃ lo k₁ k₂ hi l₁ l₂ l₃ X (by (past _ (λ x l u y z. omega arith)) ⨟ by
      (past-last _ (λ x l u y z. omega arith))) Y
      (by (past-last _ (λ x l u y z. omega arith))) Z

  pub call_case : (i : ℕ) (m : Node) (c : Tree) (es : Trees) (own : ℕ
      → Type 0) (fn : Option Node) (fr : Option Frame) (d : ℕ) (old : Lives) (p : Place) (s s₁ s₂ s₃ : State) (lo k hi : ℕ) → lo ≤ k → k ≤ hi
      → m.at ≡ i → Covers own i (i + size (call m c es)) → Pending S.C lo hi s → Above hi fr
      → (Covers own (i + 1 + size c) (i + 1 + size c + sizes es) → Pending S.C lo k s → Above k fr
      → Did classes S bottom (Minus own (i + 1 + size c) (i + 1 + size c + sizes es)) fn fr d old p (walk_arguments es p) (i + 1 + size c)
      (i + 1 + size c + sizes es) lo k s s₁)
      → ((own : ℕ → Type 0) → Covers own (i + 1) (i + 1 + size c) → Changes own s₁ s₂)
      → (Again S (Minus own (i + 1 + size c) (i + 1 + size c + sizes es)) bottom fn fr d old (raised (many es) p) s₁
      → Covers (Minus own (i + 1 + size c) (i + 1 + size c + sizes es)) (i + 1) (i + 1 + size c)
      → Pending S.C k hi s₁
      → Did classes S bottom (Minus (Minus own (i + 1 + size c) (i + 1 + size c + sizes es)) (i + 1) (i + 1 + size c)) fn fr d old (raised (many es) p)
      (walk c (raised (many es) p)) (i + 1) (i + 1 + size c) k hi s₁ s₂)
      → ((free : Type 0) → Steps free (Only m.at) s₂ s₃) → Idle s₂ s₃ → Unsaid s₂ s₃
      → Did classes S bottom (Minus own i (i + size (call m c es))) fn fr d old p (walk_arguments es p ++ walk c (raised (many es) p)) i
      (i + size (call m c es)) lo hi s s₃
  unfolding size
  call_case i m c es own fn fr d old p s s₁ s₂ s₃ lo k hi l₁ l₂ e o r a first past second steps idle unsaid =
      let X = first (λ v l u. o v (omega arith) (omega arith)) (pending_part lo k r (omega arith) l₂) (above fr l₂ a) in
      let Y = second (again_height S (p.site.height + many es) X.again) (λ v l u. (o v (omega arith) (omega arith), λ y z. omega arith))
      (pending_after {C = S.C} s s₁ (pending_part k hi r l₁ (omega arith)) X.outside (omega arith)) in
      call_did i m c es own fn fr d old p s s₁ s₂ s₃ lo k hi l₁ l₂ e o X (by (past _ (λ x l u y z. omega arith))) Y steps idle unsaid

  pub set_case : (i : ℕ) (m : Node) (x : Ident) (c : Tree) (own : ℕ
      → Type 0) (fn : Option Node) (fr : Option Frame) (d : ℕ) (old : Lives) (p : Place) (s s₁ s₂ s₃ : State) (lo hi : ℕ) → lo ≤ hi → x.at ≡ i + 1
      → Covers own i (i + size (set! m x c)) → Pending S.C lo hi s → Idle s s₁ → Unsaid s s₁
      → (Covers own (i + 2) (i + 2 + size c) → Pending S.C lo hi s₁
      → Did classes S bottom (Minus own (i + 2) (i + 2 + size c)) fn fr d old p (walk c p) (i + 2) (i + 2 + size c) lo hi s₁ s₂)
      → ((own : ℕ → Type 0) → own x.at → Changes own s₂ s₃)
      → (Again S (Minus own (i + 2) (i + 2 + size c)) bottom fn fr d old p s₂ → Covers (Minus own (i + 2) (i + 2 + size c)) (i + 1) (i + 1 + 1)
      → Did classes S bottom (Minus (Minus own (i + 2) (i + 2 + size c)) (i + 1) (i + 1 + 1)) fn fr d old p (mentions (set_at x p) ∷ []) (i + 1) (i + 1 + 1) hi
      hi s₂ s₃)
      → Did classes S bottom (Minus own i (i + size (set! m x c))) fn fr d old p (walk c p ++ (mentions (set_at x p) ∷ [])) i (i + size (set! m x c)) lo hi s s₃
  unfolding size
  set_case i m x c own fn fr d old p s s₁ s₂ s₃ lo hi l e o r idle unsaid first past second =
      let X = first (λ v l u. o v (omega arith) (omega arith)) (record { at = λ v x y. idle_list-entry s s₁ idle v ∙ r.at v x y }) in
      let Y = second X.again (λ v l u. (o v (omega arith) (omega arith), λ y z. omega arith)) in
      set_did i m x c own fn fr d old p s s₁ s₂ s₃ lo hi l idle unsaid X (by (past _ (λ l u. omega arith))) Y

  pub in_case : (i : ℕ) (c : Tree) (ts : Trees) (own : ℕ → Type 0) (fn : Option Node) (fr : Option Frame) (d : ℕ) (old : Lives) (p q : Place)
      (l r : List Event) (s s₁ s₂ : State) (lo k hi : ℕ) → lo ≤ k → k ≤ hi
      → Covers own i (i + sizes (cons c ts)) → Pending S.C lo hi s → Above hi fr
      → (Covers own i (i + size c) → Pending S.C lo k s → Above k fr
      → Did classes S bottom (Minus own i (i + size c)) fn fr d old p l i (i + size c) lo k s s₁)
      → ((own : ℕ → Type 0) → Covers own (i + size c) (i + size c + sizes ts) → Changes own s₁ s₂)
      → (Again S (Minus own i (i + size c)) bottom fn fr d old p s₁ → Covers (Minus own i (i + size c)) (i + size c) (i + size c + sizes ts)
      → Pending S.C k hi s₁
      → Did classes S bottom (Minus (Minus own i (i + size c)) (i + size c) (i + size c + sizes ts)) fn fr d old q r (i + size c) (i + size c + sizes ts) k hi
      s₁ s₂)
      → Did classes S bottom (Minus own i (i + sizes (cons c ts))) fn fr d old q (l ++ r) i (i + sizes (cons c ts)) lo hi s s₂
  unfolding size
  in_case i c ts own fn fr d old p q l r s s₁ s₂ lo k hi l₁ l₂ o pending a first past second =
      let X = first (λ v l u. o v (omega arith) (omega arith)) (pending_part lo k pending (omega arith) l₂) (above fr l₂ a) in
      let Y = second X.again (λ v l u. (o v (omega arith) (omega arith), λ y z. omega arith))
      (pending_after {C = S.C} s s₁ (pending_part k hi pending l₁ (omega arith)) X.outside (omega arith)) in
      in_did i c ts own fn fr d old p q l r s s₁ s₂ lo k hi l₁ l₂ X (by (past _ (λ x l u y z. omega arith))) Y
