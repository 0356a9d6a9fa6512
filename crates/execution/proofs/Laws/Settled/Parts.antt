-- The parts of a form put together: what they leave in the tables is what `Kept` says of the form.
use Rattle.std.specs.Prelude.{ℕ, ◌+◌, List, ◌++◌, ◌≡◌}
use Rattle.std.proofs.Math.Path.{refl}
use Rattle.std.proofs.Common.{ap, sym, subst, arith}
use Rattle.std.proofs.Math.ListN.{length}
use Rattle.tree.specs.Tree.{Ident, Node, Tree, Trees, if, letin, lambda, call, set!, cons, many, size, sizes}
use Rattle.semantic.specs.Rows.{Row, ListEntry}
use Rattle.r7rs.specs.Binding.{Place, Use, lambda_body, let_body, parameters, let_names, raised, within, walk, walk_arguments}
use Rattle.pass.specs.State.{Facts, State}
use Rattle.pass_laws.specs.Laws.Moves.{Moves}
use Rattle.pass_laws.specs.Laws.Keeps.{Off}
use Rattle.pass_laws.specs.Laws.Says.{uses_in}
use Rattle.pass_laws.specs.Laws.Idle.{Idle}
use Rattle.execution.proofs.Laws.Exact.Captured.{top_of}
use Rattle.execution.proofs.Laws.Settled.Kept.{LetKept, LambdaKept, Kept, KeptIn, KeptAll, Leaves, both, closed, idle_before, idle_after}

-- the top of the captured lists after an idle step
idle_top : (s t : State) → Idle s t → top_of t ≡ top_of s
idle_top s t i = ap (λ (g : Facts). g.captured_top) i

module _ (T : List Row) (C A : List ListEntry) (i : ℕ) (before : List Use) (p : Place) where
  -- the same rows
  moved : {a b c d : ℕ} (used : List Use) (q : Place) (t : Tree) → a ≡ b → d ≡ c → Kept T C A a c used q t → Kept T C A b d used q t
  moved {b = b} {c} used q t e g k = subst (λ (h : ℕ). Kept T C A b h used q t) (sym g) (subst (λ (l : ℕ). Kept T C A l c used q t) e k)

  pub if_leaves : (m : Node) (a b c : Tree) (s₀ s₁ s₂ s₃ : State)
      → Leaves T C A (i + 1) (i + 1 + size a) (size a) s₀ s₁ (Kept T C A (top_of s₀) (top_of s₁) before p a)
      → Moves (Off (i + 1) (i + 1 + size a)) s₁ s₃
      → Leaves T C A (i + 1 + size a) (i + 1 + size a + size b) (size b) s₁ s₂ (Kept T C A (top_of s₁) (top_of s₂) (before ++ uses_in (walk a p)) p b)
      → Moves (Off (i + 1 + size a) (i + 1 + size a + size b)) s₂ s₃
      → Leaves T C A (i + 1 + size a + size b) (i + 1 + size a + size b + size c) (size c) s₂ s₃
      (Kept T C A (top_of s₂) (top_of s₃) ((before ++ uses_in (walk a p)) ++ uses_in (walk b p)) p c)
      → Leaves T C A i (i + size (if m a b c)) (size (if m a b c)) s₀ s₃ (Kept T C A (top_of s₀) (top_of s₃) before p (if m a b c))
  unfolding Kept size
  if_leaves m a b c s₀ s₁ s₂ s₃ X v Y w Z =
      let j = i + 1 + size a + size b + size c in
      closed i (i + size (if m a b c)) (size (if m a b c)) (omega arith) (omega arith) (omega arith)
      (both (i + 1) j (omega arith) (omega arith) (omega arith) (omega arith) X v (both (i + 1 + size a) j (omega arith) (omega arith) (omega arith)
      (omega arith) Y w Z))
      (λ q. (top_of s₁, top_of s₂, X.grown.top, Y.grown.top, Z.grown.top, q.0, q.1.0, q.1.1))

  -- s₁: the initial expressions are done; s₂: the names have entered; s₃: the body is done
  pub let_kept : (m : Node) (xs : List Ident) (es : Trees) (b : Tree) (s₀ s₁ s₂ s₃ s₄ : State)
      → Leaves T C A (i + 1 + length xs) (i + 1 + length xs + sizes es) (sizes es) s₀ s₁ (KeptIn T C A (top_of s₀) (top_of s₁) before p es)
      → Moves (Off (i + 1 + length xs) (i + 1 + length xs + sizes es)) s₁ s₄ → Idle s₁ s₂
      → Leaves T C A (i + 1 + length xs + sizes es) (i + 1 + length xs + sizes es + size b) (size b) s₂ s₃
      (Kept T C A (top_of s₂) (top_of s₃) (before ++ uses_in (walk_arguments es p)) (within (let_names xs p) (let_body (length xs) p)) b)
      → Moves (Off (i + 1 + length xs + sizes es) (i + 1 + length xs + sizes es + size b)) s₃ s₄ → top_of s₄ ≡ top_of s₃
      → Leaves T C A i (i + 1) (length xs) s₃ s₄
      (LetKept T C A ((before ++ uses_in (walk_arguments es p)) ++ uses_in (walk b (within (let_names xs p) (let_body (length xs) p)))) m xs)
      → Leaves T C A i (i + size (letin m xs es b)) (size (letin m xs es b)) s₀ s₄ (Kept T C A (top_of s₀) (top_of s₄) before p (letin m xs es b))
  unfolding Kept size
  let_kept m xs es b s₀ s₁ s₂ s₃ s₄ X v idle Y w top Z =
      let j = i + 1 + length xs + sizes es + size b in
      let YZ = both i j (omega arith) (omega arith) (omega arith) (omega arith) Y w Z in
      let t = idle_top s₁ s₂ idle in
      closed i (i + size (letin m xs es b)) (size (letin m xs es b)) (omega arith) (omega arith) (omega arith)
      (both i j (omega arith) (omega arith) (omega arith) (omega arith) X v (idle_before s₁ idle YZ))
      (λ q. (
        top_of s₁,
        X.grown.top,
        omega (arith, YZ.grown.top),
        q.0,
        moved (before ++ uses_in (walk_arguments es p)) (within (let_names xs p) (let_body (length xs) p)) b t top q.1.0,
        q.1.1,
      ))

  pub lambda_kept : (m : Node) (xs : List Ident) (b : Tree) (s₀ s₁ s₂ s₃ : State) → Idle s₀ s₁
      → Leaves T C A (i + 1 + length xs) (i + 1 + length xs + size b) (size b) s₁ s₂
      (Kept T C A (top_of s₁) (top_of s₂) before (within (parameters m xs p) (lambda_body m (length xs) p)) b)
      → Moves (Off (i + 1 + length xs) (i + 1 + length xs + size b)) s₂ s₃
      → Leaves T C A i (i + 1) (length xs) s₂ s₃
      (LambdaKept T C A (top_of s₂) (top_of s₃) (before ++ uses_in (walk b (within (parameters m xs p) (lambda_body m (length xs) p)))) m xs p.scope)
      → Leaves T C A i (i + size (lambda m xs b)) (size (lambda m xs b)) s₀ s₃ (Kept T C A (top_of s₀) (top_of s₃) before p (lambda m xs b))
  unfolding Kept size
  lambda_kept m xs b s₀ s₁ s₂ s₃ idle Y w Z =
      let j = i + 1 + length xs + size b in
      let t = idle_top s₀ s₁ idle in
      closed i (i + size (lambda m xs b)) (size (lambda m xs b)) (omega arith) (omega arith) (omega arith)
      (idle_before s₀ idle (both i j (omega arith) (omega arith) (omega arith) (omega arith) Y w Z))
      (λ q. (
        top_of s₂,
        omega (arith, Y.grown.top),
        Z.grown.top,
        moved before (within (parameters m xs p) (lambda_body m (length xs) p)) b t refl q.0,
        q.1,
      ))

  pub call_kept : (m : Node) (h : Tree) (es : Trees) (s₀ s₁ s₂ s₃ : State)
      → Leaves T C A (i + 1 + size h) (i + 1 + size h + sizes es) (sizes es) s₀ s₁ (KeptIn T C A (top_of s₀) (top_of s₁) before p es)
      → Moves (Off (i + 1 + size h) (i + 1 + size h + sizes es)) s₁ s₂
      → Leaves T C A (i + 1) (i + 1 + size h) (size h) s₁ s₂ (Kept T C A (top_of s₁) (top_of s₂) (before ++ uses_in (walk_arguments es p)) (raised (many es) p) h)
      → Idle s₂ s₃ → Moves (Off (i + 1) (i + 1 + size h + sizes es)) s₂ s₃
      → Leaves T C A i (i + size (call m h es)) (size (call m h es)) s₀ s₃ (Kept T C A (top_of s₀) (top_of s₃) before p (call m h es))
  unfolding Kept size
  call_kept m h es s₀ s₁ s₂ s₃ X v Y idle w =
      let j = i + 1 + size h + sizes es in
      let t = idle_top s₂ s₃ idle in
      closed i (i + size (call m h es)) (size (call m h es)) (omega arith) (omega arith) (omega arith)
      (idle_after s₃ (both (i + 1) j (omega arith) (omega arith) (omega arith) (omega arith) X v Y) idle w)
      (λ q. (top_of s₁, X.grown.top, omega (arith, Y.grown.top), q.0, moved (before ++ uses_in (walk_arguments es p)) (raised (many es) p) h refl t q.1))

  pub set_kept : (m : Node) (x : Ident) (e : Tree) (s₀ s₁ s₂ s₃ : State) → Idle s₀ s₁
      → Leaves T C A (i + 2) (i + 2 + size e) (size e) s₁ s₂ (Kept T C A (top_of s₁) (top_of s₂) before p e) → Idle s₂ s₃
      → Moves (Off (i + 2) (i + 2 + size e)) s₂ s₃
      → Leaves T C A i (i + size (set! m x e)) (size (set! m x e)) s₀ s₃ (Kept T C A (top_of s₀) (top_of s₃) before p (set! m x e))
  unfolding Kept size
  set_kept m x e s₀ s₁ s₂ s₃ clears X sets w =
      closed i (i + size (set! m x e)) (size (set! m x e)) (omega arith) (omega arith) (omega arith)
      (idle_after s₃ (idle_before s₀ clears X) sets w)
      (λ q. moved before p e (idle_top s₀ s₁ clears) (idle_top s₂ s₃ sets) q)

  pub in_kept : (t : Tree) (ts : Trees) (s₀ s₁ s₂ : State)
      → Leaves T C A i (i + size t) (size t) s₀ s₁ (Kept T C A (top_of s₀) (top_of s₁) before p t) → Moves (Off i (i + size t)) s₁ s₂
      → Leaves T C A (i + size t) (i + size t + sizes ts) (sizes ts) s₁ s₂ (KeptIn T C A (top_of s₁) (top_of s₂) (before ++ uses_in (walk t p)) (raised 1 p) ts)
      → Leaves T C A i (i + sizes (cons t ts)) (sizes (cons t ts)) s₀ s₂ (KeptIn T C A (top_of s₀) (top_of s₂) before p (cons t ts))
  unfolding Kept size
  in_kept t ts s₀ s₁ s₂ X v Y =
      closed i (i + sizes (cons t ts)) (sizes (cons t ts)) (omega arith) (omega arith) (omega arith)
      (both i (i + size t + sizes ts) (omega arith) (omega arith) (omega arith) (omega arith) X v Y) (λ q. (top_of s₁, X.grown.top, Y.grown.top, q.0, q.1))

  pub all_kept : (t : Tree) (ts : Trees) (s₀ s₁ s₂ : State)
      → Leaves T C A i (i + size t) (size t) s₀ s₁ (Kept T C A (top_of s₀) (top_of s₁) before p t) → Moves (Off i (i + size t)) s₁ s₂
      → Leaves T C A (i + size t) (i + size t + sizes ts) (sizes ts) s₁ s₂ (KeptAll T C A (top_of s₁) (top_of s₂) (before ++ uses_in (walk t p)) p ts)
      → Leaves T C A i (i + sizes (cons t ts)) (sizes (cons t ts)) s₀ s₂ (KeptAll T C A (top_of s₀) (top_of s₂) before p (cons t ts))
  unfolding Kept size
  all_kept t ts s₀ s₁ s₂ X v Y =
      closed i (i + sizes (cons t ts)) (sizes (cons t ts)) (omega arith) (omega arith) (omega arith)
      (both i (i + size t + sizes ts) (omega arith) (omega arith) (omega arith) (omega arith) X v Y) (λ q. (top_of s₁, X.grown.top, Y.grown.top, q.0, q.1))
