-- Refusal 10 of the fresh run: over the top level, and the claim.
use Prim.Native.Nat.{ℕ, ◌+◌, ◌≤◌, ◌<◌}
use mathlib.Core.List.{List, []}
use Rattle.std.specs.Prelude.{Bool, ◌≡◌, None}
use Rattle.std.proofs.Math.Bool.{true, false}
use Rattle.std.proofs.Common.{true≢false, sym, ◌∙◌}
use Rattle.std.proofs.Math.Path.{refl, ap, subst}
use native.Mathlib.Omega.{arith}
use Rattle.tree.specs.Tree.{Ident, Node, Tree, Trees, ident, const, if, letin, define, lambda, sequence, call, set!, nil, cons, size, sizes, Num, Nums}
use Rattle.tree.specs.Define.{defines, below, below_all, top_level, inner_defines}
use Rattle.scope_map.specs.ScopeMap.{Live}
use Rattle.r7rs.specs.Binding.{Mention, Use, top, walk, walk_all, events}
use Rattle.semantic.specs.declared.IdentifierStatus.TheVariants.{Global}
use Rattle.pass.specs.State.{State}
use Rattle.pass.specs.Visit.{top_flags, is_lambda, visit, visit_top_define, visit_top, visit_tops}
use Rattle.pass.specs.Run.{rows_most, no_facts, start, run, fresh}
use Rattle.pass_laws.specs.Laws.Changes.{context, no_later, keeps_noted}
use Rattle.pass_laws.specs.Laws.Scopes.{Any}
use Rattle.pass_laws.specs.Laws.Names.{value_changes}
use Rattle.pass_laws.specs.Laws.Visits.{stays, top-visited, tops_visited}
use Rattle.pass_laws.specs.Laws.Ranges.{tree_any, trees_any}
use Rattle.pass_laws.specs.Spread.{Spread}
use Rattle.pass_laws.specs.Laws.Tops.{spread_top, spread_end}
use Rattle.pass_laws.specs.Laws.Live.{none_left, none_right}
use Rattle.pass_laws.specs.Laws.Finds.{Finds, layered}
use Rattle.pass_laws.specs.Laws.Onward.{Parts, calmly}
use Rattle.pass_laws.specs.Laws.Onward as onward
use Rattle.pass_laws.specs.Laws.Reads.{Only}
use Rattle.pass_laws.specs.Laws.Bodies.{Nowhere, no_part}
use Rattle.pass_laws.specs.Laws.Globals.{defined_in, value_finds, SparedBy, spared_past, enter_tops}
use Rattle.pass_laws.specs.Laws.Forms.{Minus}
use Rattle.pass_laws.specs.Laws.Script.{Left, spared_before, visit_top_lem, walk_top, start_finds}
use Rattle.pass_laws.specs.Laws.Preserved.{value_preserves, children_preserves}
use Rattle.execution.specs.References.{any}
use Rattle.execution.specs.Acceptance.{ten_from, ten_in}
use Rattle.execution.specs.Claims.{TenExact}
use Rattle.execution.proofs.Laws.Exact.Seen.{Seen, seen_fewer}
use Rattle.execution.proofs.Laws.Exact.Plain.{plain, plain_steps}
use Rattle.execution.proofs.Laws.Exact.Counts.{Counts, both, preceded, out, fewer, nothing}
use Rattle.execution.proofs.Laws.Exact.Tens.{presumed, tens}

-- A define enters

module _ (classes : List ℕ) where
  -- The visits

  module _ {own : ℕ → Type 0} {bottom : List (Live Ident)} {before : List Use} {seen : List Mention} {s : State} (f : Finds own bottom before top s) (w : Seen own before seen []) where
    define_tens : (k : ℕ) (n : Node) (x : Ident) (b : Tree) (q : Bool) → is_lambda b ≡ q → Num k (define n x b) → defines b ≡ []
        → ((y : ℕ) → k ≤ y → y < k + size (define n x b) → SparedBy (define n x b) y → own y) → (visit_top_define classes q x b s).noted.nine ≡ None
        → Counts (Minus own k (k + size (define n x b))) before seen (walk b top) [] s (visit_top_define classes q x b s)
    unfolding Num size
    define_tens k n x b true l m d o e =
        let B = tens classes bottom (k + 2) b m.2 d top_flags refl (λ y u v. o y (omega arith) (omega arith) (λ g q. omega arith, tt)) (calmly no_part f (λ free. context x.id)) w e in
        preceded (record { top = refl; ten = refl }) no_later
        (out [] [] (λ y z. (z.0, λ u v. z.1 (omega arith) (omega arith))) B (record { top = refl; ten = refl }) no_later)
    define_tens k n x b false l m d o e =
        let here = o x.at (omega arith) (omega arith) (λ g. absurd (true≢false (sym g ∙ l)), tt) in
        let next : ℕ → Type 0 = λ y. own y × ¬ (y ≡ x.at) in
        let parts : Parts own (Only x.at) next = record { written = λ y q. subst own (sym q) here; kept = λ y z. z.0; apart = λ y z q. z.1 q } in
        let B = tens classes (defined_in x bottom) (k + 2) b m.2 d top_flags refl (λ y u v. (o y (omega arith) (omega arith) (λ g q. omega arith, tt), λ q. omega arith))
        (value_finds classes x b parts here f) (seen_fewer (λ y z. z.0) w) e in
        preceded (value_preserves plain_steps classes x b s) (keeps_noted (value_changes {own = Any} classes x b s tt))
        (fewer (λ y z. ((z.0, λ q. z.1 (omega arith) (omega arith)), λ u v. z.1 (omega arith) (omega arith))) B)

    top_tens : (k : ℕ) (t : Tree) → Num k t → below t ≡ [] → ((y : ℕ) → k ≤ y → y < k + size t → SparedBy t y → own y) → (visit_top classes t s).noted.nine ≡ None
        → Counts (Minus own k (k + size t)) before seen (walk t top) [] s (visit_top classes t s)
    unfolding visit_top visit below defines walk
    top_tens k (ident x) n d o e = tens classes bottom k (ident x) n d top_flags refl (λ y l u. o y l u tt) f w e
    top_tens k (const m q) n d o e = tens classes bottom k (const m q) n d top_flags refl (λ y l u. o y l u tt) f w e
    top_tens k (if m a b c) n d o e = tens classes bottom k (if m a b c) n d top_flags refl (λ y l u. o y l u tt) f w e
    top_tens k (letin m xs es b) n d o e = tens classes bottom k (letin m xs es b) n d top_flags refl (λ y l u. o y l u tt) f w e
    top_tens k (define m x b) n d o e = define_tens k m x b (is_lambda b) refl n d o e
    top_tens k (lambda m xs b) n d o e = tens classes bottom k (lambda m xs b) n d top_flags refl (λ y l u. o y l u tt) f w e
    top_tens k (sequence m es) n d o e = tens classes bottom k (sequence m es) n d top_flags refl (λ y l u. o y l u tt) f w e
    top_tens k (call m h es) n d o e = tens classes bottom k (call m h es) n d top_flags refl (λ y l u. o y l u tt) f w e
    top_tens k (set! m x b) n d o e = tens classes bottom k (set! m x b) n d top_flags refl (λ y l u. o y l u tt) f w e

  tops_tens : (i j : ℕ) (ts : Trees) → Spread i j ts → below_all ts ≡ [] → {before : List Use} {seen : List Mention} {bottom : List (Live Ident)} {s : State}
      → Finds (Left i j ts) bottom before top s → Seen (Left i j ts) before seen [] → (visit_tops classes ts s).noted.nine ≡ None
      → Counts Nowhere before seen (walk_all ts top) [] s (visit_tops classes ts s)
  unfolding visit_tops below_all walk
  tops_tens i j nil p d f w e = fewer (λ y z. absurd z) (nothing plain no_later w)
  tops_tens i j (cons t ts) p d {s = s} f w e =
      let k = p.0 + size t in
      let l = p.1 in
      let end = spread_end k j ts p.3 in
      let s₁ = visit_top classes t s in
      let h₀ = (layered f).one in
      let h₁ = stays (top-visited classes t s (tree_any t) h₀) h₀ in
      let e₁ = (keeps_noted (tops_visited classes ts s₁ (trees_any ts) h₁)).nine e in
      let own : (y : ℕ) → p.0 ≤ y → y < k → SparedBy t y → Left i j (cons t ts) y = λ y u v z. (omega arith, omega arith, (z, spared_before k j ts p.3 y (omega arith))) in
      let left : (y : ℕ) → Left k j ts y → Minus (Left i j (cons t ts)) p.0 k y =
      λ y z. ((omega (arith, z.0), z.1, (spared_past p.0 t p.2 y (λ c d. omega (arith, z.0)), z.2)), λ c d. omega (arith, z.0)) in
      let t-none = none_left (below t) (below_all ts) d in
      let D = top_tens f w p.0 t p.2 t-none own e₁ in
      let g = (visit_top_lem classes [] presumed f p.0 t p.2 t-none own e₁).finds in
      both D (tops_tens k j ts p.3 (none_right (below t) (below_all ts) d) (onward.fewer left g) (seen_fewer left D.met) e)

module _ (classes : List ℕ) (ts : Trees) where
  -- a fresh run over trees that fit the tables
  ten_of : Nums 0 ts → sizes ts ≤ rows_most → inner_defines ts ≡ [] → (fresh classes ts).noted.nine ≡ None → (fresh classes ts).noted.ten ≡ ten_in (events ts)
  unfolding fresh run start no_facts inner_defines events any
  ten_of n h d e =
      let us = top_level ts in
      let spread = spread_top 0 ts n in
      let entered = enter_tops classes Global {left = Left 0 (0 + sizes ts) us} 0 (0 + sizes ts) us spread (λ y l u. u) (λ y z. z.1) (λ y z. z.2) (start_finds (0 + sizes ts) (omega arith)) in
      let before = children_preserves plain_steps classes Global us (start no_facts) in
      let C = tops_tens classes 0 (0 + sizes ts) us spread d {seen = []} entered (record { unseen = λ b o. refl; said = tt }) e in
      C.ten before.ten ∙ ap (λ (k : ℕ). ten_from [] k (walk_all us top)) before.top ∙ ap (ten_from [] 0) (walk_top ts top)

pub ten_exact : TenExact
ten_exact classes rs ts a d e = ten_of classes ts a.num a.few d e
