-- What a fresh run over a whole script leaves in the tables.
use Prim.Native.Nat.{ℕ, ◌+◌, ◌-◌, ◌≤◌, ◌<◌}
use mathlib.Core.List.{List, []}
use Rattle.std.specs.Prelude.{Bool, ◌≡◌}
use Rattle.std.proofs.Math.Bool.{true, false}
use Rattle.std.proofs.Common.{true≢false, ap, sym, ◌∙◌}
use Rattle.std.proofs.Math.Path.{refl, subst}
use native.Mathlib.Omega.{arith}
use Rattle.std.proofs.lemmas.List.{length-replicate}
use Rattle.tree.specs.Tree.{Ident, Node, Tree, Trees, ident, const, if, letin, define, lambda, sequence, call, set!, nil, cons, size, sizes, Num, Nums}
use Rattle.tree.specs.Define.{defines, below, below_all, top_level, inner_defines}
use Rattle.scope_map.specs.ScopeMap.{Live}
use Rattle.semantic.specs.Information.{NONE}
use Rattle.semantic.specs.Rows.{Row, ListEntry, no_list_entry}
use Rattle.r7rs.specs.Binding.{Use, top}
use Rattle.semantic.specs.declared.IdentifierStatus.TheVariants.{Global}
use Rattle.pass.specs.State.{Facts, State, with_context}
use Rattle.pass.specs.Read.{enter_top_level_value}
use Rattle.pass.specs.Visit.{top_flags, is_lambda, visit, enter_children, visit_top_define, visit_top, visit_tops}
use Rattle.pass.specs.Run.{rows_most, list_entries_most, no_facts, start, run, fresh}
use Rattle.pass_laws.specs.Laws.Changes.{context, keeps_noted, keeps_lengths}
use Rattle.pass_laws.specs.Laws.Moves.{by}
use Rattle.pass_laws.specs.Laws.Scopes.{Any}
use Rattle.pass_laws.specs.Laws.Names.{value_changes}
use Rattle.pass_laws.specs.Laws.Visits.{stays, top-visited, tops_visited, children_changes}
use Rattle.pass_laws.specs.Laws.Ranges.{tree_any, trees_any}
use Rattle.pass_laws.specs.Spread.{Spread}
use Rattle.pass_laws.specs.Laws.Tops.{spread_top, spread_end, spread_writes}
use Rattle.pass_laws.specs.Laws.Live.{none_left, none_right}
use Rattle.pass_laws.specs.Laws.Finds.{Finds, layered}
use Rattle.pass_laws.specs.Laws.Onward.{Parts, calmly}
use Rattle.pass_laws.specs.Laws.Onward as onward
use Rattle.pass_laws.specs.Laws.Reads.{Only}
use Rattle.pass_laws.specs.Laws.Bodies.{no_part}
use Rattle.pass_laws.specs.Laws.Globals.{defined_in, value_finds, SparedBy, spared_past, enter_tops}
use Rattle.pass_laws.specs.Laws.Forms.{Minus}
use Rattle.pass_laws.specs.Laws.Script.{Left, spared_before, visit_top_lem, start_finds}
use Rattle.pass_laws.specs.Laws.Idle.{idle_steps}
use Rattle.pass_laws.specs.Laws.Preserved.{value_preserves, children_preserves}
use Rattle.execution.proofs.Laws.Exact.Captured.{top_of}
use Rattle.execution.proofs.Laws.Exact.Tens.{presumed}
use Rattle.execution.proofs.Laws.Settled.Kept.{Kept, KeptAll, idle_grown, Leaves, closed, idle_before, idle_after, both}
use Rattle.execution.proofs.Laws.Settled.Ending.{Unnoted, unnoted, Room, room_after}
use Rattle.execution.proofs.Laws.Settled.Keeping.{keeping}

module _ (classes : List ℕ) (T : List Row) (C A : List ListEntry) where
  module _ {own : ℕ → Type 0} {bottom : List (Live Ident)} {before : List Use} {s : State} (f : Finds own bottom before top s) where
    define_keeps : (k : ℕ) (n : Node) (x : Ident) (b : Tree) (q : Bool) → is_lambda b ≡ q → Num k (define n x b) → defines b ≡ []
        → ((y : ℕ) → k ≤ y → y < k + size (define n x b) → SparedBy (define n x b) y → own y) → Room (size (define n x b)) s
        → Unnoted (visit_top_define classes q x b s).noted
        → Leaves T C A k (k + size (define n x b)) (size (define n x b)) s (visit_top_define classes q x b s)
        (Kept T C A (top_of s) (top_of (visit_top_define classes q x b s)) before top b)
    unfolding Num size
    define_keeps k n x b true l m d o r e =
        let s₁ = with_context x.id s in
        let B = keeping classes bottom T C A (k + 2) b m.2 d top_flags refl (λ y u v. o y (omega arith) (omega arith) (λ g q. omega arith, tt))
        (calmly no_part f (λ free. context x.id))
        (record { captured = r.captured; arguments = r.arguments; few = omega (arith, r.few) }) (record { nine = e.nine; ten = e.ten }) in
        closed k (k + size (define n x b)) (size (define n x b)) (omega arith) (omega arith) (omega arith)
        (idle_after (with_context NONE (visit classes b top_flags s₁)) (idle_before s refl B) refl (by (context NONE))) (λ q. q)
    define_keeps k n x b false l m d o r e =
        let here = o x.at (omega arith) (omega arith) (λ g. absurd (true≢false (sym g ∙ l)), tt) in
        let next : ℕ → Type 0 = λ y. own y × ¬ (y ≡ x.at) in
        let parts : Parts own (Only x.at) next = record { written = λ y q. subst own (sym q) here; kept = λ y z. z.0; apart = λ y z q. z.1 q } in
        let s₁ = enter_top_level_value classes x b s in
        let idle = value_preserves idle_steps classes x b s in
        let r₁ = room_after (size b) r (idle_grown 0 s s₁ idle) (keeps_lengths (value_changes {own = Any} classes x b s tt)) (omega arith) in
        let B = keeping classes (defined_in x bottom) T C A (k + 2) b m.2 d top_flags refl
        (λ y u v. (o y (omega arith) (omega arith) (λ g q. omega arith, tt), λ q. omega arith))
        (value_finds classes x b parts here f) r₁ e in
        closed k (k + size (define n x b)) (size (define n x b)) (omega arith) (omega arith) (omega arith) (idle_before s idle B)
        (λ q. subst (λ (a : ℕ). Kept T C A a (top_of (visit classes b top_flags s₁)) before top b) (ap (λ (g : Facts). g.captured_top) idle) q)

    top_keeps : (k : ℕ) (t : Tree) → Num k t → below t ≡ [] → ((y : ℕ) → k ≤ y → y < k + size t → SparedBy t y → own y) → Room (size t) s
        → Unnoted (visit_top classes t s).noted
        → Leaves T C A k (k + size t) (size t) s (visit_top classes t s) (Kept T C A (top_of s) (top_of (visit_top classes t s)) before top t)
    unfolding visit_top visit below defines Kept
    top_keeps k (ident x) n d o r e = keeping classes bottom T C A k (ident x) n d top_flags refl (λ y l u. o y l u tt) f r e
    top_keeps k (const m q) n d o r e = keeping classes bottom T C A k (const m q) n d top_flags refl (λ y l u. o y l u tt) f r e
    top_keeps k (if m a b c) n d o r e = keeping classes bottom T C A k (if m a b c) n d top_flags refl (λ y l u. o y l u tt) f r e
    top_keeps k (letin m xs es b) n d o r e = keeping classes bottom T C A k (letin m xs es b) n d top_flags refl (λ y l u. o y l u tt) f r e
    top_keeps k (define m x b) n d o r e = define_keeps k m x b (is_lambda b) refl n d o r e
    top_keeps k (lambda m xs b) n d o r e = keeping classes bottom T C A k (lambda m xs b) n d top_flags refl (λ y l u. o y l u tt) f r e
    top_keeps k (sequence m es) n d o r e = keeping classes bottom T C A k (sequence m es) n d top_flags refl (λ y l u. o y l u tt) f r e
    top_keeps k (call m h es) n d o r e = keeping classes bottom T C A k (call m h es) n d top_flags refl (λ y l u. o y l u tt) f r e
    top_keeps k (set! m x b) n d o r e = keeping classes bottom T C A k (set! m x b) n d top_flags refl (λ y l u. o y l u tt) f r e

  tops_keep : (i j : ℕ) (ts : Trees) → Spread i j ts → below_all ts ≡ [] → {before : List Use} {bottom : List (Live Ident)} {s : State}
      → Finds (Left i j ts) bottom before top s
      → Room (j - i) s → Unnoted (visit_tops classes ts s).noted
      → Leaves T C A i j (j - i) s (visit_tops classes ts s) (KeptAll T C A (top_of s) (top_of (visit_tops classes ts s)) before top ts)
  unfolding visit_tops below_all Kept
  tops_keep i j nil p d {s = s} f r e = let w = idle_grown (j - i) s s refl in record { grown = w; kept = λ q. w.top }
  tops_keep i j (cons t ts) p d {before} {s = s} f r e =
      let k = p.0 + size t in
      let l = p.1 in
      let end = spread_end k j ts p.3 in
      let s₁ = visit_top classes t s in
      let h₀ = (layered f).one in
      let v₁ = top-visited classes t s (tree_any t) h₀ in
      let h₁ = stays v₁ h₀ in
      let e₁ = unnoted (keeps_noted (tops_visited classes ts s₁ (trees_any ts) h₁)) e in
      let own : (y : ℕ) → p.0 ≤ y → y < k → SparedBy t y → Left i j (cons t ts) y = λ y u v z.
      (omega arith, omega arith, (z, spared_before k j ts p.3 y (omega arith))) in
      let left : (y : ℕ) → Left k j ts y → Minus (Left i j (cons t ts)) p.0 k y =
      λ y z. ((omega (arith, z.0), z.1, (spared_past p.0 t p.2 y (λ c d. omega (arith, z.0)), z.2)), λ c d. omega (arith, z.0)) in
      let t-none = none_left (below t) (below_all ts) d in
      let X = top_keeps f p.0 t p.2 t-none own (record { captured = r.captured; arguments = r.arguments; few = omega (arith, r.few) }) e₁ in
      let g = (visit_top_lem classes [] presumed f p.0 t p.2 t-none own e₁.nine).finds in
      let r₁ = room_after (j - k) r X.grown (keeps_lengths v₁) (omega arith) in
      let Y = tops_keep k j ts p.3 (none_right (below t) (below_all ts) d) (onward.fewer left g) r₁ e in
      closed i j (j - i) (omega arith) (omega arith) (omega arith)
      (both p.0 j (omega arith) (omega arith) (omega arith) (omega arith) X (by (tops_visited classes ts s₁
      (spread_writes _ k j ts p.3 (λ x l u y z. omega arith)) h₁)) Y)
      (λ q. (top_of s₁, X.grown.top, Y.grown.top, q.0, q.1))

-- a fresh run over trees that fit the tables, with no refusal noted
pub fresh_kept : (classes : List ℕ) (ts : Trees) → Nums 0 ts → sizes ts ≤ rows_most → inner_defines ts ≡ [] → Unnoted (fresh classes ts).noted
    → let F = (fresh classes ts).facts in KeptAll F.rows F.captured F.arguments 0 F.captured_top [] top (top_level ts)
unfolding fresh run start no_facts inner_defines
fresh_kept classes ts n h d e =
    let us = top_level ts in
    let F = (fresh classes ts).facts in
    let spread = spread_top 0 ts n in
    let entered = enter_tops classes Global {left = Left 0 (0 + sizes ts) us} 0 (0 + sizes ts) us spread (λ y l u. u) (λ y z. z.1) (λ y z. z.2)
    (start_finds (0 + sizes ts) (omega arith)) in
    let s₀ = start no_facts in
    let s₁ = enter_children classes Global us s₀ in
    let idle = children_preserves idle_steps classes Global us s₀ in
    let room : Room (0 + sizes ts) s₀ = record {
      captured = length-replicate list_entries_most no_list_entry;
      arguments = length-replicate list_entries_most no_list_entry;
      few = omega arith;
    } in
    let r₁ = room_after (0 + sizes ts - 0) room (idle_grown 0 s₀ s₁ idle) (keeps_lengths (children_changes {own = Any} classes Global us s₀ (trees_any us))) (omega arith)
    in
    let X = tops_keep classes F.rows F.captured F.arguments 0 (0 + sizes ts) us spread d entered r₁ e in
    subst (λ (a : ℕ). KeptAll F.rows F.captured F.arguments a F.captured_top [] top us) (ap (λ (g : Facts). g.captured_top) idle)
    (X.kept (record { rows = record { at = λ x l u. refl }; captured = λ r l. refl; arguments = λ r l. refl }))
