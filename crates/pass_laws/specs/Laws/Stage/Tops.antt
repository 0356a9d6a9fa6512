-- The trees at top level, one after another.
use Rattle.std.specs.Prelude.{ℕ, ◌+◌, ◌≤◌, List, length}
use Rattle.std.proofs.Math.Path.{refl}
use Rattle.std.proofs.Common.{arith}
use Rattle.tree.specs.Tree.{Tree, Trees, nil, cons, size, sizes, Num}
use Rattle.tree.proofs.Laws.Tree.{size_pos}
use Rattle.semantic.specs.Information.{NONE}
use Rattle.semantic.specs.Rows.{Row}
use Rattle.semantic.specs.declared.IdentifierStatus.TheVariants.{Global}
use Rattle.pass.specs.State.{State}
use Rattle.pass.specs.Visit.{top_flags, enter_child, enter_children, visit_top, visit_tops}
use Rattle.pass_laws.specs.Stage.{Blocks, BlocksAllIn, due, entering, enterings, Layered, FunctionWithin, LetWithin, MadeAll, Stage, StageTops}
use Rattle.pass_laws.specs.Laws.Changes.{keeps_lengths}
use Rattle.pass_laws.specs.Laws.Moves.{by}
use Rattle.pass_laws.specs.Laws.Visits.{children_changes, top-visited, tops_visited}
use Rattle.pass_laws.specs.Laws.Ranges.{tree_writes, tree_any}
use Rattle.pass_laws.specs.Laws.Keeps.{Off}
use Rattle.pass_laws.specs.Spread.{Spread}
use Rattle.pass_laws.specs.Laws.Tops.{spread_end, spread_writes}
use Rattle.pass_laws.specs.Laws.Cases.{by_child}
use Rattle.pass_laws.specs.Laws.Stage.Lists.{Lasting}
use Rattle.pass_laws.specs.Laws.Stage.Still.{Stored, as_full, stored-then}
use Rattle.pass_laws.specs.Laws.Stage.Arguments.{entered-one, entered_few, Grown, ◌⟫◌, at_most, none-due, define-due}
use Rattle.pass_laws.specs.Laws.Stage.Captures.{next}
use Rattle.pass_laws.specs.Laws.Stage.Filled.{Filled, ◌⟫◌ as ◌then◌, stored_filled}
use Rattle.pass_laws.specs.Laws.Stage.Blocks.{Kind, changes_lasting, blank, blocks_last}
use Rattle.pass_laws.specs.Laws.Stage.Children.{named_other, named_blocks, child_named}
use Rattle.pass_laws.specs.Laws.Stage.Second.{made}
use Rattle.pass_laws.specs.Laws.Stage.Ends.{Ends}
use Rattle.pass_laws.specs.Laws.Stage.Makes.{Hence, hence_of, hence_before}
use Rattle.pass_laws.specs.Laws.Stage.Top.{top_laws, top_makes}
use Rattle.pass_laws.specs.Laws.Stage.Onward.{lasting_of, here, onward}

pub spread_sizes : (i j : ℕ) (ts : Trees) → Spread i j ts → i + sizes ts ≤ j
unfolding size
spread_sizes i j nil p = omega (arith, p)
spread_sizes i j (cons t ts) p = omega (arith, p.1, spread_sizes (p.0 + size t) j ts p.3)

module _ {F L : Row → Type 0} (kind : Kind F L) where
  pub spread_last : (i j : ℕ) (ts : Trees) → Spread i j ts → {s u : State} → Lasting i j s u → BlocksAllIn F L s ts → BlocksAllIn F L u ts
  unfolding Blocks
  spread_last i j nil p c b = tt
  spread_last i j (cons t ts) p c b =
      let g = p.1 in
      let e = spread_end (p.0 + size t) j ts p.3 in (
        blocks_last kind p.0 t p.2 (lasting_of c (omega arith) (omega arith)) b.0,
        spread_last (p.0 + size t) j ts p.3 (lasting_of c (omega arith) (omega arith)) b.1,
      )

  module _ (classes : List ℕ) where
    pub tops_blocks : (i j : ℕ) (ts : Trees) → Spread i j ts → (s : State) → BlocksAllIn F L s ts → BlocksAllIn F L (enter_children classes Global ts s) ts
    unfolding enter_children Blocks
    tops_blocks i j nil p s b = tt
    tops_blocks i j (cons t ts) p s b =
        let k = p.0 in
        let u = enter_child classes Global t s in
        let c = child_named classes Global t s in
        let d = children_changes classes Global ts u (spread_writes (Off k (k + size t)) (k + size t) j ts p.3 (λ x l h y z. omega arith)) in (
          blocks_last kind k t p.2 (changes_lasting d (λ x l h o. o l h)) (named_blocks kind k t p.2 c b.0),
          tops_blocks (k + size t) j ts p.3 u
              (spread_last (k + size t) j ts p.3 (named_other k t p.2 c (k + size t) j (λ x l h y z. omega arith)) b.1),
        )

-- From s to the end u of their visits
pub record Ran (i j : ℕ) (ts : Trees) (s u : State) : Type 0 where
  pub spared : due u + enterings ts ≤ due s + sizes ts
  pub filled : Filled s u
  pub stored : MadeAll s ts → Stored s u

module _ (classes : List ℕ) where
  -- Names that enter first

  top-due : (t : Tree) (s : State) → Grown (entering t) s (enter_child classes Global t s)
  top-due =
      by_child classes (λ u g. (s : State) → Grown (entering u) s (g s)) Global (λ u s. at_most (omega arith) (none-due s))
      (λ n x b e s. rw e (define-due classes Global NONE x b s))

  pub tops_due : (ts : Trees) (s : State) → Grown (enterings ts) s (enter_children classes Global ts s)
  unfolding enter_children
  tops_due nil s = none-due s
  tops_due (cons t ts) s = top-due t s ⟫ tops_due ts _

  -- The stage of the first, and of those after it

  top-next : (t : Tree) (s : State) → Layered s → (k : ℕ) → Num k t → Layered (visit_top classes t s)
  top-next t s h k n = next h (top-visited classes t s (tree_any t) h.scope) (top_laws classes k t n s h).stacked

  -- the records after it
  after-top : (t : Tree) (s : State) → Layered s → (k : ℕ) → Num k t → (m j : ℕ) → k + size t ≤ m → Lasting m j s (visit_top classes t s)
  after-top t s h k n m j g =
      changes_lasting (top-visited classes t s (tree_writes (Off m j) k t n (λ x l u y z. omega arith)) h.scope) (λ x l u o. o l u)

  pub first-top : (i j : ℕ) (t : Tree) (ts : Trees) (p : Spread i j (cons t ts)) (s : State) → StageTops i j (cons t ts) s → Stage p.0 t top_flags s
  unfolding size Blocks
  first-top i j t ts p s w =
      let g = p.1 in
      let e = spread_end (p.0 + size t) j ts p.3 in
      here w (omega arith) (omega arith) (omega (arith, entered_few ts, entered-one t)) (λ u. u.0) (λ v. v.0)

  pub next_tops : (i j : ℕ) (t : Tree) (ts : Trees) (p : Spread i j (cons t ts)) (s : State) → StageTops i j (cons t ts) s
      → StageTops (p.0 + size t) j ts (visit_top classes t s)
  unfolding size Blocks
  next_tops i j t ts p s w =
      let k = p.0 in
      let g = p.1 in
      let e = spread_end (k + size t) j ts p.3 in
      let h = w.layered in
      let q = top_laws classes k t p.2 s h in
      let c = after-top t s h k p.2 (k + size t) j (omega arith) in
      let o = changes_lasting (top-visited classes t s (tree_writes (Off 0 i) k t p.2 (λ x l u y z. omega arith)) h.scope) (λ x l u o. o l u) in
      onward w (omega arith) (omega arith) (top-next t s h k p.2) q.stacked o
      (λ u. spread_last blank (k + size t) j ts p.3 c u.1) (λ v. spread_last made (k + size t) j ts p.3 c v.1)
      (λ v. q.stored v.0) (omega (arith, q.spared, entered_few ts, entered-one t, size_pos t))
      (λ z. omega (arith, q.top (omega (arith, entered_few ts, entered-one t))))

  -- All of them

  pub tops_ran : (i j : ℕ) (ts : Trees) → Spread i j ts → (s : State) → Layered s → Ran i j ts s (visit_tops classes ts s)
  unfolding visit_tops size Blocks
  tops_ran i j nil p s h = record { spared = omega arith; filled = stored_filled (as_full refl refl refl refl); stored = λ v. as_full refl refl refl refl }
  tops_ran i j (cons t ts) p s h =
      let k = p.0 in
      let g = p.1 in
      let m = k + size t in
      let e = spread_end m j ts p.3 in
      let u = visit_top classes t s in
      let y = top_laws classes k t p.2 s h in
      let f = top-next t s h k p.2 in
      let z = tops_ran m j ts p.3 u f in
      let c = after-top t s h k p.2 m j (omega arith) in
      record {
        spared = omega (arith, y.spared, z.spared);
        filled = y.filled then z.filled;
        stored = λ v. stored-then (y.stored v.0) (z.stored (spread_last made m j ts p.3 c v.1));
      }

  -- what they leave of their lambdas and lets
  module _ {F L : Row → Type 0} {c a : ℕ} (ends : Ends F L c a) where
    pub tops_make : (i j : ℕ) (ts : Trees) → Spread i j ts → (s : State) → Layered s → j ≤ length s.facts.rows → BlocksAllIn F L s ts
        → (w : State) → Hence c a i j (visit_tops classes ts s) w → BlocksAllIn (FunctionWithin c a) (LetWithin a) w ts
    unfolding visit_tops Blocks
    tops_make i j nil p s h l b w q = tt
    tops_make i j (cons t ts) p s h l b w q =
        let k = p.0 in
        let g = p.1 in
        let m = k + size t in
        let e = spread_end m j ts p.3 in
        let u = visit_top classes t s in
        let f = top-next t s h k p.2 in
        let z = tops_ran m j ts p.3 u f in (
          top_makes classes ends k s h t p.2 (omega arith) b.0 w (hence_before q (omega arith) (omega arith) z.filled
              (by (tops_visited classes ts u (spread_writes (Off k m) m j ts p.3 (λ x o v y1 z1. omega arith)) f.scope))),
          tops_make m j ts p.3 u f (omega (arith, (keeps_lengths (top-visited classes t s (tree_any t) h.scope)).rows))
              (spread_last ends.kind m j ts p.3 (after-top t s h k p.2 m j (omega arith)) b.1) w (hence_of q m j (omega arith) (omega arith)),
        )
