-- Demand 2, tail position: the claims hold.
use Rattle.std.specs.Prelude.{ℕ, ◌≤◌, List, [], ◌∷◌, Bool, true, false, ◌≡◌, length, get_or, eqb}
use Rattle.std.proofs.Math.Bool.{true≢false}
use Rattle.std.proofs.Math.Path.{refl, ap}
use Rattle.std.proofs.Common.{sym, ◌∙◌, arith, eqb-true}
use Rattle.std.proofs.Math.ListN.{length-replicate}
use Rattle.tree.specs.Tree.{Trees, sizes, Nums}
use Rattle.tree.specs.Core.{is_constant}
use Rattle.tree.specs.Define.{top_level}
use Rattle.tree.specs.Accepted.{All}
use Rattle.semantic.specs.Rows.{Row, Blank}
use Rattle.semantic.specs.Kinds.{is_call_site, is_tail_row}
use Rattle.r7rs.specs.Tail.{Call, calls_in, has_fact}
use Rattle.pass.specs.State.{Facts}
use Rattle.pass.specs.Run.{rows_most, no_facts, start, run, fresh, settled}
use Rattle.pass_laws.specs.Laws.All.{all_map}
use Rattle.pass_laws.specs.Laws.Rows.{blank-rows}
use Rattle.pass_laws.specs.Laws.Changes.{keeps_lengths}
use Rattle.pass_laws.specs.Laws.Visits.{run_changes}
use Rattle.pass_laws.specs.Laws.Tops.{calls_top}
use Rattle.pass_laws.specs.Laws.Keeps.{ran}
use Rattle.pass_laws.specs.Laws.Calls.{Marked, marks-run}
use Rattle.pass_laws.specs.Laws.Sites.{keeps_sites, Site, trees_sites, all_sited}
use Rattle.execution.specs.Claims.{TailFresh, TailSettled}
use Rattle.execution.specs.Calls.{CallsRecorded}

-- the calls' facts stand in T
marked : (T : List Row) (i : ℕ) (l : List Call) → All (Marked T) l → has_fact i l ≡ true → is_call_site (get_or T i Blank) ≡ true
unfolding has_fact
marked T i [] m e = absurd (true≢false (sym e))
marked T i (c ∷ l) m e = go (eqb c.at i) refl (is_constant c.head) refl (marked T i l m.1)
  where
    go : (b : Bool) → eqb c.at i ≡ b → (k : Bool) → is_constant c.head ≡ k → (has_fact i l ≡ true → is_call_site (get_or T i Blank) ≡ true)
        → is_call_site (get_or T i Blank) ≡ true
    go true p false q f = rw (← eqb-true c.at i p) (ap is_call_site (m.0 q).is)
    go true p true q f = f (rw (p, q) at e)
    go false p k q f = f (rw p at e)

-- and no other does
record Exact (T : List Row) (ts : Trees) : Type 0 where
  marks : All (Marked T) (calls_in ts)
  others : (i : ℕ) → has_fact i (calls_in ts) ≡ false → is_call_site (get_or T i Blank) ≡ false

recorded : (T : List Row) (ts : Trees) → Exact T ts → CallsRecorded T ts
recorded T ts x = record {
  fact = λ i. by_test i (has_fact i (calls_in ts)) refl;
  tail = all_map (Marked T) _ (λ c m e. let s = m e in ap is_tail_row s.is ∙ s.tail) (calls_in ts) x.marks;
}
  where
    by_test : (i : ℕ) (b : Bool) → has_fact i (calls_in ts) ≡ b → is_call_site (get_or T i Blank) ≡ has_fact i (calls_in ts)
    by_test i true e = marked T i (calls_in ts) x.marks e ∙ sym e
    by_test i false e = x.others i e ∙ sym e

module _ (classes : List ℕ) (ts : Trees) (n : Nums 0 ts) (h : sizes ts ≤ rows_most) where
  exact : (f : Facts) → length f.rows ≡ rows_most → ((i : ℕ) → has_fact i (calls_in ts) ≡ false → is_call_site (get_or f.rows i Blank) ≡ false)
      → Exact (run classes ts f).facts.rows ts
  unfolding start
  exact f l u =
      let w = trees_sites (Site (calls_in ts)) (top_level ts) (rw calls_top (all_sited (calls_in ts))) in
      record {
        marks = marks-run classes rows_most (run classes ts f).facts.rows ts n f h (omega arith) (record { at = λ x y z. refl });
        others = λ i e. keeps_sites (run_changes classes ts f w) i (λ s. true≢false (sym s ∙ e)) (u i e);
      }

  exact_fresh : Exact (fresh classes ts).facts.rows ts
  unfolding fresh no_facts
  exact_fresh = exact no_facts (length-replicate rows_most Blank) (λ i e. ap is_call_site (blank-rows rows_most i))

  exact_settled : Exact (settled classes ts).facts.rows ts
  unfolding settled fresh no_facts start
  exact_settled = exact (fresh classes ts).facts ((keeps_lengths (ran classes ts no_facts)).rows ∙ length-replicate rows_most Blank) exact_fresh.others

pub tail_fresh : TailFresh
tail_fresh classes rs ts a = recorded _ ts (exact_fresh classes ts a.accepted.num a.accepted.few)

pub tail_settled : TailSettled
tail_settled classes rs ts a = recorded _ ts (exact_settled classes ts a.accepted.num a.accepted.few)
