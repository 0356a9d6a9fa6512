-- One row of a list that a second run keeps or gives up. No place of the code stands here.
use Rattle.std.specs.Prelude.{Option}
use Prim.Native.Nat.{ℕ, ◌<◌}
use mathlib.Core.List.{List, ◌∷◌}
use mathlib.Core.Bool.{Bool, true, false, cond, not, ◌||◌}
use mathlib.Core.Path.{◌≡◌, ap, sym, subst, ◌∙◌}
use native.Mathlib.Omega.{arith}
use lib.ListN.{length, set}
use lib.Dec.{eqb}
use Rattle.tree.specs.Tree.{Ident, Tree}
use Rattle.tree.specs.Check.{member}
use Rattle.pass.specs.State.{State, list_entry_at, with_captured}
use Rattle.pass.specs.Lists.{name_of, names_of, first_of, kept_list_entry}
use Rattle.work.specs.Laws.Works.{captured_many}
use Rattle.work.specs.Tied.{raw, Tied}
use Rattle.work.specs.declared.Pass.{Pass}
use Rattle.walk.specs.Marks.{is_marked, MarksName}
use Rattle.lists.specs.declared.rows.ListEntry.{ListEntry as Coded}
use Rattle.amending.specs.declared.amend.Ending.{Ending}
use Rattle.lists.specs.Contract.{ListEntryIs, LoadsListEntry, StoresListEntry}
use Rattle.lists.specs.Given.{rows_up_to}
use Rattle.amending.specs.Counts.{now_of, CountsUsed}
use Rattle.amending.specs.Kept.{Marks, StandsBefore, IndexHeld, KeepsListEntry, is_kept, kept_after, KeepHeld, Right, Seen, KeepsRow}

module _ {rs : List ℕ} {d : Ending} {p : Pass} {index : List (Option ℕ)} {first to r : ℕ} {C w : List ℕ} (h : KeepHeld rs d p index first to r C w) where
  pub keep_small : {x : Coded} {n : ℕ} → LoadsListEntry C w r x → n ≡ x.binder → n < 4294967296
  keep_small l e = omega (arith, (l.is _ _ _ _ h.held.tied).binder, (h.held.good.sound.list_entries r).1)

  pub keep_index : IndexHeld rs d.lambda.names p w index
  keep_index = record {
    xs = h.ended.lambda.xs;
    told = h.ended.lambda.names;
    s = h.held.s;
    works = h.held.tied.works;
    good = h.held.good;
    indexes = h.indexes;
  }

module _ {rs : List ℕ} {d : Ending} {p : Pass} {r : ℕ} {C w : List ℕ} {x : Coded} {counts : List ℕ} {n : ℕ} {k : Bool}
    (l : LoadsListEntry C w r x) (c : CountsUsed rs d p w counts x.name n) (q : k ≡ (d.holds || not (eqb n 0))) where
  told : {index : List (Option ℕ)} {F A : List ℕ} (s : State) (xs : List Ident) (b : Tree) → Right rs d index counts xs b s → Tied (raw p F C A w) s
      → k ≡ is_kept d.holds (now_of xs b s) (name_of (list_entry_at s r))
  told s xs b h t =
      q
      ∙ ap (λ (j : ℕ). d.holds || not (eqb j 0)) (c.is xs b s h.told h.body h.good t.works h.counted)
      ∙ ap (λ (z : ℕ). is_kept d.holds (now_of xs b s) z) (l.is _ _ _ _ t).name

  pub row_gone : {index : List (Option ℕ)} {m : List ℕ} {first to : ℕ} → k ≡ false → KeepsRow rs d p index counts m first to r C w false m C w
  row_gone {index} {m} {first} {to} e = record {
    is = λ F A s xs b h y t.
        let kept : false ≡ is_kept d.holds (now_of xs b s) (name_of (list_entry_at s r)) = sym e ∙ told s xs b h t in
        let names = names_of (rows_up_to first to s.facts.captured) in
        record {
          tied = subst
              (λ (v : Bool). Tied (raw p F C A w) (with_captured (cond v
              (set s.facts.captured to (kept_after (now_of xs b s) s.captures (rows_up_to first to s.facts.captured) (list_entry_at s r))) s.facts.captured) s))
              kept t;
          kept = kept;
          seen = subst (λ (v : Bool). Marks m (cond v (name_of (list_entry_at s r) ∷ names) names)) kept y;
        };
  }

  module _ {index : List (Option ℕ)} {m : List ℕ} {first to : ℕ} (e : k ≡ true) {before : Bool} (f : StandsBefore C first to m x.name before)
      {v : Coded} (i : KeepsListEntry rs d.lambda.names p w index n before x v) {C' w' : List ℕ} (u : StoresListEntry C w to v C' w')
      {y : ℕ} (ey : y ≡ x.name) {m' : List ℕ} (g : MarksName m y m') (long : length m' ≡ length m)
    where
      -- the entry as it is kept after the rows before it
      list_entry : {F A : List ℕ} (s : State) (xs : List Ident) (b : Tree) → Right rs d index counts xs b s → Seen m first to s → Tied (raw p F C A w) s
          → ListEntryIs v (kept_after (now_of xs b s) s.captures (rows_up_to first to s.facts.captured) (list_entry_at s r))
      list_entry s xs b h z t =
          let j = list_entry_at s r in
          let now = now_of xs b s in
          let names = names_of (rows_up_to first to s.facts.captured) in
          let same : before ≡ member (name_of j) names =
          f.is s.facts.captured t.captured (captured_many t.works) z ∙ ap (λ (a : ℕ). member a names) (l.is _ _ _ _ t).name in
          subst (λ (a : Bool). ListEntryIs v (cond a j (kept_list_entry now s.captures (first_of (name_of j) now) j))) same
          (i.is xs b s j h.told h.good t.works h.indexes (c.is xs b s h.told h.body h.good t.works h.counted)
          (l.is _ _ _ _ t))

      pub row_kept : KeepsRow rs d p index counts m first to r C w true m' C' w'
      row_kept = record {
        is = λ F A s xs b h o t.
            let kept : true ≡ is_kept d.holds (now_of xs b s) (name_of (list_entry_at s r)) = sym e ∙ told s xs b h t in
            let names = names_of (rows_up_to first to s.facts.captured) in
            record {
              tied = subst
                  (λ (q : Bool). Tied (raw p F C' A w') (with_captured (cond q
                  (set s.facts.captured to (kept_after (now_of xs b s) s.captures (rows_up_to first to s.facts.captured) (list_entry_at s r))) s.facts.captured) s))
                  kept (u.is p F A s _ (list_entry s xs b h o t) t);
              kept = kept;
              seen = λ a q.
                  g.is a (omega arith)
                  ∙ ap (λ (j : ℕ). eqb a j || is_marked m a) (ey ∙ (l.is _ _ _ _ t).name)
                  ∙ ap (λ (j : Bool). eqb a (name_of (list_entry_at s r)) || j) (o a (omega arith))
                  ∙ ap (λ (j : Bool). member a (cond j (name_of (list_entry_at s r) ∷ names) names)) kept;
            };
      }
