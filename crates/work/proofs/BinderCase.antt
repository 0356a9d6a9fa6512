-- The binders' records of the captured entries, one number each.
use Prim.Native.Nat.{ℕ, ◌+◌, ◌*◌, ◌≤◌, ◌<◌}
use mathlib.Core.List.{List, [], ◌∷◌}
use mathlib.Core.Path.{◌≡◌, refl, ap, sym, ◌∙◌}
use native.Mathlib.Omega.{arith}
use lib.ListN.{length, get_or, set, drop}
use lib.Seq.{get_or-take, get_or-drop}
use Rattle.table.specs.Layout.{layout}
use Rattle.table.specs.Laws.Layout.{set-layout}
use Rattle.table.specs.Laws.Leaves.{tells_first}
use Rattle.table.specs.Region.{region}
use Rattle.table.specs.Laws.Region.{set-region, set_elsewhere}
use Rattle.semantic.specs.Rows.{no_list_entry}
use Rattle.pass.specs.Run.{list_entries_most}
use Rattle.work.specs.Coded.{put_binder}
use Rattle.work.specs.Works.{work_long, binders_first, binders_length}
use Rattle.work.specs.Laws.Works.{captured_many}
use Rattle.work.specs.Captures.{TellsBinder, StoresBinder}
use Rattle.work.proofs.Changes.{binders_changed}

module _ (w : List ℕ) (r : ℕ) (h : r < list_entries_most) where
  pub tells_binder : {b : ℕ} → b ≡ get_or w (binders_first + r) 0 → TellsBinder w r b
  tells_binder e = record {
    is = λ p s k.
        let t = region w binders_first binders_length in
        let z : r ≡ 1 * r = omega arith in
        e
        ∙ sym (get_or-drop binders_first w r 0)
        ∙ sym (get_or-take binders_length (drop binders_first w) r 0 (omega arith))
        ∙ ap (λ (j : ℕ). get_or t j 0) z
        ∙ (tells_first 1 put_binder (λ i. refl) no_list_entry t r (omega arith)).is s.facts.captured k.binders (omega (arith, captured_many k));
  }

  pub stores_binder : {b v : ℕ} → length w ≡ work_long → v ≡ b → StoresBinder w r b (set w (binders_first + r) v)
  stores_binder {b} {v} l e =
      let i : binders_first + binders_length ≤ length w = omega arith in
      let z : r ≡ 1 * r + 0 = omega arith in
      record {
        is = λ p s x q k.
            binders_changed k (set s.facts.captured r x) (set_elsewhere w binders_first binders_length i r v h)
            (set-region w binders_first binders_length i r v h
            ∙ ap (λ (m : List ℕ). set m r v) k.binders
            ∙ ap (λ (j : ℕ). set (layout put_binder s.facts.captured) j v) z
            ∙ set-layout 1 put_binder (λ i. refl) s.facts.captured r 0 v x no_list_entry (omega (arith, captured_many k)) (omega arith)
            (ap (λ (n : ℕ). n ∷ []) (q ∙ sym e)));
      }
