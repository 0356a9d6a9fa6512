-- The rows of a settled run tell what is to be told, along the whole walk.
use Rattle.std.specs.Prelude.{ℕ, ◌+◌, ◌≤◌, ◌<◌, ◌≡◌, None}
use mathlib.Core.List.{List, [], ◌++◌, append-nil}
use Rattle.std.proofs.Math.Path.{refl, ap, sym, subst}
use Rattle.std.proofs.Common.{◌∙◌, arith}
use Rattle.std.proofs.Math.ListN.{length, get_or, length-replicate}
use Rattle.tree.specs.Tree.{Node, Tree, Trees, ident, const, if, letin, define, lambda, sequence, call, set!, nil, cons, sizes, Nums, begins, ands, whens}
use Rattle.tree.specs.Define.{◌⊕◌, top_of, top_level, inner_defines}
use Rattle.scope_map.specs.ScopeMap.{get_in}
use Rattle.semantic.specs.Rows.{Blank, no_list_entry}
use Rattle.r7rs.specs.Binding.{Place, Use, Event, top, walk, walk_all, events}
use Rattle.tree.specs.Core.{core, cores}
use Rattle.tree.proofs.Laws.Core.{to_core}
use Rattle.semantic.specs.declared.IdentifierStatus.TheVariants.{Global}
use Rattle.pass.specs.State.{Facts, Capture, no_entry}
use Rattle.pass.specs.Visit.{enter_children}
use Rattle.pass.specs.Run.{rows_most, list_entries_most, no_facts, start, run, fresh, settled}
use Rattle.pass_laws.specs.Laws.Changes.{keeps_lengths}
use Rattle.pass_laws.specs.Laws.Keeps.{ran}
use Rattle.pass_laws.specs.Laws.Tops.{spread_top}
use Rattle.pass_laws.specs.Laws.Says.{uses_in, uses-then}
use Rattle.pass_laws.specs.Laws.Globals.{entered_all}
use Rattle.pass_laws.specs.Laws.Presumed.{any_uses}
use Rattle.pass_laws.specs.Laws.Script.{Left, fresh_script, walk_top, walk_core, walk_cores}
use Rattle.pass_laws.specs.Laws.Bottoms.{cell, script_cells}
use Rattle.pass_laws.specs.Laws.Idle.{idle_steps}
use Rattle.pass_laws.specs.Laws.Preserved.{children_preserves}
use Rattle.execution.proofs.Laws.Exact.Nine.{run_nine}
use Rattle.execution.proofs.Laws.Settled.Script.{fresh_kept}
use Rattle.execution.proofs.Laws.Settled.Ending.{Unnoted}
use Rattle.execution.proofs.Laws.Settled.Again.{Script}
use Rattle.execution.proofs.Laws.Settled.Told.{TellsAll}
use Rattle.execution.proofs.Laws.Settled.Bounded.{Bounded, BoundedAll}
use Rattle.execution.proofs.Laws.Settled.Bounds.{BoundsAll, bounds_all, all_uses, by_end}
use Rattle.execution.proofs.Laws.Settled.Unsaid.{unsaid_steps}
use Rattle.execution.proofs.Laws.Settled.Refused.{second_by}
use Rattle.execution.proofs.Laws.Settled.Rescript.{AgainTop, Toplevel, tops_enter-again, tops_again, tops_tell}

-- What stands at top level is what the trees hold

module _ (U : List Use) (G : ℕ → List Use) where
  bounded_⊕ : (before : List Use) (p : Place) (ts us : Trees) → BoundedAll U G before p ts → BoundedAll U G (before ++ uses_in (walk_all ts p)) p us
      → BoundedAll U G before p (ts ⊕ us)
  unfolding ◌⊕◌ Bounded walk
  bounded_⊕ before p nil us a b = rw (append-nil before) at b
  bounded_⊕ before p (cons t ts) us a b = (
    a.0,
    bounded_⊕ (before ++ uses_in (walk t p)) p ts us a.1 (subst (λ (u : List Use). BoundedAll U G u p us)
        (sym (uses-then before (walk t p) (walk_all ts p))) b),
  )

  one : (before : List Use) (p : Place) (t : Tree) (us : Trees) → Bounded U G before p t → BoundedAll U G (before ++ uses_in (walk t p)) p us
      → BoundedAll U G before p (cons t nil ⊕ us)
  unfolding ◌⊕◌ Bounded walk
  one before p t us a b = (a, b)

  -- of a tree, for what it is
  bounded_core : (before : List Use) (p : Place) (t : Tree) → Bounded U G before p t → Bounded U G before p (core t)
  unfolding Bounded
  bounded_core before p t a = to_core (Bounded U G before p) (λ n a. tt) (λ n u a. a.0) t a

  bounded_cores : (before : List Use) (p : Place) (ts : Trees) → BoundedAll U G before p ts → BoundedAll U G before p (cores ts)
  unfolding Bounded
  bounded_cores before p nil a = tt
  bounded_cores before p (cons t ts) a = (
    bounded_core before p t a.0,
    bounded_cores (before ++ uses_in (walk (core t) p)) p ts (subst (λ (l : List Event). BoundedAll U G (before ++ uses_in l) p ts) (sym (walk_core t p)) a.1),
  )

  -- a top-level begin's children
  inside : (before : List Use) (p : Place) (n : Node) (es us : Trees) → Bounded U G before p (sequence (begins n) es)
      → BoundedAll U G (before ++ uses_in (walk (sequence (begins n) es) p)) p us
      → BoundedAll U G before p (cores es ⊕ us)
  unfolding Bounded walk
  inside before p n es us a b =
      bounded_⊕ before p (cores es) us (bounded_cores before p es a)
      (subst (λ (l : List Event). BoundedAll U G (before ++ uses_in l) p us) (sym (walk_cores es p)) b)

  bounded_of : (before : List Use) (p : Place) (t : Tree) (us : Trees) → Bounded U G before p t → BoundedAll U G (before ++ uses_in (walk t p)) p us
      → BoundedAll U G before p (top_of t ⊕ us)
  unfolding top_of
  bounded_of before p (ident x) us a b = one before p (ident x) us a b
  bounded_of before p (const n q) us a b = one before p (const n q) us a b
  bounded_of before p (if n c d e) us a b = one before p (if n c d e) us a b
  bounded_of before p (letin n xs es c) us a b = one before p (letin n xs es c) us a b
  bounded_of before p (define n x c) us a b = one before p (define n x c) us a b
  bounded_of before p (lambda n xs c) us a b = one before p (lambda n xs c) us a b
  bounded_of before p (sequence (begins n) es) us a b = inside before p n es us a b
  bounded_of before p (sequence (ands n) es) us a b = one before p (sequence (ands n) es) us a b
  bounded_of before p (sequence (whens q n) es) us a b = one before p (sequence (whens q n) es) us a b
  bounded_of before p (call n h es) us a b = one before p (call n h es) us a b
  bounded_of before p (set! n x e) us a b = one before p (set! n x e) us a b

  bounded_top : (before : List Use) (p : Place) (ts : Trees) → BoundedAll U G before p ts → BoundedAll U G before p (top_level ts)
  unfolding top_level Bounded
  bounded_top before p nil b = tt
  bounded_top before p (cons t ts) b =
      bounded_of before p (core t) (top_level ts) (bounded_core before p t b.0)
      (subst (λ (l : List Event). BoundedAll U G (before ++ uses_in l) p (top_level ts)) (sym (walk_core t p)) (bounded_top (before ++ uses_in (walk t p)) p ts b.1))

-- The script of a first run

abbrev pub script_of : List ℕ → Trees → Script
script_of classes ts =
    let F = (fresh classes ts).facts in
    record { T = F.rows; C = F.captured; A = F.arguments; U = all_uses (events ts); G = by_end (events ts) }

module _ (ts : Trees) (n : Nums 0 ts) where
  pub script_bounds : BoundsAll (events ts) [] top ts
  unfolding events
  script_bounds =
      bounds_all (events ts) 0 ts n top (record { scope = tt; around = λ k l u. refl }) tt [] [] [] refl
      (record { is = sym (append-nil (walk_all ts top)); before = tt; after = tt }) tt

module _ (classes : List ℕ) (ts : Trees) (n : Nums 0 ts) (few : sizes ts ≤ rows_most) (plain : inner_defines ts ≡ [])
    (unnoted : Unnoted (fresh classes ts).noted) where
  abbrev S : Script
  S = script_of classes ts

  abbrev F : Facts
  F = (fresh classes ts).facts

  start-again : AgainTop S (λ y. y < 0 + sizes ts) [] (start F)
  unfolding start fresh get_in no_facts
  start-again =
      let lengths = keeps_lengths (ran classes ts no_facts) in
      record {
        tables = record {
          rows = λ y l. omega (arith, lengths.rows, rows_most_lem);
          keys = λ y l. refl;
          entries = λ y l. omega (arith, length-replicate rows_most no_entry);
          globals = tt;
          long = lengths.captured ∙ length-replicate list_entries_most no_list_entry;
        };
        arguments = refl;
        inside = tt;
        captures = record {
          top = [];
          one = omega arith;
          depth = refl;
          live = refl;
          layer = tt;
          below = tt;
          caught = λ x. none_found x;
          mutated = tt;
          offsets = tt;
        };
        one = omega arith;
        live = refl;
        around = tt;
        stands = tt;
      }
    where
      rows_most_lem : length (start no_facts).facts.rows ≡ rows_most
      rows_most_lem = length-replicate rows_most Blank

      none_found : (x : ℕ) → get_in {A = Capture} [] x ≡ None
      none_found x = refl

  settled_nine : (settled classes ts).noted.nine ≡ None
  unfolding settled fresh
  settled_nine = run_nine classes ts F plain ∙ sym (run_nine classes ts no_facts plain) ∙ unnoted.nine

  -- the second run over the top level
  toplevel : Toplevel classes S (settled classes ts).facts.rows (entered_all (top_level ts) []) (top_level ts) (enter_children classes Global (top_level ts) (start F))
      (settled classes ts)
  unfolding settled run start inner_defines
  toplevel =
      let us = top_level ts in
      let s₀ = start F in
      let spread = spread_top 0 ts n in
      let entered = tops_enter-again classes Global S {left = Left 0 (0 + sizes ts) us} 0 (0 + sizes ts) us spread (λ y l u. u) (λ y z. z.1) (λ y z. z.2)
      start-again in
      tops_again classes S 0 (0 + sizes ts) us spread plain (entered_all us []) (enter_children classes Global us s₀) 0 F.captured_top []
      (fresh_kept classes ts n few plain unnoted)
      (bounded_top S.U S.G [] top ts (script_bounds ts n).bounded) (fresh_script classes any_uses ts n few plain unnoted.nine).says entered
      (record { at = λ r l u. ap (λ (g : Facts). get_or g.captured r no_list_entry) (children_preserves idle_steps classes Global us s₀) }) settled_nine (settled classes ts).facts.rows
      (record { at = λ x l u. refl })

  pub settled_tells : TellsAll classes S (settled classes ts).facts.rows (cell ts) (events ts)
  unfolding events
  settled_tells =
      let us = top_level ts in
      let R = (settled classes ts).facts.rows in
      subst (TellsAll classes S R (cell ts)) (walk_top ts top) (tops_tell classes S ts R us (entered_all us []) (script_cells ts n) toplevel.tells)

  pub settled_second : (settled classes ts).noted.second ≡ second_by S (events ts)
  unfolding events start
  settled_second = toplevel.second (children_preserves unsaid_steps classes Global (top_level ts) (start F)) ∙ ap (second_by S) (walk_top ts top)
