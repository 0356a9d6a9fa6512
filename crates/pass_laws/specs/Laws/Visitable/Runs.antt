-- Both runs, of trees with few enough records: what may be relied on as the names at top level enter, and at the first tree.
use Rattle.std.specs.Prelude.{ℕ, ◌≤◌, ◌<◌, List, ◌≡◌, refl, None}
use Rattle.std.proofs.Common.{◌∙◌}
use native.Mathlib.Omega.{arith}
use Rattle.std.proofs.Math.ListN.{length-replicate}
use Rattle.tree.specs.Tree.{Ident, Trees, nil, cons, many, sizes, flats, Nums}
use Rattle.tree.specs.Define.{◌⊕◌, top_level}
use Rattle.tree.proofs.Laws.Tree.{many-⊕, many_sizes}
use Rattle.tree.specs.Accepted.{Accepted}
use Rattle.semantic.specs.Rows.{Blank, no_list_entry}
use Rattle.semantic.specs.declared.IdentifierStatus.TheVariants.{Global}
use Rattle.pass.specs.State.{Facts, State}
use Rattle.pass.specs.Visit.{enter_children}
use Rattle.pass.specs.Run.{rows_most, list_entries_most, no_facts, start, fresh}
use Rattle.pass_laws.specs.Sound.{Sound, Counted, HoldsAll}
use Rattle.pass_laws.specs.Stage.{StageTops, entered}
use Rattle.pass_laws.specs.Visitable.{uses_most, VisitableTops, Reliable, NamesEnter, EnterableTops}
use Rattle.pass_laws.specs.Laws.Changes.{Lengths, keeps_lengths}
use Rattle.pass_laws.specs.Laws.Keeps.{ran}
use Rattle.pass_laws.specs.Laws.Sound.Counted.{asking_nothing, counting, counted_grow}
use Rattle.pass_laws.specs.Laws.Sound.Growth.{top_sizes, grows_children}
use Rattle.pass_laws.specs.Laws.Sound.Holds.{Recorded, hold_first, hold_rest, tops_hold, accepted_recorded, recorded_small}
use Rattle.pass_laws.specs.Laws.Sound.Runs.{each_first, each_next, fresh-counted, sound_first, sound_next, enter_sound, run_sound}
use Rattle.pass_laws.specs.Laws.Stage.Arguments.{entered_few}
use Rattle.pass_laws.specs.Laws.Stage.Runs.{spread, first_stage, second_stage}
use Rattle.pass_laws.specs.Laws.Visitable.Live.{tops_live}
use Rattle.pass_laws.specs.Laws.Visitable.Further.{further_children}
use Rattle.pass_laws.specs.Laws.Visitable.Opens.{opens_tops}

-- Names at top level enter, first those of us

pub enter-⊕ : (classes : List ℕ) (us vs : Trees) (s : State) → enter_children classes Global (us ⊕ vs) s ≡ enter_children classes Global vs (enter_children classes Global us s)
unfolding ◌⊕◌ enter_children
enter-⊕ classes nil vs s = refl
enter-⊕ classes (cons t us) vs s = enter-⊕ classes us vs _

module _ {P : Ident → Type 0} (small : (x : Ident) → P x → x.at < rows_most) (classes : List ℕ) where
  module _ (us vs : Trees) {s : State} (w : EnterableTops P (us ⊕ vs) s) where
    pub first-enter : NamesEnter P (many us) s
    first-enter = record {
      reliable = w.enters.reliable;
      room = record { live = omega (arith, many-⊕ us vs); layers = omega arith; capture_layers = omega arith };
    }

    pub next-enter : EnterableTops P vs (enter_children classes Global us s)
    next-enter =
        let r = w.enters.reliable in
        let p = further_children w.deep classes Global us in
        let g = grows_children classes Global us s in
        record {
          holds = hold_rest P us vs w.holds;
          deep = omega (arith, g.layers w.deep);
          enters = record {
            reliable = record {
              good = record {
                rows = p.lengths.rows ∙ r.good.rows;
                arguments = p.lengths.arguments ∙ r.good.arguments;
                sound = enter_sound small classes _ us s (hold_first P us vs w.holds) r.good.sound;
                counted = counted_grow (omega arith) (p.counted uses_most r.good.counted);
              };
              captured = p.lengths.captured ∙ r.captured;
            };
            room = record { live = omega (arith, many-⊕ us vs, g.live); layers = omega (arith, p.layers); capture_layers = omega (arith, p.capture_layers) };
          };
        }

  module _ (ts : Trees) (n : Nums 0 ts) (few : sizes ts ≤ rows_most) (p : HoldsAll P ts) where
    -- A run that starts with the facts f

    pub start_enterable : (f : Facts) → Reliable P (start f) → EnterableTops P (top_level ts) (start f)
    unfolding start
    start_enterable f r = record {
      holds = tops_hold P ts p;
      deep = omega arith;
      enters = record {
        reliable = r;
        room = record { live = omega (arith, many_sizes (top_level ts), top_sizes ts); layers = omega arith; capture_layers = omega arith };
      };
    }

    entered_visitable : (f : Facts) → Reliable P (start f) → {k : ℕ} → Counted k (start f) → k ≤ rows_most
        → StageTops 0 (sizes ts) (top_level ts) (entered classes ts f)
        → VisitableTops P 0 (sizes ts) (top_level ts) (entered classes ts f)
    unfolding start
    entered_visitable f r {k} c e w =
        let us = top_level ts in
        let s = start f in
        let q = further_children {s = s} (omega arith) classes Global us in
        let h = tops_hold P ts p in
        record {
          spread = spread classes ts n few;
          inside = few;
          holds = h;
          sound = enter_sound small classes _ us s h r.good.sound;
          ample = record {
            rows = q.lengths.rows ∙ r.good.rows;
            captured = q.lengths.captured ∙ r.captured;
            arguments = q.lengths.arguments ∙ r.good.arguments;
            uses = k;
            counted = counted_grow (omega arith) (q.counted k c);
            few = omega arith;
            live = omega (arith, tops_live classes us s, entered_few us, top_sizes ts);
            layers = omega (arith, q.layers);
            capture_layers = omega (arith, q.capture_layers);
            height = omega arith;
            counter = omega arith;
          };
          stage = w;
        }

    -- The first run

    pub first_reliable : Reliable P (start no_facts)
    unfolding start no_facts
    first_reliable = record {
      good = record {
        rows = length-replicate rows_most Blank;
        arguments = length-replicate list_entries_most no_list_entry;
        sound = sound_first small;
        counted = counted_grow (omega arith) (each_first (counting.none 0) asking_nothing);
      };
      captured = length-replicate list_entries_most no_list_entry;
    }

    pub first_visitable : VisitableTops P 0 (sizes ts) (top_level ts) (entered classes ts no_facts)
    first_visitable =
        entered_visitable no_facts first_reliable (each_first (counting.none 0) asking_nothing) (omega arith) (first_stage classes ts n few)

    -- The second, with the facts of the first

    fresh_lengths : Lengths (start no_facts) (fresh classes ts)
    unfolding fresh
    fresh_lengths = keeps_lengths (ran classes ts no_facts)

    fresh_sound : Sound P (fresh classes ts)
    unfolding fresh
    fresh_sound =
        run_sound small classes ts no_facts p
        (opens_tops classes 0 (sizes ts) (top_level ts) (spread classes ts n few) _ (first_stage classes ts n few)) (sound_first small)

    pub second_reliable : Reliable P (start (fresh classes ts).facts)
    unfolding start
    second_reliable =
        let r = first_reliable in
        record {
          good = record {
            rows = fresh_lengths.rows ∙ r.good.rows;
            arguments = fresh_lengths.arguments ∙ r.good.arguments;
            sound = sound_next fresh_sound;
            counted = counted_grow (omega arith) (each_next (counting.none (sizes ts)) (fresh-counted classes ts));
          };
          captured = fresh_lengths.captured ∙ r.captured;
        }

    -- where that noted no refusal 10
    pub second_visitable : (fresh classes ts).noted.ten ≡ None
        → VisitableTops P 0 (sizes ts) (top_level ts) (entered classes ts (fresh classes ts).facts)
    second_visitable e =
        entered_visitable (fresh classes ts).facts second_reliable (each_next (counting.none (sizes ts)) (fresh-counted classes ts)) few
        (second_stage classes ts n few e)

-- Of accepted trees every identifier is at its record
module _ (classes : List ℕ) {N : ℕ} {rs : List ℕ} {ts : Trees} (a : Accepted N rs ts) where
  pub accepted_first : VisitableTops (Recorded (flats ts)) 0 (sizes ts) (top_level ts) (entered classes ts no_facts)
  accepted_first = first_visitable (recorded_small a) classes ts a.num a.few (accepted_recorded a)

  pub accepted_second : (fresh classes ts).noted.ten ≡ None
      → VisitableTops (Recorded (flats ts)) 0 (sizes ts) (top_level ts) (entered classes ts (fresh classes ts).facts)
  accepted_second e = second_visitable (recorded_small a) classes ts a.num a.few (accepted_recorded a) e
