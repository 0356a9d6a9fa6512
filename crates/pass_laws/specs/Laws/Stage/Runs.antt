-- Both runs: the stage at the start of the first, and, where that noted no refusal 10, at the start of the second.
use Rattle.std.specs.Prelude.{ℕ, zero, suc, ◌+◌, ◌-◌, ◌≤◌, List, ◌≡◌, None}
use Rattle.std.proofs.Math.Path.{refl}
use Rattle.std.proofs.Common.{ap}
use native.Mathlib.Omega.{arith}
use Rattle.std.proofs.Math.ListN.{length-replicate}
use Rattle.tree.specs.Tree.{Tree, Trees, ident, const, if, letin, define, lambda, sequence, call, set!, nil, cons, sizes, Nums}
use Rattle.tree.specs.Define.{top_level}
use Rattle.semantic.specs.Rows.{Blank}
use Rattle.semantic.specs.declared.IdentifierStatus.TheVariants.{Global}
use Rattle.pass.specs.State.{Facts, row_at}
use Rattle.pass.specs.Run.{rows_most, list_entries_most, no_facts, start, run, fresh, settled}
use Rattle.pass_laws.specs.Stage.{Left, entered, Blocks, BlocksAll, due, enterings, held, lists, Layered, MadeAll, UnmadeAll, Second, first, second, StageTops}
use Rattle.pass_laws.specs.Laws.Changes.{keeps_lengths}
use Rattle.pass_laws.specs.Laws.Scopes.{Any}
use Rattle.pass_laws.specs.Laws.Visits.{children_changes}
use Rattle.pass_laws.specs.Laws.Ranges.{trees_any}
use Rattle.pass_laws.specs.Laws.Keeps.{ran}
use Rattle.pass_laws.specs.Laws.Rows.{blank-rows}
use Rattle.pass_laws.specs.Spread.{Spread}
use Rattle.pass_laws.specs.Laws.Tops.{spread_within, spread_top}
use Rattle.pass_laws.specs.Laws.Stage.Lists.{Shorter, same_rows, lists_shorter, lists-within}
use Rattle.pass_laws.specs.Laws.Stage.Still.{Stored, stored-then}
use Rattle.pass_laws.specs.Laws.Stage.Entering.{apart_steps}
use Rattle.pass_laws.specs.Laws.Stage.Arguments.{entered_few}
use Rattle.pass_laws.specs.Laws.Stage.Captures.{next}
use Rattle.pass_laws.specs.Laws.Stage.Blocks.{blank}
use Rattle.pass_laws.specs.Laws.Stage.Second.{made}
use Rattle.pass_laws.specs.Laws.Stage.Onward.{stacked_long}
use Rattle.pass_laws.specs.Laws.Stage.Tops.{spread_sizes, tops_blocks, tops_due, tops_ran, tops_make}
use Rattle.pass_laws.specs.Laws.Stage.Ends.{making, keeping}
use Rattle.pass_laws.specs.Laws.Preserved.{children_preserves}

-- what holds of every record
module _ {F L : ℕ → Type 0} (f : (x : ℕ) → F x) (l : (x : ℕ) → L x) where
  mutual
    unfolding Blocks

    blocks_of : (t : Tree) → Blocks F L t
    blocks_of (ident x) = tt
    blocks_of (const n q) = tt
    blocks_of (if n a b c) = (blocks_of a, blocks_of b, blocks_of c)
    blocks_of (letin n xs es b) = (l n.at, blocks_all_of es, blocks_of b)
    blocks_of (define n x b) = blocks_of b
    blocks_of (lambda n xs b) = (f n.at, blocks_of b)
    blocks_of (sequence n es) = blocks_all_of es
    blocks_of (call n h es) = (blocks_of h, blocks_all_of es)
    blocks_of (set! n x e) = blocks_of e

    blocks_all_of : (ts : Trees) → BlocksAll F L ts
    blocks_all_of nil = tt
    blocks_all_of (cons t ts) = (blocks_of t, blocks_all_of ts)

-- nothing is known yet

no_row : (x : ℕ) → row_at (start no_facts) x ≡ Blank
unfolding start no_facts
no_row x = blank-rows rows_most x

no_lists : (i n : ℕ) → lists (start no_facts) i n ≡ 0
no_lists i zero = refl
no_lists i (suc n) = let e = ap held (no_row i) in omega (arith, e, no_lists (suc i) n)

start_layered : (f : Facts) → Layered (start f)
unfolding start
start_layered f = record { scope = omega arith; captures = omega arith; within = tt }

module _ (classes : List ℕ) (ts : Trees) (n : Nums 0 ts) (few : sizes ts ≤ rows_most) where
  pub spread : Spread 0 (sizes ts) (top_level ts)
  spread = spread_within 0 0 (0 + sizes ts) (sizes ts) (top_level ts) (omega arith) (omega arith) (spread_top 0 ts n)

  entered_layered : (f : Facts) → Layered (entered classes ts f)
  entered_layered f =
      next (start_layered f) (children_changes {own = Any} classes Global (top_level ts) (start f) (trees_any (top_level ts)))
      (children_preserves apart_steps classes _ (top_level ts) (start f)).stacked

  -- The first run

  unmade : UnmadeAll (entered classes ts no_facts) (top_level ts)
  unmade = tops_blocks blank classes 0 (sizes ts) (top_level ts) spread (start no_facts) (blocks_all_of no_row no_row (top_level ts))

  entered-due : due (entered classes ts no_facts) ≤ enterings (top_level ts)
  unfolding start no_facts
  entered-due = omega (arith, (tops_due classes (top_level ts) (start no_facts)).by)

  entered-top : (entered classes ts no_facts).facts.captured_top ≡ 0
  unfolding start no_facts
  entered-top = (children_preserves apart_steps classes _ (top_level ts) (start no_facts)).stored.captured

  pub first_stage : StageTops 0 (sizes ts) (top_level ts) (entered classes ts no_facts)
  first_stage =
      record {
        layered = entered_layered no_facts;
        run = first (record {
          unmade = unmade;
          function = tt;
          room = omega (arith, entered-due, entered_few (top_level ts), spread_sizes 0 (sizes ts) (top_level ts) spread);
          captured = omega (arith, entered-top);
        });
      }

  -- what it leaves
  pub fresh-left : (fresh classes ts).noted.ten ≡ None → Left ts (fresh classes ts)
  unfolding fresh run start no_facts
  fresh-left e =
      let s = entered classes ts no_facts in
      let u = fresh classes ts in
      let p = (children_preserves apart_steps classes Global (top_level ts) (start no_facts)).stored in
      let r = tops_ran classes 0 (sizes ts) (top_level ts) spread s (entered_layered no_facts) in
      let c : u.facts.captured_top ≤ list_entries_most = r.filled.fits (λ h. omega (arith, p.captured)) e in
      let a : u.facts.arguments_top ≤ list_entries_most =
      omega (arith, r.spared, entered-due, spread_sizes 0 (sizes ts) (top_level ts) spread) in
      let l = (keeps_lengths (children_changes {own = Any} classes Global (top_level ts) (start no_facts) (trees_any (top_level ts)))).rows in
      record {
        made =
            tops_make classes (making list_entries_most list_entries_most) 0 (sizes ts) (top_level ts) spread s (entered_layered no_facts)
            (omega (arith, l, length-replicate rows_most Blank)) unmade u
            (record { captured = c; arguments = a; rows = record { at = λ x y z. refl } });
        lists = omega (arith, r.filled.lists 0 (sizes ts), lists_shorter p.shorter 0 (sizes ts), no_lists 0 (sizes ts), p.captured, c);
        arguments = a;
        captured = c;
      }

  -- The second run

  second_start : (fresh classes ts).noted.ten ≡ None
      → let s = entered classes ts (fresh classes ts).facts in
      Second 0 (sizes ts - 0) (MadeAll s (top_level ts)) None s
  unfolding start
  second_start e =
      let f = (fresh classes ts).facts in
      let b = fresh-left e in
      let p = children_preserves apart_steps classes Global (top_level ts) (start f) in
      let q : Shorter (fresh classes ts) (start f) = same_rows refl in
      record {
        made = tops_blocks made classes 0 (sizes ts) (top_level ts) spread (start f) b.made;
        function = tt;
        room = omega (
          arith,
          b.lists,
          lists-within (fresh classes ts) 0 (sizes ts) 0 (sizes ts - 0) (omega arith) (omega arith),
          lists_shorter q 0 (sizes ts - 0),
          lists_shorter p.stored.shorter 0 (sizes ts - 0),
          stacked_long p.stacked,
        );
        arguments = omega (arith, b.arguments, p.stored.arguments);
        captured = omega (arith, b.captured, p.stored.captured);
      }

  pub second_stage : (fresh classes ts).noted.ten ≡ None → StageTops 0 (sizes ts) (top_level ts) (entered classes ts (fresh classes ts).facts)
  second_stage e = record { layered = entered_layered (fresh classes ts).facts; run = second (second_start e) }

  -- it stores nothing, and leaves the lists within the tables
  settled-stored : (fresh classes ts).noted.ten ≡ None → Stored (start (fresh classes ts).facts) (settled classes ts)
  unfolding settled run
  settled-stored e =
      let f = (fresh classes ts).facts in
      let r = tops_ran classes 0 (sizes ts) (top_level ts) spread (entered classes ts f) (entered_layered f) in
      stored-then (children_preserves apart_steps classes _ (top_level ts) (start f)).stored (r.stored (second_start e).made)

  pub settled_ten : (fresh classes ts).noted.ten ≡ None → (settled classes ts).noted.ten ≡ None
  unfolding start
  settled_ten e = (settled-stored e).ten

  pub settled-left : (fresh classes ts).noted.ten ≡ None → Left ts (settled classes ts)
  unfolding settled fresh run start no_facts
  settled-left e =
      let f = (fresh classes ts).facts in
      let s = entered classes ts f in
      let u = settled classes ts in
      let b = fresh-left e in
      let y = settled-stored e in
      let q : Shorter (fresh classes ts) (start f) = same_rows refl in
      let l = (keeps_lengths (children_changes {own = Any} classes Global (top_level ts) (start f) (trees_any (top_level ts)))).rows in
      let a : u.facts.arguments_top ≤ list_entries_most = omega (arith, b.arguments, y.arguments) in
      let c : u.facts.captured_top ≤ list_entries_most = omega (arith, b.captured, y.captured) in
      record {
        made = tops_make classes (keeping list_entries_most list_entries_most) 0 (sizes ts) (top_level ts) spread s (entered_layered f)
            (omega (arith, l, (keeps_lengths (ran classes ts no_facts)).rows, length-replicate rows_most Blank)) (second_start e).made u
            (record { captured = c; arguments = a; rows = record { at = λ x y z. refl } });
        lists = omega (arith, b.lists, lists_shorter q 0 (sizes ts), lists_shorter y.shorter 0 (sizes ts));
        arguments = a;
        captured = c;
      }
