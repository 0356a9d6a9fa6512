-- Which rule decides, from what the functions that look tell. No place of the code stands here.
use Rattle.std.specs.Prelude.{Option, None, Some}
use Prim.Native.Nat.{ℕ}
use mathlib.Core.List.{List}
use mathlib.Core.Path.{◌≡◌, refl, ap, sym, ◌∙◌}
use borrow.Author.Tests.{eq-eqb, ne_eqb}
use Rattle.tree.specs.Tree.{Ident}
use Rattle.scope_map.specs.ScopeMap.{Live, get_in}
use Rattle.scope_map.specs.Map.{map_value, map_live}
use Rattle.scope_map.specs.Held.{found_at, found_in}
use Rattle.scope_map.specs.declared.Found.{Found}
use Rattle.pass.specs.State.{State, Capture, entry_at, newest, depth}
use Rattle.pass.specs.Read.{rule_of}
use Rattle.work.specs.Coded.{record_in}
use Rattle.work.specs.Works.{Works, row_of}
use Rattle.work.specs.Laws.Works.{depth_is}
use Rattle.work.specs.Laws.Scope.{newest-known}
use Rattle.work.specs.Leaves.{Tells, LoadsEntry}
use Rattle.work.specs.Captures.{GetsCapture}
use Rattle.work.specs.Laws.Captures.{Looked, no_capture, the_capture, found_capture}
use Rattle.work.specs.Tied.{Good}
use Rattle.work.specs.declared.Pass.{Pass}
use Rattle.work.specs.declared.entries.Entry.{Entry as Coded}
use Rattle.names.specs.Rules.{no_entry_lem, depth-one, same_current_layer, taken-capture, same_home_slot}
use Rattle.names.specs.Contract.{Decides}
use Rattle.names.specs.Steps.{DecidesCapture}
use Rattle.names.specs.declared.read.Rule.{Rule}
use Rattle.names.specs.declared.read.Rule.TheVariants.{NoEntry, DepthOne, CurrentLayer, TakenCapture, HomeSlot}
use Rattle.names.proofs.KnownCase.{found_none}

-- A capture found, or none

-- the live capture that was found
record Newest (o : Option (Live Capture)) (d v : ℕ) : Type 0 where
  live : Live Capture
  is : o ≡ Some live
  layer : d ≡ live.layer
  value : v ≡ live.value.row

module _ {l : List (Live Capture)} {x : ℕ} where
  found_nothing : Looked l x → None ≡ found_in (map_live row_of l) x → get_in l x ≡ None
  found_nothing (no_capture g f) q = g
  found_nothing (the_capture c i g f h) q = cc

  found_live : {f : Found} → Looked l x → Some f ≡ found_in (map_live row_of l) x → Newest (get_in l x) f.layer f.value
  found_live (no_capture g e) q = cc
  found_live {f} (the_capture c j g e h) q =
      let z : f ≡ found_at j (map_value row_of c) = cc in
      record { live = c; is = g; layer = ap (λ (k : Found). k.layer) z; value = ap (λ (k : Found). k.value) z }

module _ {p : Pass} {w : List ℕ} {name b : ℕ} where
  pub decides_home : {r : Option Found} → GetsCapture p w name r → r ≡ None → DecidesCapture p w name b (HomeSlot b)
  decides_home t q = record { is = λ s y k e. rw (found_nothing (found_capture s.captures.live name) (sym q ∙ t.is s k)) (same_home_slot e) }

  pub decides_taken : {o : Option Found} {f : Found} {row : ℕ} → GetsCapture p w name o → o ≡ Some f → row ≡ f.value
      → DecidesCapture p w name b (TakenCapture b f.row row)
  decides_taken {f = f} {row} t q r = record {
    is = λ s y k e.
        let z = found_live (found_capture s.captures.live name) (sym q ∙ t.is s k) in
        rw z.is (taken-capture {place = f.row} {row = row} e (record {
          live = z.live;
          is = refl;
          newest = z.is;
          found = sym (t.is s k) ∙ q ∙ rw (← z.layer, r) refl;
          stands_for = r ∙ z.value;
        }));
  }

-- A binder found, or none

-- the binder at b, with its entry's depth
record Entered (name b d : ℕ) (s : State) : Type 0 where
  y : Ident
  is : newest s name ≡ Some y
  at : y.at ≡ b
  deep : (entry_at s y.at).depth ≡ d

module _ {p : Pass} {w : List ℕ} {name : ℕ} where
  pub decides_none : Tells p w (λ s. record_in (newest s name)) None → Decides p w name NoEntry
  unfolding rule_of
  decides_none o = record { is = λ rs s k g. rw (found_none (newest s name) (o.is s k)) no_entry_lem }

  module _ {b : ℕ} {e : Coded} (o : Tells p w (λ s. record_in (newest s name)) (Some b)) (l : LoadsEntry w b e) where
    entered : {rs : List ℕ} (s : State) → Works p w s → Good rs s → Entered name b e.depth s
    entered {rs} s k g =
        let z = newest-known rs s name b g.sound.binders (o.is s k) in
        record {
          y = z.x;
          is = z.is;
          at = z.at;
          deep = ap (λ (i : ℕ). (entry_at s i).depth) z.at ∙ sym (ap (λ (c : Coded). c.depth) (l.is p s k));
        }

    pub decides_global : e.depth ≡ 1 → Decides p w name (DepthOne b)
    unfolding rule_of
    decides_global d = record { is = λ rs s k g. let z = entered s k g in rw (z.is, eq-eqb (entry_at s z.y.at).depth 1 (z.deep ∙ d)) (depth-one z.at) }

    module _ {n : ℕ} (h : n ≡ p.scope.depth) (d : e.depth ≡ 1 → ⊥) where
      pub decides_local : e.depth ≡ n → Decides p w name (CurrentLayer b)
      unfolding rule_of
      decides_local f = record {
        is = λ rs s k g.
            let z = entered s k g in
            let n = (entry_at s z.y.at).depth in
            rw (z.is, ne_eqb n 1 (λ i. d (sym z.deep ∙ i)), eq-eqb n (depth s) (z.deep ∙ f ∙ h ∙ depth_is k)) (same_current_layer z.at);
      }

      pub decides_capture : {r : Rule} → (e.depth ≡ n → ⊥) → DecidesCapture p w name b r → Decides p w name r
      unfolding rule_of
      decides_capture f t = record {
        is = λ rs s k g.
            let z = entered s k g in
            let n = (entry_at s z.y.at).depth in
            rw (z.is, ne_eqb n 1 (λ i. d (sym z.deep ∙ i)), ne_eqb n (depth s) (λ i. f (sym z.deep ∙ i ∙ sym (h ∙ depth_is k))))
            (t.is s z.y k z.at);
      }
