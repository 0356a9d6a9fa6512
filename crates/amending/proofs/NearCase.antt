-- The newest capture of a name, and the offsets that an entry takes from it. No place of the code stands here.
use Rattle.std.specs.Prelude.{Option, None, Some}
use Prim.Native.Nat.{ℕ, ◌-◌, ◌≤◌, ◌<◌}
use mathlib.Core.List.{List}
use mathlib.Core.Bool.{Bool, true, false, cond}
use mathlib.Core.Path.{◌≡◌, ap, sym, subst, ◌∙◌}
use native.Mathlib.Omega.{arith}
use borrow.Author.Tests.{le-leb, lt-leb}
use lib.ListN.{get_or, set}
use lib.Dec.{leb}
use Rattle.table.specs.Layout.{layout}
use Rattle.scope_map.specs.ScopeMap.{Live, get, depth_of}
use Rattle.scope_map.specs.Map.{map_value}
use Rattle.scope_map.specs.Held.{found_at}
use Rattle.scope_map.specs.declared.Found.{Found}
use Rattle.semantic.specs.Rows.{ListEntry, no_list_entry, put_list_entry}
use Rattle.semantic.specs.ListEntries.{on_info, with_capture_offsets, with_heap_offsets}
use Rattle.semantic.specs.Leaves.{Amends, Tells}
use Rattle.semantic.specs.declared.ScopeInfo.{ScopeInfo}
use Rattle.pass.specs.State.{State, Capture, info_at}
use Rattle.pass.specs.Lists.{near_in, near}
use Rattle.pass.specs.Run.{list_entries_most}
use Rattle.pass_laws.specs.Laws.Sound.Known.{sound_capture}
use Rattle.work.specs.Laws.Works.{captures_depth, captured_many}
use Rattle.work.specs.Captures.{capture_found, GetsCapture}
use Rattle.work.specs.Works.{row_of}
use Rattle.work.specs.Laws.Captures.{Looked, no_capture, the_capture, found_capture}
use Rattle.work.specs.Tied.{raw, Tied, Good}
use Rattle.work.specs.declared.Pass.{Pass}
use Rattle.amending.specs.declared.number.Offsets.{Offsets}
use Rattle.amending.specs.Contract.{SomeHeld}
use Rattle.amending.specs.Numbered.{TellsNear, offsets_from, PutsOffsets}

-- what is found is the newest capture

pub record CaptureAt (o : Option (Live Capture)) (d v : ℕ) : Type 0 where
  pub capture : Live Capture
  pub is : o ≡ Some capture
  pub layer : capture.layer ≡ d
  pub row : capture.value.row ≡ v

pub no_capture-at : (s : State) (x : ℕ) → capture_found s x ≡ None → get s.captures x ≡ None
no_capture-at s x e = pick (found_capture s.captures.live x)
  where
    pick : Looked s.captures.live x → get s.captures x ≡ None
    pick (no_capture g f) = g
    pick (the_capture c j g f h) = cc

pub capture-at : (s : State) (x : ℕ) {f : Found} → capture_found s x ≡ Some f → CaptureAt (get s.captures x) f.layer f.value
capture-at s x {f} e = pick (found_capture s.captures.live x)
  where
    pick : Looked s.captures.live x → CaptureAt (get s.captures x) f.layer f.value
    pick (no_capture g q) = cc
    pick (the_capture c j g q h) =
        let z : found_at j (map_value row_of c) ≡ f = cc in
        record { capture = c; is = g; layer = ap (λ (y : Found). y.layer) z; row = ap (λ (y : Found). y.value) z }

-- Whether it is near

module _ {p : Pass} {w : List ℕ} {x : ℕ} {o : Option Found} (g : GetsCapture p w x o) where
  pub near_none : o ≡ None → {C : List ℕ} → TellsNear p C w x None
  near_none e = record {
    is = λ rs F A s h t. sym (ap (near_in s) (no_capture-at s x (sym (g.is s t.works) ∙ e)));
  }

  module _ {f : Found} (e : o ≡ Some f) where
    taken : {C F A : List ℕ} (s : State) → Tied (raw p F C A w) s → CaptureAt (get s.captures x) f.layer f.value
    taken s t = capture-at s x (sym (g.is s t.works) ∙ e)

    -- it lies in its table
    inside : {rs C F A : List ℕ} (s : State) → Good rs s → Tied (raw p F C A w) s → f.value < list_entries_most
    inside s h t =
        let c = taken s t in
        omega (arith, (sound_capture (λ y k. k.few) x c.capture h.sound c.is).0, c.row)

    pub near-inside : {C : List ℕ} → SomeHeld p C w → f.value < list_entries_most
    near-inside h = inside h.held.s h.held.good h.held.tied

    told : {C F A : List ℕ} (s : State) → Tied (raw p F C A w) s → (b : Bool) → leb (p.captures.depth - f.layer) 1 ≡ b
        → near s x ≡ cond b (Some (info_at s f.value)) None
    told s t b q =
        let c = taken s t in
        let z : depth_of s.captures c.capture ≡ p.captures.depth - f.layer = omega (arith, captures_depth t.works, c.layer) in
        ap (near_in s) c.is
        ∙ ap (λ (n : ℕ). cond (leb n 1) (Some (info_at s c.capture.value.row)) None) z
        ∙ ap (λ (n : ℕ). cond (leb (p.captures.depth - f.layer) 1) (Some (info_at s n)) None) c.row
        ∙ ap (λ (a : Bool). cond a (Some (info_at s f.value)) None) q

    pub near_far : 1 < p.captures.depth - f.layer → {C : List ℕ} → TellsNear p C w x None
    near_far k = record { is = λ rs F A s h t. sym (told s t false (lt-leb _ _ k)) }

    pub near_info : p.captures.depth - f.layer ≤ 1 → {C : List ℕ} {n : ℕ} {y : ScopeInfo} → n ≡ f.value → Tells put_list_entry no_list_entry (λ x. x.info) C n y
        → TellsNear p C w x (Some y)
    near_info k {n = n} {y} z u = record {
      is = λ rs F A s h t.
          let got : y ≡ info_at s f.value = u.is s.facts.captured t.captured (omega (arith, inside s h t, captured_many t.works)) ∙ ap (info_at s) z in
          ap {B = Option ScopeInfo} Some got ∙ sym (told s t true (le-leb _ _ k));
    }

-- Offsets

module _ {C : List ℕ} {r i : ℕ} {o : Option ScopeInfo} {slot : ℕ} {C' : List ℕ} where
  module _ {f : Offsets} (a : f ≡ offsets_from o i slot) {heap : Bool} where
    pub puts_heap : heap ≡ true → Amends put_list_entry no_list_entry (on_info (with_heap_offsets f.heap i f.parent i)) C r C' → PutsOffsets C heap r i o slot C'
    puts_heap e w = subst (λ (t : Bool). PutsOffsets C t r i o slot C') (sym e) (record {
      is = λ l k g z.
          let b : f ≡ offsets_from o i (get_or l r no_list_entry).info.stack_offset = a ∙ ap (offsets_from o i) (sym z) in
          w.is l k g ∙ ap (λ (x : ListEntry). layout put_list_entry (set l r x)) (rw b);
    })

    pub puts_capture : heap ≡ false → Amends put_list_entry no_list_entry (on_info (with_capture_offsets f.capture i)) C r C' → PutsOffsets C heap r i o slot C'
    puts_capture e w = subst (λ (t : Bool). PutsOffsets C t r i o slot C') (sym e) (record {
      is = λ l k g z. w.is l k g ∙ ap (λ (x : ListEntry). layout put_list_entry (set l r x)) (rw a);
    })
