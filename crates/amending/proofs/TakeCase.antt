-- A row of a lambda's list takes its number and becomes a capture. No place of the code stands here.
use Rattle.std.specs.Prelude.{Option, None, Some}
use Rattle.std.specs.Option.{is_some}
use Prim.Native.Nat.{ℕ, zero, suc, ◌+◌, ◌*◌, ◌≤◌, ◌<◌}
use mathlib.Core.List.{List, [], ◌∷◌, ◌++◌}
use mathlib.Core.Bool.{Bool}
use mathlib.Core.Path.{◌≡◌, refl, ap, sym, subst, ◌∙◌}
use native.Mathlib.Omega.{arith}
use lib.ListN.{get_or, set}
use Rattle.table.specs.Layout.{layout}
use Rattle.semantic.specs.Rows.{no_list_entry, put_list_entry}
use Rattle.semantic.specs.ListEntries.{on_info}
use Rattle.semantic.specs.declared.ScopeInfo.{ScopeInfo}
use Rattle.scope_map.specs.ScopeMap as map
use Rattle.scope_map.specs.Hints.{rows_length}
use Rattle.pass.specs.State.{State, list_entry_at, with_captured, with_captures}
use Rattle.pass.specs.Lists.{near, is_near, capture_of, number_row}
use Rattle.pass.specs.Run.{rows_most, list_entries_most}
use Rattle.work.specs.Coded.{put_binder, capture_of as codedOf, Packable}
use Rattle.work.specs.Works.{Works}
use Rattle.work.specs.Laws.Works.{captures_many, captured_many}
use Rattle.work.specs.Captures.{DefinesCapture}
use Rattle.pass_laws.specs.Visitable.{uses_most}
use Rattle.work.specs.Tied.{Good}
use Rattle.work.specs.declared.Pass.{Pass}
use Rattle.work.specs.declared.captures.Capture.{Capture as CodedCapture}
use Rattle.lists.specs.declared.rows.ListEntry.{ListEntry as Coded}
use Rattle.lists.specs.Contract.{ListEntryIs}
use Rattle.amending.specs.Numbered.{TellsNear, numbered_by, PutsOffsets, taken_by, TakeHeld, TakesRow}

-- a row with the same numbers
same_row : {A : Type 0} (put : A → List ℕ) (d : A) (l : List A) (i : ℕ) (a : A) → put a ≡ put (get_or l i d) → layout put (set l i a) ≡ layout put l
unfolding layout
same_row put d [] i a e = refl
same_row put d (b ∷ l) zero a e = ap (λ (m : List ℕ). m ++ layout put l) e
same_row put d (b ∷ l) (suc i) a e = ap (λ (m : List ℕ). put b ++ m) (same_row put d l i a e)

-- an entry changed but for its binder
works_info : {p : Pass} {w : List ℕ} (s : State) (r : ℕ) (f : ScopeInfo → ScopeInfo) → Works p w s
    → Works p w (with_captured (set s.facts.captured r (on_info f (list_entry_at s r))) s)
works_info s r f k = record {
  long = k.long;
  names = k.names;
  entries = k.entries;
  captures = k.captures;
  taken = k.taken;
  binders = k.binders ∙ sym (same_row put_binder no_list_entry s.facts.captured r (on_info f (list_entry_at s r)) refl);
  beside = k.beside;
}

-- the capture that it becomes
taken_is : {rs : List ℕ} {x : Coded} (s : State) (r : ℕ) (heap b : Bool) → Good rs s → ListEntryIs x (list_entry_at s r)
    → codedOf (capture_of heap (numbered_by heap) r b (list_entry_at s r)) ≡ taken_by x b
taken_is {x = x} s r heap b h e =
    let y = list_entry_at s r in
    let id : y.binder.id ≡ x.info.id = sym (ap (λ (v : ScopeInfo). v.id) e.info ∙ (h.sound.list_entries r).0) in
    let uses : y.info.usage_count ≡ x.info.usage_count = sym (ap (λ (v : ScopeInfo). v.usage_count) e.info) in
    let at : y.binder.at ≡ x.binder = sym e.binder in
    rw (id, uses, at)

module _ {r : ℕ} {x : Coded} {p : Pass} {C w : List ℕ} (h : TakeHeld r x p C w) where
  pub take_small : x.binder < rows_most
  take_small = omega (arith, h.list_entry.binder, (h.held.good.sound.list_entries r).1)

  take-uses : x.info.usage_count ≤ uses_most
  take-uses = omega (arith, ap (λ (v : ScopeInfo). v.usage_count) h.list_entry.info, h.held.good.counted.list_entry_uses r)

  pub take_room : 3 * p.captures.length + 3 ≤ rows_length
  take_room = omega (arith, h.room, captures_many h.held.tied.works)

pub some_near : (o : Option ScopeInfo) → is_some o ≡ is_near o
some_near None = refl
some_near (Some v) = refl

pub takes : {heap : Bool} {r i : ℕ} {x : Coded} {p : Pass} {C w : List ℕ} {o : Option ScopeInfo} {C' : List ℕ} {b : Bool} {t : CodedCapture} {q : Pass} {w' : List ℕ}
    → r < list_entries_most → TellsNear p C w x.name o → PutsOffsets C heap r i o x.info.stack_offset C' → b ≡ is_near o
    → t ≡ taken_by x b → DefinesCapture p w x.name r t q w' → TakesRow heap r i x p C w q C' w'
unfolding number_row
takes {heap} {r} {i} {x} {p} {C} {w} {o} {C'} {b} {t} {q} {w'} inside n k eb et d = record {
  is = λ rs F A s g y e.
      let z = list_entry_at s r in
      let named : x.name ≡ z.binder.name = e.name in
      let found : o ≡ near s z.binder.name = n.is rs F A s g y ∙ ap (near s) named in
      let slot : z.info.stack_offset ≡ x.info.stack_offset = sym (ap (λ (v : ScopeInfo). v.stack_offset) e.info) in
      let m = near s z.binder.name in
      let far : b ≡ is_near m = eb ∙ ap is_near found in
      let u = with_captured (set s.facts.captured r (on_info (numbered_by heap i m) z)) s in
      let written : C' ≡ layout put_list_entry (set s.facts.captured r (on_info (numbered_by heap i m) z)) =
      k.is s.facts.captured y.captured (omega (arith, captured_many y.works)) slot
      ∙ ap (λ (v : Option ScopeInfo). layout put_list_entry (set s.facts.captured r (on_info (numbered_by heap i v) z))) found in
      let c = capture_of heap (numbered_by heap) r (is_near m) z in
      let same : codedOf c ≡ t = taken_is s r heap (is_near m) g e ∙ ap (taken_by x) (sym far) ∙ sym et in
      let after = d.is u c refl same (works_info s r (numbered_by heap i m) y.works) in
      record {
        facts = y.facts;
        captured = written;
        arguments = y.arguments;
        works = subst (λ (a : ℕ). Works q w' (with_captures (map.define a c u.captures) u)) named after;
      };
}

pub taken_made : (x : Coded) (b : Bool) {n : ℕ} → n ≡ x.binder
    → ◌≡◌ {A = CodedCapture} (record { binder = n; id = x.info.id; uses = x.info.usage_count; enclosing = b }) (taken_by x b)
taken_made x b e = rw e

pub take-given : {r : ℕ} {x : Coded} {p : Pass} {C w : List ℕ} {b : Bool} {t : CodedCapture} → TakeHeld r x p C w → t ≡ taken_by x b → Packable t
take-given h e = record {
  binder = omega (arith, take_small h, ap (λ (d : CodedCapture). d.binder) e);
  uses = omega (arith, take-uses h, ap (λ (d : CodedCapture). d.uses) e);
}
