-- Entries as a list keeps them, and the newest binder of a name where it is captured. No place of the code stands here.
use Rattle.std.specs.Prelude.{Option, None, Some}
use Prim.Native.Nat.{ℕ, ◌-◌, ◌<◌}
use mathlib.Core.List.{List}
use mathlib.Core.Bool.{false}
use mathlib.Core.Path.{◌≡◌, refl, ap, sym, ◌∙◌}
use native.Mathlib.Omega.{arith}
use lib.ListN.{length}
use Rattle.tree.specs.Record.{Record, records, nth}
use Rattle.tree.specs.Tree.{Ident}
use Rattle.semantic.specs.Information.{NONE}
use Rattle.semantic.specs.declared.ScopeInfo.{ScopeInfo}
use Rattle.pass.specs.State.{State, Scope, id_of, entry_at, newest}
use Rattle.pass.specs.Run.{rows_most}
use Rattle.work.specs.Known.{Known}
use Rattle.work.specs.Coded.{last_code, record_in}
use Rattle.work.specs.Works.{Works}
use Rattle.work.specs.Leaves.{Tells, LoadsEntry}
use Rattle.work.specs.Scope.{KnownHere}
use Rattle.work.specs.Laws.Scope.{newest-known}
use Rattle.work.specs.declared.Pass.{Pass}
use Rattle.work.specs.declared.entries.Entry.{Entry as Coded}
use Rattle.lists.specs.Contract.{Infos}
use Rattle.lists.specs.Index.{where_captured, captured_newest, TellsCaptured}
use Rattle.lists.specs.Given.{SomeLast, TellsLast, SomeEntry, KnownEntry, MakesListEntry}

-- The id of a last use

pub last_none : {rs : List ℕ} {last : ℕ} → last ≡ 0 → TellsLast rs last NONE
last_none {rs} {last} e = record { is = λ o k q. go o q }
  where
    go : (o : Option Ident) → last ≡ last_code o → NONE ≡ id_of o
    go None q = refl
    go (Some x) q = absurd (omega arith)

module _ {rs : List ℕ} {last : ℕ} (some-use : last ≡ 0 → ⊥) where
  pub last-inside : SomeLast rs last → last - 1 < length (records rs)
  last-inside h = go h.o h.known h.code
    where
      go : (o : Option Ident) → ((y : Ident) → o ≡ Some y → Known rs y) → last ≡ last_code o → last - 1 < length (records rs)
      go None k q = absurd (some-use q)
      go (Some x) k q = omega (arith, (k x refl).inside)

  pub last_some : {r : ℕ} → r ≡ (nth rs (last - 1)).id → TellsLast rs last r
  last_some {r} e = record { is = go }
    where
      go : (o : Option Ident) → ((y : Ident) → o ≡ Some y → Known rs y) → last ≡ last_code o → r ≡ id_of o
      go None k q = absurd (some-use q)
      go (Some x) k q =
          let z : last - 1 ≡ x.at = omega arith in
          e ∙ ap (λ (i : ℕ). (nth rs i).id) z ∙ ap (λ (d : Record). d.id) (k x refl).is

-- An entry

pub info_made : {rs : List ℕ} {b : ℕ} {e : Coded} {i l : ℕ} → i ≡ (nth rs b).id → TellsLast rs e.last l → Infos rs b e (record {
  id = i;
  captured = e.captured;
  usage_count = e.uses;
  last_used = l;
  stack_offset = e.slot;
  escapes = false;
  capture_offset = NONE;
  captured_from_enclosing = false;
  mutated = e.mutated;
  heap_offset = e.heap;
  read_capture_offset = NONE;
  read_heap_offset = e.heap;
  parent_heap_offset = NONE;
  local_heap_offset = NONE;
  depth = e.depth;
})
info_made {rs} {b} {e} {i} {l} p t = record {
  is = λ x v k at c h.
      let q : i ≡ x.id = p ∙ ap (λ (j : ℕ). (nth rs j).id) (sym at) ∙ ap (λ (d : Record). d.id) k.is in
      let u : l ≡ id_of v.last_used = t.is v.last_used h (ap (λ (d : Coded). d.last) c) in
      rw (q, u, c);
}

pub entry-some : {rs w : List ℕ} {b : ℕ} {e : Coded} → KnownEntry rs w b → LoadsEntry w b e → SomeEntry rs b e
entry-some {b = b} h t = record {
  x = h.x;
  v = entry_at h.s b;
  known = h.known;
  place = h.place;
  code = t.is _ _ h.works;
  lasts = h.lasts;
}

pub list-entry-made : {rs w : List ℕ} {b : ℕ} {e : Coded} {n : ℕ} {v : ScopeInfo} → LoadsEntry w b e → n ≡ (nth rs b).name → Infos rs b e v
    → MakesListEntry rs w b (record { name = n; binder = b; info = v })
list-entry-made {rs} {b = b} t p i = record {
  is = λ q s x k y at h. record {
    name = p ∙ ap (λ (j : ℕ). (nth rs j).name) (sym at) ∙ ap (λ (d : Record). d.name) y.is;
    binder = sym at;
    info = i.is x (entry_at s b) y at (t.is q s k) h;
  };
}

-- The newest binder of a name, where it is captured

module _ {p : Pass} {w : List ℕ} (x : ℕ) (o : Option ℕ) (t : Tells p w (λ s. record_in (newest s x)) o) where
  abbrev Captured : Option ℕ → Type 0
  Captured r = Tells p w (λ s. record_in (captured_newest s.scope x)) r

  pub newest-none : o ≡ None → Captured None
  newest-none e = record { is = λ s k. go s.scope (newest s x) (sym e ∙ t.is s k) }
    where
      go : (c : Scope) (u : Option Ident) → None ≡ record_in u → None ≡ record_in (where_captured c u)
      go c None q = refl
      go c (Some b) q = absurd (let z : ◌≡◌ {A = ℕ} 0 1 = cc in omega arith)

  module _ {b : ℕ} (e : o ≡ Some b) where
    pub newest-inside : {rs : List ℕ} → KnownHere rs p w → b < rows_most
    newest-inside {rs} h =
        let k = newest-known rs h.s x b h.binders (sym e ∙ t.is h.s h.works) in
        omega (arith, k.at, k.known.few)

    pub newest-some : {rs : List ℕ} → KnownHere rs p w → {r : Option ℕ} → TellsCaptured w b r → Captured r
    newest-some {rs} h {r} l = record { is = λ s k. go s k (newest s x) (sym e ∙ t.is s k) }
      where
        go : (s : State) → Works p w s → (u : Option Ident) → Some b ≡ record_in u → r ≡ record_in (where_captured s.scope u)
        go s k None q = absurd (let z : ◌≡◌ {A = ℕ} 0 1 = cc in omega arith)
        go s k (Some y) q = l.is p s y k (sym (ap (λ (m : Option ℕ). elim m [ None ↦ 0 | Some i ↦ i ]) q))
