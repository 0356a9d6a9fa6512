-- An entry as a second run keeps it. No place of the code stands here.
use Rattle.std.specs.Prelude.{Option, None, Some}
use Prim.Native.Nat.{ℕ, ◌+◌, ◌≤◌, ◌<◌}
use mathlib.Core.List.{List, [], map}
use mathlib.Core.Bool.{Bool, true, false, cond, ◌&&◌, ◌||◌}
use mathlib.Core.Path.{◌≡◌, refl, ap, sym, subst, ◌∙◌}
use native.Mathlib.Omega.{arith}
use borrow.Author.Tests.{eq-eqb, ne_eqb}
use lib.ListN.{length}
use lib.Dec.{eqb}
use Rattle.table.specs.Layout.{layout}
use Rattle.tree.specs.Tree.{Ident}
use Rattle.tree.specs.Check.{member}
use Rattle.scope_map.specs.ScopeMap.{get}
use Rattle.scope_map.specs.declared.Found.{Found}
use Rattle.semantic.specs.Rows.{ListEntry, no_list_entry, put_list_entry}
use Rattle.semantic.specs.ListEntries.{with_enclosing, with_heap}
use Rattle.semantic.specs.Leaves.{Tells as TellsRow}
use Rattle.semantic.specs.declared.ScopeInfo.{ScopeInfo}
use Rattle.pass.specs.State.{Scope}
use Rattle.pass.specs.Lists.{name_of, names_of, enclosing_of, count_of, first_of, kept_list_entry}
use Rattle.pass.specs.Lambda.{name_in}
use Rattle.pass.specs.Run.{rows_most, list_entries_most}
use Rattle.pass_laws.specs.Laws.Sound.Known.{sound_newest}
use Rattle.work.specs.Coded.{record_in}
use Rattle.work.specs.Leaves.{Tells, LoadsEntry}
use Rattle.work.specs.Scope.{KnownHere}
use Rattle.work.specs.Captures.{GetsCapture, LoadsCapture}
use Rattle.work.specs.Laws.Captures.{found_below, captures_few}
use Rattle.work.specs.declared.Pass.{Pass}
use Rattle.work.specs.declared.captures.Capture.{Capture as CodedCapture}
use Rattle.work.specs.declared.entries.Entry.{Entry as Coded}
use Rattle.walk.specs.Marks.{is_marked}
use Rattle.walk.specs.declared.uses.Names.{Names}
use Rattle.lists.specs.declared.rows.ListEntry.{ListEntry as Coded-as-ListEntry}
use Rattle.lists.specs.Contract.{ListEntryIs}
use Rattle.lists.specs.Index.{entry_in, offered, Offers}
use Rattle.lists.specs.Given.{rows_up_to}
use Rattle.amending.specs.Counts.{now_of}
use Rattle.amending.specs.Kept.{StandsBefore, list_entry_in, amended_info, SomeBinder, AmendsInfo, IndexHeld, KeepsListEntry}
use Rattle.lists.specs.Laws.Sets.{rows_next, rows_none}
use Rattle.amending.proofs.NearCase.{no_capture-at, capture-at}
use Rattle.lists.specs.Laws.Given.{offered-newest}
use Rattle.amending.proofs.NowCase.{Offered, used-offered, find-some, find_none}

-- Whether a name stands in the rows from i on

pub record StandsFrom (C : List ℕ) (first end name i : ℕ) : Type 0 where
  pub is : (l : List ListEntry) → C ≡ layout put_list_entry l → length l ≡ list_entries_most
      → member name (names_of (rows_up_to first end l)) ≡ member name (names_of (rows_up_to i end l))

module _ {C : List ℕ} {first end name i : ℕ} (f : StandsFrom C first end name i) where
  module _ {v : ℕ} (t : TellsRow put_list_entry no_list_entry (λ x. x.binder.name) C i v) (h : i < end) (g : end ≤ list_entries_most) where
    turn : (b : Bool) → eqb name v ≡ b → (l : List ListEntry) → C ≡ layout put_list_entry l → length l ≡ list_entries_most
        → member name (names_of (rows_up_to first end l)) ≡ (b || member name (names_of (rows_up_to (i + 1) end l)))
    turn b q l e m =
        f.is l e m
        ∙ ap (λ (r : List ListEntry). member name (names_of r)) (rows_next l i end no_list_entry h (omega arith))
        ∙ ap (λ (n : ℕ). eqb name n || member name (names_of (rows_up_to (i + 1) end l))) (sym (t.is l e (omega arith)))
        ∙ ap (λ (c : Bool). c || member name (names_of (rows_up_to (i + 1) end l))) q

    pub stands_here : v ≡ name → StandsBefore C first end [] name true
    stands_here q = record { is = λ l e m k. sym (turn true (eq-eqb name v (sym q)) l e m) }

    pub stands_later : (v ≡ name → ⊥) → StandsFrom C first end name (i + 1)
    stands_later q = record { is = turn false (ne_eqb name v (λ z. q (sym z))) }

  pub stands_last : i ≤ end → end ≤ i → StandsBefore C first end [] name false
  stands_last h g = record {
    is = λ l e m k.
        let z : i ≡ end = omega arith in
        sym (f.is l e m ∙ ap (λ (j : ℕ). member name (names_of (rows_up_to j end l))) z ∙ ap (λ (r : List ListEntry). member name (names_of r)) (rows_none l end));
  }

-- by the marks

module _ {C : List ℕ} {first end : ℕ} {m : List ℕ} {name : ℕ} where
  pub stands_marked : {x : ℕ} → x ≡ name → x < length m → StandsBefore C first end m name (is_marked m x)
  stands_marked e h = record { is = λ l q k z. ap (is_marked m) e ∙ z name (omega arith) }

  pub stands_searched : {r : Bool} → StandsBefore C first end [] name r → StandsBefore C first end m name r
  stands_searched t = record { is = λ l q k z. t.is l q k (λ x h. absurd (omega arith)) }

-- Whether a name's newest capture comes from the enclosing lambda

module _ {p : Pass} {w : List ℕ} {x : ℕ} {o : Option Found} (g : GetsCapture p w x o) where
  abbrev Encloses : Bool → Type 0
  Encloses r = Tells p w (λ s. enclosing_of (get s.captures x)) r

  pub enclosing_none : o ≡ None → Encloses false
  enclosing_none e = record { is = λ s k. sym (ap enclosing_of (no_capture-at s x (sym (g.is s k) ∙ e))) }

  module _ {f : Found} (e : o ≡ Some f) where
    pub enclosing_inside : {rs : List ℕ} → KnownHere rs p w → f.row < list_entries_most
    enclosing_inside h =
        omega (arith, found_below h.s.captures.live x (sym (g.is h.s h.works) ∙ e), captures_few h.works)

    pub enclosing_some : {t : CodedCapture} → LoadsCapture w f.row t → Encloses t.enclosing
    enclosing_some l = record {
      is = λ s k.
          let at = sym (g.is s k) ∙ e in
          let c = capture-at s x at in
          ap (λ (u : CodedCapture). u.enclosing) (l.is p s x f.layer f.value c.capture k at c.is) ∙ sym (ap enclosing_of c.is);
    }

module _ {p : Pass} {w : List ℕ} (x n : ℕ) where
  pub once_no : (n ≡ 1 → ⊥) → Tells p w (λ s. eqb n 1 && enclosing_of (get s.captures x)) (eqb n 1)
  once_no h = let e = ne_eqb n 1 h in record { is = λ s k. e ∙ sym (ap (λ (b : Bool). b && enclosing_of (get s.captures x)) e) }

  pub once_yes : n ≡ 1 → {r : Bool} → Tells p w (λ s. enclosing_of (get s.captures x)) r → Tells p w (λ s. eqb n 1 && enclosing_of (get s.captures x)) r
  once_yes h t = record { is = λ s k. t.is s k ∙ sym (ap (λ (b : Bool). b && enclosing_of (get s.captures x)) (eq-eqb n 1 h)) }

-- What an entry takes from the binder that its name gives

module _ {p : Pass} {w : List ℕ} (x n : ℕ) (v : ScopeInfo) {found : Option ℕ} where
  pub amended-none : found ≡ None → AmendsInfo found p w x n v v
  amended-none e = record { is = λ s o k q. go s.scope o (eqb n 1 && enclosing_of (get s.captures x)) (sym e ∙ q) }
    where
      go : (c : Scope) (o : Option Ident) (q : Bool) → None ≡ record_in o → v ≡ amended_info (list_entry_in c o) q v
      go c None q e = refl
      go c (Some b) q e = cc

  pub amended-some : {b : ℕ} → found ≡ Some b → {d : Coded} → LoadsEntry w b d
      → {q : Bool} → Tells p w (λ s. eqb n 1 && enclosing_of (get s.captures x)) q → AmendsInfo found p w x n v (with_heap d.heap (with_enclosing q v))
  amended-some {b} e {d} l {q} u = record {
    is = λ s o k c.
        go s.scope o (eqb n 1 && enclosing_of (get s.captures x)) (u.is s k) (sym e ∙ c) (ap (λ (y : Coded). y.heap) (l.is p s k));
  }
    where
      go : (c : Scope) (o : Option Ident) (r : Bool) → q ≡ r → Some b ≡ record_in o → d.heap ≡ (entry_in c b).heap_offset
          → with_heap d.heap (with_enclosing q v) ≡ amended_info (list_entry_in c o) r v
      go c None r e f h = cc
      go c (Some y) r e f h =
          let at : b ≡ y.at = cc in
          let heap : d.heap ≡ (entry_in c y.at).heap_offset = h ∙ ap (λ (j : ℕ). (entry_in c j).heap_offset) at in
          rw (e, heap)

pub amended-inside : {found : Option ℕ} {b : ℕ} → found ≡ Some b → SomeBinder found → b < rows_most
amended-inside {b = b} e h = go h.o refl (sym e ∙ h.code)
  where
    go : (o : Option Ident) → h.o ≡ o → Some b ≡ record_in o → b < rows_most
    go None k q = cc
    go (Some y) k q = let z : b ≡ y.at = cc in omega (arith, h.few y k)

-- The entry that is kept

same_list-entry : (b : Bool) (y : ListEntry) → cond b y y ≡ y
same_list-entry true y = refl
same_list-entry false y = refl

pub offer_here : {rs : List ℕ} {names : Names} {p : Pass} {w : List ℕ} {index : List (Option ℕ)} → IndexHeld rs names p w index → KnownHere rs p w
offer_here h = record { s = h.s; works = h.works; binders = h.good.sound.binders }

-- what the name gives is a binder of the tree
pub offer_binder : {rs : List ℕ} {names : Names} {p : Pass} {w : List ℕ} {index : List (Option ℕ)} {x : ℕ} {found : Option ℕ} → IndexHeld rs names p w index
    → Offers rs names p w index x found → SomeBinder found
offer_binder {x = x} h t = record {
  o = offered (map name_in h.xs) h.s.scope x;
  code = t.is h.xs h.s h.told h.works h.indexes;
  few = λ b q. (sound_newest (λ y k. k.few) x b h.good.sound (offered-newest (map name_in h.xs) h.s.scope x b q)).few;
}

module _ {rs : List ℕ} {names : Names} {p : Pass} {w : List ℕ} {index : List (Option ℕ)} {n : ℕ} {seen : Bool} {x : Coded-as-ListEntry} where
  pub kept_absent : n ≡ 0 → KeepsListEntry rs names p w index n seen x x
  kept_absent h = record {
    is = λ xs b s y told m works idx c e.
        let now = now_of xs b s in
        let none_of : first_of (name_of y) now ≡ None = find_none (name_of y) now (ap (λ (z : ℕ). count_of z now) (sym e.name) ∙ sym c ∙ h) in
        let same : y ≡ cond seen y (kept_list_entry now s.captures (first_of (name_of y) now) y) =
        sym (ap (λ (o : Option ListEntry). cond seen y (kept_list_entry now s.captures o y)) none_of ∙ same_list-entry seen y) in
        subst (ListEntryIs x) same e;
  }

  pub kept_seen : seen ≡ true → KeepsListEntry rs names p w index n seen x x
  kept_seen h = record {
    is = λ xs b s y told m works idx c e.
        let now = now_of xs b s in
        subst (ListEntryIs x) (sym (ap (λ (q : Bool). cond q y (kept_list_entry now s.captures (first_of (name_of y) now) y)) h)) e;
  }

  pub kept_amended : (n ≡ 0 → ⊥) → seen ≡ false → {found : Option ℕ} → Offers rs names p w index x.name found
      → {v : ScopeInfo} → AmendsInfo found p w x.name n x.info v
      → KeepsListEntry rs names p w index n seen x (record { name = x.name; binder = x.binder; info = v })
  kept_amended g h {found} t {v} a = record {
    is = λ xs b s y told m works idx c e.
        let now = now_of xs b s in
        let ps = map name_in xs in
        let z = name_of y in
        let count : count_of z now ≡ n = ap (λ (i : ℕ). count_of i now) (sym e.name) ∙ sym c in
        let k = find-some (Offered ps s.scope) z now (used-offered xs b s m) (λ q. g (sym count ∙ q)) in
        let o = offered ps s.scope x.name in
        let list_entry : list_entry_in s.scope o ≡ Some k.v =
        ap (λ (j : ℕ). list_entry_in s.scope (offered ps s.scope j)) (e.name ∙ sym k.named) ∙ k.holds in
        let kept : cond seen y (kept_list_entry now s.captures (first_of z now) y) ≡ kept_list_entry now s.captures (Some k.v) y =
        ap (λ (q : Bool). cond q y (kept_list_entry now s.captures (first_of z now) y)) h
        ∙ ap (λ (u : Option ListEntry). kept_list_entry now s.captures u y) k.is in
        let heap = k.v.info.heap_offset in
        let info : v ≡ (kept_list_entry now s.captures (Some k.v) y).info =
        a.is s o works (t.is xs s told works idx)
        ∙ ap (λ (u : Option ListEntry). amended_info u (eqb n 1 && enclosing_of (get s.captures x.name)) x.info) list_entry
        ∙ ap (λ (j : ℕ). with_heap heap (with_enclosing (eqb j 1 && enclosing_of (get s.captures x.name)) x.info)) (sym count)
        ∙ ap (λ (j : ℕ). with_heap heap (with_enclosing (eqb (count_of z now) 1 && enclosing_of (get s.captures j)) x.info)) e.name
        ∙ ap (λ (u : ScopeInfo). with_heap heap (with_enclosing (eqb (count_of z now) 1 && enclosing_of (get s.captures z)) u)) e.info in
        subst (ListEntryIs (record { name = x.name; binder = x.binder; info = v })) (sym kept) (record { name = e.name; binder = e.binder; info = info });
  }
