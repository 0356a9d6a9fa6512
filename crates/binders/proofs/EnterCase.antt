-- One name enters, over states.
use Rattle.std.specs.Prelude.{Option, None, Some}
use Rattle.std.specs.Option.{unwrap_or, is_some, option_or}
use Prim.Native.Nat.{ℕ, suc, ◌+◌, ◌≤◌, ◌<◌}
use mathlib.Core.List.{List}
use mathlib.Core.Bool.{Bool, true, false, cond, ◌&&◌}
use mathlib.Core.Path.{◌≡◌, refl, ap, sym, subst, ◌∙◌}
use native.Mathlib.Omega.{arith}
use lib.ListN.{drop, get_or, length-take, get_or-eq_default}
use lib.Seq.{get_or-take, get_or-drop}
use Rattle.tree.specs.Record.{nth}
use Rattle.tree.specs.Tree.{Ident}
use Rattle.semantic.specs.Information.{new}
use Rattle.semantic.specs.Rows.{ListEntry, no_list_entry, put_list_entry}
use Rattle.semantic.specs.Leaves.{Tells}
use Rattle.semantic.specs.declared.ListAt.{ListAt}
use Rattle.semantic.specs.declared.IdentifierStatus.{IdentifierStatus}
use Rattle.semantic.specs.declared.IdentifierStatus.TheVariants.{HeapAllocated}
use Rattle.semantic.specs.declared.SemanticInformation.{SemanticInformation}
use Rattle.semantic.specs.declared.Span.{Span}
use Rattle.pass.specs.State.{State, depth, note_second}
use Rattle.pass.specs.Read.{span}
use Rattle.pass.specs.Lists.{list_in}
use Rattle.pass.specs.Lambda.{or_zero, enter_name}
use Rattle.work.specs.Coded.{coded}
use Rattle.work.specs.Works.{Works}
use Rattle.work.specs.Laws.Works.{depth_is}
use Rattle.work.specs.Laws.Kept.{second_noted}
use Rattle.work.specs.Passes.{with_second}
use Rattle.work.specs.Tied.{raw, Good, Here}
use Rattle.work.specs.Laws.Tied.{tied_works}
use Rattle.work.specs.declared.Pass.{Pass}
use Rattle.work.specs.declared.SecondRefusal.{SecondRefusal}
use Rattle.work.specs.declared.SecondRefusal.TheVariants.{NoLambda}
use Rattle.work.specs.declared.entries.Entry.{Entry as Coded}
use Rattle.names.specs.Contract.{EntersName as Named}
use Rattle.names.specs.Facts.{span_of}
use Rattle.lists.specs.Contract.{Inside}
use Rattle.binders.specs.Enter.{TellsHeap, noted_name, name_entry, entered_name, NotesHeap, EntersName}
use Rattle.binders.specs.declared.enter.Entering.{Entering}
use Rattle.binders.specs.Laws.Good.{good_second}
use Rattle.names.specs.Laws.Idents.{known-span}

-- The list of the run before

module _ (A : List ℕ) (before : ListAt) (j : ℕ) where
  pub no_heap : before.length ≤ j → TellsHeap A before j false
  no_heap h = record {
    is = λ l e n.
        let z : get_or (list_in l before) j no_list_entry ≡ no_list_entry =
        get_or-eq_default (list_in l before) no_list_entry (omega (arith, length-take before.length (drop before.first l))) in
        rw z;
  }

  pub heap_told : j < before.length → Inside before → {i : ℕ} → i ≡ before.first + j → {r : Bool}
      → Tells put_list_entry no_list_entry (λ x. x.info.captured && x.info.mutated) A i r → TellsHeap A before j r
  heap_told h k {i} q t = record {
    is = λ l e n.
        let z : get_or (list_in l before) j no_list_entry ≡ get_or l i no_list_entry =
        get_or-take before.length (drop before.first l) j no_list_entry h ∙ get_or-drop before.first l j no_list_entry
        ∙ ap (λ (m : ℕ). get_or l m no_list_entry) (sym q) in
        rw z (t.is l e (omega arith));
  }

pub heaps_below : (b : Bool) (h : ℕ) {r : ℕ} → r ≡ cond b (suc h) h → r ≤ h + 1
heaps_below true h e = omega arith
heaps_below false h e = omega arith

-- The heap entries around

pub unwrap_zero : (o : Option ℕ) → unwrap_or o 0 ≡ or_zero o
unwrap_zero None = refl
unwrap_zero (Some n) = refl

-- By whether it is on the heap

module _ (base : ℕ) (o : Option ℕ) (j h d : ℕ) {e : Coded} where
  pub entry_new : (heap : Bool) → e ≡ coded (name_entry heap base o j h d) → e.uses < 536870912
  entry_new true q = omega (arith, ap (λ (e : Coded). e.uses) q)
  entry_new false q = omega (arith, ap (λ (e : Coded). e.uses) q)

false-true : false ≡ true → ⊥
false-true e = let z : ◌≡◌ {A = ℕ} 0 1 = cc in omega arith

kept : {before : Option SecondRefusal} {p : Pass} {w : List ℕ} {s : State} → p.second ≡ before → Works p w s → Works (with_second before p) w s
kept {p = p} {w} {s} q k = subst (λ (b : Option SecondRefusal). Works (with_second b p) w s) q k

module _ {at : ℕ} {before : Option SecondRefusal} where
  pub notes_none : (heap : Bool) {o : Option ℕ} → heap ≡ false → NotesHeap heap o at before before
  notes_none true e = absurd (false-true (sym e))
  notes_none false e = record { is = λ p w s x q i k. kept q k }

  pub notes_around : (heap : Bool) (o : Option ℕ) → is_some o ≡ true → NotesHeap heap o at before before
  notes_around true None e = absurd (false-true e)
  notes_around true (Some n) e = record { is = λ p w s x q i k. kept q k }
  notes_around false o e = record { is = λ p w s x q i k. kept q k }

  pub notes_alone : (heap : Bool) (o : Option ℕ) {r : Option SecondRefusal} {n : ℕ} → heap ≡ true → is_some o ≡ false → n ≡ at
      → r ≡ option_or before (Some (NoLambda n)) → NotesHeap heap o at before r
  notes_alone true None {r} {n} e f en q = record {
    is = λ p w s x b i k.
        let same : r ≡ option_or p.second (Some (NoLambda at)) = cc in
        rw (same, i) (second_noted k (NoLambda at));
  }
  notes_alone true (Some n) e f en q = absurd (false-true (sym f))
  notes_alone false o e f en q = absurd (false-true e)

-- what holds of a state, and of it with refusal 11 noted
noted_by : (P : State → Type 0) (heap : Bool) (o : Option ℕ) (x : Ident) (s : State) → P s → P (note_second 11 x.at s) → P (noted_name heap o x s)
noted_by P true None x s a b = b
noted_by P true (Some n) x s a b = a
noted_by P false o x s a b = a

pub name_noted : (kind : IdentifierStatus) (base : ℕ) (o : Option ℕ) (before : List ListEntry) (heap : Bool) (x : Ident) (j h : ℕ) (s : State)
    → entered_name heap kind base o j h x (noted_name heap o x s) ≡ enter_name kind base o before heap x j h s
unfolding enter_name
name_noted kind base None before true x j h s = refl
name_noted kind base (Some n) before true x j h s = refl
name_noted kind base o before false x j h s = refl

pub noted_here : {rs : List ℕ} {heap : Bool} {o : Option ℕ} {at : ℕ} {p : Pass} {second : Option SecondRefusal} {F C A w : List ℕ} {s : State} {x : Ident}
    → NotesHeap heap o at p.second second → Here rs at (raw p F C A w) s x → Here rs at (raw (with_second second p) F C A w) (noted_name heap o x s) x
noted_here {rs} {heap} {o} {p = p} {w = w} {s} {x} n a = record {
  known = a.known;
  place = a.place;
  good = noted_by (Good rs) heap o x s a.good (good_second 11 x.at a.good);
  tied = tied_works (noted_name heap o x s) a.tied (noted_by (λ t. t.facts ≡ s.facts) heap o x s refl refl)
      (n.is p w s x refl a.place a.tied.works);
}

pub enters_name : {heap : Bool} {g : Entering} {rs : List ℕ} {at j h d : ℕ} {k : IdentifierStatus} {e : Coded} {q : Span} {v : SemanticInformation} {p p' : Pass}
    {F w F' w' : List ℕ} → d ≡ p.scope.depth → e ≡ coded (name_entry heap g.base g.heaps j h d) → k ≡ cond heap HeapAllocated g.kind
    → q ≡ span_of (nth rs at) → v ≡ new k d q → Named rs at e v p F w p' F' w' → EntersName heap g rs at j h p F w p' F' w'
enters_name {heap} {g} {j = j} {h} {v = v} ed ee ek eq ev m = record {
  is = λ C. record {
    is = λ A s x a.
        let c = depth_is a.tied.works in
        let z : v ≡ new (cond heap HeapAllocated g.kind) (depth s) (span x) = ev ∙ rw (ek, ed, c, eq ∙ known-span a.known a.place) in
        rw (← z) ((m.is C (name_entry heap g.base g.heaps j h (depth s)) (ee ∙ rw (ed, c))).is A s x a);
  };
}
