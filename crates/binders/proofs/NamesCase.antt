-- Names enter one after another, over states.
use Rattle.std.specs.Prelude.{Option}
use Prim.Native.Nat.{ℕ, suc, ◌+◌, ◌-◌, ◌≤◌, ◌<◌}
use mathlib.Core.List.{List}
use mathlib.Core.Bool.{Bool, cond}
use mathlib.Core.Path.{◌≡◌, refl, ap, sym, subst, ◌∙◌}
use native.Mathlib.Omega.{arith}
use lib.ListN.{length, length-map}
use Rattle.tree.specs.Tree.{Ident, named}
use Rattle.semantic.specs.Rows.{ListEntry}
use Rattle.pass.specs.State.{State}
use Rattle.pass.specs.Lists.{list_in}
use Rattle.pass.specs.Lambda.{is_heap, enter_name, enter_names}
use Rattle.pass.specs.Run.{list_entries_length}
use Rattle.work.specs.Laws.Works.{names-many}
use Rattle.work.specs.Passes.{with_second}
use Rattle.work.specs.Tied.{Raw, raw, Tied, Fits}
use Rattle.work.specs.declared.Pass.{Pass}
use Rattle.work.specs.declared.SecondRefusal.{SecondRefusal}
use Rattle.walk.specs.declared.uses.Names.{Names}
use Rattle.names.specs.Contract.{Room, Defined, NamesRoom}
use Rattle.lists.specs.Contract.{Told}
use Rattle.binders.specs.Enter.{NamesFit, EntersNames, TellsHeap, NotesHeap, EntersName}
use Rattle.binders.specs.declared.enter.Entering.{Entering}
use Rattle.work.specs.Laws.Fits.{arguments_length}
use Rattle.binders.specs.Laws.Good.{good_name, grows_name}
use Rattle.binders.proofs.EnterCase.{name_noted, noted_here}
use Rattle.binders.proofs.Names.{Left, Head, left-all, left_done, left-head}

-- what is still to be done from place j on, after h heap entries
abbrev pub enters_from : Entering → List ListEntry → ℕ → ℕ → List Ident → State → State
enters_from g before j h xs s = enter_names g.kind g.base g.heaps before xs j h s

abbrev pub enter_one_name : Entering → List ListEntry → ℕ → ℕ → Ident → State → State
enter_one_name g before j h x s = enter_name g.kind g.base g.heaps before (is_heap before j) x j h s

moved : (rs : List ℕ) (g : Entering) (before : List ListEntry) {a a' k k' j j' h h' : ℕ} {z : Raw} {out : State} → a ≡ a' → k ≡ k' → j ≡ j' → h ≡ h'
    → Left rs a k z (enters_from g before j h) out → Left rs a' k' z (enters_from g before j' h') out
moved rs g before ea ek ej eh l = rw (← ea, ← ek, ← ej, ← eh) l

-- the state of the loop: j names have entered, h of them on the heap
pub record Coming (rs : List ℕ) (n : Names) (g : Entering) (p : Pass) (F A w : List ℕ) (j h : ℕ) (q : Pass) (F' w' : List ℕ) : Type 0 where
  pub is : (C : List ℕ) (s : State) (xs : List Ident) → Told rs n xs → Fits rs (raw p F C A w) s
      → Left rs (n.first + j) (n.count - j) (raw q F' C A w') (enters_from g (list_in s.facts.arguments g.before) j h)
      (enters_from g (list_in s.facts.arguments g.before) 0 0 xs s)

module _ {rs : List ℕ} {n : Names} {g : Entering} {p : Pass} {F A w : List ℕ} where
  pub coming_starts : Coming rs n g p F A w 0 0 p F w
  coming_starts = record { is = λ C s xs t f. moved rs g _ (omega arith) (omega arith) refl refl (left-all rs n xs _ _ s t f) }

  pub names-length : NamesFit rs n g p F A w → length A ≡ list_entries_length
  names-length a = arguments_length a.fits.tied a.fits.good.arguments

  -- names are records
  pub names_few : NamesFit rs n g p F A w → n.first + n.count ≤ 4096
  names_few a = omega (arith, a.told.stand.within.few, length-map a.xs named, a.told.count)

  module _ {j h : ℕ} {q : Pass} {F' w' : List ℕ} (m : Coming rs n g p F A w j h q F' w') where
    pub coming_ends : n.count ≤ j → EntersNames rs n g p F A w q F' w'
    unfolding enter_names
    coming_ends k = record { is = λ C s xs t f. left_done rs (m.is C s xs t f) (omega arith) (λ u. refl) }

    module _ (k : j < n.count) {b : Bool} (heap : TellsHeap A g.before j b) {second : Option SecondRefusal}
        (note : NotesHeap b g.heaps (n.first + j) q.second second) where
      pub coming_fits : NamesFit rs n g p F A w → NamesRoom q (n.count - j) → Room q × Defined rs (n.first + j) (with_second second q) F' w'
      coming_fits a r =
          let l = m.is a.captured a.s a.xs a.told a.fits in
          let x = left-head rs l (omega arith) in
          (omega arith, record { captured = a.captured; arguments = A; s = _; x = x.x; here = noted_here note x.here })

      is_heap_lem : {C : List ℕ} {s : State} → Fits rs (raw p F C A w) s → b ≡ is_heap (list_in s.facts.arguments g.before) j
      is_heap_lem {s = s} f = heap.is s.facts.arguments f.tied.arguments f.good.arguments

      module _ {q' : Pass} {F'' w'' : List ℕ} (e : EntersName b g rs (n.first + j) j h (with_second second q) F' w' q' F'' w'') where
        -- what the next name leaves
        came : {C : List ℕ} {s : State} (f : Fits rs (raw p F C A w) s) {each : List Ident → State → State} {out : State}
            (l : Left rs (n.first + j) (n.count - j) (raw q F' C A w') each out)
            (x : Head rs (n.first + j) (n.count - j) (raw q F' C A w') each l.s out)
            → Fits rs (raw q' F'' C A w'') (enter_one_name g (list_in s.facts.arguments g.before) j h x.x l.s)
        came {C} {s} f l x =
            let before = list_in s.facts.arguments g.before in
            let t : Tied (raw q' F'' C A w'') (enter_name g.kind g.base g.heaps before b x.x j h l.s) =
            subst (Tied (raw q' F'' C A w'')) (name_noted g.kind g.base g.heaps before b x.x j h l.s)
            ((e.is C).is A _ x.x (noted_here note x.here)) in
            record {
              good = good_name g.kind g.base g.heaps before (is_heap before j) x.x j h x.here.known l.fits.good;
              tied = rw (is_heap_lem f) at t;
            }

        pub coming_goes : {h' : ℕ} → h' ≡ cond b (suc h) h → Coming rs n g p F A w (j + 1) h' q' F'' w''
        unfolding enter_names
        coming_goes {h'} eh = record {
          is = λ C s xs t f.
              let before = list_in s.facts.arguments g.before in
              let l = m.is C s xs t f in
              let x = left-head rs l (omega arith) in
              let d : cond (is_heap before j) (suc h) h ≡ h' = sym (eh ∙ ap (λ (c : Bool). cond c (suc h) h) (is_heap_lem f)) in
              moved rs g before (omega arith) (omega arith) (omega arith) d
              (x.next _ (enter_one_name g before j h) (enters_from g before (suc j) (cond (is_heap before j) (suc h) h)) (λ ys. refl) (came f l x));
        }

        pub coming_room : NamesFit rs n g p F A w → NamesRoom q (n.count - j) → NamesRoom q' (n.count - (j + 1))
        coming_room a r =
            let before = list_in a.s.facts.arguments g.before in
            let l = m.is a.captured a.s a.xs a.told a.fits in
            let x = left-head rs l (omega arith) in
            omega (
              arith,
              names-many l.fits.tied.works,
              names-many (came a.fits l x).tied.works,
              (grows_name g.kind g.base g.heaps before x.x j h l.s).live,
            )
