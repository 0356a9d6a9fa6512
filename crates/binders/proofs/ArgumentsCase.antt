-- Argument lists, over states.
use Prim.Native.Nat.{ℕ, suc, ◌+◌, ◌-◌, ◌≤◌, ◌<◌}
use mathlib.Core.List.{List, [], ◌∷◌}
use mathlib.Core.Path.{◌≡◌, refl, ap, sym, subst, ◌∙◌}
use native.Mathlib.Omega.{arith}
use lib.ListN.{length, set, length-set, length-map}
use lib.Seq.{sets}
use Rattle.table.specs.Layout.{layout}
use Rattle.table.specs.Laws.Layout.{length-layout}
use Rattle.tree.specs.Record.{records, nth}
use Rattle.tree.specs.Tree.{Ident, named, NumNames}
use Rattle.tree.specs.Stands.{NamesStand}
use Rattle.tree.proofs.Laws.Stands.{first_name, later-names}
use Rattle.scope_map.specs.ScopeMap.{Live, newest_layer}
use Rattle.scope_map.specs.declared.Row.{Row}
use Rattle.semantic.specs.Rows.{ListEntry, list_entry_width, put_list_entry}
use Rattle.semantic.specs.Laws.Rows.{list-entry_long}
use Rattle.semantic.specs.Leaves.{StoresListEntry}
use Rattle.semantic.specs.declared.ScopeInfo.{ScopeInfo}
use Rattle.pass.specs.State.{State, entry_at, list_entry_of}
use Rattle.pass.specs.Lists.{store_arguments}
use Rattle.pass.specs.Lambda.{list_entries_of, entered}
use Rattle.pass.specs.Run.{rows_most, list_entries_most, list_entries_length}
use Rattle.work.specs.Laws.Works.{names-many, captured_top_lem, arguments_top_lem}
use Rattle.work.specs.Laws.Kept.{facts_kept}
use Rattle.work.specs.Passes.{with_tops}
use Rattle.work.specs.Leaves.{LoadsEntry}
use Rattle.work.specs.Scope.{since, LiveRow, TellsLive, StartsLayer}
use Rattle.work.specs.Tied.{raw, Tied, Fits}
use Rattle.work.specs.declared.Pass.{Pass}
use Rattle.work.specs.declared.entries.Entry.{Entry as Coded}
use Rattle.walk.specs.declared.uses.Names.{Names}
use Rattle.lists.specs.Contract.{Told, Infos}
use Rattle.lists.specs.Given.{SomeEntry}
use Rattle.binders.specs.Leave.{BinderFits, LayerFits, NamesStore, StoresArgument, StoresLayer, StoresNames}
use Rattle.work.specs.Laws.Known.{known_ident}
use Rattle.names.specs.Laws.Idents.{known_name, known-inside, known_few}
use Rattle.binders.specs.Laws.Lengths.{entered-length, list_entries_length_lem}
use Rattle.binders.proofs.EndsCase.{since-end, row-known}

-- One binder

module _ {rs : List ℕ} {b : ℕ} {w : List ℕ} where
  pub binder_inside : BinderFits rs b w → b < length (records rs)
  binder_inside a = known-inside a.here.known a.here.place

  pub binder_few : BinderFits rs b w → b < rows_most
  binder_few a = known_few a.here.known a.here.place

  pub binder_info : BinderFits rs b w → {e : Coded} → LoadsEntry w b e → SomeEntry rs b e
  binder_info a k = record {
    x = a.x;
    v = entry_at a.s b;
    known = a.here.known;
    place = a.here.place;
    code = k.is a.p a.s a.here.tied.works;
    lasts = λ y q. a.here.good.sound.lasts b y q;
  }

  pub argument_stored : {to name : ℕ} {e : Coded} {info : ScopeInfo} {A A' : List ℕ} → LoadsEntry w b e → name ≡ (nth rs b).name → Infos rs b e info
      → StoresListEntry A to name info A' → StoresArgument rs b to A w A'
  argument_stored le en ei k = record {
    is = λ p F C B l s x known place f q h.
        let i = ei.is x (entry_at s b) known place (le.is p s f.tied.works) (λ y z. f.good.sound.lasts b y z) in
        (k.is (list_entry_of x (entry_at s b)) (sym (en ∙ known_name known place)) (sym i)).is l q h;
  }

-- Part of a list is stored, up to row `to`; the rest is `left`

pub record Filled (s : State) (list_entries : List ListEntry) (to : ℕ) (A : List ℕ) (left : List ListEntry) : Type 0 where
  pub l : List ListEntry
  pub table : A ≡ layout put_list_entry l
  pub many : length l ≡ list_entries_most
  pub same : sets l to left ≡ sets s.facts.arguments s.facts.arguments_top list_entries
  pub ends : to + length left ≡ s.facts.arguments_top + length list_entries

module _ {s : State} {list_entries : List ListEntry} where
  pub filled_none : {rs : List ℕ} {p : Pass} {F C A w : List ℕ} → Fits rs (raw p F C A w) s → {to : ℕ} → to ≡ s.facts.arguments_top → Filled s list_entries to A list_entries
  filled_none f e = record { l = s.facts.arguments; table = f.tied.arguments; many = f.good.arguments; same = rw e; ends = omega arith }

  pub filled_more : {to : ℕ} {A A' : List ℕ} {i : ListEntry} {left : List ListEntry} (d : Filled s list_entries to A (i ∷ left)) → A' ≡ layout put_list_entry (set d.l to i)
      → Filled s list_entries (to + 1) A' left
  filled_more {to} {i = i} d e =
      let n : to + 1 ≡ suc to = omega arith in
      record { l = set d.l to i; table = e; many = length-set d.l to i ∙ d.many; same = rw n d.same; ends = omega (arith, d.ends) }

  pub filled_all : {rs : List ℕ} {p p' : Pass} {F C A A' w : List ℕ} {to : ℕ} → Fits rs (raw p F C A w) s → Filled s list_entries to A' []
      → p' ≡ with_tops p.captured_top to p → Tied (raw p' F C A' w) (store_arguments list_entries s)
  unfolding store_arguments
  filled_all {p = p} {to = to} f d e =
      let top : to ≡ s.facts.arguments_top + length list_entries = omega (arith, d.ends) in
      record {
        facts = f.tied.facts;
        captured = f.tied.captured;
        arguments = d.table ∙ ap (layout put_list_entry) d.same;
        works = rw (e, captured_top_lem f.tied.works, top) (facts_kept f.tied.works (store_arguments list_entries s).facts refl);
      }

-- The names of a let

pub record NamesLeft (rs : List ℕ) (at k : ℕ) (s : State) (list_entries : List ListEntry) (to : ℕ) (A : List ℕ) : Type 0 where
  pub N : ℕ
  pub rest : List Ident
  pub stand : NamesStand N rs at rest
  pub count : length rest ≡ k
  pub filled : Filled s list_entries to A (entered rest s)

pub record Storing (rs : List ℕ) (n : Names) (p : Pass) (A w : List ℕ) (to at : ℕ) (A' : List ℕ) : Type 0 where
  pub is : (F C : List ℕ) (s : State) (xs : List Ident) → Told rs n xs → Fits rs (raw p F C A w) s
      → NamesLeft rs at (n.first + n.count - at) s (entered xs s) to A'

module _ {rs : List ℕ} {n : Names} {p : Pass} {A w : List ℕ} where
  pub storing_starts : Storing rs n p A w p.arguments_top n.first A
  storing_starts = record {
    is = λ F C s xs t f. record {
      N = t.many;
      rest = xs;
      stand = t.stand;
      count = omega (arith, t.count);
      filled = filled_none f (arguments_top_lem f.tied.works);
    };
  }

  pub store_few : NamesStore rs n p A w → n.first + n.count ≤ 4096
  store_few a = omega (arith, a.told.stand.within.few, length-map a.xs named, a.told.count)

  module _ {to i : ℕ} {A' : List ℕ} (m : Storing rs n p A w to i A') where
    pub storing_ends : n.first + n.count ≤ i → {p' : Pass} → p' ≡ with_tops p.captured_top to p → StoresNames rs n p A w p' A'
    unfolding entered
    storing_ends h {p'} e = record {
      is = λ F C s xs t f. let l = m.is F C s xs t f in filled_all f (none l.rest l.count l.filled) e;
    }
      where
        none : {s : State} {list_entries : List ListEntry} (xs : List Ident) → length xs ≡ n.first + n.count - i → Filled s list_entries to A' (entered xs s) → Filled s list_entries to A' []
        none [] c d = d
        none (x ∷ xs) c d = absurd (omega arith)

    pub storing_goes : i < n.first + n.count → {A'' : List ℕ} → to < list_entries_most → StoresArgument rs i to A' w A'' → Storing rs n p A w (to + 1) (i + 1) A''
    unfolding entered NumNames
    storing_goes h {A''} room k = record {
      is = λ F C s xs t f. let l = m.is F C s xs t f in go F C s (entered xs s) l.N l.rest l.stand l.count l.filled f;
    }
      where
        go : (F C : List ℕ) (s : State) (list_entries : List ListEntry) (N : ℕ) (xs : List Ident) → NamesStand N rs i xs → length xs ≡ n.first + n.count - i
            → Filled s list_entries to A' (entered xs s) → Fits rs (raw p F C A w) s → NamesLeft rs (i + 1) (n.first + n.count - (i + 1)) s list_entries (to + 1) A''
        go F C s list_entries N [] a c d f = absurd (omega arith)
        go F C s list_entries N (x ∷ xs) a c d f =
            let at : x.at ≡ i = a.num.0 in
            let e : A'' ≡ layout put_list_entry (set d.l to (list_entry_of x (entry_at s x.at))) =
            k.is p F C A d.l s x (known_ident (first_name a)) at f d.table (omega (arith, d.many))
            ∙ ap (λ (z : ℕ). layout put_list_entry (set d.l to (list_entry_of x (entry_at s z)))) (sym at) in
            record {
              N = N;
              rest = xs;
              stand = later-names a;
              count = omega arith;
              filled = filled_more d e;
            }

    module _ (a : NamesStore rs n p A w) where
      here : NamesLeft rs i (n.first + n.count - i) a.s (entered a.xs a.s) to A'
      here = m.is a.facts a.captured a.s a.xs a.told a.fits

      pub storing_room : i < n.first + n.count → to < list_entries_most
      storing_room h = omega (arith, here.filled.ends, here.count, entered-length here.rest a.s, entered-length a.xs a.s, a.told.count, a.room)

      pub storing_table : length A' ≡ list_entries_length
      storing_table = omega (arith, ap length here.filled.table, length-layout list_entry_width put_list_entry list-entry_long here.filled.l, here.filled.many)

      pub storing_binder : i < n.first + n.count → BinderFits rs i w
      unfolding NumNames
      storing_binder h = go here.rest here.stand here.count
        where
          go : (xs : List Ident) → NamesStand here.N rs i xs → length xs ≡ n.first + n.count - i → BinderFits rs i w
          go [] s c = absurd (omega arith)
          go (x ∷ xs) s c = record {
            p = p;
            facts = a.facts;
            captured = a.captured;
            arguments = A;
            s = a.s;
            x = x;
            here = record { known = known_ident (first_name s); place = s.num.0; good = a.fits.good; tied = a.fits.tied };
          }

-- The names of the newest layer, from row i on

pub record Layering (rs : List ℕ) (p : Pass) (A w : List ℕ) (to i : ℕ) (A' : List ℕ) : Type 0 where
  pub is : (F C : List ℕ) (s : State) → Fits rs (raw p F C A w) s
      → Filled s (list_entries_of s (newest_layer s.scope.names)) to A' (list_entries_of s (since i s.scope.names.live))

module _ {rs : List ℕ} {p : Pass} {A w : List ℕ} where
  pub layering_starts : {i : ℕ} → StartsLayer p w i → Layering rs p A w p.arguments_top i A
  layering_starts {i} k = record {
    is = λ F C s f.
        subst (λ (l : List (Live Ident)). Filled s (list_entries_of s (newest_layer s.scope.names)) p.arguments_top A (list_entries_of s l))
        (k.is s f.tied.works) (filled_none f (arguments_top_lem f.tied.works));
  }

  module _ {to i : ℕ} {A' : List ℕ} (m : Layering rs p A w to i A') where
    pub layering_ends : p.scope.length ≤ i → {p' : Pass} → p' ≡ with_tops p.captured_top to p → StoresLayer rs p A w p' A'
    layering_ends h {p'} e = record {
      is = λ F C s f.
          let z = since-end s.scope.names.live i (omega (arith, names-many f.tied.works)) in
          filled_all f (subst (λ (l : List (Live Ident)). Filled s (list_entries_of s (newest_layer s.scope.names)) to A' (list_entries_of s l)) z (m.is F C s f)) e;
    }

    module _ {r : Row} (t : TellsLive p w i r) where
      -- the next name first
      row_first : {F C : List ℕ} {s : State} (f : Fits rs (raw p F C A w) s) (k : LiveRow s.scope.names.live i r)
          → Filled s (list_entries_of s (newest_layer s.scope.names)) to A'
          (list_entry_of k.live.value (entry_at s k.live.value.at) ∷ list_entries_of s (since (suc i) s.scope.names.live))
      row_first {F} {C} {s} f k =
          subst (λ (l : List (Live Ident)). Filled s (list_entries_of s (newest_layer s.scope.names)) to A' (list_entries_of s l)) k.on (m.is F C s f)

      pub layering_goes : {b : ℕ} {A'' : List ℕ} → b ≡ r.value → to < list_entries_most → StoresArgument rs b to A' w A'' → Layering rs p A w (to + 1) (i + 1) A''
      layering_goes {b} {A''} eb room k = record {
        is = λ F C s f.
            let row = t.is s f.tied.works in
            let d = row_first f row in
            let x = row.live.value in
            let at : x.at ≡ b = sym (eb ∙ row.value) in
            let e : A'' ≡ layout put_list_entry (set d.l to (list_entry_of x (entry_at s x.at))) =
            k.is p F C A d.l s x (row-known i f.good row) at f d.table (omega (arith, d.many))
            ∙ ap (λ (z : ℕ). layout put_list_entry (set d.l to (list_entry_of x (entry_at s z)))) (sym at) in
            let n : suc i ≡ i + 1 = omega arith in
            subst (λ (z : ℕ). Filled s (list_entries_of s (newest_layer s.scope.names)) (to + 1) A'' (list_entries_of s (since z s.scope.names.live))) n (filled_more d e);
      }

      module _ (a : LayerFits rs p A w) where
        pub layering_room : to < list_entries_most
        layering_room =
            let d = row_first a.fits (t.is a.s a.fits.tied.works) in
            omega (arith, d.ends, list_entries_length_lem a.s (newest_layer a.s.scope.names), a.room)

        pub layering_binder : {b : ℕ} → b ≡ r.value → BinderFits rs b w
        layering_binder e =
            let k = t.is a.s a.fits.tied.works in
            record {
              p = p;
              facts = a.facts;
              captured = a.captured;
              arguments = A;
              s = a.s;
              x = k.live.value;
              here = record { known = row-known i a.fits.good k; place = sym (e ∙ k.value); good = a.fits.good; tied = a.fits.tied };
            }

    pub layering_table : LayerFits rs p A w → length A' ≡ list_entries_length
    layering_table a =
        let d = m.is a.facts a.captured a.s a.fits in
        omega (arith, ap length d.table, length-layout list_entry_width put_list_entry list-entry_long d.l, d.many)
