-- Names at their end, over states: last uses, parameters, and the names of a let.
use Rattle.std.specs.Prelude.{Option, None, Some}
use Prim.Native.Nat.{ℕ, suc, ◌+◌, ◌-◌, ◌*◌, ◌≤◌, ◌<◌}
use mathlib.Core.List.{List, [], ◌∷◌}
use mathlib.Core.Path.{◌≡◌, refl, ap, sym, subst, ◌∙◌}
use native.Mathlib.Omega.{arith}
use lib.ListN.{length, length-map}
use Rattle.tree.specs.Record.{records, nth}
use Rattle.tree.specs.Tree.{Ident, named}
use Rattle.tree.proofs.Laws.Stands.{names-inside}
use Rattle.tree.specs.Accepted.{All}
use Rattle.scope_map.specs.ScopeMap.{Live, newest_layer}
use Rattle.scope_map.specs.declared.Row.{Row}
use Rattle.semantic.specs.Information.{mark_last_usage, shadows, with_usage_count}
use Rattle.semantic.specs.Rows.{Blank, row_width, put_row}
use Rattle.semantic.specs.Amend.{amended}
use Rattle.semantic.specs.Leaves.{Amends}
use Rattle.pass.specs.State.{State, Scope, entry_at, newest, id_of, insert, amend}
use Rattle.pass.specs.Lambda.{mark_last, mark_lasts, ended_fact, end_parameters, leave_names}
use Rattle.pass_laws.specs.Laws.Sound.Lists.{all_drop}
use Rattle.pass.specs.Run.{rows_most, facts_length}
use Rattle.work.specs.Known.{Known}
use Rattle.work.specs.Coded.{last_code}
use Rattle.work.specs.Works.{Works, Spacious}
use Rattle.work.specs.Laws.Works.{spacious, names-many}
use Rattle.work.specs.Leaves.{Becomes, LoadsEntry}
use Rattle.work.specs.Scope.{KnownHere, TellsId, removed, before, since, LiveRow, TellsLive, StartsLayer}
use Rattle.work.specs.Tied.{Raw, raw, Tied, Good, Fits}
use Rattle.work.specs.declared.Pass.{Pass}
use Rattle.work.specs.declared.entries.Entry.{Entry as Coded}
use Rattle.walk.specs.declared.uses.Names.{Names}
use Rattle.lists.specs.Contract.{Told}
use Rattle.work.specs.Laws.Fits.{fact_inside, facts_length_lem, tied_amend}
use Rattle.binders.specs.Laws.Good.{good_last, good_ended, good_removed}
use Rattle.binders.specs.Leave.{Marked, MarksLast, MarksLasts, NamesEnd, EndsParameters, LeavesNames}
use Rattle.names.specs.Laws.Idents.{known_name}
use Rattle.binders.proofs.Names.{Left, left-all, moved, left_done, left-head}

-- A last use

pub marks-last : {last i : ℕ} {F F' : List ℕ} → (last ≡ 0 → ⊥) → last ≤ rows_most → i ≡ last - 1 → Amends put_row Blank (amended mark_last_usage) F i F'
    → MarksLast last F F'
marks-last {last} {i} {F} {F'} z h e k = record { is = λ rs p C A w s o q f. go p C A w s o q f.tied f.good.rows }
  where
    go : (p : Pass) (C A w : List ℕ) (s : State) (o : Option Ident) → last ≡ last_code o → Tied (raw p F C A w) s → length s.facts.rows ≡ rows_most
        → Tied (raw p F' C A w) (mark_last o s)
    go p C A w s None q t n = absurd (z q)
    go p C A w s (Some x) q t n =
        let j : i ≡ x.at = omega arith in
        tied_amend t n x.at (omega arith) mark_last_usage (subst (λ (m : ℕ). Amends put_row Blank (amended mark_last_usage) F m F') j k)

pub marks-none : {last : ℕ} {F : List ℕ} → last ≡ 0 → MarksLast last F F
marks-none {last} {F} z = record { is = λ rs p C A w s o q f. go p C A w s o q f.tied }
  where
    go : (p : Pass) (C A w : List ℕ) (s : State) (o : Option Ident) → last ≡ last_code o → Tied (raw p F C A w) s → Tied (raw p F C A w) (mark_last o s)
    go p C A w s None q t = t
    go p C A w s (Some x) q t = absurd (omega arith)

-- the number that an entry has for its last use
pub last_few : {rs : List ℕ} {s : State} (i : ℕ) → Good rs s → last_code (entry_at s i).last_used ≤ rows_most
last_few {rs} {s} i g = go (entry_at s i).last_used refl
  where
    go : (o : Option Ident) → (entry_at s i).last_used ≡ o → last_code o ≤ rows_most
    go None e = omega arith
    go (Some y) e = omega (arith, (g.sound.lasts i y e).few)

last_of : {p : Pass} {w : List ℕ} {s : State} {i : ℕ} {e : Coded} → LoadsEntry w i e → Works p w s → e.last ≡ last_code (entry_at s i).last_used
last_of {p} {s = s} l k = ap (λ (c : Coded). c.last) (l.is p s k)

last_scope : (o : Option Ident) (s : State) → (mark_last o s).scope ≡ s.scope
unfolding amend insert
last_scope None s = refl
last_scope (Some x) s = refl

-- Those of the newest layer, from row i on

pub record LeftOf (rs : List ℕ) (z : Raw) (i : ℕ) (out : State) : Type 0 where
  pub s : State
  pub fits : Fits rs z s
  pub same : mark_lasts (since i s.scope.names.live) s ≡ out

-- the state of the loop
pub record Lasting (p : Pass) (F w : List ℕ) (i : ℕ) (F' : List ℕ) : Type 0 where
  pub is : (rs C A : List ℕ) (s : State) → Fits rs (raw p F C A w) s → LeftOf rs (raw p F' C A w) i (mark_lasts (newest_layer s.scope.names) s)

-- a row past the end is none
pub since-end : (l : List (Live Ident)) (i : ℕ) → length l ≤ i → since i l ≡ []
since-end l i h = let z : length l - i ≡ 0 = omega arith in rw z

-- the binder in row i is known
pub row-known : {rs : List ℕ} {s : State} (i : ℕ) {r : Row} → Good rs s → (k : LiveRow s.scope.names.live i r) → Known rs k.live.value
row-known {rs} {s} i g k =
    let l = s.scope.names.live in
    let a : All (λ e. Known rs e.value) (k.live ∷ before i l) = rw k.up at (all_drop (λ (e : Live Ident). Known rs e.value) (length l - suc i) l g.sound.binders) in
    a.0

module _ {p : Pass} {F w : List ℕ} where
  pub lasting-starts : {i : ℕ} → StartsLayer p w i → Lasting p F w i F
  lasting-starts k = record {
    is = λ rs C A s f. record { s = s; fits = f; same = ap (λ (l : List (Live Ident)). mark_lasts l s) (sym (k.is s f.tied.works)) };
  }

  module _ {i : ℕ} {F' : List ℕ} (m : Lasting p F w i F') where
    pub lasting_ends : p.scope.length ≤ i → MarksLasts p F w F'
    unfolding mark_lasts
    lasting_ends h = record {
      is = λ rs C A s f.
          let l = m.is rs C A s f in
          let z = since-end l.s.scope.names.live i (omega (arith, names-many l.fits.tied.works)) in
          subst (λ (t : State). Tied (raw p F' C A w) t) (ap (λ (r : List (Live Ident)). mark_lasts r l.s) (sym z) ∙ l.same) l.fits.tied;
    }

    pub lasting_goes : {r : Row} {b : ℕ} {e : Coded} {F'' : List ℕ} → TellsLive p w i r → b ≡ r.value → LoadsEntry w b e → MarksLast e.last F' F''
        → Lasting p F w (i + 1) F''
    unfolding mark_lasts
    lasting_goes {r} {b} {e} {F''} t eb le k = record {
      is = λ rs C A s f.
          let l = m.is rs C A s f in
          let row = t.is l.s l.fits.tied.works in
          let x = row.live.value in
          let o = (entry_at l.s x.at).last_used in
          let q : e.last ≡ last_code o = last_of le l.fits.tied.works ∙ ap (λ (n : ℕ). last_code (entry_at l.s n).last_used) (eb ∙ row.value) in
          let n : suc i ≡ i + 1 = omega arith in
          record {
            s = mark_last o l.s;
            fits = record { good = good_last o l.fits.good; tied = k.is rs p C A w l.s o q l.fits };
            same = ap (λ (c : Scope). mark_lasts (since (i + 1) c.names.live) (mark_last o l.s)) (last_scope o l.s)
                ∙ ap (λ (j : ℕ). mark_lasts (since j l.s.scope.names.live) (mark_last o l.s)) (sym n)
                ∙ ap (λ (u : List (Live Ident)). mark_lasts u l.s) (sym row.on) ∙ l.same;
          };
    }

    module _ (a : Marked p F w) {r : Row} (t : TellsLive p w i r) where
      pub lasting_binder : r.value < rows_most
      lasting_binder =
          let l = m.is a.rs a.captured a.arguments a.s a.fits in
          let k = t.is l.s l.fits.tied.works in
          omega (arith, k.value, (row-known i l.fits.good k).few)

    pub lasting-last : Marked p F w → {b : ℕ} {e : Coded} → LoadsEntry w b e → e.last ≤ rows_most
    lasting-last a {b} {e} k =
        let l = m.is a.rs a.captured a.arguments a.s a.fits in
        omega (arith, last_of k l.fits.tied.works, last_few b l.fits.good)

    pub lasting_facts : Marked p F w → length F' ≡ facts_length
    lasting_facts a = let l = m.is a.rs a.captured a.arguments a.s a.fits in facts_length_lem l.fits.tied l.fits.good.rows

-- Parameters

end_one : Ident → State → State
end_one x s = amend (ended_fact (entry_at s x.at).usage_count (newest s x.name)) x.at s

ended_as : {F F' : List ℕ} {i i' n m id : ℕ} (o : Option Ident) → i ≡ i' → n ≡ m → id ≡ id_of o
    → Amends put_row Blank (amended (λ v. shadows id (with_usage_count n v))) F i F' → Amends put_row Blank (amended (ended_fact m o)) F i' F'
ended_as {F} {F'} {i} {i'} {n} {m} {id} o ei en eo k =
    subst (λ (c : ℕ). Amends put_row Blank (amended (λ v. shadows (id_of o) (with_usage_count c v))) F i' F') en
    (subst (λ (c : ℕ). Amends put_row Blank (amended (λ v. shadows c (with_usage_count n v))) F i' F') eo
    (subst (λ (c : ℕ). Amends put_row Blank (amended (λ v. shadows id (with_usage_count n v))) F c F') ei k))

pub record Ending (rs : List ℕ) (n : Names) (p : Pass) (F w : List ℕ) (at : ℕ) (F' : List ℕ) : Type 0 where
  pub is : (C A : List ℕ) (s : State) (xs : List Ident) → Told rs n xs → Fits rs (raw p F C A w) s
      → Left rs at (n.first + n.count - at) (raw p F' C A w) end_parameters (end_parameters xs s)

module _ {rs : List ℕ} {n : Names} {p : Pass} {F w : List ℕ} where
  pub ending-starts : Ending rs n p F w n.first F
  ending-starts = record { is = λ C A s xs t f. moved rs refl (omega arith) (left-all rs n xs _ end_parameters s t f) }

  pub end_few : NamesEnd rs n p F w → n.first + n.count ≤ 4096
  end_few a = omega (arith, a.told.stand.within.few, length-map a.xs named, a.told.count)

  pub end-inside : NamesEnd rs n p F w → n.first + n.count ≤ length (records rs)
  end-inside a = omega (arith, names-inside a.told.stand, a.told.count)

  module _ {i : ℕ} {F' : List ℕ} (m : Ending rs n p F w i F') where
    pub ending_ends : n.first + n.count ≤ i → EndsParameters rs n p F w F'
    unfolding end_parameters
    ending_ends h = record { is = λ C A s xs t f. left_done rs (m.is C A s xs t f) (omega arith) (λ u. refl) }

    pub ending_goes : i < n.first + n.count → {hidden name : ℕ} {e : Coded} {F'' : List ℕ} → LoadsEntry w i e → name ≡ (nth rs i).name
        → TellsId rs p w name hidden → Amends put_row Blank (amended (λ v. shadows hidden (with_usage_count e.uses v))) F' i F'' → Ending rs n p F w (i + 1) F''
    unfolding end_parameters end_one
    ending_goes h {hidden} {name} {e} {F''} le en t k = record {
      is = λ C A s xs q f.
          let l = m.is C A s xs q f in
          let x = left-head rs l (omega arith) in
          let y = x.x in
          let at : y.at ≡ i = x.here.place in
          let u : e.uses ≡ (entry_at l.s y.at).usage_count =
          ap (λ (c : Coded). c.uses) (le.is p l.s l.fits.tied.works) ∙ ap (λ (z : ℕ). (entry_at l.s z).usage_count) (sym at) in
          let o : hidden ≡ id_of (newest l.s y.name) =
          t.is l.s l.fits.tied.works l.fits.good.sound.binders ∙ ap (λ (z : ℕ). id_of (newest l.s z)) (en ∙ known_name x.here.known at) in
          let k' : Amends put_row Blank (amended (ended_fact (entry_at l.s y.at).usage_count (newest l.s y.name))) F' y.at F'' =
          ended_as (newest l.s y.name) (sym at) u o k in
          let g : Fits rs (raw p F'' C A w) (end_one y l.s) = record {
            good = good_ended y l.fits.good;
            tied = tied_amend l.fits.tied l.fits.good.rows y.at x.here.known.few _ k';
          } in
          moved rs refl (omega arith) (x.next _ end_one end_parameters (λ ys. refl) g);
    }

    pub ending-known : NamesEnd rs n p F w → KnownHere rs p w
    ending-known a = record { s = a.s; works = a.fits.tied.works; binders = a.fits.good.sound.binders }

    pub ending_fact : NamesEnd rs n p F w → i < rows_most → row_width * i + row_width ≤ length F'
    ending_fact a h = let l = m.is a.captured a.arguments a.s a.xs a.told a.fits in fact_inside l.fits.tied l.fits.good.rows i h

-- The names of a let

leave_one : Ident → State → State
leave_one x s = mark_last (entry_at s x.at).last_used (removed x.name s)

pub record Leaving (rs : List ℕ) (n : Names) (p : Pass) (F w : List ℕ) (at : ℕ) (q : Pass) (F' w' : List ℕ) : Type 0 where
  pub is : (C A : List ℕ) (s : State) (xs : List Ident) → Told rs n xs → Fits rs (raw p F C A w) s
      → Left rs at (n.first + n.count - at) (raw q F' C A w') leave_names (leave_names xs s)

module _ {rs : List ℕ} {n : Names} {p : Pass} {F w : List ℕ} where
  pub leaving_starts : Leaving rs n p F w n.first p F w
  leaving_starts = record { is = λ C A s xs t f. moved rs refl (omega arith) (left-all rs n xs _ leave_names s t f) }

  module _ {i : ℕ} {q : Pass} {F' w' : List ℕ} (m : Leaving rs n p F w i q F' w') where
    pub leaving_ends : n.first + n.count ≤ i → LeavesNames rs n p F w q F' w'
    unfolding leave_names
    leaving_ends h = record { is = λ C A s xs t f. left_done rs (m.is C A s xs t f) (omega arith) (λ u. refl) }

    pub leaving_goes : i < n.first + n.count → {name : ℕ} {e : Coded} {q' : Pass} {F'' w'' : List ℕ} → LoadsEntry w' i e → name ≡ (nth rs i).name
        → Becomes q w' (removed name) q' w'' → MarksLast e.last F' F'' → Leaving rs n p F w (i + 1) q' F'' w''
    unfolding leave_names leave_one
    leaving_goes h {name} {e} {q'} {F''} {w''} le en b k = record {
      is = λ C A s xs t f.
          let l = m.is C A s xs t f in
          let x = left-head rs l (omega arith) in
          let y = x.x in
          let at : y.at ≡ i = x.here.place in
          let o = (entry_at l.s y.at).last_used in
          let u : e.last ≡ last_code o = last_of le l.fits.tied.works ∙ ap (λ (z : ℕ). last_code (entry_at l.s z).last_used) (sym at) in
          let mid : Fits rs (raw q' F' C A w'') (removed y.name l.s) = record {
            good = good_removed y.name l.fits.good;
            tied = record {
              facts = l.fits.tied.facts;
              captured = l.fits.tied.captured;
              arguments = l.fits.tied.arguments;
              works = subst (λ (z : ℕ). Works q' w'' (removed z l.s)) (en ∙ known_name x.here.known at) (b.is l.s l.fits.tied.works);
            };
          } in
          let g : Fits rs (raw q' F'' C A w'') (leave_one y l.s) =
          record { good = good_last o mid.good; tied = k.is rs q' C A w'' (removed y.name l.s) o u mid } in
          moved rs refl (omega arith) (x.next _ leave_one leave_names (λ ys. refl) g);
    }

    module _ (a : NamesEnd rs n p F w) where
      here : Left rs i (n.first + n.count - i) (raw q F' a.captured a.arguments w') leave_names (leave_names a.xs a.s)
      here = m.is a.captured a.arguments a.s a.xs a.told a.fits

      pub leaving_spacious : Spacious q w'
      leaving_spacious = spacious here.fits.tied.works

      pub leaving_last : {e : Coded} → LoadsEntry w' i e → e.last ≤ rows_most
      leaving_last k = omega (arith, last_of k here.fits.tied.works, last_few i here.fits.good)

      pub leaving_facts : length F' ≡ facts_length
      leaving_facts = facts_length_lem here.fits.tied here.fits.good.rows
