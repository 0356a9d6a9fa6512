-- Lets, over states: at their end.
use Rattle.std.specs.Prelude.{Option, None, Some}
use Prim.Native.Nat.{ℕ, ◌+◌, ◌*◌, ◌≤◌, ◌<◌}
use mathlib.Core.List.{List, [], ◌∷◌}
use mathlib.Core.Bool.{Bool, true, false, not, true≢false}
use mathlib.Core.Path.{◌≡◌, refl, ap, sym, subst, ◌∙◌}
use native.Mathlib.Omega.{arith}
use lib.ListN.{length, get_or}
use borrow.Author.Tests.{not-true, not-false}
use Rattle.tree.specs.Tree.{Ident, Node}
use Rattle.semantic.specs.Rows.{Row, Blank, Variable, Function, CallSite, Let, ListEntry, row_width, put_row}
use Rattle.semantic.specs.Kinds.{is_blank}
use Rattle.semantic.specs.Leaves.{Stores, Tells}
use Rattle.semantic.specs.declared.LetInformation.{LetInformation}
use Rattle.pass.specs.State.{State, Entry, row_at, no_entry, entry_at, list_entry_of, insert, amend}
use Rattle.pass.specs.Lists.{store_arguments}
use Rattle.pass.specs.Lambda.{mark_last, close_scope, close_layer, leave_names, entered, function_id, make_let, close_let}
use Rattle.pass_laws.specs.Laws.Sound.Scopes.{each_leave_names}
use Rattle.pass.specs.Run.{rows_most, list_entries_most}
use Rattle.work.specs.Works.{Spacious}
use Rattle.work.specs.Laws.Works.{spacious, arguments_top_lem}
use Rattle.work.specs.Leaves.{Becomes}
use Rattle.work.specs.Tied.{raw, Tied, Good, Fits}
use Rattle.work.specs.Laws.Tied.{tied_works}
use Rattle.work.specs.Laws.Good.{Sized, sized_same, sized_then, good_each, sized_last}
use Rattle.work.specs.declared.Pass.{Pass}
use Rattle.walk.specs.declared.uses.Names.{Names}
use Rattle.lists.specs.Contract.{Told}
use Rattle.layers.specs.Contract.{LetEnds, ClosesLet}
use Rattle.flags.specs.declared.Around.{Around}
use Rattle.work.specs.Laws.Fits.{fact_inside, tied_insert, told}
use Rattle.binders.specs.Leave.{NamesStore, StoresNames, LeavesNames}
use Rattle.layers.specs.Lets.{make_if, MakeFits, MakesLet, TellsFunction}
use Rattle.binders.specs.Laws.Lengths.{entered-length}

-- What the names leave as it was: the lists, and every entry

pub record Kept (s t : State) : Type 0 where
  pub sized : Sized s t
  pub top : t.facts.arguments_top ≡ s.facts.arguments_top
  pub entries : t.scope.entries ≡ s.scope.entries

kept_then : {s t u : State} → Kept s t → Kept t u → Kept s u
kept_then a b = record { sized = sized_then a.sized b.sized; top = b.top ∙ a.top; entries = b.entries ∙ a.entries }

kept_last : (o : Option Ident) (s : State) → Kept s (mark_last o s)
unfolding amend insert
kept_last None s = record { sized = sized_same s; top = refl; entries = refl }
kept_last (Some x) s = record { sized = sized_last (Some x) s; top = refl; entries = refl }

pub leave_kept : (xs : List Ident) (s : State) → Kept s (leave_names xs s)
unfolding leave_names
leave_kept [] s = record { sized = sized_same s; top = refl; entries = refl }
leave_kept (x ∷ xs) s =
    kept_then (record { sized = record { rows = refl; arguments = refl }; top = refl; entries = refl })
    (kept_then (kept_last (entry_at s x.at).last_used _) (leave_kept xs _))

good_leave : {rs : List ℕ} {s : State} (xs : List Ident) → Good rs s → Good rs (leave_names xs s)
good_leave {s = s} xs g = good_each g (leave_kept xs s).sized (λ Q l F z h. each_leave_names l z xs h)

entered_as : (xs : List Ident) (s t : State) → t.scope.entries ≡ s.scope.entries → entered xs t ≡ entered xs s
unfolding entered
entered_as [] s t e = refl
entered_as (x ∷ xs) s t e =
    ap (λ (l : List Entry). list_entry_of x (get_or l x.at no_entry) ∷ entered xs t) e ∙ ap (λ (l : List ListEntry). list_entry_of x (entry_at s x.at) ∷ l) (entered_as xs s t e)

-- The fact

module _ {rs : List ℕ} {blank : Bool} {at : ℕ} {n : Names} {a : Option Around} {p : Pass} {F A w : List ℕ} where
  pub not_made : {height : ℕ} → not blank ≡ true → MakesLet rs blank at n height a p F A w p F A
  not_made e = record { is = λ C s xs m function en ar t f. rw (not-true blank e) f.tied }

  pub make-names : not blank ≡ false → MakeFits rs blank at n a p F A w → NamesStore rs n p A w
  make-names e b =
      record { facts = F; captured = b.captured; s = b.s; xs = b.xs; told = b.told; fits = b.fits; room = b.room (not-false blank e) }

  pub make-top : not blank ≡ false → MakeFits rs blank at n a p F A w → p.arguments_top + n.count ≤ list_entries_most
  make-top e b = omega (arith, arguments_top_lem b.fits.tied.works, b.room (not-false blank e))

  pub make_fact : MakeFits rs blank at n a p F A w → row_width * at + row_width ≤ length F
  make_fact b = fact_inside b.fits.tied b.fits.good.rows at b.few

  pub let_made : {height : ℕ} → not blank ≡ false → at < rows_most → {q : Pass} {F' A' : List ℕ} {top count id : ℕ} {v : LetInformation} → StoresNames rs n p A w q A'
      → top ≡ p.arguments_top → count ≡ n.count → TellsFunction a id
      → v ≡ record { stack_offset = height; function_context = id; arguments = record { first = top; length = count } }
      → Stores put_row F at (Let v) F' → MakesLet rs blank at n height a p F A w q F' A'
  unfolding store_arguments
  let_made {height} e few {q} {F'} {A'} {top} {count} {id} {v} k et ec ei ev st = record {
    is = λ C s xs m function en ar t f.
        let u = k.is F C s xs t f in
        let x : v ≡ record { stack_offset = height; function_context = function_id function; arguments = record { first = s.facts.arguments_top; length = length (entered xs s) } } =
        ev ∙ rw (et, ec, ei.is function ar, arguments_top_lem f.tied.works, entered-length xs s, t.count) in
        let y : Stores put_row F m.at (Let v) F' = rw en st in
        rw (not-false blank e, ← x) (tied_insert u f.good.rows m.at (omega arith) (Let v) y);
  }

-- The end

close_facts : (b : Bool) (s : State) → (close_layer b s).facts ≡ s.facts
unfolding close_layer close_scope
close_facts true s = refl
close_facts false s = refl

pub closes_layer : {opened : Bool} {p q : Pass} {w w' : List ℕ} → opened ≡ true → Becomes p w close_scope q w' → Becomes p w (close_layer opened) q w'
unfolding close_layer
closes_layer e k = record { is = λ s h. rw e (k.is s h) }

pub closes_none : {opened : Bool} {p : Pass} {w : List ℕ} → opened ≡ false → Becomes p w (close_layer opened) p w
unfolding close_layer
closes_none e = record { is = λ s h. rw e h }

-- a row is blank, or has a fact
made_by : (r : Row) (b : Bool) → b ≡ is_blank r → (m : Node) (l : List ListEntry) (height : ℕ) (function : Option Node) (s : State)
    → make_if b m l height function s ≡ make_let r m l height function s
made_by Blank b e m l height function s = rw e
made_by (Variable v) b e m l height function s = rw e
made_by (Function v) b e m l height function s = rw e
made_by (CallSite v) b e m l height function s = rw e
made_by (Let v) b e m l height function s = rw e

blank-row : (r : Row) → is_blank r ≡ true → r ≡ Blank
blank-row Blank e = refl
blank-row (Variable v) e = absurd (true≢false (sym e))
blank-row (Function v) e = absurd (true≢false (sym e))
blank-row (CallSite v) e = absurd (true≢false (sym e))
blank-row (Let v) e = absurd (true≢false (sym e))

left-fits : {rs : List ℕ} {n : Names} {p q : Pass} {F F₁ C A w w₁ : List ℕ} {s : State} {xs : List Ident} → LeavesNames rs n p F w q F₁ w₁ → Told rs n xs
    → Fits rs (raw p F C A w) s → Fits rs (raw q F₁ C A w₁) (leave_names xs s)
left-fits {C = C} {A} {s = s} {xs} leaves u f = record { good = good_leave xs f.good; tied = leaves.is C A s xs u f }

module _ {rs : List ℕ} {at : ℕ} {n : Names} {p : Pass} {F A w : List ℕ} where
  pub ends_fact : {a : Option Around} → LetEnds rs at n a p F A w → row_width * at + row_width ≤ length F
  ends_fact b = fact_inside b.fits.tied b.fits.good.rows at b.few

  module _ {blank : Bool} (t : Tells put_row Blank is_blank F at blank) {q : Pass} {F₁ w₁ : List ℕ} (leaves : LeavesNames rs n p F w q F₁ w₁) where
    pub ends_make : {a : Option Around} → LetEnds rs at n a p F A w → MakeFits rs blank at n a q F₁ A w₁
    ends_make b = record {
      captured = b.captured;
      s = leave_names b.xs b.s;
      xs = b.xs;
      told = b.told;
      fits = left-fits leaves b.told b.fits;
      few = b.few;
      room = λ e.
          let z = blank-row (row_at b.s at) (sym (told b.fits.tied b.fits.good.rows at b.few is_blank t) ∙ e) in
          omega (arith, b.room z, (leave_kept b.xs b.s).top);
    }

    module _ {a : Option Around} {height : ℕ} {r : Pass} {F' A' : List ℕ} (makes : MakesLet rs blank at n height a q F₁ A w₁ r F' A') where
      pub ends_spacious : LetEnds rs at n a p F A w → Spacious r w₁
      ends_spacious b =
          let m : Node = record { at = at; id = 0; from = 0; to = 0 } in
          spacious (makes.is b.captured _ b.xs m b.function refl b.around b.told (left-fits leaves b.told b.fits)).works

      pub let_closes : at < rows_most → {opened : Bool} {r' : Pass} {w₂ : List ℕ} → Becomes r w₁ (close_layer opened) r' w₂
          → ClosesLet rs opened at n height a p F A w r' F' A' w₂
      unfolding close_let
      let_closes few {opened} k = record {
        is = λ C s xs m function em ar u f.
            let l = leave_names xs s in
            let bl : blank ≡ is_blank (row_at s m.at) = told f.tied f.good.rows at few is_blank t ∙ ap (λ (i : ℕ). is_blank (row_at s i)) (sym em) in
            let en = entered_as xs s l (leave_kept xs s).entries in
            let d = make_let (row_at s m.at) m (entered xs s) height function l in
            let same : make_if blank m (entered xs l) height function l ≡ d =
            ap (λ (i : List ListEntry). make_if blank m i height function l) en ∙ made_by (row_at s m.at) blank bl m (entered xs s) height function l in
            let v : Tied (raw r F' C A' w₁) d = subst (λ (z : State). Tied (raw r F' C A' w₁) z) same (makes.is C l xs m function em ar u (left-fits leaves u f)) in
            tied_works _ v (close_facts opened d) (k.is d v.works);
      }
