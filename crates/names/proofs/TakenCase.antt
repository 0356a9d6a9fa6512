-- A read that takes a capture. No place of the code stands here.
use Rattle.std.specs.Prelude.{Option, Some}
use Rattle.std.specs.Option.{option_or}
use Prim.Native.Nat.{ℕ, suc, ◌+◌, ◌*◌, ◌≤◌, ◌<◌}
use mathlib.Core.List.{List}
use mathlib.Core.Bool.{Bool, true, false, cond, not, ◌&&◌}
use mathlib.Core.Path.{◌≡◌, refl, ap, sym, ◌∙◌, subst}
use native.Mathlib.Omega.{arith}
use lib.ListN.{length, get_or}
use lib.Dec.{eqb}
use borrow.Author.Tests.{eq-eqb, ne_eqb}
use Rattle.tree.specs.Record.{nth}
use Rattle.semantic.specs.Information.{NONE, with_usage_count}
use Rattle.semantic.specs.Rows.{Blank, Variable, row_width, put_row, no_list_entry, list_entry_width, put_list_entry}
use Rattle.semantic.specs.Laws.Marks.{bit_low}
use Rattle.semantic.specs.Amend.{amended}
use Rattle.semantic.specs.Leaves.{Stores, Amends, Tells}
use Rattle.semantic.specs.Laws.Leaves.{list-entry-inside}
use Rattle.semantic.specs.declared.ScopeInfo.{ScopeInfo}
use Rattle.semantic.specs.declared.SemanticInformation.{SemanticInformation}
use Rattle.semantic.specs.declared.Span.{Span}
use Rattle.pass.specs.State.{State, Capture, entry_at, info_at, put_entry, insert, last_entry, captured_entry, note_second, depth}
use Rattle.pass.specs.Read.{use_capture, note_taken, has_number, count_uses, taken_fact}
use Rattle.pass.specs.Lists.{captured_most}
use Rattle.pass.specs.Run.{rows_most, list_entries_most}
use Rattle.work.specs.Coded.{coded, capture_of}
use Rattle.work.specs.Entries.{used_last, now_captured}
use Rattle.work.specs.Works.{Works, capture_data_first}
use Rattle.work.specs.Laws.Works.{captured_many, depth_is}
use Rattle.work.specs.Laws.Kept.{second_noted}
use Rattle.work.specs.Passes.{with_second}
use Rattle.work.specs.Leaves.{LoadsEntry, StoresEntry}
use Rattle.work.specs.Captures.{LoadsCapture, UsesCapture}
use Rattle.work.specs.Laws.Captures.{found_below, captures_few, taken-uses}
use Rattle.work.specs.Tied.{raw, Tied, Good, row_count}
use Rattle.pass_laws.specs.Visitable.{uses_most}
use Rattle.work.specs.Laws.Tied.{count-amend, count-entry, facts_entry, tied_works, tied_insert, tied_amend}
use Rattle.work.specs.declared.Pass.{Pass}
use Rattle.work.specs.declared.SecondRefusal.{SecondRefusal}
use Rattle.work.specs.declared.SecondRefusal.TheVariants.{NoCapture}
use Rattle.work.specs.declared.captures.Capture.{Capture as CodedCapture}
use Rattle.work.specs.declared.entries.Entry.{Entry as Coded}
use Rattle.names.specs.Facts.{span_of, TakenFact}
use Rattle.names.specs.Rules.{Stands}
use Rattle.names.specs.Steps.{NotesTaken, Takeable, UsesTaken, TakenBound, ReadsTaken}
use Rattle.names.specs.Laws.Idents.{known-span, known_few}
use Rattle.names.proofs.KnownCase.{found_has, bounds}

-- The bounds of a capture that stands at a place

module _ {p : Pass} {w rs : List ℕ} {s : State} {name place row : ℕ} {c : Capture} (k : Works p w s) (g : Good rs s) (t : Stands s name place row c) where
  pub place_few : place < list_entries_most
  place_few = omega (arith, found_below s.captures.live name t.found, captures_few k)

  pub capture-uses : c.usage_count ≤ uses_most
  capture-uses = subst (λ (u : Capture). u.usage_count ≤ uses_most) t.is
      (found_has (λ e. e.value.usage_count ≤ uses_most) s.captures.live name g.counted.capture_uses t.newest)

  capture-known : (c.row < captured_most) × (c.binder.at < captured_most)
  capture-known = subst (λ (u : Capture). (u.row < captured_most) × (u.binder.at < captured_most)) t.is
      (found_has (λ e. (e.value.row < captured_most) × (e.value.binder.at < captured_most)) s.captures.live name g.sound.taken t.newest)

  pub row_few : row < list_entries_most
  row_few = omega (arith, capture-known.0, t.stands_for)

  pub binder_few : c.binder.at < rows_most
  binder_few = omega (arith, capture-known.1)

  -- one use more of it can be counted
  pub cell-fits : get_or w (capture_data_first + 2 * place + 1) 0 < 4294959104
  cell-fits =
      let e = taken-uses k name (found_below s.captures.live name t.found) t.found t.newest in
      omega (arith, e, bit_low t.live.value.from_enclosing, ap (λ (u : Capture). u.usage_count) t.is, capture-uses, ap (λ (u : Capture). u.binder.at) t.is, binder_few)

module _ {place : ℕ} {w : List ℕ} (k : Takeable place w) where
  pub takeable_place : place < list_entries_most
  takeable_place = place_few k.works k.good k.stands

  pub takeable_cell : get_or w (capture_data_first + 2 * place + 1) 0 < 4294959104
  takeable_cell = cell-fits k.works k.good k.stands

  -- of an entry, after the capture is used
  pub takeable_uses : {w' : List ℕ} {b : ℕ} {e : Coded} → UsesCapture w place w' → LoadsEntry w' b e → e.uses ≤ uses_most
  takeable_uses {b = b} u l =
      let z = k.stands in
      let k₁ = u.is k.p k.s k.name z.live.layer k.row k.works z.found in
      omega (arith, ap (λ (c : Coded). c.uses) (l.is k.p (use_capture k.name k.s) k₁), k.good.counted.entry_uses b)

-- Refusal 12, or not

-- an offset that is none, or not

pub no_number : {n : ℕ} → n ≡ NONE → has_number n ≡ false
no_number e = ap not (eq-eqb _ _ e)

pub number : {n : ℕ} → (n ≡ NONE → ⊥) → has_number n ≡ true
number k = ap not (ne_eqb _ _ k)

pub both : {a b : Bool} → a ≡ true → b ≡ true → (a && b) ≡ true
both e k = rw (e, k) refl

pub not_first : {a : Bool} (b : Bool) → a ≡ false → (a && b) ≡ false
not_first b e = rw e refl

pub not_second : {a b : Bool} → a ≡ true → b ≡ false → (a && b) ≡ false
not_second e k = rw (e, k) refl

abbrev pub is_twelve : ScopeInfo → Bool
is_twelve v = has_number v.read_capture_offset && eqb v.capture_offset NONE

module _ {v : ScopeInfo} {at : ℕ} {before : Option SecondRefusal} where
  pub notes : {r : Option SecondRefusal} {i : ℕ} → is_twelve v ≡ true → i ≡ at → r ≡ option_or before (Some (NoCapture i)) → NotesTaken v at before r
  notes {r} t ei f = record {
    is = λ p w s x q e k. rw (t, e, f, ei, ← q) (second_noted k (NoCapture at));
  }

  pub notes_none : is_twelve v ≡ false → NotesTaken v at before before
  notes_none t = record { is = λ p w s x q e k. rw t (subst (λ (b : Option SecondRefusal). Works (with_second b p) w s) q k) }

note_facts : (b : Bool) (i : ℕ) (s : State) → (cond b (note_second 12 i s) s).facts ≡ s.facts
note_facts true i s = refl
note_facts false i s = refl

-- The capture and the entry are used

pub uses-taken : {at b place : ℕ} {w w₁ w₂ : List ℕ} {t : CodedCapture} {e f g : Coded} → LoadsCapture w place t → UsesCapture w place w₁ → LoadsEntry w₁ b e
    → f ≡ used_last at e → g ≡ now_captured f → StoresEntry w₁ b g w₂ → UsesTaken at b place w t w₂
uses-taken {g = g} l u o e₁ e₂ m = record {
  loaded = λ p s name row c k z. l.is p s name z.live.layer row z.live k z.found z.newest ∙ ap capture_of z.is;
  is = λ p s x y row c px py k z.
      let k₁ = u.is p s x.name z.live.layer row k z.found in
      let v = captured_entry (last_entry x (entry_at s y.at)) in
      let e : g ≡ coded v = rw (e₂, e₁, o.is p (use_capture x.name s) k₁, px, py) refl in
      rw py (rw py at (m.is p (use_capture x.name s) v k₁ e));
}

module _ {rs : List ℕ} {at b place row : ℕ} {p : Pass} {F C w : List ℕ} (k : TakenBound rs at b place row p F C w) where
  pub row-inside_captured : list_entry_width * row + list_entry_width ≤ length C
  row-inside_captured =
      let h = k.here in
      list-entry-inside k.s.facts.captured h.tied.captured (omega (arith, captured_many h.tied.works, row_few h.tied.works h.good k.stands))

  module _ {t : CodedCapture} {w' : List ℕ} (u : UsesTaken at b place w t w') where
    loaded_is : t ≡ capture_of k.c
    loaded_is = u.loaded p k.s k.x.name row k.c k.here.tied.works k.stands

    pub loaded_uses : t.uses ≤ uses_most
    loaded_uses = omega (arith, ap (λ (o : CodedCapture). o.uses) loaded_is, capture-uses k.here.tied.works k.here.good k.stands)

    pub loaded_row : {i : ℕ} → i ≡ t.binder → row_width * i + row_width ≤ length F
    loaded_row {i} e =
        let h = k.here in
        let j : i < rows_most = omega (arith, ap (λ (o : CodedCapture). o.binder) loaded_is, binder_few h.tied.works h.good k.stands) in
        (bounds h.good h.tied j).row

-- The read

pub reads-taken : {rs : List ℕ} {at b place row : ℕ} {p : Pass} {F C w F' w' F'' : List ℕ} {v : ScopeInfo} {t : CodedCapture} {i m d : ℕ} {q : Span}
    {r : SemanticInformation} {u' : Option SecondRefusal}
    → Tells put_list_entry no_list_entry (λ x. x.info) C row v → UsesTaken at b place w t w' → i ≡ t.binder → m ≡ suc t.uses
    → Amends put_row Blank (amended (with_usage_count m)) F i F' → d ≡ p.scope.depth → q ≡ span_of (nth rs at) → TakenFact d t v q r
    → Stores put_row F' at (Variable r) F'' → NotesTaken v at p.second u' → ReadsTaken rs at b place row p F C w u' F'' w'
reads-taken {at = at} {b} {row = row} {p} {F} {C} {w} {F'} {w'} {F''} {v} {t} {i} {m} {d} {q} {r} {u'} l u ei em a ed eq fact z n = record {
  is = λ classes A s x y c h ky py st.
      let k = h.tied.works in
      let ev : v ≡ info_at s c.row =
      l.is s.facts.captured h.tied.captured (omega (arith, captured_many k, row_few k h.good st)) ∙ ap (info_at s) st.stands_for in
      let et : t ≡ capture_of c = u.loaded p s x.name row c k st in
      let eb : i ≡ c.binder.at = ei ∙ ap (λ (o : CodedCapture). o.binder) et in
      let ec : m ≡ suc c.usage_count = em ∙ ap (λ (o : CodedCapture). suc o.uses) et in
      let e₁ = captured_entry (last_entry x (entry_at s y.at)) in
      let s₀ = use_capture x.name s in
      let s₁ = put_entry y.at e₁ s₀ in
      let t₁ : Tied (raw p F C A w') s₁ = tied_works s₁ h.tied (facts_entry s₀ y.at e₁) (u.is p s x y row c h.place py k st) in
      let j₁ : i < row_count s₁ = omega (arith, count-entry s₀ y.at e₁, h.good.rows, eb, binder_few k h.good st) in
      let t₂ = tied_amend t₁ j₁ a in
      let s₂ = count_uses m c.binder s₁ in
      let t₃ : Tied (raw p F' C A w') s₂ = rw eb at t₂ in
      let e₂ = count-amend s₁ c.binder.at (with_usage_count m) ∙ count-entry s₀ y.at e₁ in
      let j₂ : at < row_count s₂ = omega (arith, e₂, h.good.rows, known_few h.known h.place) in
      let ef : r ≡ taken_fact (depth s) c v x = fact.is c x et (eq ∙ known-span h.known h.place) ∙ ap (λ (d : ℕ). taken_fact d c v x) (ed ∙ depth_is k) in
      let o = Variable (taken_fact (depth s) c v x) in
      let s₃ = insert x.at o s₂ in
      let t₄ : Tied (raw p F'' C A w') s₃ = subst (λ (j : ℕ). Tied (raw p F'' C A w') (insert j o s₂)) (sym h.place) (rw ef at (tied_insert t₃ j₂ z)) in
      let t₅ : Tied (raw (with_second u' p) F'' C A w') (note_taken v x s₃) =
      tied_works (note_taken v x s₃) t₄ (note_facts (is_twelve v) x.at s₃) (n.is p w' s₃ x refl h.place t₄.works) in
      rw ec at (rw ev at t₅);
}
