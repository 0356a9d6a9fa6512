-- A read by each rule, from what the functions that it calls promise. No place of the code stands here.
use Rattle.std.specs.Prelude.{None, Some}
use Prim.Native.Nat.{ℕ, ◌<◌}
use mathlib.Core.List.{List}
use mathlib.Core.Bool.{Bool}
use mathlib.Core.Path.{◌≡◌, refl, ap, ◌∙◌}
use native.Mathlib.Omega.{arith}
use Rattle.tree.specs.Record.{nth}
use Rattle.tree.specs.Tree.{Ident}
use Rattle.semantic.specs.Information.{with_usage_count, mark_set}
use Rattle.semantic.specs.Rows.{Blank, Variable, put_row}
use Rattle.semantic.specs.Amend.{amended, used_or}
use Rattle.semantic.specs.Leaves.{Stores, Amends}
use Rattle.semantic.specs.declared.Span.{Span}
use Rattle.semantic.specs.declared.SemanticInformation.{SemanticInformation}
use Rattle.pass.specs.State.{State, Entry, entry_at, put_entry, insert, amend, used_entry, last_entry, captured_entry, mutated_entry, newest, depth}
use Rattle.pass.specs.Read.{is_prelude, one_use_more, count_uses, free_fact, global_fact, local_fact, home_fact, mutate, no_entry, depth_one, current_layer, home_slot, read_by}
use Rattle.pass.specs.Run.{rows_most}
use Rattle.work.specs.Known.{Known}
use Rattle.work.specs.Coded.{coded, record_in}
use Rattle.work.specs.Entries.{used_more, used_last, now_captured, now_mutated}
use Rattle.work.specs.Laws.Scope.{newest-known}
use Rattle.work.specs.Leaves.{Tells, LoadsEntry, StoresEntry}
use Rattle.work.specs.Tied.{raw, Tied, Here, row_count}
use Rattle.work.specs.Laws.Tied.{count-amend, count-entry, tied_insert, tied_change, tied_amend, tied_entry}
use Rattle.work.specs.declared.Pass.{Pass}
use Rattle.work.specs.declared.entries.Entry.{Entry as Coded}
use Rattle.names.specs.Facts.{span_of, FreeFact, GlobalFact, LocalFact, HomeFact}
use Rattle.names.specs.Contract.{Mutates}
use Rattle.names.specs.Steps.{ToldPrelude, ToldDepth, ReadsBy, PutsUse}
use Rattle.names.specs.Laws.Idents.{known_id, known-span, known_few}
use Rattle.names.proofs.KnownCase.{found_none}

-- the entry takes its place, then its uses go to the binder's fact
pub puts_use : {b : ℕ} {e : Coded} {F w F' w' : List ℕ} → b < rows_most → StoresEntry w b e w' → Amends put_row Blank (amended (with_usage_count e.uses)) F b F'
    → PutsUse b e F w F' w'
puts_use {b} {e} h k a = record {
  is = λ p C A s y v j n q t.
      let i : b < row_count (put_entry b v s) = omega (arith, count-entry s b v) in
      let u : e.uses ≡ v.usage_count = ap (λ (c : Coded). c.uses) q in
      rw j (rw u at (tied_amend (tied_entry t v q k) i a));
}

-- an entry is used, its binder's fact takes its uses, and the fact z is made
used_fact : {rs : List ℕ} {at b : ℕ} {p : Pass} {F C A w F' w' F'' : List ℕ} {s : State} {x y : Ident} {e : Coded} {r z : SemanticInformation} (v : Entry)
    → Here rs at (raw p F C A w) s x → Known rs y → y.at ≡ b → e ≡ coded v → PutsUse b e F w F' w' → r ≡ z → Stores put_row F' at (Variable r) F''
    → Tied (raw p F'' C A w') (insert x.at (Variable z) (count_uses v.usage_count y (put_entry y.at v s)))
used_fact {at = at} {p} {C = C} {A} {s = s} {y = y} v h ky py q k c m =
    let s₁ = put_entry y.at v s in
    let e = count-amend s₁ y.at (with_usage_count v.usage_count) in
    let j : at < row_count (count_uses v.usage_count y s₁) = omega (arith, e, count-entry s y.at v, h.good.rows, known_few h.known h.place) in
    rw h.place (rw c at (tied_insert (k.is p C A s y v py h.good.rows q h.tied) j m))

module _ {rs F w F' w' F'' : List ℕ} {at b id : ℕ} {p : Span} {r : SemanticInformation} (n : id ≡ (nth rs b).id) (g : p ≡ span_of (nth rs at)) where
  pub reads_global : {prelude : Bool} {e f : Coded} → LoadsEntry w b e → f ≡ used_more e → StoresEntry w b f w'
      → Amends put_row Blank (amended one_use_more) F b F' → GlobalFact prelude id p r → Stores put_row F' at (Variable r) F''
      → ReadsBy depth_one (ToldPrelude prelude) rs at b F w F'' w'
  reads_global {f = f} l u k a fact m = record {
    is = λ classes q C A s x y h ky py t.
        let v = entry_at s b in
        let e : f ≡ coded (used_entry v) = rw (u, l.is q s h.tied.works) refl in
        let s₁ = put_entry b (used_entry v) s in
        let i : b < row_count s₁ = omega (arith, count-entry s b (used_entry v), h.good.rows, known_few ky py) in
        let t₁ = tied_amend (tied_entry h.tied (used_entry v) e k) i a in
        let o = count-amend s₁ b one_use_more ∙ count-entry s b (used_entry v) in
        let j : at < row_count (amend one_use_more b s₁) = omega (arith, o, h.good.rows, known_few h.known h.place) in
        let c : r ≡ global_fact (is_prelude classes x.name) y x =
        fact.is y x (n ∙ known_id ky py) (g ∙ known-span h.known h.place) ∙ ap (λ (z : Bool). global_fact z y x) t in
        rw (h.place, py) (rw c at (tied_insert t₁ j m));
  }

  pub reads_local : {d : ℕ} {e f u : Coded} → LoadsEntry w b e → f ≡ used_more e → u ≡ used_last at f → PutsUse b u F w F' w'
      → LocalFact d id u p r → Stores put_row F' at (Variable r) F'' → ReadsBy current_layer (ToldDepth d) rs at b F w F'' w'
  reads_local {u = u} l e₁ e₂ k fact m = record {
    is = λ classes q C A s x y h ky py t.
        let v = last_entry x (used_entry (entry_at s y.at)) in
        let e : u ≡ coded v = rw (e₂, e₁, l.is q s h.tied.works, py, h.place) refl in
        used_fact v h ky py e k
        (fact.is y v x (n ∙ known_id ky py) e (g ∙ known-span h.known h.place) ∙ ap (λ (d : ℕ). local_fact d y v x) t) m;
  }

  pub reads-home : {d : ℕ} {e f u o : Coded} → LoadsEntry w b e → f ≡ used_more e → u ≡ used_last at f → o ≡ now_captured u → PutsUse b o F w F' w'
      → HomeFact d id o p r → Stores put_row F' at (Variable r) F'' → ReadsBy home_slot (ToldDepth d) rs at b F w F'' w'
  reads-home {o = o} l e₁ e₂ e₃ k fact m = record {
    is = λ classes q C A s x y h ky py t.
        let v = captured_entry (last_entry x (used_entry (entry_at s y.at))) in
        let e : o ≡ coded v = rw (e₃, e₂, e₁, l.is q s h.tied.works, py, h.place) refl in
        used_fact v h ky py e k
        (fact.is y v x (n ∙ known_id ky py) e (g ∙ known-span h.known h.place) ∙ ap (λ (d : ℕ). home_fact d y v x) t) m;
  }

-- no entry: a fact made before counts a use more, or a new one is made
pub reads_free : {rs F C A w F' : List ℕ} {at d : ℕ} {p : Pass} {q : Span} {prelude : Bool} {r : SemanticInformation} {s : State} {x : Ident}
    (classes : List ℕ) → Here rs at (raw p F C A w) s x → q ≡ span_of (nth rs at) → prelude ≡ is_prelude classes x.name → d ≡ depth s → FreeFact prelude d q r
    → Amends put_row Blank (used_or r) F at F' → Tied (raw p F' C A w) (read_by classes no_entry x s)
reads_free {at = at} {d} {r = r} {s} {x} classes h g t k fact a =
    let i : at < row_count s = omega (arith, h.good.rows, known_few h.known h.place) in
    let c : r ≡ free_fact (is_prelude classes x.name) (depth s) x =
    fact.is x (g ∙ known-span h.known h.place) ∙ ap (λ (z : Bool). free_fact z d x) t ∙ ap (λ (d : ℕ). free_fact (is_prelude classes x.name) d x) k in
    rw h.place (rw c at (tied_change h.tied i a))

-- set!

module _ {name : ℕ} {p : Pass} {F w : List ℕ} where
  pub mutates : {b : ℕ} {e f u : Coded} {F' w' : List ℕ} → Tells p w (λ s. record_in (newest s name)) (Some b)
      → LoadsEntry w b e → f ≡ used_more e → u ≡ now_mutated f → StoresEntry w b u w' → Amends put_row Blank (amended mark_set) F b F'
      → Mutates name p F w F' w'
  unfolding mutate
  mutates {b} {u = u} o l e₁ e₂ k a = record {
    is = λ rs C A s g t.
        let z = newest-known rs s name b g.sound.binders (o.is s t.works) in
        let v = mutated_entry (used_entry (entry_at s z.x.at)) in
        let e : u ≡ coded v = rw (e₂, e₁, l.is p s t.works, z.at) refl in
        let i : b < row_count (put_entry b v s) = omega (arith, count-entry s b v, g.rows, known_few z.known z.at) in
        rw (z.is, z.at) (rw z.at at (tied_amend (tied_entry t v e k) i a));
  }

  pub mutates_none : Tells p w (λ s. record_in (newest s name)) None → Mutates name p F w F w
  unfolding mutate
  mutates_none o = record { is = λ rs C A s g t. rw (found_none (newest s name) (o.is s t.works)) t }
