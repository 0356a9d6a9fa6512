-- A name enters, and a define's fact is made. No place of the code stands here.
use Rattle.std.specs.Prelude.{Option, None, Some}
use Prim.Native.Nat.{ℕ, ◌<◌}
use mathlib.Core.List.{List, []}
use mathlib.Core.Bool.{Bool, true, false, ◌&&◌}
use mathlib.Core.Path.{◌≡◌, refl, ap, sym, ◌∙◌, subst}
use native.Mathlib.Omega.{arith}
use lib.Dec.{ltb}
use Rattle.tree.specs.Record.{nth}
use Rattle.tree.specs.Tree.{Ident}
use Rattle.scope_map.specs.ScopeMap.{ScopeMap, has_at_top}
use Rattle.scope_map.specs.ScopeMap as map
use Rattle.semantic.specs.Information.{new, shadows, aliases_to, mark_builtin, mark_required, mark_shadowed}
use Rattle.semantic.specs.Rows.{Blank, Variable, put_row}
use Rattle.semantic.specs.Amend.{amended, mark_if}
use Rattle.semantic.specs.Leaves.{Stores, Amends}
use Rattle.semantic.specs.declared.IdentifierStatus.{IdentifierStatus}
use Rattle.semantic.specs.declared.IdentifierStatus.TheVariants.{Global}
use Rattle.semantic.specs.declared.SemanticInformation.{SemanticInformation}
use Rattle.semantic.specs.declared.Span.{Span}
use Rattle.pass.specs.State.{State, Entry, put_entry, insert, amend, with_names, top_level_entry, newest, depth}
use Rattle.pass.specs.Read.{note_live, enter, status_at, define_fact, enter_define, shadow_if_builtin, shadow, enter_top_level_value}
use Rattle.pass_laws.specs.Laws.Sound.Each.{each_mark}
use Rattle.pass_laws.specs.Laws.Sound.Names.{marked_uses}
use Rattle.work.specs.Coded.{coded, record_in}
use Rattle.work.specs.Works.{Works}
use Rattle.work.specs.Laws.Works.{depth_is}
use Rattle.work.specs.Laws.Scope.{newest-known}
use Rattle.work.specs.Leaves.{Becomes, Tells, StoresEntry}
use Rattle.work.specs.Scope.{TellsId, is_live_row, in_row, Defines}
use Rattle.work.specs.Tied.{raw, Tied, Good, Here, row_count}
use Rattle.work.specs.Laws.Tied.{enter_facts, tied_works, tied_insert, tied_amend}
use Rattle.work.specs.Laws.Good.{sized_enter, sized_amend, good_each}
use Rattle.work.specs.declared.Pass.{Pass}
use Rattle.work.specs.declared.entries.Entry.{Entry as Coded}
use Rattle.walk.specs.declared.body.Body.{Body}
use Rattle.names.specs.Facts.{span_of}
use Rattle.names.specs.Contract.{with_name, name_in, EntersName, DefinesBy, EntersValue, Defined}
use Rattle.names.specs.Laws.Entered.{enter_aside, enter_second, works_entered}
use Rattle.names.specs.Steps.{DefineFact, Shadows}
use Rattle.names.specs.Laws.Idents.{known_name, known-span, known_few}
use Rattle.names.proofs.KnownCase.{found_none, uses_are}

-- The fact of a define

pub define_fact_lem : {b : Body} {kind k : IdentifierStatus} {a d n h at : ℕ} {rs w : List ℕ} {p : Pass} {q : Span} {i j l m r : SemanticInformation}
    → d ≡ p.scope.depth → n ≡ (nth rs at).name → TellsId rs p w n h → k ≡ status_at d kind → q ≡ span_of (nth rs at) → i ≡ new k d q
    → j ≡ mark_if b.required mark_required i → l ≡ mark_if b.builtin mark_builtin j → m ≡ shadows h l → r ≡ aliases_to a m
    → DefineFact b kind a rs at p w r
unfolding define_fact
define_fact_lem {n = n} {h} {p = p} {q = q} ed en t ek eq ei ej el em er = record {
  is = λ classes u s x eb kx px k bk.
      let e₁ : n ≡ x.name = en ∙ known_name kx px in
      rw (er, em, el, ej, ei, ek, t.is s k bk, eb, e₁, ed, depth_is k, eq ∙ known-span kx px) refl;
}

-- A name enters

abbrev is_live : ℕ → State → Bool
is_live n s = ltb 1 (depth s) && has_at_top s.scope.names n

-- x enters under the name n, its entry at the place i
abbrev entered : ℕ → ℕ → Ident → Entry → State → State
entered n i x e s = put_entry i e (with_names (map.define n x s.scope.names) (note_live (is_live n s) i s))

note_after : (b : Bool) (i : ℕ) (m : ScopeMap Ident) (s : State) → note_live b i (with_names m s) ≡ with_names m (note_live b i s)
note_after true i m s = refl
note_after false i m s = refl

-- the tables have the name, and the pass after it tells what it changed
pub name_enters : {rs : List ℕ} {at n place : ℕ} {e : Coded} {v : SemanticInformation} {b : Bool} {p q r : Pass} {F F' w w₁ w₂ : List ℕ} → n ≡ (nth rs at).name
    → Defines p w n at place w₁ → StoresEntry w₁ at e w₂ → Stores put_row F at (Variable v) F' → b ≡ is_live_row place p → q ≡ in_row place p
    → ((w : List ℕ) → Becomes q w (note_live b at) r w) → EntersName rs at e v p F w (with_name (name_in r) p) F' w₂
unfolding enter
name_enters {at = at} {n} {v = v} {p = p} {r = r} {F} {F'} {w₁ = w₁} {w₂} en d m st eb eq o = record {
  is = λ C u eu. record {
    is = λ A s x h.
        let k = h.tied.works in
        let names = map.define n x s.scope.names in
        let k₁ : Works r w₁ (note_live (is_live n s) at (with_names names s)) = (rw (eq, eb, d.live s k) at o w₁).is (with_names names s) (d.is s x h.place k) in
        let k₂ : Works r w₁ (with_names names (note_live (is_live n s) at s)) = rw (note_after (is_live n s) at names s) at k₁ in
        let k₃ : Works r w₂ (enter x u s) =
        subst (λ (n : ℕ). Works r w₂ (entered n x.at x u s)) (en ∙ known_name h.known h.place)
        (subst (λ (i : ℕ). Works r w₂ (entered n i x u s)) (sym h.place) (m.is r (with_names names (note_live (is_live n s) at s)) u k₂ eu)) in
        let t : Tied (raw (with_name (name_in r) p) F C A w₂) (enter x u s) =
        tied_works (enter x u s) h.tied (enter_facts x u s) (works_entered k k₃ (enter_aside x u s) (enter_second x u s)) in
        let j : at < row_count (enter x u s) = omega (arith, (sized_enter x u s).rows, h.good.rows, known_few h.known h.place) in
        subst (λ (i : ℕ). Tied (raw (with_name (name_in r) p) F' C A w₂) (insert i (Variable v) (enter x u s))) (sym h.place) (tied_insert t j st);
  };
}

pub top_level_fits : {e : Coded} → e ≡ coded top_level_entry → e.uses < 536870912
top_level_fits q = omega (arith, uses_are q)

pub defines_by : {b : Body} {kind : IdentifierStatus} {a : ℕ} {rs : List ℕ} {at : ℕ} {p q : Pass} {F w F' w' : List ℕ} {e : Coded} {r : SemanticInformation}
    → DefineFact b kind a rs at p w r → e ≡ coded top_level_entry → EntersName rs at e r p F w q F' w' → DefinesBy b kind a rs at p F w q F' w'
unfolding enter_define
defines_by {kind = kind} {a} {r = r} f ee k = record {
  is = λ classes t C eb. record {
    is = λ A s x h.
        let z : r ≡ define_fact classes kind a x t s = f.is classes t s x eb h.known h.place h.tied.works h.good.sound.binders in
        rw z at ((k.is C top_level_entry ee).is A s x h);
  };
}

-- A builtin that a value define hides is marked: what holds of a state holds still

good_shadow : {rs : List ℕ} {s : State} (classes : List ℕ) (b : ℕ) → Good rs s → Good rs (amend (shadow_if_builtin classes) b s)
good_shadow {s = s} classes b g =
    let f = shadow_if_builtin classes in
    good_each g (sized_amend f b s) (λ Q l F z h. each_mark f b z (λ v q. subst F (sym (marked_uses v.builtin mark_shadowed v refl)) q) h)

module _ {n : ℕ} {p : Pass} {F w : List ℕ} where
  pub shadows-newest : {b : ℕ} {F' : List ℕ} → Tells p w (λ s. record_in (newest s n)) (Some b)
      → Amends put_row Blank (amended (λ i. mark_if i.builtin mark_shadowed i)) F b F' → Shadows n p F w F'
  shadows-newest {b} {F'} o a = record {
    here = λ rs at classes C A s x en h.
        let z = newest-known rs s n b h.good.sound.binders (o.is s h.tied.works) in
        let i : b < row_count s = omega (arith, h.good.rows, known_few z.known z.at) in
        let f = shadow_if_builtin classes in
        let k : Here rs at (raw p F' C A w) (amend f b s) x = record {
          known = h.known;
          place = h.place;
          good = good_shadow classes b h.good;
          tied = tied_amend h.tied i a;
        } in
        subst (λ (o : Option Ident). Here rs at (raw p F' C A w) (shadow classes o s) x) (sym z.is ∙ ap (newest s) en)
        (subst (λ (i : ℕ). Here rs at (raw p F' C A w) (amend f i s) x) (sym z.at) k);
  }

  pub shadows-none : Tells p w (λ s. record_in (newest s n)) None → Shadows n p F w F
  shadows-none o = record {
    here = λ rs at classes C A s x en h.
        subst (λ (o : Option Ident). Here rs at (raw p F C A w) (shadow classes o s) x)
        (sym (found_none (newest s n) (o.is s h.tied.works)) ∙ ap (newest s) en) h;
  }

  module _ {rs : List ℕ} {at : ℕ} {F' : List ℕ} (en : n ≡ (nth rs at).name) (m : Shadows n p F w F') where
    pub defined_still : Defined rs at p F w → Defined rs at p F' w
    defined_still d = let h = d.here in record {
      captured = d.captured;
      arguments = d.arguments;
      s = shadow [] (newest d.s d.x.name) d.s;
      x = d.x;
      here = m.here rs at [] d.captured d.arguments d.s d.x (en ∙ known_name h.known h.place) h;
    }

    pub enters_value : {b : Body} {q : Pass} {F'' w' : List ℕ} → DefinesBy b Global b.alias rs at p F' w q F'' w' → EntersValue b rs at p F w q F'' w'
    unfolding enter_top_level_value
    enters_value {b} {q} {F''} {w'} d = record {
      is = λ classes t C eb. record {
        is = λ A s x h.
            let s₁ = shadow classes (newest s x.name) s in
            subst (λ (a : ℕ). Tied (raw q F'' C A w') (enter_define classes Global a x t s₁)) (ap (λ (b : Body). b.alias) eb)
            ((d.is classes t C eb).is A s₁ x (m.here rs at classes C A s x (en ∙ known_name h.known h.place) h));
      };
    }
