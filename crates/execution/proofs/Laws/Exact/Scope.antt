-- The live names of the pass are R7RS's names in scope, above those of the bottom layer; and where a name enters, both say whether it is live.
use Rattle.std.specs.Prelude.{ℕ, suc, ◌+◌, ◌≤◌, ◌<◌, Bool, cond, ◌&&◌, ◌||◌, ◌≡◌, eqb, Option, None, Some}
use Rattle.std.proofs.lemmas.Option.{none-some}
use mathlib.Core.List.{List, [], ◌∷◌, ◌++◌, reverse_aux}
use Rattle.std.proofs.Math.Bool.{true, false}
use Rattle.std.proofs.Math.Path.{refl}
use Rattle.std.proofs.Common.{ap, sym, ◌∙◌, arith, lt-ltb, ne_eqb}
use Rattle.tree.specs.Tree.{Ident}
use Rattle.tree.specs.Site.{home_at}
use Rattle.scope_map.specs.ScopeMap.{ScopeMap, Live, has_in, has_at_top}
use Rattle.semantic.specs.Rows.{ListEntry}
use Rattle.semantic.specs.declared.IdentifierStatus.{IdentifierStatus}
use Rattle.pass.specs.State.{Entry, State, insert, put_entry, depth}
use Rattle.pass.specs.Read.{note_live, enter}
use Rattle.pass.specs.Lambda.{is_heap, note_heap, enter_name, enter_names}
use Rattle.pass_laws.specs.Laws.Changes.{Later, keeps_noted}
use Rattle.pass_laws.specs.Laws.Scopes.{names-any, names_changes}
use Rattle.pass_laws.specs.Laws.Layers.{Within, live_at, entered_in}
use Rattle.pass_laws.specs.Laws.Leaves.{names, in_layer, Layered, enter_name_lem}
use Rattle.pass_laws.specs.Laws.Finds.{lives_of}
use Rattle.r7rs.specs.Binding.{Binder, Place, Event, enters, mentions, ends, binders, entering}
use Rattle.execution.specs.Acceptance.{is_live, nine_in}

-- The first of two stretches

nine_left : (l r : List Event) (i : ℕ) → nine_in l ≡ Some i → nine_in (l ++ r) ≡ Some i
unfolding nine_in
nine_left [] r i e = absurd (none-some i e)
nine_left (enters b sc ∷ l) r i e = go (is_live b sc) (λ q. nine_left l r i q) e
  where
    go : (q : Bool) → (nine_in l ≡ Some i → nine_in (l ++ r) ≡ Some i) → cond q (Some b.ident.at) (nine_in l) ≡ Some i
        → cond q (Some b.ident.at) (nine_in (l ++ r)) ≡ Some i
    go true k e = e
    go false k e = k e
nine_left (mentions m ∷ l) r i e = nine_left l r i e
nine_left (ends j xs sc ∷ l) r i e = nine_left l r i e

pub nine_right : (l r : List Event) → nine_in l ≡ None → nine_in (l ++ r) ≡ nine_in r
unfolding nine_in
nine_right [] r e = refl
nine_right (enters b sc ∷ l) r e = go (is_live b sc) (λ q. nine_right l r q) e
  where
    go : (q : Bool) → (nine_in l ≡ None → nine_in (l ++ r) ≡ nine_in r) → cond q (Some b.ident.at) (nine_in l) ≡ None
        → cond q (Some b.ident.at) (nine_in (l ++ r)) ≡ nine_in r
    go true k e = absurd (none-some b.ident.at (sym e))
    go false k e = k e
nine_right (mentions m ∷ l) r e = nine_right l r e
nine_right (ends j xs sc ∷ l) r e = nine_right l r e

-- l is met from a state without 9 up to s, and r from there up to t
pub first : (s t : State) (l r : List Event) → s.noted.nine ≡ nine_in l → (s.noted.nine ≡ None → t.noted.nine ≡ nine_in r)
    → Later s.noted t.noted → t.noted.nine ≡ nine_in (l ++ r)
first s t l r p q later = go s.noted.nine refl
  where
    go : (o : Option ℕ) → s.noted.nine ≡ o → t.noted.nine ≡ nine_in (l ++ r)
    go None e = q e ∙ sym (nine_right l r (sym p ∙ e))
    go (Some i) e = later.first_nine i e ∙ sym (nine_left l r i (sym p ∙ e))

-- Names in scope

-- the live names where the layer is d and the names in scope are sc
pub record Scoped (d : ℕ) (sc : List Binder) (m : ScopeMap Ident) : Type 0 where
  pub bottom : List (Live Ident)
  pub low : Within 1 bottom
  pub live : m ≡ in_layer d (lives_of sc bottom)
  pub layered : Layered m

-- no name of the bottom layer lies above it
low_absent : (d x : ℕ) (l : List (Live Ident)) → 2 ≤ d → Within 1 l → has_in d x l ≡ false
unfolding has_in
low_absent d x [] h w = refl
low_absent d x (e ∷ l) h w = rw (ne_eqb e.layer d (λ q. omega (arith, w.0))) (low_absent d x l h w.1)

live_has : (b : Binder) (sc : List Binder) (bottom : List (Live Ident)) → 2 ≤ b.home.layer → Within 1 bottom
    → has_in b.home.layer b.ident.name (lives_of sc bottom) ≡ is_live b sc
unfolding has_in is_live
live_has b [] bottom h w = low_absent b.home.layer b.ident.name bottom h w
live_has b (c ∷ sc) bottom h w =
    ap (λ (q : Bool). (eqb c.home.layer b.home.layer && eqb c.ident.name b.ident.name) || q) (live_has b sc bottom h w)

pub entered_lives : (is_let : Bool) (base : ℕ) (p : Place) (j : ℕ) (xs : List Ident) (sc : List Binder) (bottom : List (Live Ident))
    → entered_in p.site.layer xs (lives_of sc bottom) ≡ lives_of (reverse_aux (binders is_let base p j xs) sc) bottom
unfolding binders
entered_lives is_let base p j [] sc bottom = refl
entered_lives is_let base p j (x ∷ xs) sc bottom = entered_lives is_let base p (suc j) xs _ bottom

-- A name enters

live_nine : (b : Bool) (i : ℕ) (s : State) → s.noted.nine ≡ None → (note_live b i s).noted.nine ≡ cond b (Some i) None
live_nine true i s e = rw e
live_nine false i s e = e

enter_nine : (x : Ident) (e : Entry) (s : State) → 1 < depth s → s.noted.nine ≡ None
    → (enter x e s).noted.nine ≡ cond (has_at_top (names s) x.name) (Some x.at) None
unfolding enter put_entry
enter_nine x e s h n = rw (lt-ltb 1 (depth s) h) (live_nine (has_at_top (names s) x.name) x.at s n)

heap_nine : (o : Option ℕ) (x : Ident) (e : Entry) (s : State) → 1 < depth s → s.noted.nine ≡ None
    → (enter x e (note_heap o x s)).noted.nine ≡ cond (has_at_top (names s) x.name) (Some x.at) None
heap_nine None x e s h n = enter_nine x e _ h n
heap_nine (Some k) x e s h n = enter_nine x e s h n

module _ (kind : IdentifierStatus) (base : ℕ) (heaps : Option ℕ) (before : List ListEntry) where
  name_nine : (b : Bool) (x : Ident) (j h : ℕ) (s : State) → 1 < depth s → s.noted.nine ≡ None
      → (enter_name kind base heaps before b x j h s).noted.nine ≡ cond (has_at_top (names s) x.name) (Some x.at) None
  unfolding enter_name insert
  name_nine true x j h s l n = heap_nine heaps x _ s l n
  name_nine false x j h s l n = enter_nine x _ s l n

  -- names enter at the place p, from the place i among the names of their lambda or let on
  module _ (is_let : Bool) (slot : ℕ) (p : Place) (two : 2 ≤ p.site.layer) (bottom : List (Live Ident)) (low : Within 1 bottom) where
    pub names_nine : (xs : List Ident) (i j h : ℕ) (s : State) (sc : List Binder) → names s ≡ in_layer p.site.layer (lives_of sc bottom)
        → s.noted.nine ≡ None → (enter_names kind base heaps before xs j h s).noted.nine ≡ nine_in (entering (binders is_let slot p i xs) sc)
    unfolding enter_names binders entering nine_in
    names_nine [] i j h s sc e n = n
    names_nine (x ∷ xs) i j h s sc e n = go (is_live b sc) refl (λ m k. names_nine xs (suc i) (suc j) _ t (b ∷ sc) m k)
      where
        b : Binder
        b = record { ident = x; is_let = is_let; place = i; around = p.around; home = home_at p.site (slot + i) }

        t : State
        t = enter_name kind base heaps before (is_heap before j) x j h s

        rest : State → Option ℕ
        rest u = (enter_names kind base heaps before xs (suc j) (cond (is_heap before j) (suc h) h) u).noted.nine

        deep : 1 < depth s
        deep = omega (arith, ap (λ (m : ScopeMap Ident). m.depth) e)

        here : t.noted.nine ≡ cond (is_live b sc) (Some x.at) None
        here =
            name_nine (is_heap before j) x j h s deep n
            ∙ ap (λ (q : Bool). cond q (Some x.at) None) (ap (λ (m : ScopeMap Ident). has_at_top m x.name) e ∙ live_has b sc bottom two low)

        go : (q : Bool) → is_live b sc ≡ q
            → (names t ≡ in_layer p.site.layer (lives_of (b ∷ sc) bottom) → t.noted.nine ≡ None → rest t ≡ nine_in (entering (binders is_let slot p (suc i) xs) (b ∷ sc)))
            → rest t ≡ cond q (Some x.at) (nine_in (entering (binders is_let slot p (suc i) xs) (b ∷ sc)))
        go true q k =
            (keeps_noted (names_changes kind base heaps before xs (suc j) _ t (names-any xs))).first_nine x.at (here ∙ ap (λ (q : Bool). cond q (Some x.at) None) q)
        go false q k =
            let fine = here ∙ ap (λ (q : Bool). cond q (Some x.at) None) q in
            let en = enter_name_lem kind base heaps before (is_heap before j) x j h s deep fine in
            k (en.after ∙ ap (λ (m : ScopeMap Ident). in_layer m.depth (live_at m.depth x ∷ m.live)) e) fine
