-- The claim on the fresh run's binding holds.
use Rattle.std.specs.Prelude.{ℕ, ◌+◌, Bool, true, false, ◌&&◌, ◌||◌, ◌≡◌, length, get_or, eqb, Option, None, Some}
use Rattle.std.proofs.lemmas.Option.{none-some}
use mathlib.Core.List.{List, [], ◌∷◌, ◌++◌, append_assoc, append-nil}
use Rattle.std.proofs.Math.Bool.{and-true, and-false}
use Rattle.std.proofs.Math.Path.{refl, ap}
use Rattle.std.proofs.Common.{sym, subst, ◌∙◌, arith, eqb-true, eq-eqb, ne_eqb}
use Rattle.std.proofs.lemmas.Bool.{eqb-false}
use Rattle.tree.specs.Tree.{Ident, Trees, sizes}
use Rattle.tree.specs.Accepted.{All}
use Rattle.semantic.specs.Rows.{Row, Blank}
use Rattle.semantic.specs.declared.IdentifierStatus.{IdentifierStatus}
use Rattle.pass.specs.Run.{fresh, refused_first, nine_or, ten_at}
use Rattle.pass.specs.State.{Noted}
use Rattle.pass_laws.specs.Laws.Says.{Each, Tells, kind_of, used_inside, is_set_in, SaysCell, SaysOf, Says}
use Rattle.pass.specs.Read.{is_prelude}
use Rattle.pass_laws.specs.Laws.Finds.{Of, of_none, of_some, find-all}
use Rattle.pass_laws.specs.Laws.All.{all_left, all_right, all_map}
use Rattle.pass_laws.specs.Laws.Levels.{each_mention, levels, Known, Placed, placed-all}
use Rattle.pass_laws.specs.Laws.Bottoms.{cell, fresh_says}
use Rattle.r7rs.specs.Binding.{Binder, Mention, Event, enters, mentions, ends, events, mentions_in, binders_in, meant, is_inner, Use, use_of, uses_of, top}
use Rattle.r7rs.specs.Bottom.{bottom_entry}
use Rattle.execution.specs.References.{reference, reference_in, is_it, is_set_of, is_inner_of, any, global_reference, fresh_kind, fresh_bound, fresh_binder}
use Rattle.execution.specs.Claims.{BindingFresh}

-- A row that tells is a reference
pub refers : {T : List Row} {i r d s : ℕ} {k : IdentifierStatus} → Tells T i k r d s → reference_in (get_or T i Blank) ≡ Some (reference k r d s)
refers t =
    ap reference_in t.is
    ∙ (λ i. Some (reference (t.kind i) (t.refers i) (t.depth i) (t.slot i)))

pub eqb_sym : (a b : ℕ) → eqb a b ≡ eqb b a
eqb_sym a b = go (eqb b a) refl
  where
    go : (q : Bool) → eqb b a ≡ q → eqb a b ≡ q
    go true e = eq-eqb a b (sym (eqb-true b a e))
    go false e = ne_eqb a b (λ q. eqb-false b a e (sym q))

-- One mention of a walk

module _ (classes : List ℕ) (ts : Trees) (T : List Row) (c : Ident → Option Ident) where
  abbrev SaysAll : List Use → List Mention → Type 0
  SaysAll u [] = Unit {0}
  SaysAll u (m ∷ l) = SaysOf classes T c u m (meant m) × SaysAll (u ++ use_of m (meant m)) l

  says_all : (u : List Use) (l : List Event) → Says classes T c u l → SaysAll u (mentions_in l)
  says_all u [] s = tt
  says_all u (enters b sc ∷ l) s = says_all u l s.1
  says_all u (mentions m ∷ l) s = (s.0, says_all (u ++ use_of m (meant m)) l s.1)
  says_all u (ends i xs sc ∷ l) s = says_all u l s

  says_at : (u : List Use) (before after : List Mention) (m : Mention) → SaysAll u (before ++ (m ∷ after)) → SaysOf classes T c (u ++ uses_of before) m (meant m)
  says_at u [] after m s = rw (append-nil u) s.0
  says_at u (n ∷ before) after m s =
      rw (← append_assoc u (use_of n (meant n)) (uses_of before)) (says_at (u ++ use_of n (meant n)) before after m s.1)

  says_bound : (u : List Use) (l : List Event) → Says classes T c u l → All (λ b. reference_in (get_or T b.ident.at Blank) ≡ Some (fresh_binder classes ts b)) (binders_in l)
  says_bound u [] s = tt
  says_bound u (enters b sc ∷ l) s = (refers s.0, says_bound u l s.1)
  says_bound u (mentions m ∷ l) s = says_bound (u ++ use_of m (meant m)) l s.1
  says_bound u (ends i xs sc ∷ l) s = says_bound u l s

pub each_all : (Q : Mention → Type 0) (l : List Event) → Each Q l → All Q (mentions_in l)
each_all Q [] e = tt
each_all Q (enters b sc ∷ l) e = each_all Q l e
each_all Q (mentions m ∷ l) e = (e.0, each_all Q l e.1)
each_all Q (ends i xs sc ∷ l) e = each_all Q l e

-- The uses before a mention are the mentions before it

module _ (L : ℕ → ℕ) where
  abbrev pub Sound : Mention → Type 0
  Sound m = All (Known L) m.place.scope

  module _ (b : Binder) (k : Known L b) where
    -- a name of the same record has as many lambdas around it
    same_inner : (m : Mention) (c : Binder) → Known L c → (is_inner m c && eqb c.ident.at b.ident.at) ≡ (is_inner m b && eqb b.ident.at c.ident.at)
    same_inner m c h = go (eqb c.ident.at b.ident.at) refl
      where
        go : (q : Bool) → eqb c.ident.at b.ident.at ≡ q → (is_inner m c && q) ≡ (is_inner m b && eqb b.ident.at c.ident.at)
        go true e =
            let same = eqb-true c.ident.at b.ident.at e in
            let around : length c.around ≡ length b.around = h ∙ ap L same ∙ sym k in
            rw (around, eq-eqb b.ident.at c.ident.at (sym same))
        go false e =
            let other = eqb-false c.ident.at b.ident.at e in
            rw (ne_eqb b.ident.at c.ident.at (λ q. other (sym q)), and-false (is_inner m c), and-false (is_inner m b))

    inner-one : (m : Mention) {o : Option Binder} → Of (Known L) o → (r : List Use) → used_inside b.ident.at (use_of m o ++ r) ≡ (is_inner m b && is_it b o) || used_inside b.ident.at r
    inner-one m of_none r = ap (λ (q : Bool). q || used_inside b.ident.at r) (sym (and-false (is_inner m b)))
    inner-one m (of_some {b = c} h) r = ap (λ (q : Bool). q || used_inside b.ident.at r) (same_inner m c h)

    pub inner-before : (l : List Mention) → All Sound l → used_inside b.ident.at (uses_of l) ≡ any (is_inner_of b) l
    unfolding any
    inner-before [] a = refl
    inner-before (m ∷ l) a =
        inner-one m (find-all m.place.scope a.0 m.ident.name) (uses_of l) ∙ ap (λ (q : Bool). is_inner_of b m || q) (inner-before l a.1)

set-one : (b : Binder) (m : Mention) (o : Option Binder) (r : List Use) → is_set_in b.ident.at (use_of m o ++ r) ≡ (m.is_set && is_it b o) || is_set_in b.ident.at r
set-one b m None r = ap (λ (q : Bool). q || is_set_in b.ident.at r) (sym (and-false m.is_set))
set-one b m (Some c) r = ap (λ (q : Bool). (m.is_set && q) || is_set_in b.ident.at r) (eqb_sym c.ident.at b.ident.at)

pub set_before : (b : Binder) (l : List Mention) → is_set_in b.ident.at (uses_of l) ≡ any (is_set_of b) l
unfolding any
set_before b [] = refl
set_before b (m ∷ l) = set-one b m (meant m) (uses_of l) ∙ ap (λ (q : Bool). is_set_of b m || q) (set_before b l)

-- The claim

module _ (classes : List ℕ) (ts : Trees) (T : List Row) (L : ℕ → ℕ) (before : List Mention) (m : Mention) where
  pub cell_refers : (o : Option Ident) → SaysCell classes T (cell ts) m.ident m.place.site.layer o
      → reference_in (get_or T m.ident.at Blank) ≡ Some (global_reference (is_prelude classes m.ident.name) m.place.site.layer o)
  cell_refers None t = refers t
  cell_refers (Some d) t = refers t

  kind_refers : (b : Binder) → meant m ≡ Some b → Known L b → All (Sound L) before → kind_of (uses_of before) m b ≡ fresh_kind classes ts before m b
  kind_refers b e k a =
      let own : is_set_of b m ≡ m.is_set = ap (λ (o : Option Binder). m.is_set && is_it b o) e ∙ ap (λ (q : Bool). m.is_set && q) (eq-eqb b.ident.at b.ident.at refl) ∙ and-true m.is_set in
      rw (inner-before L b k before a, set_before b before, own)

  meant_refers : (o : Option Binder) → meant m ≡ o → Of (Known L) o → All (Sound L) before → SaysOf classes T (cell ts) (uses_of before) m o
      → reference_in (get_or T m.ident.at Blank) ≡ Some (fresh_bound classes ts before m o)
  meant_refers None e k a t = cell_refers (bottom_entry ts m.ident.name m.ident.at) t
  meant_refers (Some b) e (of_some k) a t = refers t ∙ ap (λ (q : IdentifierStatus). Some (reference q b.ident.id m.place.site.layer b.home.slot)) (kind_refers b e k a)

-- no refusal, so none of 9
pub no_nine : (n : Noted) → refused_first n ≡ None → n.nine ≡ None
no_nine n e = go n.nine e
  where
    go : (o : Option ℕ) → nine_or o (ten_at n.ten) ≡ None → o ≡ None
    go None q = refl
    go (Some i) q = absurd (none-some _ (sym q))

pub binding_fresh : BindingFresh
unfolding events
binding_fresh classes rs ts a d =
    let T = (fresh classes ts).facts.rows in
    let said = fresh_says classes ts a.accepted.num a.accepted.few d (no_nine (fresh classes ts).noted a.not_refused) in
    let sound : All (Placed (levels ts) 0 (0 + sizes ts)) (mentions_in (events ts)) =
    each_all _ (events ts) (each_mention _ _ (events ts) (placed-all (levels ts) 0 ts a.accepted.num top tt (λ i l u. omega arith))) in
    record {
      mentioned = λ before after m e.
          let here = all_map (Placed (levels ts) 0 (0 + sizes ts)) (Sound (levels ts)) (λ n q. q.scope) (before ++ (m ∷ after)) (subst (All (Placed (levels ts) 0 (0 + sizes ts))) e sound) in
          let scope = (all_right (Sound (levels ts)) before (m ∷ after) here).0 in
          meant_refers classes ts T (levels ts) before m (meant m) refl (find-all m.place.scope scope m.ident.name) (all_left (Sound (levels ts)) before (m ∷ after) here)
          (says_at classes ts T (cell ts) [] before after m (subst (SaysAll classes ts T (cell ts) []) e (says_all classes ts T (cell ts) [] (events ts) said)));
      bound = says_bound classes ts T (cell ts) [] (events ts) said;
    }
