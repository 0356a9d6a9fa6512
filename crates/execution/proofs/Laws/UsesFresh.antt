-- The claim on the uses that a fresh run counts holds: a record gets what the mentions give it, and no two names share one.
use Rattle.std.specs.Prelude.{ℕ, ◌+◌, ◌≤◌, Bool, true, false, cond, not, ◌&&◌, ◌||◌, ◌≡◌, eqb, Option, None, Some, IfSome}
use Rattle.std.proofs.lemmas.Option.{none-some}
use mathlib.Core.List.{List, [], ◌∷◌, ◌++◌, append_assoc}
use Rattle.std.proofs.Math.Bool.{and-false}
use Rattle.std.proofs.Math.Path.{refl}
use Rattle.std.proofs.Common.{ap, sym, subst, ◌∙◌, arith}
use Rattle.tree.specs.Tree.{Ident, Trees}
use Rattle.tree.specs.Define.{top_level, inner_defines}
use Rattle.tree.specs.Accepted.{All}
use Rattle.semantic.specs.Rows.{Row, Blank, Variable, Function, CallSite, Let}
use Rattle.pass.specs.Run.{fresh}
use Rattle.pass_laws.specs.Laws.All.{all_zip}
use Rattle.pass_laws.specs.Laws.Finds.{Of, of_none, of_some, find-all}
use Rattle.pass_laws.specs.Laws.Counts.{share, share_same, share_other, credit_cell, credit, credits_of, Told}
use Rattle.pass_laws.specs.Laws.Bottoms.{cell}
use Rattle.pass_laws.specs.Laws.Uses.{fresh-told}
use Rattle.pass_laws.specs.Laws.Spots.{times, times_here, times_none, binder_at, mention_at, define_at, spots, in_scope_lem}
use Rattle.r7rs.specs.Binding.{Binder, Mention, events, mentions_in, binders_in, meant}
use Rattle.r7rs.specs.Bottom.{Define, defines_of, last_or, bottom_entry}
use Rattle.lockstep.specs.Facts.{row_of}
use Rattle.execution.specs.Premises.{FreshAccepts}
use Rattle.execution.specs.References.{Reference, reference_in, uses_in, is_it, count, is_none, is_ident, refers_to, has_entry, bound_uses, defined_name, fresh_binder, UsesCounted}
use Rattle.execution.proofs.Laws.BindingFresh.{eqb_sym, no_nine, binding_fresh}
use Rattle.execution.proofs.Laws.DefinedNames.{defined-fresh}
use Rattle.execution.specs.Claims.{rows, UsesFresh}

-- A bottom entry is a define's name

last_some : (P : Ident → Type 0) (o : Option Ident) (p : Define → Bool) (l : List Define) → IfSome o P → All (λ d. P d.name) l → IfSome (last_or o p l) P
unfolding last_or
last_some P o p [] s a = s
last_some P o p (d ∷ l) s a = last_some P (cond (p d) (Some d.name) o) p l (go (p d)) a.1
  where
    go : (q : Bool) → IfSome (cond q (Some d.name) o) P
    go true = a.0
    go false = s

module _ (ts : Trees) where
  bottom_some : (P : Ident → Type 0) → All (λ d. P d.name) (defines_of (top_level ts)) → (x : Ident) → IfSome (cell ts x) P
  unfolding bottom_entry
  bottom_some P a x = last_some P _ _ (defines_of (top_level ts)) (last_some P None _ (defines_of (top_level ts)) tt a) a

  -- What one mention gives, where the name at y is of one sort

  -- a parameter's or let name's
  bound-credit : (b : Binder) (m : Mention) (o : Option Binder) → ¬ (m.ident.at ≡ b.ident.at) → IfSome (cell ts m.ident) (λ d. ¬ (d.at ≡ b.ident.at))
      → credit (cell ts) m o b.ident.at ≡ cond (is_it b o) 1 0 + cond (m.is_set && is_it b o) 1 0
  bound-credit b m None n e = go (cell ts m.ident) e ∙ rw (and-false m.is_set) refl
    where
      go : (c : Option Ident) → IfSome c (λ d. ¬ (d.at ≡ b.ident.at)) → credit_cell m.ident c b.ident.at ≡ 0
      go None h = refl
      go (Some d) h = omega (arith, share_other d.at 1 b.ident.at (λ q. h (sym q)), share_other m.ident.at 1 b.ident.at (λ q. n (sym q)))
  bound-credit b m (Some c) n e =
      rw (eqb_sym c.ident.at b.ident.at) (omega (arith, go (eqb b.ident.at c.ident.at) m.is_set, share_other m.ident.at 1 b.ident.at (λ q. n (sym q))))
    where
      go : (q s : Bool) → cond q (cond s 2 1) 0 ≡ cond q 1 0 + cond (s && q) 1 0
      go true true = refl
      go true false = refl
      go false true = refl
      go false false = refl

  -- a define's
  define-credit : (d : Ident) (m : Mention) {o : Option Binder} → ¬ (m.ident.at ≡ d.at) → Of (λ b. ¬ (b.ident.at ≡ d.at)) o
      → credit (cell ts) m o d.at ≡ cond (is_none o && is_ident d (cell ts m.ident)) 1 0
  define-credit d m n of_none = go (cell ts m.ident)
    where
      go : (c : Option Ident) → credit_cell m.ident c d.at ≡ cond (is_ident d c) 1 0
      go None = refl
      go (Some e) = rw (eqb_sym e.at d.at) (omega (arith, share_other m.ident.at 1 d.at (λ q. n (sym q))))
  define-credit d m n (of_some {b} h) = omega (arith, share_other b.ident.at (cond m.is_set 2 1) d.at (λ q. h (sym q)), share_other m.ident.at 1 d.at (λ q. n (sym q)))

  -- a mention's
  own-credit : (y : ℕ) (m : Mention) {o : Option Binder} → Of (λ b. ¬ (b.ident.at ≡ y)) o → IfSome (cell ts m.ident) (λ d. ¬ (d.at ≡ y))
      → credit (cell ts) m o y ≡ cond (not (is_none o) || not (is_none (cell ts m.ident))) (share m.ident.at 1 y) 0
  own-credit y m of_none e = go (cell ts m.ident) e
    where
      go : (c : Option Ident) → IfSome c (λ d. ¬ (d.at ≡ y)) → credit_cell m.ident c y ≡ cond (not (is_none c)) (share m.ident.at 1 y) 0
      go None h = refl
      go (Some d) h = omega (arith, share_other d.at 1 y (λ q. h (sym q)))
  own-credit y m (of_some {b} h) e = omega (arith, share_other b.ident.at (cond m.is_set 2 1) y (λ q. h (sym q)))

  -- What all give

  bound-credits : (b : Binder) → ((x : Ident) → IfSome (cell ts x) (λ d. ¬ (d.at ≡ b.ident.at))) → (l : List Mention) → All (λ m. ¬ (m.ident.at ≡ b.ident.at)) l
      → credits_of (cell ts) l b.ident.at ≡ bound_uses b l
  unfolding count
  bound-credits b e [] a = refl
  bound-credits b e (m ∷ l) a = omega (arith, bound-credit b m (meant m) a.0 (e m.ident), bound-credits b e l a.1)

  define-credits : (d : Ident) (l : List Mention) → All (λ m. ¬ (m.ident.at ≡ d.at)) l → All (λ m. All (λ b. ¬ (b.ident.at ≡ d.at)) m.place.scope) l
      → credits_of (cell ts) l d.at ≡ count (refers_to ts d) l
  unfolding count
  define-credits d [] a s = refl
  define-credits d (m ∷ l) a s = omega (arith, define-credit d m a.0 (find-all m.place.scope s.0 m.ident.name), define-credits d l a.1 s.1)

  -- those of the mentions at y
  abbrev owns : List Mention → ℕ → ℕ
  owns [] y = 0
  owns (m ∷ l) y = cond (has_entry ts m) (share m.ident.at 1 y) 0 + owns l y

  own-credits : (y : ℕ) → ((x : Ident) → IfSome (cell ts x) (λ d. ¬ (d.at ≡ y))) → (l : List Mention) → All (λ m. All (λ b. ¬ (b.ident.at ≡ y)) m.place.scope) l
      → credits_of (cell ts) l y ≡ owns l y
  own-credits y e [] s = refl
  own-credits y e (m ∷ l) s = omega (arith, own-credit y m (find-all m.place.scope s.0 m.ident.name) (e m.ident), own-credits y e l s.1)

  owns_most : (l : List Mention) (y : ℕ) → owns l y ≤ times mention_at l y
  owns_most [] y = omega arith
  owns_most (m ∷ l) y = omega (arith, go (has_entry ts m), owns_most l y)
    where
      go : (q : Bool) → cond q (share m.ident.at 1 y) 0 ≤ share m.ident.at 1 y
      go true = omega arith
      go false = omega arith

  -- no two at one record
  owns-one : (l : List Mention) → ((y : ℕ) → times mention_at l y ≤ 1) → All (λ m. owns l m.ident.at ≡ cond (has_entry ts m) 1 0) l
  owns-one [] h = tt
  owns-one (m ∷ l) h =
      let y = m.ident.at in (
        omega (arith, ap (λ (n : ℕ). cond (has_entry ts m) n 0) (share_same y 1), h y, share_same y 1, owns_most l y),
        all_zip (λ o. owns l o.ident.at ≡ cond (has_entry ts o) 1 0) (λ o. 1 ≤ times mention_at l o.ident.at) (λ o. owns (m ∷ l) o.ident.at ≡ cond (has_entry ts o) 1 0)
            (λ o e k. omega (arith, go (has_entry ts m) (share y 1 o.ident.at) (omega (arith, h o.ident.at)))) l (owns-one l (λ z. omega (arith, h z))) (times_here mention_at l),
      )
    where
      go : (q : Bool) (n : ℕ) → n ≡ 0 → cond q n 0 ≡ 0
      go true n e = e
      go false n e = refl

-- The rows

-- one that refers is an identifier's
used : (r : Row) {n : ℕ} {k : Reference} → reference_in r ≡ Some k → Told n r → uses_in r ≡ Some n
used Blank {k = k} e t = absurd (none-some k e)
used (Variable v) e t = ap Some t
used (Function v) {k = k} e t = absurd (none-some k e)
used (CallSite v) {k = k} e t = absurd (none-some k e)
used (Let v) {k = k} e t = absurd (none-some k e)

-- each mention has some before it and some after
each : (Q : Mention → Type 0) (before l : List Mention) → ((pre post : List Mention) (m : Mention) → before ++ l ≡ pre ++ (m ∷ post) → Q m) → All Q l
each Q before [] f = tt
each Q before (m ∷ l) f = (f before l m refl, each Q (before ++ (m ∷ [])) l (λ pre post o e. f pre post o (sym (append_assoc before (m ∷ []) l) ∙ e)))

module _ (classes rs : List ℕ) (ts : Trees) (a : FreshAccepts classes rs ts) (d : inner_defines ts ≡ []) where
  abbrev row_at : ℕ → Row
  row_at y = row_of (rows (fresh classes ts)) y

  abbrev l : List Mention
  l = mentions_in (events ts)

  abbrev B : List Binder
  B = binders_in (events ts)

  abbrev D : List Define
  D = defines_of (top_level ts)

  counted : (y n : ℕ) {k : Reference} → reference_in (row_at y) ≡ Some k → credits_of (cell ts) l y ≡ n → uses_in (row_at y) ≡ Some n
  counted y n r e =
      used (row_at y) r (subst (λ (k : ℕ). Told k (row_at y)) e (fresh-told classes ts a.accepted.num a.accepted.few d (no_nine (fresh classes ts).noted a.not_refused) y))

  -- no define stands at y; no parameter or let name does

  cells : (y : ℕ) → times define_at D y ≡ 0 → (x : Ident) → IfSome (cell ts x) (λ e. ¬ (e.at ≡ y))
  cells y e = bottom_some ts (λ x. ¬ (x.at ≡ y)) (times_none define_at D y e)

  scopes : (y : ℕ) → times binder_at B y ≡ 0 → All (λ m. All (λ b. ¬ (b.ident.at ≡ y)) m.place.scope) l
  scopes y e = in_scope_lem (λ b. ¬ (b.ident.at ≡ y)) ts (times_none binder_at B y e)

  uses-counted : UsesCounted ts (rows (fresh classes ts))
  uses-counted =
      let one = spots ts a.accepted.num in
      let binding = binding_fresh classes rs ts a d in
      record {
        bound = all_zip (λ b. reference_in (row_at b.ident.at) ≡ Some (fresh_binder classes ts b)) (λ b. 1 ≤ times binder_at B b.ident.at)
            (λ b. uses_in (row_at b.ident.at) ≡ Some (bound_uses b l))
            (λ b r h. let y = b.ident.at in counted y _ r (bound-credits ts b (cells y (omega (arith, one y))) l (times_none mention_at l y (omega (arith, one y)))))
            B binding.bound (times_here binder_at B);
        defined = all_zip (λ e. reference_in (row_at e.name.at) ≡ Some defined_name) (λ e. 1 ≤ times define_at D e.name.at)
            (λ e. uses_in (row_at e.name.at) ≡ Some (count (refers_to ts e.name) l))
            (λ e r h.
            let y = e.name.at in
            counted y _ r (define-credits ts e.name l (times_none mention_at l y (omega (arith, one y))) (scopes y (omega (arith, one y)))))
            D (defined-fresh classes rs ts a).0 (times_here define_at D);
        mentioned = all_zip (λ m. (k : Reference) × (reference_in (row_at m.ident.at) ≡ Some k)) (λ m. credits_of (cell ts) l m.ident.at ≡ cond (has_entry ts m) 1 0)
            (λ m. uses_in (row_at m.ident.at) ≡ Some (cond (has_entry ts m) 1 0)) (λ m r e. counted m.ident.at _ r.1 e)
            l (each _ [] l (λ pre post m e. (_, binding.mentioned pre post m e)))
            (all_zip (λ m. 1 ≤ times mention_at l m.ident.at) (λ m. owns ts l m.ident.at ≡ cond (has_entry ts m) 1 0)
            (λ m. credits_of (cell ts) l m.ident.at ≡ cond (has_entry ts m) 1 0)
            (λ m h e. let y = m.ident.at in own-credits ts y (cells y (omega (arith, one y))) l (scopes y (omega (arith, one y))) ∙ e)
            l (times_here mention_at l) (owns-one ts l (λ y. omega (arith, one y))));
      }

pub uses-fresh : UsesFresh
uses-fresh classes rs ts a d = uses-counted classes rs ts a d
