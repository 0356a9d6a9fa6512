-- begin: its lambda defines enter, then its children are visited. and: its children are visited.
use Prim.Native.Nat.{ℕ, ◌+◌, ◌*◌}
use mathlib.Core.List.{List}
use mathlib.Core.Bool.{Bool}
use mathlib.Core.Path.{◌≡◌, ap, sym, subst, ◌∙◌}
use native.Mathlib.Omega.{arith}
use borrow.Author.Tests.{ne_eqb}
use lib.ListN.{length, drop}
use lib.Dec.{eqb}
use Rattle.tree.specs.Record.{width, nth}
use Rattle.tree.specs.Tree.{Node, Tree, Trees, sequence, nil, cons, Sequence, begins, many, size, sizes}
use Rattle.tree.proofs.Laws.Stands.Parts.{BeginParts}
use Rattle.tree.proofs.Laws.Stands.Forms.{BeginOf, begin_of, and_of_lem}
use Rattle.semantic.specs.declared.IdentifierStatus.TheVariants.{LocallyDefinedFunction}
use Rattle.pass.specs.State.{State}
use Rattle.pass.specs.Visit.{Flags, is_alone, in_begin, in_and, visit}
use Rattle.pass_laws.specs.Visitable.{Visitable, VisitableChildren}
use Rattle.pass_laws.specs.Laws.Visitable.Parts.{begin_children, and_children}
use Rattle.pass_laws.specs.Laws.Visitable.Leaves.{begin_enters}
use Rattle.work.specs.Known.{Known}
use Rattle.work.specs.Tied.{Raw, raw, Tied}
use Rattle.work.specs.declared.Pass.{Pass}
use Rattle.flags.specs.Flags.{FlagsAre, Handed}
use Rattle.forms.specs.Contract.{ChildrenFit, EntersChildren}
use Rattle.flags.specs.declared.Flags.{Flags as Coded}
use Rattle.visits.specs.Contract.{Fit, Done, children, FitRow, DoneRow}
use Rattle.visits.proofs.Views.{part-on, small, names_room}

module _ {classes rs part : List ℕ} {at : ℕ} {g : Coded} {z : Raw} where
  pub record View (c : Node → Sequence) (x : Fit classes rs part at g z) : Type 0 where
    pub n : Node
    pub es : Trees
    pub tree : x.t ≡ sequence (c n) es
    pub parts : BeginParts (length classes) rs at (c n) es
    pub fits : Visitable (Known rs) at (sequence (c n) es) x.f x.s

  pub view : {c : Node → Sequence} (x : Fit classes rs part at g z) → BeginOf (length classes) rs at x.t c → View c x
  view x v = record {
    n = v.n;
    es = v.es;
    tree = v.is;
    parts = v.parts;
    fits = subst (λ (t : Tree). Visitable (Known rs) at t x.f x.s) v.is x.fits;
  }

  -- the children, with what they are handed and the state that is held before them
  abbrev row : {c : Node → Sequence} {x : Fit classes rs part at g z} {q : List ℕ} {k : ℕ} {g₁ : Coded} {z₁ : Raw} {f : Flags} {s : State} → (v : View c x)
      → q ≡ drop (width * 1) part → k ≡ (nth rs at).count → FlagsAre g₁ f → Tied z₁ s → VisitableChildren (Known rs) (at + 1) v.es f s
      → FitRow children classes rs q k (at + 1) g₁ z₁
  row {x = x} {f = f} {s} v d c a t w = record {
    ts = v.es;
    f = f;
    s = s;
    is = part-on rs at 1 x.is d;
    stand = v.parts.children;
    count = sym (c ∙ v.parts.count);
    flags = a;
    tied = t;
    fits = w;
  }

module _ {classes rs part : List ℕ} {at k : ℕ} {g : Coded} {p : Pass} {F C A w : List ℕ} (e : (nth rs at).form ≡ 7) (c : k ≡ (nth rs at).count) where
  pub begin_enter : Fit classes rs part at g (raw p F C A w) → ChildrenFit (length classes) rs (at + 1) k p F w
  begin_enter x =
      let v = view x (begin_of x.stands e) in
      let b = begin_enters small classes at x.f x.s (begins v.n) v.es v.fits in
      let m : k ≡ many v.es = c ∙ v.parts.count in
      record {
        captured = C;
        arguments = A;
        s = x.s;
        es = v.es;
        stand = v.parts.children;
        count = m;
        fits = record { good = b.reliable.good; tied = x.tied };
        room = names_room x.tied m b.room.live;
      }

  module _ {q : List ℕ} {g₁ : Coded} {p₁ : Pass} {F₁ w₁ : List ℕ} (y : EntersChildren classes rs (at + 1) k LocallyDefinedFunction p F w p₁ F₁ w₁)
      (h : Handed g in_begin g₁) (d : q ≡ drop (width * 1) part) where
    pub begin_fits : Fit classes rs part at g (raw p F C A w) → FitRow children classes rs q k (at + 1) g₁ (raw p₁ F₁ C A w₁)
    begin_fits x =
        let v = view x (begin_of x.stands e) in
        let b = begin_enters small classes at x.f x.s (begins v.n) v.es v.fits in
        let m : k ≡ many v.es = c ∙ v.parts.count in
        row v d c (h.is x.f x.flags)
        (y.is C A x.s v.es v.parts.children m (record { good = b.reliable.good; tied = x.tied }))
        (begin_children small classes at x.f x.s v.n v.es v.fits)

    pub begin_done : {n₁ : ℕ} {z₁ : Raw} → DoneRow children classes rs q k (at + 1) g₁ (raw p₁ F₁ C A w₁) n₁ z₁
        → Done classes rs part at g (raw p F C A w) (1 + n₁) z₁
    unfolding size visit begin_fits
    begin_done {n₁} {z₁} o = record {
      used = λ x.
          let v = view x (begin_of x.stands e) in
          let u : n₁ ≡ sizes v.es = o.used (begin_fits x) in
          rw v.tree (omega arith);
      state = λ x.
          let v = view x (begin_of x.stands e) in
          subst (λ (t : Tree). Tied z₁ (visit classes t x.f x.s)) (sym v.tree) (o.state (begin_fits x));
    }

-- one child alone, by the count
alone : {k : ℕ} (es : Trees) → k ≡ many es → eqb k 1 ≡ is_alone es
alone nil e = ap (λ (i : ℕ). eqb i 1) e
alone (cons t nil) e = ap (λ (i : ℕ). eqb i 1) e
alone {k} (cons t (cons u us)) e = ne_eqb k 1 (λ i. omega arith)

module _ {classes rs part : List ℕ} {at k : ℕ} {g : Coded} {z : Raw} {q : List ℕ} {g₁ : Coded} (e : (nth rs at).form ≡ 10) (c : k ≡ (nth rs at).count)
    (h : Handed g (in_and (eqb k 1)) g₁) (d : q ≡ drop (width * 1) part) where
  pub and-fits : Fit classes rs part at g z → FitRow children classes rs q k (at + 1) g₁ z
  and-fits x =
      let v = view x (and_of_lem x.stands e) in
      let l = alone v.es (c ∙ v.parts.count) in
      row v d c (subst (λ (b : Bool). FlagsAre g₁ (in_and b x.f)) l (h.is x.f x.flags)) x.tied
      (and_children small classes at x.f x.s v.n v.es v.fits)

  pub and_done : {n₁ : ℕ} {z₁ : Raw} → DoneRow children classes rs q k (at + 1) g₁ z n₁ z₁ → Done classes rs part at g z (1 + n₁) z₁
  unfolding size visit and-fits
  and_done {n₁} {z₁} o = record {
    used = λ x.
        let v = view x (and_of_lem x.stands e) in
        let u : n₁ ≡ sizes v.es = o.used (and-fits x) in
        rw v.tree (omega arith);
    state = λ x.
        let v = view x (and_of_lem x.stands e) in
        subst (λ (t : Tree). Tied z₁ (visit classes t x.f x.s)) (sym v.tree) (o.state (and-fits x));
  }
