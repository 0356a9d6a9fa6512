-- when, unless: the test, then what follows: its lambda defines enter, and it is visited.
use Prim.Native.Nat.{ℕ, suc, ◌+◌, ◌*◌, ◌≤◌, ◌<◌}
use mathlib.Core.List.{List}
use mathlib.Core.Bool.{Bool, true, false}
use mathlib.Core.Path.{◌≡◌, refl, ap, sym, subst, ◌∙◌}
use native.Mathlib.Omega.{arith}
use borrow.Author.Tests.{eqb-true, eqb-false}
use lib.ListN.{length, drop}
use lib.Dec.{eqb}
use Rattle.tree.specs.Record.{width, nth}
use Rattle.tree.specs.Tree.{Node, Tree, Trees, sequence, nil, cons, whens, many, size, sizes}
use Rattle.tree.proofs.Laws.Tree.{size_pos, many_sizes}
use Rattle.tree.specs.Core.{cores}
use Rattle.tree.specs.Stands.{StandAll}
use Rattle.tree.proofs.Laws.Stands.{first_tree, later_trees}
use Rattle.tree.proofs.Laws.Stands.Forms.{when_of, unless_of}
use Rattle.semantic.specs.declared.IdentifierStatus.TheVariants.{LocallyDefinedFunction}
use Rattle.pass.specs.Visit.{not_tail, in_begin, enter_children, visit}
use Rattle.pass_laws.specs.Visitable.{Visitable}
use Rattle.pass_laws.specs.Laws.Visitable.Parts.{when-test, when_children}
use Rattle.pass_laws.specs.Laws.Visitable.Visited.{visited_live}
use Rattle.pass_laws.specs.Laws.Visitable.Leaves.{visited_reliable}
use Rattle.work.specs.Known.{Known}
use Rattle.work.specs.Tied.{Raw, raw, Tied, Fits}
use Rattle.work.specs.declared.Pass.{Pass}
use Rattle.flags.specs.Flags.{Handed}
use Rattle.forms.specs.Contract.{ChildrenFit, EntersChildren}
use Rattle.flags.specs.declared.Flags.{Flags as Coded}
use Rattle.visits.specs.Contract.{Fit, Done, children, FitRow, DoneRow, IsWhen}
use Rattle.visits.proofs.Views.{part-on, small, stand_all-at, children_at, names_room}
use Rattle.visits.proofs.SequenceCase as row

up : (f k : ℕ) → k ≤ f → (f ≡ k → ⊥) → suc k ≤ f
up f k h n = omega arith

-- the forms that the others leave
pub when-left : (f : ℕ) → 3 ≤ f → (f ≡ 3 → ⊥) → (f ≡ 4 → ⊥) → (f ≡ 5 → ⊥) → (f ≡ 6 → ⊥) → (f ≡ 7 → ⊥) → (f ≡ 8 → ⊥) → (f ≡ 9 → ⊥) → (f ≡ 10 → ⊥)
    → f < 13 → IsWhen f
when-left f h a b c d i j k l m =
    (up f 10 (up f 9 (up f 8 (up f 7 (up f 6 (up f 5 (up f 4 (up f 3 h a) b) c) d) i) j) k) l, omega arith)

module _ {classes rs part : List ℕ} {at : ℕ} {g : Coded} {z : Raw} where
  pub record View (x : Fit classes rs part at g z) : Type 0 where
    pub b : Bool
    pub n : Node
    pub t : Tree
    pub ts : Trees
    pub tree : x.t ≡ sequence (whens b n) (cons t ts)
    pub count : (nth rs at).count ≡ suc (many ts)
    pub stand : StandAll (length classes) rs (at + 1) (cons t ts)
    pub fits : Visitable (Known rs) at (sequence (whens b n) (cons t ts)) x.f x.s

  -- it has a test
  tested : {b : Bool} {x : Fit classes rs part at g z} → row.View (whens b) x → View x
  tested {b} {x} v = go v.es v.tree v.parts.count v.parts.children v.parts.tested v.fits
    where
      go : (es : Trees) → x.t ≡ sequence (whens b v.n) es → (nth rs at).count ≡ many es → StandAll (length classes) rs (at + 1) es → 0 < many es
          → Visitable (Known rs) at (sequence (whens b v.n) es) x.f x.s → View x
      go nil e c s h w = absurd (omega arith)
      go (cons t ts) e c s h w = record { b = b; n = v.n; t = t; ts = ts; tree = e; count = c; stand = s; fits = w }

  pub view : (x : Fit classes rs part at g z) → IsWhen (nth rs at).form → View x
  view x h = go (eqb (nth rs at).form 11) refl
    where
      go : (b : Bool) → eqb (nth rs at).form 11 ≡ b → View x
      go true e = tested (row.view x (when_of x.stands (eqb-true (nth rs at).form 11 e)))
      go false e =
          let n = eqb-false (nth rs at).form 11 e in
          tested (row.view x (unless_of x.stands (omega (arith, n, h.0, h.1))))

  -- the test has a record, and the count tells it
  pub when_long : IsWhen (nth rs at).form → (x : Fit classes rs part at g z) → (2 ≤ size x.t) × (1 ≤ (nth rs at).count)
  unfolding size
  when_long e x = let v = view x e in (rw v.tree (omega (arith, size_pos v.t)), omega (arith, v.count))

  pub test_fits : {p : List ℕ} {g₁ : Coded} → IsWhen (nth rs at).form → Handed g not_tail g₁ → p ≡ drop (width * 1) part
      → Fit classes rs part at g z → Fit classes rs p (at + 1) g₁ z
  test_fits e h d x =
      let v = view x e in
      record {
        t = v.t;
        f = not_tail x.f;
        s = x.s;
        is = part-on rs at 1 x.is d;
        stands = first_tree v.stand;
        flags = h.is x.f x.flags;
        tied = x.tied;
        fits = when-test small classes at x.f x.s v.b v.n v.t v.ts v.fits;
      }

  pub test_long : {p : List ℕ} {g₁ : Coded} {n₁ : ℕ} {z₁ : Raw} → IsWhen (nth rs at).form → Handed g not_tail g₁ → p ≡ drop (width * 1) part
      → Done classes rs p (at + 1) g₁ z n₁ z₁ → (x : Fit classes rs part at g z) → 1 + n₁ ≤ size x.t
  unfolding size test_fits
  test_long {n₁ = n₁} e h d o x =
      let v = view x e in
      let u : n₁ ≡ size v.t = o.used (test_fits e h d x) in
      rw v.tree (omega arith)

module _ {classes rs part : List ℕ} {at : ℕ} {g : Coded} {z : Raw} {p : List ℕ} {k n₁ : ℕ} {g₁ : Coded} {p₁ : Pass} {F C A w : List ℕ}
    (e : IsWhen (nth rs at).form) (c : suc k ≡ (nth rs at).count) (h : Handed g not_tail g₁) (d : p ≡ drop (width * 1) part)
    (o : Done classes rs p (at + 1) g₁ z n₁ (raw p₁ F C A w)) where
  -- the state after the test is held
  held : (x : Fit classes rs part at g z) → Fits rs (raw p₁ F C A w) (visit classes (view x e).t (not_tail x.f) x.s)
  unfolding test_fits
  held x =
      let v = view x e in
      record {
        good = (visited_reliable small classes (when-test small classes at x.f x.s v.b v.n v.t v.ts v.fits)).good;
        tied = o.state (test_fits e h d x);
      }

  follows : (x : Fit classes rs part at g z) → at + 1 + size (view x e).t ≡ at + 1 + n₁
  unfolding test_fits
  follows x = ap (λ (i : ℕ). at + 1 + i) (sym (o.used (test_fits e h d x)))

  many-follow : (x : Fit classes rs part at g z) → k ≡ many (view x e).ts
  many-follow x = omega (arith, (view x e).count)

  pub follow-enter : Fit classes rs part at g z → ChildrenFit (length classes) rs (at + 1 + n₁) k p₁ F w
  unfolding size
  follow-enter x =
      let v = view x e in
      let f = v.fits in
      let l = visited_live small classes (when-test small classes at x.f x.s v.b v.n v.t v.ts f) in
      record {
        captured = C;
        arguments = A;
        s = visit classes v.t (not_tail x.f) x.s;
        es = v.ts;
        stand = stand_all-at (follows x) (later_trees v.stand);
        count = many-follow x;
        fits = held x;
        room = names_room (held x).tied (many-follow x) (omega (arith, l, f.ample.live, many_sizes v.ts));
      }

  module _ {q : List ℕ} {g₂ : Coded} {p₂ : Pass} {F₂ w₂ : List ℕ} (y : EntersChildren classes rs (at + 1 + n₁) k LocallyDefinedFunction p₁ F w p₂ F₂ w₂)
      (b : Handed g in_begin g₂) (l : q ≡ drop (width * (1 + n₁)) part) where
    pub follow-fits : Fit classes rs part at g z → FitRow children classes rs q k (at + 1 + n₁) g₂ (raw p₂ F₂ C A w₂)
    follow-fits x =
        let v = view x e in
        let s = visit classes v.t (not_tail x.f) x.s in
        let u = stand_all-at (follows x) (later_trees v.stand) in
        let i : at + (1 + n₁) ≡ at + 1 + n₁ = omega arith in
        record {
          ts = v.ts;
          f = in_begin x.f;
          s = enter_children classes LocallyDefinedFunction (cores v.ts) s;
          is = part-on rs at (1 + n₁) x.is l ∙ ap (λ (j : ℕ). drop (width * j) rs) i;
          stand = u;
          count = sym (many-follow x);
          flags = b.is x.f x.flags;
          tied = y.is C A s v.ts u (many-follow x) (held x);
          fits = children_at (follows x) (when_children small classes at x.f x.s v.b v.n v.t v.ts v.fits);
        }

    pub when_done : {n₂ : ℕ} {z₃ : Raw} → DoneRow children classes rs q k (at + 1 + n₁) g₂ (raw p₂ F₂ C A w₂) n₂ z₃
        → Done classes rs part at g z (1 + n₁ + n₂) z₃
    unfolding size visit test_fits follow-fits
    when_done {n₂} {z₃} r = record {
      used = λ x.
          let v = view x e in
          let i : n₁ ≡ size v.t = o.used (test_fits e h d x) in
          let j : n₂ ≡ sizes v.ts = r.used (follow-fits x) in
          rw v.tree (omega arith);
      state = λ x.
          let v = view x e in
          subst (λ (t : Tree). Tied z₃ (visit classes t x.f x.s)) (sym v.tree) (r.state (follow-fits x));
    }
