-- if: the test, then both branches.
use Prim.Native.Nat.{ℕ, ◌+◌, ◌*◌, ◌≤◌}
use mathlib.Core.List.{List}
use mathlib.Core.Path.{◌≡◌, sym, subst}
use native.Mathlib.Omega.{arith}
use lib.ListN.{length, drop}
use Rattle.tree.specs.Record.{width, nth}
use Rattle.tree.specs.Tree.{Node, Tree, if, size}
use Rattle.tree.proofs.Laws.Tree.{size_pos}
use Rattle.tree.proofs.Laws.Stands.Parts.{IfParts}
use Rattle.tree.proofs.Laws.Stands.Forms.{if_of}
use Rattle.pass.specs.Visit.{not_tail, same_tail, visit}
use Rattle.pass_laws.specs.Visitable.{Visitable}
use Rattle.pass_laws.specs.Laws.Visitable.Parts.{if_first, if_second, if_third}
use Rattle.work.specs.Known.{Known}
use Rattle.work.specs.Tied.{Raw, Tied}
use Rattle.flags.specs.Flags.{Handed}
use Rattle.flags.specs.declared.Flags.{Flags as Coded}
use Rattle.visits.specs.Contract.{Fit, Done}
use Rattle.visits.proofs.Views.{part-on, small, stands_at_lem, visitable_at}

module _ {classes rs part : List ℕ} {at : ℕ} {g : Coded} {z : Raw} where
  record IfView (x : Fit classes rs part at g z) : Type 0 where
    n : Node
    a : Tree
    b : Tree
    c : Tree
    tree : x.t ≡ if n a b c
    parts : IfParts (length classes) rs at n a b c
    fits : Visitable (Known rs) at (if n a b c) x.f x.s

  view : (x : Fit classes rs part at g z) → (nth rs at).form ≡ 3 → IfView x
  view x e =
      let v = if_of x.stands e in
      record {
        n = v.n;
        a = v.a;
        b = v.b;
        c = v.c;
        tree = v.is;
        parts = v.parts;
        fits = subst (λ (t : Tree). Visitable (Known rs) at t x.f x.s) v.is x.fits;
      }

  pub test_fits : {p : List ℕ} {g₁ : Coded} → (nth rs at).form ≡ 3 → Handed g not_tail g₁ → p ≡ drop (width * 1) part
      → Fit classes rs part at g z → Fit classes rs p (at + 1) g₁ z
  test_fits e h d x =
      let v = view x e in
      record {
        t = v.a;
        f = not_tail x.f;
        s = x.s;
        is = part-on rs at 1 x.is d;
        stands = v.parts.test;
        flags = h.is x.f x.flags;
        tied = x.tied;
        fits = if_first small classes at x.f x.s v.n v.a v.b v.c v.fits;
      }

  -- how many records are left, at least
  pub if_long : (nth rs at).form ≡ 3 → (x : Fit classes rs part at g z) → 4 ≤ size x.t
  unfolding size
  if_long e x = let v = view x e in rw v.tree (omega (arith, size_pos v.a, size_pos v.b, size_pos v.c))

  pub then_long : {p : List ℕ} {g₁ : Coded} {n₁ : ℕ} {z₁ : Raw} → (nth rs at).form ≡ 3 → Handed g not_tail g₁ → p ≡ drop (width * 1) part
      → Done classes rs p (at + 1) g₁ z n₁ z₁ → (x : Fit classes rs part at g z) → n₁ + 3 ≤ size x.t
  unfolding size test_fits
  then_long {n₁ = n₁} e h d o x =
      let v = view x e in
      let u : n₁ ≡ size v.a = o.used (test_fits e h d x) in
      rw v.tree (omega (arith, size_pos v.b, size_pos v.c))

  pub then-fits : {p q : List ℕ} {g₁ g₂ : Coded} {n₁ : ℕ} {z₁ : Raw} → (nth rs at).form ≡ 3 → Handed g not_tail g₁ → Handed g same_tail g₂
      → p ≡ drop (width * 1) part → Done classes rs p (at + 1) g₁ z n₁ z₁ → q ≡ drop (width * (1 + n₁)) part
      → Fit classes rs part at g z → Fit classes rs q (at + (1 + n₁)) g₂ z₁
  unfolding test_fits
  then-fits {n₁ = n₁} e h k d o l x =
      let v = view x e in
      let y = test_fits e h d x in
      let u : n₁ ≡ size v.a = o.used y in
      let i : at + 1 + size v.a ≡ at + (1 + n₁) = omega arith in
      record {
        t = v.b;
        f = same_tail x.f;
        s = visit classes v.a (not_tail x.f) x.s;
        is = part-on rs at (1 + n₁) x.is l;
        stands = stands_at_lem i v.parts.then;
        flags = k.is x.f x.flags;
        tied = o.state y;
        fits = visitable_at i (if_second small classes at x.f x.s v.n v.a v.b v.c v.fits);
      }

  pub else_long : {p q : List ℕ} {g₁ g₂ : Coded} {n₁ n₂ : ℕ} {z₁ z₂ : Raw} → (nth rs at).form ≡ 3 → Handed g not_tail g₁ → Handed g same_tail g₂
      → p ≡ drop (width * 1) part → Done classes rs p (at + 1) g₁ z n₁ z₁ → q ≡ drop (width * (1 + n₁)) part
      → Done classes rs q (at + (1 + n₁)) g₂ z₁ n₂ z₂ → (x : Fit classes rs part at g z) → n₁ + n₂ + 2 ≤ size x.t
  unfolding size test_fits then-fits
  else_long {n₁ = n₁} {n₂ = n₂} e h k d o l w x =
      let v = view x e in
      let u : n₁ ≡ size v.a = o.used (test_fits e h d x) in
      let t : n₂ ≡ size v.b = w.used (then-fits e h k d o l x) in
      rw v.tree (omega (arith, size_pos v.c))

  pub else-fits : {p q r : List ℕ} {g₁ g₂ g₃ : Coded} {n₁ n₂ : ℕ} {z₁ z₂ : Raw} → (nth rs at).form ≡ 3 → Handed g not_tail g₁ → Handed g same_tail g₂
      → p ≡ drop (width * 1) part → Done classes rs p (at + 1) g₁ z n₁ z₁ → q ≡ drop (width * (1 + n₁)) part
      → Done classes rs q (at + (1 + n₁)) g₂ z₁ n₂ z₂ → Handed g same_tail g₃ → r ≡ drop (width * (1 + n₁ + n₂)) part
      → Fit classes rs part at g z → Fit classes rs r (at + (1 + n₁ + n₂)) g₃ z₂
  unfolding test_fits then-fits
  else-fits {n₁ = n₁} {n₂ = n₂} e h k d o l w b m x =
      let v = view x e in
      let u : n₁ ≡ size v.a = o.used (test_fits e h d x) in
      let y = then-fits e h k d o l x in
      let t : n₂ ≡ size v.b = w.used y in
      let i : at + 1 + size v.a + size v.b ≡ at + (1 + n₁ + n₂) = omega arith in
      record {
        t = v.c;
        f = same_tail x.f;
        s = visit classes v.b (same_tail x.f) (visit classes v.a (not_tail x.f) x.s);
        is = part-on rs at (1 + n₁ + n₂) x.is m;
        stands = stands_at_lem i v.parts.otherwise;
        flags = b.is x.f x.flags;
        tied = w.state y;
        fits = visitable_at i (if_third small classes at x.f x.s v.n v.a v.b v.c v.fits);
      }

  pub if_done : {p q r : List ℕ} {g₁ g₂ g₃ : Coded} {n₁ n₂ n₃ : ℕ} {z₁ z₂ z₃ : Raw} → (nth rs at).form ≡ 3 → Handed g not_tail g₁ → Handed g same_tail g₂
      → p ≡ drop (width * 1) part → Done classes rs p (at + 1) g₁ z n₁ z₁ → q ≡ drop (width * (1 + n₁)) part
      → Done classes rs q (at + (1 + n₁)) g₂ z₁ n₂ z₂ → Handed g same_tail g₃ → r ≡ drop (width * (1 + n₁ + n₂)) part
      → Done classes rs r (at + (1 + n₁ + n₂)) g₃ z₂ n₃ z₃ → Done classes rs part at g z (1 + n₁ + n₂ + n₃) z₃
  unfolding size visit test_fits then-fits else-fits
  if_done {n₁ = n₁} {n₂ = n₂} {n₃ = n₃} {z₃ = z₃} e h k d o l w i m t = record {
    used = λ x.
        let v = view x e in
        let a : n₁ ≡ size v.a = o.used (test_fits e h d x) in
        let b : n₂ ≡ size v.b = w.used (then-fits e h k d o l x) in
        let c : n₃ ≡ size v.c = t.used (else-fits e h k d o l w i m x) in
        rw v.tree (omega arith);
    state = λ x.
        let v = view x e in
        subst (λ (y : Tree). Tied z₃ (visit classes y x.f x.s)) (sym v.tree) (t.state (else-fits e h k d o l w i m x));
  }
