-- Call: the arguments, the head, then what is left of it.
use Prim.Native.Nat.{ℕ, suc, ◌+◌, ◌*◌, ◌≤◌, ◌<◌}
use mathlib.Core.List.{List}
use mathlib.Core.Bool.{Bool, true, false}
use mathlib.Core.Path.{◌≡◌, refl, ap, sym, subst, ◌∙◌}
use native.Mathlib.Omega.{arith}
use lib.ListN.{length, drop}
use lib.Dec.{eqb}
use Rattle.tree.specs.Record.{width, records, nth}
use Rattle.tree.specs.Tree.{Node, Tree, Trees, ident, const, if, letin, define, lambda, sequence, call, set!, begins, ands, whens, many, size, sizes}
use Rattle.tree.specs.Core.{peel}
use Rattle.tree.proofs.Laws.Core.{by_peel}
use Rattle.tree.specs.Stands.{Stands}
use Rattle.tree.proofs.Laws.Tree.{size_pos, many_sizes}
use Rattle.tree.proofs.Laws.Stands.{root_form, tree_inside}
use Rattle.tree.proofs.Laws.Parts.{own}
use Rattle.tree.proofs.Laws.Stands.Parts.{CallParts}
use Rattle.tree.proofs.Laws.Stands.Forms.{call_of_lem}
use Rattle.pass.specs.Visit.{argument_flags, head_flags, is_lambda_form, is_lambda, visit, visit_arguments}
use Rattle.pass_laws.specs.Visitable.{Visitable}
use Rattle.pass_laws.specs.Laws.Visitable.Parts.{call_arguments, call_head}
use Rattle.pass_laws.specs.Laws.Visitable.Leaves.{call_ends}
use Rattle.work.specs.Known.{Known}
use Rattle.work.specs.Tied.{Raw, raw, Tied}
use Rattle.work.specs.declared.Pass.{Pass}
use Rattle.walk.specs.Contract.{SomeTree, Extends, Reaches}
use Rattle.flags.specs.Flags.{FlagsAre, Handed, HandsHead}
use Rattle.forms.specs.Contract.{CallFits, ClosesCall}
use Rattle.flags.specs.declared.Flags.{Flags as Coded}
use Rattle.visits.specs.Contract.{Fit, Done, values, FitRow, DoneRow}
use Rattle.visits.proofs.Views.{part-on, small, stand_all-at, arguments_at_lem}

is_six : (t : Tree) → eqb (own t).form 6 ≡ is_lambda_form t
unfolding own
is_six (ident x) = refl
is_six (const n q) = refl
is_six (if n a b c) = refl
is_six (letin n xs es b) = refl
is_six (define n x b) = refl
is_six (lambda n xs b) = refl
is_six (sequence (begins n) es) = refl
is_six (sequence (ands n) es) = refl
is_six (sequence (whens true n) es) = refl
is_six (sequence (whens false n) es) = refl
is_six (call n h es) = refl
is_six (set! n x e) = refl

-- a lambda, by the form of what it is
pub form_lambda : {N i r f : ℕ} {rs : List ℕ} → Reaches rs i r → f ≡ (nth rs r).form → (t : Tree) → Stands N rs i t → eqb f 6 ≡ is_lambda t
form_lambda {N} w e t s = ap (λ (k : ℕ). eqb k 6) (e ∙ root_form (w.is N t s)) ∙ is_six (peel t) ∙ sym (by_peel is_lambda_form (λ n. refl) t)

module _ {classes rs part : List ℕ} {at : ℕ} {g : Coded} {z : Raw} where
  pub record CallView (x : Fit classes rs part at g z) : Type 0 where
    pub n : Node
    pub h : Tree
    pub es : Trees
    pub tree : x.t ≡ call n h es
    pub parts : CallParts (length classes) rs at n h es
    pub stands : Stands (length classes) rs at (call n h es)
    pub fits : Visitable (Known rs) at (call n h es) x.f x.s

  pub view : (x : Fit classes rs part at g z) → (nth rs at).form ≡ 8 → CallView x
  view x e =
      let v = call_of_lem x.stands e in
      record {
        n = v.n;
        h = v.h;
        es = v.es;
        tree = v.is;
        parts = v.parts;
        stands = subst (λ (t : Tree). Stands (length classes) rs at t) v.is x.stands;
        fits = subst (λ (t : Tree). Visitable (Known rs) at t x.f x.s) v.is x.fits;
      }

  pub call_long : (nth rs at).form ≡ 8 → (x : Fit classes rs part at g z) → (2 ≤ size x.t) × ((nth rs at).count ≤ size x.t) × (1 ≤ (nth rs at).count)
  unfolding size
  call_long e x =
      let v = view x e in
      let c = v.parts.count in
      (rw v.tree (omega (arith, size_pos v.h)), rw v.tree (omega (arith, size_pos v.h, many_sizes v.es)), omega arith)

  pub operator_stands : (nth rs at).form ≡ 8 → Fit classes rs part at g z → SomeTree rs (at + 1)
  operator_stands e x = let v = view x e in record { names = length classes; tree = record { t = v.h; stands = v.parts.operator } }

  -- what it is stands among the records
  pub reached-inside : {r : ℕ} → (nth rs at).form ≡ 8 → Reaches rs (at + 1) r → Fit classes rs part at g z → r < length (records rs)
  reached-inside {r} e l x =
      let v = view x e in
      let s = l.is (length classes) v.h v.parts.operator in
      omega (arith, tree_inside s, size_pos (peel v.h))

  pub operator_long : {m : ℕ} → (nth rs at).form ≡ 8 → Extends rs (at + 1) m → (x : Fit classes rs part at g z) → 1 + m ≤ size x.t
  unfolding size
  operator_long {m} e l x =
      let v = view x e in
      let u : m ≡ size v.h = l.is (length classes) v.h v.parts.operator in
      rw v.tree (omega arith)

  -- the head has m records, and k arguments come after it
  pub operands_fit : {p : List ℕ} {k m : ℕ} {g₁ : Coded} → (nth rs at).form ≡ 8 → suc k ≡ (nth rs at).count → Extends rs (at + 1) m → Handed g argument_flags g₁
      → p ≡ drop (width * (1 + m)) part → Fit classes rs part at g z → FitRow values classes rs p k (at + 1 + m) g₁ z
  operands_fit {k = k} {m = m} e c l a d x =
      let v = view x e in
      let u : m ≡ size v.h = l.is (length classes) v.h v.parts.operator in
      let i : at + 1 + size v.h ≡ at + 1 + m = omega arith in
      let b : at + (1 + m) ≡ at + 1 + m = omega arith in
      record {
        ts = v.es;
        f = argument_flags x.f;
        s = x.s;
        is = part-on rs at (1 + m) x.is d ∙ ap (λ (j : ℕ). drop (width * j) rs) b;
        stand = stand_all-at i v.parts.operands;
        count = omega (arith, v.parts.count);
        flags = a.is x.f x.flags;
        tied = x.tied;
        fits = arguments_at_lem i (call_arguments small classes at x.f x.s v.n v.h v.es v.fits);
      }

  pub operator_fits : {p q : List ℕ} {k m n₁ : ℕ} {lambda : Bool} {g₁ g₂ : Coded} {z₁ : Raw} → (nth rs at).form ≡ 8 → suc k ≡ (nth rs at).count
      → Extends rs (at + 1) m → Handed g argument_flags g₁ → p ≡ drop (width * (1 + m)) part → DoneRow values classes rs p k (at + 1 + m) g₁ z n₁ z₁
      → ((t : Tree) → Stands (length classes) rs (at + 1) t → lambda ≡ is_lambda t) → HandsHead g lambda k g₂ → q ≡ drop (width * 1) part
      → Fit classes rs part at g z → Fit classes rs q (at + 1) g₂ z₁
  unfolding operands_fit
  operator_fits {k = k} {g₂ = g₂} e c l a d o w b t x =
      let v = view x e in
      let u : many v.es ≡ k = omega (arith, v.parts.count) in
      record {
        t = v.h;
        f = head_flags v.h (many v.es) x.f;
        s = visit_arguments classes v.es (argument_flags x.f) x.s;
        is = part-on rs at 1 x.is t;
        stands = v.parts.operator;
        flags = subst (λ (j : ℕ). FlagsAre g₂ (head_flags v.h j x.f)) (sym u) (b.is v.h x.f (w v.h v.parts.operator) x.flags);
        tied = o.state (operands_fit e c l a d x);
        fits = call_head small classes at x.f x.s v.n v.h v.es v.fits;
      }

module _ {classes rs part : List ℕ} {at : ℕ} {g : Coded} {z : Raw} {p q : List ℕ} {k m n₁ n₂ : ℕ} {lambda : Bool} {g₁ g₂ : Coded} {z₁ : Raw} {p₂ : Pass} {F C A w : List ℕ}
    (e : (nth rs at).form ≡ 8) (c : suc k ≡ (nth rs at).count) (l : Extends rs (at + 1) m) (a : Handed g argument_flags g₁)
    (d : p ≡ drop (width * (1 + m)) part) (o : DoneRow values classes rs p k (at + 1 + m) g₁ z n₁ z₁)
    (b : (t : Tree) → Stands (length classes) rs (at + 1) t → lambda ≡ is_lambda t) (j : HandsHead g lambda k g₂) (t : q ≡ drop (width * 1) part)
    (r : Done classes rs q (at + 1) g₂ z₁ n₂ (raw p₂ F C A w)) where
  pub call_fits : Fit classes rs part at g z → CallFits rs at (at + 1 + m) k p₂ F w
  unfolding operator_fits
  call_fits x =
      let v = view x e in
      record {
        names = length classes;
        captured = C;
        arguments = A;
        s = visit classes v.h (head_flags v.h (many v.es) x.f) (visit_arguments classes v.es (argument_flags x.f) x.s);
        n = v.n;
        h = v.h;
        es = v.es;
        stands = v.stands;
        place = ap (λ (i : ℕ). at + 1 + i) (l.is (length classes) v.h v.parts.operator);
        count = omega (arith, v.parts.count);
        fits = record {
          good = (call_ends small classes at x.f x.s v.n v.h v.es v.fits).good;
          tied = r.state (operator_fits e c l a d o b j t x);
        };
      }

  pub call_done : {F' : List ℕ} → ClosesCall rs at (at + 1 + m) k g.tail g.counter p₂ F w F' → Done classes rs part at g z (1 + m + n₁) (raw p₂ F' C A w)
  unfolding size visit operands_fit operator_fits
  call_done {F'} y = record {
    used = λ x.
        let v = view x e in
        let u : m ≡ size v.h = l.is (length classes) v.h v.parts.operator in
        let s : n₁ ≡ sizes v.es = o.used (operands_fit e c l a d x) in
        rw v.tree (omega arith);
    state = λ x.
        let v = view x e in
        subst (λ (i : Tree). Tied (raw p₂ F' C A w) (visit classes i x.f x.s)) (sym v.tree)
        (y.is (length classes) C A _ v.n v.h v.es x.f v.stands (ap (λ (i : ℕ). at + 1 + i) (l.is (length classes) v.h v.parts.operator))
        (omega (arith, v.parts.count)) x.flags.tail x.flags.counter
        (record {
          good = (call_ends small classes at x.f x.s v.n v.h v.es v.fits).good;
          tied = r.state (operator_fits e c l a d o b j t x);
        }));
  }
