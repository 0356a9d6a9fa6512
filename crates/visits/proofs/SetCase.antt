-- set!: the expression, then the target.
use Prim.Native.Nat.{ℕ, ◌+◌, ◌*◌, ◌≤◌}
use mathlib.Core.List.{List, [], ◌∷◌}
use mathlib.Core.Path.{◌≡◌, refl, sym, subst, ◌∙◌}
use native.Mathlib.Omega.{arith}
use lib.ListN.{length, drop}
use Rattle.tree.specs.Record.{width, nth}
use Rattle.tree.specs.Tree.{Ident, Node, Tree, ident, set!, named, flat, size, Num}
use Rattle.tree.proofs.Laws.Tree.{size_pos}
use Rattle.tree.proofs.Laws.Parts.{own}
use Rattle.tree.specs.Stands.{Stands}
use Rattle.tree.proofs.Laws.Within.{front, later}
use Rattle.tree.proofs.Laws.Stands.{root_form}
use Rattle.tree.proofs.Laws.Stands.Parts.{NamedParts}
use Rattle.tree.proofs.Laws.Stands.Forms.{set_of}
use Rattle.pass.specs.Read.{mutate}
use Rattle.pass.specs.Visit.{not_tail, clear_context, visit}
use Rattle.pass_laws.specs.Visitable.{Visitable}
use Rattle.pass_laws.specs.Laws.Visitable.Parts.{set_expression}
use Rattle.pass_laws.specs.Laws.Visitable.Leaves.{reliable, set_mutates, set_reads}
use Rattle.work.specs.Known.{Known}
use Rattle.work.specs.Tied.{raw, Tied, Fits}
use Rattle.work.specs.declared.Pass.{Pass}
use Rattle.names.specs.Contract.{Settable, Mutates}
use Rattle.flags.specs.Flags.{Handed}
use Rattle.forms.specs.Contract.{ClearsContext}
use Rattle.steps.specs.Contract.{AtomFits, VisitsAtom}
use Rattle.flags.specs.declared.Flags.{Flags as Coded}
use Rattle.visits.specs.Contract.{Fit, Done}
use Rattle.visits.proofs.Views.{part-on, small}

-- the target stands right after its record
target_stands : {N i : ℕ} {rs : List ℕ} {n : Node} {y : Ident} {e : Tree} → Stands N rs i (set! n y e) → Stands N rs (i + 1) (ident y)
unfolding flat Num
target_stands {y = y} {e} s = record { within = front (named y ∷ []) (flat e) (later s.within); num = s.num.1 }

module _ {classes rs part : List ℕ} {at : ℕ} {g : Coded} {p : Pass} {F C A w : List ℕ} where
  record SetView (x : Fit classes rs part at g (raw p F C A w)) : Type 0 where
    n : Node
    y : Ident
    e : Tree
    tree : x.t ≡ set! n y e
    parts : NamedParts (length classes) rs at 9 n y e
    target : Stands (length classes) rs (at + 1) (ident y)
    fits : Visitable (Known rs) at (set! n y e) x.f x.s

  view : (x : Fit classes rs part at g (raw p F C A w)) → (nth rs at).form ≡ 9 → SetView x
  view x e =
      let v = set_of x.stands e in
      record {
        n = v.n;
        y = v.x;
        e = v.e;
        tree = v.is;
        parts = v.parts;
        target = target_stands (subst (λ (t : Tree). Stands (length classes) rs at t) v.is x.stands);
        fits = subst (λ (t : Tree). Visitable (Known rs) at t x.f x.s) v.is x.fits;
      }

  pub set_long : (nth rs at).form ≡ 9 → (x : Fit classes rs part at g (raw p F C A w)) → 3 ≤ size x.t
  unfolding size
  set_long k x = let v = view x k in rw v.tree (omega (arith, size_pos v.e))

  pub expression_fits : {p₁ : Pass} {q : List ℕ} {g₁ : Coded} → (nth rs at).form ≡ 9 → Handed g not_tail g₁ → ClearsContext (at + 1) p F p₁
      → q ≡ drop (width * 2) part → Fit classes rs part at g (raw p F C A w) → Fit classes rs q (at + 2) g₁ (raw p₁ F C A w)
  expression_fits k h c d x =
      let v = view x k in
      record {
        t = v.e;
        f = not_tail x.f;
        s = clear_context v.y x.s;
        is = part-on rs at 2 x.is d;
        stands = v.parts.body;
        flags = h.is x.f x.flags;
        tied = c.is rs C A w x.s v.y v.parts.place (record { good = (reliable x.fits).good; tied = x.tied });
        fits = set_expression small classes at x.f x.s v.n v.y v.e v.fits;
      }

  module _ {p₁ : Pass} {q : List ℕ} {g₁ : Coded} (k : (nth rs at).form ≡ 9) (h : Handed g not_tail g₁) (c : ClearsContext (at + 1) p F p₁) (d : q ≡ drop (width * 2) part) where
    -- before the target is mutated
    pub target_sets : {n₁ : ℕ} {p₂ : Pass} {F₂ C₂ A₂ w₂ : List ℕ} → Done classes rs q (at + 2) g₁ (raw p₁ F C A w) n₁ (raw p₂ F₂ C₂ A₂ w₂)
        → Fit classes rs part at g (raw p F C A w) → Settable p₂ F₂ w₂
    unfolding expression_fits
    target_sets {C₂ = C₂} {A₂ = A₂} o x =
        let v = view x k in
        record {
          rs = rs;
          captured = C₂;
          arguments = A₂;
          s = visit classes v.e (not_tail x.f) (clear_context v.y x.s);
          good = (set_mutates small classes at x.f x.s v.n v.y v.e v.fits).good;
          tied = o.state (expression_fits k h c d x);
        }

    -- and before it is read
    target_held : {n₁ name : ℕ} {p₂ : Pass} {F₂ C₂ A₂ w₂ F₃ w₃ : List ℕ} → Done classes rs q (at + 2) g₁ (raw p₁ F C A w) n₁ (raw p₂ F₂ C₂ A₂ w₂)
        → name ≡ (nth rs (at + 1)).name → Mutates name p₂ F₂ w₂ F₃ w₃ → (x : Fit classes rs part at g (raw p F C A w))
        → Fits rs (raw p₂ F₃ C₂ A₂ w₃)
        (mutate (view x k).y.name (visit classes (view x k).e (not_tail x.f) (clear_context (view x k).y x.s)))
    unfolding expression_fits
    target_held {C₂ = C₂} {A₂ = A₂} o named m x =
        let v = view x k in
        let u = set_mutates small classes at x.f x.s v.n v.y v.e v.fits in
        let s = visit classes v.e (not_tail x.f) (clear_context v.y x.s) in
        let l : (nth rs v.y.at).name ≡ v.y.name = rw v.parts.name.is refl in
        let i : _ ≡ v.y.name = named ∙ rw (sym v.parts.place) l in
        record {
          good = (set_reads small classes at x.f x.s v.n v.y v.e v.fits).good;
          tied = rw (sym i) (m.is rs C₂ A₂ s u.good (o.state (expression_fits k h c d x)));
        }

    pub target_fits : {n₁ name : ℕ} {p₂ : Pass} {F₂ C₂ A₂ w₂ F₃ w₃ : List ℕ} → Done classes rs q (at + 2) g₁ (raw p₁ F C A w) n₁ (raw p₂ F₂ C₂ A₂ w₂)
        → name ≡ (nth rs (at + 1)).name → Mutates name p₂ F₂ w₂ F₃ w₃ → Fit classes rs part at g (raw p F C A w)
        → AtomFits (length classes) rs 1 (at + 1) p₂ F₃ C₂ w₃
    unfolding own
    target_fits {A₂ = A₂} o named m x =
        let v = view x k in
        let t = target_held o named m x in
        record {
          arguments = A₂;
          t = ident v.y;
          s = _;
          own = sym (root_form v.target);
          atom = omega arith;
          stands = v.target;
          good = t.good;
          tied = t.tied;
        }

    pub set_done : {n₁ name : ℕ} {p₂ p₃ : Pass} {F₂ C₂ A₂ w₂ F₃ w₃ F₄ w₄ : List ℕ} → Done classes rs q (at + 2) g₁ (raw p₁ F C A w) n₁ (raw p₂ F₂ C₂ A₂ w₂)
        → name ≡ (nth rs (at + 1)).name → Mutates name p₂ F₂ w₂ F₃ w₃ → VisitsAtom classes rs (at + 1) p₂ F₃ C₂ w₃ p₃ F₄ w₄
        → Done classes rs part at g (raw p F C A w) (2 + n₁) (raw p₃ F₄ C₂ A₂ w₄)
    unfolding size visit expression_fits
    set_done {n₁} {p₃ = p₃} {C₂ = C₂} {A₂ = A₂} {F₄ = F₄} {w₄ = w₄} o named m r = record {
      used = λ x.
          let v = view x k in
          let a : n₁ ≡ size v.e = o.used (expression_fits k h c d x) in
          rw v.tree (omega arith);
      state = λ x.
          let v = view x k in
          let t = target_held o named m x in
          subst (λ (y : Tree). Tied (raw p₃ F₄ C₂ A₂ w₄) (visit classes y x.f x.s)) (sym v.tree)
          (r.is A₂ (ident v.y) x.f _ v.target t.good t.tied);
    }
