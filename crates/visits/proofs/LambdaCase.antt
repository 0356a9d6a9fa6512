-- Lambda: its names enter, the body, and its end.
use Prim.Native.Nat.{ℕ, ◌+◌, ◌*◌, ◌≤◌}
use mathlib.Core.List.{List}
use mathlib.Core.Bool.{Bool}
use mathlib.Core.Path.{◌≡◌, refl, ap, sym, subst, ◌∙◌}
use native.Mathlib.Omega.{arith}
use lib.ListN.{length, drop}
use Rattle.tree.specs.Record.{width, nth}
use Rattle.tree.specs.Tree.{Ident, Node, Tree, lambda, size}
use Rattle.tree.proofs.Laws.Tree.{size_pos}
use Rattle.tree.proofs.Laws.Stands.Parts.{LambdaParts}
use Rattle.tree.proofs.Laws.Stands.Forms.{lambda_of_lem}
use Rattle.pass.specs.Lambda.{open_lambda, close_lambda}
use Rattle.pass.specs.Visit.{body_flags, visit}
use Rattle.pass_laws.specs.Visitable.{Visitable}
use Rattle.pass_laws.specs.Laws.Visitable.Parts.{lambda_body_lem}
use Rattle.pass_laws.specs.Laws.Visitable.Leaves.{lambda_begins, lambda_ends}
use Rattle.work.specs.Known.{Known}
use Rattle.work.specs.Tied.{raw, Tied, Fits}
use Rattle.work.specs.declared.Pass.{Pass}
use Rattle.lists.specs.Contract.{Told}
use Rattle.amending.specs.Contract.{HasBody}
use Rattle.flags.specs.Flags.{FlagsAre, HandsBody}
use Rattle.layers.specs.Contract.{EndFits, LambdaFits, OpensLambda, LambdaEnds, ClosesLambda}
use Rattle.flags.specs.declared.Flags.{Flags as Coded}
use Rattle.visits.specs.Contract.{Fit, Done}
use Rattle.visits.proofs.Views.{part-on, small, stands_at_lem, visitable_at, names_room, shallow, lists-fit, end_fits}

module _ {classes rs part : List ℕ} {at : ℕ} {g : Coded} {p : Pass} {F C A w : List ℕ} where
  pub record LambdaView (x : Fit classes rs part at g (raw p F C A w)) : Type 0 where
    pub n : Node
    pub xs : List Ident
    pub b : Tree
    pub tree : x.t ≡ lambda n xs b
    pub parts : LambdaParts (length classes) rs at n xs b
    pub fits : Visitable (Known rs) at (lambda n xs b) x.f x.s

  pub view : (x : Fit classes rs part at g (raw p F C A w)) → (nth rs at).form ≡ 6 → LambdaView x
  view x e =
      let v = lambda_of_lem x.stands e in
      record {
        n = v.n;
        xs = v.xs;
        b = v.b;
        tree = v.is;
        parts = v.parts;
        fits = subst (λ (t : Tree). Visitable (Known rs) at t x.f x.s) v.is x.fits;
      }

  module _ {k : ℕ} (e : (nth rs at).form ≡ 6) (c : k ≡ (nth rs at).count) where
    told : (x : Fit classes rs part at g (raw p F C A w)) → Told rs (record { first = at + 1; count = k }) (view x e).xs
    told x = record { many = length classes; stand = (view x e).parts.names; count = sym (view x e).parts.count ∙ sym c }

    pub lambda_long : (x : Fit classes rs part at g (raw p F C A w)) → k + 2 ≤ size x.t
    unfolding size
    lambda_long x =
        let v = view x e in
        let u : k ≡ length v.xs = c ∙ v.parts.count in
        rw v.tree (omega (arith, size_pos v.b))

    pub lambda_fits : Fit classes rs part at g (raw p F C A w) → LambdaFits rs at (record { first = at + 1; count = k }) p F C A w
    lambda_fits x =
        let v = view x e in
        let b = lambda_begins small classes at x.f x.s v.n v.xs v.b v.fits in
        let i : v.n.at ≡ at = v.parts.node.here in
        record {
          s = x.s;
          xs = v.xs;
          told = told x;
          fits = record { good = b.reliable.good; tied = x.tied };
          few = omega (arith, b.few);
          room = names_room x.tied (c ∙ v.parts.count) b.room.live;
          shallow = shallow x.tied b.room;
          lists = lists-fit x.tied i b.lists;
        }

    module _ {p₁ : Pass} {F₁ C₁ w₁ q : List ℕ} {g₁ : Coded} (o : OpensLambda rs at (record { first = at + 1; count = k }) p F C A w p₁ F₁ C₁ w₁)
        (h : HandsBody g at (nth rs at).id k g₁) (d : q ≡ drop (width * (1 + k)) part) where
      pub body-fits : Fit classes rs part at g (raw p F C A w) → Fit classes rs q (at + 1 + k) g₁ (raw p₁ F₁ C₁ A w₁)
      body-fits x =
          let v = view x e in
          let b = lambda_begins small classes at x.f x.s v.n v.xs v.b v.fits in
          let i : v.n.at ≡ at = v.parts.node.here in
          let u : k ≡ length v.xs = c ∙ v.parts.count in
          let j : at + 1 + length v.xs ≡ at + 1 + k = omega arith in
          let m : at + (1 + k) ≡ at + 1 + k = omega arith in
          record {
            t = v.b;
            f = body_flags v.n (length v.xs) x.f;
            s = open_lambda v.n v.xs x.s;
            is = part-on rs at (1 + k) x.is d ∙ ap (λ (l : ℕ). drop (width * l) rs) m;
            stands = stands_at_lem j v.parts.body;
            flags = subst (λ (l : ℕ). FlagsAre g₁ (body_flags v.n l x.f)) u
                (h.is v.n x.f (sym i) (rw v.parts.node.own.is refl) x.flags);
            tied = o.is x.s v.xs v.n i (told x) (record { good = b.reliable.good; tied = x.tied }) (lists-fit x.tied i b.lists);
            fits = visitable_at j (lambda_body_lem small classes at x.f x.s v.n v.xs v.b v.fits);
          }

      module _ {n₁ : ℕ} {p₂ : Pass} {F₂ C₂ A₂ w₂ : List ℕ} (r : Done classes rs q (at + 1 + k) g₁ (raw p₁ F₁ C₁ A w₁) n₁ (raw p₂ F₂ C₂ A₂ w₂)) where
        pub body_stands : (x : Fit classes rs part at g (raw p F C A w))
            → HasBody rs (record { names = record { first = at + 1; count = k }; first = at + 1 + k; end = at + 1 + k + n₁ }) (view x e).b
        unfolding body-fits
        body_stands x = record { many = length classes; stands = (body-fits x).stands; ends = ap (λ (i : ℕ). at + 1 + k + i) (sym (r.used (body-fits x))) }

        ends : (x : Fit classes rs part at g (raw p F C A w)) → EndFits p₂ (visit classes (view x e).b (body_flags (view x e).n (length (view x e).xs) x.f) (open_lambda (view x e).n (view x e).xs x.s)) at
        unfolding body-fits
        ends x =
            let v = view x e in
            end_fits (r.state (body-fits x)) v.parts.node.here (lambda_ends small classes at x.f x.s v.n v.xs v.b v.fits)

        fits : (x : Fit classes rs part at g (raw p F C A w)) → Fits rs (raw p₂ F₂ C₂ A₂ w₂) (visit classes (view x e).b (body_flags (view x e).n (length (view x e).xs) x.f) (open_lambda (view x e).n (view x e).xs x.s))
        unfolding body-fits
        fits x =
            let v = view x e in
            record { good = (lambda_ends small classes at x.f x.s v.n v.xs v.b v.fits).reliable.good; tied = r.state (body-fits x) }

        pub end-fit : Fit classes rs part at g (raw p F C A w)
            → LambdaEnds rs at (record { names = record { first = at + 1; count = k }; first = at + 1 + k; end = at + 1 + k + n₁ }) p₂ F₂ C₂ A₂ w₂
        end-fit x =
            let v = view x e in
            let b = lambda_ends small classes at x.f x.s v.n v.xs v.b v.fits in
            let i : v.n.at ≡ at = v.parts.node.here in
            record { s = _; xs = v.xs; b = v.b; told = told x; body = body_stands x; fits = fits x; few = omega (arith, b.few); ends = ends x }

        pub lambda_done : {p₃ : Pass} {F₃ C₃ A₃ w₃ : List ℕ}
            → ClosesLambda rs at (record { names = record { first = at + 1; count = k }; first = at + 1 + k; end = at + 1 + k + n₁ }) g.escape
            p₂ F₂ C₂ A₂ w₂ p₃ F₃ C₃ A₃ w₃
            → Done classes rs part at g (raw p F C A w) (1 + k + n₁) (raw p₃ F₃ C₃ A₃ w₃)
        unfolding size visit body-fits
        lambda_done {p₃} {F₃} {C₃} {A₃} {w₃} y = record {
          used = λ x.
              let v = view x e in
              let a : n₁ ≡ size v.b = r.used (body-fits x) in
              let u : k ≡ length v.xs = c ∙ v.parts.count in
              rw v.tree (omega arith);
          state = λ x.
              let v = view x e in
              let s = visit classes v.b (body_flags v.n (length v.xs) x.f) (open_lambda v.n v.xs x.s) in
              let z : Tied (raw p₃ F₃ C₃ A₃ w₃) (close_lambda v.n v.xs v.b g.escape s)
              = y.is s v.xs v.b v.n v.parts.node.here (told x) (body_stands x) (fits x) (ends x) in
              subst (λ (i : Tree). Tied (raw p₃ F₃ C₃ A₃ w₃) (visit classes i x.f x.s)) (sym v.tree)
              (subst (λ (b : Bool). Tied (raw p₃ F₃ C₃ A₃ w₃) (close_lambda v.n v.xs v.b b s)) x.flags.escape z);
        }
