-- Define: what stands before its body and after it.
use Prim.Native.Nat.{ℕ, ◌+◌, ◌*◌, ◌≤◌}
use mathlib.Core.List.{List}
use mathlib.Core.Bool.{Bool}
use mathlib.Core.Path.{◌≡◌, refl, sym, subst}
use native.Mathlib.Omega.{arith}
use lib.ListN.{length, drop}
use Rattle.tree.specs.Record.{width, nth}
use Rattle.tree.specs.Tree.{Ident, Node, Tree, define, size}
use Rattle.tree.specs.Stands.{Stands}
use Rattle.tree.proofs.Laws.Tree.{size_pos}
use Rattle.tree.proofs.Laws.Stands.Parts.{NamedParts}
use Rattle.tree.proofs.Laws.Stands.Forms.{define_of_lem}
use Rattle.pass.specs.Visit.{define_flags, is_lambda, open_define, close_define, visit}
use Rattle.pass_laws.specs.Visitable.{Visitable}
use Rattle.pass_laws.specs.Laws.Visitable.Parts.{define-body}
use Rattle.pass_laws.specs.Laws.Visitable.Leaves.{define_begins, define_ends}
use Rattle.work.specs.Known.{Known}
use Rattle.work.specs.Laws.Works.{context_is}
use Rattle.work.specs.Tied.{raw, Tied}
use Rattle.work.specs.declared.Pass.{Pass}
use Rattle.walk.specs.Contract.{SomeTreeOf, TellsBody}
use Rattle.walk.specs.declared.body.Body.{Body as Says}
use Rattle.flags.specs.Flags.{Handed}
use Rattle.forms.specs.Contract.{DefineFits, OpensDefine, ClosesDefine}
use Rattle.flags.specs.declared.Flags.{Flags as Coded}
use Rattle.visits.specs.Contract.{Fit, Done}
use Rattle.visits.proofs.Views.{part-on, small, names_room}

-- the context after it, told as the one before it
pub context_told : {rs : List ℕ} {at k m : ℕ} {direct : Bool} {b : Says} {p p' : Pass} {F w F' w' : List ℕ} → k ≡ m
    → ClosesDefine rs at direct k b p F w p' F' w' → ClosesDefine rs at direct m b p F w p' F' w'
context_told {rs} {at} {direct = direct} {b} {p} {p'} {F} {w} {F'} {w'} e y = subst (λ (i : ℕ). ClosesDefine rs at direct i b p F w p' F' w') e y

module _ {classes rs part : List ℕ} {at : ℕ} {g : Coded} {p : Pass} {F C A w : List ℕ} where
  pub record DefineView (x : Fit classes rs part at g (raw p F C A w)) : Type 0 where
    pub n : Node
    pub y : Ident
    pub b : Tree
    pub tree : x.t ≡ define n y b
    pub parts : NamedParts (length classes) rs at 5 n y b
    pub stands : Stands (length classes) rs at (define n y b)
    pub fits : Visitable (Known rs) at (define n y b) x.f x.s

  pub view : (x : Fit classes rs part at g (raw p F C A w)) → (nth rs at).form ≡ 5 → DefineView x
  view x e =
      let v = define_of_lem x.stands e in
      record {
        n = v.n;
        y = v.x;
        b = v.b;
        tree = v.is;
        parts = v.parts;
        stands = subst (λ (t : Tree). Stands (length classes) rs at t) v.is x.stands;
        fits = subst (λ (t : Tree). Visitable (Known rs) at t x.f x.s) v.is x.fits;
      }

  module _ (e : (nth rs at).form ≡ 5) where
    pub define_long : (x : Fit classes rs part at g (raw p F C A w)) → 3 ≤ size x.t
    unfolding size
    define_long x = let v = view x e in rw v.tree (omega (arith, size_pos v.b))

    pub body_stands : Fit classes rs part at g (raw p F C A w) → SomeTreeOf (length classes) rs (at + 2)
    body_stands x = let v = view x e in record { t = v.b; stands = v.parts.body }

    pub begins_fit : Fit classes rs part at g (raw p F C A w) → DefineFits rs at p F w
    begins_fit x =
        let v = view x e in
        let b = define_begins small classes at x.f x.s v.n v.y v.b v.fits in
        record {
          names = length classes;
          captured = C;
          arguments = A;
          s = x.s;
          n = v.n;
          x = v.y;
          t = v.b;
          stands = v.stands;
          fits = record { good = b.reliable.good; tied = x.tied };
          room = names_room x.tied refl b.room.live;
        }

    module _ {says : Says} {p₁ : Pass} {F₁ w₁ q : List ℕ} {g₁ : Coded} (b : TellsBody classes rs (at + 2) says)
        (o : OpensDefine rs at g.direct says p F w p₁ F₁ w₁) (h : Handed g define_flags g₁) (d : q ≡ drop (width * 2) part) where
      pub body-fits : Fit classes rs part at g (raw p F C A w) → Fit classes rs q (at + 2) g₁ (raw p₁ F₁ C A w₁)
      body-fits x =
          let v = view x e in
          let u = define_begins small classes at x.f x.s v.n v.y v.b v.fits in
          record {
            t = v.b;
            f = define_flags x.f;
            s = open_define classes x.f.direct (is_lambda v.b) v.y v.b x.s;
            is = part-on rs at 2 x.is d;
            stands = v.parts.body;
            flags = h.is x.f x.flags;
            tied = subst (λ (i : Bool). Tied (raw p₁ F₁ C A w₁) (open_define classes i (is_lambda v.b) v.y v.b x.s)) x.flags.direct
                (o.is classes C A x.s v.n v.y v.b v.stands (b.is v.b v.parts.body) (record { good = u.reliable.good; tied = x.tied }));
            fits = define-body small classes at x.f x.s v.n v.y v.b v.fits;
          }

      module _ {n₁ : ℕ} {p₂ : Pass} {F₂ C₂ A₂ w₂ : List ℕ} (r : Done classes rs q (at + 2) g₁ (raw p₁ F₁ C A w₁) n₁ (raw p₂ F₂ C₂ A₂ w₂)) where
        pub ends_fit : Fit classes rs part at g (raw p F C A w) → DefineFits rs at p₂ F₂ w₂
        unfolding body-fits
        ends_fit x =
            let v = view x e in
            let u = define_ends small classes at x.f x.s v.n v.y v.b v.fits in
            let y = r.state (body-fits x) in
            record {
              names = length classes;
              captured = C₂;
              arguments = A₂;
              s = visit classes v.b (define_flags x.f) (open_define classes x.f.direct (is_lambda v.b) v.y v.b x.s);
              n = v.n;
              x = v.y;
              t = v.b;
              stands = v.stands;
              fits = record { good = u.reliable.good; tied = y };
              room = names_room y refl u.room.live;
            }

        pub define_done : {p₃ : Pass} {F₃ w₃ : List ℕ} → ClosesDefine rs at g.direct p.context says p₂ F₂ w₂ p₃ F₃ w₃
            → Done classes rs part at g (raw p F C A w) (2 + n₁) (raw p₃ F₃ C₂ A₂ w₃)
        unfolding size visit body-fits
        define_done {p₃} {F₃} {w₃} y = record {
          used = λ x.
              let v = view x e in
              let a : n₁ ≡ size v.b = r.used (body-fits x) in
              rw v.tree (omega arith);
          state = λ x.
              let v = view x e in
              let u = define_ends small classes at x.f x.s v.n v.y v.b v.fits in
              let s = visit classes v.b (define_flags x.f) (open_define classes x.f.direct (is_lambda v.b) v.y v.b x.s) in
              let c : p.context ≡ x.s.context = context_is x.tied.works in
              let z = y.is classes C₂ A₂ s v.n v.y v.b v.stands (b.is v.b v.parts.body) (record { good = u.reliable.good; tied = r.state (body-fits x) }) in
              let t : Tied (raw p₃ F₃ C₂ A₂ w₃) (close_define classes x.f.direct (is_lambda v.b) p.context v.y v.b s)
              = subst (λ (i : Bool). Tied (raw p₃ F₃ C₂ A₂ w₃) (close_define classes i (is_lambda v.b) p.context v.y v.b s)) x.flags.direct z in
              subst (λ (i : Tree). Tied (raw p₃ F₃ C₂ A₂ w₃) (visit classes i x.f x.s)) (sym v.tree)
              (subst (λ (k : ℕ). Tied (raw p₃ F₃ C₂ A₂ w₃) (close_define classes x.f.direct (is_lambda v.b) k v.y v.b s)) c t);
        }
