-- Let: the initial expressions, its names, the body, and its end.
use Prim.Native.Nat.{ℕ, ◌+◌, ◌*◌, ◌≤◌}
use mathlib.Core.List.{List}
use mathlib.Core.Path.{◌≡◌, ap, sym, subst, ◌∙◌}
use native.Mathlib.Omega.{arith}
use lib.ListN.{length, drop}
use lib.Dec.{eqb}
use Rattle.tree.specs.Record.{width, nth}
use Rattle.tree.specs.Tree.{Ident, Node, Tree, Trees, letin, many, size, sizes}
use Rattle.tree.proofs.Laws.Tree.{size_pos}
use Rattle.tree.proofs.Laws.Stands.Parts.{LetParts}
use Rattle.tree.proofs.Laws.Stands.Forms.{let_of_lem}
use Rattle.semantic.specs.Information.{NONE}
use Rattle.pass.specs.State.{State, with_context, depth}
use Rattle.pass.specs.Lambda.{open_let, close_let}
use Rattle.pass.specs.Visit.{not_tail, let_body_flags, visit, visit_arguments}
use Rattle.pass_laws.specs.Stage.{AfterInitials}
use Rattle.pass_laws.specs.Visitable.{Visitable}
use Rattle.pass_laws.specs.Laws.Visitable.Parts.{let_initials, let_body_lem}
use Rattle.pass_laws.specs.Laws.Visitable.Leaves.{let_begins, let_ends}
use Rattle.work.specs.Known.{Known}
use Rattle.work.specs.Laws.Works.{context_is}
use Rattle.work.specs.Passes.{in_context}
use Rattle.work.specs.Tied.{raw, Tied, Fits}
use Rattle.work.specs.declared.Pass.{Pass}
use Rattle.lists.specs.Contract.{Told}
use Rattle.flags.specs.Flags.{FlagsAre, Handed}
use Rattle.layers.specs.Contract.{LetFits, OpensLet, LetEnds, ClosesLet}
use Rattle.flags.specs.declared.Flags.{Flags as Coded}
use Rattle.visits.specs.Contract.{Fit, Done, values, FitRow, DoneRow}
use Rattle.visits.proofs.Views.{part-on, small, stands_at_lem, stand_all-at, visitable_at, arguments_at_lem, names_room, shallow, let_list, let_outer, let_blank}
use Rattle.work.specs.Laws.Fits.{tied_context}

module _ {classes rs part : List ℕ} {at : ℕ} {g : Coded} {p : Pass} {F C A w : List ℕ} where
  pub record LetView (x : Fit classes rs part at g (raw p F C A w)) : Type 0 where
    pub n : Node
    pub xs : List Ident
    pub es : Trees
    pub b : Tree
    pub tree : x.t ≡ letin n xs es b
    pub parts : LetParts (length classes) rs at n xs es b
    pub fits : Visitable (Known rs) at (letin n xs es b) x.f x.s

  pub view : (x : Fit classes rs part at g (raw p F C A w)) → (nth rs at).form ≡ 4 → LetView x
  view x e =
      let v = let_of_lem x.stands e in
      record {
        n = v.n;
        xs = v.xs;
        es = v.es;
        b = v.b;
        tree = v.is;
        parts = v.parts;
        fits = subst (λ (t : Tree). Visitable (Known rs) at t x.f x.s) v.is x.fits;
      }

  -- the state that is held once the initial expressions are visited; once the names have entered; once the body is visited
  middle : (x : Fit classes rs part at g (raw p F C A w)) → LetView x → State
  middle x v = AfterInitials classes v.es x.f x.s

  inside : (x : Fit classes rs part at g (raw p F C A w)) → LetView x → State
  inside x v = open_let v.n v.xs x.f.height x.f.function (AfterInitials classes v.es x.f x.s)

  after : (x : Fit classes rs part at g (raw p F C A w)) → LetView x → State
  after x v =
      visit classes v.b (let_body_flags (many v.es) x.f)
      (open_let v.n v.xs x.f.height x.f.function (AfterInitials classes v.es x.f x.s))

  pub let_long : {k : ℕ} → (nth rs at).form ≡ 4 → k ≡ (nth rs at).count → (x : Fit classes rs part at g (raw p F C A w)) → k + 2 ≤ size x.t
  unfolding size
  let_long {k} e c x =
      let v = view x e in
      let u : k ≡ length v.xs = c ∙ v.parts.count in
      rw v.tree (omega (arith, size_pos v.b))

  module _ {k : ℕ} {q : List ℕ} {g₁ : Coded} (e : (nth rs at).form ≡ 4) (c : k ≡ (nth rs at).count) (h : Handed g not_tail g₁) (d : q ≡ drop (width * (1 + k)) part) where
    told : (x : Fit classes rs part at g (raw p F C A w)) → Told rs (record { first = at + 1; count = k }) (view x e).xs
    told x = record { many = length classes; stand = (view x e).parts.names; count = sym (view x e).parts.count ∙ sym c }

    pub initials_fit : Fit classes rs part at g (raw p F C A w) → FitRow values classes rs q k (at + 1 + k) g₁ (raw (in_context NONE p) F C A w)
    initials_fit x =
        let v = view x e in
        let u : k ≡ length v.xs = c ∙ v.parts.count in
        let i : at + 1 + length v.xs ≡ at + 1 + k = omega arith in
        let m : at + (1 + k) ≡ at + 1 + k = omega arith in
        record {
          ts = v.es;
          f = not_tail x.f;
          s = with_context NONE x.s;
          is = part-on rs at (1 + k) x.is d ∙ ap (λ (l : ℕ). drop (width * l) rs) m;
          stand = stand_all-at i v.parts.inits;
          count = v.parts.paired ∙ sym u;
          flags = h.is x.f x.flags;
          tied = tied_context NONE x.tied;
          fits = arguments_at_lem i (let_initials small classes at x.f x.s v.n v.xs v.es v.b v.fits);
        }

    module _ {n₁ : ℕ} {p₁ : Pass} {F₁ C₁ A₁ w₁ : List ℕ} (o : DoneRow values classes rs q k (at + 1 + k) g₁ (raw (in_context NONE p) F C A w) n₁ (raw p₁ F₁ C₁ A₁ w₁)) where
      pub body_long : (x : Fit classes rs part at g (raw p F C A w)) → k + n₁ + 2 ≤ size x.t
      unfolding size initials_fit
      body_long x =
          let v = view x e in
          let u : k ≡ length v.xs = c ∙ v.parts.count in
          let a : n₁ ≡ sizes v.es = o.used (initials_fit x) in
          rw v.tree (omega (arith, size_pos v.b))

      middle_tied : (x : Fit classes rs part at g (raw p F C A w)) → Tied (raw (in_context p.context p₁) F₁ C₁ A₁ w₁) (middle x (view x e))
      unfolding initials_fit middle
      middle_tied x =
          let z = tied_context p.context (o.state (initials_fit x)) in
          let b : p.context ≡ x.s.context = context_is x.tied.works in
          subst (λ (i : ℕ). Tied (raw (in_context p.context p₁) F₁ C₁ A₁ w₁) (with_context i (visit_arguments classes (view x e).es (not_tail x.f) (with_context NONE x.s)))) b z

      pub names-fit : Fit classes rs part at g (raw p F C A w)
          → LetFits rs at (record { first = at + 1; count = k }) g.height g.function (in_context p.context p₁) F₁ C₁ A₁ w₁
      unfolding middle
      names-fit x =
          let v = view x e in
          let b = let_begins small classes at x.f x.s v.n v.xs v.es v.b v.fits in
          let i : v.n.at ≡ at = v.parts.node.here in
          let u : k ≡ length v.xs = c ∙ v.parts.count in
          let t = middle_tied x in
          record {
            s = middle x v;
            xs = v.xs;
            function = x.f.function;
            told = told x;
            fits = record { good = b.reliable.good; tied = t };
            around = x.flags.function;
            few = omega (arith, b.few);
            room = names_room t u b.room.live;
            shallow = shallow t b.room;
            slots = omega (arith, b.slots, x.flags.height);
            list = let_list (middle x v) i b.list;
            outer = let_outer (middle x v) b.outer;
          }

      module _ {p₂ : Pass} {F₂ w₂ r : List ℕ} {g₂ : Coded} (y : OpensLet rs at (record { first = at + 1; count = k }) g.height g.function (in_context p.context p₁) F₁ C₁ A₁ w₁ p₂ F₂ w₂)
          (j : Handed g (let_body_flags k) g₂) (l : r ≡ drop (width * (1 + k + n₁)) part) where
        pub body-fits : Fit classes rs part at g (raw p F C A w) → Fit classes rs r (at + (1 + k + n₁)) g₂ (raw p₂ F₂ C₁ A₁ w₂)
        unfolding initials_fit middle inside
        body-fits x =
            let v = view x e in
            let b = let_begins small classes at x.f x.s v.n v.xs v.es v.b v.fits in
            let u : k ≡ length v.xs = c ∙ v.parts.count in
            let a : n₁ ≡ sizes v.es = o.used (initials_fit x) in
            let m : many v.es ≡ k = v.parts.paired ∙ sym u in
            let i : at + 1 + length v.xs + sizes v.es ≡ at + (1 + k + n₁) = omega arith in
            let z = y.is (middle x v) v.xs v.n x.f.function v.parts.node.here x.flags.function (told x)
            (record { good = b.reliable.good; tied = middle_tied x }) in
            record {
              t = v.b;
              f = let_body_flags (many v.es) x.f;
              s = inside x v;
              is = part-on rs at (1 + k + n₁) x.is l;
              stands = stands_at_lem i v.parts.body;
              flags = subst (λ (t : ℕ). FlagsAre g₂ (let_body_flags t x.f)) (sym m) (j.is x.f x.flags);
              tied = subst (λ (t : ℕ). Tied (raw p₂ F₂ C₁ A₁ w₂) (open_let v.n v.xs t x.f.function (middle x v))) x.flags.height z;
              fits = visitable_at i (let_body_lem small classes at x.f x.s v.n v.xs v.es v.b v.fits);
            }

        module _ {n₂ : ℕ} {p₃ : Pass} {F₃ C₃ A₃ w₃ : List ℕ} (t : Done classes rs r (at + (1 + k + n₁)) g₂ (raw p₂ F₂ C₁ A₁ w₂) n₂ (raw p₃ F₃ C₃ A₃ w₃)) where
          fits : (x : Fit classes rs part at g (raw p F C A w)) → Fits rs (raw p₃ F₃ C₃ A₃ w₃) (after x (view x e))
          unfolding body-fits after inside
          fits x =
              let v = view x e in
              record { good = (let_ends small classes at x.f x.s v.n v.xs v.es v.b v.fits).reliable.good; tied = t.state (body-fits x) }

          pub end_fits : Fit classes rs part at g (raw p F C A w) → LetEnds rs at (record { first = at + 1; count = k }) g.function p₃ F₃ A₃ w₃
          unfolding after
          end_fits x =
              let v = view x e in
              let b = let_ends small classes at x.f x.s v.n v.xs v.es v.b v.fits in
              let i : v.n.at ≡ at = v.parts.node.here in
              let u : k ≡ length v.xs = c ∙ v.parts.count in
              record {
                captured = C₃;
                s = after x v;
                xs = v.xs;
                function = x.f.function;
                told = told x;
                fits = fits x;
                around = x.flags.function;
                few = omega (arith, b.few);
                room = let_blank (after x v) i u b.room;
              }

          pub let_done : {p₄ : Pass} {F₄ A₄ w₄ : List ℕ}
              → ClosesLet rs (eqb p.scope.depth 1) at (record { first = at + 1; count = k }) g.height g.function p₃ F₃ A₃ w₃ p₄ F₄ A₄ w₄
              → Done classes rs part at g (raw p F C A w) (1 + k + n₁ + n₂) (raw p₄ F₄ C₃ A₄ w₄)
          unfolding size visit initials_fit body-fits after inside middle
          let_done {p₄} {F₄} {A₄} {w₄} m = record {
            used = λ x.
                let v = view x e in
                let u : k ≡ length v.xs = c ∙ v.parts.count in
                let a : n₁ ≡ sizes v.es = o.used (initials_fit x) in
                let b : n₂ ≡ size v.b = t.used (body-fits x) in
                rw v.tree (omega arith);
            state = λ x.
                let v = view x e in
                let z = m.is C₃ (after x v) v.xs v.n x.f.function v.parts.node.here x.flags.function (told x) (fits x) in
                let h : p.scope.depth ≡ depth x.s = x.tied.works.names.depth in
                let a : Tied (raw p₄ F₄ C₃ A₄ w₄) (close_let (eqb p.scope.depth 1) v.n v.xs x.f.height x.f.function (after x v))
                = subst (λ (i : ℕ). Tied (raw p₄ F₄ C₃ A₄ w₄) (close_let (eqb p.scope.depth 1) v.n v.xs i x.f.function (after x v))) x.flags.height z in
                subst (λ (i : Tree). Tied (raw p₄ F₄ C₃ A₄ w₄) (visit classes i x.f x.s)) (sym v.tree)
                (subst (λ (i : ℕ). Tied (raw p₄ F₄ C₃ A₄ w₄) (close_let (eqb i 1) v.n v.xs x.f.height x.f.function (after x v))) h a);
          }
