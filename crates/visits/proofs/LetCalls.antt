-- Let, as its function makes the calls: each on what the one before it gave back.
use Rattle.std.specs.Prelude.{Option}
use Prim.Native.Nat.{ℕ, ◌+◌, ◌*◌, ◌≤◌}
use mathlib.Core.List.{List}
use mathlib.Core.Path.{◌≡◌, ap, sym, subst, ◌∙◌}
use native.Mathlib.Omega.{arith}
use lib.ListN.{drop}
use lib.Dec.{eqb}
use Rattle.tree.specs.Record.{width, nth}
use Rattle.semantic.specs.Information.{NONE}
use Rattle.pass.specs.Visit.{not_tail, let_body_flags}
use Rattle.walk.specs.declared.uses.Names.{Names}
use Rattle.work.specs.Passes.{in_context}
use Rattle.work.specs.Tied.{Raw, raw}
use Rattle.work.specs.declared.Pass.{Pass}
use Rattle.flags.specs.Flags.{Handed}
use Rattle.layers.specs.Contract.{LetFits, OpensLet, LetEnds, ClosesLet}
use Rattle.flags.specs.declared.Around.{Around}
use Rattle.flags.specs.declared.Flags.{Flags as Coded}
use Rattle.visits.specs.Contract.{Fit, Done, values, FitRow, DoneRow}
use Rattle.visits.proofs.Bounds.{Span, whole}
use Rattle.visits.proofs.LetCase.{let_long, initials_fit, body_long, names-fit, body-fits, end_fits, let_done}

fewer : {rs part : List ℕ} {at n m : ℕ} → Span rs part at n → m ≤ n → Span rs part at m
fewer s h = record { long = omega (arith, s.long, h); here = omega (arith, s.here, h); few = omega (arith, s.few, h); inside = omega (arith, s.inside, h) }

-- the context that was read is put back
pub put_back : (p p₁ : Pass) {p₅ : Pass} {k : ℕ} → k ≡ p.context → p₅ ≡ in_context k p₁ → p₅ ≡ in_context p.context p₁
put_back p p₁ e d = d ∙ ap (λ (i : ℕ). in_context i p₁) e

-- for another pass, or another number, that is the same

module _ {a b : Pass} (e : a ≡ b) where
  visited : {classes rs q F C A w : List ℕ} {k i n : ℕ} {g : Coded} {z : Raw}
      → DoneRow values classes rs q k i g (raw a F C A w) n z → DoneRow values classes rs q k i g (raw b F C A w) n z
  visited {classes} {rs} {q} {F} {C} {A} {w} {k} {i} {n} {g} {z} d = subst (λ (p : Pass). DoneRow values classes rs q k i g (raw p F C A w) n z) e d

  entered : {rs F C A w F₁ w₁ : List ℕ} {i h : ℕ} {n : Names} {f : Option Around} {p₁ : Pass}
      → OpensLet rs i n h f a F C A w p₁ F₁ w₁ → OpensLet rs i n h f b F C A w p₁ F₁ w₁
  entered {rs} {F} {C} {A} {w} {F₁} {w₁} {i} {h} {n} {f} {p₁} d = subst (λ (p : Pass). OpensLet rs i n h f p F C A w p₁ F₁ w₁) e d

handed : {g g₁ : Coded} {k m : ℕ} → k ≡ m → Handed g (let_body_flags m) g₁ → Handed g (let_body_flags k) g₁
handed {g} {g₁} e d = subst (λ (i : ℕ). Handed g (let_body_flags i) g₁) (sym e) d

-- what the initial expressions are visited with
pub record Begins (rs part q : List ℕ) (at many k : ℕ) (g g₁ : Coded) (p p₀ : Pass) : Type 0 where
  pub form : (nth rs at).form ≡ 4
  pub count : many ≡ (nth rs at).count
  pub wide : k ≡ many
  pub flags : Handed g not_tail g₁
  pub cut : q ≡ drop (width * (1 + k)) part
  pub pass : p₀ ≡ in_context NONE p

pub names-span : {classes rs part : List ℕ} {at k : ℕ} {g : Coded} {p : Pass} {F C A w : List ℕ}
    → (nth rs at).form ≡ 4 → k ≡ (nth rs at).count → Fit classes rs part at g (raw p F C A w) → Span rs part at (k + 2)
names-span e c x = fewer (whole x) (let_long e c x)

module _ {classes rs part q : List ℕ} {at many k : ℕ} {g g₁ : Coded} {p p₀ : Pass} {F C A w : List ℕ} (v : Begins rs part q at many k g g₁ p p₀) where
  pub initials : Fit classes rs part at g (raw p F C A w) → FitRow values classes rs q k (at + 1 + k) g₁ (raw p₀ F C A w)
  initials x =
      subst (λ (i : Pass). FitRow values classes rs q k (at + 1 + k) g₁ (raw i F C A w)) (sym v.pass)
      (initials_fit v.form (v.wide ∙ v.count) v.flags v.cut x)

  module _ {n₁ : ℕ} {p₁ : Pass} {F₁ C₁ A₁ w₁ : List ℕ} (o : DoneRow values classes rs q k (at + 1 + k) g₁ (raw p₀ F C A w) n₁ (raw p₁ F₁ C₁ A₁ w₁)) where
    pub body-span : Fit classes rs part at g (raw p F C A w) → Span rs part at (k + n₁ + 2)
    body-span x = fewer (whole x) (body_long v.form (v.wide ∙ v.count) v.flags v.cut (visited v.pass o) x)

    module _ {p₅ : Pass} (d : p₅ ≡ in_context p.context p₁) where
      pub names : Fit classes rs part at g (raw p F C A w)
          → LetFits rs at (record { first = at + 1; count = k }) g.height g.function p₅ F₁ C₁ A₁ w₁
      names x =
          subst (λ (i : Pass). LetFits rs at (record { first = at + 1; count = k }) g.height g.function i F₁ C₁ A₁ w₁) (sym d)
          (names-fit v.form (v.wide ∙ v.count) v.flags v.cut (visited v.pass o) x)

      module _ {p₂ : Pass} {F₂ w₂ r : List ℕ} {g₂ : Coded}
          (y : OpensLet rs at (record { first = at + 1; count = k }) g.height g.function p₅ F₁ C₁ A₁ w₁ p₂ F₂ w₂)
          (j : Handed g (let_body_flags many) g₂) (l : r ≡ drop (width * (1 + k + n₁)) part) where
        pub body : Fit classes rs part at g (raw p F C A w) → Fit classes rs r (at + (1 + k + n₁)) g₂ (raw p₂ F₂ C₁ A₁ w₂)
        body x = body-fits v.form (v.wide ∙ v.count) v.flags v.cut (visited v.pass o) (entered d y) (handed v.wide j) l x

        module _ {n₂ : ℕ} {p₃ : Pass} {F₃ C₃ A₃ w₃ : List ℕ}
            (t : Done classes rs r (at + (1 + k + n₁)) g₂ (raw p₂ F₂ C₁ A₁ w₂) n₂ (raw p₃ F₃ C₃ A₃ w₃)) where
          pub ends : Fit classes rs part at g (raw p F C A w) → LetEnds rs at (record { first = at + 1; count = k }) g.function p₃ F₃ A₃ w₃
          ends x = end_fits v.form (v.wide ∙ v.count) v.flags v.cut (visited v.pass o) (entered d y) (handed v.wide j) l t x

          pub done : {i : ℕ} {p₄ : Pass} {F₄ A₄ w₄ : List ℕ} → i ≡ p.scope.depth
              → ClosesLet rs (eqb i 1) at (record { first = at + 1; count = k }) g.height g.function p₃ F₃ A₃ w₃ p₄ F₄ A₄ w₄
              → Done classes rs part at g (raw p F C A w) (1 + k + n₁ + n₂) (raw p₄ F₄ C₃ A₄ w₄)
          done {p₄ = p₄} {F₄} {A₄} {w₄} a m =
              let x : Names = record { first = at + 1; count = k } in
              let b = subst (λ (i : ℕ). ClosesLet rs (eqb i 1) at x g.height g.function p₃ F₃ A₃ w₃ p₄ F₄ A₄ w₄) a m in
              let_done v.form (v.wide ∙ v.count) v.flags v.cut (visited v.pass o) (entered d y) (handed v.wide j) l t b
