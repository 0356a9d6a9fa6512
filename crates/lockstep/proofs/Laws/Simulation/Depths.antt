-- The facts of a body's identifiers are of the body's depth, or of a greater one in a lambda inside.
use Rattle.std.specs.Prelude.{ℕ, ◌≤◌, List, [], ◌++◌, Bool, false, ◌≡◌, Option}
use Rattle.std.proofs.Common.{true≢false, sym, subst, ◌∙◌, arith}
use Rattle.tree.specs.Tree.{Tree, Trees}
use Rattle.tree.specs.Accepted.{All}
use Rattle.tree.proofs.Laws.Acceptance.Tests.{all_map}
use Rattle.tree.specs.Site.{let_layer}
use Rattle.tree.proofs.Laws.Site.{let_le}
use Rattle.semantic.specs.Rows.{Row, Variable}
use Rattle.semantic.specs.declared.SemanticInformation.{SemanticInformation}
use Rattle.pass_laws.specs.Static.{Bound, Ctx, is_cell, Ref, ref-cell, ref-own, ref_outer, Aim, aim_cell, aim_own, aim_outer, r_ident, r_const, r_if, r_let, r_define, r_lambda, r_begin, r_call, r_set, Args, a_nil, a_cons, Seq, s_nil, s_one, s_more, r_and, r_when, r_no_test}
use Rattle.lockstep.specs.Facts.{row_of}
use Rattle.lockstep.specs.Lock.{idents, idents_in}
use Rattle.lockstep.proofs.Laws.Simulation.Lists.{all_append}
use Rattle.lockstep.proofs.Laws.Simulation.Scope.{let_below}
use Rattle.lockstep.proofs.Laws.Simulation.Relation.{presumed, Expr, DeepAt, Deep}

module _ (ts : Trees) (T : List Row) (M : ℕ → Bool) where
  module _ (d₀ : ℕ) where
    abbrev AllDeep : List ℕ → Type 0
    AllDeep l = All (DeepAt ts T M d₀) l

    deep-at : (i : ℕ) {v : SemanticInformation} → row_of T i ≡ Variable v → (is_cell v.kind ≡ false → d₀ ≤ v.depth) → DeepAt ts T M d₀ i
    deep-at i {v} e f u q c two =
        let same : v ≡ u = cc in
        subst (λ (s : SemanticInformation). d₀ ≤ s.depth) same (f (rw same c))

    deep-ref : {d : ℕ} {v : SemanticInformation} {o : Option Bound} → d₀ ≤ d → Ref T (presumed M) d v o → is_cell v.kind ≡ false → d₀ ≤ v.depth
    deep-ref l (ref-cell k) c = absurd (true≢false (sym k ∙ c))
    deep-ref l (ref-own k f p) c = omega (arith, f.depth)
    deep-ref l (ref_outer k f two lt m) c = omega (arith, f.depth)

    deep_aim : {d : ℕ} {v : SemanticInformation} {o : Option Bound} → d₀ ≤ d → Aim T (presumed M) d v o → is_cell v.kind ≡ false → d₀ ≤ v.depth
    deep_aim l (aim_cell k) c = absurd (true≢false (sym k ∙ c))
    deep_aim l (aim_own k f p m) c = omega (arith, f.depth)
    deep_aim l (aim_outer k f two lt m) c = absurd m

    join : (l r : List ℕ) → AllDeep l → AllDeep r → AllDeep (l ++ r)
    join = all_append (DeepAt ts T M d₀)

    mutual
      unfolding idents

      deep : {Γ : Ctx} {d h : ℕ} {t : Bool} {e : Tree} → Expr ts T M Γ d h t e → d₀ ≤ d → AllDeep (idents e)
      deep (r_ident {x = x} e f) l = (deep-at x.at e (deep-ref l f), tt)
      deep r_const l = tt
      deep (r_if {a = a} {b = b} ra rb rc) l = join (idents a) _ (deep ra l) (join (idents b) _ (deep rb l) (deep rc l))
      deep (r_let {d = d} {es = es} ar n nt r) l = join (idents_in es) _ (deep_args ar l) (deep r (omega (arith, let_le d)))
      deep (r_define r) l = deep r l
      deep (r_lambda e p nt r) l = deep r (omega arith)
      deep (r_begin s) l = deep_seq s l
      deep (r_and s) l = deep_seq s l
      deep r_no_test l = tt
      deep (r_when {e = e} r s) l = join (idents e) _ (deep r l) (deep_seq s l)
      deep (r_call {f = f} ar r p) l = join (idents f) _ (deep r l) (deep_args ar l)
      deep (r_set {x = x} r e a) l = (deep-at x.at e (deep_aim l a), deep r l)

      deep_args : {Γ : Ctx} {d h : ℕ} {es : Trees} → Args T (presumed M) Γ d h es → d₀ ≤ d → AllDeep (idents_in es)
      deep_args a_nil l = tt
      deep_args (a_cons {e = e} r ar) l = join (idents e) _ (deep r l) (deep_args ar l)

      deep_seq : {Γ : Ctx} {d h : ℕ} {t : Bool} {es : Trees} → Seq T (presumed M) Γ d h t es → d₀ ≤ d → AllDeep (idents_in es)
      deep_seq s_nil l = tt
      deep_seq (s_one {e = e} r) l = join (idents e) [] (deep r l) tt
      deep_seq (s_more {e = e} r s) l = join (idents e) _ (deep r l) (deep_seq s l)

  pub deep_body : {Γ : Ctx} {d h : ℕ} {t : Bool} {e : Tree} → Expr ts T M Γ d h t e → Deep ts T M d e
  deep_body {d = d} r = record { depths = deep d r (omega arith) }

  -- a let begins, and ends

  pub deep_let : {d : ℕ} {e : Tree} → Deep ts T M d e → Deep ts T M (let_layer d) e
  deep_let {d} {e} r = record { depths = all_map (λ i f v q c two. let_below d two (f v q c two)) (idents e) r.depths }

  pub deep-drop : {d d' : ℕ} {e : Tree} → d' ≡ let_layer d → Deep ts T M d' e → Deep ts T M d e
  deep-drop {d} {e = e} p r = record { depths = all_map (λ i f v q c two. let l = f v q c two in omega (arith, let_le d)) (idents e) r.depths }
