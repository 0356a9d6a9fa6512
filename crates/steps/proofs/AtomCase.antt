-- An identifier, and a constant.
use Prim.Native.Nat.{ℕ, ◌≤◌}
use mathlib.Core.List.{List}
use mathlib.Core.Path.{◌≡◌, sym, subst, ◌∙◌}
use native.Mathlib.Omega.{arith}
use Rattle.tree.specs.Record.{nth}
use Rattle.tree.specs.Tree.{Tree}
use Rattle.tree.proofs.Laws.Stands.{ident_name}
use Rattle.tree.proofs.Laws.Stands.Forms.{IdentOf, ident_of_lem, const_of, form_range}
use Rattle.pass.specs.State.{State}
use Rattle.pass.specs.Read.{read}
use Rattle.pass.specs.Visit.{visit}
use Rattle.work.specs.Laws.Known.{known_ident}
use Rattle.work.specs.Tied.{Raw, raw, Tied, Good, Here}
use Rattle.work.specs.declared.Pass.{Pass}
use Rattle.names.specs.Contract.{Readable, Does}
use Rattle.steps.specs.Contract.{AtomFits, VisitsAtom}

ident_here : {N at : ℕ} {rs : List ℕ} {t : Tree} {s : State} {z : Raw} → (v : IdentOf N rs at t) → Good rs s → Tied z s → Here rs at z s v.x
ident_here v g y = record {
  known = known_ident v.name;
  place = v.here;
  good = g;
  tied = y;
}

module _ {rs : List ℕ} {at : ℕ} {p : Pass} {F C w : List ℕ} where
  pub ident_reads : {N form : ℕ} → AtomFits N rs form at p F C w → form ≡ 1 → Readable N rs at p F C w
  ident_reads x e =
      let v = ident_of_lem x.stands (sym x.own ∙ e) in
      record { arguments = x.arguments; s = x.s; x = v.x; here = ident_here v x.good x.tied; named = ident_name v.x v.name }

  pub ident_visited : {N form : ℕ} {classes : List ℕ} {q : Pass} {F' w' : List ℕ} → AtomFits N rs form at p F C w → form ≡ 1
      → Does rs at p F C w (read classes) q F' w' → VisitsAtom classes rs at p F C w q F' w'
  unfolding visit
  ident_visited {classes = classes} {q} {F'} {w'} x e r = record {
    is = λ A t f s h g y.
        let v = ident_of_lem h (sym x.own ∙ e) in
        subst (λ (u : Tree). Tied (raw q F' C A w') (visit classes u f s)) (sym v.is) (r.is A s v.x (ident_here v g y));
  }

  pub const_visited : {N form : ℕ} {classes : List ℕ} → AtomFits N rs form at p F C w → (form ≡ 1 → ⊥) → VisitsAtom classes rs at p F C w p F w
  unfolding visit
  const_visited {form = form} {classes} x n =
      let two : (nth rs at).form ≡ 2 = pinned form x.own (form_range x.stands).0 n x.atom in
      record {
        is = λ A t f s h g y. let v = const_of h two in subst (λ (u : Tree). Tied (raw p F C A w) (visit classes u f s)) (sym v.is) y;
      }
    where
      pinned : (i : ℕ) {j : ℕ} → i ≡ j → 1 ≤ j → (i ≡ 1 → ⊥) → i ≤ 2 → j ≡ 2
      pinned i e l m h = omega arith
