-- A run from its start: what its names rely on as they enter, and then its first tree.
use Rattle.std.specs.Prelude.{Option, None, Some}
use Prim.Native.Nat.{ℕ}
use mathlib.Core.List.{List}
use mathlib.Core.Path.{◌≡◌, refl, sym, subst}
use lib.ListN.{length}
use Rattle.tree.specs.Tree.{Trees, sizes}
use Rattle.tree.specs.Define.{top_level}
use Rattle.tree.specs.Accepted.{Accepted}
use Rattle.tree.proofs.Laws.Stands.{accepted_stand}
use Rattle.semantic.specs.declared.IdentifierStatus.TheVariants.{Global}
use Rattle.pass.specs.State.{Facts, Noted}
use Rattle.pass.specs.Visit.{enter_children}
use Rattle.pass.specs.Run.{start, run, fresh, nine_or, ten_at, refused_first}
use Rattle.pass_laws.specs.Sound.{HoldsAll}
use Rattle.pass_laws.specs.Visitable.{Reliable, VisitableTops}
use Rattle.pass_laws.specs.Laws.Visitable.Runs.{start_enterable, first_reliable, first_visitable, second_reliable, second_visitable}
use Rattle.work.specs.Known.{Known}
use Rattle.work.specs.Tied.{raw}
use Rattle.work.specs.declared.Pass.{Pass}
use Rattle.walk.specs.Laws.Identifiers.{trees_hold}
use Rattle.visits.specs.Runs.{Starts, anew, again, Ready, Runs}
use Rattle.visits.specs.Tops.{TopsEnter, EntersTops, TopsFit, VisitsTops}
use Rattle.work.specs.Laws.Known.{known_ident}
use Rattle.visits.proofs.Views.{small}

-- what is not refused has no refusal 10
no_ten : (n : Noted) → refused_first n ≡ None → n.ten ≡ None
no_ten n e = go n.nine n.ten e
  where
    go : (a b : Option ℕ) → nine_or a (ten_at b) ≡ None → b ≡ None
    go a None e = refl
    go None (Some i) e = cc
    go (Some j) (Some i) e = cc

all_known : {N : ℕ} {rs : List ℕ} {ts : Trees} → Accepted N rs ts → HoldsAll (Known rs) ts
all_known {rs = rs} {ts} a = trees_hold (Known rs) (λ x i. known_ident i) ts (accepted_stand a)

module _ {classes rs : List ℕ} {ts : Trees} (a : Accepted (length classes) rs ts) where
  reliable : {f : Facts} → Starts classes ts f → Reliable (Known rs) (start f)
  reliable (anew e) = subst (λ (f : Facts). Reliable (Known rs) (start f)) (sym e) (first_reliable small classes ts a.num a.few (all_known a))
  reliable (again r e) = subst (λ (f : Facts). Reliable (Known rs) (start f)) (sym e) (second_reliable small classes ts a.num a.few (all_known a))

  visitable : {f : Facts} → Starts classes ts f → VisitableTops (Known rs) 0 (sizes ts) (top_level ts) (enter_children classes Global (top_level ts) (start f))
  visitable (anew e) =
      subst (λ (f : Facts). VisitableTops (Known rs) 0 (sizes ts) (top_level ts) (enter_children classes Global (top_level ts) (start f))) (sym e)
      (first_visitable small classes ts a.num a.few (all_known a))
  visitable (again r e) =
      subst (λ (f : Facts). VisitableTops (Known rs) 0 (sizes ts) (top_level ts) (enter_children classes Global (top_level ts) (start f))) (sym e)
      (second_visitable small classes ts a.num a.few (all_known a) (no_ten (fresh classes ts).noted r))

module _ {classes rs : List ℕ} {p : Pass} {F C A w : List ℕ} where
  pub tops_enter : Ready classes rs (raw p F C A w) → TopsEnter classes rs p F w
  tops_enter x =
      let a = x.accepted in
      record {
        captured = C;
        arguments = A;
        ts = x.ts;
        s = start x.facts;
        accepted = a;
        tied = x.tied;
        fits = start_enterable small classes x.ts a.num a.few (all_known a) x.facts (reliable a x.starts);
      }

  module _ {p₁ : Pass} {F₁ w₁ : List ℕ} (o : EntersTops classes rs p F w p₁ F₁ w₁) where
    pub tops_fit : Ready classes rs (raw p F C A w) → TopsFit classes rs (raw p₁ F₁ C A w₁)
    unfolding tops_enter
    tops_fit x = record {
      ts = x.ts;
      s = enter_children classes Global (top_level x.ts) (start x.facts);
      accepted = x.accepted;
      tied = o.is (tops_enter x);
      fits = visitable x.accepted x.starts;
    }

    pub run_done : {p₂ : Pass} {F₂ C₂ A₂ w₂ : List ℕ} → VisitsTops classes rs (raw p₁ F₁ C A w₁) (raw p₂ F₂ C₂ A₂ w₂)
        → Runs classes rs (raw p F C A w) (raw p₂ F₂ C₂ A₂ w₂)
    unfolding run tops_fit
    run_done v = record { is = λ x. v.is (tops_fit x) }
