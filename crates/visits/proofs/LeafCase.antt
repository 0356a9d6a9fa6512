-- An identifier or a constant: one record.
use Prim.Native.Nat.{ℕ, zero, suc, ◌≤◌, ◌<◌}
use mathlib.Core.List.{List}
use mathlib.Core.Path.{◌≡◌, refl, sym, subst}
use native.Mathlib.Omega.{arith}
use lib.ListN.{length}
use Rattle.tree.specs.Record.{nth}
use Rattle.tree.specs.Tree.{Tree, size}
use Rattle.tree.specs.Stands.{Stands}
use Rattle.tree.proofs.Laws.Stands.Forms.{ident_of_lem, const_of, form_range}
use Rattle.pass_laws.specs.Laws.Visitable.Leaves.{reliable}
use Rattle.work.specs.Tied.{raw}
use Rattle.work.specs.declared.Pass.{Pass}
use Rattle.steps.specs.Contract.{AtomFits, VisitsAtom}
use Rattle.flags.specs.declared.Flags.{Flags as Coded}
use Rattle.visits.specs.Contract.{Fit, Done}

-- it is a tree of one record
atom_size : {N i : ℕ} {rs : List ℕ} {t : Tree} → Stands N rs i t → (nth rs i).form ≤ 2 → 1 ≡ size t
unfolding size
atom_size {i = i} {rs} {t} s h = go (nth rs i).form refl (form_range s).0 h
  where
    go : (f : ℕ) → (nth rs i).form ≡ f → 1 ≤ f → f ≤ 2 → 1 ≡ size t
    go zero e l u = absurd (omega arith)
    go (suc zero) e l u = rw (ident_of_lem s e).is refl
    go (suc (suc zero)) e l u = rw (const_of s e).is refl
    go (suc (suc (suc f))) e l u = absurd (omega arith)

module _ {classes rs part : List ℕ} {at f : ℕ} {g : Coded} {p : Pass} {F C A w : List ℕ} (e : f ≡ (nth rs at).form) where
  pub atom_fits : f ≤ 2 → Fit classes rs part at g (raw p F C A w) → AtomFits (length classes) rs f at p F C w
  atom_fits h x = record {
    arguments = A;
    t = x.t;
    s = x.s;
    own = e;
    atom = h;
    stands = x.stands;
    good = (reliable x.fits).good;
    tied = x.tied;
  }

  pub atom_done : {p₁ : Pass} {F₁ w₁ : List ℕ} → f ≤ 2 → VisitsAtom classes rs at p F C w p₁ F₁ w₁
      → Done classes rs part at g (raw p F C A w) 1 (raw p₁ F₁ C A w₁)
  atom_done h r = record {
    used = λ x. atom_size x.stands (subst (λ (k : ℕ). k ≤ 2) e h);
    state = λ x. r.is A x.t x.f x.s x.stands (reliable x.fits).good x.tied;
  }

  -- there are no other forms than those that are visited

  range : Fit classes rs part at g (raw p F C A w) → (1 ≤ f) × (f ≤ 12)
  range x = subst (λ (k : ℕ). (1 ≤ k) × (k ≤ 12)) (sym e) (form_range x.stands)

  pub none_below : f < 1 → Fit classes rs part at g (raw p F C A w) → ⊥
  none_below h x = omega (arith, (range x).0)

  pub none_above : 13 ≤ f → Fit classes rs part at g (raw p F C A w) → ⊥
  none_above h x = omega (arith, (range x).1)
