-- Ands of one child are stepped over, record by record.
use Prim.Native.Nat.{ℕ, ◌+◌, ◌<◌}
use mathlib.Core.List.{List}
use mathlib.Core.Bool.{Bool, true, false, ◌&&◌, and-eq-true_iff, true≢false}
use mathlib.Core.Path.{◌≡◌, refl, ap, sym, subst, ◌∙◌}
use native.Mathlib.Omega.{arith}
use borrow.Author.Tests.{eqb-true}
use lib.Dec.{eqb}
use lib.ListN.{length}
use Rattle.tree.specs.Record.{Record, records, nth}
use Rattle.tree.specs.Tree.{Tree, Trees, ident, const, if, letin, define, lambda, sequence, call, set!, nil, cons, begins, ands, whens, many, size}
use Rattle.tree.specs.Core.{peel}
use Rattle.tree.proofs.Laws.Parts.{own}
use Rattle.tree.specs.Stands.{Stands, StandAll}
use Rattle.tree.proofs.Laws.Stands.{root, first_tree}
use Rattle.tree.proofs.Laws.Stands.Forms.{and_of_lem}
use Rattle.walk.specs.Contract.{SomeTree, Reaches}

abbrev pub is_and_of_one : Record → Bool
is_and_of_one r = eqb r.form 10 && eqb r.count 1

-- so far: the tree that stands at i is reached from t
pub record Way (N : ℕ) (rs : List ℕ) (at i : ℕ) (t : Tree) : Type 0 where
  pub u : Tree
  pub stands : Stands N rs i u
  pub same : peel u ≡ peel t
  pub ends : i + size u ≡ at + size t

pub record Peeling (rs : List ℕ) (at i : ℕ) : Type 0 where
  pub is : (N : ℕ) (t : Tree) → Stands N rs at t → Way N rs at i t

pub start : (rs : List ℕ) (at : ℕ) → Peeling rs at at
start rs at = record { is = λ N t s. record { u = t; stands = s; same = refl; ends = refl } }

-- an only child
record Only (N : ℕ) (rs : List ℕ) (i : ℕ) (es : Trees) : Type 0 where
  pub e : Tree
  pub is : es ≡ cons e nil
  pub stands : Stands N rs i e

only : {N : ℕ} {rs : List ℕ} {i : ℕ} (es : Trees) → many es ≡ 1 → StandAll N rs i es → Only N rs i es
only nil h s = absurd (omega arith)
only (cons e nil) h s = record { e = e; is = refl; stands = first_tree s }
only (cons e (cons f es)) h s = absurd (omega arith)

module _ {rs : List ℕ} {at i : ℕ} (p : Peeling rs at i) where
  pub inside : SomeTree rs at → i < length (records rs)
  inside s = (root (p.is s.names s.tree.t s.tree.stands).stands).inside

  pub small : SomeTree rs at → i < 4096
  small s = (root (p.is s.names s.tree.t s.tree.stands).stands).few

  pub next : is_and_of_one (nth rs i) ≡ true → Peeling rs at (i + 1)
  unfolding size
  next h = record {
    is = λ N t s.
        let w = p.is N t s in
        let b = (and-eq-true_iff (eqb (nth rs i).form 10) (eqb (nth rs i).count 1)).0 h in
        let v = and_of_lem w.stands (eqb-true _ 10 b.0) in
        let o = only v.es (sym v.parts.count ∙ eqb-true _ 1 b.1) v.parts.children in
        let e : w.u ≡ sequence (ands v.n) (cons o.e nil) = v.is ∙ ap (sequence (ands v.n)) o.is in
        record {
          u = o.e;
          stands = o.stands;
          same = sym (ap peel e) ∙ w.same;
          ends = omega (arith, w.ends, ap size e);
        };
  }

  stops : (u : Tree) → is_and_of_one (own u) ≡ false → peel u ≡ u
  unfolding own
  stops (ident x) h = refl
  stops (const n q) h = refl
  stops (if n a b c) h = refl
  stops (letin n xs es b) h = refl
  stops (define n x b) h = refl
  stops (lambda n xs b) h = refl
  stops (sequence (begins n) es) h = refl
  stops (sequence (ands n) nil) h = refl
  stops (sequence (ands n) (cons e nil)) h = absurd (true≢false h)
  stops (sequence (ands n) (cons e (cons f es))) h = refl
  stops (sequence (whens b n) es) h = refl
  stops (call n g es) h = refl
  stops (set! n x e) h = refl

  pub ended : is_and_of_one (nth rs i) ≡ false → Reaches rs at i
  ended h = record {
    is = λ N t s. let w = p.is N t s in subst (Stands N rs i) (sym (stops w.u (stop w)) ∙ w.same) w.stands;
    ends = λ N t s. let w = p.is N t s in ap (λ (v : Tree). i + size v) (sym w.same ∙ stops w.u (stop w)) ∙ w.ends;
  }
    where
      stop : {N : ℕ} {t : Tree} (w : Way N rs at i t) → is_and_of_one (own w.u) ≡ false
      stop w = ap is_and_of_one (sym (root w.stands).is) ∙ h
