-- A row of trees is walked: what is left of it makes of the state held what the whole row makes of the first.
use Prim.Native.Nat.{ℕ, zero, suc, ◌+◌, ◌-◌, ◌≤◌, ◌<◌}
use mathlib.Core.List.{List, []}
use mathlib.Core.Path.{◌≡◌, refl, sym, subst, ◌∙◌}
use native.Mathlib.Omega.{arith}
use Rattle.tree.specs.Tree.{Tree, Trees, nil, cons, many, flat, flats, Num}
use Rattle.tree.specs.Stands.{Within, Stands, StandAll}
use Rattle.tree.proofs.Laws.Within.{front}
use Rattle.tree.proofs.Laws.Stands.{first_tree, later_trees, tree_few}
use Rattle.pass.specs.State.{State}
use Rattle.work.specs.Tied.{Raw, Tied, Fits}
use Rattle.walk.specs.Contract.{StepsOver}

-- a step over the first tree, the others being to come
stepped : (N : ℕ) (rs : List ℕ) {at n : ℕ} (t : Tree) (ts : Trees) → StandAll N rs at (cons t ts) → StepsOver rs at (many ts) n → StandAll N rs (at + n) ts
unfolding flat Num
stepped N rs {at} {n} t nil a o =
    let here : at ≡ at + n = omega (arith, o.none refl) in
    record { within = subst (λ (i : ℕ). Within N rs i []) here (front [] (flats (cons t nil)) a.within); num = a.num.1 }
stepped N rs {at} t (cons u us) a o =
    subst (λ (i : ℕ). StandAll N rs (at + i) (cons u us)) (sym ((o.some (omega arith)).is N t (first_tree a))) (later_trees a)

-- the step stays within the limit
pub step_few : {N : ℕ} {rs : List ℕ} {at left n : ℕ} {t : Tree} → Stands N rs at t → StepsOver rs at left n → at + n ≤ 4096
step_few {N} {rs} {at} {left} {n} {t} a o = go left o
  where
    go : (j : ℕ) → StepsOver rs at j n → at + n ≤ 4096
    go zero o = omega (arith, tree_few a, o.none refl)
    go (suc j) o = omega (arith, tree_few a, (o.some (omega arith)).is N t a)

-- `each` makes `step` of each tree in turn
pub record Walks (each : Trees → State → State) (step : Tree → State → State) : Type 0 where
  pub none : (s : State) → each nil s ≡ s
  pub more : (t : Tree) (ts : Trees) (s : State) → each (cons t ts) s ≡ each ts (step t s)

module _ {each : Trees → State → State} {step : Tree → State → State} (walks : Walks each step) (N : ℕ) (rs : List ℕ) where
  -- k trees, the first at the record `at`
  pub record Left (at k : ℕ) (z : Raw) (out : State) : Type 0 where
    pub rest : Trees
    pub s : State
    pub stand : StandAll N rs at rest
    pub count : k ≡ many rest
    pub fits : Fits rs z s
    pub same : each rest s ≡ out

  pub record Head (at k : ℕ) (s : State) (out : State) : Type 0 where
    pub t : Tree
    pub stands : Stands N rs at t
    pub next : (n : ℕ) (z : Raw) → StepsOver rs at (k - 1) n → Fits rs z (step t s) → Left (at + n) (k - 1) z out

  pub left-all : (at k : ℕ) (z : Raw) (es : Trees) (s : State) → StandAll N rs at es → k ≡ many es → Fits rs z s → Left at (k - 0) z (each es s)
  left-all at k z es s a b f = record { rest = es; s = s; stand = a; count = omega arith; fits = f; same = refl }

  pub left_done : {at k : ℕ} {z : Raw} {out : State} → Left at k z out → k ≡ 0 → Tied z out
  left_done {at} {k} {z} {out} l e = go l.rest l.count l.same
    where
      go : (ts : Trees) → k ≡ many ts → each ts l.s ≡ out → Tied z out
      go nil c q = subst (λ (t : State). Tied z t) (sym (walks.none l.s) ∙ q) l.fits.tied
      go (cons t ts) c q = absurd (omega arith)

  pub left-head : {at k : ℕ} {z : Raw} {out : State} (l : Left at k z out) → 0 < k → Head at k l.s out
  left-head {at} {k} {z} {out} l h = go l.rest l.count l.stand l.same
    where
      go : (ts : Trees) → k ≡ many ts → StandAll N rs at ts → each ts l.s ≡ out → Head at k l.s out
      go nil c a q = absurd (omega arith)
      go (cons t ts) c a q = record {
        t = t;
        stands = first_tree a;
        next = λ n z e f. record {
          rest = ts;
          s = step t l.s;
          stand = stepped N rs t ts a (subst (λ (j : ℕ). StepsOver rs at j n) (omega arith) e);
          count = omega arith;
          fits = f;
          same = sym (walks.more t ts l.s) ∙ q;
        };
      }
