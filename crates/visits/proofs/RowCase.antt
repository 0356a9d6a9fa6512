-- Trees in a row, one after another: what is left of them, and the state so far.
use Prim.Native.Nat.{ℕ, suc, ◌+◌, ◌-◌, ◌*◌, ◌≤◌, ◌<◌}
use mathlib.Core.List.{List}
use mathlib.Core.Bool.{Bool, true, false}
use mathlib.Core.Path.{◌≡◌, refl, ap, sym, subst, ◌∙◌}
use native.Mathlib.Omega.{arith}
use borrow.Author.Tests.{eqb-true, eqb-false, eq-eqb, ne_eqb}
use lib.ListN.{length, drop}
use lib.Dec.{eqb}
use Rattle.tree.specs.Record.{width}
use Rattle.tree.specs.Tree.{Tree, Trees, nil, cons, many, size, sizes}
use Rattle.tree.proofs.Laws.Tree.{size_pos}
use Rattle.tree.specs.Stands.{StandAll}
use Rattle.tree.proofs.Laws.Stands.{first_tree, later_trees}
use Rattle.pass.specs.State.{State}
use Rattle.pass.specs.Visit.{Flags, is_nil, pushed, child_flags, visit}
use Rattle.pass_laws.specs.Visitable.{Visitable}
use Rattle.pass_laws.specs.Laws.Visitable.Parts.{first_argument, next_arguments, first_child, next_children}
use Rattle.work.specs.Known.{Known}
use Rattle.work.specs.Tied.{Raw, Tied}
use Rattle.flags.specs.Flags.{FlagsAre, Handed}
use Rattle.flags.specs.declared.Flags.{Flags as Coded}
use Rattle.visits.specs.Contract.{Fit, Done, Row, values, children, visit_row, VisitableRow, FitRow, DoneRow}
use Rattle.visits.proofs.Views.{part-on, small, stand_all-at}

-- the last turn is where one tree is left
pub last_of : (i n : ℕ) → i < n → eqb (i + 1) n ≡ eqb (n - i) 1
last_of i n h = go (eqb (i + 1) n) refl
  where
    go : (b : Bool) → eqb (i + 1) n ≡ b → eqb (i + 1) n ≡ eqb (n - i) 1
    go true e = let q = eqb-true (i + 1) n e in e ∙ sym (eq-eqb (n - i) 1 (omega arith))
    go false e = e ∙ sym (ne_eqb (n - i) 1 (λ q. eqb-false (i + 1) n e (omega arith)))

-- what one of the trees is handed, and what those after it are

abbrev pub part_flags : Row → Bool → Flags → Flags
part_flags values last f = f
part_flags children last f = child_flags last f

abbrev pub later_flags : Row → Flags → Flags
later_flags values f = pushed f
later_flags children f = f

pub alike : {g : Coded} → Handed g (λ f. f) g
alike = record { is = λ f h. h }

module _ (rs classes : List ℕ) (i : ℕ) (f : Flags) (s : State) (t : Tree) (ts : Trees) where
  first_fits : (row : Row) → VisitableRow row (Known rs) i (cons t ts) f s → Visitable (Known rs) i t (part_flags row (is_nil ts) f) s
  first_fits values = first_argument small classes i f s t ts
  first_fits children = first_child small classes i f s t ts

  later-fit : (row : Row) → VisitableRow row (Known rs) i (cons t ts) f s
      → VisitableRow row (Known rs) (i + size t) ts (later_flags row f) (visit classes t (part_flags row (is_nil ts) f) s)
  later-fit values = next_arguments small classes i f s t ts
  later-fit children = next_children small classes i f s t ts

none-visited : (row : Row) (classes : List ℕ) (f : Flags) (s : State) → s ≡ visit_row row classes nil f s
unfolding visit
none-visited values classes f s = refl
none-visited children classes f s = refl

one-visited : (row : Row) (classes : List ℕ) (f : Flags) (s : State) (t : Tree) (ts : Trees)
    → visit_row row classes ts (later_flags row f) (visit classes t (part_flags row (is_nil ts) f) s) ≡ visit_row row classes (cons t ts) f s
unfolding visit
one-visited values classes f s t ts = refl
one-visited children classes f s t ts = refl

module _ {row : Row} {classes rs part : List ℕ} {k at : ℕ} {g : Coded} {z : Raw} where
  -- after `used` records m trees are left, and the state is held with what they are handed
  pub record Left (x : FitRow row classes rs part k at g z) (used m : ℕ) (g' : Coded) (z' : Raw) : Type 0 where
    pub ts : Trees
    pub f : Flags
    pub s : State
    pub count : many ts ≡ m
    pub span : used + sizes ts ≡ sizes x.ts
    pub flags : FlagsAre g' f
    pub tied : Tied z' s
    pub fits : VisitableRow row (Known rs) (at + used) ts f s
    pub stand : StandAll (length classes) rs (at + used) ts
    pub state : visit_row row classes ts f s ≡ visit_row row classes x.ts x.f x.s

  pub all_left : (x : FitRow row classes rs part k at g z) → Left x 0 (k - 0) g z
  all_left x = record {
    ts = x.ts;
    f = x.f;
    s = x.s;
    count = x.count ∙ omega arith;
    span = omega arith;
    flags = x.flags;
    tied = x.tied;
    fits = subst (λ (i : ℕ). VisitableRow row (Known rs) i x.ts x.f x.s) (omega arith) x.fits;
    stand = stand_all-at (omega arith) x.stand;
    state = refl;
  }

  pub left_at : {x : FitRow row classes rs part k at g z} {used m l : ℕ} {g' : Coded} {z' : Raw} → m ≡ l → Left x used m g' z' → Left x used l g' z'
  left_at {x} {used} {g' = g'} {z'} e v = subst (λ (i : ℕ). Left x used i g' z') e v

  -- the next one
  pub record Next (x : FitRow row classes rs part k at g z) (used m : ℕ) (g' : Coded) (z' : Raw) : Type 0 where
    pub t : Tree
    pub rest : Trees
    pub f : Flags
    pub s : State
    pub count : suc (many rest) ≡ m
    pub span : used + sizes (cons t rest) ≡ sizes x.ts
    pub flags : FlagsAre g' f
    pub tied : Tied z' s
    pub fits : VisitableRow row (Known rs) (at + used) (cons t rest) f s
    pub stand : StandAll (length classes) rs (at + used) (cons t rest)
    pub state : visit_row row classes (cons t rest) f s ≡ visit_row row classes x.ts x.f x.s

  pub next : {x : FitRow row classes rs part k at g z} {used m : ℕ} {g' : Coded} {z' : Raw} → Left x used m g' z' → 0 < m → Next x used m g' z'
  next {x} {used} {m} {g'} {z'} l h = go l.ts l.count l.span l.fits l.stand l.state
    where
      go : (ts : Trees) → many ts ≡ m → used + sizes ts ≡ sizes x.ts → VisitableRow row (Known rs) (at + used) ts l.f l.s
          → StandAll (length classes) rs (at + used) ts → visit_row row classes ts l.f l.s ≡ visit_row row classes x.ts x.f x.s → Next x used m g' z'
      go nil c e v u q = absurd (omega arith)
      go (cons t ts) c e v u q = record {
        t = t;
        rest = ts;
        f = l.f;
        s = l.s;
        count = c;
        span = e;
        flags = l.flags;
        tied = l.tied;
        fits = v;
        stand = u;
        state = q;
      }

  pub next_long : {x : FitRow row classes rs part k at g z} {used m : ℕ} {g' : Coded} {z' : Raw} → Next x used m g' z' → used + 1 ≤ sizes x.ts
  unfolding size
  next_long n = omega (arith, n.span, size_pos n.t)

  -- the last one is told by the count
  last_is : {x : FitRow row classes rs part k at g z} {used m : ℕ} {g' : Coded} {z' : Raw} {last : Bool} → (n : Next x used m g' z')
      → last ≡ eqb m 1 → last ≡ is_nil n.rest
  last_is {m = m} {last = last} n e = go n.rest n.count
    where
      go : (ts : Trees) → suc (many ts) ≡ m → last ≡ is_nil ts
      go nil c = e ∙ ap (λ (i : ℕ). eqb i 1) (sym c)
      go (cons t ts) c = e ∙ ne_eqb m 1 (λ i. omega arith)

  pub next_fits : {x : FitRow row classes rs part k at g z} {used m : ℕ} {g' g'' : Coded} {z' : Raw} {p : List ℕ} {last : Bool} → (n : Next x used m g' z')
      → p ≡ drop (width * used) part → last ≡ eqb m 1 → Handed g' (part_flags row last) g'' → Fit classes rs p (at + used) g'' z'
  next_fits {x} {used} {g'' = g''} n d b h = record {
    t = n.t;
    f = part_flags row (is_nil n.rest) n.f;
    s = n.s;
    is = part-on rs at used x.is d;
    stands = first_tree n.stand;
    flags = subst (λ (y : Bool). FlagsAre g'' (part_flags row y n.f)) (last_is n b) (h.is n.f n.flags);
    tied = n.tied;
    fits = first_fits rs classes (at + used) n.f n.s n.t n.rest row n.fits;
  }

  pub one_less : {x : FitRow row classes rs part k at g z} {used m n₁ : ℕ} {g' g'' g''' : Coded} {z' z'' : Raw} {p : List ℕ} {last : Bool} → (n : Next x used m g' z')
      → (d : p ≡ drop (width * used) part) → (b : last ≡ eqb m 1) → (h : Handed g' (part_flags row last) g'') → Done classes rs p (at + used) g'' z' n₁ z''
      → Handed g' (later_flags row) g''' → Left x (used + n₁) (m - 1) g''' z''
  unfolding next_fits size
  one_less {x} {used} {m} {n₁} n d b h o l =
      let u : n₁ ≡ size n.t = o.used (next_fits n d b h) in
      let i : at + used + size n.t ≡ at + (used + n₁) = omega arith in
      let f = later_flags row n.f in
      let s = visit classes n.t (part_flags row (is_nil n.rest) n.f) n.s in
      record {
        ts = n.rest;
        f = f;
        s = s;
        count = omega (arith, n.count);
        span = omega (arith, n.span);
        flags = l.is n.f n.flags;
        tied = o.state (next_fits n d b h);
        fits = subst (λ (j : ℕ). VisitableRow row (Known rs) j n.rest f s) i (later-fit rs classes (at + used) n.f n.s n.t n.rest row n.fits);
        stand = stand_all-at i (later_trees n.stand);
        state = one-visited row classes n.f n.s n.t n.rest ∙ n.state;
      }

  -- none is left
  finished : {x : FitRow row classes rs part k at g z} {n₁ : ℕ} {g' : Coded} {z' : Raw} → Left x n₁ 0 g' z'
      → (n₁ ≡ sizes x.ts) × Tied z' (visit_row row classes x.ts x.f x.s)
  unfolding size
  finished {x} {n₁} {g'} {z'} l = go l.ts l.f l.s l.count l.span l.tied l.state
    where
      go : (ts : Trees) (f : Flags) (s : State) → many ts ≡ 0 → n₁ + sizes ts ≡ sizes x.ts → Tied z' s
          → visit_row row classes ts f s ≡ visit_row row classes x.ts x.f x.s
          → (n₁ ≡ sizes x.ts) × Tied z' (visit_row row classes x.ts x.f x.s)
      go nil f s c e t q = (omega (arith, e), subst (Tied z') (none-visited row classes f s ∙ q) t)
      go (cons u ts) f s c e t q = absurd (omega arith)

  pub row_done_lem : {n₁ : ℕ} {g' : Coded} {z' : Raw} → ((x : FitRow row classes rs part k at g z) → Left x n₁ 0 g' z') → DoneRow row classes rs part k at g z n₁ z'
  row_done_lem f = record { used = λ x. (finished (f x)).0; state = λ x. (finished (f x)).1 }

-- one value more can be pushed
pub next_height : {classes rs part : List ℕ} {k at used m : ℕ} {g g' : Coded} {z z' : Raw} {x : FitRow values classes rs part k at g z} → Next x used m g' z' → g'.height + 1 < 4294967296
next_height n = omega (arith, n.flags.height, n.fits.ample.height)
