-- The trees at top level are visited one after another; a top-level begin is passed by, and its children stand in its place.
use Prim.Native.Nat.{ℕ, ◌+◌, ◌-◌, ◌*◌, ◌≤◌, ◌<◌}
use mathlib.Core.List.{List, []}
use mathlib.Core.Path.{◌≡◌, refl, ap, sym, subst, ◌∙◌}
use native.Mathlib.Omega.{arith}
use lib.ListN.{length, drop}
use Rattle.tree.specs.Record.{width, records, nth}
use Rattle.tree.proofs.Laws.Record.{length-records}
use Rattle.tree.specs.Tree.{Tree, Trees, nil, cons, many, flat, flats, size, sizes, Num}
use Rattle.tree.proofs.Laws.Tree.{size_pos}
use Rattle.tree.specs.Core.{core, cores, peel}
use Rattle.tree.specs.Define.{◌⊕◌, top_of, top_level}
use Rattle.tree.proofs.Laws.Acceptance.{many-records}
use Rattle.tree.specs.Stands.{Stands, StandAll}
use Rattle.tree.proofs.Laws.Within.{front}
use Rattle.tree.proofs.Laws.Stands.{first_tree, later_trees, accepted_stand}
use Rattle.pass.specs.State.{State}
use Rattle.pass.specs.Visit.{visit_top, visit_tops}
use Rattle.pass_laws.specs.Visitable.{VisitableTops}
use Rattle.pass_laws.specs.Laws.Visitable.Tops.{first-top, next_tops}
use Rattle.work.specs.Known.{Known}
use Rattle.work.specs.Tied.{Raw, Tied}
use Rattle.walk.specs.Contract.{SomeTree, SomeTreeOf, Reaches}
use Rattle.visits.specs.Tops.{TopFits, VisitsTop, TopsFit, VisitsTops}
use Rattle.visits.proofs.Views.{small, stands_at_lem, stand_all-at}
use Rattle.tree.proofs.Laws.Core.{Peeled, peeled}
use Rattle.visits.proofs.Peeled.{begin_core, lone_core, core_num, core_size, core_visit, peel_visitable}

-- none stands where others do
none_stands : {N : ℕ} {rs : List ℕ} {at : ℕ} (ts : Trees) → StandAll N rs at ts → StandAll N rs at nil
unfolding flat Num
none_stands ts s = record { within = front [] (flats ts) s.within; num = tt }

-- a record lies inside
pub room : (rs : List ℕ) (at : ℕ) → at < length (records rs) → width * at + width ≤ length rs
room rs at h = omega (arith, length-records rs)

module _ {classes rs : List ℕ} {z : Raw} where
  -- from the record at on stand the children us of a top-level begin, as many as are inside, then the trees vs; and the state is held
  pub record Left (x : TopsFit classes rs z) (at inside : ℕ) (z' : Raw) : Type 0 where
    pub us : Trees
    pub vs : Trees
    pub s : State
    pub first : ℕ
    pub count : many us ≡ inside
    pub span : at + sizes us + sizes vs ≡ length (records rs)
    pub children : StandAll (length classes) rs at us
    pub after : StandAll (length classes) rs (at + sizes us) vs
    pub tied : Tied z' s
    pub fits : VisitableTops (Known rs) first (sizes x.ts) (cores us ⊕ top_level vs) s
    pub state : visit_tops classes (cores us ⊕ top_level vs) s ≡ visit_tops classes (top_level x.ts) x.s

  pub all_left : (x : TopsFit classes rs z) → Left x 0 0 z
  unfolding size ◌⊕◌
  all_left x =
      let a = accepted_stand x.accepted in
      record {
        us = nil;
        vs = x.ts;
        s = x.s;
        first = 0;
        count = refl;
        span = omega (arith, many-records x.accepted);
        children = none_stands x.ts a;
        after = a;
        tied = x.tied;
        fits = x.fits;
        state = refl;
      }

  pub few : TopsFit classes rs z → length (records rs) ≤ 4096
  few x = omega (arith, x.accepted.few, many-records x.accepted)

  -- a tree stands at the record
  pub some_tree : {x : TopsFit classes rs z} {at inside : ℕ} {z' : Raw} → Left x at inside z' → at < length (records rs) → SomeTree rs at
  unfolding size
  some_tree {at = at} l h = record { names = length classes; tree = go l.us l.vs l.span l.children l.after }
    where
      go : (us vs : Trees) → at + sizes us + sizes vs ≡ length (records rs) → StandAll (length classes) rs at us
          → StandAll (length classes) rs (at + sizes us) vs → SomeTreeOf (length classes) rs at
      go nil nil j u v = absurd (omega arith)
      go nil (cons t vs) j u v = record { t = t; stands = stands_at_lem (omega arith) (first_tree v) }
      go (cons t us) vs j u v = record { t = t; stands = first_tree u }

  -- a begin is passed by
  pub begin_opened : {x : TopsFit classes rs z} {at top inside k : ℕ} {z' : Raw} → Left x at inside z' → at < length (records rs) → Reaches rs at top → inside ≡ 0
      → (nth rs top).form ≡ 7 → k ≡ (nth rs top).count → Left x (top + 1) k z'
  unfolding size ◌⊕◌ top_of top_level
  begin_opened {x} {at} {top} {inside} {k} {z'} l h r i e c = go l.us l.vs l.count l.span l.after l.fits l.state
    where
      go : (us vs : Trees) → many us ≡ inside → at + sizes us + sizes vs ≡ length (records rs) → StandAll (length classes) rs (at + sizes us) vs
          → VisitableTops (Known rs) l.first (sizes x.ts) (cores us ⊕ top_level vs) l.s
          → visit_tops classes (cores us ⊕ top_level vs) l.s ≡ visit_tops classes (top_level x.ts) x.s → Left x (top + 1) k z'
      go nil nil m j u f q = absurd (omega arith)
      go nil (cons t vs) m j u f q =
          let a : Stands (length classes) rs at t = stands_at_lem (omega arith) (first_tree u) in
          let v = begin_core (peeled t) (r.is (length classes) t a) e in
          let w = ap (λ (b : Tree). top_of b ⊕ top_level vs) v.is in
          let g : size (peel t) ≡ 1 + sizes v.es = sym (core_size (peeled t)) ∙ ap size v.is in
          let d = r.ends (length classes) t a in
          record {
            us = v.es;
            vs = vs;
            s = l.s;
            first = l.first;
            count = sym (c ∙ v.parts.count);
            span = omega arith;
            children = v.parts.children;
            after = stand_all-at (omega arith) (later_trees u);
            tied = l.tied;
            fits = subst (λ (ts : Trees). VisitableTops (Known rs) l.first (sizes x.ts) ts l.s) w f;
            state = ap (λ (ts : Trees). visit_tops classes ts l.s) (sym w) ∙ q;
          }
      go (cons t us) vs m j u f q = absurd (omega arith)

  -- the next one, c, which the tree t stands for
  pub record Next (x : TopsFit classes rs z) (at inside : ℕ) (z' : Raw) : Type 0 where
    pub c : Tree
    pub t : Tree
    pub us : Trees
    pub vs : Trees
    pub s : State
    pub first : ℕ
    pub is : Peeled c t
    pub stands : Stands (length classes) rs at t
    pub count : many us ≡ inside - 1
    pub span : at + size t + sizes us + sizes vs ≡ length (records rs)
    pub children : StandAll (length classes) rs (at + size t) us
    pub after : StandAll (length classes) rs (at + size t + sizes us) vs
    pub tied : Tied z' s
    pub fits : VisitableTops (Known rs) first (sizes x.ts) (cons c (cores us ⊕ top_level vs)) s
    pub state : visit_tops classes (cons c (cores us ⊕ top_level vs)) s ≡ visit_tops classes (top_level x.ts) x.s

  pub next : {x : TopsFit classes rs z} {at top inside : ℕ} {z' : Raw} → Left x at inside z' → at < length (records rs) → Reaches rs at top
      → (inside ≡ 0 → (nth rs top).form ≡ 7 → ⊥) → Next x top inside z'
  unfolding size ◌⊕◌ top_level
  next {x} {at} {top} {inside} {z'} l h r b = go l.us l.vs l.count l.span l.children l.after l.fits l.state
    where
      go : (us vs : Trees) → many us ≡ inside → at + sizes us + sizes vs ≡ length (records rs) → StandAll (length classes) rs at us
          → StandAll (length classes) rs (at + sizes us) vs
          → VisitableTops (Known rs) l.first (sizes x.ts) (cores us ⊕ top_level vs) l.s
          → visit_tops classes (cores us ⊕ top_level vs) l.s ≡ visit_tops classes (top_level x.ts) x.s → Next x top inside z'
      go nil nil m j u v f q = absurd (omega arith)
      go nil (cons t vs) m j u v f q =
          let a : Stands (length classes) rs at t = stands_at_lem (omega arith) (first_tree v) in
          let y = r.is (length classes) t a in
          let d = r.ends (length classes) t a in
          let o : StandAll (length classes) rs (top + size (peel t)) vs = stand_all-at (omega arith) (later_trees v) in
          let w = ap (λ (ts : Trees). ts ⊕ top_level vs) (lone_core (peeled t) y (b (sym m))) in
          record {
            c = core t;
            t = peel t;
            us = nil;
            vs = vs;
            s = l.s;
            first = l.first;
            is = peeled t;
            stands = y;
            count = omega (arith, m);
            span = omega arith;
            children = none_stands vs o;
            after = stand_all-at (omega arith) o;
            tied = l.tied;
            fits = subst (λ (ts : Trees). VisitableTops (Known rs) l.first (sizes x.ts) ts l.s) w f;
            state = ap (λ (ts : Trees). visit_tops classes ts l.s) (sym w) ∙ q;
          }
      go (cons t us) vs m j u v f q =
          let d = r.ends (length classes) t (first_tree u) in
          record {
            c = core t;
            t = peel t;
            us = us;
            vs = vs;
            s = l.s;
            first = l.first;
            is = peeled t;
            stands = r.is (length classes) t (first_tree u);
            count = omega (arith, m);
            span = omega arith;
            children = stand_all-at (sym d) (later_trees u);
            after = stand_all-at (omega arith) v;
            tied = l.tied;
            fits = f;
            state = q;
          }

  module _ {x : TopsFit classes rs z} {at inside : ℕ} {z' : Raw} {part : List ℕ} (n : Next x at inside z') (d : part ≡ drop (width * at) rs) where
    num : Num at n.c
    num = core_num at n.is n.stands.num

    pub next_fits : TopFits classes rs part at z'
    next_fits = record {
      t = n.t;
      s = n.s;
      is = d;
      stands = n.stands;
      tied = n.tied;
      fits = peel_visitable n.is n.stands.num (first-top small classes n.first (sizes x.ts) n.s at n.c (cores n.us ⊕ top_level n.vs) num n.fits);
    }

    pub ahead : {k : ℕ} → ((y : TopFits classes rs part at z') → k ≡ size y.t) → (0 < k) × (at + k ≤ length (records rs))
    unfolding next_fits
    ahead {k} u =
        let e : k ≡ size n.t = u next_fits in
        (omega (arith, size_pos n.t), omega (arith, n.span))

    pub one_less : {k i : ℕ} {z'' : Raw} → VisitsTop classes rs part at z' k z'' → i ≡ inside - 1 → Left x (at + k) i z''
    unfolding next_fits visit_tops
    one_less {k} {z'' = z''} o c =
        let e : k ≡ size n.t = o.used next_fits in
        record {
          us = n.us;
          vs = n.vs;
          s = visit_top classes n.c n.s;
          first = at + size n.c;
          count = n.count ∙ sym c;
          span = omega (arith, n.span);
          children = stand_all-at (omega arith) n.children;
          after = stand_all-at (omega arith) n.after;
          tied = subst (Tied z'') (core_visit classes n.s n.is) (o.state next_fits);
          fits = next_tops small classes n.first (sizes x.ts) n.s at n.c (cores n.us ⊕ top_level n.vs) num n.fits;
          state = n.state;
        }

  -- none is left
  finished : {x : TopsFit classes rs z} {at inside : ℕ} {z' : Raw} → Left x at inside z' → length (records rs) ≤ at
      → Tied z' (visit_tops classes (top_level x.ts) x.s)
  unfolding size ◌⊕◌ top_level visit_tops
  finished {x} {at} {inside} {z'} l h = go l.us l.vs l.span l.state
    where
      go : (us vs : Trees) → at + sizes us + sizes vs ≡ length (records rs)
          → visit_tops classes (cores us ⊕ top_level vs) l.s ≡ visit_tops classes (top_level x.ts) x.s → Tied z' (visit_tops classes (top_level x.ts) x.s)
      go nil nil j q = subst (Tied z') q l.tied
      go nil (cons t vs) j q = absurd (omega (arith, size_pos t))
      go (cons t us) vs j q = absurd (omega (arith, size_pos t))

  pub all-visited : {at inside : ℕ} {z' : Raw} → ((x : TopsFit classes rs z) → Left x at inside z') → length (records rs) ≤ at → VisitsTops classes rs z z'
  all-visited f h = record { is = λ x. finished (f x) h }
