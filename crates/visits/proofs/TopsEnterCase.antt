-- The lambda defines at top level enter: those of one tree, and those of all trees, one after another.
use Prim.Native.Nat.{ℕ, ◌+◌, ◌≤◌, ◌<◌}
use mathlib.Core.List.{List, append-nil}
use mathlib.Core.Path.{◌≡◌, refl, ap, sym, subst, ◌∙◌}
use native.Mathlib.Omega.{arith}
use lib.ListN.{length, get_or, drop}
use Rattle.tree.specs.Record.{records, nth}
use Rattle.tree.specs.Tree.{Tree, Trees, nil, cons, many, flat, flats, size, sizes, Nums}
use Rattle.tree.proofs.Laws.Tree.{size_pos}
use Rattle.tree.specs.Core.{core, peel}
use Rattle.tree.proofs.Laws.Core.{many-cores, by_peel, peeled, core_peel}
use Rattle.tree.specs.Define.{top_of, top_level}
use Rattle.tree.proofs.Laws.Parts.{own}
use Rattle.tree.specs.Starts.{starts, StartsWith, TellsStarts}
use Rattle.tree.proofs.Laws.Acceptance.{many-records}
use Rattle.tree.specs.Stands.{Within, Stands, StandAll}
use Rattle.tree.proofs.Laws.Stands.{root_form, first_tree, later_trees, accepted_stand}
use Rattle.semantic.specs.declared.IdentifierStatus.TheVariants.{Global}
use Rattle.pass.specs.State.{State}
use Rattle.pass.specs.Visit.{enter_children}
use Rattle.pass_laws.specs.Visitable.{EnterableTops}
use Rattle.pass_laws.specs.Laws.Visitable.Runs.{enter-⊕, first-enter, next-enter}
use Rattle.pass_laws.specs.Laws.Cases.{by_child}
use Rattle.work.specs.Known.{Known}
use Rattle.work.specs.Tied.{raw, Tied, Fits}
use Rattle.work.specs.declared.Pass.{Pass}
use Rattle.walk.specs.Contract.{SomeTree, Reaches}
use Rattle.names.specs.Contract.{NamesRoom}
use Rattle.forms.specs.Contract.{ChildrenFit, EntersChildren}
use Rattle.visits.specs.Tops.{TopEnters, EntersTop, TopsEnter, EntersTops}
use Rattle.visits.proofs.Views.{small, names_room}
use Rattle.visits.proofs.Peeled.{begin_core, lone_core}
use Rattle.visits.proofs.TopStarts.{first-start, later-starts}

-- one tree stands as one of many do
lone_stands : {N : ℕ} {rs : List ℕ} {at : ℕ} {t : Tree} → Stands N rs at t → StandAll N rs at (cons t nil)
unfolding flats Nums
lone_stands {N} {rs} {at} {t} s = record { within = subst (Within N rs at) (sym (append-nil (flat t))) s.within; num = (s.num, tt) }

-- Of one tree

module _ {N : ℕ} {rs : List ℕ} {at : ℕ} {p : Pass} {F w : List ℕ} (x : TopEnters N rs at p F w) where
  pub some_tree : SomeTree rs at
  some_tree = record { names = N; tree = record { t = x.t; stands = x.stands } }

  module _ {top : ℕ} (r : Reaches rs at top) where
    stands : Stands N rs top (peel x.t)
    stands = r.is N x.t x.stands

    -- a begin: its children
    pub children_fit : {k : ℕ} → (nth rs top).form ≡ 7 → k ≡ (nth rs top).count → ChildrenFit N rs (top + 1) k p F w
    unfolding top_of
    children_fit {k} e c =
        let v = begin_core (peeled x.t) stands e in
        let m : k ≡ many v.es = c ∙ v.parts.count in
        record {
          captured = x.captured;
          arguments = x.arguments;
          s = x.s;
          es = v.es;
          stand = v.parts.children;
          count = m;
          fits = x.fits;
          room = subst (λ (j : ℕ). NamesRoom p j) (ap (λ (t : Tree). many (top_of t)) v.is ∙ many-cores v.es ∙ sym m) x.room;
        }

    -- any other tree, as one child
    pub child_fits : ((nth rs top).form ≡ 7 → ⊥) → ChildrenFit N rs top 1 p F w
    child_fits h = record {
      captured = x.captured;
      arguments = x.arguments;
      s = x.s;
      es = cons (peel x.t) nil;
      stand = lone_stands stands;
      count = refl;
      fits = x.fits;
      room = subst (λ (j : ℕ). NamesRoom p j) (ap many (lone_core (peeled x.t) stands h)) x.room;
    }

module _ {classes rs : List ℕ} {at top : ℕ} {p p' : Pass} {F w F' w' : List ℕ} (r : Reaches rs at top) where
  pub children_enter : {k : ℕ} → (nth rs top).form ≡ 7 → k ≡ (nth rs top).count → EntersChildren classes rs (top + 1) k Global p F w p' F' w'
      → EntersTop classes rs at p F w p' F' w'
  unfolding top_of
  children_enter e c o = record {
    is = λ C A s t u f.
        let v = begin_core (peeled t) (r.is (length classes) t u) e in
        let i = o.is C A s v.es v.parts.children (c ∙ v.parts.count) f in
        subst (λ (b : Tree). Tied (raw p' F' C A w') (enter_children classes Global (top_of b) s)) (sym v.is) i;
  }

  pub child_enters : ((nth rs top).form ≡ 7 → ⊥) → EntersChildren classes rs top 1 Global p F w p' F' w' → EntersTop classes rs at p F w p' F' w'
  child_enters h o = record {
    is = λ C A s t u f.
        let v = r.is (length classes) t u in
        let e : cons (core (peel t)) nil ≡ top_of (core t) = ap (λ (b : Tree). cons b nil) (core_peel t) ∙ sym (lone_core (peeled t) v h) in
        let i = o.is C A s (cons (peel t) nil) (lone_stands v) refl f in
        subst (Tied (raw p' F' C A w')) (ap (λ (us : Trees). enter_children classes Global us s) e) i;
  }

-- no define is in it

no_name : (classes : List ℕ) (t : Tree) (s : State) → ((own t).form ≡ 5 → ⊥) → enter_children classes Global (cons t nil) s ≡ s
unfolding own enter_children
no_name classes t s h = by_child classes (λ u g. ((own u).form ≡ 5 → ⊥) → g s ≡ s) Global (λ u h. refl) (λ n x b l h. absurd (h refl)) t h

pub none_enters : {classes rs : List ℕ} {at top : ℕ} {p : Pass} {F w : List ℕ} → Reaches rs at top → ((nth rs top).form ≡ 7 → ⊥) → ((nth rs top).form ≡ 5 → ⊥)
    → EntersTop classes rs at p F w p F w
unfolding enter_children
none_enters {classes} {p = p} {F} {w} r h d = record {
  is = λ C A s t u f.
      let v = r.is (length classes) t u in
      let e = by_peel (λ (b : Tree). enter_children classes Global (cons b nil) s) (λ n. refl) t ∙ no_name classes (peel t) s (λ i. d (root_form v ∙ i)) in
      subst (Tied (raw p F C A w)) (sym (ap (λ (us : Trees). enter_children classes Global us s) (lone_core (peeled t) v h) ∙ e)) f.tied;
}

-- Of all trees

module _ {classes rs : List ℕ} {p : Pass} {F w : List ℕ} where
  -- the trees from the record at on are left, of which the table tells from place i on, and the state is held
  pub record Left (x : TopsEnter classes rs p F w) (tops : List ℕ) (i at : ℕ) (p' : Pass) (F' w' : List ℕ) : Type 0 where
    pub us : Trees
    pub s : State
    pub told : StartsWith (drop i tops) (starts at us)
    pub span : at + sizes us ≡ length (records rs)
    pub stand : StandAll (length classes) rs at us
    pub tied : Tied (raw p' F' x.captured x.arguments w') s
    pub fits : EnterableTops (Known rs) (top_level us) s
    pub state : enter_children classes Global (top_level us) s ≡ enter_children classes Global (top_level x.ts) x.s

  pub all_left : {tops : List ℕ} → TellsStarts (length classes) rs tops → (x : TopsEnter classes rs p F w) → Left x tops 0 0 p F w
  all_left d x = record {
    us = x.ts;
    s = x.s;
    told = d.is x.ts x.accepted;
    span = omega (arith, many-records x.accepted);
    stand = accepted_stand x.accepted;
    tied = x.tied;
    fits = x.fits;
    state = refl;
  }

  module _ {x : TopsEnter classes rs p F w} {tops : List ℕ} {i at : ℕ} {p' : Pass} {F' w' : List ℕ} (l : Left x tops i at p' F' w') where
    pub in_table : i < length tops
    in_table = (first-start tops i at l.us l.told).0

    -- the record is the one that the table has
    pub read_left : {j : ℕ} → j ≡ get_or tops i 0 → Left x tops i j p' F' w'
    read_left e = subst (λ (j : ℕ). Left x tops i j p' F' w') (sym (e ∙ (first-start tops i at l.us l.told).1)) l

  -- the next one
  pub record Next (x : TopsEnter classes rs p F w) (tops : List ℕ) (i at : ℕ) (p' : Pass) (F' w' : List ℕ) : Type 0 where
    pub t : Tree
    pub rest : Trees
    pub s : State
    pub told : StartsWith (drop i tops) (starts at (cons t rest))
    pub span : at + sizes (cons t rest) ≡ length (records rs)
    pub stand : StandAll (length classes) rs at (cons t rest)
    pub tied : Tied (raw p' F' x.captured x.arguments w') s
    pub fits : EnterableTops (Known rs) (top_level (cons t rest)) s
    pub state : enter_children classes Global (top_level (cons t rest)) s ≡ enter_children classes Global (top_level x.ts) x.s

  pub next : {x : TopsEnter classes rs p F w} {tops : List ℕ} {i at : ℕ} {p' : Pass} {F' w' : List ℕ} → Left x tops i at p' F' w'
      → at < length (records rs) → Next x tops i at p' F' w'
  unfolding size
  next {x} {tops} {i} {at} {p'} {F'} {w'} l h = go l.us l.told l.span l.stand l.fits l.state
    where
      go : (us : Trees) → StartsWith (drop i tops) (starts at us) → at + sizes us ≡ length (records rs) → StandAll (length classes) rs at us
          → EnterableTops (Known rs) (top_level us) l.s
          → enter_children classes Global (top_level us) l.s ≡ enter_children classes Global (top_level x.ts) x.s → Next x tops i at p' F' w'
      go nil d e u f q = absurd (omega arith)
      go (cons t us) d e u f q = record { t = t; rest = us; s = l.s; told = d; span = e; stand = u; tied = l.tied; fits = f; state = q }

  module _ {x : TopsEnter classes rs p F w} {tops : List ℕ} {i at : ℕ} {p' : Pass} {F' w' : List ℕ} (n : Next x tops i at p' F' w') where
    held : Fits rs (raw p' F' x.captured x.arguments w') n.s
    held = record { good = n.fits.enters.reliable.good; tied = n.tied }

    pub next_fits : TopEnters (length classes) rs at p' F' w'
    unfolding top_level
    next_fits = record {
      captured = x.captured;
      arguments = x.arguments;
      t = n.t;
      s = n.s;
      stands = first_tree n.stand;
      fits = held;
      room = names_room n.tied refl (first-enter small classes (top_of (core n.t)) (top_level n.rest) n.fits).room.live;
    }

    -- the table has a place after this one, and there a later record
    pub ahead : (i + 1 < length tops) × (at < get_or tops (i + 1) 0)
    ahead =
        let f = first-start tops (i + 1) (at + size n.t) n.rest (later-starts tops i at n.t n.rest n.told) in
        (f.0, omega (arith, f.1, size_pos n.t))

    pub one_less : {p'' : Pass} {F'' w'' : List ℕ} → EntersTop classes rs at p' F' w' p'' F'' w'' → Left x tops (i + 1) (at + size n.t) p'' F'' w''
    unfolding size top_level
    one_less o = record {
      us = n.rest;
      s = enter_children classes Global (top_of (core n.t)) n.s;
      told = later-starts tops i at n.t n.rest n.told;
      span = omega (arith, n.span);
      stand = later_trees n.stand;
      tied = o.is x.captured x.arguments n.s n.t (first_tree n.stand) held;
      fits = next-enter small classes (top_of (core n.t)) (top_level n.rest) n.fits;
      state = sym (enter-⊕ classes (top_of (core n.t)) (top_level n.rest) n.s) ∙ n.state;
    }

  -- none is left
  finished : {x : TopsEnter classes rs p F w} {tops : List ℕ} {i at : ℕ} {p' : Pass} {F' w' : List ℕ} → Left x tops i at p' F' w' → length (records rs) ≤ at
      → Tied (raw p' F' x.captured x.arguments w') (enter_children classes Global (top_level x.ts) x.s)
  unfolding size top_level enter_children
  finished {x} {at = at} {p'} {F'} {w'} l h = go l.us l.span l.state
    where
      go : (us : Trees) → at + sizes us ≡ length (records rs) → enter_children classes Global (top_level us) l.s ≡ enter_children classes Global (top_level x.ts) x.s
          → Tied (raw p' F' x.captured x.arguments w') (enter_children classes Global (top_level x.ts) x.s)
      go nil e q = subst (Tied (raw p' F' x.captured x.arguments w')) q l.tied
      go (cons t us) e q = absurd (omega (arith, size_pos t))

  pub all-entered : {tops : List ℕ} {i at : ℕ} {p' : Pass} {F' w' : List ℕ} → ((x : TopsEnter classes rs p F w) → Left x tops i at p' F' w')
      → length (records rs) ≤ at → EntersTops classes rs p F w p' F' w'
  all-entered f h = record { is = λ x. finished (f x) h }
