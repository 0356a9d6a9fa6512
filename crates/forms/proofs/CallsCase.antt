-- A call's arguments and its fact, over states.
use Rattle.std.specs.Prelude.{Option, None, Some}
use Prim.Native.Nat.{ℕ, ◌+◌, ◌-◌, ◌*◌, ◌≤◌, ◌<◌}
use mathlib.Core.List.{List}
use mathlib.Core.Bool.{Bool, true, false, cond, ◌&&◌}
use mathlib.Core.Path.{◌≡◌, refl, ap, sym, subst, ◌∙◌}
use native.Mathlib.Omega.{arith}
use lib.ListN.{length}
use lib.Dec.{eqb, ltb}
use Rattle.tree.specs.Record.{records, nth}
use Rattle.tree.specs.Tree.{Ident, Node, Tree, Trees, ident, const, if, letin, define, lambda, sequence, call, set!, nil, cons, many, size}
use Rattle.tree.specs.Core.{core, cores, peel}
use Rattle.tree.proofs.Laws.Core.{by_peel}
use Rattle.tree.proofs.Laws.Parts.{own}
use Rattle.tree.specs.Stands.{Stands, StandAll}
use Rattle.tree.proofs.Laws.Stands.{root, root_form}
use Rattle.tree.proofs.Laws.Stands.Parts.{call_parts}
use Rattle.tree.proofs.Laws.Stands.Forms.{ident_of_lem}
use Rattle.semantic.specs.Information.{mark_last_usage}
use Rattle.semantic.specs.Rows.{Blank, row_width, put_row}
use Rattle.semantic.specs.Amend.{amended}
use Rattle.semantic.specs.Leaves.{Amends}
use Rattle.pass.specs.State.{State, entry_at, newest, depth}
use Rattle.pass.specs.Lambda.{mark_last}
use Rattle.pass.specs.Visit.{last_use_of, same_ident, mark_argument, mark_arguments, mark_if_tail, close_call}
use Rattle.pass_laws.specs.Laws.Sound.Calls.{each_marks}
use Rattle.pass.specs.Run.{rows_most}
use Rattle.work.specs.Known.{Known}
use Rattle.work.specs.Coded.{last_code, record_in}
use Rattle.work.specs.Works.{Works}
use Rattle.work.specs.Leaves.{Tells, LoadsEntry}
use Rattle.work.specs.Laws.Works.{depth_is}
use Rattle.work.specs.Laws.Scope.{KnownAt, newest-known}
use Rattle.work.specs.Tied.{raw, Tied, Good, Fits}
use Rattle.work.specs.Laws.Good.{Sized, sized_same, sized_then, good_each, sized_last}
use Rattle.work.specs.declared.Pass.{Pass}
use Rattle.work.specs.declared.entries.Entry.{Entry as Coded}
use Rattle.walk.specs.Contract.{SomeTree, StepsOver, Reaches}
use Rattle.forms.specs.Contract.{CallFits, ClosesCall}
use Rattle.work.specs.Laws.Fits.{fact_inside, tied_amend}
use Rattle.forms.specs.Calls.{Mentioned, IsLast, ArgumentFits, MarksArgument, ArgumentsFit, MarksArguments, MarksIfTail, Called, MakesCall}
use Rattle.work.specs.Laws.Known.{known_ident}
use Rattle.names.specs.Laws.Idents.{known_name, known_id}
use Rattle.forms.proofs.Trees.{Walks, Left, Head, left-all, left_done, left-head, step_few}

-- the newest binder of a name, as the code finds it
abbrev pub Finds : Pass → List ℕ → ℕ → Option ℕ → Type 0
Finds p w n r = Tells p w (λ s. record_in (newest s n)) r

none_record : (o : Option Ident) → None ≡ record_in o → o ≡ None
none_record None e = refl
none_record (Some x) e = absurd (let z : ◌≡◌ {A = ℕ} 0 1 = cc in omega arith)

-- the last use of the entry at b, at the record i
record LastAt (rs : List ℕ) (s : State) (b i : ℕ) : Type 0 where
  pub y : Ident
  pub is : (entry_at s b).last_used ≡ Some y
  pub place : y.at ≡ i
  pub known : Known rs y

module _ (rs : List ℕ) (at n : ℕ) {p : Pass} {w : List ℕ} {r : Option ℕ} (named : n ≡ (nth rs at).name) (found : Finds p w n r) where
  pub not_found : r ≡ None → IsLast rs at p w false
  not_found e = record {
    is = λ s x k q a g.
        let z = none_record (newest s n) (sym e ∙ found.is s a) in
        rw (← (named ∙ known_name k q), z);
  }

  -- the binder found, in one state
  module _ {b : ℕ} (e : r ≡ Some b) where
    binder_at_lem : (s : State) → Works p w s → Good rs s → KnownAt rs (newest s n) b
    binder_at_lem s a g = newest-known rs s n b g.sound.binders (sym e ∙ found.is s a)

    pub binder_few : Mentioned rs at p w → b < rows_most
    binder_few m = let y = binder_at_lem m.s m.works m.good in omega (arith, y.at, y.known.few)

    module _ {v : Coded} (loads : LoadsEntry w b v) where
      last_is : (s : State) → Works p w s → v.last ≡ last_code (entry_at s b).last_used
      last_is s a = ap (λ (c : Coded). c.last) (loads.is p s a)

      last_of : (s : State) → KnownAt rs (newest s n) b → last_use_of s (newest s n) ≡ (entry_at s b).last_used
      last_of s y = ap (last_use_of s) y.is ∙ ap (λ (i : ℕ). (entry_at s i).last_used) y.at

      pub never_used : v.last ≡ 0 → IsLast rs at p w false
      never_used z = record {
        is = λ s x k q a g.
            let u = no_last (entry_at s b).last_used (sym (last_is s a) ∙ z) in
            rw (← (named ∙ known_name k q), last_of s (binder_at_lem s a g), u);
      }
        where
          no_last : (o : Option Ident) → last_code o ≡ 0 → o ≡ None
          no_last None e = refl
          no_last (Some x) e = absurd (omega arith)

      -- the last use, where there is one
      module _ (z : v.last ≡ 0 → ⊥) where
        last-at : (s : State) → Works p w s → Good rs s → LastAt rs s b (v.last - 1)
        last-at s a g = go (entry_at s b).last_used refl (last_is s a)
          where
            go : (o : Option Ident) → (entry_at s b).last_used ≡ o → v.last ≡ last_code o → LastAt rs s b (v.last - 1)
            go None q l = absurd (z l)
            go (Some y) q l = record { y = y; is = q; place = omega arith; known = g.sound.lasts b y q }

        pub last-inside : Mentioned rs at p w → v.last - 1 < length (records rs)
        last-inside m = let y = last-at m.s m.works m.good in omega (arith, y.place, y.known.inside)

        pub is_last : {i j : ℕ} → i ≡ (nth rs (v.last - 1)).id → j ≡ (nth rs at).id → IsLast rs at p w (eqb i j)
        is_last a b' = record {
          is = λ s x k q h g.
              let y = last-at s h g in
              rw (← (named ∙ known_name k q), last_of s (binder_at_lem s h g), y.is, a ∙ known_id y.known y.place, b' ∙ known_id k q);
        }

-- An argument

module _ (rs : List ℕ) (at : ℕ) (p : Pass) (F w : List ℕ) where
  pub argument_inside : ArgumentFits rs at p F w → at < length (records rs)
  argument_inside a = (root a.stands).inside

  pub argument_fact : ArgumentFits rs at p F w → row_width * at + row_width ≤ length F
  argument_fact a = fact_inside a.fits.tied a.fits.good.rows at (root a.stands).few

  module _ (one : (nth rs at).form ≡ 1) where
    pub mentioned : ArgumentFits rs at p F w → Mentioned rs at p w
    mentioned a =
        let i = ident_of_lem a.stands one in
        record { s = a.s; x = i.x; known = known_ident i.name; place = i.here; works = a.fits.tied.works; good = a.fits.good }

    module _ {b : Bool} (last : IsLast rs at p w b) where
      -- the identifier that the tree is, and whether it is the last use
      last_in : {N : ℕ} {C A : List ℕ} {s : State} {t : Tree} (a : Stands N rs at t) → Fits rs (raw p F C A w) s
          → b ≡ same_ident (last_use_of s (newest s (ident_of_lem a one).x.name)) (ident_of_lem a one).x
      last_in {s = s} a f = let i = ident_of_lem a one in last.is s i.x (known_ident i.name) i.here f.tied.works f.good

      pub marked : b ≡ true → {F' : List ℕ} → Amends put_row Blank (amended mark_last_usage) F at F' → MarksArgument rs at p F w F'
      marked e {F'} k = record {
        is = λ N C A s t a f.
            let i = ident_of_lem a one in
            let q : same_ident (last_use_of s (newest s i.x.name)) i.x ≡ true = sym (last_in a f) ∙ e in
            rw (i.is, q) (tied_amend f.tied f.good.rows i.x.at (omega (arith, i.here, i.own.few)) mark_last_usage (rw i.here k));
      }

      pub unmarked : b ≡ false → MarksArgument rs at p F w F
      unmarked e = record {
        is = λ N C A s t a f.
            let i = ident_of_lem a one in
            let q : same_ident (last_use_of s (newest s i.x.name)) i.x ≡ false = sym (last_in a f) ∙ e in
            rw (i.is, q) f.tied;
      }

  pub no_mention : ((nth rs at).form ≡ 1 → ⊥) → MarksArgument rs at p F w F
  unfolding own
  no_mention out = record { is = λ N C A s t a f. go C A s t (λ e. out (root_form a ∙ e)) f.tied }
    where
      go : (C A : List ℕ) (s : State) (t : Tree) → ((own t).form ≡ 1 → ⊥) → Tied (raw p F C A w) s → Tied (raw p F C A w) (mark_argument t s)
      go C A s (ident x) out k = absurd (out refl)
      go C A s (const n q) out k = k
      go C A s (if n a b c) out k = k
      go C A s (letin n xs es b) out k = k
      go C A s (define n x b) out k = k
      go C A s (lambda n xs b) out k = k
      go C A s (sequence n es) out k = k
      go C A s (call n h es) out k = k
      go C A s (set! n x e) out k = k

-- Arguments in a row, each as what it is

pub marks_walk : Walks (λ ts. mark_arguments (cores ts)) (λ t. mark_argument (core t))
unfolding mark_arguments
marks_walk = record { none = λ s. refl; more = λ t ts s. refl }

sized_argument : (t : Tree) (s : State) → Sized s (mark_argument t s)
sized_argument (ident x) s = go (same_ident (last_use_of s (newest s x.name)) x)
  where
    go : (b : Bool) → Sized s (cond b (mark_last (Some x) s) s)
    go true = sized_last (Some x) s
    go false = sized_same s
sized_argument (const n q) s = sized_same s
sized_argument (if n a b c) s = sized_same s
sized_argument (letin n xs es b) s = sized_same s
sized_argument (define n x b) s = sized_same s
sized_argument (lambda n xs b) s = sized_same s
sized_argument (sequence n es) s = sized_same s
sized_argument (call n h es) s = sized_same s
sized_argument (set! n x e) s = sized_same s

pub good_argument : {rs : List ℕ} {s : State} (t : Tree) → Good rs s → Good rs (mark_argument t s)
unfolding mark_arguments
good_argument {s = s} t g = good_each g (sized_argument t s) (λ Q l F z h. each_marks l z (cons t nil) h)

-- the state of the loop: i arguments are done, and the next is at the record `at`
pub record Marking (rs : List ℕ) (first k : ℕ) (p : Pass) (F w : List ℕ) (at i : ℕ) (F' : List ℕ) : Type 0 where
  pub is : (N : ℕ) (C A : List ℕ) (s : State) (es : Trees) → StandAll N rs first es → k ≡ many es → Fits rs (raw p F C A w) s
      → Left marks_walk N rs at (k - i) (raw p F' C A w) (mark_arguments (cores es) s)

module _ {rs : List ℕ} {first k : ℕ} {p : Pass} {F w : List ℕ} where
  pub marking_starts : Marking rs first k p F w first 0 F
  marking_starts = record { is = λ N C A s es a b f. left-all marks_walk N rs first k _ es s a b f }

  module _ {at i : ℕ} {F' : List ℕ} (m : Marking rs first k p F w at i F') where
    pub marking_ends : k ≤ i → MarksArguments rs first k p F w F'
    marking_ends h = record { is = λ N C A s es a b f. left_done marks_walk N rs (m.is N C A s es a b f) (omega arith) }

    pub marking_goes : i < k → {n r : ℕ} {F'' : List ℕ} → Reaches rs at r → MarksArgument rs r p F' w F'' → StepsOver rs at (k - 1 - i) n → Marking rs first k p F w (at + n) (i + 1) F''
    marking_goes h {n} {F'' = F''} c d x = record {
      is = λ N C A s es a b f.
          let l = m.is N C A s es a b f in
          let t = left-head marks_walk N rs l (omega arith) in
          let g : Fits rs (raw p F'' C A w) (mark_argument (core t.t) l.s) = record {
            good = good_argument (core t.t) l.fits.good;
            tied = subst (Tied (raw p F'' C A w)) (sym (by_peel (λ (u : Tree). mark_argument u l.s) (λ m. refl) t.t))
                (d.is N C A l.s (peel t.t) (c.is N t.t t.stands) l.fits);
          } in
          subst (λ (j : ℕ). Left marks_walk N rs (at + n) j (raw p F'' C A w) (mark_arguments (cores es) s)) (omega arith) (t.next n _ (subst (λ (j : ℕ). StepsOver rs at j n) (omega arith) x) g);
    }

    module _ (a : ArgumentsFit rs first k p F w) (h : i < k) where
      here : Left marks_walk a.names rs at (k - i) (raw p F' a.captured a.arguments w) (mark_arguments (cores a.es) a.s)
      here = m.is a.names a.captured a.arguments a.s a.es a.stand a.count a.fits

      tree_here : Head marks_walk a.names rs at (k - i) here.s (mark_arguments (cores a.es) a.s)
      tree_here = left-head marks_walk a.names rs here (omega arith)

      pub marking_fits : {r : ℕ} → Reaches rs at r → ArgumentFits rs r p F' w
      marking_fits c = record {
        names = a.names;
        captured = a.captured;
        arguments = a.arguments;
        s = here.s;
        t = peel tree_here.t;
        stands = c.is a.names tree_here.t tree_here.stands;
        fits = here.fits;
      }

      pub marking_tree : SomeTree rs at
      marking_tree = record { names = a.names; tree = record { t = tree_here.t; stands = tree_here.stands } }

      pub marking_few : {j n : ℕ} → StepsOver rs at j n → at + n ≤ 4096
      marking_few x = step_few tree_here.stands x

-- Where the call is a tail call

pub marks_if : {rs : List ℕ} {first k : ℕ} {b : Bool} {p : Pass} {F w F' : List ℕ} → b ≡ true → MarksArguments rs first k p F w F'
    → MarksIfTail rs first k b p F w F'
marks_if e m = record { is = λ N C A s es a c f. rw e (m.is N C A s es a c f) }

pub marks-not : {rs : List ℕ} {first k : ℕ} {b : Bool} {p : Pass} {F w : List ℕ} → b ≡ false → MarksIfTail rs first k b p F w F
marks-not e = record { is = λ N C A s es a c f. rw e f.tied }

sized_arguments : (ts : Trees) (s : State) → Sized s (mark_arguments ts s)
unfolding mark_arguments
sized_arguments nil s = sized_same s
sized_arguments (cons t ts) s = sized_then (sized_argument t s) (sized_arguments ts (mark_argument t s))

pub good_if_tail : {rs : List ℕ} {s : State} (b : Bool) (ts : Trees) → Good rs s → Good rs (mark_if_tail b ts s)
good_if_tail {s = s} true ts g = good_each g (sized_arguments ts s) (λ Q l F z h. each_marks l z ts h)
good_if_tail false ts g = g

-- The whole

module _ (rs : List ℕ) (at first k : ℕ) (p : Pass) (F w : List ℕ) where
  pub call_arguments : CallFits rs at first k p F w → ArgumentsFit rs first k p F w
  call_arguments a = record {
    names = a.names;
    captured = a.captured;
    arguments = a.arguments;
    s = a.s;
    es = a.es;
    stand = rw a.place (call_parts a.stands).operands;
    count = a.count;
    fits = a.fits;
  }

  module _ {b : Bool} {F' : List ℕ} (m : MarksIfTail rs first k b p F w F') where
    after-marks : {N : ℕ} {C A : List ℕ} {s : State} {n : Node} {h : Tree} {es : Trees} → Stands N rs at (call n h es) → first ≡ at + 1 + size h
        → k ≡ many es → Fits rs (raw p F C A w) s → Fits rs (raw p F' C A w) (mark_if_tail b (cores es) s)
    after-marks {N} {C} {A} {s} {es = es} a e c f = record {
      good = good_if_tail b (cores es) f.good;
      tied = m.is N C A s es (rw e (call_parts a).operands) c f;
    }

    pub call_made : CallFits rs at first k p F w → Called rs at p F'
    call_made a = record {
      names = a.names;
      captured = a.captured;
      arguments = a.arguments;
      work = w;
      s = mark_if_tail b (cores a.es) a.s;
      n = a.n;
      h = a.h;
      es = a.es;
      stands = a.stands;
      fits = after-marks a.stands a.place a.count a.fits;
    }

    pub call_closes : {tail : Bool} {counter : ℕ} {F'' : List ℕ} → b ≡ (tail && ltb 1 p.scope.depth) → MakesCall rs at b counter p F' F''
        → ClosesCall rs at first k tail counter p F w F''
    unfolding close_call
    call_closes {tail} {counter} {F''} e d = record {
      is = λ N C A s n h es f a q c t l i.
          let z : b ≡ (f.tail && ltb 1 (depth s)) = e ∙ rw (t, depth_is i.tied.works) in
          rw (← z, ← l) (d.is N C A w _ n h es a (after-marks a q c i));
    }
