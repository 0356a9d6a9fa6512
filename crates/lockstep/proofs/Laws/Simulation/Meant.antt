-- What the facts say of an identifier that means a parameter or let name by R7RS: where the name's value lies.
use Rattle.std.specs.Prelude.{ℕ, suc, ◌+◌, ◌-◌, ◌≤◌, Bool, true, false, cond, ◌≡◌, length, eqb, Option, None, Some}
use mathlib.Core.List.{List, [], ◌∷◌, ◌++◌, reverse_aux}
use Rattle.std.proofs.Common.{true≢false, ap, sym, ◌∙◌, arith}
use Rattle.std.proofs.lemmas.Bool.{false≢true}
use Rattle.std.proofs.Math.Path.{refl}
use Rattle.tree.specs.Tree.{Ident, Tree, Trees, many}
use Rattle.tree.specs.Accepted.{All}
use Rattle.tree.specs.Site.{home_at}
use Rattle.tree.proofs.Laws.Site.{let_two}
use Rattle.r7rs.specs.Binding.{Binder, Place, Mention, top, raised, lambda_body, let_body, binders, parameters, let_names, within, Event, enters, mentions, ends, walk, walk_arguments, walk_all, events, mentions_in, meant, Use, use_of, uses_of, uses, Means}
use Rattle.r7rs.specs.Binding as binding
use Rattle.semantic.specs.Rows.{Row, Variable}
use Rattle.semantic.specs.declared.IdentifierStatus.{IdentifierStatus}
use Rattle.semantic.specs.declared.IdentifierStatus.TheVariants.{Global, Local, LocallyDefinedFunction, LetVar, Captured, Free, HeapAllocated}
use Rattle.semantic.specs.declared.SemanticInformation.{SemanticInformation}
use Rattle.pass_laws.specs.Static.{Bound, Ctx, lookup, enter_all, is_cell, is_own, Refers, Ref, ref-own, ref_outer, Aim, aim_own, aim_outer, Args, a_nil, a_cons, Seq, s_nil, s_one, s_more, r_ident, r_const, r_if, r_let, r_define, r_lambda, r_begin, r_call, r_set, Top, top-nil, top-cons, r_and, r_when, r_no_test}
use Rattle.lockstep.specs.Facts.{frame_in, row_of, home}
use Rattle.lockstep.proofs.Laws.Simulation.Lists.{all_append, all-member}
use Rattle.lockstep.proofs.Laws.Simulation.Binders.{slot_at, Placed, PlacedRising, PlacedAll}
use Rattle.lockstep.proofs.Laws.Simulation.Scope.{Housed, Entering, none_enters, one_enters, entering}
use Rattle.lockstep.proofs.Laws.Simulation.Relation.{presumed, Expr}
use Rattle.lockstep.proofs.Laws.Simulation.Read.{home_of}

own_name : (k : IdentifierStatus) → is_own k ≡ true → is_cell k ≡ false
own_name Global e = absurd (false≢true e)
own_name Local e = refl
own_name LocallyDefinedFunction e = refl
own_name LetVar e = refl
own_name Captured e = refl
own_name Free e = absurd (false≢true e)
own_name HeapAllocated e = refl

module _ (ts : Trees) (T : List Row) (M : ℕ → Bool) where
  -- the fact at the record i is one of the name bound at the record b: it gives the frame and slot of the name; a name that may be set is mentioned at
  -- its own depth alone
  pub record Says (i b : ℕ) : Type 0 where
    pub fact : SemanticInformation
    pub is : row_of T i ≡ Variable fact
    pub is_name : is_cell fact.kind ≡ false
    pub frame : ℕ
    pub frame_is : frame_in (row_of T b) ≡ Some frame
    pub home : home ts T fact ≡ Some (frame, slot_at ts b)
    pub own : M b ≡ true → fact.depth ≡ frame + 2

  says : {i d : ℕ} {v : SemanticInformation} {e : Bound} → row_of T i ≡ Variable v → is_cell v.kind ≡ false → Housed ts T e → Refers d v e
      → (M e.binder.at ≡ true → e.depth ≡ d) → Says i e.binder.at
  says {v = v} {e = e} q n r f own = record {
    fact = v;
    is = q;
    is_name = n;
    frame = e.depth - 2;
    frame_is = r.frame;
    home = home_of ts T v r f ∙ ap (λ (s : ℕ). Some (e.depth - 2, s)) (sym r.slot);
    own = λ m. omega (arith, f.depth, own m, r.two);
  }

  -- R7RS's scope beside the facts', name by name
  data Sides : List Binder → Ctx → Type 0 where
    no_side : Sides [] []
    one_side : {b : Binder} {e : Bound} {sc : List Binder} {Γ : Ctx} → b.ident ≡ e.binder → Housed ts T e → Sides sc Γ → Sides (b ∷ sc) (e ∷ Γ)

  -- with d first, on which the names that enter depend
  sides_entered : {d : ℕ} {sc : List Binder} {Γ : Ctx} {s : ℕ} {xs : List Ident} (l : Bool) (s' j : ℕ) (p : Place) → Entering ts T d s xs → Sides sc Γ
      → Sides (reverse_aux (binders l s' p j xs) sc) (enter_all xs d s Γ)
  unfolding binders
  sides_entered l s' j p none_enters r = r
  sides_entered {sc = sc} l s' j p (one_enters {x = x} h hs) r =
      sides_entered {sc = record { ident = x; is_let = l; place = j; around = p.around; home = home_at p.site (s' + j) } ∷ sc} l s' (suc j) p hs
      (one_side refl h r)

  sides_enter : {sc : List Binder} {Γ : Ctx} {d s : ℕ} {xs : List Ident} (l : Bool) (s' j : ℕ) (p : Place) → Entering ts T d s xs → Sides sc Γ
      → Sides (reverse_aux (binders l s' p j xs) sc) (enter_all xs d s Γ)
  sides_enter = sides_entered

  -- what a name finds in both
  data Side : Option Binder → Option Bound → Type 0 where
    side_none : Side None None
    side_some : {b : Binder} {e : Bound} → b.ident ≡ e.binder → Housed ts T e → Side (Some b) (Some e)

  pick : {b : Binder} {e : Bound} {o : Option Binder} {q : Option Bound} (t u : Bool) → t ≡ u → Side (Some b) (Some e) → Side o q
      → Side (cond t (Some b) o) (cond u (Some e) q)
  pick true true p f g = f
  pick true false p f g = absurd (true≢false p)
  pick false true p f g = absurd (false≢true p)
  pick false false p f g = g

  side : {sc : List Binder} {Γ : Ctx} → Sides sc Γ → (x : ℕ) → Side (binding.find sc x) (lookup Γ x)
  side no_side x = side_none
  side (one_side {b} {e} q h r) x =
      pick (eqb b.ident.name x) (eqb e.binder.name x) (ap (λ (y : Ident). eqb y.name x) q) (side_some q h) (side r x)

  -- Each identifier's fact says what the identifier means

  abbrev SaysOf : ℕ → Option Binder → Type 0
  SaysOf i None = Unit {0}
  SaysOf i (Some b) = Says i b.ident.at

  abbrev Told : Event → Type 0
  Told (enters b sc) = Unit {0}
  Told (mentions m) = SaysOf m.ident.at (meant m)
  Told (ends i xs sc) = Unit {0}

  told-ref : (i : ℕ) {d : ℕ} {v : SemanticInformation} {o : Option Binder} {q : Option Bound} → row_of T i ≡ Variable v → Side o q → Ref T (presumed M) d v q
      → SaysOf i o
  told-ref i e side_none f = tt
  told-ref i {v = v} e (side_some p h) (ref-own k f q) = rw p (says e (own_name v.kind k) h f (λ _. q))
  told-ref i e (side_some p h) (ref_outer k f two l m) = rw p (says e (ap is_cell k) h f (λ m'. absurd (true≢false (sym m' ∙ m))))

  told_aim : (i : ℕ) {d : ℕ} {v : SemanticInformation} {o : Option Binder} {q : Option Bound} → row_of T i ≡ Variable v → Side o q → Aim T (presumed M) d v q
      → SaysOf i o
  told_aim i e side_none f = tt
  told_aim i {v = v} e (side_some p h) (aim_own k f q m) = rw p (says e (own_name v.kind k) h f (λ _. q))
  told_aim i e (side_some p h) (aim_outer k f two l m) = absurd m

  join : (l r : List Event) → All Told l → All Told r → All Told (l ++ r)
  join = all_append Told

  told-entering : (bs sc : List Binder) → All Told (binding.entering bs sc)
  unfolding binding.entering
  told-entering [] sc = tt
  told-entering (b ∷ bs) sc = (tt, told-entering bs (b ∷ sc))

  mutual
    unfolding walk

    told : {Γ : Ctx} {d h : ℕ} {t : Bool} {e : Tree} (p : Place) → Expr ts T M Γ d h t e → Placed ts T e h → Sides p.scope Γ → 1 ≤ d
        → All Told (walk e p)
    told p (r_ident {x = x} e f) pl s l = (told-ref x.at e (side s x.name) f, tt)
    told p r_const pl s l = tt
    told p (r_if {a = a} {b = b} ra rb rc) pl s l =
        join (walk a p) _ (told p ra pl.0 s l) (join (walk b p) _ (told p rb pl.1 s l) (told p rc pl.2 s l))
    told p (r_let {d = d} {xs = xs} {es = es} ar n nt r) pl s l =
        let two = let_two d l in
        let bs = let_names xs p in
        let q = let_body (length xs) p in
        join (walk_arguments es p) _ (told_args p ar pl.0 s l)
        (join (binding.entering bs p.scope) _ (told-entering bs p.scope)
        (told (within bs q) r pl.2 (sides_enter true p.site.height 0 q (entering ts T two nt pl.1) s) (omega arith)))
    told p (r_define r) pl s l = told p r pl s l
    told p (r_lambda {n = n} {xs = xs} {b = b} e q nt r) pl s l =
        let bs = parameters n xs p in
        let here = within bs (lambda_body n (length xs) p) in
        join (binding.entering bs p.scope) _ (told-entering bs p.scope)
        (join (walk b here) _
        (told here r pl.1 (sides_enter false 0 0 (lambda_body n (length xs) p) (entering ts T (omega arith) nt pl.0) s) (omega arith))
        (tt, tt))
    told p (r_begin r) pl s l = told_seq p r pl s l
    told p (r_and r) pl s l = told_seq p r pl s l
    told p r_no_test pl s l = tt
    told p (r_when {e = e} r q) pl s l = join (walk e p) _ (told p r pl.0 s l) (told_seq p q pl.1 s l)
    told p (r_call {es = es} ar f imp) pl s l =
        join (walk_arguments es p) _ (told_args p ar pl.0 s l) (told (raised (many es) p) f pl.1 s l)
    told p (r_set {x = x} {e = e} r q a) pl s l = join (walk e p) _ (told p r pl s l) (told_aim x.at q (side s x.name) a, tt)

    told_args : {Γ : Ctx} {d h : ℕ} {es : Trees} (p : Place) → Args T (presumed M) Γ d h es → PlacedRising ts T es h → Sides p.scope Γ → 1 ≤ d
        → All Told (walk_arguments es p)
    told_args p a_nil pl s l = tt
    told_args p (a_cons {e = e} r ar) pl s l = join (walk e p) _ (told p r pl.0 s l) (told_args (raised 1 p) ar pl.1 s l)

    told_seq : {Γ : Ctx} {d h : ℕ} {t : Bool} {es : Trees} (p : Place) → Seq T (presumed M) Γ d h t es → PlacedAll ts T es h → Sides p.scope Γ → 1 ≤ d
        → All Told (walk_all es p)
    told_seq p s_nil pl s l = tt
    told_seq p (s_one {e = e} r) pl s l = join (walk e p) [] (told p r pl.0 s l) tt
    told_seq p (s_more {e = e} r q) pl s l = join (walk e p) _ (told p r pl.0 s l) (told_seq p q pl.1 s l)

  told-top : {es : Trees} → Top T (presumed M) es → PlacedAll ts T es 0 → All Told (walk_all es top)
  unfolding walk
  told-top top-nil pl = tt
  told-top (top-cons {e = e} r t) pl = join (walk e top) _ (told top r pl.0 no_side (omega arith)) (told-top t pl.1)

  -- of the uses
  abbrev Used : Use → Type 0
  Used u = Says u.at u.binder

  told_use : (m : Mention) (o : Option Binder) → SaysOf m.ident.at o → All Used (use_of m o)
  told_use m None s = tt
  told_use m (Some b) s = (s, tt)

  told-uses : (l : List Event) → All Told l → All Used (uses_of (mentions_in l))
  told-uses [] s = tt
  told-uses (enters b sc ∷ l) s = told-uses l s.1
  told-uses (mentions m ∷ l) s = all_append Used (use_of m (meant m)) _ (told_use m (meant m) s.0) (told-uses l s.1)
  told-uses (ends i xs sc ∷ l) s = told-uses l s.1

  pub says_meant : Top T (presumed M) ts → PlacedAll ts T ts 0 → (i b : ℕ) → Means ts i b → Says i b
  unfolding uses events
  says_meant t p i b m = rw (← m.from, ← m.to) (all-member Used m.is_one (told-uses (walk_all ts top) (told-top t p)))
