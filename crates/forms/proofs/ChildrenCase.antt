-- The lambda defines among trees, over states.
use Prim.Native.Nat.{ℕ, ◌+◌, ◌-◌, ◌≤◌, ◌<◌}
use mathlib.Core.List.{List}
use mathlib.Core.Bool.{true, false}
use mathlib.Core.Path.{◌≡◌, refl, ap, sym, subst, ◌∙◌}
use native.Mathlib.Omega.{arith}
use lib.ListN.{length}
use Rattle.tree.specs.Record.{records, nth}
use Rattle.tree.specs.Tree.{Ident, Tree, Trees, many}
use Rattle.tree.specs.Core.{core, cores, peel}
use Rattle.tree.proofs.Laws.Core.{by_peel}
use Rattle.tree.proofs.Laws.Parts.{own}
use Rattle.tree.specs.Stands.{Stands, StandAll}
use Rattle.tree.proofs.Laws.Stands.{root, root_form}
use Rattle.tree.proofs.Laws.Stands.Parts.{define_parts}
use Rattle.tree.proofs.Laws.Stands.Forms.{define_of_lem}
use Rattle.semantic.specs.Information.{NONE}
use Rattle.semantic.specs.Rows.{Variable}
use Rattle.semantic.specs.declared.IdentifierStatus.{IdentifierStatus}
use Rattle.pass.specs.State.{State, top_level_entry}
use Rattle.pass.specs.Read.{enter, define_fact, enter_define}
use Rattle.pass.specs.Visit.{is_lambda, enter_child, enter_children}
use Rattle.pass_laws.specs.Laws.Sound.Names.{each_define}
use Rattle.pass_laws.specs.Laws.Sound.Growth.{grows_child}
use Rattle.pass_laws.specs.Laws.Cases.{by_child}
use Rattle.work.specs.Known.{Known}
use Rattle.work.specs.Laws.Good.{Sized, sized_then, sized_enter, sized_insert, good_where}
use Rattle.work.specs.Laws.Works.{names-many}
use Rattle.work.specs.Tied.{raw, Tied, Good, Fits}
use Rattle.work.specs.declared.Pass.{Pass}
use Rattle.walk.specs.Contract.{SomeTree, SomeTreeOf, StepsOver, TellsBody, Reaches}
use Rattle.walk.specs.declared.body.Body.{Body as Says}
use Rattle.names.specs.Contract.{Room, Defined, DefinesBy, NamesRoom}
use Rattle.forms.specs.Contract.{ChildFits, EntersChild, ChildrenFit, EntersChildren}
use Rattle.work.specs.Laws.Known.{known_ident}
use Rattle.forms.proofs.Trees.{Walks, Left, Head, left-all, left_done, left-head, step_few}
use Rattle.forms.proofs.DefinesCase.{define_here}

-- a define that enters keeps a state good
module _ (classes : List ℕ) (kind : IdentifierStatus) (alias : ℕ) (x : Ident) (b : Tree) where
  pub sized_define : (s : State) → Sized s (enter_define classes kind alias x b s)
  unfolding enter_define
  sized_define s = sized_then (sized_enter x top_level_entry s) (sized_insert x.at (Variable (define_fact classes kind alias x b s)) (enter x top_level_entry s))

  pub good_define : {rs : List ℕ} {s : State} → Known rs x → Good rs s → Good rs (enter_define classes kind alias x b s)
  good_define {s = s} k g = good_where (λ Q. Q.ident x) k tt g (sized_define s) (λ Q l q F z h. each_define z classes kind alias x b q h)

-- One tree

module _ (classes rs : List ℕ) (at : ℕ) (kind : IdentifierStatus) (p : Pass) (F w : List ℕ) where
  pub child_inside : ChildFits (length classes) rs at p F w → at < length (records rs)
  child_inside a = (root a.stands).inside

  pub no_define : ((nth rs at).form ≡ 5 → ⊥) → EntersChild classes rs at kind p F w p F w
  unfolding own
  no_define out = record {
    is = λ C A s t a f.
        by_child classes (λ u g. ((own u).form ≡ 5 → ⊥) → Tied (raw p F C A w) (g s)) kind (λ u o. f.tied) (λ n x b l o. absurd (o refl)) t (λ e. out (root_form a ∙ e));
  }

  module _ (five : (nth rs at).form ≡ 5) where
    pub child_body : ChildFits (length classes) rs at p F w → SomeTreeOf (length classes) rs (at + 2)
    child_body a = let d = define_of_lem a.stands five in record { t = d.b; stands = d.parts.body }

    pub child_room : ChildFits (length classes) rs at p F w → Room p × Defined rs (at + 1) p F w
    child_room a =
        let d = define_of_lem a.stands five in
        (omega (arith, a.room), record { captured = a.captured; arguments = a.arguments; s = a.s; x = d.x; here = define_here d.parts a.fits })

    module _ {b : Says} (tells : TellsBody classes rs (at + 2) b) where
      pub child_lambda : b.lambda ≡ true → {p' : Pass} {F' w' : List ℕ} → DefinesBy b kind NONE rs (at + 1) p F w p' F' w'
          → EntersChild classes rs at kind p F w p' F' w'
      child_lambda l m = record {
        is = λ C A s t a f.
            let d = define_of_lem a five in
            let e = tells.is d.b d.parts.body in
            let z : is_lambda d.b ≡ true = sym (ap (λ (c : Says). c.lambda) e) ∙ l in
            rw (d.is, z) ((m.is classes d.b C e).is A s d.x (define_here d.parts f));
      }

      pub child_value : b.lambda ≡ false → EntersChild classes rs at kind p F w p F w
      child_value l = record {
        is = λ C A s t a f.
            let d = define_of_lem a five in
            let z : is_lambda d.b ≡ false = sym (ap (λ (c : Says). c.lambda) (tells.is d.b d.parts.body)) ∙ l in
            rw (d.is, z) f.tied;
      }

-- Trees in a row, each as what it is

pub enters_walk : (classes : List ℕ) (kind : IdentifierStatus) → Walks (λ ts. enter_children classes kind (cores ts)) (λ t. enter_child classes kind (core t))
unfolding enter_children
enters_walk classes kind = record { none = λ s. refl; more = λ t ts s. refl }

module _ (classes : List ℕ) (kind : IdentifierStatus) where
  good_one : {N : ℕ} {rs : List ℕ} {at : ℕ} {s : State} (t : Tree) → Stands N rs at t → Good rs s → Good rs (enter_child classes kind t s)
  good_one {N} {rs} {at} {s} t a g =
      by_child classes (λ u h. Stands N rs at u → Good rs (h s)) kind (λ u a. g)
      (λ n x b l a. good_define classes kind NONE x b (known_ident (define_parts a).name) g) t a

-- the state of the loop: i trees are done, and the next is at the record `at`
pub record Going (classes rs : List ℕ) (first k : ℕ) (kind : IdentifierStatus) (p : Pass) (F w : List ℕ) (at i : ℕ) (q : Pass) (F' w' : List ℕ) : Type 0 where
  pub is : (C A : List ℕ) (s : State) (es : Trees) → StandAll (length classes) rs first es → k ≡ many es → Fits rs (raw p F C A w) s
      → Left (enters_walk classes kind) (length classes) rs at (k - i) (raw q F' C A w') (enter_children classes kind (cores es) s)

module _ {classes rs : List ℕ} {first k : ℕ} {kind : IdentifierStatus} {p : Pass} {F w : List ℕ} where
  pub going_starts : Going classes rs first k kind p F w first 0 p F w
  going_starts = record { is = λ C A s es a b f. left-all (enters_walk classes kind) (length classes) rs first k _ es s a b f }

  module _ {at i : ℕ} {q : Pass} {F' w' : List ℕ} (m : Going classes rs first k kind p F w at i q F' w') where
    pub going_ends : k ≤ i → EntersChildren classes rs first k kind p F w q F' w'
    going_ends h = record { is = λ C A s es a b f. left_done (enters_walk classes kind) (length classes) rs (m.is C A s es a b f) (omega arith) }

    module _ (h : i < k) where
      -- what the next tree leaves
      left : {q' : Pass} {F'' w'' C A : List ℕ} {out : State} (l : Left (enters_walk classes kind) (length classes) rs at (k - i) (raw q F' C A w') out)
          (t : Head (enters_walk classes kind) (length classes) rs at (k - i) l.s out) {r : ℕ} → Reaches rs at r → EntersChild classes rs r kind q F' w' q' F'' w''
          → Fits rs (raw q' F'' C A w'') (enter_child classes kind (core t.t) l.s)
      left {C = C} {A} l t c d =
          let u = c.is (length classes) t.t t.stands in
          subst (Fits rs _) (sym (by_peel (λ (v : Tree). enter_child classes kind v l.s) (λ m. refl) t.t))
          (record { good = good_one classes kind (peel t.t) u l.fits.good; tied = d.is C A l.s (peel t.t) u l.fits })

      pub going_goes : {n r : ℕ} {q' : Pass} {F'' w'' : List ℕ} → Reaches rs at r → EntersChild classes rs r kind q F' w' q' F'' w'' → StepsOver rs at (k - 1 - i) n
          → Going classes rs first k kind p F w (at + n) (i + 1) q' F'' w''
      going_goes {n} {q' = q'} {F''} {w''} c d x = record {
        is = λ C A s es a b f.
            let l = m.is C A s es a b f in
            let t = left-head (enters_walk classes kind) (length classes) rs l (omega arith) in
            subst (λ (j : ℕ). Left (enters_walk classes kind) (length classes) rs (at + n) j (raw q' F'' C A w'') (enter_children classes kind (cores es) s)) (omega arith)
            (t.next n _ (subst (λ (j : ℕ). StepsOver rs at j n) (omega arith) x) (left l t c d));
      }

      module _ (a : ChildrenFit (length classes) rs first k p F w) where
        here : Left (enters_walk classes kind) (length classes) rs at (k - i) (raw q F' a.captured a.arguments w') (enter_children classes kind (cores a.es) a.s)
        here = m.is a.captured a.arguments a.s a.es a.stand a.count a.fits

        tree_here : Head (enters_walk classes kind) (length classes) rs at (k - i) here.s (enter_children classes kind (cores a.es) a.s)
        tree_here = left-head (enters_walk classes kind) (length classes) rs here (omega arith)

        pub going_fits : {r : ℕ} → Reaches rs at r → NamesRoom q (k - i) → ChildFits (length classes) rs r q F' w'
        going_fits c r = record {
          captured = a.captured;
          arguments = a.arguments;
          s = here.s;
          t = peel tree_here.t;
          stands = c.is (length classes) tree_here.t tree_here.stands;
          fits = here.fits;
          room = omega arith;
        }

        pub going_tree : SomeTree rs at
        going_tree = record { names = length classes; tree = record { t = tree_here.t; stands = tree_here.stands } }

        pub going_few : {j n : ℕ} → StepsOver rs at j n → at + n ≤ 4096
        going_few x = step_few tree_here.stands x

        -- one name more at most
        pub going_room : {r : ℕ} {q' : Pass} {F'' w'' : List ℕ} → NamesRoom q (k - i) → Reaches rs at r → EntersChild classes rs r kind q F' w' q' F'' w'' → NamesRoom q' (k - (i + 1))
        going_room g c d = omega (
          arith,
          names-many here.fits.tied.works,
          names-many (left here tree_here c d).tied.works,
          (grows_child classes kind (core tree_here.t) here.s).live,
        )
