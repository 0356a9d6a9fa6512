-- Lets, over states: what is known on entering.
use Rattle.std.specs.Prelude.{Option, None, Some}
use Prim.Native.Nat.{ℕ, ◌+◌, ◌*◌, ◌≤◌, ◌<◌}
use mathlib.Core.List.{List}
use mathlib.Core.Bool.{Bool, true, false}
use mathlib.Core.Path.{◌≡◌, refl, ap, sym, ◌∙◌}
use native.Mathlib.Omega.{arith}
use lib.ListN.{length}
use lib.Dec.{eqb}
use borrow.Author.Tests.{eq-eqb, ne_eqb}
use Rattle.table.specs.Laws.Layout.{length-layout}
use Rattle.tree.specs.Tree.{Node}
use Rattle.semantic.specs.Information.{NONE}
use Rattle.semantic.specs.Rows.{Blank, row_width, put_row, list_entry_width, put_list_entry}
use Rattle.semantic.specs.Laws.Rows.{list-entry_long}
use Rattle.semantic.specs.Kinds.{function_in, let_in}
use Rattle.semantic.specs.Leaves.{Tells}
use Rattle.semantic.specs.declared.ListAt.{ListAt}
use Rattle.semantic.specs.declared.FunctionInformation.{FunctionInformation}
use Rattle.semantic.specs.declared.LetInformation.{LetInformation}
use Rattle.semantic.specs.declared.IdentifierStatus.TheVariants.{LetVar}
use Rattle.pass.specs.State.{State, row_at, depth}
use Rattle.pass.specs.Lists.{list_in}
use Rattle.pass.specs.Lambda.{open_scope, heaps_around, let_arguments, at_bottom, open_layer, open_let, function_id}
use Rattle.pass_laws.specs.Laws.Sound.Scopes.{each_open_layer}
use Rattle.pass.specs.Run.{rows_most, list_entries_most, list_entries_length}
use Rattle.work.specs.Laws.Works.{depth_is, names-many, captured_many}
use Rattle.work.specs.Leaves.{Becomes}
use Rattle.work.specs.Tied.{raw, Fits}
use Rattle.work.specs.Laws.Tied.{tied_works}
use Rattle.work.specs.Laws.Good.{sized_facts, good_each}
use Rattle.work.specs.declared.Pass.{Pass}
use Rattle.walk.specs.declared.uses.Names.{Names}
use Rattle.lists.specs.Contract.{Inside}
use Rattle.amending.specs.Contract.{CountsHeap}
use Rattle.flags.specs.Flags.{AroundIs}
use Rattle.binders.specs.Enter.{NamesFit, EntersNames}
use Rattle.layers.specs.Contract.{LetFits, OpensLet}
use Rattle.flags.specs.declared.Around.{Around}
use Rattle.work.specs.Laws.Fits.{fact_inside, told}
use Rattle.layers.specs.Lets.{AroundFits, TellsHeaps, TellsFunction, LetAt, TellsLet}

-- the captured entries' table
pub captured_length : {rs : List ℕ} {p : Pass} {F C A w : List ℕ} {s : State} → Fits rs (raw p F C A w) s → length C ≡ list_entries_length
captured_length {s = s} f =
    omega (arith, ap length f.tied.captured, length-layout list_entry_width put_list_entry list-entry_long s.facts.captured, captured_many f.tied.works)

-- The lambda around

record LambdaIs (a : Around) (o : Option Node) : Type 0 where
  pub n : Node
  pub is : o ≡ Some n
  pub at : a.at ≡ n.at

lambda_is : (a : Around) (o : Option Node) → AroundIs (Some a) o → LambdaIs a o
lambda_is a None h = absurd h
lambda_is a (Some n) h = record { n = n; is = refl; at = h.0 }

nothing_is : (o : Option Node) → AroundIs None o → o ≡ None
nothing_is None h = refl
nothing_is (Some n) h = absurd h

-- a let relies on as much
pub around_fits : {rs : List ℕ} {at : ℕ} {n : Names} {height : ℕ} {a : Option Around} {p : Pass} {F C A w : List ℕ} → LetFits rs at n height a p F C A w → AroundFits a F C
around_fits {rs} {p = p} {A = A} {w = w} b =
    record { rs = rs; p = p; arguments = A; work = w; s = b.s; function = b.function; around = b.around; fits = b.fits; outer = b.outer }

pub no_lambda : (F C : List ℕ) → TellsHeaps None F C None
no_lambda F C = record { is = λ rs p A w s o h f. rw (nothing_is o h); few = omega arith }

pub no_id : TellsFunction None NONE
no_id = record { is = λ o h. rw (nothing_is o h) }

pub tells_id : (a : Around) → TellsFunction (Some a) a.id
tells_id a = record { is = go }
  where
    go : (o : Option Node) → AroundIs (Some a) o → a.id ≡ function_id o
    go None h = absurd h
    go (Some n) h = h.1

module _ (a : Around) {F C : List ℕ} where
  pub around_few : AroundFits (Some a) F C → a.at < rows_most
  around_few b = let k = lambda_is a b.function b.around in omega (arith, k.at, (b.outer k.n k.is).0)

  pub around_fact : AroundFits (Some a) F C → row_width * a.at + row_width ≤ length F
  around_fact b = fact_inside b.fits.tied b.fits.good.rows a.at (around_few b)

  module _ (few : a.at < rows_most) (r : Option FunctionInformation) (t : Tells put_row Blank function_in F a.at r) where
    -- what the row of the lambda around says, in one state
    row_says : {rs : List ℕ} {p : Pass} {A w : List ℕ} {s : State} {o : Option Node} (k : LambdaIs a o) → Fits rs (raw p F C A w) s
        → r ≡ function_in (row_at s k.n.at)
    row_says {s = s} k f = told f.tied f.good.rows a.at few function_in t ∙ ap (λ (j : ℕ). function_in (row_at s j)) k.at

    pub no_function : r ≡ None → TellsHeaps (Some a) F C None
    no_function q = record {
      is = λ rs p A w s o h f.
          let k = lambda_is a o h in
          let z : function_in (row_at s k.n.at) ≡ None = sym (row_says k f) ∙ q in
          rw (k.is, z);
      few = omega arith;
    }

    module _ {v : FunctionInformation} (q : r ≡ Some v) where
      pub list_inside : AroundFits (Some a) F C → Inside v.captured_vars × (length C ≡ list_entries_length)
      list_inside b =
          let k = lambda_is a b.function b.around in
          let z : function_in (row_at b.s k.n.at) ≡ Some v = sym (row_says k b.fits) ∙ q in
          ((b.outer k.n k.is).1 v z, captured_length b.fits)

      pub heaps_counted : {n : ℕ} → CountsHeap C v.captured_vars n → n ≤ list_entries_most → TellsHeaps (Some a) F C (Some n)
      heaps_counted {n} c small = record {
        is = λ rs p A w s o h f.
            let k = lambda_is a o h in
            let z : function_in (row_at s k.n.at) ≡ Some v = sym (row_says k f) ∙ q in
            rw (k.is, z) (ap Some (c.is s.facts.captured f.tied.captured (captured_many f.tied.works)));
        few = small;
      }

-- The list of the let's fact

module _ {at : ℕ} {F : List ℕ} where
  pub let_fact : LetAt at F → row_width * at + row_width ≤ length F
  let_fact a = fact_inside a.fits.tied a.fits.good.rows at a.few

  module _ (a : LetAt at F) (r : Option LetInformation) (t : Tells put_row Blank let_in F at r) where
    let_says : {rs : List ℕ} {p : Pass} {C A w : List ℕ} {s : State} → Fits rs (raw p F C A w) s → r ≡ let_in (row_at s at)
    let_says f = told f.tied f.good.rows at a.few let_in t

    pub no_let : r ≡ None → {e : ListAt} → e ≡ record { first = 0; length = 0 } → TellsLet at F e
    no_let q k = record {
      is = λ rs p C A w s f.
          let z : let_in (row_at s at) ≡ None = sym (let_says f) ∙ q in
          rw (k, z);
      inside = rw k (omega arith);
    }

    pub let_list : {v : LetInformation} → r ≡ Some v → TellsLet at F v.arguments
    let_list {v} q = record {
      is = λ rs p C A w s f.
          let z : let_in (row_at s at) ≡ Some v = sym (let_says f) ∙ q in
          rw z;
      inside = a.list v (sym (let_says a.fits) ∙ q);
    }

-- A layer opens at the bottom

module _ {p : Pass} where
  pub layer_opens : {d : ℕ} → d ≡ p.scope.depth → d ≡ 1 → {q : Pass} → ((w : List ℕ) → Becomes p w open_scope q w)
      → (w : List ℕ) → Becomes p w (λ s. open_layer (at_bottom s) s) q w
  unfolding open_layer
  layer_opens ed e k w = record {
    is = λ s h.
        let z : eqb (depth s) 1 ≡ true = eq-eqb (depth s) 1 (sym (depth_is h) ∙ sym ed ∙ e) in
        rw z ((k w).is s h);
  }

  pub layer_stays : {d : ℕ} → d ≡ p.scope.depth → (d ≡ 1 → ⊥) → (w : List ℕ) → Becomes p w (λ s. open_layer (at_bottom s) s) p w
  unfolding open_layer
  layer_stays ed e w = record {
    is = λ s h.
        let z : eqb (depth s) 1 ≡ false = ne_eqb (depth s) 1 (λ q. e (ed ∙ depth_is h ∙ q)) in
        rw z h;
  }

opened_facts : (b : Bool) (s : State) → (open_layer b s).facts ≡ s.facts
unfolding open_layer open_scope
opened_facts true s = refl
opened_facts false s = refl

opened_live : (b : Bool) (s : State) → length (open_layer b s).scope.names.live ≡ length s.scope.names.live
unfolding open_layer open_scope
opened_live true s = refl
opened_live false s = refl

module _ {rs : List ℕ} {p : Pass} {F C A w : List ℕ} {q : Pass}
    (opens : (w : List ℕ) → Becomes p w (λ s. open_layer (at_bottom s) s) q w) where
  opened-fits : {s : State} → Fits rs (raw p F C A w) s → Fits rs (raw q F C A w) (open_layer (at_bottom s) s)
  opened-fits {s} f =
      let e = opened_facts (at_bottom s) s in
      record {
        good = good_each f.good (sized_facts e) (λ Q l F z h. each_open_layer l z (at_bottom s) h);
        tied = tied_works _ f.tied e ((opens w).is s f.tied.works);
      }

  module _ {at : ℕ} {n : Names} {height : ℕ} {a : Option Around} {o : Option ℕ} {l : ListAt} (heapsTold : TellsHeaps a F C o) (letTold : TellsLet at F l) where
    pub let_names_lem : LetFits rs at n height a p F C A w → NamesFit rs n (record { kind = LetVar; base = height; heaps = o; before = l }) q F A w
    let_names_lem b =
        let f = opened-fits b.fits in
        record {
          captured = C;
          s = open_layer (at_bottom b.s) b.s;
          xs = b.xs;
          told = b.told;
          fits = f;
          room = omega (arith, b.room, names-many b.fits.tied.works, names-many f.tied.works, opened_live (at_bottom b.s) b.s);
          inside = letTold.inside;
          slots = b.slots;
          few = heapsTold.few;
        }

    pub let_opens : {p' : Pass} {F' w' : List ℕ} → EntersNames rs n (record { kind = LetVar; base = height; heaps = o; before = l }) q F A w p' F' w'
        → OpensLet rs at n height a p F C A w p' F' w'
    unfolding open_let
    let_opens {p'} {F'} {w'} m = record {
      is = λ s xs node function en ar t f.
          let u = open_layer (at_bottom s) s in
          let g = opened-fits f in
          let x : o ≡ heaps_around u function = heapsTold.is rs q A w u function ar g in
          let y : list_in u.facts.arguments l ≡ let_arguments u (row_at u node.at) =
          letTold.is rs q C A w u g ∙ ap (λ (i : ℕ). let_arguments u (row_at u i)) (sym en) in
          rw (x, y) at (m.is C u xs t g);
    }
