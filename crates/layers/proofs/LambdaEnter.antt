-- A lambda is entered, over states.
use Rattle.std.specs.Prelude.{Option, None, Some}
use Prim.Native.Nat.{ℕ, zero, suc, ◌≤◌, ◌<◌}
use mathlib.Core.List.{List}
use mathlib.Core.Bool.{Bool, true, false, cond}
use mathlib.Core.Path.{◌≡◌, refl, ap, sym, subst, ◌∙◌}
use native.Mathlib.Omega.{arith}
use lib.ListN.{length, length-map}
use Rattle.tree.specs.Tree.{named}
use Rattle.scope_map.specs.Map.{map_values}
use Rattle.scope_map.specs.declared.ScopeMap.{ScopeMap}
use Rattle.semantic.specs.Rows.{Blank, ListEntry, put_row}
use Rattle.semantic.specs.Kinds.{function_in}
use Rattle.semantic.specs.Leaves.{Tells}
use Rattle.semantic.specs.declared.ListAt.{ListAt}
use Rattle.semantic.specs.declared.FunctionInformation.{FunctionInformation}
use Rattle.semantic.specs.declared.IdentifierStatus.TheVariants.{Local}
use Rattle.semantic.specs.declared.ScopeInfo.{ScopeInfo}
use Rattle.pass.specs.State.{State, Scope, with_context, row_at, list_entry_at}
use Rattle.pass.specs.Lists.{is_of, number_row, number_rows, number_list, numbered_heap, numbered_capture}
use Rattle.pass.specs.Lambda.{open_captures, open_scope, enter_parameters, open_lambda}
use Rattle.pass_laws.specs.Laws.Sound.Scopes.{each_push, each_push_captures, each_open}
use Rattle.pass_laws.specs.Laws.Sound.Known.{inside_listed}
use Rattle.pass_laws.specs.Laws.Sound.Counted.{any_listed}
use Rattle.pass.specs.Run.{rows_most, list_entries_most, list_entries_length}
use Rattle.work.specs.Works.{record_at, beside_state, Works}
use Rattle.work.specs.Laws.Works.{depth_is, names-many, captures_many, captured_many, context_is}
use Rattle.work.specs.Laws.Kept.{works_as}
use Rattle.work.specs.Passes.{in_context, in_captures}
use Rattle.work.specs.Leaves.{Becomes}
use Rattle.work.specs.Captures.{opened}
use Rattle.work.specs.Tied.{raw, Tied, Fits}
use Rattle.work.specs.Laws.Tied.{tied_works}
use Rattle.work.specs.Laws.Good.{good_where, good_each}
use Rattle.work.specs.declared.Pass.{Pass}
use Rattle.walk.specs.declared.uses.Names.{Names}
use Rattle.names.specs.Laws.Entered.{held_same}
use Rattle.lists.specs.Contract.{Inside}
use Rattle.amending.specs.Contract.{CapturesRoom, SomeHeld, Numbers, CountsHeap}
use Rattle.binders.specs.Enter.{NamesFit, EntersNames}
use Rattle.layers.specs.Contract.{ListsFit, LambdaFits, OpensLambda}
use Rattle.binders.specs.declared.enter.Entering.{Entering}
use Rattle.work.specs.Laws.Fits.{told, tied_context}
use Rattle.layers.specs.Lambdas.{ListRoom, number_found, NumbersCaptures, context_within, ListOpens, OpensList, ListInside, EntersBy}
use Rattle.layers.proofs.LetsCase.{captured_length}
use Rattle.pass_laws.specs.Sound as pass

-- What numbering a list leaves as it was

record Numbered (s t : State) : Type 0 where
  pub rows : t.facts.rows ≡ s.facts.rows
  pub arguments : t.facts.arguments ≡ s.facts.arguments
  pub scope : t.scope ≡ s.scope
  pub beside : beside_state t ≡ beside_state s

numbered_same : (s : State) → Numbered s s
numbered_same s = record { rows = refl; arguments = refl; scope = refl; beside = refl }

numbered-then : {s t u : State} → Numbered s t → Numbered t u → Numbered s u
numbered-then a b = record { rows = b.rows ∙ a.rows; arguments = b.arguments ∙ a.arguments; scope = b.scope ∙ a.scope; beside = b.beside ∙ a.beside }

module _ (which : Bool) (f : ℕ → Option ScopeInfo → ScopeInfo → ScopeInfo) where
  numbered-row : (b : Bool) (r i : ℕ) (x : ListEntry) (s : State) → Numbered s (cond b (number_row which f r i x s) s)
  unfolding number_row
  numbered-row true r i x s = record { rows = refl; arguments = refl; scope = refl; beside = refl }
  numbered-row false r i x s = numbered_same s

  numbered-rows : (k r i : ℕ) (s : State) → Numbered s (number_rows which f k r i s)
  unfolding number_rows
  numbered-rows zero r i s = numbered_same s
  numbered-rows (suc k) r i s =
      numbered-then (numbered-row (is_of which f (list_entry_at s r)) r i (list_entry_at s r) s) (numbered-rows k (suc r) _ _)

numbered-list : (e : ListAt) (s : State) → Numbered s (number_list e s)
unfolding number_list
numbered-list e s = numbered-then (numbered-rows false numbered_capture e.length e.first 0 s) (numbered-rows true numbered_heap e.length e.first 0 _)

-- so the pass is what it was, but for the captures
works_numbered : {p q : Pass} {w w' : List ℕ} {s t : State} → Works p w s → Works q w' t → Numbered s t → Works (in_captures q.captures p) w' t
works_numbered {t = t} a b n =
    works_as b _ t (held_same a.names b.names (ap (λ (c : Scope). map_values record_at c.names) (sym n.scope))) refl refl refl refl
    (a.beside ∙ sym n.beside)

module _ {v : Option FunctionInformation} {p : Pass} {C w : List ℕ} where
  pub numbers_nothing : v ≡ None → NumbersCaptures v p C w p.captures C w
  numbers_nothing e = record { is = λ rs. record { is = λ F A s g t. rw e t } }

  module _ {i : FunctionInformation} (e : v ≡ Some i) where
    pub list-numbers : ListRoom v p × SomeHeld p C w → Inside i.captured_vars × CapturesRoom p i.captured_vars × SomeHeld p C w
    list-numbers a = let l = a.0 i e in (l.0, l.1, a.1)

    pub numbers_found : {q : Pass} {C' w' : List ℕ} → Numbers i.captured_vars p C w q C' w' → NumbersCaptures v p C w q.captures C' w'
    numbers_found k = record {
      is = λ rs. record {
        is = λ F A s g t.
            let n = (k.is rs).is F A s g t in
            rw e (tied_works _ n refl (works_numbered t.works n.works (numbered-list i.captured_vars s)));
      };
    }

-- The captures' layer

record Opened (s t : State) : Type 0 where
  pub rows : t.facts.rows ≡ s.facts.rows
  pub arguments : t.facts.arguments ≡ s.facts.arguments
  pub scope : t.scope ≡ s.scope

captures_opened : (o : Option FunctionInformation) (s : State) → Opened s (open_captures o s)
unfolding open_captures
captures_opened None s = record { rows = refl; arguments = refl; scope = refl }
captures_opened (Some v) s = let n = numbered-list v.captured_vars (opened s) in record { rows = n.rows; arguments = n.arguments; scope = n.scope }

opened-fits : {rs : List ℕ} {p q : Pass} {F C A w : List ℕ} {s : State} → ((w : List ℕ) → Becomes p w opened q w) → Fits rs (raw p F C A w) s
    → Fits rs (raw q F C A w) (opened s)
opened-fits {w = w} {s} k f = record {
  good = good_each f.good (record { rows = refl; arguments = refl }) (λ Q l F z h. each_push_captures l z h);
  tied = record { facts = f.tied.facts; captured = f.tied.captured; arguments = f.tied.arguments; works = (k w).is s f.tied.works };
}

open_is : (o : Option FunctionInformation) (s : State) → with_context (context_within o s.context) (number_found o (opened s)) ≡ open_captures o s
unfolding open_captures
open_is None s = refl
open_is (Some i) s = refl

module _ {v : Option FunctionInformation} {p : Pass} {C w : List ℕ} {q : Pass} (opens : (w : List ℕ) → Becomes p w opened q w) where
  pub list_room : ListOpens v p C w → ListRoom v q × SomeHeld q C w
  list_room a =
      let f = opened-fits opens a.fits in (
        λ i e. let l = a.lists i e in (l.0, omega (arith, l.1, captures_many a.fits.tied.works, captures_many f.tied.works)),
        record { rs = a.rs; held = record { facts = a.facts; arguments = a.arguments; s = opened a.s; good = f.good; tied = f.tied } },
      )

  pub list_opens : {m : ScopeMap} {C' w' : List ℕ} → NumbersCaptures v q C w m C' w' → {c : ℕ} → c ≡ context_within v p.context
      → {r : Pass} → r ≡ in_context c (in_captures m q) → OpensList v p C w r C' w'
  list_opens {C' = C'} {w'} numbers {c} e {r} k = record {
    is = λ rs F A s f.
        let g = opened-fits opens f in
        let o = v in
        let x : c ≡ context_within o s.context = e ∙ ap (context_within o) (context_is f.tied.works) in
        let y : with_context c (number_found o (opened s)) ≡ open_captures o s = rw x (open_is o s) in
        subst (λ (t : State). Tied (raw r F C' A w') t) y (rw k (tied_context c ((numbers.is rs).is F A (opened s) g.good g.tied)));
  }

-- What the parameters have in common

module _ {v : Option FunctionInformation} {C : List ℕ} where
  pub enters_first : v ≡ None → {e : ListAt} → e ≡ record { first = 0; length = 0 }
      → EntersBy v C (record { kind = Local; base = 0; heaps = None; before = e })
  unfolding enter_parameters
  enters_first q k = record { is = λ rs p F A w s xs f. rw (q, k); base = refl; inside = rw k (omega arith); few = omega arith }

  pub enters_again : {i : FunctionInformation} → v ≡ Some i → ListInside v → {n : ℕ} → CountsHeap C i.captured_vars n → n ≤ list_entries_most
      → EntersBy v C (record { kind = Local; base = 0; heaps = Some n; before = i.arguments })
  unfolding enter_parameters
  enters_again {i} q l {n} c small = record {
    is = λ rs p F A w s xs f. rw (q, c.is s.facts.captured f.tied.captured (captured_many f.tied.works));
    base = refl;
    inside = (l i q).1;
    few = omega arith;
  }

-- The lambda

inside_of : (x : Option FunctionInformation) → ((i : FunctionInformation) → x ≡ Some i → Inside i.captured_vars) → pass.Inside x
inside_of None h = tt
inside_of (Some i) h = h i refl

module _ {rs : List ℕ} {at : ℕ} {p : Pass} {F C A w : List ℕ} (few : at < rows_most) (v : Option FunctionInformation)
    (found : Tells put_row Blank function_in F at v) where
  -- the fact that the row holds
  pub fact_is : {s : State} → Fits rs (raw p F C A w) s → v ≡ function_in (row_at s at)
  fact_is f = told f.tied f.good.rows at few function_in found

  pub lambda_list_opens : {n : Names} → LambdaFits rs at n p F C A w → ListOpens v p C w
  lambda_list_opens b = record {
    rs = rs;
    facts = F;
    arguments = A;
    s = b.s;
    fits = b.fits;
    shallow = b.shallow.captures;
    lists = λ i e. let l = b.lists i (sym (fact_is b.fits) ∙ e) in (l.0, l.2);
  }

  pub lambda_inside : {n : Names} → LambdaFits rs at n p F C A w → ListInside v
  lambda_inside b = λ i e. let l = b.lists i (sym (fact_is b.fits) ∙ e) in (l.0, l.1)

  module _ {o : Pass} {C' w' : List ℕ} (opens : OpensList v p C w o C' w') where
    captures_fit : {s : State} → Fits rs (raw p F C A w) s → ListsFit p s at → Fits rs (raw o F C' A w') (open_captures v s)
    captures_fit {s} f l =
        let k = captures_opened v s in
        let i = inside_of v (λ i e. (l i (sym (fact_is f) ∙ e)).0) in
        record {
          good = good_where (λ Q. pass.Listed Q.row v) (inside_listed v i) (any_listed v) f.good
              (record { rows = ap length k.rows; arguments = ap length k.arguments }) (λ Q l q F z h. each_open l z v q h);
          tied = opens.is rs F A s f;
        }

    pub scope_shallow : {n : Names} → LambdaFits rs at n p F C A w → o.scope.depth < 4294967295
    scope_shallow b =
        let g = captures_fit b.fits b.lists in
        let k = ap (λ (c : Scope). c.names.depth) (captures_opened v b.s).scope in
        omega (arith, b.shallow.scope, depth_is b.fits.tied.works, depth_is g.tied.works)

    module _ {q : Pass} (layer : (w : List ℕ) → Becomes o w open_scope q w) where
      scope_fit : {s : State} → Fits rs (raw p F C A w) s → ListsFit p s at → Fits rs (raw q F C' A w') (open_scope (open_captures v s))
      unfolding open_scope
      scope_fit f l =
          let g = captures_fit f l in
          record {
            good = good_each g.good (record { rows = refl; arguments = refl }) (λ Q k F z h. each_push k z h);
            tied = record { facts = g.tied.facts; captured = g.tied.captured; arguments = g.tied.arguments; works = (layer w').is _ g.tied.works };
          }

      pub scope_captured : {n : Names} → LambdaFits rs at n p F C A w → length C' ≡ list_entries_length
      scope_captured b = captured_length (scope_fit b.fits b.lists)

      module _ {g : Entering} (by : EntersBy v C' g) where
        pub lambda_names : {n : Names} → LambdaFits rs at n p F C A w → NamesFit rs n g q F A w'
        unfolding open_scope
        lambda_names b =
            let f = scope_fit b.fits b.lists in
            let k = ap (λ (c : Scope). length c.names.live) (captures_opened v b.s).scope in
            record {
              captured = C';
              s = open_scope (open_captures v b.s);
              xs = b.xs;
              told = b.told;
              fits = f;
              room = omega (arith, b.room, names-many b.fits.tied.works, names-many f.tied.works);
              inside = by.inside;
              slots = omega (arith, by.base, b.told.stand.within.few, length-map b.xs named, b.told.count);
              few = by.few;
            }

        pub lambda_opens : {n : Names} {p' : Pass} {F' w'' : List ℕ} → EntersNames rs n g q F A w' p' F' w'' → OpensLambda rs at n p F C A w p' F' C' w''
        unfolding open_lambda
        lambda_opens {n} {p'} {F'} {w''} m = record {
          is = λ s xs node em t f l.
              let u = open_scope (open_captures v s) in
              let z = scope_fit f l in
              let x : v ≡ function_in (row_at s node.at) = fact_is f ∙ ap (λ (i : ℕ). function_in (row_at s i)) (sym em) in
              let y = subst (λ (r : State). Tied (raw p' F' C' A w'') r) (by.is rs q F A w' u xs z) (m.is C' u xs t z) in
              subst (λ (fn : Option FunctionInformation). Tied (raw p' F' C' A w'') (enter_parameters fn xs (open_scope (open_captures fn s)))) x y;
        }
