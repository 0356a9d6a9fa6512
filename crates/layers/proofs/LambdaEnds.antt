-- A lambda ends, over states.
use Rattle.std.specs.Prelude.{Option, None, Some}
use Prim.Native.Nat.{ℕ, suc, ◌+◌, ◌-◌, ◌*◌, ◌≤◌, ◌<◌}
use mathlib.Core.List.{List, [], ◌∷◌, map}
use mathlib.Core.Bool.{Bool, true, false, cond, not, ◌&&◌}
use mathlib.Core.Path.{◌≡◌, refl, ap, sym, subst, ◌∙◌}
use native.Mathlib.Omega.{arith}
use lib.ListN.{length, drop, length-take}
use lib.Dec.{ltb}
use lib.Seq.{length-sets}
use Rattle.tree.specs.Tree.{Ident, Node, Tree}
use Rattle.tree.specs.Check.{member}
use Rattle.tree.specs.Accepted.{All}
use Rattle.scope_map.specs.ScopeMap.{ScopeMap, Live, newest_layer}
use Rattle.semantic.specs.Rows.{Blank, Function, ListEntry, row_width, put_row}
use Rattle.semantic.specs.Kinds.{function_in}
use Rattle.semantic.specs.Leaves.{Stores, Tells}
use Rattle.semantic.specs.declared.ListAt.{ListAt}
use Rattle.semantic.specs.declared.FunctionInformation.{FunctionInformation}
use Rattle.pass.specs.State.{State, Capture, row_at, entry_at, newest, insert, list_entry_of, depth}
use Rattle.pass.specs.Lists.{add_captured, captured_in, captured_vars, list_in, keep, name_of, names_of, amend_list, store_captured, store_arguments, rewrite_captured}
use Rattle.pass.specs.Lambda.{name_in, list_entries_of, mark_lasts, close_scope, close_captures, end_parameters, make_function, now_used, kept_of, holds_lambda, amend_function, function_ends, close_lambda}
use Rattle.pass_laws.specs.Sound.{Property, Lawful, Each}
use Rattle.pass_laws.specs.Laws.Order.{sorted_length}
use Rattle.pass_laws.specs.Laws.Sound.Each.{Fine, fine}
use Rattle.pass_laws.specs.Laws.Sound.ListEntries.{sorted_list_entries, kept_list_entries, listed_list_entries, amended-list_entries, captured_list_entries}
use Rattle.pass_laws.specs.Laws.Sound.Lists.{all_either}
use Rattle.pass_laws.specs.Laws.Sound.Scopes.{each_pop, each_pop_captures, each_lasts, each_arguments, each_store, each_rewrite}
use Rattle.pass.specs.Run.{rows_most, list_entries_most}
use Rattle.work.specs.Works.{Spacious}
use Rattle.work.specs.Laws.Works.{spacious, depth_is, names-many, captured_top_lem, arguments_top_lem}
use Rattle.work.specs.Leaves.{Becomes}
use Rattle.work.specs.Tied.{raw, Tied, Good, Fits}
use Rattle.work.specs.Laws.Good.{Sized, sized_same, sized_then, sized_amend, good_each, sized_last}
use Rattle.work.specs.declared.Pass.{Pass}
use Rattle.walk.specs.declared.uses.Names.{Names}
use Rattle.lists.specs.Contract.{Told, Held, StoresList, Inside}
use Rattle.amending.specs.Contract.{HasBody, SomeLambda, amended_list, AmendsList}
use Rattle.amending.specs.declared.amend.Lambda.{Lambda}
use Rattle.layers.specs.Contract.{LambdaEnds, ClosesLambda}
use Rattle.work.specs.Laws.Fits.{fact_inside, tied_insert}
use Rattle.binders.specs.Leave.{MarksLasts, LayerFits, StoresLayer, NamesEnd, EndsParameters}
use Rattle.layers.specs.Lambdas.{layers_closed, ClosesLayers, made_list, layer_list, with_lists, entries_between, captured_list_at, argument_list_at, function_fact, ListsEnd, EndsLists}
use Rattle.binders.specs.Laws.Lengths.{list_entries_length_lem}
use Rattle.layers.proofs.LambdaEnter.{fact_is}
use Rattle.layers.proofs.Closing.{Lists, lists_of, put, closed-lists, commutes, lasts_closed, captured_stored, captured_put, arguments_stored, stored-put, rewritten, rewritten-put}

-- The layer goes

sized_lasts : (l : List (Live Ident)) (s : State) → Sized s (mark_lasts l s)
unfolding mark_lasts
sized_lasts [] s = sized_same s
sized_lasts (e ∷ l) s = sized_then (sized_last (entry_at s e.value.at).last_used s) (sized_lasts l _)

module _ {rs : List ℕ} {p : Pass} {F w : List ℕ} where
  module _ {F₁ : List ℕ} (marks : MarksLasts p F w F₁) {o : Pass} {w₁ : List ℕ} (scope : Becomes p w close_scope o w₁) where
    pub scope_spacious : {n : Names} → NamesEnd rs n p F w → Spacious o w₁
    scope_spacious a = spacious (scope.is _ (marks.is rs a.captured a.arguments a.s a.fits).works)

    module _ {q : Pass} {w₂ : List ℕ} (captures : Becomes o w₁ close_captures q w₂) where
      closed-fits : {C A : List ℕ} {s : State} → Fits rs (raw p F C A w) s → Fits rs (raw q F₁ C A w₂) (mark_lasts (newest_layer s.scope.names) (close_captures (close_scope s)))
      unfolding close_scope close_captures
      closed-fits {C} {A} {s} f =
          let l = newest_layer s.scope.names in
          let m = marks.is rs C A s f in
          let c : Tied (raw q F₁ C A w₂) (close_captures (close_scope (mark_lasts l s))) = record {
            facts = m.facts;
            captured = m.captured;
            arguments = m.arguments;
            works = captures.is _ (scope.is _ m.works);
          } in
          let u : Sized s (close_captures (close_scope s)) = record { rows = refl; arguments = refl } in
          record {
            good = good_each f.good (sized_then u (sized_lasts l (close_captures (close_scope s)))) (λ Q k G z h. each_lasts k z l (each_pop_captures k z (each_pop k z h)));
            tied = subst (λ (t : State). Tied (raw q F₁ C A w₂) t) (lasts_closed l s) c;
          }

      pub closed-names : {n : Names} → NamesEnd rs n p F w → NamesEnd rs n q F₁ w₂
      closed-names a = record { captured = a.captured; arguments = a.arguments; s = _; xs = a.xs; told = a.told; fits = closed-fits a.fits }

      pub layers_close : {n : Names} {F₂ : List ℕ} → EndsParameters rs n q F₁ w₂ F₂ → ClosesLayers rs n p F w q F₂ w₂
      layers_close k = record { is = λ C A s xs t f. k.is C A _ xs t (closed-fits f) }

-- How long the lists are

either_length : (b : Bool) (i : ListEntry) (l : List ListEntry) → length (cond b (i ∷ l) l) ≤ suc (length l)
either_length true i l = omega arith
either_length false i l = omega arith

added-length : (b : Bool) (s : State) (o : Option Ident) (l : List ListEntry) → length (add_captured b s o l) ≤ suc (length l)
added-length false s o l = omega arith
added-length true s None l = omega arith
added-length true s (Some x) l = either_length (entry_at s x.at).captured (list_entry_of x (entry_at s x.at)) l

captured_length : (ps : List ℕ) (s : State) (l : List (Live Ident)) → length (captured_in ps s l) ≤ length l
unfolding captured_in
captured_length ps s [] = omega arith
captured_length ps s (e ∷ l) =
    omega (arith, added-length (ltb 1 e.layer && not (member e.name ps)) s (newest s e.name) (captured_in ps s l), captured_length ps s l)

keep-length : (p : ℕ → Bool) (l : List ListEntry) → length (keep p l) ≤ length l
unfolding keep
keep-length p [] = omega arith
keep-length p (i ∷ l) = omega (arith, either_length (p (name_of i)) i (keep p l), keep-length p l)

amend-length : (now : List ListEntry) (m : ScopeMap Capture) (seen : List ℕ) (l : List ListEntry) → length (amend_list now m seen l) ≡ length l
unfolding amend_list
amend-length now m seen [] = refl
amend-length now m seen (i ∷ l) = ap suc (amend-length now m (name_of i ∷ seen) l)

kept_length : (b : Tree) (now l : List ListEntry) → length (kept_of b now l) ≤ length l
kept_length b now l = go (holds_lambda b)
  where
    go : (h : Bool) → length (cond h l (keep (λ x. member x (names_of now)) l)) ≤ length l
    go true = omega arith
    go false = keep-length (λ x. member x (names_of now)) l

-- the list that is amended is no longer than it was
amended-length : (xs : List Ident) (b : Tree) (e : ListAt) (s : State) → length (amended_list xs b e s) ≤ e.length
amended-length xs b e s =
    let now = now_used b (captured_vars (map name_in xs) s) in
    let l = list_in s.facts.captured e in
    omega (
      arith,
      amend-length now s.captures [] (kept_of b now l),
      kept_length b now l,
      length-take e.length (drop e.first s.facts.captured),
    )

captured_few : (ps : List ℕ) (s : State) → length s.scope.names.live ≤ list_entries_most → length (captured_vars ps s) ≤ list_entries_most
unfolding captured_vars
captured_few ps s h = omega (arith, captured_length ps s s.scope.names.live)

sized_parameters : (xs : List Ident) (s : State) → Sized s (end_parameters xs s)
unfolding end_parameters
sized_parameters [] s = sized_same s
sized_parameters (x ∷ xs) s = sized_then (sized_amend _ x.at s) (sized_parameters xs _)

sized_closed : (xs : List Ident) (s : State) → Sized s (layers_closed xs s)
unfolding close_scope close_captures
sized_closed xs s =
    let u : Sized s (close_captures (close_scope s)) = record { rows = refl; arguments = refl } in
    sized_then (sized_then u (sized_lasts (newest_layer s.scope.names) (close_captures (close_scope s)))) (sized_parameters xs _)

list_entries_put : (k : Lists) (s : State) (l : List (Live Ident)) → list_entries_of (put k s) l ≡ list_entries_of s l
list_entries_put k s [] = refl
list_entries_put k s (e ∷ l) = ap (λ (m : List ListEntry). list_entry_of e.value (entry_at s e.value.at) ∷ m) (list_entries_put k s l)

-- Lists keep a state good

good_made : {rs : List ℕ} (at : ℕ) (xs : List Ident) {s : State} → Good rs s → Good rs (store_captured at (made_list xs s) s)
good_made at xs {s} g =
    let e = captured_put at (made_list xs s) s in
    good_each g (record { rows = ap (λ (u : State). length u.facts.rows) e; arguments = ap (λ (u : State). length u.facts.arguments) e })
    (λ Q k G z h. each_store k z at (made_list xs s) (sorted_list_entries (Fine Q G) (captured_vars (map name_in xs) s) (captured_list_entries k (map name_in xs) h)) h)

amended_fine : {Q : Property} {G : ℕ → Type 0} → Lawful Q → (xs : List Ident) (b : Tree) (e : ListAt) {s : State} → Each Q G s
    → All (Fine Q G) (amended_list xs b e s)
amended_fine {Q} {G} lawful xs b e {s} h =
    let now = now_used b (captured_vars (map name_in xs) s) in
    let p = listed_list_entries (Fine Q G) s.facts.captured e (fine h) in
    let l = all_either (Fine Q G) (holds_lambda b) (list_in s.facts.captured e) _ p (kept_list_entries (Fine Q G) _ (list_in s.facts.captured e) p) in
    amended-list_entries (Fine Q G) (λ x v i u p. (lawful.changed x v i p.0, subst G (sym u) p.1)) now s.captures [] _ l

good_lists : {rs : List ℕ} (o : Option FunctionInformation) (at : ℕ) (xs : List Ident) (b : Tree) {s : State} → Good rs s → Good rs (with_lists o at xs b s)
unfolding store_arguments
good_lists None at xs b {s} g =
    let u = store_captured at (made_list xs s) s in
    let z : Sized u (store_arguments (layer_list s) u) = record { rows = refl; arguments = length-sets u.facts.arguments u.facts.arguments_top (layer_list s) } in
    good_each (good_made at xs g) z (λ Q k G y h. each_arguments k y (layer_list s) h)
good_lists (Some i) at xs b {s} g =
    let l = amended_list xs b i.captured_vars s in
    let k = rewritten-put i.captured_vars l s in
    good_each g (record { rows = ap (λ (u : State). length u.facts.rows) k; arguments = ap (λ (u : State). length u.facts.arguments) k })
    (λ Q k G z h. each_rewrite k z i.captured_vars l (amended_fine k xs b i.captured_vars h) h)

-- The lists are made

module _ {rs : List ℕ} {at : ℕ} (d : Lambda) {v : Option FunctionInformation} {p : Pass} {C A w : List ℕ} (nothing : v ≡ None)
    {a : Pass} {C' w' : List ℕ} (lists : StoresList rs at d.names p C w a C' w') where
  list-fits : {F : List ℕ} {s : State} {xs : List Ident} → Told rs d.names xs → Fits rs (raw p F C A w) s → Fits rs (raw a F C' A w') (store_captured at (made_list xs s) s)
  list-fits {F} {s} {xs} t f = record { good = good_made at xs f.good; tied = (lists.is xs t).is F A s f.good f.tied }

  pub layer_fits : ListsEnd rs at d v p C A w → LayerFits rs a A w'
  layer_fits b = record {
    facts = b.facts;
    captured = C';
    s = store_captured at (made_list b.xs b.s) b.s;
    fits = list-fits b.told b.fits;
    room = rw (captured_put at (made_list b.xs b.s) b.s) (b.made nothing);
  }

  module _ {b : Pass} {A' : List ℕ} (layer : StoresLayer rs a A w' b A') where
    made_tied : {F : List ℕ} {s : State} {xs : List Ident} → Told rs d.names xs → Fits rs (raw p F C A w) s
        → Tied (raw b F C' A' w') (store_arguments (layer_list s) (store_captured at (made_list xs s) s))
    made_tied {F} {s} {xs} t f =
        let u = store_captured at (made_list xs s) s in
        let e : layer_list u ≡ layer_list s = ap layer_list (captured_put at (made_list xs s) s) ∙ list_entries_put (captured_stored at (made_list xs s) (lists_of s)) s (newest_layer s.scope.names) in
        subst (λ (l : List ListEntry). Tied (raw b F C' A' w') (store_arguments l u)) e (layer.is F C' u (list-fits t f))

    -- how far they reach
    tops : {F : List ℕ} {s : State} {xs : List Ident} → Told rs d.names xs → Fits rs (raw p F C A w) s
        → (b.captured_top ≡ p.captured_top + length (made_list xs s)) × (b.arguments_top ≡ p.arguments_top + length (layer_list s))
    tops {s = s} {xs} t f =
        let k = (made_tied t f).works in
        let e = stored-put at (made_list xs s) (layer_list s) s in (
          captured_top_lem k ∙ ap (λ (u : State). u.facts.captured_top) e ∙ rw (captured_top_lem f.tied.works),
          arguments_top_lem k ∙ ap (λ (u : State). u.facts.arguments_top) e ∙ rw (arguments_top_lem f.tied.works),
        )

    pub tops_fit : ListsEnd rs at d v p C A w → (p.captured_top ≤ b.captured_top) × (b.captured_top < 4294967296)
        × (p.arguments_top ≤ b.arguments_top) × (b.arguments_top < 4294967296)
    tops_fit m =
        let t = tops m.told m.fits in
        let c = captured_vars (map name_in m.xs) m.s in
        let k = (spacious m.fits.tied.works).names in
        let few : length c ≤ list_entries_most = captured_few (map name_in m.xs) m.s (omega (arith, names-many m.fits.tied.works)) in
        let x : b.captured_top ≡ p.captured_top + length c = t.0 ∙ ap (λ (i : ℕ). p.captured_top + i) (sorted_length c) in
        let y = list_entries_length_lem m.s (newest_layer m.s.scope.names) in
        let room = m.made nothing in
        (omega (arith, x), omega (arith, x, m.captured), omega (arith, t.1), omega (arith, t.1, room, arguments_top_lem m.fits.tied.works))

    pub lists-made : {c l : ListAt} → c ≡ entries_between p.captured_top b.captured_top → l ≡ entries_between p.arguments_top b.arguments_top
        → EndsLists rs at d v p C A w (b, c, l) C' A' w'
    lists-made ec el = record {
      is = λ F s xs body t y f.
          let top = tops t f in
          let i : b.captured_top - p.captured_top ≡ length (made_list xs s) = omega (arith, top.0) in
          let j : b.arguments_top - p.arguments_top ≡ length (layer_list s) = omega (arith, top.1) in
          rw nothing (record {
            tied = made_tied t f;
            captured = ec ∙ rw (i, captured_top_lem f.tied.works);
            arguments = el ∙ rw (j, arguments_top_lem f.tied.works);
          });
    }

-- or the captured one is amended

module _ {rs : List ℕ} {at : ℕ} {d : Lambda} {v : Option FunctionInformation} {p : Pass} {C A w : List ℕ} {i : FunctionInformation} (found : v ≡ Some i) where
  pub amend-held : ListsEnd rs at d v p C A w → Inside i.captured_vars × SomeLambda rs d × Held rs p C w
  amend-held a = (
    a.amended i found,
    record { xs = a.xs; b = a.b; names = a.told; body = a.body },
    record { facts = a.facts; arguments = A; s = a.s; good = a.fits.good; tied = a.fits.tied },
  )

  module _ {n : ℕ} {C' w' : List ℕ} (amends : AmendsList rs d i.captured_vars p C w n C' w') where
    pub amended_few : ListsEnd rs at d v p C A w → n < 4294967296
    amended_few a = omega (
      arith,
      amends.many a.facts A a.s a.xs a.b a.told a.body a.fits.good a.fits.tied,
      amended-length a.xs a.b i.captured_vars a.s,
      a.amended i found,
    )

    pub lists-amended : {k : ℕ} → k ≡ n
        → EndsLists rs at d v p C A w (p, record { first = i.captured_vars.first; length = k }, i.arguments) C' A w'
    lists-amended e = record {
      is = λ F s xs b t y f. rw found (record {
        tied = amends.is F A s xs b t y f.good f.tied;
        captured = rw (e, amends.many F A s xs b t y f.good f.tied);
        arguments = refl;
      });
    }

-- A lambda leaves: its lists, the layer, then the fact

leaves_by : (o : Option FunctionInformation) (m : Node) (xs : List Ident) (b : Tree) (escapes : Bool) (s : State)
    → (let u = layers_closed xs (with_lists o m.at xs b s) in
    function_ends o m b escapes (captured_vars (map name_in xs) s) (layer_list s) s.captures (layers_closed xs s)
    ≡ insert m.at (Function (function_fact o (captured_list_at o xs b s) (argument_list_at o s) escapes (depth u))) u)
unfolding make_function amend_function
leaves_by None m xs b escapes s =
    let u = layers_closed xs s in
    let c = made_list xs s in
    let l = layer_list s in
    let e : layers_closed xs (store_arguments l (store_captured m.at c s)) ≡ store_arguments l (store_captured m.at c u) =
    commutes (λ t. store_arguments l (store_captured m.at c t)) (λ k. arguments_stored l (captured_stored m.at c k)) (stored-put m.at c l) xs s in
    let x : u.facts.captured_top ≡ s.facts.captured_top = ap (λ (k : Lists). k.captured_top) (closed-lists xs s) in
    let y : u.facts.arguments_top ≡ s.facts.arguments_top = ap (λ (k : Lists). k.arguments_top) (closed-lists xs s) in
    let n : depth (layers_closed xs (store_arguments l (store_captured m.at c s))) ≡ depth u = ap depth e ∙ ap depth (stored-put m.at c l u) in
    rw (← e, x, y, ← n)
leaves_by (Some i) m xs b escapes s =
    let e = i.captured_vars in
    let l = amended_list xs b e s in
    let r : (layers_closed xs s).facts.captured ≡ s.facts.captured = ap (λ (k : Lists). k.captured) (closed-lists xs s) in
    let c : layers_closed xs (rewrite_captured e l s) ≡ rewrite_captured e l (layers_closed xs s) = commutes (rewrite_captured e l) (rewritten e l) (rewritten-put e l) xs s in
    let used = now_used b (captured_vars (map name_in xs) s) in
    let out : List ListEntry → State = λ (g : List ListEntry).
    let h = amend_list used s.captures [] (kept_of b used (list_in g e)) in
    insert m.at (Function (function_fact (Some i) (record { first = e.first; length = length h }) i.arguments escapes i.depth)) (rewrite_captured e h (layers_closed xs s)) in
    ap out r ∙ rw (← c)

module _ {rs : List ℕ} {at : ℕ} {d : Lambda} {p : Pass} {F C A w : List ℕ} (few : at < rows_most) (v : Option FunctionInformation)
    (found : Tells put_row Blank function_in F at v) where
  pub ends_lists : LambdaEnds rs at d p F C A w → ListsEnd rs at d v p C A w
  ends_lists a = record {
    facts = F;
    s = a.s;
    xs = a.xs;
    b = a.b;
    told = a.told;
    body = a.body;
    fits = a.fits;
    few = few;
    made = λ e. a.ends.made (sym (fact_is few v found a.fits) ∙ e);
    amended = λ i e. a.ends.amended i (sym (fact_is few v found a.fits) ∙ e);
    captured = a.ends.captured;
  }

  module _ {e : Pass × ListAt × ListAt} {C' A' w' : List ℕ} (ends : EndsLists rs at d v p C A w e C' A' w') where
    ended-fits : {s : State} {xs : List Ident} {b : Tree} → Told rs d.names xs → HasBody rs d b → Fits rs (raw p F C A w) s
        → Fits rs (raw e.0 F C' A' w') (with_lists v at xs b s)
    ended-fits {s} {xs} {b} t y f = record { good = good_lists v at xs b f.good; tied = (ends.is F s xs b t y f).tied }

    pub ended-names : LambdaEnds rs at d p F C A w → NamesEnd rs d.names e.0 F w'
    ended-names a = record { captured = C'; arguments = A'; s = _; xs = a.xs; told = a.told; fits = ended-fits a.told a.body a.fits }

    module _ {q : Pass} {F₁ w'' : List ℕ} (closes : ClosesLayers rs d.names e.0 F w' q F₁ w'') where
      pub ended_fact_lem : LambdaEnds rs at d p F C A w → row_width * at + row_width ≤ length F₁
      ended_fact_lem a =
          let f = ended-fits a.told a.body a.fits in
          fact_inside (closes.is C' A' _ a.xs a.told f) ((sized_closed a.xs _).rows ∙ f.good.rows) at few

      pub lambda_closes : {escapes : Bool} {k : ℕ} {u : FunctionInformation} {F₂ : List ℕ} → k ≡ q.scope.depth
          → u ≡ function_fact v e.1 e.2 escapes k → Stores put_row F₁ at (Function u) F₂
          → ClosesLambda rs at d escapes p F C A w q F₂ C' A' w''
      unfolding close_lambda
      lambda_closes {escapes} {u = u} {F₂} ek eu st = record {
        is = λ s xs b m em t y f x.
            let l = ends.is F s xs b t y f in
            let g = ended-fits t y f in
            let c = closes.is C' A' _ xs t g in
            let i = tied_insert c ((sized_closed xs _).rows ∙ g.good.rows) at few (Function u) st in
            let o = v in
            let z : function_in (row_at s m.at) ≡ o = ap (λ (i : ℕ). function_in (row_at s i)) em ∙ sym (fact_is few v found f) in
            let r : u ≡ function_fact o (captured_list_at o xs b s) (argument_list_at o s) escapes (depth (layers_closed xs (with_lists o at xs b s))) =
            eu ∙ rw (l.captured, l.arguments, ek, depth_is c.works) in
            rw (z, leaves_by o m xs b escapes s, em, ← r) i;
      }
