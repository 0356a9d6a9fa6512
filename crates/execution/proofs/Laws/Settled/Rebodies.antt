-- A second visit goes into the body of a let or a lambda, and out of it.
use Prim.Native.Nat.{ℕ, suc, ◌+◌, ◌≤◌, ◌<◌}
use mathlib.Core.List.{List, [], ◌∷◌, reverse_aux}
use Rattle.std.specs.Prelude.{Bool, cond, ◌&&◌, ◌≡◌, length, drop, eqb, Option, None, Some}
use Rattle.std.proofs.Math.Bool.{true, false}
use Rattle.std.proofs.Math.Path.{refl, ap, subst}
use Rattle.std.proofs.Common.{sym, ◌∙◌, arith, get_or-take, get_or-drop}
use borrow.Author.Tests.{eqb-true}
use Rattle.std.proofs.Math.ListN.{get_or}
use Rattle.tree.specs.Tree.{Ident, Node, NumNames}
use Rattle.tree.specs.Accepted.{All}
use Rattle.scope_map.specs.ScopeMap.{ScopeMap, Live, push_layer}
use Rattle.semantic.specs.Rows.{Row, Blank, Function, Let, ListEntry, no_list_entry}
use Rattle.semantic.specs.declared.ListAt.{ListAt}
use Rattle.semantic.specs.declared.IdentifierStatus.TheVariants.{Local, LetVar}
use Rattle.semantic.specs.declared.FunctionInformation.{FunctionInformation}
use Rattle.semantic.specs.declared.LetInformation.{LetInformation}
use Rattle.pass.specs.State.{Entry, Facts, Capture, Scope, State, list_entry_at, with_captures, row_at}
use Rattle.pass.specs.Lists.{list_in, number_list, name_of}
use Rattle.pass.specs.Lambda.{function_in, open_captures, open_scope, enter_parameters, open_lambda, let_arguments, heaps_around, open_layer, at_bottom, open_let, leave_names, entered, make_let, close_layer, close_let}
use Rattle.pass_laws.specs.Laws.Rows.{key, key_function}
use Rattle.pass_laws.specs.Laws.Moves.{Moves, by, opens, ◌⨟◌, moves_key, out_of_let}
use Rattle.pass_laws.specs.Laws.Scopes.{open_changes}
use Rattle.pass_laws.specs.Laws.Ranges.{Covers}
use Rattle.pass_laws.specs.Laws.Keeps.{Off}
use Rattle.pass_laws.specs.Laws.Leaves.{names, in_layer, captures_beside, open_let_lem, close_let_lem}
use Rattle.pass_laws.specs.Laws.Says.{used_inside, is_set_in}
use Rattle.pass_laws.specs.Laws.Finds.{lives_of, all_map}
use Rattle.pass_laws.specs.Laws.Onward.{Parts}
use Rattle.pass_laws.specs.Laws.Reads.{Only}
use Rattle.pass_laws.specs.Laws.Enters.{in_scope}
use Rattle.pass_laws.specs.Laws.Bodies.{Nowhere, no_part, around_lambda, around_let, open_row, two_deep, let_aside, all_rest}
use Rattle.pass_laws.specs.Laws.Idle.{Idle, idle_steps}
use Rattle.pass_laws.specs.Laws.Preserved.{open_layer_preserves, parameters_preserves, close_layer_preserves, leaving_preserves}
use Rattle.r7rs.specs.Binding.{Binder, Place, Use, lambda_body, let_body, parameters, let_names}
use Rattle.execution.specs.Acceptance.{is_empty}
use Rattle.execution.proofs.Laws.Settled.Kept.{NamesKept, LetKept, LambdaKept}
use Rattle.execution.proofs.Laws.Settled.Ending.{key_let}
use Rattle.execution.proofs.Laws.Settled.Layer.{Lives, Below}
use Rattle.execution.proofs.Laws.Settled.Numbered.{Caught, none_caught, one_caught, Numbered, numbered-list}
use Rattle.execution.proofs.Laws.Settled.Again.{Frame, Stands, CaughtOf, none_of, one_of, OffsetsIn, catch_same, FramedIn, FunctionIn, Script, tabled, function_still, Again, again-deep, again_layered}
use Rattle.execution.proofs.Laws.Settled.Unsaid.{unsaid_steps, open_unsaid}
use Rattle.execution.proofs.Laws.Settled.Reentering.{Heaps, is_none, Reentered, enter-again}
use Rattle.execution.proofs.Laws.Settled.Refuses.{Above, frame_of, Pending, below_all_lem, new_offsets}

-- The flags of names by their entries in the argument table

-- every use of the names is among `after`
abbrev pub Closed : List Use → List Use → List Ident → Type 0
Closed U after xs = All (λ x. (used_inside x.at after ≡ used_inside x.at U) × (is_set_in x.at after ≡ is_set_in x.at U)) xs

pub heaps_kept : (T : List Row) (C A : List ListEntry) (U after : List Use) (e : ListAt) (j : ℕ) (xs : List Ident) (r : ℕ) → e.first + j ≡ r
    → j + length xs ≤ e.length
    → NamesKept T C A after r xs → Closed U after xs → Heaps U (list_in A e) j xs
unfolding NamesKept
heaps_kept T C A U after e j [] r h l k c = tt
heaps_kept T C A U after e j (x ∷ xs) r h l k c =
    let here : get_or (list_in A e) j no_list_entry ≡ get_or A r no_list_entry =
    get_or-take e.length (drop e.first A) j no_list_entry (omega arith) ∙ get_or-drop e.first A j no_list_entry ∙ ap (λ (i : ℕ). get_or A i no_list_entry) h in (
      (λ i. (ap (λ (v : ListEntry). v.info.captured) here ∙ k.0 ∙ c.0.0) i && (ap (λ (v : ListEntry). v.info.mutated) here ∙ k.1 ∙ c.0.1) i),
      heaps_kept T C A U after e (suc j) xs (suc r) (omega arith) (omega arith) k.2 c.1,
    )

-- Into a let

-- the lambda around a place in the lambdas a has a fact
abbrev pub FunctionOf : List Row → Option Node → List ℕ → Type 0
FunctionOf T None a = a ≡ []
FunctionOf T (Some n) a = (is_empty a ≡ false) × ((v : FunctionInformation) × (get_or T n.at Blank ≡ Function v))

heaps_none : (S : Script) {own : ℕ → Type 0} {bottom : List (Live Ident)} {fr : Option Frame} {d : ℕ} {old : Lives} {p : Place} {s : State}
    (function : Option Node)
    → FunctionOf S.T function p.around → Again S own bottom function fr d old p s → is_none (heaps_around s function) ≡ (true && is_empty p.around)
heaps_none S {s = s} None fo f = rw fo
heaps_none S {s = s} (Some n) fo f =
    let row = key_function (row_at s n.at) (f.inside.0 ∙ ap key fo.1.1) in
    rw row (sym fo.0)

module _ (S : Script) {own : ℕ → Type 0} {bottom : List (Live Ident)} {function : Option Node} {fr : Option Frame} {d : ℕ} {old : Lives} {p : Place}
    {s : State} where
  open_layer_again : (b : Bool) (k : ℕ) → eqb p.site.layer 1 ≡ b → Again S own bottom function fr d old p s
      → Again S own bottom function fr d old
      (record { scope = p.scope; around = p.around; site = record { layer = cond b 2 p.site.layer; height = p.site.height + k } }) (open_layer b s)
  unfolding open_layer open_scope
  open_layer_again false k e f =
      record {
        tables = f.tables;
        arguments = f.arguments;
        inside = f.inside;
        captures = f.captures;
        one = f.one;
        live = f.live;
        around = f.around;
        stands = f.stands;
      }
  open_layer_again true k e f =
      let one = eqb-true p.site.layer 1 e in
      record {
        tables = tabled no_part f.tables opens;
        arguments = f.arguments;
        inside = inside-opened function f.inside;
        captures = catch_same refl refl f.captures;
        one = omega arith;
        live = ap (λ (m : ScopeMap Ident). push_layer m) f.live ∙ ap (λ (d : ℕ). in_layer (suc d) (lives_of p.scope bottom)) one;
        around = all_map (λ b a. around_let b one a) p.scope f.around;
        stands = f.stands;
      }
    where
      inside-opened : (o : Option Node) → FunctionIn S.T own o s → FunctionIn S.T own o (open_scope s)
      inside-opened None q = tt
      inside-opened (Some n) q = q

  pub into_let_again : (classes : List ℕ) (cell : Ident → Option Ident) {left : ℕ → Type 0} (after : List Use) (n : Node) (k : ℕ) (xs : List Ident)
      → NumNames k xs → Covers own k (k + length xs)
      → own n.at → ((y : ℕ) → left y → own y) → ((y : ℕ) → left y → k ≤ y → y < k + length xs → ⊥) → LetKept S.T S.C S.A after n xs
      → Closed S.U after xs
      → FunctionOf S.T function p.around → Again S own bottom function fr d old p s → (height : ℕ) → height ≡ p.site.height
      → (open_let n xs height function s).noted.nine ≡ None
      → Reentered classes S cell (let_body (length xs) p) bottom function fr d old left (let_names xs p) p.scope k (length xs) s
      (open_let n xs height function s)
  unfolding open_let
  into_let_again classes cell {left} after n k xs m o i l a kept closed fo f height e nine =
      let t = open_layer (at_bottom s) s in
      let heaps = heaps_around t function in
      let opened : Again S own bottom function fr d old (let_body (length xs) p) t =
      subst (λ (d' : ℕ). Again S own bottom function fr d old (let_body (length xs) p) (open_layer (eqb d' 1) s)) (sym (again-deep S f))
      (open_layer_again (eqb p.site.layer 1) (length xs) refl f) in
      let row : row_at t n.at ≡ Let kept.info = open_row (at_bottom s) s n.at ∙ key_let (row_at s n.at) (f.tables.keys n.at i ∙ ap key kept.is) in
      let before : let_arguments t (row_at t n.at) ≡ list_in S.A kept.info.arguments =
      ap (let_arguments t) row ∙ ap (λ (q : List ListEntry). list_in q kept.info.arguments) opened.arguments in
      let w = heaps_kept S.T S.C S.A S.U after kept.info.arguments 0 xs _ (omega arith) (omega (arith, kept.many)) kept.names closed in
      let N : (open_let n xs height function s).noted.nine ≡ None
      → Reentered classes S cell (let_body (length xs) p) bottom function fr d old left (let_names xs p) p.scope k (length xs) t
      (open_let n xs height function s) =
      rw (e, before) (enter-again LetVar p.site.height heaps (list_in S.A kept.info.arguments) true (let_body (length xs) p)
      (two_deep p.site.layer (eqb p.site.layer 1) refl f.one) classes S cell k xs 0 0 m o l a refl (heaps_none S function fo opened) w opened) in
      record { again = (N nine).again; tells = (N nine).tells; second = λ v. (N nine).second (open_layer_preserves unsaid_steps (at_bottom s) s ∙ v) }

-- Into a lambda: its captures open

caught_of : {C : List ListEntry} {lo hi x : ℕ} {o : Option (Live Capture)} (s : State) → Pending C lo hi s → Caught lo hi s x o → CaughtOf C lo hi x o
caught_of s p (none_caught n) = none_of (λ q a b e. n q a b (ap name_of (p.at q a b) ∙ e))
caught_of s p (one_caught {c = c} a b n d) =
    let e = p.at c.value.row a b in
    one_of a b (ap name_of (sym e) ∙ n) (d ∙ ap (λ (i : ListEntry). i.binder) e)

module _ (S : Script) {own : ℕ → Type 0} {bottom : List (Live Ident)} {function : Option Node} {fr : Option Frame} {d : ℕ} {old : Lives} {p : Place}
    {s : State} (n : Node) (xs : List Ident)
    (lo hi : ℕ) (after : List Use) (kept : LambdaKept S.T S.C S.A lo hi after n xs p.scope) (f : Again S own bottom function fr d old p s)
    (w : FramedIn S.C S.G fr p) (above : Above hi fr)
    (pending : Pending S.C lo hi s) where
  abbrev opened : State
  opened = open_scope (open_captures (Some kept.info) s)

  pub numbers : Numbered lo hi (suc d) s.captures.live (with_captures (push_layer s.captures) s) (open_captures (Some kept.info) s)
  unfolding open_captures
  numbers =
      let e = kept.info.captured_vars in
      let m = f.captures in
      let s₀ = with_captures (push_layer s.captures) s in
      let below = subst (Below (suc d)) (sym m.live) (below_all_lem d m.top old m.layer m.below) in
      let q = numbered-list e (suc d) s.captures.live s₀ (ap suc m.depth) refl below in
      let z : Numbered lo hi (suc d) s.captures.live s₀ (number_list e s₀) =
      subst (λ (h : ℕ). Numbered lo h (suc d) s.captures.live s₀ (number_list e s₀)) kept.to
      (subst (λ (l : ℕ). Numbered l (l + e.length) (suc d) s.captures.live s₀ (number_list e s₀)) kept.from q) in
      record {
        top = z.top;
        depth = z.depth;
        live = z.live;
        layer = z.layer;
        list_entries = z.list_entries;
        outside = z.outside;
        caught = z.caught;
        rows = z.rows;
        arguments = z.arguments;
      }

  opened_offsets : OffsetsIn (Some (frame_of fr n lo hi xs p.scope after)) numbers.top (open_captures (Some kept.info) s).facts.captured
  unfolding open_captures
  opened_offsets =
      new_offsets S n xs lo hi after kept f w above pending (number_list kept.info.captured_vars (with_captures (push_layer s.captures) s)) refl
      numbers.top numbers.live numbers.layer numbers.list_entries
      (λ x. caught_of (with_captures (push_layer s.captures) s) (record { at = pending.at }) (numbers.caught x))

  pub open_outside : (r : ℕ) → Off lo hi r → list_entry_at opened r ≡ list_entry_at s r
  unfolding open_scope
  open_outside r o = numbers.outside r o

  open_layers_again : (own' : ℕ → Type 0) → ((y : ℕ) → own' y → own y) → (own' n.at → ⊥) → own n.at
      → Again S own' bottom (Some n) (Some (frame_of fr n lo hi xs p.scope after)) (suc d) s.captures.live (lambda_body n (length xs) p) opened
  unfolding open_scope
  open_layers_again own' w a i =
      let q = numbers in
      let m = f.captures in
      let side = captures_beside (Some kept.info) s in
      let c : Moves Nowhere s opened = by (open_changes (Some kept.info) s) ⨟ opens in
      let below = subst (Below (suc d)) (sym m.live) (below_all_lem d m.top old m.layer m.below) in
      record {
        tables = tabled (record { written = λ x z. absurd z; kept = w; apart = λ x l z. z }) f.tables c;
        arguments = q.arguments ∙ f.arguments;
        inside = (moves_key c n.at (λ z. z) ∙ f.tables.keys n.at i, a);
        captures = record {
          top = q.top;
          one = omega arith;
          depth = q.depth;
          live = q.live;
          layer = q.layer;
          below = below;
          caught = λ x. caught_of (with_captures (push_layer s.captures) s) (record { at = pending.at }) (q.caught x);
          mutated = λ r l h. (q.list_entries r).mutated ∙ ap (λ (v : ListEntry). v.info.mutated) (pending.at r l h);
          offsets = opened_offsets;
        };
        one = omega arith;
        live = ap (λ (k : Scope). push_layer k.names) side.scope ∙ ap (λ (m : ScopeMap Ident). push_layer m) f.live;
        around = all_map (λ b a. around_lambda b f.one a) p.scope f.around;
        stands = subst (λ (k : Scope). All (Stands S.U own' k.entries) p.scope) (sym side.scope)
            (all_map (λ b k. record { held = k.held; apart = λ z. k.apart (w b.ident.at z) }) p.scope f.stands);
      }

  pub function_at : own n.at → function_in (row_at s n.at) ≡ Some kept.info
  function_at i = ap function_in (key_function (row_at s n.at) (f.tables.keys n.at i ∙ ap key kept.is))

  -- the rows of other lists stay
  pub enter-outside : own n.at → (r : ℕ) → Off lo hi r → list_entry_at (open_lambda n xs s) r ≡ list_entry_at s r
  unfolding open_lambda
  enter-outside i r o =
      subst (λ (v : Option FunctionInformation). list_entry_at (enter_parameters v xs (open_scope (open_captures v s))) r ≡ list_entry_at s r) (sym (function_at i))
      (ap (λ (g : Facts). get_or g.captured r no_list_entry) (parameters_preserves idle_steps (Some kept.info) xs opened) ∙ open_outside r o)

  pub into_lambda_again : (classes : List ℕ) (cell : Ident → Option Ident) {left : ℕ → Type 0} (k : ℕ) → NumNames k xs → Covers own k (k + length xs)
      → own n.at
      → ((y : ℕ) → left y → own y) → ((y : ℕ) → left y → k ≤ y → y < k + length xs → ⊥) → (left n.at → ⊥) → (n.at < k) → Closed S.U after xs
      → (open_lambda n xs s).noted.nine ≡ None
      → Reentered classes S cell (lambda_body n (length xs) p) bottom (Some n) (Some (frame_of fr n lo hi xs p.scope after)) (suc d) s.captures.live left
      (parameters n xs p) p.scope k (length xs) s
      (open_lambda n xs s)
  unfolding open_lambda enter_parameters
  into_lambda_again classes cell {left} k m o i l a b u closed nine =
      let own' : ℕ → Type 0 = λ y. own y × ¬ (y ≡ n.at) in
      let w = heaps_kept S.T S.C S.A S.U after kept.info.arguments 0 xs _ (omega arith) (omega (arith, kept.many)) kept.names closed in
      let start = open_layers_again own' (λ y z. z.0) (λ z. z.1 refl) i in
      let before : list_in opened.facts.arguments kept.info.arguments ≡ list_in S.A kept.info.arguments = ap
      (λ (q : List ListEntry). list_in q kept.info.arguments) start.arguments in
      let N : (open_lambda n xs s).noted.nine ≡ None
      → Reentered classes S cell (lambda_body n (length xs) p) bottom (Some n) (Some (frame_of fr n lo hi xs p.scope after)) (suc d) s.captures.live left
      (parameters n xs p) p.scope k (length xs)
      opened (open_lambda n xs s) =
      subst (λ (v : Option FunctionInformation). (enter_parameters v xs (open_scope (open_captures v s))).noted.nine ≡ None
      → Reentered classes S cell (lambda_body n (length xs) p) bottom (Some n) (Some (frame_of fr n lo hi xs p.scope after)) (suc d) s.captures.live left
      (parameters n xs p) p.scope k (length xs)
      opened (enter_parameters v xs (open_scope (open_captures v s))))
      (sym (function_at i))
      (rw before (enter-again Local 0 _ (list_in S.A kept.info.arguments) false (lambda_body n (length xs) p) (omega (arith, f.one)) classes S cell
      {left = left} k xs 0 0 m
      (λ y c e. (o y c e, λ z. omega arith)) (λ y z. (l y z, λ q. b (subst left q z))) a refl refl w start)) in
      record { again = (N nine).again; tells = (N nine).tells; second = λ v. (N nine).second (open_unsaid (Some kept.info) s ∙ v) }

-- Out of a let

pub close_let_idle : (b : Bool) (n : Node) (xs : List Ident) (height : ℕ) (function : Option Node) (v : LetInformation) (s : State) → row_at s n.at ≡ Let v
    → Idle s (close_let b n xs height function s)
unfolding close_let
close_let_idle b n xs height function v s e =
    subst (λ (r : Row). Idle s (close_layer b (make_let r n (entered xs s) height function (leave_names xs s)))) (sym e)
    (close_layer_preserves idle_steps b (leave_names xs s) ∙ leaving_preserves idle_steps xs s)

-- what holds of the names in the body holds of those around it
pub stands_again : (S : Script) {mid left : ℕ → Type 0} (bs sc : List Binder) → ((x : ℕ) → left x → mid x) → (E F : List Entry) → F ≡ E
    → All (Stands S.U mid E) (reverse_aux bs sc) → All (Stands S.U left F) sc
stands_again S {left = left} bs sc w E F e a =
    subst (λ (E : List Entry). All (Stands S.U left E) sc) (sym e)
    (all_map (λ b k. record { held = k.held; apart = λ l. k.apart (w b.ident.at l) }) sc (all_rest _ bs sc a))

module _ (S : Script) {own mid left : ℕ → Type 0} {bottom : List (Live Ident)} {function : Option Node} {fr : Option Frame} {d : ℕ} {old : Lives} {p : Place}
    {s t : State} (n : Node) (xs : List Ident)
    (q : Place) (bs : List Binder) (f : Again S own bottom function fr d old p s) (parts : Parts mid (Only n.at) left) where
  pub let_left-again : (g : Again S mid bottom function fr d old (in_scope q (reverse_aux bs p.scope)) t) → own n.at → mid n.at → (after : List Use)
      → LetKept S.T S.C S.A after n xs
      → (b : Bool) (height : ℕ) (fn : Option Node) → b ≡ at_bottom s → (open_let n xs height fn s).noted.nine ≡ None
      → names t ≡ names (open_let n xs height fn s) → Again S left bottom function fr d old p (close_let b n xs height fn t)
  let_left-again g o i after kept b height fn opened e same =
      let en = rw (← opened) at (open_let_lem n xs height fn s (again_layered S f).one e) in
      let a = let_aside b n xs height fn t in
      let row = key_let (row_at t n.at) (g.tables.keys n.at i ∙ ap key kept.is) in
      let lists = close_let_idle b n xs height fn kept.info t row in
      let c = out_of_let {own = Only n.at} b n xs height fn t refl in
      record {
        tables = tabled parts g.tables c;
        arguments = ap (λ (h : Facts). h.arguments) lists ∙ g.arguments;
        inside = function_still S.T function parts c g.inside;
        captures = catch_same a.captures (ap (λ (h : Facts). h.captured) lists) g.captures;
        one = f.one;
        live = close_let_lem b n xs height fn (names s) t (again_layered S f) en.anew (same ∙ en.after) ∙ f.live;
        around = f.around;
        stands = stands_again S bs p.scope parts.kept t.scope.entries _ a.entries g.stands;
      }
