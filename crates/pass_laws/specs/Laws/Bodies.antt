-- A fresh visit goes into the body of a let or a lambda, and out of it.
use Rattle.std.specs.Prelude.{ℕ, suc, ◌+◌, ◌-◌, ◌≤◌, ◌<◌, Bool, cond, ◌≡◌, length, eqb, ltb, Option, None}
use mathlib.Core.List.{List, [], ◌∷◌, reverse_aux}
use Rattle.std.proofs.Math.Bool.{true, false}
use Rattle.std.proofs.Common.{true≢false, sym, ◌∙◌, arith}
use Rattle.std.proofs.Math.Path.{refl, ap, subst}
use borrow.Author.Tests.{eqb-true, eqb-false, lt-ltb}
use Rattle.tree.specs.Tree.{Ident, Node, Tree, NumNames}
use Rattle.tree.specs.Accepted.{All}
use Rattle.scope_map.specs.ScopeMap.{ScopeMap, Live, push_layer, pop_layer, below_layer}
use Rattle.scope_map.specs.ScopeMap as map
use Rattle.semantic.specs.declared.IdentifierStatus.TheVariants.{Local, LetVar}
use Rattle.semantic.specs.declared.FunctionInformation.{FunctionInformation}
use Rattle.r7rs.specs.Binding.{Binder, Place, Use, lambda_body, let_body, parameters, let_names}
use Rattle.pass.specs.State.{Entry, Capture, Scope, State, with_names, row_at, entry_at}
use Rattle.pass.specs.Lambda.{function_in, open_captures, open_scope, enter_parameters, open_lambda, close_scope, close_captures, close_lambda, let_arguments, heaps_around, open_layer, close_layer, at_bottom, open_let, leave_names, entered, close_let}
use Rattle.pass_laws.specs.Laws.Changes.{Steps, captures, quiet}
use Rattle.pass_laws.specs.Laws.Moves.{by, opens, ◌⨟◌, out_of_let, out_of_lambda}
use Rattle.pass_laws.specs.Laws.Scopes.{Any, last_changes, make_changes, lambda_ends}
use Rattle.pass_laws.specs.Laws.Ranges.{Covers}
use Rattle.pass_laws.specs.Laws.Leaves.{names, in_layer, open_let_lem, close_let_lem, open_lambda_lem, close_lambda_lem}
use Rattle.pass_laws.specs.Laws.Finds.{lives_of, Around, Stands, Finds, all_map, layer_most, layered, deep}
use Rattle.pass_laws.specs.Laws.Onward.{Parts, untouched}
use Rattle.pass_laws.specs.Laws.Reads.{Only}
use Rattle.pass_laws.specs.Laws.Enters.{in_scope, Entered, enter-all}

-- Into a body

abbrev pub Nowhere : ℕ → Type 0
Nowhere x = ⊥

pub no_part : {own : ℕ → Type 0} → Parts own Nowhere own
no_part = record { written = λ x o. absurd o; kept = λ x o. o; apart = λ x o n. n }

-- the same at another height
pub at_height : {own : ℕ → Type 0} {bottom : List (Live Ident)} {before : List Use} {p : Place} {s : State} (h : ℕ) → Finds own bottom before p s
    → Finds own bottom before (record { scope = p.scope; around = p.around; site = record { layer = p.site.layer; height = h } }) s
at_height h f = record { tables = f.tables; unused = f.unused; captures = f.captures; one = f.one; live = f.live; around = f.around; stands = f.stands }

-- the names around a lambda are outside its body
pub around_lambda : {layer i : ℕ} {lambdas : List ℕ} (b : Binder) → 1 ≤ layer → Around layer lambdas b → Around (suc layer) (i ∷ lambdas) b
around_lambda {layer} {i} {lambdas} b h a =
    let inside = lt-ltb (length b.around) (suc (length lambdas)) (omega (arith, a.most)) in
    record {
      above = a.above;
      most = omega (arith, a.most);
      own = λ e. absurd (true≢false (sym inside ∙ e));
      outer = λ e. omega (arith, layer_most layer h a);
    }

-- none is around a let at the bottom
pub around_let : {layer : ℕ} {lambdas : List ℕ} (b : Binder) → layer ≡ 1 → Around layer lambdas b → Around 2 lambdas b
around_let {layer} b e a = absurd (omega (arith, a.above, layer_most layer (omega arith) a))

pub open_row : (b : Bool) (s : State) (i : ℕ) → row_at (open_layer b s) i ≡ row_at s i
unfolding open_layer open_scope
open_row true s i = refl
open_row false s i = refl

pub two_deep : (d : ℕ) (b : Bool) → eqb d 1 ≡ b → 1 ≤ d → 2 ≤ cond b 2 d
two_deep d true e h = omega arith
two_deep d false e h = let q : ¬ (d ≡ 1) = eqb-false d 1 e in omega arith

module _ {own : ℕ → Type 0} {bottom : List (Live Ident)} {before : List Use} {p : Place} {s : State} where
  open_layers : (n : Node) (k : ℕ) → Finds own bottom before p s → Finds own bottom before (lambda_body n k p) (open_scope (open_captures None s))
  unfolding open_scope open_captures
  open_layers n k f =
      record {
        tables = untouched no_part f.tables (by (captures tt _) ⨟ opens);
        unused = f.unused;
        captures = f.captures;
        one = omega arith;
        live = ap (λ (m : ScopeMap Ident). push_layer m) f.live;
        around = all_map (λ b a. around_lambda b f.one a) p.scope f.around;
        stands = f.stands;
      }

  open_layer_lem : (b : Bool) (k : ℕ) → eqb p.site.layer 1 ≡ b → Finds own bottom before p s
      → Finds own bottom before
      (record { scope = p.scope; around = p.around; site = record { layer = cond b 2 p.site.layer; height = p.site.height + k } }) (open_layer b s)
  unfolding open_layer open_scope
  open_layer_lem false k e f = at_height (p.site.height + k) f
  open_layer_lem true k e f =
      let one = eqb-true p.site.layer 1 e in
      record {
        tables = untouched no_part f.tables opens;
        unused = f.unused;
        captures = f.captures;
        one = omega arith;
        live = ap (λ (m : ScopeMap Ident). push_layer m) f.live ∙ ap (λ (d : ℕ). in_layer (suc d) (lives_of p.scope bottom)) one;
        around = all_map (λ b a. around_let b one a) p.scope f.around;
        stands = f.stands;
      }

  -- a fresh let and a fresh lambda find no fact of their own
  module _ (classes : List ℕ) {left : ℕ → Type 0} (n : Node) (k : ℕ) (xs : List Ident) (m : NumNames k xs) (o : Covers own k (k + length xs)) (i : own n.at)
      (l : (y : ℕ) → left y → own y) (a : (y : ℕ) → left y → k ≤ y → y < k + length xs → ⊥) (f : Finds own bottom before p s) where
    pub into_let : (height : ℕ) → height ≡ p.site.height → (function : Option Node) → (open_let n xs height function s).noted.nine ≡ None
        → Entered classes (let_body (length xs) p) bottom before left (let_names xs p) p.scope k (length xs) (open_let n xs height function s)
    unfolding open_let
    into_let height e function =
        let t = open_layer (at_bottom s) s in
        let heaps = heaps_around t function in
        let opened : Finds own bottom before (let_body (length xs) p) t =
        subst (λ (d : ℕ). Finds own bottom before (let_body (length xs) p) (open_layer (eqb d 1) s)) (sym (deep f)) (open_layer_lem (eqb p.site.layer 1) (length xs) refl f) in
        let fresh : let_arguments t (row_at t n.at) ≡ [] = ap (let_arguments t) (open_row (at_bottom s) s n.at ∙ f.tables.blank n.at i) in
        rw (e, fresh) (enter-all LetVar p.site.height heaps true (let_body (length xs) p) (two_deep p.site.layer (eqb p.site.layer 1) refl f.one) classes k xs 0 0 m o l a refl opened)

    pub into_lambda : (open_lambda n xs s).noted.nine ≡ None
        → Entered classes (lambda_body n (length xs) p) bottom before left (parameters n xs p) p.scope k (length xs) (open_lambda n xs s)
    unfolding open_lambda enter_parameters
    into_lambda =
        subst (λ (v : Option FunctionInformation). (enter_parameters v xs (open_scope (open_captures v s))).noted.nine ≡ None
        → Entered classes (lambda_body n (length xs) p) bottom before left (parameters n xs p) p.scope k (length xs) (enter_parameters v xs (open_scope (open_captures v s))))
        (sym (ap function_in (f.tables.blank n.at i)))
        (enter-all Local 0 None false (lambda_body n (length xs) p) (omega (arith, f.one)) classes k xs 0 0 m o l a refl (open_layers n (length xs) f))

-- Out of a body: entries stay, and captures but for their layer

pub record Aside (s t : State) : Type 0 where
  pub entries : t.scope.entries ≡ s.scope.entries
  pub captures : t.captures ≡ s.captures

aside : {s t : State} → Steps ⊥ Any s t → Aside s t
aside c = let q = quiet c in record { entries = ap (λ (k : Scope). k.entries) q.scope; captures = q.captures }

then : {s t u : State} → Aside s t → Aside t u → Aside s u
then a b = record { entries = b.entries ∙ a.entries; captures = b.captures ∙ a.captures }

names_aside : (xs : List Ident) (s : State) → Aside s (leave_names xs s)
unfolding leave_names
names_aside [] s = record { entries = refl; captures = refl }
names_aside (x ∷ xs) s =
    let t = with_names (map.remove x.name (names s)) s in
    let removed : Aside s t = record { entries = refl; captures = refl } in
    then (then removed (aside (last_changes (entry_at s x.at).last_used t))) (names_aside xs _)

close_aside : (b : Bool) (s : State) → Aside s (close_layer b s)
unfolding close_layer close_scope
close_aside true s = record { entries = refl; captures = refl }
close_aside false s = record { entries = refl; captures = refl }

pub let_aside : (b : Bool) (n : Node) (xs : List Ident) (height : ℕ) (function : Option Node) (s : State) → Aside s (close_let b n xs height function s)
unfolding close_let
let_aside b n xs height function s =
    then (then (names_aside xs s) (aside (make_changes (row_at s n.at) n (entered xs s) height function (leave_names xs s) tt))) (close_aside b _)

pop_empty : {A : Type 0} (m : ScopeMap A) → m.live ≡ [] → (pop_layer m).live ≡ []
unfolding below_layer
pop_empty {A} m e = go (ltb 1 m.depth)
  where
    go : (b : Bool) → (cond b (record { depth = m.depth - 1; live = below_layer m.depth m.live }) m).live ≡ []
    go true = ap (below_layer m.depth) e
    go false = e

-- what holds of the names in the body holds of those around it
pub all_rest : (P : Binder → Type 0) (bs sc : List Binder) → All P (reverse_aux bs sc) → All P sc
all_rest P [] sc a = a
all_rest P (b ∷ bs) sc a = (all_rest P bs (b ∷ sc) a).1

module _ {own mid left : ℕ → Type 0} {bottom : List (Live Ident)} {before after : List Use} {p : Place} {s t : State} (n : Node) (xs : List Ident) (q : Place) (bs : List Binder)
    (f : Finds own bottom before p s) (g : Finds mid bottom after (in_scope q (reverse_aux bs p.scope)) t) (parts : Parts mid (Only n.at) left) where
  stands_around : (E : List Entry) → E ≡ t.scope.entries → All (Stands left E after) p.scope
  stands_around E e =
      subst (λ (E : List Entry). All (Stands left E after) p.scope) (sym e)
      (all_map (λ b k. record { held = k.held; apart = λ l. k.apart (parts.kept b.ident.at l) }) p.scope (all_rest _ bs p.scope g.stands))

  pub let_left : (b : Bool) (height : ℕ) (function : Option Node) → b ≡ at_bottom s → (open_let n xs height function s).noted.nine ≡ None
      → names t ≡ names (open_let n xs height function s) → Finds left bottom after p (close_let b n xs height function t)
  let_left b height function bottom e same =
      let en = rw (← bottom) at (open_let_lem n xs height function s (layered f).one e) in
      let a = let_aside b n xs height function t in
      record {
        tables = untouched parts g.tables (out_of_let b n xs height function t refl);
        unused = λ y l. g.unused y (parts.kept y l);
        captures = ap (λ (m : ScopeMap Capture). m.live) a.captures ∙ g.captures;
        one = f.one;
        live = close_let_lem b n xs height function (names s) t (layered f) en.anew (same ∙ en.after) ∙ f.live;
        around = f.around;
        stands = stands_around _ a.entries;
      }

  pub lambda_left : (b : Tree) (escapes : Bool) → (open_lambda n xs s).noted.nine ≡ None → names t ≡ names (open_lambda n xs s) → Finds left bottom after p (close_lambda n xs b escapes t)
  unfolding close_scope close_captures
  lambda_left b escapes e same =
      let en = open_lambda_lem n xs s (layered f).one e in
      let a = quiet (lambda_ends {own = Any} n xs b escapes t tt) in
      record {
        tables = untouched parts g.tables (out_of_lambda n xs b escapes t refl);
        unused = λ y l. g.unused y (parts.kept y l);
        captures = ap (λ (m : ScopeMap Capture). m.live) a.captures ∙ pop_empty t.captures g.captures;
        one = f.one;
        live = close_lambda_lem n xs b escapes (names s) t (layered f) (same ∙ en.after) ∙ f.live;
        around = f.around;
        stands = stands_around _ (ap (λ (k : Scope). k.entries) a.scope);
      }
