-- The list of a fresh lambda that ends has as many entries as the walk counts.
use Rattle.std.specs.Prelude.{ℕ, suc, ◌+◌, ◌≤◌, Bool, true, cond, not, ◌&&◌, ◌||◌, ◌≡◌, eqb, ltb, Option, None, Some}
use Rattle.std.proofs.lemmas.Option.{none-some}
use mathlib.Core.List.{List, [], ◌∷◌, map, reverse_aux}
use Rattle.std.proofs.Math.Bool.{false}
use Rattle.std.proofs.Math.Path.{refl, ap}
use Rattle.std.proofs.Common.{sym, ◌∙◌, arith, lt-ltb, le-ltb, eq-eqb, ne_eqb}
use Rattle.std.proofs.lemmas.Bool.{eqb-false}
use Rattle.std.proofs.Math.ListN.{length}
use Rattle.tree.specs.Tree.{Ident, Node, Tree, bit}
use Rattle.tree.specs.Check.{member}
use Rattle.tree.specs.Accepted.{All}
use Rattle.scope_map.specs.ScopeMap.{ScopeMap, Live, get_in, newest_layer}
use Rattle.semantic.specs.Rows.{Blank, ListEntry}
use Rattle.semantic.specs.declared.FunctionInformation.{FunctionInformation}
use Rattle.pass.specs.State.{Facts, Capture, State, with_facts, entry_at, row_at, binder_in, newest, list_entry_of, or_kept, note_ten}
use Rattle.pass.specs.Lists.{add_captured, captured_in, captured_vars, sort_by_id, captured_most, store_captured}
use Rattle.pass.specs.Lambda.{list_entries_of, function_in, name_in, make_function, function_ends, close_scope, close_captures, close_lambda}
use Rattle.pass_laws.specs.Laws.Layers.{or-false, live_at}
use Rattle.pass_laws.specs.Laws.Leaves.{names}
use Rattle.pass_laws.specs.Laws.Order.{sorted_length}
use Rattle.pass_laws.specs.Laws.Says.{used_inside}
use Rattle.pass_laws.specs.Laws.Finds.{lives_of, Around, Stands, Finds, all_map, all_zip, live_in, search_for}
use Rattle.pass_laws.specs.Laws.Bodies.{all_rest}
use Rattle.pass_laws.specs.Laws.Preserved.{lasts_preserves, ended_preserves}
use Rattle.r7rs.specs.Binding.{Binder, Place, Mention, Use, binders, find}
use Rattle.execution.specs.References.{is_inner_of, any}
use Rattle.execution.specs.Acceptance.{has_name, list_length}
use Rattle.execution.proofs.Laws.Exact.Seen.{Seen}
use Rattle.execution.proofs.Laws.Exact.Plain.{Plain, plain, ◌then◌, plain_steps, arguments_plain, insert-plain}

-- The parameters' names

pub member_name : (x : ℕ) (xs : List Ident) → member x (map name_in xs) ≡ has_name x xs
member_name x [] = refl
member_name x (y ∷ ys) = ap (λ (b : Bool). eqb x y.name || b) (member_name x ys)

-- they are left out
module _ (ps : List ℕ) (s : State) where
  pub skipped : (e : Live Ident) (l : List (Live Ident)) → ltb 1 e.layer && not (member e.name ps) ≡ false → captured_in ps s (e ∷ l) ≡ captured_in ps s l
  unfolding captured_in
  skipped e l q = rw q

  named_out : (d : ℕ) (x : Ident) (l : List (Live Ident)) → member x.name ps ≡ true → captured_in ps s (live_at d x ∷ l) ≡ captured_in ps s l
  named_out d x l e = skipped (live_at d x) l (go (ltb 1 d))
    where
      go : (b : Bool) → b && not (member x.name ps) ≡ false
      go true = rw e
      go false = refl

  pub parameters_out : (is_let : Bool) (base : ℕ) (q : Place) (j : ℕ) (xs : List Ident) (sc : List Binder) (bottom : List (Live Ident)) → All (λ x. member x.name ps ≡ true) xs
      → captured_in ps s (lives_of (reverse_aux (binders is_let base q j xs) sc) bottom) ≡ captured_in ps s (lives_of sc bottom)
  unfolding binders
  parameters_out is_let base q j [] sc bottom m = refl
  parameters_out is_let base q j (x ∷ xs) sc bottom m = parameters_out is_let base q (suc j) xs _ bottom m.1 ∙ named_out q.site.layer x (lives_of sc bottom) m.0

  pub bottom_out : (l : List (Live Ident)) → All (λ (e : Live Ident). e.layer ≤ 1) l → captured_in ps s l ≡ []
  unfolding captured_in
  bottom_out [] g = refl
  bottom_out (e ∷ l) g = rw (le-ltb 1 e.layer g.0) (bottom_out l g.1)

pub all_named : (ps : List ℕ) (xs : List Ident) → ((x : ℕ) → has_name x xs ≡ true → member x ps ≡ true) → All (λ x. member x.name ps ≡ true) xs
all_named ps [] h = tt
all_named ps (x ∷ xs) h =
    (h x.name (rw (eq-eqb x.name x.name refl)), all_named ps xs (λ y e. h y (go (eqb y x.name) e)))
  where
    go : {c : Bool} (b : Bool) → c ≡ true → b || c ≡ true
    go true e = refl
    go false e = e

-- What a name in scope is found as

pub record Found (P : Binder → Type 0) (sc : List Binder) (c : Binder) : Type 0 where
  pub binder : Binder
  pub is : find sc c.ident.name ≡ Some binder
  pub holds : P binder

found_more : {P : Binder → Type 0} (b : Binder) (sc : List Binder) (c : Binder) → P b → Found P sc c → Found P (b ∷ sc) c
found_more {P} b sc c p f = go (eqb b.ident.name c.ident.name) refl
  where
    go : (q : Bool) → eqb b.ident.name c.ident.name ≡ q → Found P (b ∷ sc) c
    go true q = record { binder = b; is = rw q; holds = p }
    go false q = record { binder = f.binder; is = rw q f.is; holds = f.holds }

pub all_found : (P : Binder → Type 0) (sc : List Binder) → All P sc → All (Found P sc) sc
all_found P [] a = tt
all_found P (b ∷ sc) a =
    (record { binder = b; is = rw (eq-eqb b.ident.name b.ident.name refl); holds = a.0 }, all_map (λ c f. found_more b sc c a.0 f) sc (all_found P sc a.1))

-- past the parameters
pub find_past : (is_let : Bool) (base : ℕ) (q : Place) (j : ℕ) (xs : List Ident) (sc : List Binder) (x : ℕ) → has_name x xs ≡ false
    → find (reverse_aux (binders is_let base q j xs) sc) x ≡ find sc x
unfolding binders
find_past is_let base q j [] sc x h = refl
find_past is_let base q j (y ∷ ys) sc x h =
    let both = or-false (eqb x y.name) (has_name x ys) h in
    find_past is_let base q (suc j) ys _ x both.1 ∙ rw (ne_eqb y.name x (λ e. eqb-false x y.name both.0 (sym e)))

-- The count

module _ {own : ℕ → Type 0} {bottom : List (Live Ident)} {before : List Use} {seen : List Mention} {s : State} (base : ℕ) (q : Place) (xs : List Ident) (sc : List Binder)
    (f : Finds own bottom before (record { scope = reverse_aux (binders false base q 0 xs) sc; around = q.around; site = q.site }) s)
    (k : Seen own before seen (reverse_aux (binders false base q 0 xs) sc)) where
  abbrev In : Binder → Type 0
  In b = (2 ≤ b.home.layer) × ((entry_at s b.ident.at).captured ≡ any (is_inner_of b) seen)

  abbrev Held : Binder → Type 0
  Held b = Stands own s.scope.entries before b × (used_inside b.ident.at before ≡ any (is_inner_of b) seen)

  all_in : All In sc
  all_in =
      let inner = reverse_aux (binders false base q 0 xs) sc in
      let held = all_zip _ Held inner f.around (all_zip _ _ inner f.stands k.said) in
      all_rest In (binders false base q 0 xs) sc
      (all_map {P = λ b. Around q.site.layer q.around b × Held b} {Q = In} (λ b h. (h.0.above, h.1.0.held.captured ∙ h.1.1)) inner held)

  abbrev ps : List ℕ
  ps = map name_in xs

  added-length : (h c : Bool) (o : Option Ident) (b : Binder) (l : List ListEntry) → (h ≡ false → o ≡ Some b.ident) → (entry_at s b.ident.at).captured ≡ c
      → length (add_captured (not h) s o l) ≡ bit (not h && c) + length l
  added-length true c o b l g i = omega arith
  added-length false c o b l g i =
      let e = entry_at s b.ident.at in
      rw (g refl) (go e.captured (list_entry_of b.ident e) ∙ ap (λ (d : Bool). bit d + length l) i)
    where
      go : (d : Bool) (x : ListEntry) → length (cond d (x ∷ l) l) ≡ bit d + length l
      go true x = omega arith
      go false x = omega arith

  newest_of : (c b : Binder) → find sc c.ident.name ≡ Some b → has_name c.ident.name xs ≡ false → newest s c.ident.name ≡ Some b.ident
  newest_of c b e h =
      ap binder_in
      ((search_for f c.ident.name).found
      ∙ ap (λ (o : Option Binder). live_in o (get_in bottom c.ident.name)) (find_past false base q 0 xs sc c.ident.name h ∙ e))

  count : (rest : List Binder) → All (λ c. In c × Found In sc c) rest → length (captured_in ps s (lives_of rest bottom)) ≡ list_length seen xs sc rest
  unfolding captured_in list_length
  count [] a = ap length (bottom_out ps s bottom (all_map (λ e g. g.layer) bottom f.tables.globals))
  count (c ∷ rest) a =
      let g = a.0.1 in
      let b = g.binder in
      let l = captured_in ps s (lives_of rest bottom) in
      let here = added-length (has_name c.ident.name xs) (any (is_inner_of b) seen) (newest s c.ident.name) b l (newest_of c b g.is) g.holds.1 in
      rw (lt-ltb 1 c.home.layer a.0.0.0, member_name c.ident.name xs, g.is) (here ∙ ap (λ (n : ℕ). bit (not (has_name c.ident.name xs) && any (is_inner_of b) seen) + n) (count rest a.1))

  pub captured_length : length (captured_vars ps s) ≡ list_length seen xs sc sc
  unfolding captured_vars
  captured_length =
      ap (λ (m : ScopeMap Ident). length (captured_in ps s m.live)) f.live
      ∙ ap length (parameters_out ps s false base q 0 xs sc bottom (all_named ps xs (λ x e. member_name x xs ∙ e)))
      ∙ count sc (all_zip _ _ sc all_in (all_found In sc all_in))

-- A fresh lambda ends

abbrev pub top_of : State → ℕ
top_of s = s.facts.captured_top

pub record Counted (i : ℕ) (l : List ListEntry) (s t : State) : Type 0 where
  pub top : top_of t ≡ top_of s + length l
  pub ten : t.noted.ten ≡ cond (ltb captured_most (top_of s + length l)) (or_kept s.noted.ten i) s.noted.ten

module _ (i : ℕ) (f : Facts) (s : State) where
  noted-top : (b : Bool) → top_of (cond b (note_ten i (with_facts f s)) (with_facts f s)) ≡ f.captured_top
  noted-top true = refl
  noted-top false = refl

  noted_ten : (b : Bool) → (cond b (note_ten i (with_facts f s)) (with_facts f s)).noted.ten ≡ cond b (or_kept s.noted.ten i) s.noted.ten
  noted_ten true = refl
  noted_ten false = refl

stored : (i : ℕ) (l : List ListEntry) (s : State) → Counted i l s (store_captured i l s)
unfolding store_captured
stored i l s =
    let full = ltb captured_most (top_of s + length l) in
    record { top = noted-top i _ s full; ten = noted_ten i _ s full }

-- between plain steps, and for a list of the same length
around : (i : ℕ) {l : List ListEntry} {s t u v : State} → Plain s t → Counted i l t u → Plain u v → (k : List ListEntry) → length l ≡ length k → Counted i k s v
around i {l} {s} {t} p c q k e =
    let same : top_of t + length l ≡ top_of s + length k = omega (arith, p.top, e) in
    record {
      top = q.top ∙ c.top ∙ same;
      ten = q.ten ∙ c.ten ∙ ap (λ (n : ℕ). cond (ltb captured_most n) (or_kept t.noted.ten i) t.noted.ten) same
          ∙ ap (λ (o : Option ℕ). cond (ltb captured_most (top_of s + length k)) (or_kept o i) o) p.ten;
    }

function_counts : (o : Option FunctionInformation) (n : Node) (b : Tree) (escapes : Bool) (now arguments : List ListEntry) (m : ScopeMap Capture) (s : State) → o ≡ None
    → Counted n.at now s (function_ends o n b escapes now arguments m s)
unfolding make_function
function_counts None n b escapes now arguments m s e =
    around n.at plain (stored n.at (sort_by_id now) s) (arguments_plain arguments _ then insert-plain n.at _ _) now (sorted_length now)
function_counts (Some v) n b escapes now arguments m s e = absurd (none-some v (sym e))

pub closed-plain : (s : State) → Plain s (close_captures (close_scope s))
unfolding close_captures close_scope
closed-plain s = record { top = refl; ten = refl }

pub lambda_counts : (n : Node) (xs : List Ident) (b : Tree) (escapes : Bool) (s : State) → row_at s n.at ≡ Blank
    → Counted n.at (captured_vars (map name_in xs) s) s (close_lambda n xs b escapes s)
unfolding close_lambda
lambda_counts n xs b escapes s e =
    let now = captured_vars (map name_in xs) s in
    around n.at (closed-plain s then lasts_preserves plain_steps (newest_layer (names s)) _ then ended_preserves plain_steps xs _)
    (function_counts (function_in (row_at s n.at)) n b escapes now (list_entries_of s (newest_layer (names s))) s.captures _ (ap function_in e)) plain now refl
