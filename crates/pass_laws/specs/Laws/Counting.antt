-- The uses that a fresh visit counts, form by form: a name read or set, names that enter, a lambda, a let and a call at its end.
use Prim.Native.Nat.{ℕ, suc, ◌+◌, ◌≤◌, ◌<◌}
use mathlib.Core.List.{List, [], ◌∷◌, reverse_aux}
use Rattle.std.specs.Prelude.{Bool, true, false, cond, ◌&&◌, ◌≡◌, length, get_or, ltb, Option, None, Some}
use Rattle.std.proofs.Math.Path.{refl, ap, subst}
use Rattle.std.proofs.Common.{sym, ◌∙◌, arith}
use Rattle.tree.specs.Tree.{Ident, Node, Tree, Trees, ident, const, if, letin, define, lambda, sequence, call, set!, nil, cons, NumNames}
use Rattle.tree.specs.Core.{core, cores}
use Rattle.tree.specs.Site.{home_at}
use Rattle.tree.specs.Accepted.{All}
use Rattle.scope_map.specs.ScopeMap.{ScopeMap, Live, has_at_top, newest_layer}
use Rattle.semantic.specs.Information.{new, mark_builtin, mark_required, mark_last_usage, mark_shadowed}
use Rattle.semantic.specs.Rows.{Row, Blank, Variable, Function, CallSite, Let, ListEntry}
use Rattle.semantic.specs.declared.IdentifierStatus.{IdentifierStatus}
use Rattle.semantic.specs.declared.IdentifierStatus.TheVariants.{Local, LetVar}
use Rattle.semantic.specs.declared.SemanticInformation.{SemanticInformation}
use Rattle.semantic.specs.declared.FunctionInformation.{FunctionInformation}
use Rattle.r7rs.specs.Binding.{Binder, Place, Use, binders, find}
use Rattle.pass.specs.State.{Entry, Capture, State, insert, amend, row_at, put_entry, entry_at, top_level_entry, local_entry, depth, newest}
use Rattle.pass.specs.Read.{span, note_live, enter, is_builtin, is_required, define_fact, enter_define, shadow_if_builtin, shadow, enter_top_level_value, read, mutate}
use Rattle.pass.specs.Lists.{captured_most, store_captured, store_arguments, rewrite_captured}
use Rattle.pass.specs.Lambda.{enter_name, enter_names, function_in, open_captures, open_scope, enter_parameters, open_lambda, mark_last, mark_lasts, close_scope, close_captures, ended_fact, end_parameters, make_function, amend_function, function_ends, close_lambda, let_arguments, heaps_around, open_layer, close_layer, at_bottom, open_let, leave_names, entered, make_let, close_let}
use Rattle.pass.specs.Visit.{Flags, last_use_of, same_ident, mark_argument, mark_arguments, call_fact, mark_if_tail, close_call, is_self, clear_context}
use Rattle.pass_laws.specs.Laws.All.{all_zip}
use Rattle.pass_laws.specs.Laws.Ranges.{Covers}
use Rattle.pass_laws.specs.Laws.Leaves.{names}
use Rattle.pass_laws.specs.Laws.Says.{cell_of}
use Rattle.pass_laws.specs.Laws.Finds.{entry_in, Around, Stands, Finds}
use Rattle.pass_laws.specs.Laws.Onward.{Parts}
use Rattle.pass_laws.specs.Laws.Reads.{Only, read_at}
use Rattle.pass_laws.specs.Laws.Sets.{set_at, mutate_finds}
use Rattle.pass_laws.specs.Laws.Enters.{in_scope, enter_entries}
use Rattle.pass_laws.specs.Laws.Bodies.{open_row, all_rest}
use Rattle.pass_laws.specs.Laws.Counts.{credit, Told, told-insert, told-amend, Counts, counts_fewer, counts_quietly, Quietly, quietly_then, untouched_rows, insert_quietly, mark_quietly, put_other, put-held, ahead, level, read_counts, mutate_counts, marked}

-- A name is read, or set

module _ (classes : List ℕ) {own left : ℕ → Type 0} {bottom : List (Live Ident)} {before : List Use} {p : Place} {n : ℕ → ℕ} {s : State} (x : Ident)
    (parts : Parts own (Only x.at) left) (o : own x.at) (f : Finds own bottom before p s) (c : Counts own n s) where
  pub reads-count : Counts left (λ y. n y + credit (cell_of bottom) (read_at x p) (find p.scope x.name) y) (read classes x s)
  reads-count = read_counts classes x false parts o f c (level n (find p.scope x.name))

  pub sets_count : Counts left (λ y. n y + credit (cell_of bottom) (set_at x p) (find p.scope x.name) y) (read classes x (mutate x.name s))
  sets_count = read_counts classes x true parts o (mutate_finds x f) (mutate_counts x.name f c) (ahead n (find p.scope x.name))

-- Names enter

enter-rows : (x : Ident) (e : Entry) (s : State) → (enter x e s).facts.rows ≡ s.facts.rows
unfolding enter put_entry
enter-rows x e s = go (ltb 1 (depth s) && has_at_top (names s) x.name)
  where
    go : (b : Bool) → (note_live b x.at s).facts.rows ≡ s.facts.rows
    go true = refl
    go false = refl

-- with no use yet
new_counts : {own left : ℕ → Type 0} {n : ℕ → ℕ} {s : State} (x : Ident) (e : Entry) (v : SemanticInformation) → Parts own (Only x.at) left → own x.at → e.usage_count ≡ 0
    → v.usage_count ≡ 0 → Counts own n s → Counts left n (insert x.at (Variable v) (enter x e s))
unfolding insert
new_counts {n = n} {s} x e v parts o z w c =
    let t = enter x e s in
    let E = enter_entries x e s in
    record {
      told = λ y. told-insert x.at (Variable v) t (n y) y (λ q. w ∙ sym (ap n q ∙ c.unused x.at o))
          (λ d. subst (λ (T : List Row). Told (n y) (get_or T y Blank)) (sym (enter-rows x e s)) (c.told y));
      entries = λ y. rw E (put-held s.scope.entries x.at e (n y) y (λ q l. z ∙ sym (ap n q ∙ c.unused x.at o)) (λ d. c.entries y));
      unentered = λ y l. ap (λ (k : List Entry). (entry_in k y).depth) E ∙ ap (λ (k : Entry). k.depth) (put_other s.scope.entries x.at e y (parts.apart y l)) ∙ c.unentered y (parts.kept y l);
      unused = λ y l. c.unused y (parts.kept y l);
    }

module _ (kind : IdentifierStatus) (base : ℕ) (heaps : Option ℕ) where
  pub names-count : {own left : ℕ → Type 0} {n : ℕ → ℕ} {s : State} (k : ℕ) (xs : List Ident) (j h : ℕ) → NumNames k xs → Covers own k (k + length xs)
      → ((y : ℕ) → left y → own y) → ((y : ℕ) → left y → k ≤ y → y < k + length xs → ⊥) → Counts own n s → Counts left n (enter_names kind base heaps [] xs j h s)
  unfolding enter_names enter_name NumNames
  names-count k [] j h m o l a c = counts_fewer l c
  names-count {own} {left} {s = s} k (x ∷ xs) j h m o l a c =
      let here = o x.at (omega arith) (omega arith) in
      let next : ℕ → Type 0 = λ y. own y × ¬ (y ≡ x.at) in
      let parts : Parts own (Only x.at) next = record { written = λ y q. subst own (sym q) here; kept = λ y z. z.0; apart = λ y z q. z.1 q } in
      names-count {own = next} {left = left} (k + 1) xs (suc j) h m.1 (λ y u v. (o y (omega arith) (omega arith), λ q. omega arith))
      (λ y z. (l y z, λ q. a y z (omega arith) (omega arith))) (λ y z u v. a y z (omega arith) (omega arith))
      (new_counts x (local_entry (base + j) (depth s)) (new kind (depth s) (span x)) parts here refl refl c)

-- Into a body

open_rows : (b : Bool) (s : State) → Quietly s (open_layer b s)
unfolding open_layer open_scope
open_rows true s = untouched_rows refl refl
open_rows false s = untouched_rows refl refl

module _ {own left : ℕ → Type 0} {bottom : List (Live Ident)} {before : List Use} {p : Place} {n : ℕ → ℕ} {s : State} (m : Node) (k : ℕ) (xs : List Ident) (num : NumNames k xs)
    (o : Covers own k (k + length xs)) (i : own m.at) (l : (y : ℕ) → left y → own y) (a : (y : ℕ) → left y → k ≤ y → y < k + length xs → ⊥) (f : Finds own bottom before p s)
    (c : Counts own n s) where
  pub let_counts : (height : ℕ) (function : Option Node) → Counts left n (open_let m xs height function s)
  unfolding open_let
  let_counts height function =
      let t = open_layer (at_bottom s) s in
      let fresh : let_arguments t (row_at t m.at) ≡ [] = ap (let_arguments t) (open_row (at_bottom s) s m.at ∙ f.tables.blank m.at i) in
      rw fresh (names-count LetVar height (heaps_around t function) k xs 0 0 num o l a (counts_quietly (λ y z. z) c (open_rows (at_bottom s) s)))

  pub lambda_counts : Counts left n (open_lambda m xs s)
  unfolding open_lambda enter_parameters open_captures open_scope
  lambda_counts =
      let v : function_in (row_at s m.at) ≡ None = ap function_in (f.tables.blank m.at i) in
      rw v (names-count Local 0 None k xs 0 0 num o l a (counts_quietly (λ y z. z) c (untouched_rows refl refl)))

quietly_either : {s t u : State} (b : Bool) → Quietly s t → Quietly s u → Quietly s (cond b t u)
quietly_either true c d = c
quietly_either false c d = d

-- Out of one: last uses are marked

last_quietly : (o : Option Ident) (s : State) → Quietly s (mark_last o s)
last_quietly None s = untouched_rows refl refl
last_quietly (Some x) s = mark_quietly mark_last_usage (λ v. refl) x.at s

leave_quietly : (xs : List Ident) (s : State) → Quietly s (leave_names xs s)
unfolding leave_names
leave_quietly [] s = untouched_rows refl refl
leave_quietly (x ∷ xs) s =
    quietly_then (quietly_then (untouched_rows refl refl) (last_quietly (entry_at s x.at).last_used _)) (leave_quietly xs _)

make_quietly : (r : Row) (n : Node) (l : List ListEntry) (height : ℕ) (function : Option Node) (s : State) → Quietly s (make_let r n l height function s)
unfolding store_arguments
make_quietly Blank n l height function s = quietly_then {t = store_arguments l s} (untouched_rows refl refl) (insert_quietly n.at _ (store_arguments l s) (λ k. tt))
make_quietly (Variable v) n l height function s = untouched_rows refl refl
make_quietly (Function v) n l height function s = untouched_rows refl refl
make_quietly (CallSite v) n l height function s = untouched_rows refl refl
make_quietly (Let v) n l height function s = untouched_rows refl refl

close_quietly : (b : Bool) (s : State) → Quietly s (close_layer b s)
unfolding close_layer close_scope
close_quietly true s = untouched_rows refl refl
close_quietly false s = untouched_rows refl refl

pub let_quietly : (b : Bool) (n : Node) (xs : List Ident) (height : ℕ) (function : Option Node) (s : State) → Quietly s (close_let b n xs height function s)
unfolding close_let
let_quietly b n xs height function s =
    quietly_then (quietly_then (leave_quietly xs s) (make_quietly (row_at s n.at) n (entered xs s) height function (leave_names xs s))) (close_quietly b _)

-- a call

argument_quietly : (t : Tree) (s : State) → Quietly s (mark_argument t s)
argument_quietly (ident x) s = quietly_either (same_ident (last_use_of s (newest s x.name)) x) (last_quietly (Some x) s) (untouched_rows refl refl)
argument_quietly (const n q) s = untouched_rows refl refl
argument_quietly (if n a b c) s = untouched_rows refl refl
argument_quietly (letin n xs es b) s = untouched_rows refl refl
argument_quietly (define n x b) s = untouched_rows refl refl
argument_quietly (lambda n xs b) s = untouched_rows refl refl
argument_quietly (sequence n es) s = untouched_rows refl refl
argument_quietly (call n h es) s = untouched_rows refl refl
argument_quietly (set! n x e) s = untouched_rows refl refl

arguments_quietly : (ts : Trees) (s : State) → Quietly s (mark_arguments ts s)
unfolding mark_arguments
arguments_quietly nil s = untouched_rows refl refl
arguments_quietly (cons t ts) s = quietly_then (argument_quietly t s) (arguments_quietly ts _)

tail_quietly : (b : Bool) (ts : Trees) (s : State) → Quietly s (mark_if_tail b ts s)
tail_quietly true ts s = arguments_quietly ts s
tail_quietly false ts s = untouched_rows refl refl

fact_quietly : (h : Tree) (n : Node) (tail : Bool) (k : ℕ) (s : State) → Quietly s (call_fact h n tail k s)
fact_quietly (ident x) n tail k s = insert_quietly n.at _ s (λ k. tt)
fact_quietly (const m q) n tail k s = untouched_rows refl refl
fact_quietly (if m a b c) n tail k s = insert_quietly n.at _ s (λ k. tt)
fact_quietly (letin m xs es b) n tail k s = insert_quietly n.at _ s (λ k. tt)
fact_quietly (define m x b) n tail k s = insert_quietly n.at _ s (λ k. tt)
fact_quietly (lambda m xs b) n tail k s = insert_quietly n.at _ s (λ k. tt)
fact_quietly (sequence m es) n tail k s = insert_quietly n.at _ s (λ k. tt)
fact_quietly (call m h es) n tail k s = insert_quietly n.at _ s (λ k. tt)
fact_quietly (set! m x e) n tail k s = insert_quietly n.at _ s (λ k. tt)

pub call_quietly : (n : Node) (h : Tree) (es : Trees) (f : Flags) (s : State) → Quietly s (close_call n h es f s)
unfolding close_call
call_quietly n h es f s = let b = f.tail && ltb 1 (depth s) in quietly_then (tail_quietly b (cores es) s) (fact_quietly (core h) n b f.counter (mark_if_tail b (cores es) s))

pub clear_quietly : (x : Ident) (s : State) → Quietly s (clear_context x s)
unfolding clear_context
clear_quietly x s = quietly_either (is_self s x) (untouched_rows refl refl) (untouched_rows refl refl)

-- a lambda: its parameters' rows take the uses of their entries

lasts_quietly : (l : List (Live Ident)) (s : State) → Quietly s (mark_lasts l s)
unfolding mark_lasts
lasts_quietly [] s = untouched_rows refl refl
lasts_quietly (e ∷ l) s = quietly_then (last_quietly (entry_at s e.value.at).last_used s) (lasts_quietly l _)

-- names with entries of a body

abbrev pub Deep : List Entry → List Ident → Type 0
Deep E xs = All (λ x. 2 ≤ (entry_in E x.at).depth) xs

names-deep : (E : List Entry) (is_let : Bool) (base : ℕ) (q : Place) (j : ℕ) (xs : List Ident) (sc : List Binder)
    → All (λ b. 2 ≤ (entry_in E b.ident.at).depth) (reverse_aux (binders is_let base q j xs) sc) → Deep E xs
unfolding binders
names-deep E is_let base q j [] sc a = tt
names-deep E is_let base q j (x ∷ xs) sc a =
    let b : Binder = record { ident = x; is_let = is_let; place = j; around = q.around; home = home_at q.site (base + j) } in
    ((all_rest (λ b. 2 ≤ (entry_in E b.ident.at).depth) (binders is_let base q (suc j) xs) (b ∷ sc) a).0, names-deep E is_let base q (suc j) xs (b ∷ sc) a)

-- the names of the body that the walk is in
pub body-deep : {own : ℕ → Type 0} {bottom : List (Live Ident)} {before : List Use} {s : State} (is_let : Bool) (base : ℕ) (q : Place) (xs : List Ident) (sc : List Binder)
    → Finds own bottom before (in_scope q (reverse_aux (binders is_let base q 0 xs) sc)) s → Deep s.scope.entries xs
body-deep {own} {before = before} {s} is_let base q xs sc f =
    names-deep s.scope.entries is_let base q 0 xs sc
    (all_zip (Around q.site.layer q.around) (Stands own s.scope.entries before) (λ b. 2 ≤ (entry_at s b.ident.at).depth) (λ b a k. omega (arith, a.above, k.held.depth))
    (reverse_aux (binders is_let base q 0 xs) sc) f.around f.stands)

ended_counts : {own : ℕ → Type 0} {n : ℕ → ℕ} (xs : List Ident) (s : State) → Deep s.scope.entries xs → Counts own n s → Counts own n (end_parameters xs s)
unfolding end_parameters amend insert
ended_counts [] s d c = c
ended_counts {n = n} (x ∷ xs) s d c =
    let f = ended_fact (entry_at s x.at).usage_count (newest s x.name) in
    ended_counts xs (amend f x.at s) d.1 (record {
      told = λ y. told-amend f x.at s (n y) (n y) y (λ q v r. c.entries x.at d.0 ∙ ap n (sym q)) (λ g. refl) (c.told y);
      entries = c.entries;
      unentered = c.unentered;
      unused = c.unused;
    })

store_quietly : (i : ℕ) (l : List ListEntry) (s : State) → Quietly s (store_captured i l s)
unfolding store_captured
store_quietly i l s = quietly_either (ltb captured_most (s.facts.captured_top + length l)) (untouched_rows refl refl) (untouched_rows refl refl)

function_quietly : (f : Option FunctionInformation) (n : Node) (b : Tree) (escapes : Bool) (now arguments : List ListEntry) (m : ScopeMap Capture) (s : State)
    → Quietly s (function_ends f n b escapes now arguments m s)
unfolding make_function amend_function store_arguments rewrite_captured
function_quietly None n b escapes now arguments m s =
    quietly_then (quietly_then (store_quietly n.at _ s) (untouched_rows refl refl)) (insert_quietly n.at _ _ (λ k. tt))
function_quietly (Some v) n b escapes now arguments m s = quietly_then (untouched_rows refl refl) (insert_quietly n.at _ _ (λ k. tt))

pub left_counts : {own left : ℕ → Type 0} {n : ℕ → ℕ} (m : Node) (xs : List Ident) (b : Tree) (escapes : Bool) (s : State) → ((y : ℕ) → left y → own y) → Deep s.scope.entries xs
    → Counts own n s → Counts left n (close_lambda m xs b escapes s)
unfolding close_lambda close_scope close_captures
left_counts m xs b escapes s w d c =
    let l = newest_layer s.scope.names in
    let t = close_captures (close_scope s) in
    let q : Quietly s (mark_lasts l t) = quietly_then (untouched_rows refl refl) (lasts_quietly l t) in
    counts_quietly w (ended_counts xs (mark_lasts l t) (subst (λ (E : List Entry). Deep E xs) (sym q.entries) d) (counts_quietly (λ y z. z) c q))
    (function_quietly (function_in (row_at s m.at)) m b escapes _ _ _ _)

-- Defines enter the bottom layer

module _ (classes : List ℕ) {own left : ℕ → Type 0} {n : ℕ → ℕ} {s : State} (x : Ident) (b : Tree) (parts : Parts own (Only x.at) left) (o : own x.at) (c : Counts own n s) where
  pub define_counts : (k : IdentifierStatus) (a : ℕ) → Counts left n (enter_define classes k a x b s)
  unfolding enter_define define_fact
  define_counts k a =
      new_counts x top_level_entry (define_fact classes k a x b s) parts o refl (marked (is_builtin classes (core b)) mark_builtin (λ v. refl) _ ∙ marked (is_required classes (core b)) mark_required (λ v. refl) _) c

shadow_quietly : (classes : List ℕ) (o : Option Ident) (s : State) → Quietly s (shadow classes o s)
shadow_quietly classes None s = untouched_rows refl refl
shadow_quietly classes (Some b) s = mark_quietly (shadow_if_builtin classes) (λ v. marked v.builtin mark_shadowed (λ u. refl) v) b.at s

pub value_counts : (classes : List ℕ) {own left : ℕ → Type 0} {n : ℕ → ℕ} {s : State} (x : Ident) (b : Tree) → Parts own (Only x.at) left → own x.at → Counts own n s
    → Counts left n (enter_top_level_value classes x b s)
unfolding enter_top_level_value
value_counts classes {s = s} x b parts o c = define_counts classes x b parts o (counts_quietly (λ y z. z) c (shadow_quietly classes (newest s x.name) s)) _ _
