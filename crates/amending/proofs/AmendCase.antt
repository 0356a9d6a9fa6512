-- The list that a second run keeps, row by row in its place. No place of the code stands here.
use Rattle.std.specs.Prelude.{Option}
use Prim.Native.Nat.{ℕ, ◌+◌, ◌-◌, ◌≤◌, ◌<◌}
use mathlib.Core.List.{List, [], ◌∷◌, ◌++◌, map}
use mathlib.Core.Bool.{Bool, true, false, cond, ◌||◌}
use mathlib.Core.Path.{◌≡◌, refl, ap, sym, subst, ◌∙◌}
use native.Mathlib.Omega.{arith}
use native.Mathlib.Numerals.{add-one}
use lib.ListN.{length, get_or, set, take, drop, replicate, length-append, length-drop}
use lib.Seq.{sets, length-take-le, take-suc, get_or-drop}
use lib.Dec.{eqb}
use Rattle.tree.specs.Tree.{Ident, Tree}
use Rattle.tree.specs.Check.{member}
use Rattle.scope_map.specs.ScopeMap.{ScopeMap, Live}
use Rattle.semantic.specs.Rows.{ListEntry, no_list_entry}
use Rattle.semantic.specs.declared.ListAt.{ListAt}
use Rattle.pass.specs.State.{State, Capture, list_entry_at, with_captured}
use Rattle.pass.specs.Lists.{captured_in, captured_vars, name_of, names_of, keep, amend_list, rewrite_captured}
use Rattle.pass.specs.Lambda.{name_in, holds_lambda, now_used}
use Rattle.pass.specs.Run.{list_entries_most}
use Rattle.pass_laws.specs.Sound.{Property, Lawful, Each}
use Rattle.pass_laws.specs.Laws.Sound.Lists.{all_elements, all_take, all_drop, sets_each}
use Rattle.pass_laws.specs.Laws.Sound.Each.{Fine, fine, each_lists}
use Rattle.pass_laws.specs.Laws.Sound.ListEntries.{kept_list_entries, amended-list_entries}
use Rattle.work.specs.Works.{Works}
use Rattle.work.specs.Laws.Works.{captured_many}
use Rattle.work.specs.Tied.{Raw, raw, Tied, Good}
use Rattle.work.specs.Laws.Good.{good_each}
use Rattle.work.specs.declared.Pass.{Pass}
use Rattle.walk.specs.Marks.{Unmarked}
use Rattle.amending.specs.declared.amend.Lambda.{Lambda}
use Rattle.amending.specs.declared.amend.Ending.{Ending}
use Rattle.lists.specs.Contract.{Told, Held}
use Rattle.amending.specs.Contract.{HasBody, Body, Ended, amended_list, AmendsList}
use Rattle.lists.specs.Rewrites.{Rewrites}
use Rattle.amending.specs.Kept.{cleared, Marks, kept_after, is_kept, kept_row, kept_names, KeepHeld, Right, KeepsRow, AllRight}
use Rattle.lists.specs.Index.{Indexed}
use Rattle.lists.specs.Given.{given, with_given, rows_up_to}
use Rattle.lists.specs.Laws.Given.{captured_step}
use Rattle.amending.specs.Counts.{now_of, Counts, CountsNames}
use Rattle.lists.specs.Laws.Sets.{sets_append, sets_back, get_d_after}
use Rattle.amending.proofs.Amended.{kept_is, keep_snoc, amend_snoc, amended-length, keep_fewer, snoc_member, kept_after_name}

-- The rows before k

-- as they stand in the table
rows_kept : (first to : ℕ) (l K : List ListEntry) → first + length K ≤ length l → to ≡ first + length K → rows_up_to first to (sets l first K) ≡ K
rows_kept first to l K h e =
    let z : to - first ≡ length K = omega arith in
    ap (λ (j : ℕ). take j (drop first (sets l first K))) z ∙ sets_back l first K h

module _ (holds : Bool) (now : List ListEntry) (m : ScopeMap Capture) where
  abbrev pub kept_rows : ℕ → ℕ → List ListEntry → List ListEntry
  kept_rows first k l = amend_list now m [] (keep (is_kept holds now) (take k (drop first l)))

  rows_fewer : (first k : ℕ) (l : List ListEntry) → first + k ≤ length l → length (kept_rows first k l) ≤ k
  rows_fewer first k l h =
      omega (
        arith,
        amended-length now m [] (keep (is_kept holds now) (take k (drop first l))),
        keep_fewer (is_kept holds now) (take k (drop first l)),
        length-take-le k (drop first l) (omega (arith, length-drop first l)),
      )

  -- one more
  abbrev one_more : Bool → ListEntry → List ListEntry → List ListEntry
  one_more b x K = cond b (K ++ (kept_after now m K x ∷ [])) K

  rows_more : (first k : ℕ) (l : List ListEntry) → first + k < length l →
      let x = get_or l (first + k) no_list_entry in
      kept_rows first (k + 1) l ≡ one_more (is_kept holds now (name_of x)) x (kept_rows first k l)
  rows_more first k l h =
      let x = get_or l (first + k) no_list_entry in
      let f = is_kept holds now in
      let L = take k (drop first l) in
      let next : take (k + 1) (drop first l) ≡ L ++ (x ∷ []) =
      ap (λ (j : ℕ). take j (drop first l)) (add-one k)
      ∙ take-suc (drop first l) k no_list_entry (omega (arith, length-drop first l))
      ∙ ap (λ (y : ListEntry). L ++ (y ∷ [])) (get_or-drop first l k no_list_entry) in
      ap (λ (t : List ListEntry). amend_list now m [] (keep f t)) next ∙ ap (amend_list now m []) (keep_snoc f L x) ∙ go x L (f (name_of x))
    where
      go : (x : ListEntry) (L : List ListEntry) (b : Bool) → amend_list now m [] (cond b (keep (is_kept holds now) L ++ (x ∷ [])) (keep (is_kept holds now) L))
          ≡ one_more b x (amend_list now m [] (keep (is_kept holds now) L))
      go x L true = amend_snoc now m (keep (is_kept holds now) L) x
      go x L false = refl

  more-length : (b : Bool) (x : ListEntry) (K : List ListEntry) → length (one_more b x K) ≡ length K + cond b 1 0
  more-length true x K = length-append K (kept_after now m K x ∷ [])
  more-length false x K = omega arith

  -- their names, of which one may be one more
  names-step : (x : ListEntry) (K : List ListEntry) (b : Bool) (y : ℕ) → member y (cond b (name_of x ∷ names_of K) (names_of K)) ≡ member y (names_of (one_more b x K))
  names-step x K true y =
      ap (λ (z : ℕ). eqb y z || member y (names_of K)) (sym (kept_after_name now m K x)) ∙ sym (snoc_member y K (kept_after now m K x))
  names-step x K false y = refl

  row_step : (first to : ℕ) (x : ListEntry) (l K : List ListEntry) → first + length K < length l → to ≡ first + length K → (b : Bool)
      → cond b (set (sets l first K) to (kept_after now m (rows_up_to first to (sets l first K)) x)) (sets l first K) ≡ sets l first (one_more b x K)
  row_step first to x l K h e true =
      ap (λ (t : List ListEntry). set (sets l first K) to (kept_after now m t x)) (rows_kept first to l K (omega arith) e)
      ∙ ap (λ (j : ℕ). set (sets l first K) j (kept_after now m K x)) e
      ∙ sym (sets_append l first K (kept_after now m K x ∷ []))
  row_step first to x l K h e false = refl

-- The state with these rows is good, and its list made anew is the same

module _ {Q : Property} (lawful : Lawful Q) {F : ℕ → Type 0} where
  each_kept : (holds : Bool) (now : List ListEntry) (m : ScopeMap Capture) (first k : ℕ) (s : State) → Each Q F s
      → Each Q F (with_captured (sets s.facts.captured first (kept_rows holds now m first k s.facts.captured)) s)
  each_kept holds now m first k s h =
      let l = s.facts.captured in
      let P = Fine Q F in
      let rows = all_take P k (drop first l) (all_drop P first l (all_elements P no_list_entry l (fine h))) in
      let kept = kept_list_entries P (is_kept holds now) (take k (drop first l)) rows in
      let written =
      amended-list_entries P (λ x v e u y. (lawful.changed x v e y.0, subst F (sym u) y.1)) now m []
      (keep (is_kept holds now) (take k (drop first l))) kept in
      each_lists _ refl (sets_each P no_list_entry l first (kept_rows holds now m first k l) written (fine h)) h

kept_good : {rs : List ℕ} (holds : Bool) (now : List ListEntry) (m : ScopeMap Capture) (first k : ℕ) (s : State) → Good rs s
    → Good rs (with_captured (sets s.facts.captured first (kept_rows holds now m first k s.facts.captured)) s)
kept_good holds now m first k s g = good_each g (record { rows = refl; arguments = refl }) (λ Q l F z h. each_kept l holds now m first k s h)

captured_beside : (ps : List ℕ) (c : List ListEntry) (s : State) (l : List (Live Ident)) → captured_in ps (with_captured c s) l ≡ captured_in ps s l
unfolding captured_in
captured_beside ps c s [] = refl
captured_beside ps c s (e ∷ l) =
    captured_step ps (with_captured c s) e l
    ∙ ap (with_given s.scope (given ps s.scope e)) (captured_beside ps c s l)
    ∙ sym (captured_step ps s e l)

now_beside : (xs : List Ident) (b : Tree) (c : List ListEntry) (s : State) → now_of xs b (with_captured c s) ≡ now_of xs b s
unfolding captured_vars
now_beside xs b c s = ap (now_used b) (captured_beside (map name_in xs) c s s.scope.names.live)

-- The index and the counts are right in the states on the way

right_kept : {rs : List ℕ} {d : Ending} {index : List (Option ℕ)} {counts : List ℕ} {xs : List Ident} {b : Tree} {s : State} (holds : Bool) (first k : ℕ)
    → Right rs d index counts xs b s
    → Right rs d index counts xs b (with_captured (sets s.facts.captured first (kept_rows holds (now_of xs b s) s.captures first k s.facts.captured)) s)
right_kept {counts = counts} {xs} {b} {s} holds first k h =
    let l = sets s.facts.captured first (kept_rows holds (now_of xs b s) s.captures first k s.facts.captured) in
    record {
      told = h.told;
      body = h.body;
      good = kept_good holds (now_of xs b s) s.captures first k s h.good;
      indexes = h.indexes;
      counted = subst (Counts counts) (sym (now_beside xs b l s)) h.counted;
    }

pub all_right : {rs : List ℕ} {d : Ending} {p : Pass} {w : List ℕ} {index : List (Option ℕ)} {counts : List ℕ} → Indexed rs d.lambda.names p w index → CountsNames rs d p w index counts
    → AllRight rs d p w index counts
all_right i c = record { indexes = i.is; counted = λ xs b s h y m works. c.is xs b s h y m works (i.is xs s h works) }

-- arrays with no name tell nothing
pub none_right : {rs : List ℕ} {d : Ending} {p : Pass} {w : List ℕ} → AllRight rs d p w [] []
none_right = record { indexes = λ xs s h works x q. absurd (omega arith); counted = λ xs b s h y g works x q. absurd (omega arith) }

right_first : {rs : List ℕ} {d : Ending} {p : Pass} {w : List ℕ} {index : List (Option ℕ)} {counts : List ℕ} {xs : List Ident} {b : Tree} {s : State} → AllRight rs d p w index counts
    → Told rs d.lambda.names xs → Body rs d b → Good rs s → Works p w s → Right rs d index counts xs b s
right_first {xs = xs} {b} {s} a h y g works = record {
  told = h;
  body = y;
  good = g;
  indexes = a.indexes xs s h works;
  counted = a.counted xs b s h y g works;
}

-- whichever body the lambda has
body_of : {rs : List ℕ} {d : Ending} {b : Tree} → Ended rs d → HasBody rs d.lambda b → Body rs d b
body_of {b = b} a y = record { lies = y; holds = a.holds.is y.many b y.stands y.ends }

-- The loop

abbrev kept_to : Ending → ℕ → ℕ → List Ident → Tree → State → List ListEntry
kept_to d first k xs b s = kept_rows d.holds (now_of xs b s) s.captures first k s.facts.captured

-- the rows from `first` up to `to` are K, and the marks m tell their names
pub record Kept (first : ℕ) (K : List ListEntry) (s : State) (z : Raw) (to : ℕ) (m : List ℕ) : Type 0 where
  pub tied : Tied z (with_captured (sets s.facts.captured first K) s)
  pub ends : to ≡ first + length K
  pub seen : Marks m (names_of K)

pub record Keeping (rs : List ℕ) (d : Ending) (p : Pass) (index : List (Option ℕ)) (counts : List ℕ) (first : ℕ) (C w : List ℕ) (k to : ℕ) (m C' w' : List ℕ) : Type 0 where
  pub is : (F A : List ℕ) (s : State) (xs : List Ident) (b : Tree) → Right rs d index counts xs b s → Tied (raw p F C A w) s
      → Kept first (kept_to d first k xs b s) s (raw p F C' A w') to m

module _ {rs : List ℕ} {d : Ending} {p : Pass} {index : List (Option ℕ)} {counts : List ℕ} {first : ℕ} {C w : List ℕ} where
  pub keep-start : {m : List ℕ} → Unmarked m → Keeping rs d p index counts first C w 0 first m C w
  unfolding keep amend_list
  keep-start u = record { is = λ F A s xs b h t. record { tied = t; ends = omega arith; seen = λ x q. u x } }

  module _ {k to : ℕ} {m C' w' : List ℕ} (f : Keeping rs d p index counts first C w k to m C' w') (a : Ended rs d) (h : Held rs p C w)
      (all : AllRight rs d p w index counts)
    where
      first_right : Right rs d index counts a.lambda.xs a.lambda.b h.s
      first_right = right_first all a.lambda.names (body_of a a.lambda.body) h.good h.tied.works

      -- the tables then hold a state
      pub keep-held : Held rs p C' w'
      keep-held =
          let s = h.s in
          record {
            facts = h.facts;
            arguments = h.arguments;
            s = with_captured (sets s.facts.captured first (kept_to d first k a.lambda.xs a.lambda.b s)) s;
            good = kept_good d.holds (now_of a.lambda.xs a.lambda.b s) s.captures first k s h.good;
            tied = (f.is h.facts h.arguments s a.lambda.xs a.lambda.b first_right h.tied).tied;
          }

      pub keep_row : first + k < list_entries_most → KeepHeld rs d p index first to (first + k) C' w'
      unfolding keep-held
      keep_row room =
          let s = h.s in
          let t = h.tied in
          let ends = (f.is h.facts h.arguments s a.lambda.xs a.lambda.b first_right t).ends in
          let few = rows_fewer d.holds (now_of a.lambda.xs a.lambda.b s) s.captures first k s.facts.captured (omega (arith, captured_many t.works)) in
          record {
            ended = a;
            held = keep-held;
            indexes = first_right.indexes;
            order = omega (arith, ends);
            most = omega (arith, ends, few);
            inside = room;
          }

  module _ {k to : ℕ} {m C' w' : List ℕ} (f : Keeping rs d p index counts first C w k to m C' w') (room : first + k < list_entries_most) where
    pub keep-next : {q : Bool} {m' C'' w'' : List ℕ} → KeepsRow rs d p index counts m first to (first + k) C' w' q m' C'' w'' → {to' : ℕ} → to' ≡ to + cond q 1 0
        → Keeping rs d p index counts first C w (k + 1) to' m' C'' w''
    keep-next {q} {m'} {C''} {w''} r {to'} e = record {
      is = λ F A s xs b h t.
          let l = s.facts.captured in
          let now = now_of xs b s in
          let K = kept_to d first k xs b s in
          let u = with_captured (sets l first K) s in
          let v = f.is F A s xs b h t in
          let x = get_or l (first + k) no_list_entry in
          let inside : first + k < length l = omega (arith, captured_many t.works) in
          let few = rows_fewer d.holds now s.captures first k l (omega arith) in
          let rows : rows_up_to first to (sets l first K) ≡ K = rows_kept first to l K (omega arith) v.ends in
          let row = r.is F A u xs b (right_kept d.holds first k h) (subst (λ (j : List ListEntry). Marks m (names_of j)) (sym rows) v.seen) v.tied in
          let same = now_beside xs b (sets l first K) s in
          let list_entry : list_entry_at u (first + k) ≡ x = get_d_after l (first + k) first no_list_entry K (omega arith) in
          let more = rows_more d.holds now s.captures first k l inside in
          let step : kept_row d.holds (now_of xs b u) s.captures first to (list_entry_at u (first + k)) (sets l first K)
          ≡ sets l first (kept_to d first (k + 1) xs b s) =
          ap (λ (j : List ListEntry). kept_row d.holds j s.captures first to (list_entry_at u (first + k)) (sets l first K)) same
          ∙ ap (λ (j : ListEntry). kept_row d.holds now s.captures first to j (sets l first K)) list_entry
          ∙ row_step d.holds now s.captures first to x l K (omega arith) v.ends (is_kept d.holds now (name_of x))
          ∙ ap (sets l first) (sym more) in
          let told : q ≡ is_kept d.holds now (name_of x) =
          row.kept
          ∙ ap (λ (j : List ListEntry). is_kept d.holds j (name_of (list_entry_at u (first + k)))) same
          ∙ ap (λ (j : ListEntry). is_kept d.holds now (name_of j)) list_entry in
          record {
            tied = subst (λ (j : List ListEntry). Tied (raw p F C'' A w'') (with_captured j s)) step row.tied;
            ends =
                omega (
                  arith,
                  e,
                  v.ends,
                  ap {B = ℕ} (λ (j : Bool). cond j 1 0) told,
                  ap length more,
                  more-length d.holds now s.captures (is_kept d.holds now (name_of x)) x K,
                );
            seen = λ y g.
                row.seen y g
                ∙ ap (λ (j : List ListEntry). member y (kept_names d.holds j (name_of (list_entry_at u (first + k))) (names_of (rows_up_to first to (sets l first K))))) same
                ∙ ap (λ (j : ListEntry). member y (kept_names d.holds now (name_of j) (names_of (rows_up_to first to (sets l first K))))) list_entry
                ∙ ap (λ (j : List ListEntry). member y (kept_names d.holds now (name_of x) (names_of j))) rows
                ∙ names-step d.holds now s.captures x K (is_kept d.holds now (name_of x)) y
                ∙ sym (ap (λ (j : List ListEntry). member y (names_of j)) more);
          };
    }

pub keep-ended : {rs : List ℕ} {d : Ending} {p : Pass} {index : List (Option ℕ)} {counts : List ℕ} {first : ℕ} {C w : List ℕ} {n k to : ℕ} {m C' w' : List ℕ}
    → Keeping rs d p index counts first C w k to m C' w' → k ≤ n → n ≤ k → Keeping rs d p index counts first C w n to m C' w'
keep-ended {rs} {d} {p} {index} {counts} {first} {C} {w} {n} {k} {to} {m} {C'} {w'} f h g =
    let z : k ≡ n = omega arith in subst (λ (j : ℕ). Keeping rs d p index counts first C w j to m C' w') z f

-- The whole, and zeros in the rows that are left

kept_whole : {rs : List ℕ} {d : Ending} {first : ℕ} (e : ListAt) {n : ℕ} → first ≡ e.first → n ≡ e.length → (xs : List Ident) (b : Tree) (s : State)
    → Body rs d b
    → kept_to d first n xs b s ≡ amended_list xs b e s
kept_whole {first = first} e {n} a c xs b s y =
    let now = now_of xs b s in
    let l = s.facts.captured in
    ap (λ (h : Bool). amend_list now s.captures [] (keep (is_kept h now) (take n (drop first l)))) y.holds
    ∙ ap (λ (j : ℕ). amend_list now s.captures [] (keep (is_kept (holds_lambda b) now) (take j (drop first l)))) c
    ∙ ap (λ (j : ℕ). amend_list now s.captures [] (keep (is_kept (holds_lambda b) now) (take e.length (drop j l)))) a
    ∙ sym (ap (amend_list now s.captures []) (kept_is b now (take e.length (drop e.first l))))

module _ {rs : List ℕ} {d : Ending} {p : Pass} {index : List (Option ℕ)} {counts : List ℕ} {first : ℕ} {C w : List ℕ} (e : ListAt) {n : ℕ} (a : first ≡ e.first)
    (c : n ≡ e.length) (ended : Ended rs d) (all : AllRight rs d p w index counts)
  where
    pub amends : {to : ℕ} {m C' w' : List ℕ} → Keeping rs d p index counts first C w n to m C' w' → {C'' w'' : List ℕ}
        → Rewrites C' w' (cleared to (first + n)) C'' w'' → AmendsList rs d.lambda e p C w (to - first) C'' w''
    unfolding rewrite_captured
    amends {to} f {C''} {w''} r = record {
      many = λ F A s xs b h o g t.
          let y = body_of ended o in
          omega (arith, (f.is F A s xs b (right_first all h y g t.works) t).ends, ap length (kept_whole e a c xs b s y));
      is = λ F A s xs b h o g t.
          let y = body_of ended o in
          let l = s.facts.captured in
          let K = kept_to d first n xs b s in
          let L = amended_list xs b e s in
          let v = f.is F A s xs b (right_first all h y g t.works) t in
          let ends = v.ends in
          let z : first + n - to ≡ n - length K = omega arith in
          let whole = kept_whole e a c xs b s y in
          let after = r.is p F A (with_captured (sets l first K) s) v.tied in
          let step : cleared to (first + n) (sets l first K) ≡ sets l e.first (L ++ replicate (e.length - length L) no_list_entry) =
          ap (λ (j : ℕ). sets (sets l first K) to (replicate j no_list_entry)) z
          ∙ ap (λ (j : ℕ). sets (sets l first K) j (replicate (n - length K) no_list_entry)) ends
          ∙ sym (sets_append l first K (replicate (n - length K) no_list_entry))
          ∙ ap (λ (k : List ListEntry). sets l first (k ++ replicate (n - length k) no_list_entry)) whole
          ∙ ap (λ (j : ℕ). sets l first (L ++ replicate (j - length L) no_list_entry)) c
          ∙ ap (λ (j : ℕ). sets l j (L ++ replicate (e.length - length L) no_list_entry)) a in
          subst (λ (v : List ListEntry). Tied (raw p F C'' A w'') (with_captured v s)) step after;
    }

-- a list of no entries
amended-none : (xs : List Ident) (b : Tree) (e : ListAt) (s : State) → e.length ≡ 0 → amended_list xs b e s ≡ []
unfolding amend_list keep
amended-none xs b e s z = rw z (go (holds_lambda b))
  where
    now : List ListEntry
    now = now_used b (captured_vars (map name_in xs) s)

    go : (c : Bool) → amend_list now s.captures [] (cond c [] []) ≡ []
    go true = refl
    go false = refl

pub none-amended : {rs : List ℕ} {l : Lambda} (e : ListAt) {p : Pass} {C w : List ℕ} → e.length ≡ 0 → AmendsList rs l e p C w 0 C w
unfolding rewrite_captured
none-amended e {p} {C} {w} z = record {
  many = λ F A s xs b u v g t. sym (ap length (amended-none xs b e s z));
  is = λ F A s xs b u v g t. rw (amended-none xs b e s z, z) t;
}

-- of the same lambda
pub amends_same : {rs : List ℕ} {l m : Lambda} {e : ListAt} {p : Pass} {C w : List ℕ} {n : ℕ} {C' w' : List ℕ} → l ≡ m → AmendsList rs l e p C w n C' w'
    → AmendsList rs m e p C w n C' w'
amends_same {rs} {e = e} {p} {C} {w} {n} {C'} {w'} is a = subst (λ (j : Lambda). AmendsList rs j e p C w n C' w') is a
