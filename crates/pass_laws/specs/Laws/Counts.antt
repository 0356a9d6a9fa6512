-- How many uses the rows of a fresh run have counted so far: those that the mentions before give to each record. A mention gives one to its own
-- record where it has an entry, and one to its binder's or its define's; a set! gives its binder two.
use Rattle.std.specs.Prelude.{ℕ, suc, ◌+◌, ◌≤◌, ◌<◌, List, [], ◌∷◌, ◌++◌, Bool, cond, ◌&&◌, ◌≡◌, length, get_or, set, eqb, Option, None, Some}
use Rattle.std.proofs.lemmas.Option.{same_Some, none-some}
use Rattle.std.proofs.Math.Bool.{true, false}
use Rattle.std.proofs.Math.Path.{refl, ap, sym, subst}
use Rattle.std.proofs.Common.{◌∙◌, arith, eq-eqb, ne_eqb, length-set, get_or-set_same, get_or-set_other}
use Rattle.std.proofs.Math.Decide.{ℕ_discrete, dec_lt}
use Rattle.std.proofs.Math.ListN.{get_or-eq_default}
use Rattle.tree.specs.Tree.{Ident}
use Rattle.scope_map.specs.ScopeMap.{Live}
use Rattle.semantic.specs.Information.{with_usage_count, mark_builtin, mark_set}
use Rattle.semantic.specs.Rows.{Row, Blank, Variable, Function, CallSite, Let}
use Rattle.semantic.specs.declared.SemanticInformation.{SemanticInformation}
use Rattle.r7rs.specs.Binding.{Binder, Place, Mention, Event, enters, mentions, ends, Use, mentions_in, entering, find, meant}
use Rattle.pass.specs.State.{Entry, State, insert, amend, amended, row_at, put_entry, entry_at, no_entry, binder_in, used_entry, last_entry}
use Rattle.pass.specs.Read.{Rule, is_prelude, mark_if, free_fact, free_row, heap_fact, one_use_more, read_by, read, mutate_at, mutate}
use Rattle.pass_laws.specs.Laws.Rows.{row_same, row_other}
use Rattle.pass_laws.specs.Laws.Says.{Each, cell_of, mentions_in_lem, mentions_entering}
use Rattle.pass_laws.specs.Laws.Finds.{entry_in, Around, Stands, Global, Finds, Of, of_none, of_some, Got, got_none, got_some, live_in, search_for}
use Rattle.pass_laws.specs.Laws.Onward.{Parts}
use Rattle.pass_laws.specs.Laws.Reads.{Reads, reads_none, reads_global, reads-own, reads_outer, rules, Only}

-- What the mentions give

-- n to the record y, if it is i
abbrev pub share : ℕ → ℕ → ℕ → ℕ
share i n y = cond (eqb i y) n 0

pub share_same : (i n : ℕ) → share i n i ≡ n
share_same i n = rw (eq-eqb i i refl)

pub share_other : (i n y : ℕ) → ¬ (y ≡ i) → share i n y ≡ 0
share_other i n y h = rw (ne_eqb i y (λ e. h (sym e)))

-- an identifier that no parameter or let name binds, with its bottom entry
abbrev pub credit_cell : Ident → Option Ident → ℕ → ℕ
credit_cell x None y = 0
credit_cell x (Some d) y = share d.at 1 y + share x.at 1 y

-- `cell` tells an identifier's bottom entry, where it has one
module _ (cell : Ident → Option Ident) where
  abbrev pub credit : Mention → Option Binder → ℕ → ℕ
  credit m None y = credit_cell m.ident (cell m.ident) y
  credit m (Some b) y = share b.ident.at (cond m.is_set 2 1) y + share m.ident.at 1 y

  abbrev pub credits_of : List Mention → ℕ → ℕ
  credits_of [] y = 0
  credits_of (m ∷ l) y = credit m (meant m) y + credits_of l y

  abbrev pub credits : List Event → ℕ → ℕ
  credits l y = credits_of (mentions_in l) y

  credits_of_lem : (l r : List Mention) (y : ℕ) → credits_of (l ++ r) y ≡ credits_of l y + credits_of r y
  credits_of_lem [] r y = omega arith
  credits_of_lem (m ∷ l) r y = omega (arith, credits_of_lem l r y)

  pub credits-append : (l r : List Event) (y : ℕ) → credits (l ++ r) y ≡ credits l y + credits r y
  credits-append l r y = ap (λ (k : List Mention). credits_of k y) (mentions_in_lem l r) ∙ credits_of_lem (mentions_in l) (mentions_in r) y

  -- names that enter give nothing
  pub credits-entering : (bs sc : List Binder) (y : ℕ) → credits (entering bs sc) y ≡ 0
  credits-entering bs sc y = ap (λ (k : List Mention). credits_of k y) (mentions_entering bs sc)

-- with the same bottom entries
pub credits-cell : (c d : Ident → Option Ident) (l : List Event) → Each (λ m. c m.ident ≡ d m.ident) l → (y : ℕ) → credits c l y ≡ credits d l y
credits-cell c d [] e y = refl
credits-cell c d (enters b sc ∷ l) e y = credits-cell c d l e y
credits-cell c d (mentions m ∷ l) e y = omega (arith, go (meant m), credits-cell c d l e.1 y)
  where
    go : (o : Option Binder) → credit c m o y ≡ credit d m o y
    go None = ap (λ (q : Option Ident). credit_cell m.ident q y) e.0
    go (Some b) = refl
credits-cell c d (ends i xs sc ∷ l) e y = credits-cell c d l e y

-- What the rows tell

-- a row that is an identifier's has counted n uses
abbrev pub Told : ℕ → Row → Type 0
Told n Blank = Unit {0}
Told n (Variable v) = v.usage_count ≡ n
Told n (Function v) = Unit {0}
Told n (CallSite v) = Unit {0}
Told n (Let v) = Unit {0}

pub told-insert : (i : ℕ) (r : Row) (s : State) (n y : ℕ) → (y ≡ i → Told n r) → (¬ (y ≡ i) → Told n (row_at s y)) → Told n (row_at (insert i r s) y)
unfolding insert
told-insert i r s n y here there = go (ℕ_discrete y i) (dec_lt y (length s.facts.rows))
  where
    go : Dec (y ≡ i) → Dec (y < length s.facts.rows) → Told n (row_at (insert i r s) y)
    go (no d) l = subst (Told n) (sym (row_other i r s y d)) (there d)
    go (yes d) (yes l) = subst (Told n) (sym (ap (row_at (insert i r s)) d ∙ row_same i r s (omega arith))) (here d)
    go (yes d) (no l) =
        subst (Told n) (sym (get_or-eq_default (set s.facts.rows i r) Blank {n = y} (omega (arith, length-set s.facts.rows i r)))) tt

told-amended : (f : SemanticInformation → SemanticInformation) (m n : ℕ) → ((v : SemanticInformation) → v.usage_count ≡ m → (f v).usage_count ≡ n)
    → (r : Row) → Told m r → Told n (amended f r)
told-amended f m n h Blank t = tt
told-amended f m n h (Variable v) t = h v t
told-amended f m n h (Function v) t = tt
told-amended f m n h (CallSite v) t = tt
told-amended f m n h (Let v) t = tt

pub told-amend : (f : SemanticInformation → SemanticInformation) (i : ℕ) (s : State) (m n y : ℕ) → (y ≡ i → (v : SemanticInformation) → v.usage_count ≡ m → (f v).usage_count ≡ n)
    → (¬ (y ≡ i) → m ≡ n) → Told m (row_at s y) → Told n (row_at (amend f i s) y)
unfolding amend
told-amend f i s m n y here there t =
    told-insert i (amended f (row_at s i)) s n y (λ e. told-amended f m n (here e) (row_at s i) (subst (λ (z : ℕ). Told m (row_at s z)) e t))
    (λ d. subst (λ (k : ℕ). Told k (row_at s y)) (there d) t)

-- the rows tell `shown`, the entries of parameters and let names `held`; the records in `own` are still to be visited
pub record CountsBy (own : ℕ → Type 0) (shown held : ℕ → ℕ) (s : State) : Type 0 where
  pub told : (y : ℕ) → Told (shown y) (row_at s y)
  pub entries : (y : ℕ) → 2 ≤ (entry_at s y).depth → (entry_at s y).usage_count ≡ held y
  pub unentered : (y : ℕ) → own y → (entry_at s y).depth ≡ 0
  pub unused : (y : ℕ) → own y → shown y ≡ 0

-- both tell n
abbrev pub Counts : (ℕ → Type 0) → (ℕ → ℕ) → State → Type 0
Counts own n s = CountsBy own n n s

pub counts_as : {own : ℕ → Type 0} {n m : ℕ → ℕ} {s : State} → ((y : ℕ) → n y ≡ m y) → Counts own n s → Counts own m s
counts_as {s = s} e c =
    record {
      told = λ y. subst (λ (k : ℕ). Told k (row_at s y)) (e y) (c.told y);
      entries = λ y h. c.entries y h ∙ e y;
      unentered = c.unentered;
      unused = λ y o. sym (e y) ∙ c.unused y o;
    }

pub counts_fewer : {own left : ℕ → Type 0} {n : ℕ → ℕ} {s : State} → ((y : ℕ) → left y → own y) → Counts own n s → Counts left n s
counts_fewer w c = record { told = c.told; entries = c.entries; unentered = λ y l. c.unentered y (w y l); unused = λ y l. c.unused y (w y l) }

-- Steps that count nothing

pub record Quietly (s t : State) : Type 0 where
  pub entries : t.scope.entries ≡ s.scope.entries
  pub rows : (n y : ℕ) → Told n (row_at s y) → Told n (row_at t y)

pub quietly_then : {s t u : State} → Quietly s t → Quietly t u → Quietly s u
quietly_then a b = record { entries = b.entries ∙ a.entries; rows = λ n y t. b.rows n y (a.rows n y t) }

pub untouched_rows : {s t : State} → t.scope.entries ≡ s.scope.entries → t.facts.rows ≡ s.facts.rows → Quietly s t
untouched_rows e r = record { entries = e; rows = λ n y t. subst (λ (T : List Row). Told n (get_or T y Blank)) (sym r) t }

-- a fact of something else than an identifier
pub insert_quietly : (i : ℕ) (r : Row) (s : State) → ((n : ℕ) → Told n r) → Quietly s (insert i r s)
unfolding insert
insert_quietly i r s h = record { entries = refl; rows = λ n y t. told-insert i r s n y (λ e. h n) (λ d. t) }

-- a mark that is no count
pub mark_quietly : (f : SemanticInformation → SemanticInformation) → ((v : SemanticInformation) → (f v).usage_count ≡ v.usage_count) → (i : ℕ) (s : State) → Quietly s (amend f i s)
unfolding amend insert
mark_quietly f m i s = record { entries = refl; rows = λ n y t. told-amend f i s n n y (λ e v q. m v ∙ q) (λ d. refl) t }

pub counts_quietly : {own left : ℕ → Type 0} {n : ℕ → ℕ} {s t : State} → ((y : ℕ) → left y → own y) → Counts own n s → Quietly s t → Counts left n t
counts_quietly {n = n} {s} {t} w c q =
    let same : (y : ℕ) → entry_at t y ≡ entry_at s y = λ y. ap (λ (E : List Entry). entry_in E y) q.entries in
    record {
      told = λ y. q.rows (n y) y (c.told y);
      entries = λ y h. ap (λ (e : Entry). e.usage_count) (same y) ∙ c.entries y (omega (arith, ap (λ (e : Entry). e.depth) (same y)));
      unentered = λ y l. ap (λ (e : Entry). e.depth) (same y) ∙ c.unentered y (w y l);
      unused = λ y l. c.unused y (w y l);
    }

-- An entry is put

module _ (E : List Entry) (i : ℕ) (e : Entry) where
  pub put_other : (y : ℕ) → ¬ (y ≡ i) → entry_in (set E i e) y ≡ entry_in E y
  put_other y d = get_or-set_other E i y e no_entry d

  -- one that is deep is there
  pub put-held : (n y : ℕ) → (y ≡ i → 2 ≤ e.depth → e.usage_count ≡ n) → (¬ (y ≡ i) → 2 ≤ (entry_in E y).depth → (entry_in E y).usage_count ≡ n)
      → 2 ≤ (entry_in (set E i e) y).depth → (entry_in (set E i e) y).usage_count ≡ n
  put-held n y here there = go (ℕ_discrete y i) (dec_lt y (length E))
    where
      go : Dec (y ≡ i) → Dec (y < length E) → 2 ≤ (entry_in (set E i e) y).depth → (entry_in (set E i e) y).usage_count ≡ n
      go (no d) l h = ap (λ (k : Entry). k.usage_count) (put_other y d) ∙ there d (omega (arith, ap (λ (k : Entry). k.depth) (put_other y d)))
      go (yes d) (yes l) h =
          let is : entry_in (set E i e) y ≡ e = ap (entry_in (set E i e)) d ∙ get_or-set_same E i e no_entry (omega arith) in
          ap (λ (k : Entry). k.usage_count) is ∙ here d (omega (arith, ap (λ (k : Entry). k.depth) is))
      go (yes d) (no l) h = absurd (omega (arith, ap (λ (k : Entry). k.depth) (get_or-eq_default (set E i e) no_entry {n = y} (omega (arith, length-set E i e)))))

-- A name is read

-- what the entries tell before: those of a binder are one ahead of the rows where the read is a set!'s
abbrev pub Ahead : Bool → (ℕ → ℕ) → (ℕ → ℕ) → Option Binder → Type 0
Ahead q n h None = (y : ℕ) → h y ≡ n y
Ahead q n h (Some b) = (h b.ident.at ≡ n b.ident.at + cond q 1 0) × ((y : ℕ) → ¬ (y ≡ b.ident.at) → h y ≡ n y)

module _ {own left : ℕ → Type 0} {n h : ℕ → ℕ} {s : State} (x : Ident) (parts : Parts own (Only x.at) left) (o : own x.at) (c : CountsBy own n h s) where
  -- through the entry of the visited record i, which gets k
  used_counts : (i k : ℕ) (e : Entry) (f : SemanticInformation → SemanticInformation) (v : SemanticInformation) → (own i → ⊥) → v.usage_count ≡ 1
      → (2 ≤ e.depth → e.usage_count ≡ n i + k) → ((u : SemanticInformation) → u.usage_count ≡ n i → (f u).usage_count ≡ n i + k) → ((y : ℕ) → ¬ (y ≡ i) → h y ≡ n y)
      → Counts left (λ y. n y + (share i k y + share x.at 1 y)) (insert x.at (Variable v) (amend f i (put_entry i e s)))
  unfolding insert amend put_entry
  used_counts i k e f v z one deep counted rest =
      let t = put_entry i e s in
      let apart : ¬ (i ≡ x.at) = λ q. z (subst own (sym q) o) in
      let here : n i + (share i k i + share x.at 1 i) ≡ n i + k = omega (arith, share_same i k, share_other x.at 1 i apart) in
      let other : (y : ℕ) → ¬ (y ≡ i) → ¬ (y ≡ x.at) → n y + (share i k y + share x.at 1 y) ≡ n y = λ y d g. omega (arith, share_other i k y d, share_other x.at 1 y g) in
      record {
        told = λ y. told-insert x.at (Variable v) (amend f i t) _ y
            (λ q. one ∙ rw q (omega (arith, c.unused x.at o, share_same x.at 1, share_other i k x.at (λ r. apart (sym r)))))
            (λ d. told-amend f i t (n y) _ y (λ q u r. rw q (counted u (r ∙ ap n q) ∙ sym here)) (λ g. sym (other y g d)) (c.told y));
        entries = λ y. put-held s.scope.entries i e _ y (λ q l. rw q (deep l ∙ sym here)) (λ g l. go y g l (ℕ_discrete y x.at));
        unentered = λ y l. ap (λ (k : Entry). k.depth) (put_other s.scope.entries i e y (λ q. z (subst own q (parts.kept y l)))) ∙ c.unentered y (parts.kept y l);
        unused = λ y l. other y (λ q. z (subst own q (parts.kept y l))) (parts.apart y l) ∙ c.unused y (parts.kept y l);
      }
    where
      go : (y : ℕ) → ¬ (y ≡ i) → 2 ≤ (entry_at s y).depth → Dec (y ≡ x.at) → (entry_at s y).usage_count ≡ n y + (share i k y + share x.at 1 y)
      go y g l (yes q) = absurd (omega (arith, c.unentered y (subst own (sym q) o)))
      go y g l (no d) = c.entries y l ∙ rest y g ∙ omega (arith, share_other i k y g, share_other x.at 1 y d)

  -- no entry
  free_counts : (q : Bool) (d : ℕ) → row_at s x.at ≡ Blank → ((y : ℕ) → h y ≡ n y) → Counts left (λ y. n y + 0) (insert x.at (free_row q d x (row_at s x.at)) s)
  unfolding insert
  free_counts q d b e =
      record {
        told = λ y. told-insert x.at _ s _ y (λ g. subst (λ (r : Row). Told (n y + 0) (free_row q d x r)) (sym b) (go q ∙ omega (arith, c.unused x.at o, ap n g)))
            (λ g. subst (λ (k : ℕ). Told k (row_at s y)) (omega arith) (c.told y));
        entries = λ y l. c.entries y l ∙ omega (arith, e y);
        unentered = λ y l. c.unentered y (parts.kept y l);
        unused = λ y l. omega (arith, c.unused y (parts.kept y l));
      }
    where
      go : (q : Bool) → (free_fact q d x).usage_count ≡ 0
      go true = refl
      go false = refl

-- an entry of the bottom has depth 1
global_depth : {own : ℕ → Type 0} {E : List Entry} {q : Option (Live Ident)} (d : Ident) → Got (Global own E) q → binder_in q ≡ Some d → (entry_in E d.at).depth ≡ 1
global_depth d got_none e = absurd (none-some d e)
global_depth {E = E} d (got_some {e = l} g) e = ap (λ (b : Ident). (entry_in E b.at).depth) (sym (same_Some l.value d e)) ∙ g.depth

-- a mark that is made or not
pub marked : (q : Bool) (f : SemanticInformation → SemanticInformation) → ((v : SemanticInformation) → (f v).usage_count ≡ v.usage_count) → (v : SemanticInformation)
    → (mark_if q f v).usage_count ≡ v.usage_count
marked true f m v = m v
marked false f m v = refl

module _ (classes : List ℕ) {own left : ℕ → Type 0} {bottom : List (Live Ident)} {before : List Use} {p : Place} {n h : ℕ → ℕ} {s : State} (x : Ident) (is_set : Bool)
    (parts : Parts own (Only x.at) left) (o : own x.at) (f : Finds own bottom before p s) (c : CountsBy own n h s) where
  abbrev mention : Mention
  mention = record { ident = x; is_set = is_set; place = p }

  -- a name of the body or of one around it: its row takes the entry's uses
  bound_counts : (b : Binder) (e : Entry) (v : SemanticInformation) → Stands own s.scope.entries before b → 2 ≤ b.home.layer → e.usage_count ≡ suc (entry_at s b.ident.at).usage_count
      → v.usage_count ≡ 1 → Ahead is_set n h (Some b)
      → Counts left (λ y. n y + credit (cell_of bottom) mention (Some b) y)
      (insert x.at (Variable v) (amend (with_usage_count e.usage_count) b.ident.at (put_entry b.ident.at e s)))
  bound_counts b e v k two u one a =
      let i = b.ident.at in
      let all : e.usage_count ≡ n i + cond is_set 2 1 = u ∙ ap suc (c.entries i (omega (arith, k.held.depth)) ∙ a.0) ∙ go is_set in
      used_counts x parts o c i (cond is_set 2 1) e (with_usage_count e.usage_count) v k.apart one (λ l. all) (λ w r. all) a.1
    where
      go : (q : Bool) → suc (n b.ident.at + cond q 1 0) ≡ n b.ident.at + cond q 2 1
      go true = omega arith
      go false = omega arith

  by_counts : {b : Option Binder} {r : Rule} → Reads own s.scope.entries before p bottom x.name b r → Of (λ b. 2 ≤ b.home.layer) b → Ahead is_set n h b
      → Counts left (λ y. n y + credit (cell_of bottom) mention b y) (read_by classes r x s)
  by_counts (reads_none e) l a = rw e (free_counts x parts o c (is_prelude classes x.name) _ (f.tables.blank x.at o) a)
  by_counts (reads_global {d} e v) l a =
      rw e (used_counts x parts o c d.at 1 (used_entry (entry_at s d.at)) one_use_more _ v (marked (is_prelude classes x.name) mark_builtin (λ v. refl) _)
      (λ l. absurd (omega (arith, global_depth d (search_for f x.name).global e))) (λ u q. omega arith) (λ y g. a y))
  by_counts (reads-own {b} k i) (of_some l) a =
      let e = entry_at s b.ident.at in
      bound_counts b _ _ k l refl (marked (e.captured && e.mutated) (heap_fact (last_entry x (used_entry e))) (λ v. refl) _) a
  by_counts (reads_outer {b} k i) (of_some l) a = bound_counts b _ _ k l refl refl a

  pub read_counts : Ahead is_set n h (find p.scope x.name) → Counts left (λ y. n y + credit (cell_of bottom) mention (find p.scope x.name) y) (read classes x s)
  unfolding read
  read_counts a = by_counts (rules f x.name) (above (search_for f x.name).meant) a
    where
      above : {b : Option Binder} → Of (λ b. Around p.site.layer p.around b × Stands own s.scope.entries before b) b → Of (λ b. 2 ≤ b.home.layer) b
      above of_none = of_none
      above (of_some k) = of_some k.0.above

-- A name is set: its entry counts once more, and its row does so when it is read

-- what the entries tell then
abbrev pub held_by : Option Binder → (ℕ → ℕ) → ℕ → ℕ
held_by None n y = n y
held_by (Some b) n y = n y + share b.ident.at 1 y

pub ahead : (n : ℕ → ℕ) (o : Option Binder) → Ahead true n (held_by o n) o
ahead n None = λ y. refl
ahead n (Some b) = (omega (arith, share_same b.ident.at 1), λ y g. omega (arith, share_other b.ident.at 1 y g))

pub level : (n : ℕ → ℕ) (o : Option Binder) → Ahead false n n o
level n None = λ y. refl
level n (Some b) = (omega arith, λ y g. refl)

module _ {own : ℕ → Type 0} {bottom : List (Live Ident)} {before : List Use} {p : Place} {n : ℕ → ℕ} {s : State} (x : ℕ) (f : Finds own bottom before p s) (c : Counts own n s) where
  put_counts : (i : ℕ) (e : Entry) (h : ℕ → ℕ) → (own i → ⊥) → (2 ≤ e.depth → e.usage_count ≡ h i) → ((y : ℕ) → ¬ (y ≡ i) → h y ≡ n y)
      → CountsBy own n h (amend mark_set i (put_entry i e s))
  unfolding insert amend put_entry
  put_counts i e h z deep rest =
      record {
        told = λ y. told-amend mark_set i (put_entry i e s) (n y) (n y) y (λ q v r. r) (λ d. refl) (c.told y);
        entries = λ y. put-held s.scope.entries i e _ y (λ q l. rw q (deep l)) (λ g l. c.entries y l ∙ sym (rest y g));
        unentered = λ y l. ap (λ (k : Entry). k.depth) (put_other s.scope.entries i e y (λ q. z (subst own q l))) ∙ c.unentered y l;
        unused = c.unused;
      }

  sets_counts : {o : Option Binder} {q : Option (Live Ident)} → Of (λ b. Around p.site.layer p.around b × Stands own s.scope.entries before b) o
      → Got (Global own s.scope.entries) q → CountsBy own n (held_by o n) (mutate_at (binder_in (live_in o q)) s)
  sets_counts of_none got_none = c
  sets_counts of_none (got_some {e} g) = put_counts e.value.at _ n g.apart (λ l. absurd (omega (arith, g.depth))) (λ y d. refl)
  sets_counts (of_some {b} (a, k)) g =
      let i = b.ident.at in
      put_counts i _ (held_by (Some b) n) k.apart (λ l. omega (arith, c.entries i (omega (arith, a.above, k.held.depth)), share_same i 1))
      (λ y d. omega (arith, share_other i 1 y d))

  pub mutate_counts : CountsBy own n (held_by (find p.scope x) n) (mutate x s)
  unfolding mutate
  mutate_counts =
      let q = search_for f x in
      subst (λ (o : Option (Live Ident)). CountsBy own n (held_by (find p.scope x) n) (mutate_at (binder_in o) s)) (sym q.found) (sets_counts q.meant q.global)
