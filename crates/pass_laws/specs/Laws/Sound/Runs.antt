-- `Sound` and `Counted` from the start of a run to its end, and which entries a run makes.
use Rattle.std.specs.Prelude.{ℕ, ◌+◌, ◌≤◌, ◌<◌, List, Bool, true, false, ◌≡◌, get_or, Option, Some}
use Rattle.std.proofs.Math.Path.{refl}
use Rattle.std.proofs.Common.{arith}
use Rattle.tree.specs.Tree.{Ident, Tree, Trees, ident, const, if, letin, define, lambda, sequence, call, set!, nil, cons, flats, size, sizes, begins, ands, whens}
use Rattle.tree.proofs.Laws.Tree.{length_flats}
use Rattle.tree.specs.Accepted.{Accepted}
use Rattle.tree.specs.Define.{top_level}
use Rattle.semantic.specs.Rows.{Row, Blank, no_list_entry}
use Rattle.semantic.specs.declared.FunctionInformation.{FunctionInformation}
use Rattle.semantic.specs.declared.IdentifierStatus.TheVariants.{Global}
use Rattle.semantic.specs.declared.IdentifierStatus.{IdentifierStatus}
use Rattle.pass.specs.State.{Entry, Facts, State, no_entry, entry_at}
use Rattle.pass.specs.Visit.{Flags, is_lambda, enter_children, visit, visit_arguments, visit_children, visit_top, visit_tops}
use Rattle.pass.specs.Run.{rows_most, list_entries_most, no_facts, start, run, fresh}
use Rattle.pass_laws.specs.Sound.{Property, Lawful, uses_in, Each, Sound, Counted, Holds, HoldsAll, Listed, Inside, Opens, OpensArguments, OpensChildren, OpensDefine, OpensTop, OpensTops, OpensTested}
use Rattle.pass_laws.specs.Laws.Sound.Lists.{same_each}
use Rattle.pass_laws.specs.Laws.Sound.Each.{Fine, fine}
use Rattle.pass_laws.specs.Laws.Sound.Names.{last_none}
use Rattle.pass_laws.specs.Laws.Sound.Holds.{holds-any, hold_any, tops_hold, hold_map, Recorded, accepted_recorded}
use Rattle.pass_laws.specs.Laws.Sound.Growth.{top_sizes}
use Rattle.pass_laws.specs.Laws.Sound.Known.{uncounted, knowing, inside_listed}
use Rattle.pass_laws.specs.Laws.Sound.Counted.{asking_nothing, counting, any_listed, counted_grow}
use Rattle.pass_laws.specs.Laws.Sound.Visits.{each_children, each_visit, visited_arguments, visited_children, each_visit_top, each_visit_tops}

-- The start of a run

module _ {Q : Property} {F : ℕ → Type 0} (unused : F 0) where
  pub each_start : (f : Facts) → ((i : ℕ) → Fine Q F (get_or f.captured i no_list_entry)) → ((i : ℕ) → F (uses_in (get_or f.rows i Blank))) → Each Q F (start f)
  unfolding start
  each_start f p q = record {
    named = tt;
    binders = tt;
    lasts = same_each (λ (e : Entry). (y : Ident) → e.last_used ≡ Some y → Q.ident y) no_entry rows_most (last_none Q.ident refl);
    list_entries = λ i. (p i).0;
    taken = tt;
    entry_uses = same_each (λ (e : Entry). F e.usage_count) no_entry rows_most unused;
    row_uses = q;
    list_entry_uses = λ i. (p i).1;
    capture_uses = tt;
    owned = λ i n. same_each (λ (e : Entry). e ≡ no_entry) no_entry rows_most refl i;
  }

  -- the first one
  pub each_first : Lawful Q → Each Q F (start no_facts)
  unfolding no_facts
  each_first lawful =
      each_start no_facts (same_each (Fine Q F) no_list_entry list_entries_most (lawful.absent, unused)) (same_each (λ (r : Row). F (uses_in r)) Blank rows_most unused)

  -- the next one, with the facts kept
  pub each_next : {s : State} → Each Q F s → Each Q F (start s.facts)
  each_next {s} h = each_start s.facts (fine h) h.row_uses

-- Whatever has L

module _ (L : Option FunctionInformation → Type 0) (any : (v : Option FunctionInformation) → L v) (classes : List ℕ) where
  mutual
    unfolding Opens

    pub opens_any : (t : Tree) (f : Flags) (s : State) → Opens L classes t f s
    opens_any (ident x) f s = tt
    opens_any (const n q) f s = tt
    opens_any (if n a b c) f s = (opens_any a _ _, opens_any b _ _, opens_any c _ _)
    opens_any (letin n xs es b) f s = (arguments_any es _ _, opens_any b _ _)
    opens_any (define n x b) f s = opens_any b _ _
    opens_any (lambda n xs b) f s = (any _, opens_any b _ _)
    opens_any (sequence (begins n) es) f s = children_any es _ _
    opens_any (sequence (ands n) es) f s = children_any es _ _
    opens_any (sequence (whens b n) es) f s = tested-any es _ _
    opens_any (call n g es) f s = (arguments_any es _ _, opens_any g _ _)
    opens_any (set! n x e) f s = opens_any e _ _

    pub arguments_any : (ts : Trees) (f : Flags) (s : State) → OpensArguments L classes ts f s
    arguments_any nil f s = tt
    arguments_any (cons t ts) f s = (opens_any t _ _, arguments_any ts _ _)

    pub children_any : (ts : Trees) (f : Flags) (s : State) → OpensChildren L classes ts f s
    children_any nil f s = tt
    children_any (cons t ts) f s = (opens_any t _ _, children_any ts _ _)

    tested-any : (ts : Trees) (f : Flags) (s : State) → OpensTested L classes ts f s
    tested-any nil f s = tt
    tested-any (cons t ts) f s = (opens_any t _ _, children_any ts _ _)

  define-any : (l : Bool) (x : Ident) (b : Tree) (s : State) → OpensDefine L classes l x b s
  define-any true x b s = opens_any b _ _
  define-any false x b s = opens_any b _ _

  pub top-any : (t : Tree) (s : State) → OpensTop L classes t s
  unfolding OpensTop
  top-any (ident x) s = tt
  top-any (const n q) s = tt
  top-any (if n a b c) s = opens_any (if n a b c) _ _
  top-any (letin n xs es b) s = opens_any (letin n xs es b) _ _
  top-any (define n x b) s = define-any (is_lambda b) x b s
  top-any (lambda n xs b) s = opens_any (lambda n xs b) _ _
  top-any (sequence n es) s = opens_any (sequence n es) _ _
  top-any (call n g es) s = opens_any (call n g es) _ _
  top-any (set! n x e) s = opens_any (set! n x e) _ _

  pub tops_any : (ts : Trees) (s : State) → OpensTops L classes ts s
  unfolding OpensTops
  tops_any nil s = tt
  tops_any (cons t ts) s = (top-any t s, tops_any ts _)

-- Counts of uses: a visit adds no more than the tree has records

abbrev Unlisted : Option FunctionInformation → Type 0
Unlisted v = Listed (λ r. Unit {0}) v

module _ (classes : List ℕ) {k : ℕ} where
  pub visit_counted : (t : Tree) (f : Flags) (s : State) → Counted k s → Counted (k + size t) (visit classes t f s)
  visit_counted t f s h =
      each_visit asking_nothing counting Unlisted (λ v o. o) classes t f s k
      (holds-any _ (λ x. tt) t) (opens_any Unlisted any_listed classes t f s) h

  pub arguments_counted : (ts : Trees) (f : Flags) (s : State) → Counted k s → Counted (k + sizes ts) (visit_arguments classes ts f s)
  arguments_counted ts f s h =
      visited_arguments asking_nothing counting Unlisted (λ v o. o) classes ts f s k
      (hold_any _ (λ x. tt) ts) (arguments_any Unlisted any_listed classes ts f s) h

  pub children_counted : (ts : Trees) (f : Flags) (s : State) → Counted k s → Counted (k + sizes ts) (visit_children classes ts f s)
  children_counted ts f s h =
      visited_children asking_nothing counting Unlisted (λ v o. o) classes ts f s k
      (hold_any _ (λ x. tt) ts) (children_any Unlisted any_listed classes ts f s) h

  pub enter-counted : (kind : IdentifierStatus) (ts : Trees) (s : State) → Counted k s → Counted k (enter_children classes kind ts s)
  enter-counted kind ts s h = each_children (counting.none k) classes kind ts s (hold_any _ (λ x. tt) ts) h

  pub top-counted : (t : Tree) (s : State) → Counted k s → Counted (k + size t) (visit_top classes t s)
  top-counted t s h =
      each_visit_top asking_nothing counting Unlisted (λ v o. o) classes t s k
      (holds-any _ (λ x. tt) t) (top-any Unlisted any_listed classes t s) h

  pub tops_counted : (ts : Trees) (s : State) → Counted k s → Counted (k + sizes ts) (visit_tops classes ts s)
  tops_counted ts s h =
      each_visit_tops asking_nothing counting Unlisted (λ v o. o) classes ts s k
      (hold_any _ (λ x. tt) ts) (tops_any Unlisted any_listed classes ts s) h

  pub run-counted : (ts : Trees) (f : Facts) → Counted k (start f) → Counted (k + sizes ts) (run classes ts f)
  unfolding run
  run-counted ts f h = counted_grow (omega (arith, top_sizes ts)) (tops_counted (top_level ts) _ (enter-counted Global (top_level ts) (start f) h))

-- so no count passes the number of records, or twice that number on a second run

pub fresh-counted : (classes : List ℕ) (ts : Trees) → Counted (sizes ts) (fresh classes ts)
unfolding fresh
fresh-counted classes ts = counted_grow (omega arith) (run-counted classes ts no_facts (each_first (counting.none 0) asking_nothing))

-- Entries: a run makes none but for identifiers, which stand at records of the tree

abbrev placed : ℕ → Property
placed n = record { ident = λ x. x.at < n; list_entry = λ x. Unit {0}; row = λ r. Unit {0}; capture = λ r b. Unit {0} }

placing : (n : ℕ) → Lawful (placed n)
placing n = record { absent = tt; made = λ b e p. tt; changed = λ x v e p. tt; taken = λ r x q p. tt }

pub run_owned : (classes : List ℕ) {N : ℕ} {rs : List ℕ} {ts : Trees} → Accepted N rs ts → (f : Facts) (i : ℕ) → sizes ts ≤ i
    → entry_at (run classes ts f) i ≡ no_entry
unfolding run
run_owned classes {ts = ts} a f i h =
    let us = top_level ts in
    let inside : (x : Ident) → Recorded (flats ts) x → x.at < sizes ts = λ x r. omega (arith, r.inside, length_flats ts) in
    let p = tops_hold (λ x. x.at < sizes ts) ts (hold_map (Recorded (flats ts)) (λ x. x.at < sizes ts) inside ts (accepted_recorded a)) in
    let entered = each_children tt classes Global us (start f) p (each_start tt f (λ j. (tt, tt)) (λ j. tt)) in
    (each_visit_tops (placing (sizes ts)) uncounted Unlisted (λ v o. o) classes us _ 0 p (tops_any Unlisted any_listed classes us _) entered).owned i
    (λ b l e. omega (arith, l, e))

-- Identifiers and rows: where each lambda entered finds its list inside the table

pub sound_first : {P : Ident → Type 0} → ((x : Ident) → P x → x.at < rows_most) → Sound P (start no_facts)
sound_first small = each_first tt (knowing small)

pub sound_next : {P : Ident → Type 0} {s : State} → Sound P s → Sound P (start s.facts)
sound_next h = each_next tt h

module _ {P : Ident → Type 0} (small : (x : Ident) → P x → x.at < rows_most) (classes : List ℕ) where
  pub visit_sound : (t : Tree) (f : Flags) (s : State) → Holds P t → Opens Inside classes t f s → Sound P s → Sound P (visit classes t f s)
  visit_sound t f s p o h = each_visit (knowing small) uncounted Inside inside_listed classes t f s 0 p o h

  pub arguments_sound : (ts : Trees) (f : Flags) (s : State) → HoldsAll P ts → OpensArguments Inside classes ts f s → Sound P s
      → Sound P (visit_arguments classes ts f s)
  arguments_sound ts f s p o h = visited_arguments (knowing small) uncounted Inside inside_listed classes ts f s 0 p o h

  pub enter_sound : (kind : IdentifierStatus) (ts : Trees) (s : State) → HoldsAll P ts → Sound P s → Sound P (enter_children classes kind ts s)
  enter_sound kind ts s p h = each_children tt classes kind ts s p h

  pub top_sound : (t : Tree) (s : State) → Holds P t → OpensTop Inside classes t s → Sound P s → Sound P (visit_top classes t s)
  top_sound t s p o h = each_visit_top (knowing small) uncounted Inside inside_listed classes t s 0 p o h

  pub tops_sound : (ts : Trees) (s : State) → HoldsAll P ts → OpensTops Inside classes ts s → Sound P s → Sound P (visit_tops classes ts s)
  tops_sound ts s p o h = each_visit_tops (knowing small) uncounted Inside inside_listed classes ts s 0 p o h

  pub run_sound : (ts : Trees) (f : Facts) → HoldsAll P ts → OpensTops Inside classes (top_level ts) (enter_children classes Global (top_level ts) (start f))
      → Sound P (start f)
      → Sound P (run classes ts f)
  unfolding run
  run_sound ts f p o h = let q = tops_hold P ts p in tops_sound (top_level ts) _ q o (enter_sound _ (top_level ts) (start f) q h)
