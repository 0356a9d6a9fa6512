-- The walk as a sequence of small changes of the state: no step does more than these. What holds of each of them holds of every visit.
use Rattle.std.specs.Prelude.{ℕ, ◌-◌, ◌≤◌, List, Bool, true, false, cond, ◌≡◌, refl, length, get_or, Option, None, Some}
use Rattle.std.proofs.Common.{ap, ◌∙◌, arith, lt-ltb, length-set}
use Rattle.scope_map.specs.ScopeMap.{ScopeMap, pop_layer}
use Rattle.tree.specs.Tree.{Ident}
use Rattle.tree.specs.Check.{Refusal}
use Rattle.semantic.specs.Rows.{Row, Blank, CallSite}
use Rattle.semantic.specs.declared.SemanticInformation.{SemanticInformation}
use Rattle.semantic.specs.declared.CallSiteInformation.{CallSiteInformation}
use Rattle.pass.specs.State.{Entry, Facts, Capture, Noted, State, with_facts, with_names, with_captures, with_context, with_noted, row_at, insert, amend, entry_at, put_entry, depth}
use Rattle.pass.specs.Lambda.{open_scope, close_scope}
use Rattle.semantic.specs.Kinds.{is_call_site}
use Rattle.pass_laws.specs.Laws.Rows.{key, Marks, row_other, key-amended}

-- a refusal that only a second run meets
abbrev pub Second : Option Refusal → Type 0
Second o = (r : Refusal) → o ≡ Some r → (11 ≤ r.number) × (r.number ≤ 12)

-- what was noted stays noted
pub record Later (m n : Noted) : Type 0 where
  pub nine : n.nine ≡ None → m.nine ≡ None
  pub ten : n.ten ≡ None → m.ten ≡ None
  pub second : n.second ≡ None → m.second ≡ None
  pub first_nine : (i : ℕ) → m.nine ≡ Some i → n.nine ≡ Some i
  pub first_ten : (i : ℕ) → m.ten ≡ Some i → n.ten ≡ Some i
  pub first_second : (r : Refusal) → m.second ≡ Some r → n.second ≡ Some r
  pub numbers : Second m.second → Second n.second

-- and no 9 is noted anew unless names change
pub record Noting (free : Type 0) (m n : Noted) : Type 0 where
  pub later : Later m n
  pub nine : (free → ⊥) → n.nine ≡ m.nine

-- new lists, and the same rows
pub record Relisted (f g : Facts) : Type 0 where
  pub rows : g.rows ≡ f.rows
  pub captured : length g.captured ≡ length f.captured
  pub arguments : length g.arguments ≡ length f.arguments

-- what lasts of an entry while its name lives
abbrev pub lasting_entry : Entry → Entry
lasting_entry e = record {
  captured = false;
  mutated = false;
  usage_count = 0;
  last_used = None;
  stack_offset = e.stack_offset;
  heap_offset = e.heap_offset;
  depth = e.depth;
}

-- an entry that was used or set
pub record Used (d e : Entry) : Type 0 where
  pub captured : d.captured ≡ true → e.captured ≡ true
  pub mutated : d.mutated ≡ true → e.mutated ≡ true
  pub kept : lasting_entry e ≡ lasting_entry d

infixl 40 ◌⨾◌
-- Facts and entries are written at the records in `own`, a call's fact is made at those in `sites` alone; the fact of any other is at most marked, its entry
-- at most used. Names, entries and captures change if `free` holds.
pub data CallSteps (free : Type 0) (own sites : ℕ → Type 0) : State → State → Type 0 where
  same : {s : State} → CallSteps free own sites s s
  ◌⨾◌ : {s t u : State} → CallSteps free own sites s t → CallSteps free own sites t u → CallSteps free own sites s u
  row : {s : State} (i : ℕ) (r : Row) → own i → (is_call_site (row_at s i) ≡ false → is_call_site r ≡ false) → CallSteps free own sites s (insert i r s)
  site : {s : State} (i : ℕ) (v : CallSiteInformation) → sites i → CallSteps free own sites s (insert i (CallSite v) s)
  mark : {s : State} (f : SemanticInformation → SemanticInformation) (i : ℕ) → Marks f → CallSteps free own sites s (amend f i s)
  entry : {s : State} → free → (i : ℕ) (e : Entry) → own i → CallSteps free own sites s (put_entry i e s)
  used : {s : State} → free → (i : ℕ) (e : Entry) → Used (entry_at s i) e → CallSteps free own sites s (put_entry i e s)
  names : {s : State} → free → (m : ScopeMap Ident) → m.depth ≡ depth s → CallSteps free own sites s (with_names m s)
  layer : {s t : State} → free → CallSteps free own sites (open_scope s) t → CallSteps free own sites s (close_scope t)
  lists : {s : State} (f : Facts) → Relisted s.facts f → CallSteps free own sites s (with_facts f s)
  captures : {s : State} → free → (m : ScopeMap Capture) → CallSteps free own sites s (with_captures m s)
  context : {s : State} (c : ℕ) → CallSteps free own sites s (with_context c s)
  note : {s : State} (n : Noted) → Noting free s.noted n → CallSteps free own sites s (with_noted n s)

abbrev pub CallChanges : (ℕ → Type 0) → (ℕ → Type 0) → State → State → Type 0
CallChanges = CallSteps (Unit {0})

-- a call's fact is written where any other is
abbrev pub Steps : Type 0 → (ℕ → Type 0) → State → State → Type 0
Steps free own = CallSteps free own own

abbrev pub Changes : (ℕ → Type 0) → State → State → Type 0
Changes = Steps (Unit {0})

-- by a test
pub either : {free : Type 0} {own sites : ℕ → Type 0} {s t u : State} (b : Bool) → CallSteps free own sites s t → CallSteps free own sites s u
    → CallSteps free own sites s (cond b t u)
either true c d = c
either false c d = d

-- more records may be written
pub widen : {free : Type 0} {own wide : ℕ → Type 0} → ((x : ℕ) → own x → wide x) → {s t : State} → Steps free own s t → Steps free wide s t
widen w same = same
widen w (c ⨾ d) = widen w c ⨾ widen w d
widen w (row i r o p) = row i r (w i o) p
widen w (site i v o) = site i v (w i o)
widen w (mark f i m) = mark f i m
widen w (entry n i e o) = entry n i e (w i o)
widen w (used n i e u) = used n i e u
widen w (names n m e) = names n m e
widen w (layer n c) = layer n (widen w c)
widen w (lists f l) = lists f l
widen w (captures n m) = captures n m
widen w (context c) = context c
widen w (note n l) = note n l

-- Rows: the key of any other record is kept
pub keeps_key : {free : Type 0} {own : ℕ → Type 0} {s t : State} → Steps free own s t → (x : ℕ) → (own x → ⊥) → key (row_at t x) ≡ key (row_at s x)
unfolding put_entry open_scope close_scope
keeps_key same x o = refl
keeps_key (c ⨾ d) x o = keeps_key d x o ∙ keeps_key c x o
keeps_key (row {s} i r w p) x o = ap key (row_other i r s x (λ e. o (rw e w)))
keeps_key (site {s} i v w) x o = ap key (row_other i (CallSite v) s x (λ e. o (rw e w)))
keeps_key (mark {s} f i m) x o = key-amended f m i s x
keeps_key (entry n i e w) x o = refl
keeps_key (used n i e u) x o = refl
keeps_key (names n m e) x o = refl
keeps_key (layer n c) x o = keeps_key c x o
keeps_key (lists f l) x o = ap (λ (r : List Row). key (get_or r x Blank)) l.rows
keeps_key (captures n m) x o = refl
keeps_key (context c) x o = refl
keeps_key (note n l) x o = refl

-- Tables keep their lengths
pub record Lengths (s t : State) : Type 0 where
  pub rows : length t.facts.rows ≡ length s.facts.rows
  pub captured : length t.facts.captured ≡ length s.facts.captured
  pub arguments : length t.facts.arguments ≡ length s.facts.arguments
  pub entries : length t.scope.entries ≡ length s.scope.entries

pub untouched : {s t : State} → t.facts ≡ s.facts → t.scope.entries ≡ s.scope.entries → Lengths s t
untouched f e =
    record {
      rows = ap (λ (g : Facts). length g.rows) f;
      captured = ap (λ (g : Facts). length g.captured) f;
      arguments = ap (λ (g : Facts). length g.arguments) f;
      entries = ap length e;
    }

insert_lengths : (i : ℕ) (r : Row) (s : State) → Lengths s (insert i r s)
unfolding insert
insert_lengths i r s = record { rows = length-set s.facts.rows i r; captured = refl; arguments = refl; entries = refl }

put_lengths : (i : ℕ) (e : Entry) (s : State) → Lengths s (put_entry i e s)
unfolding put_entry
put_lengths i e s = record { rows = refl; captured = refl; arguments = refl; entries = length-set s.scope.entries i e }

pub lengths_trans : {s t u : State} → Lengths s t → Lengths t u → Lengths s u
lengths_trans p q = record { rows = q.rows ∙ p.rows; captured = q.captured ∙ p.captured; arguments = q.arguments ∙ p.arguments; entries = q.entries ∙ p.entries }

pub keeps_lengths : {free : Type 0} {own : ℕ → Type 0} {s t : State} → Steps free own s t → Lengths s t
unfolding put_entry open_scope close_scope amend
keeps_lengths same = untouched refl refl
keeps_lengths (c ⨾ d) = lengths_trans (keeps_lengths c) (keeps_lengths d)
keeps_lengths (row {s} i r w p) = insert_lengths i r s
keeps_lengths (site {s} i v w) = insert_lengths i (CallSite v) s
keeps_lengths (mark {s} f i m) = insert_lengths i _ s
keeps_lengths (entry {s} n i e w) = put_lengths i e s
keeps_lengths (used {s} n i e u) = put_lengths i e s
keeps_lengths (names n m e) = untouched refl refl
keeps_lengths (layer n c) = let p = keeps_lengths c in record { rows = p.rows; captured = p.captured; arguments = p.arguments; entries = p.entries }
keeps_lengths (lists f l) = record { rows = ap length l.rows; captured = l.captured; arguments = l.arguments; entries = refl }
keeps_lengths (captures n m) = untouched refl refl
keeps_lengths (context c) = untouched refl refl
keeps_lengths (note n l) = untouched refl refl

-- Layers: as many as before
popped : {A : Type 0} (m : ScopeMap A) → 2 ≤ m.depth → (pop_layer m).depth ≡ m.depth - 1
popped m h = rw (lt-ltb 1 m.depth h)

pub same_depth : {free : Type 0} {own sites : ℕ → Type 0} {s t : State} → CallSteps free own sites s t → 1 ≤ depth s → depth t ≡ depth s
unfolding put_entry open_scope close_scope amend insert
same_depth same h = refl
same_depth (c ⨾ d) h = let e = same_depth c h in same_depth d (omega arith) ∙ e
same_depth (row i r w p) h = refl
same_depth (site i v w) h = refl
same_depth (mark f i m) h = refl
same_depth (entry n i e w) h = refl
same_depth (used n i e u) h = refl
same_depth (names n m e) h = e
same_depth (layer {s} {t} n c) h = let e = same_depth c (omega arith) in popped t.scope.names (omega arith) ∙ omega arith
same_depth (lists f l) h = refl
same_depth (captures n m) h = refl
same_depth (context c) h = refl
same_depth (note n l) h = refl

pub keeps_depth : {free : Type 0} {own : ℕ → Type 0} {s t : State} → Steps free own s t → 1 ≤ depth s → depth t ≡ depth s
keeps_depth c h = same_depth c h

-- Refusals: one that was noted stays
pub no_later : {n : Noted} → Later n n
no_later = record { nine = λ e. e; ten = λ e. e; second = λ e. e; first_nine = λ i e. e; first_ten = λ i e. e; first_second = λ r e. e; numbers = λ h. h }

pub later_trans : {l m n : Noted} → Later l m → Later m n → Later l n
later_trans p q =
    record {
      nine = λ e. p.nine (q.nine e);
      ten = λ e. p.ten (q.ten e);
      second = λ e. p.second (q.second e);
      first_nine = λ i e. q.first_nine i (p.first_nine i e);
      first_ten = λ i e. q.first_ten i (p.first_ten i e);
      first_second = λ r e. q.first_second r (p.first_second r e);
      numbers = λ h. q.numbers (p.numbers h);
    }

pub keeps_noted : {free : Type 0} {own : ℕ → Type 0} {s t : State} → Steps free own s t → Later s.noted t.noted
unfolding put_entry open_scope close_scope amend insert
keeps_noted same = no_later
keeps_noted (c ⨾ d) = later_trans (keeps_noted c) (keeps_noted d)
keeps_noted (row i r w p) = no_later
keeps_noted (site i v w) = no_later
keeps_noted (mark f i m) = no_later
keeps_noted (entry n i e w) = no_later
keeps_noted (used n i e u) = no_later
keeps_noted (names n m e) = no_later
keeps_noted (layer n c) = keeps_noted c
keeps_noted (lists f l) = no_later
keeps_noted (captures n m) = no_later
keeps_noted (context c) = no_later
keeps_noted (note n l) = l.later

-- Steps by which no name, entry or capture changes
pub record Quiet (s t : State) : Type 0 where
  pub scope : t.scope ≡ s.scope
  pub captures : t.captures ≡ s.captures
  pub nine : t.noted.nine ≡ s.noted.nine

pub quiet : {own : ℕ → Type 0} {s t : State} → Steps ⊥ own s t → Quiet s t
unfolding amend insert
quiet same = record { scope = refl; captures = refl; nine = refl }
quiet (c ⨾ d) =
    let p = quiet c in
    let q = quiet d in
    record { scope = q.scope ∙ p.scope; captures = q.captures ∙ p.captures; nine = q.nine ∙ p.nine }
quiet (row i r w p) = record { scope = refl; captures = refl; nine = refl }
quiet (site i v w) = record { scope = refl; captures = refl; nine = refl }
quiet (mark f i m) = record { scope = refl; captures = refl; nine = refl }
quiet (entry n i e w) = absurd n
quiet (used n i e u) = absurd n
quiet (names n m e) = absurd n
quiet (layer n c) = absurd n
quiet (lists f l) = record { scope = refl; captures = refl; nine = refl }
quiet (captures n m) = absurd n
quiet (context c) = record { scope = refl; captures = refl; nine = refl }
quiet (note n l) = record { scope = refl; captures = refl; nine = l.nine (λ o. o) }
