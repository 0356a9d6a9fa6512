-- A name is read or set on a fresh run: which rule decides, what the row says, and what is left.
use Rattle.std.specs.Prelude.{ℕ, Bool, cond, ◌&&◌, ◌||◌, ◌≡◌, length, get_or, set, eqb, ltb, Option, None, Some}
use mathlib.Core.List.{List, ◌++◌, append-nil}
use Rattle.std.proofs.Math.Bool.{true, false, or-false, or-true}
use Rattle.std.proofs.Math.Path.{refl, ap, sym, subst}
use Rattle.std.proofs.Common.{◌∙◌, arith}
use borrow.Author.Tests.{eq-eqb, ne_eqb}
use Rattle.std.proofs.Math.ListN.{length-set}
use Rattle.tree.specs.Tree.{Ident}
use Rattle.tree.specs.Accepted.{All}
use Rattle.scope_map.specs.ScopeMap.{ScopeMap, Live, get_in, get}
use Rattle.semantic.specs.Information.{NONE, new, with_usage_count, refers_to, with_offset}
use Rattle.semantic.specs.Rows.{Row, Blank, Variable}
use Rattle.semantic.specs.declared.IdentifierStatus.{IdentifierStatus}
use Rattle.semantic.specs.declared.IdentifierStatus.TheVariants.{Global as GlobalKind, Local, Free, HeapAllocated}
use Rattle.semantic.specs.declared.Span.{Span}
use Rattle.semantic.specs.declared.SemanticInformation.{SemanticInformation}
use Rattle.r7rs.specs.Binding.{Binder, Place, Mention, Use, find, use_of}
use Rattle.pass.specs.State.{Entry, Capture, State, insert, amend, row_at, put_entry, entry_at, depth, binder_in, used_entry, last_entry, captured_entry}
use Rattle.pass.specs.Read.{is_prelude, span, mark_if, free_row, Rule, no_entry, depth_one, current_layer, home_slot, capture_rule, entry_rule, rule_of, global_fact, heap_fact, home_fact, read_by, read}
use Rattle.pass_laws.specs.Laws.Rows.{key, key_variable, row_same}
use Rattle.pass_laws.specs.Laws.Changes.{Changes, keeps_lengths}
use Rattle.pass_laws.specs.Laws.Moves.{by}
use Rattle.pass_laws.specs.Laws.Names.{unfound_changes, by_changes}
use Rattle.pass_laws.specs.Laws.Leaves.{names}
use Rattle.pass_laws.specs.Laws.Says.{cell_of, Tells, SaysOf}
use Rattle.pass_laws.specs.Laws.Finds.{Around, Stands, Global, Finds, all_map, all_zip, live_in, Of, of_none, of_some, Got, got_some, deep, search_for}
use Rattle.pass_laws.specs.Laws.Onward.{Parts, onward, calmly, UsedAt, one_use, no_use, UsedAs, still_unused, use_held}

-- Which rule decides

pub data Reads (own : ℕ → Type 0) (E : List Entry) (before : List Use) (p : Place) (bottom : List (Live Ident)) (x : ℕ) : Option Binder → Rule → Type 0 where
  reads_none : binder_in (get_in bottom x) ≡ None → Reads own E before p bottom x None no_entry
  reads_global : {d : Ident} → binder_in (get_in bottom x) ≡ Some d → (own d.at → ⊥) → Reads own E before p bottom x None (depth_one d)
  reads-own : {b : Binder} → Stands own E before b → ltb (length b.around) (length p.around) ≡ false → Reads own E before p bottom x (Some b) (current_layer b.ident)
  reads_outer : {b : Binder} → Stands own E before b → ltb (length b.around) (length p.around) ≡ true → Reads own E before p bottom x (Some b) (home_slot b.ident)

module _ {own : ℕ → Type 0} {bottom : List (Live Ident)} {before : List Use} {p : Place} {s : State} (f : Finds own bottom before p s) where
  -- the rule for an entry, which is that of a name in scope
  rule_bound : (x : ℕ) (b : Binder) (d : ℕ) (i : Bool) → Around p.site.layer p.around b → Stands own s.scope.entries before b → d ≡ b.home.layer
      → ltb (length b.around) (length p.around) ≡ i
      → Reads own s.scope.entries before p bottom x (Some b)
      (cond (eqb d 1) (depth_one b.ident) (cond (eqb d (depth s)) (current_layer b.ident) (capture_rule b.ident (get s.captures x))))
  unfolding get_in
  rule_bound x b d true a k h i =
      rw (ne_eqb d 1 (λ z. omega (arith, a.above)), ne_eqb d (depth s) (λ z. omega (arith, deep f, a.outer i)), f.captures) (reads_outer k i)
  rule_bound x b d false a k h i = rw (ne_eqb d 1 (λ z. omega (arith, a.above)), eq-eqb d (depth s) (h ∙ a.own i ∙ sym (deep f))) (reads-own k i)

  rule_for : (x : ℕ) {o : Option Binder} → Of (λ b. Around p.site.layer p.around b × Stands own s.scope.entries before b) o → (q : Option (Live Ident)) → get_in bottom x ≡ q
      → Got (Global own s.scope.entries) q → Reads own s.scope.entries before p bottom x o (entry_rule s x (binder_in (live_in o q)))
  rule_for x of_none None e g = reads_none (ap binder_in e)
  rule_for x of_none (Some l) e (got_some g) = rw (eq-eqb _ 1 g.depth) (reads_global (ap binder_in e) g.apart)
  rule_for x (of_some {b} (a, k)) q e g = rule_bound x b _ (ltb (length b.around) (length p.around)) a k k.held.depth refl

  pub rules : (x : ℕ) → Reads own s.scope.entries before p bottom x (find p.scope x) (rule_of s x)
  unfolding rule_of
  rules x =
      let q = search_for f x in
      subst (λ (o : Option (Live Ident)). Reads own s.scope.entries before p bottom x (find p.scope x) (entry_rule s x (binder_in o))) (sym q.found)
      (rule_for x q.meant (get_in bottom x) refl q.global)

-- What is left

-- the record x alone
abbrev pub Only : ℕ → ℕ → Type 0
Only x y = y ≡ x

abbrev pub read_at : Ident → Place → Mention
read_at x p = record { ident = x; is_set = false; place = p }

pub kept_flag : {c i : Bool} → i ≡ false → c ≡ c || i
kept_flag {c} e = sym (ap (λ (q : Bool). c || q) e ∙ or-false c)

pub raised_flag : (c : Bool) {i : Bool} → i ≡ true → true ≡ c || i
raised_flag c e = sym (ap (λ (q : Bool). c || q) e ∙ or-true c)

-- the entry of a visited record i is used
pub used_finds : {own out left : ℕ → Type 0} {bottom : List (Live Ident)} {before after : List Use} {p : Place} {s t : State} {inner assigned : Bool} (i : ℕ) (e : Entry)
    → Parts own out left → Finds own bottom before p s → (own i → ⊥) → UsedAt i inner assigned before after → UsedAs inner assigned (entry_at s i) e
    → Changes out s t → names t ≡ names s → t.captures ≡ s.captures → t.scope.entries ≡ set s.scope.entries i e → Finds left bottom after p t
used_finds {own} {left = left} {after = after} {p = p} {s} i e parts f v u a c n m k =
    onward parts f after (by c) n (ap (λ (m : ScopeMap Capture). m.live) m ∙ f.captures)
    (λ x o. still_unused u (λ q. v (subst own q (parts.kept x o))) (f.unused x (parts.kept x o)))
    (subst (λ (E : List Entry). All (Stands left E after) p.scope) (sym k)
    (all_map (λ b h.
    record { held = use_held u s.scope.entries e a b h.0.above h.1.held; apart = λ o. h.1.apart (parts.kept b.ident.at o) })
    p.scope (all_zip _ _ p.scope f.around f.stands)))

module _ (classes : List ℕ) {own left : ℕ → Type 0} {bottom : List (Live Ident)} {before : List Use} {p : Place} {s : State} (x : Ident)
    (parts : Parts own (Only x.at) left) (f : Finds own bottom before p s) where
  by_finds : {o : Option Binder} {r : Rule} → Reads own s.scope.entries before p bottom x.name o r → Finds left bottom (before ++ use_of (read_at x p) o) p (read_by classes r x s)
  unfolding insert amend put_entry
  by_finds (reads_none e) = rw append-nil (calmly parts f (λ free. unfound_changes classes x s refl))
  by_finds (reads_global {d} e v) =
      rw append-nil
      (used_finds d.at _ parts f v (no_use d.at before) (record { captured = kept_flag refl; mutated = kept_flag refl; kept = refl })
      (by_changes classes (depth_one d) x s refl) refl refl refl)
  by_finds (reads-own {b} k i) =
      used_finds b.ident.at _ parts f k.apart (one_use before _) (record { captured = kept_flag i; mutated = kept_flag refl; kept = refl })
      (by_changes classes (current_layer b.ident) x s refl) refl refl refl
  by_finds (reads_outer {b} k i) =
      used_finds b.ident.at _ parts f k.apart (one_use before _) (record { captured = raised_flag (entry_at s b.ident.at).captured i; mutated = kept_flag refl; kept = refl })
      (by_changes classes (home_slot b.ident) x s refl) refl refl refl

  pub read_finds : Finds left bottom (before ++ use_of (read_at x p) (find p.scope x.name)) p (read classes x s)
  unfolding read
  read_finds = by_finds (rules f x.name)

-- What the row says

-- the row of T at i has the key of r
pub record HasKey (T : List Row) (i : ℕ) (r : Row) : Type 0 where
  pub is : key (get_or T i Blank) ≡ key r

-- of the state's row
pub record KeyIn (T : List Row) (i : ℕ) (s : State) : Type 0 where
  pub is : key (get_or T i Blank) ≡ key (row_at s i)

pub tells : {T : List Row} {i : ℕ} {v : SemanticInformation} {k : IdentifierStatus} {r d n : ℕ} → HasKey T i (Variable v)
    → v.kind ≡ k → v.refers_to ≡ r → v.depth ≡ d → v.stack_offset ≡ n → Tells T i k r d n
tells {T} {i} e k r d n =
    let (w, q, l) = key_variable (get_or T i Blank) e.is in
    record {
      fact = w;
      is = q;
      kind = ap (λ (u : SemanticInformation). u.kind) l ∙ k;
      refers = ap (λ (u : SemanticInformation). u.refers_to) l ∙ r;
      depth = ap (λ (u : SemanticInformation). u.depth) l ∙ d;
      slot = ap (λ (u : SemanticInformation). u.stack_offset) l ∙ n;
    }

module _ {T : List Row} {i : ℕ} where
  -- the facts, by what decides of them

  pub free_tells : (q : Bool) (x : Ident) {d l : ℕ} → HasKey T i (free_row q d x Blank) → d ≡ l → Tells T i (cond q GlobalKind Free) NONE l NONE
  free_tells true x e d = tells e refl refl d refl
  free_tells false x e d = tells e refl refl d refl

  pub global_tells : (q : Bool) (b x : Ident) → HasKey T i (Variable (global_fact q b x)) → Tells T i GlobalKind b.id 1 NONE
  global_tells true b x e = tells e refl refl refl refl
  global_tells false b x e = tells e refl refl refl refl

  pub local_tells : {d l n : ℕ} {k : IdentifierStatus} (q : Bool) (p : Span) (b : Ident) (e : Entry)
      → HasKey T i (Variable (mark_if q (heap_fact e) (with_offset e.stack_offset (refers_to b.id (with_usage_count 1 (new (cond q HeapAllocated Local) d p))))))
      → cond q HeapAllocated Local ≡ k → d ≡ l → e.stack_offset ≡ n → Tells T i k b.id l n
  local_tells true p b e h k d n = tells h k refl d n
  local_tells false p b e h k d n = tells h k refl d n

module _ (classes : List ℕ) {T : List Row} {own : ℕ → Type 0} {bottom : List (Live Ident)} {before : List Use} {p : Place} {s : State} (x : Ident)
    (f : Finds own bottom before p s) (o : own x.at) where
  -- the row that is written
  put-row : (t : State) {r : Row} → Changes (Only x.at) s (insert x.at r t) → KeyIn T x.at (insert x.at r t) → HasKey T x.at r
  unfolding insert
  put-row t {r} c e =
      let l = (keeps_lengths c).rows in
      record { is = e.is ∙ ap key (row_same x.at r t (omega (arith, f.tables.rows x.at o, length-set t.facts.rows x.at r))) }

  by_says : {b : Option Binder} {r : Rule} → Reads own s.scope.entries before p bottom x.name b r → KeyIn T x.at (read_by classes r x s)
      → SaysOf classes T (cell_of bottom) before (read_at x p) b
  by_says (reads_none n) e =
      let q = is_prelude classes x.name in
      let k = put-row _ (by_changes classes no_entry x s refl) e in
      rw n (free_tells q x (subst (λ (r : Row). HasKey T x.at (free_row q (depth s) x r)) (f.tables.blank x.at o) k) (deep f))
  by_says (reads_global {d} n v) e = rw n (global_tells (is_prelude classes x.name) d x (put-row _ (by_changes classes (depth_one d) x s refl) e))
  by_says (reads-own {b} k i) e =
      let d = entry_at s b.ident.at in
      local_tells (d.captured && d.mutated) (span x) b.ident (last_entry x (used_entry d)) (put-row _ (by_changes classes (current_layer b.ident) x s refl) e)
      (rw (k.held.captured, k.held.mutated, i)) (deep f) k.held.slot
  by_says (reads_outer {b} k i) e =
      let d = captured_entry (last_entry x (used_entry (entry_at s b.ident.at))) in
      tells {v = home_fact (depth s) b.ident d x} (put-row _ (by_changes classes (home_slot b.ident) x s refl) e) (rw i) refl (deep f) k.held.slot

  pub read_says : KeyIn T x.at (read classes x s) → SaysOf classes T (cell_of bottom) before (read_at x p) (find p.scope x.name)
  unfolding read
  read_says e = by_says (rules f x.name) e
