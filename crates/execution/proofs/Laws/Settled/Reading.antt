-- A name is read or set on a second run: what the row tells, and what is left.
use Rattle.std.specs.Prelude.{ℕ, suc, List, [], ◌∷◌, Bool, ◌&&◌, ◌≡◌, get_or, eqb, Option, None, Some}
use Rattle.std.proofs.lemmas.Option.{none-some, same_Some}
use Rattle.std.proofs.Math.Bool.{true, false, cond}
use Rattle.std.proofs.Math.Path.{refl, ap, subst}
use Rattle.std.proofs.Common.{sym, ◌∙◌}
use native.Mathlib.Omega.{arith}
use Rattle.std.proofs.Math.Decide.{ℕ_discrete}
use Rattle.std.proofs.Math.ListN.{set, length-set}
use Rattle.tree.specs.Tree.{Ident, Node}
use Rattle.tree.specs.Accepted.{All}
use Rattle.scope_map.specs.ScopeMap.{Live, get_in}
use Rattle.semantic.specs.Information.{NONE, new, with_usage_count, refers_to, with_heap_offset, with_read_heap_offset, with_captured_from_enclosing}
use Rattle.semantic.specs.Amend.{amended, used_or, mark_if, one_use_more}
use Rattle.semantic.specs.Rows.{Row, Blank, Variable, ListEntry, no_list_entry}
use Rattle.semantic.specs.declared.IdentifierStatus.{IdentifierStatus}
use Rattle.semantic.specs.declared.IdentifierStatus.TheVariants.{Local, Captured, HeapAllocated}
use Rattle.semantic.specs.declared.ScopeInfo.{ScopeInfo}
use Rattle.semantic.specs.declared.SemanticInformation.{SemanticInformation}
use Rattle.pass.specs.State.{Entry, Facts, Capture, Scope, State, info_at, insert, amend, row_at, put_entry, entry_at, depth, binder_in, used_entry, last_entry, captured_entry, note_second, with_captures}
use Rattle.pass.specs.Read.{is_prelude, span, free_fact, Rule, no_entry, depth_one, current_layer, taken_capture, taken_fact, capture_offsets, has_number, use_in, use_capture, count_uses, read_by, read, mutate_at, mutate}
use Rattle.pass_laws.specs.Laws.Rows.{key, key_variable, row_same}
use Rattle.pass_laws.specs.Laws.Changes.{Changes, keeps_lengths}
use Rattle.pass_laws.specs.Laws.Names.{unfound_changes, by_changes, set_changes}
use Rattle.pass_laws.specs.Laws.Leaves.{names}
use Rattle.pass_laws.specs.Laws.Says.{cell_of, is_set_in, used_inside, Tells, SaysOf}
use Rattle.pass_laws.specs.Laws.Finds.{entry_in, Around, Global, live_in, Of, of_none, of_some, Got, got_none, got_some}
use Rattle.pass_laws.specs.Laws.Onward.{Parts}
use Rattle.pass_laws.specs.Laws.Reads.{Only, HasKey, KeyIn, tells, global_tells, local_tells}
use Rattle.pass_laws.specs.Laws.Sets.{set_at}
use Rattle.pass_laws.specs.Laws.Bodies.{no_part}
use Rattle.pass_laws.specs.Laws.Idle.{idle_steps}
use Rattle.pass_laws.specs.Laws.Preserved.{by_preserves}
use Rattle.r7rs.specs.Binding.{Binder, Place, Use, mentions, find}
use Rattle.execution.proofs.Laws.Settled.Refused.{is_twelve_at, second_by, own_twelve}
use Rattle.execution.proofs.Laws.Settled.Layer.{Lives, used_live, uses}
use Rattle.execution.proofs.Laws.Settled.Again.{Frame, HeldAs, held_flag, Stands, one_of, CaughtIn, OffsetsAt, OffsetsIn, Catch, catch_same, FramedIn, Script, Again, again-deep, search_again, calmly_again}
use Rattle.execution.proofs.Laws.Settled.Told.{TellsOf, InnerIn, Noticed}
use Rattle.execution.proofs.Laws.Settled.Rereads.{Rereads, again-none, again_global, again-own, again_outer, rules_again, used-again, Takes}

-- A capture is taken: the entry, the captures, the row

module _ (classes : List ℕ) (b : Ident) (c : Capture) (x : Ident) (s : State) where
  abbrev taken_entry : Entry
  taken_entry = captured_entry (last_entry x (entry_at s b.at))

  -- without the note
  abbrev taken_row : State
  taken_row =
      insert x.at (Variable (taken_fact (depth s) c (info_at s c.row) x))
      (count_uses (suc c.usage_count) c.binder (put_entry b.at taken_entry (use_capture x.name s)))

  abbrev is_refused : Bool
  is_refused = has_number (info_at s c.row).read_capture_offset && eqb (info_at s c.row).capture_offset NONE

  taken_scope : (read_by classes (taken_capture b c) x s).scope ≡ record { names = names s; entries = set s.scope.entries b.at taken_entry }
  unfolding insert amend put_entry
  taken_scope = go is_refused
    where
      go : (q : Bool) → (cond q (note_second 12 x.at taken_row) taken_row).scope ≡ record {
        names = names s;
        entries = set s.scope.entries b.at
            taken_entry;
      }
      go true = refl
      go false = refl

  taken_captures : (read_by classes (taken_capture b c) x s).captures ≡ record { depth = s.captures.depth; live = use_in x.name s.captures.live }
  unfolding insert amend put_entry
  taken_captures = go is_refused
    where
      go : (q : Bool) → (cond q (note_second 12 x.at taken_row) taken_row).captures ≡ record {
        depth = s.captures.depth;
        live = use_in x.name
            s.captures.live;
      }
      go true = refl
      go false = refl

  capture-row : (i : ℕ) → row_at (read_by classes (taken_capture b c) x s) i ≡ row_at taken_row i
  capture-row i = go is_refused
    where
      go : (q : Bool) → row_at (cond q (note_second 12 x.at taken_row) taken_row) i ≡ row_at taken_row i
      go true = refl
      go false = refl

used_caught : (C : List ListEntry) (fr : Option Frame) (x : ℕ) (c : Live Capture) → CaughtIn C fr x (Some c) → CaughtIn C fr x (Some (used_live c))
used_caught C None x c e = absurd (none-some c (sym e))
used_caught C (Some f) x c (one_of a b n d) = one_of a b n d

module _ (classes : List ℕ) (S : Script) {own left : ℕ → Type 0} {bottom : List (Live Ident)} {function : Option Node} {fr : Option Frame} {d : ℕ}
    {old : Lives} {p : Place} {s : State}
    (x : Ident) (is_set : Bool) (parts : Parts own (Only x.at) left) (f : Again S own bottom function fr d old p s)
    (n : Noticed S.U (record { ident = x; is_set = is_set; place = p })) where
  taken_catch : (b : Binder) (t : Takes S fr s f.captures.top p x.name b)
      → Catch S.C fr d old (read_by classes (taken_capture b.ident t.capture.value) x s)
  taken_catch b t =
      let m = f.captures in
      let c = t.capture.value in
      let u = uses d x.name t.capture m.top old m.layer t.found in
      let same = taken_captures classes b.ident c x s in
      let lists = by_preserves idle_steps classes (taken_capture b.ident c) x s in
      let now : Catch S.C fr d old (with_captures (record { depth = s.captures.depth; live = use_in x.name s.captures.live }) s) =
      record {
        top = u.top;
        one = m.one;
        depth = m.depth;
        live = ap (use_in x.name) m.live ∙ u.is;
        layer = u.layer;
        below = m.below;
        caught = λ y. caught_at m t u.top u.here y (u.others y) (ℕ_discrete y x.name);
        mutated = m.mutated;
        offsets = offsets_in fr m t u.top u.here u.others m.offsets;
      } in
      catch_same same (ap (λ (g : Facts). g.captured) lists) now
    where
      caught_at : (m : Catch S.C fr d old s) (t : Takes S fr s m.top p x.name b) (l : Lives) → get_in l x.name ≡ Some (used_live t.capture)
          → (y : ℕ)
          → (¬ (y ≡ x.name) → get_in l y ≡ get_in m.top y) → Dec (y ≡ x.name) → CaughtIn S.C fr y (get_in l y)
      caught_at m t l here y others (yes e) =
          subst (λ (z : ℕ). CaughtIn S.C fr z (get_in l z)) (sym e)
          (subst (CaughtIn S.C fr x.name) (sym here) (used_caught S.C fr x.name t.capture
          (subst (CaughtIn S.C fr x.name) t.found (m.caught x.name))))
      caught_at m t l here y others (no e) = subst (CaughtIn S.C fr y) (sym (others e)) (m.caught y)

      offsets_in : (gr : Option Frame) (m : Catch S.C fr d old s) (t : Takes S fr s m.top p x.name b) (l : Lives)
          → get_in l x.name ≡ Some (used_live t.capture)
          → ((y : ℕ) → ¬ (y ≡ x.name) → get_in l y ≡ get_in m.top y) → OffsetsIn gr m.top s.facts.captured → OffsetsIn gr l s.facts.captured
      offsets_in None m t l here others o = tt
      offsets_in (Some g) m t l here others o = λ y c e. at y c e (ℕ_discrete y x.name)
        where
          at : (y : ℕ) (c : Live Capture) → get_in l y ≡ Some c → Dec (y ≡ x.name) → OffsetsAt g y (get_or s.facts.captured c.value.row no_list_entry).info
          at y c e (yes q) =
              let same = same_Some (used_live t.capture) c (sym here ∙ ap (get_in l) (sym q) ∙ e) in
              subst (λ (z : Live Capture). OffsetsAt g y (get_or s.facts.captured z.value.row no_list_entry).info) same
              (o y t.capture (ap (get_in m.top) q ∙ t.found))
          at y c e (no q) = o y c (sym (others y q) ∙ e)

  at_same : (b c : Binder) → c.ident.at ≡ b.ident.at → HeldAs S.U (entry_in s.scope.entries c.ident.at) c
      → HeldAs S.U (entry_at s b.ident.at) c
  at_same b c e h = subst (λ (i : ℕ). HeldAs S.U (entry_at s i) c) e h

  by_again : {o : Option Binder} {r : Rule} → find p.scope x.name ≡ o → Rereads S own fr s f.captures.top p bottom x.name o r
      → Again S left bottom function fr d old p (read_by classes r x s)
  unfolding insert amend put_entry
  by_again e (again-none g) = calmly_again S f parts (λ free. unfound_changes classes x s refl) refl
  by_again e (again_global {d} g h v) =
      used-again S f d.at _ parts
      (λ b two k z. absurd (omega (arith, k.depth, h, ap (λ (i : ℕ). (entry_at s i).depth) z)))
      (by_changes classes (depth_one d) x s refl) refl refl (catch_same refl refl f.captures) refl
  by_again e (again-own {b} k i) =
      used-again S f b.ident.at _ parts
      (λ c two h z. let g = at_same b c z h in record { depth = g.depth; slot = g.slot; heap = g.heap; captured = g.captured; mutated = g.mutated })
      (by_changes classes (current_layer b.ident) x s refl) refl refl (catch_same refl refl f.captures) refl
  by_again e (again_outer {b} k i t) =
      let c = t.capture.value in
      used-again S f b.ident.at (taken_entry classes b.ident c x s) parts
      (λ c two h z. let g = at_same b c z h in record {
        depth = g.depth;
        slot = g.slot;
        heap = λ q. (refl, (g.heap q).1);
        captured = λ q. ap (λ (j : ℕ). used_inside j S.U) z ∙ n.inner b e i;
        mutated = g.mutated;
      })
      (by_changes classes (taken_capture b.ident c) x s refl) (ap (λ (z : Scope). z.names) (taken_scope classes b.ident c x s))
      (by_preserves idle_steps classes (taken_capture b.ident c) x s)
      (taken_catch b t) (ap (λ (z : Scope). z.entries) (taken_scope classes b.ident c x s))

-- What the row tells

taken_tells : {R : List Row} {i l r d : ℕ} {k : IdentifierStatus} (q enclosing : Bool) (b x : Ident) (v : ScopeInfo)
    → HasKey R i (Variable (with_heap_offset v.heap_offset (with_read_heap_offset v.read_heap_offset (mark_if q (capture_offsets v)
    (with_captured_from_enclosing enclosing (refers_to b.id (with_usage_count 1 (new (cond v.mutated HeapAllocated Captured) d (span x)))))))))
    → cond v.mutated HeapAllocated Captured ≡ k → b.id ≡ r → d ≡ l → Tells R i k r l NONE
taken_tells true enclosing b x v h k r d = tells h k r d refl
taken_tells false enclosing b x v h k r d = tells h k r d refl

-- a fact made before
kept_tells : {R T : List Row} {i r d n : ℕ} {k : IdentifierStatus} (v : SemanticInformation) (w : Row) → key w ≡ key (get_or T i Blank) → Tells T i k r d n
    → HasKey R i (used_or v w) → Tells R i k r d n
kept_tells {R} {T} {i} v w e t h =
    let (u, q, l) = key_variable w (e ∙ ap key t.is) in
    let here : HasKey R i (Variable (one_use_more u)) = subst (λ (z : Row). HasKey R i (used_or v z)) q h in
    tells here (ap (λ (z : SemanticInformation). z.kind) l ∙ t.kind) (ap (λ (z : SemanticInformation). z.refers_to) l ∙ t.refers)
    (ap (λ (z : SemanticInformation). z.depth) l ∙ t.depth) (ap (λ (z : SemanticInformation). z.stack_offset) l ∙ t.slot)

module _ (classes : List ℕ) (S : Script) {own : ℕ → Type 0} {bottom : List (Live Ident)} {function : Option Node} {fr : Option Frame} {d : ℕ} {old : Lives}
    {p : Place}
    {s : State} (x : Ident) (f : Again S own bottom function fr d old p s) (o : own x.at) where
  put-row : {R : List Row} (t : State) {r : Row} → Changes (Only x.at) s (insert x.at r t) → KeyIn R x.at (insert x.at r t) → HasKey R x.at r
  unfolding insert
  put-row t {r} c e =
      let l = (keeps_lengths c).rows in
      record { is = e.is ∙ ap key (row_same x.at r t (omega (arith, f.tables.rows x.at o, length-set t.facts.rows x.at r))) }

  -- the row of a capture that is taken
  taken-written : (b : Ident) (c : Capture) → row_at (taken_row classes b c x s) x.at ≡ Variable (taken_fact (depth s) c (info_at s c.row) x)
  unfolding insert amend put_entry
  taken-written b c =
      let u = count_uses (suc c.usage_count) c.binder (put_entry b.at (taken_entry classes b c x s) (use_capture x.name s)) in
      row_same x.at _ u (omega (
        arith,
        f.tables.rows x.at o,
        length-set s.facts.rows c.binder.at
            (amended (with_usage_count (suc c.usage_count)) (row_at s c.binder.at)),
      ))

  by_tells : (R : List Row) (before : List Use) (is_set : Bool) {b : Option Binder} {r : Rule} → Rereads S own fr s f.captures.top p bottom x.name b r
      → SaysOf classes S.T (cell_of bottom) before (record { ident = x; is_set = is_set; place = p }) b
      → KeyIn R x.at (read_by classes r x s) → TellsOf classes S R (cell_of bottom) (record { ident = x; is_set = is_set; place = p }) b
  by_tells R before is_set (again-none n) t e =
      let q = is_prelude classes x.name in
      let k = put-row s (by_changes classes no_entry x s refl) e in
      rw n (kept_tells (free_fact q (depth s) x) (row_at s x.at) (f.tables.keys x.at o) (rw n at t) k)
  by_tells R before is_set (again_global {d} n h v) t e = rw n (global_tells (is_prelude classes x.name) d x
      (put-row _ (by_changes classes (depth_one d) x s refl) e))
  by_tells R before is_set (again-own {b} k i) t e =
      let g = entry_at s b.ident.at in
      rw i (local_tells (g.captured && g.mutated) (span x) b.ident (last_entry x (used_entry g))
      (put-row _ (by_changes classes (current_layer b.ident) x s refl) e)
      (ap (λ (q : Bool). cond q HeapAllocated Local) (held_flag k.held)) (again-deep S f) k.held.slot)
  by_tells R before is_set (again_outer {b} k i t) z e =
      let c = t.capture.value in
      let v = info_at s c.row in
      let h : HasKey R x.at (Variable (taken_fact (depth s) c v x)) =
      record { is = e.is ∙ ap key (capture-row classes b.ident c x s x.at ∙ taken-written b.ident c) } in
      rw i (taken_tells (has_number v.read_capture_offset) c.from_enclosing c.binder x v h
      (ap (λ (q : Bool). cond q HeapAllocated Captured) t.mutated) (ap (λ (y : Ident). y.id) t.binder) (again-deep S f))

-- the identifier x is read, or it is the target of a set! that has been mutated
module _ (classes : List ℕ) (S : Script) {own : ℕ → Type 0} {bottom : List (Live Ident)} {function : Option Node} {fr : Option Frame} {d : ℕ} {old : Lives}
    {p : Place} {s : State}
    (x : Ident) (is_set : Bool) (f : Again S own bottom function fr d old p s) (w : FramedIn S.C S.G fr p)
    (m : All (λ k. InnerIn (S.G k) (record { ident = x; is_set = is_set; place = p })) p.around) where
  pub read_again : {left : ℕ → Type 0} → Noticed S.U (record { ident = x; is_set = is_set; place = p }) → Parts own (Only x.at) left
      → Again S left bottom function fr d old p (read classes x s)
  unfolding read
  read_again n parts = by_again classes S x is_set parts f n refl (rules_again S f w x is_set m)

  pub read_tells : (R : List Row) (before : List Use) → own x.at
      → SaysOf classes S.T (cell_of bottom) before (record { ident = x; is_set = is_set; place = p }) (find p.scope x.name)
      → KeyIn R x.at (read classes x s) → TellsOf classes S R (cell_of bottom) (record { ident = x; is_set = is_set; place = p }) (find p.scope x.name)
  unfolding read
  read_tells R before o t e = by_tells classes S x f o R before is_set (rules_again S f w x is_set m) t e

-- What is refused
module _ (classes : List ℕ) (S : Script) {own : ℕ → Type 0} {bottom : List (Live Ident)} {fr : Option Frame} {p : Place} {s : State} {top : Lives} (x : Ident)
    (is_set : Bool) where
  by_second : {o : Option Binder} {r : Rule} → Rereads S own fr s top p bottom x.name o r → s.noted.second ≡ None
      → (read_by classes r x s).noted.second ≡ cond (is_twelve_at S (record { ident = x; is_set = is_set; place = p }) o)
      (Some (record { number = 12; at = x.at })) None
  unfolding insert amend put_entry
  by_second (again-none g) e = e
  by_second (again_global g h v) e = e
  by_second (again-own {b} k i) e = e ∙ rw (own_twelve S.G p.scope x.name b p.around i)
  by_second (again_outer {b} k i t) e = go is_refused_here refl ∙ ap (λ (q : Bool). cond q (Some (record { number = 12; at = x.at })) None) t.refused
    where
      c : Capture
      c = t.capture.value

      is_refused_here : Bool
      is_refused_here = is_refused classes b.ident c x s

      go : (q : Bool) → is_refused_here ≡ q → (cond q (note_second 12 x.at (taken_row classes b.ident c x s))
          (taken_row classes b.ident c x s)).noted.second
          ≡ cond q (Some (record { number = 12; at = x.at })) None
      go true q = rw e
      go false q = e

pub read_second : (classes : List ℕ) (S : Script) {own : ℕ → Type 0} {bottom : List (Live Ident)} {function : Option Node} {fr : Option Frame} {d : ℕ}
    {old : Lives} {p : Place} {s : State}
    (x : Ident) (is_set : Bool) → Again S own bottom function fr d old p s → FramedIn S.C S.G fr p → All
    (λ k. InnerIn (S.G k) (record { ident = x; is_set = is_set; place = p })) p.around
    → s.noted.second ≡ None → (read classes x s).noted.second ≡ second_by S (mentions (record { ident = x; is_set = is_set; place = p }) ∷ [])
unfolding read second_by
read_second classes S x is_set f w m e = by_second classes S x is_set (rules_again S f w x is_set m) e

-- the target of a set! is mutated
module _ (S : Script) {own : ℕ → Type 0} {bottom : List (Live Ident)} {function : Option Node} {fr : Option Frame} {d : ℕ} {old : Lives} {p : Place} {s : State}
    (x : Ident) (f : Again S own bottom function fr d old p s) (n : Noticed S.U (set_at x p)) where
  sets_again : {o : Option Binder} {q : Option (Live Ident)} → find p.scope x.name ≡ o
      → Of (λ b. Around p.site.layer p.around b × Stands S.U own s.scope.entries b) o
      → Got (Global own s.scope.entries) q → Again S own bottom function fr d old p (mutate_at (binder_in (live_in o q)) s)
  unfolding insert amend put_entry
  sets_again z of_none got_none = f
  sets_again z of_none (got_some {e} g) =
      used-again S f e.value.at _ no_part (λ b two k z. absurd (omega (arith, k.depth, g.depth, ap (λ (i : ℕ). (entry_at s i).depth) z)))
      (set_changes (Some e.value) s) refl refl (catch_same refl refl f.captures) refl
  sets_again z (of_some {b} (a, k)) g =
      used-again S f b.ident.at _ no_part
      (λ c two h w. let g = subst (λ (i : ℕ). HeldAs S.U (entry_at s i) c) w h in record {
        depth = g.depth;
        slot = g.slot;
        heap = λ q. ((g.heap q).0, refl);
        captured = g.captured;
        mutated = λ q. ap (λ (j : ℕ). is_set_in j S.U) w ∙ n.set b z refl;
      })
      (set_changes (Some b.ident) s) refl refl (catch_same refl refl f.captures) refl

  pub mutate-again : Again S own bottom function fr d old p (mutate x.name s)
  unfolding mutate
  mutate-again =
      let q = search_again S f x.name in
      subst (λ (o : Option (Live Ident)). Again S own bottom function fr d old p (mutate_at (binder_in o) s)) (sym q.found)
      (sets_again refl q.meant q.global)
