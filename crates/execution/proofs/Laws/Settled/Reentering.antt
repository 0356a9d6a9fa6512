-- Names enter on a second run: one that an inner lambda uses and that is set enters as a heap entry.
use Prim.Native.Nat.{ℕ, suc, ◌+◌, ◌≤◌, ◌<◌}
use mathlib.Core.List.{List, [], ◌∷◌, reverse_aux}
use Rattle.std.specs.Prelude.{Bool, ◌&&◌, ◌≡◌, refl, length, Option, None, Some}
use Rattle.std.proofs.Math.Bool.{true, false, cond, and-true, and-false}
use Rattle.std.proofs.Common.{true≢false, sym, ◌∙◌, get_or-set_same}
use Rattle.std.proofs.Math.Path.{ap, subst}
use native.Mathlib.Omega.{arith}
use Rattle.std.proofs.Math.ListN.{set, length-set}
use Rattle.tree.specs.Tree.{Ident, Node, NumNames}
use Rattle.tree.specs.Site.{home_at}
use Rattle.tree.specs.Accepted.{All}
use Rattle.scope_map.specs.ScopeMap.{ScopeMap, Live}
use Rattle.semantic.specs.Information.{NONE, new}
use Rattle.semantic.specs.Rows.{Row, Variable, ListEntry}
use Rattle.semantic.specs.declared.IdentifierStatus.{IdentifierStatus}
use Rattle.semantic.specs.declared.IdentifierStatus.TheVariants.{Local, LetVar, HeapAllocated}
use Rattle.r7rs.specs.Binding.{Binder, Place, Use, entering, binders}
use Rattle.pass.specs.State.{Entry, Facts, Scope, State, no_entry, insert, local_entry, heap_entry, depth}
use Rattle.pass.specs.Read.{span, enter}
use Rattle.pass.specs.Lambda.{is_heap, note_heap, or_zero, enter_name, enter_names}
use Rattle.pass_laws.specs.Laws.Rows.{key, row_same}
use Rattle.pass_laws.specs.Laws.Changes.{same, keeps_key, keeps_lengths, keeps_noted}
use Rattle.pass_laws.specs.Laws.Moves.{by}
use Rattle.pass_laws.specs.Laws.Scopes.{Any, name_changes, names_changes}
use Rattle.pass_laws.specs.Laws.Ranges.{Covers, names_writes}
use Rattle.pass_laws.specs.Laws.Keeps.{But, Agree, narrow}
use Rattle.pass_laws.specs.Laws.Leaves.{in_layer, enter_name_lem}
use Rattle.pass_laws.specs.Laws.Layers.{and_left, and_right, live_at}
use Rattle.pass_laws.specs.Laws.Says.{used_inside, is_set_in, Tells}
use Rattle.pass_laws.specs.Laws.Finds.{entry_in, all_map, all_zip}
use Rattle.pass_laws.specs.Laws.Onward.{Parts}
use Rattle.pass_laws.specs.Laws.Reads.{Only, HasKey, KeyIn, tells}
use Rattle.pass_laws.specs.Laws.Enters.{in_scope, enter_captures, enter_entries, around_own}
use Rattle.pass_laws.specs.Laws.Idle.{idle_steps}
use Rattle.pass_laws.specs.Laws.Preserved.{name_preserves, enter_preserves}
use Rattle.tree.specs.Check.{Refusal}
use Rattle.execution.specs.Acceptance.{is_empty}
use Rattle.execution.proofs.Laws.Settled.Unsaid.{unsaid_steps, insert_unsaid}
use Rattle.execution.proofs.Laws.Settled.Refused.{is_eleven_by, second_by}
use Rattle.execution.proofs.Laws.Settled.Layer.{Lives}
use Rattle.execution.proofs.Laws.Settled.Again.{Frame, shared, HeldAs, Stands, set-held, catch_same, Script, tabled, function_still, Again, again-deep, calmly_again}
use Rattle.execution.proofs.Laws.Settled.Told.{told_binder, TellsAll}

-- the first run's entries say which of the names xs, from the place j on, enter as heap entries
abbrev pub Heaps : List Use → List ListEntry → ℕ → List Ident → Type 0
Heaps U before j [] = Unit {0}
Heaps U before j (x ∷ xs) = (is_heap before j ≡ shared U x.at) × Heaps U before (suc j) xs

-- a note of refusal 11 leaves scope and captures alone

heap_scope : (o : Option ℕ) (x : Ident) (s : State) → (note_heap o x s).scope ≡ s.scope
heap_scope None x s = refl
heap_scope (Some n) x s = refl

heap_captures : (o : Option ℕ) (x : Ident) (s : State) → (note_heap o x s).captures ≡ s.captures
heap_captures None x s = refl
heap_captures (Some n) x s = refl

-- the binders bs have entered at the place p, at the n records from k on
pub record Reentered (classes : List ℕ) (S : Script) (cell : Ident
    → Option Ident) (p : Place) (bottom : List (Live Ident)) (function : Option Node) (fr : Option Frame) (d : ℕ) (old : Lives)
    (left : ℕ → Type 0) (bs sc : List Binder) (k n : ℕ) (s t : State) : Type 0 where
  pub again : Again S left bottom function fr d old (in_scope p (reverse_aux bs sc)) t
  pub tells : (R : List Row) → Agree k (k + n) R t → TellsAll classes S R cell (entering bs sc)
  pub second : s.noted.second ≡ None → t.noted.second ≡ second_by S (entering bs sc)

abbrev pub is_none : Option ℕ → Bool
is_none None = true
is_none (Some n) = false

heap_second : (o : Option ℕ) (x : Ident) (s : State) → s.noted.second ≡ None
    → (note_heap o x s).noted.second ≡ cond (is_none o) (Some (record { number = 11; at = x.at })) None
heap_second None x s e = rw e
heap_second (Some n) x s e = e

module _ (kind : IdentifierStatus) (base : ℕ) (heaps : Option ℕ) (before : List ListEntry) (is_let : Bool) (p : Place) (two : 2 ≤ p.site.layer) where
  abbrev binder_of : ℕ → Ident → Binder
  binder_of j x = record { ident = x; is_let = is_let; place = j; around = p.around; home = home_at p.site (base + j) }

  -- the entry that a name enters with
  abbrev entry_of : Bool → ℕ → ℕ → ℕ → Entry
  entry_of q j h d = cond q (heap_entry j (h + or_zero heaps) d) (local_entry (base + j) d)

  name_captures : (q : Bool) (x : Ident) (j h : ℕ) (s : State) → (enter_name kind base heaps before q x j h s).captures ≡ s.captures
  unfolding enter_name insert
  name_captures true x j h s = enter_captures x _ (note_heap heaps x s) ∙ heap_captures heaps x s
  name_captures false x j h s = enter_captures x _ s

  name_entries : (q : Bool) (x : Ident) (j h : ℕ) (s : State)
      → (enter_name kind base heaps before q x j h s).scope.entries ≡ set s.scope.entries x.at (entry_of q j h (depth s))
  unfolding enter_name insert
  name_entries true x j h s = enter_entries x _ (note_heap heaps x s) ∙ ap (λ (c : Scope). set c.entries x.at (heap_entry j (h + or_zero heaps) (depth s)))
      (heap_scope heaps x s)
  name_entries false x j h s = enter_entries x _ s

  new-held : (U : List Use) (q : Bool) (x : Ident) (j h d : ℕ) → shared U x.at ≡ q → d ≡ p.site.layer → HeldAs U (entry_of q j h d) (binder_of j x)
  new-held U true x j h d e k =
      record {
        depth = k;
        slot = rw e;
        heap = λ z. (refl, refl);
        captured = λ z. and_left (used_inside x.at U) (is_set_in x.at U) e;
        mutated = λ z.
            and_right (used_inside x.at U) (is_set_in x.at U) e;
      }
  new-held U false x j h d e k =
      record {
        depth = k;
        slot = rw e;
        heap = λ z. absurd (true≢false (sym z ∙ e));
        captured = λ z. absurd (true≢false (sym z));
        mutated = λ z. absurd
            (true≢false (sym z));
      }

  module _ (S : Script) {own : ℕ → Type 0} {bottom : List (Live Ident)} {function : Option Node} {fr : Option Frame} {d : ℕ} {old : Lives} {sc : List Binder}
      {s : State} where
    name_again : {left : ℕ → Type 0} (q : Bool) (x : Ident) (j h : ℕ) → shared S.U x.at ≡ q → Parts own (Only x.at) left → own x.at
        → Again S own bottom function fr d old (in_scope p sc) s → (enter_name kind base heaps before q x j h s).noted.nine ≡ None
        → Again S left bottom function fr d old (in_scope p (binder_of j x ∷ sc)) (enter_name kind base heaps before q x j h s)
    name_again {left} q x j h e parts o f n =
        let t = enter_name kind base heaps before q x j h s in
        let entry = entry_of q j h (depth s) in
        let en = enter_name_lem kind base heaps before q x j h s (omega (arith, again-deep S f)) n in
        let c = by (name_changes {own = Only x.at} kind base heaps before q x j h s refl) in
        let lists = name_preserves idle_steps kind base heaps before q x j h s in
        let here = get_or-set_same s.scope.entries x.at entry no_entry (f.tables.entries x.at o) in
        let held : HeldAs S.U (entry_in (set s.scope.entries x.at entry) x.at) (binder_of j x) =
        subst (λ (y : Entry). HeldAs S.U y (binder_of j x)) (sym here) (new-held S.U q x j h (depth s) e (again-deep S f)) in
        record {
          tables = tabled parts f.tables c;
          arguments = ap (λ (g : Facts). g.arguments) lists ∙ f.arguments;
          inside = function_still S.T function parts c f.inside;
          captures = catch_same (name_captures q x j h s) (ap (λ (g : Facts). g.captured) lists) f.captures;
          one = f.one;
          live = en.after ∙ ap (λ (m : ScopeMap Ident). in_layer m.depth (live_at m.depth x ∷ m.live)) f.live;
          around = (around_own p.site.layer p.around (binder_of j x) two refl refl, f.around);
          stands = subst (λ (E : List Entry). All (Stands S.U left E) (binder_of j x ∷ sc)) (sym (name_entries q x j h s)) (
            record { held = held; apart = λ l. parts.apart x.at l refl },
            all_map (λ b k.
                record {
                  held = set-held s.scope.entries x.at entry b k.0.above k.1.held (λ z. absurd (k.1.apart (subst own (sym z) o)));
                  apart = λ l. k.1.apart (parts.kept b.ident.at l);
                }) sc (all_zip _ _ sc f.around f.stands),
          );
        }

  -- the row of a name that has entered
  name_row : {R : List Row} (q : Bool) (x : Ident) (j h : ℕ) (s : State) → x.at < length s.facts.rows
      → KeyIn R x.at (enter_name kind base heaps before q x j h s)
      → HasKey R x.at (Variable (new (cond q HeapAllocated kind) (depth s) (span x)))
  unfolding enter_name insert
  name_row true x j h s l k =
      let t = enter x (heap_entry j (h + or_zero heaps) (depth s)) (note_heap heaps x s) in
      let same = (keeps_lengths (name_changes {own = Any} kind base heaps before true x j h s tt)).rows in
      record {
        is = k.is ∙ ap key (row_same x.at _ t (omega (
          arith,
          length-set t.facts.rows x.at
              (Variable (new HeapAllocated (depth s) (span x))),
        )));
      }
  name_row false x j h s l k =
      let t = enter x (local_entry (base + j) (depth s)) s in
      let same = (keeps_lengths (name_changes {own = Any} kind base heaps before false x j h s tt)).rows in
      record { is = k.is ∙ ap key (row_same x.at _ t (omega (arith, length-set t.facts.rows x.at (Variable (new kind (depth s) (span x)))))) }

  name_tells : {R : List Row} (q : Bool) (S : Script) (x : Ident) (j h : ℕ) (s : State) → shared S.U x.at ≡ q → kind ≡ cond is_let LetVar Local
      → depth s ≡ p.site.layer
      → x.at < length s.facts.rows → KeyIn R x.at (enter_name kind base heaps before q x j h s)
      → Tells R x.at (told_binder S (binder_of j x)) NONE p.site.layer NONE
  name_tells true S x j h s e k d l i = rw e (tells (name_row true x j h s l i) refl refl d refl)
  name_tells false S x j h s e k d l i = rw e (tells (name_row false x j h s l i) k refl d refl)

  -- a heap entry outside every lambda is refused
  name_second : (S : Script) (q : Bool) (x : Ident) (j h : ℕ) (s : State) → is_none heaps ≡ (is_let && is_empty p.around) → shared S.U x.at ≡ q
      → s.noted.second ≡ None
      → (enter_name kind base heaps before q x j h s).noted.second ≡ cond (is_eleven_by S (binder_of j x)) (Some (record { number = 11; at = x.at })) None
  unfolding enter_name
  name_second S true x j h s e g n =
      insert_unsaid x.at _ _ ∙ enter_preserves unsaid_steps x _ (note_heap heaps x s) ∙ heap_second heaps x s n ∙ rw (e, g, and-true (is_let && is_empty p.around))
  name_second S false x j h s e g n = insert_unsaid x.at _ _ ∙ enter_preserves unsaid_steps x _ s ∙ n ∙ rw (g, and-false (is_let && is_empty p.around))

  pub enter-again : (classes : List ℕ) (S : Script) (cell : Ident → Option Ident) {own left : ℕ
      → Type 0} {bottom : List (Live Ident)} {function : Option Node} {fr : Option Frame} {d : ℕ} {old : Lives}
      {sc : List Binder} {s : State} (k : ℕ) (xs : List Ident) (j h : ℕ) → NumNames k xs → Covers own k (k + length xs) → ((y : ℕ) → left y → own y)
      → ((y : ℕ) → left y → k ≤ y → y < k + length xs → ⊥) → kind ≡ cond is_let LetVar Local → is_none heaps ≡ (is_let && is_empty p.around)
      → Heaps S.U before j xs → Again S own bottom function fr d old (in_scope p sc) s
      → (enter_names kind base heaps before xs j h s).noted.nine ≡ None
      → Reentered classes S cell p bottom function fr d old left (binders is_let base p j xs) sc k (length xs) s (enter_names kind base heaps before xs j h s)
  unfolding enter_names NumNames binders entering second_by
  enter-again classes S cell k [] j h m o l a e z w f n =
      record {
        again = calmly_again S f (record { written = λ x (z : ⊥). absurd z; kept = l; apart = λ x y z. z }) (λ free. same) refl;
        tells = λ R ag. tt;
        second = λ v. v;
      }
  enter-again classes S cell {own} {left} {sc = sc} {s} k (x ∷ xs) j h m o l a e none_is w f n =
      let q = is_heap before j in
      let t = enter_name kind base heaps before q x j h s in
      let here = o x.at (omega arith) (omega arith) in
      let later = names_changes {own = But x.at} kind base heaps before xs (suc j) (cond q (suc h) h) t
      (names_writes (But x.at) (k + 1) xs m.1 (λ y u v q. omega arith)) in
      let next : ℕ → Type 0 = λ y. own y × ¬ (y ≡ x.at) in
      let parts : Parts own (Only x.at) next = record { written = λ y q. subst own (sym q) here; kept = λ y z. z.0; apart = λ y z q. z.1 q } in
      let one = name_again S q x j h (sym w.0) parts here f ((keeps_noted later).nine n) in
      let rest = enter-again classes S cell {own = next} {left = left} (k + 1) xs (suc j) (cond q (suc h) h) m.1
      (λ y u v. (o y (omega arith) (omega arith), λ q. omega arith))
      (λ y z. (l y z, λ q. a y z (omega arith) (omega arith))) (λ y z u v. a y z (omega arith) (omega arith)) e none_is w.1 one n in
      record {
        again = rest.again;
        tells = λ R ag. (
          name_tells q S x j h s (sym w.0) e (again-deep S f) (f.tables.rows x.at here) (record {
            is = ag.at x.at (omega arith) (omega arith) ∙ keeps_key
                later x.at (λ q. q refl);
          }),
          rest.tells R (narrow ag (omega arith) (omega arith)),
        );
        second = λ v. second_of_lem (is_eleven_by S (binder_of j x)) (name_second S q x j h s none_is (sym w.0) v) rest.second
            (λ r. (keeps_noted later).first_second r);
      }
    where
      second_of_lem : {t u rest : Option Refusal} (b : Bool) → t ≡ cond b (Some (record { number = 11; at = x.at })) None → (t ≡ None → u ≡ rest)
          → ((r : Refusal) → t ≡ Some r → u ≡ Some r)
          → u ≡ cond b (Some (record { number = 11; at = x.at })) rest
      second_of_lem true e f g = g _ e
      second_of_lem false e f g = f e
