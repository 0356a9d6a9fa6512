-- A lambda's list numbered, row after row. No place of the code stands here.
use Rattle.std.specs.Prelude.{Option}
use Prim.Native.Nat.{ℕ, zero, suc, ◌+◌, ◌-◌, ◌≤◌, ◌<◌}
use mathlib.Core.List.{List, [], ◌∷◌}
use mathlib.Core.Bool.{Bool, true, false, cond, not, beq}
use mathlib.Core.Path.{◌≡◌, refl, ap, sym, subst, ◌∙◌}
use native.Mathlib.Omega.{arith}
use borrow.Author.Tests.{ltb-false}
use native.Mathlib.Numerals.{add-one}
use lib.ListN.{length, get_or, set}
use Rattle.scope_map.proofs.Laws.Size.{define-size}
use Rattle.semantic.specs.Rows.{ListEntry, no_list_entry}
use Rattle.semantic.specs.ListEntries.{on_info}
use Rattle.semantic.specs.declared.ListAt.{ListAt}
use Rattle.semantic.specs.declared.ScopeInfo.{ScopeInfo}
use Rattle.pass.specs.State.{State, list_entry_at}
use Rattle.pass.specs.Lists.{near, is_near, capture_of, number_row, number_rows, number_list}
use Rattle.pass.specs.Run.{list_entries_most}
use Rattle.pass_laws.specs.Laws.Sound.Each.{fine}
use Rattle.pass_laws.specs.Laws.Sound.Scopes.{KeepsUses, heap_uses, capture-uses, each_row}
use Rattle.work.specs.Laws.Works.{captures_many}
use Rattle.work.specs.Tied.{raw, Tied, Good}
use Rattle.work.specs.Laws.Good.{good_where}
use Rattle.work.specs.declared.Pass.{Pass}
use Rattle.lists.specs.declared.rows.ListEntry.{ListEntry as Coded}
use Rattle.lists.specs.Contract.{LoadsListEntry, Inside}
use Rattle.amending.specs.Contract.{SomeHeld, CapturesRoom, Numbers}
use Rattle.amending.specs.Numbered.{numbered_by, is_due, numbered_row, TakeHeld, TakesRow, RowHeld, row_done, NumbersRow, due, RowsHeld, rows_done, NumbersRows, TellsMutated}

-- A state stays good

keeps_uses : (heap : Bool) → KeepsUses (numbered_by heap)
keeps_uses true = heap_uses
keeps_uses false = capture-uses

numbered_good : {rs : List ℕ} (heap : Bool) (r i : ℕ) (s : State) → r < list_entries_most → Good rs s → Good rs (numbered_row heap r i s)
unfolding number_row
numbered_good heap r i s h g =
    good_where (λ Q. Q.row r) h tt g (record { rows = refl; arguments = refl })
    (λ Q l q F z k. each_row l z heap (numbered_by heap) (keeps_uses heap) r i (list_entry_at s r) q (fine k r) k)

either_good : {rs : List ℕ} (b : Bool) {s t : State} → Good rs s → Good rs t → Good rs (cond b s t)
either_good true g h = g
either_good false g h = h

row_good : {rs : List ℕ} (heap : Bool) (r i : ℕ) (s : State) → r < list_entries_most → Good rs s → Good rs (row_done heap r i s)
row_good heap r i s h g = either_good (is_due heap (list_entry_at s r)) (numbered_good heap r i s h g) g

-- What is due of a row stays so, and a capture more is made where it is due

mutated_kept : (heap : Bool) (i : ℕ) (o : Option ScopeInfo) (v : ScopeInfo) → (numbered_by heap i o v).mutated ≡ v.mutated
mutated_kept true i o v = refl
mutated_kept false i o v = refl

set-marks : (l : List ListEntry) (r : ℕ) (f : ScopeInfo → ScopeInfo) → ((v : ScopeInfo) → (f v).mutated ≡ v.mutated) → (j : ℕ)
    → (get_or (set l r (on_info f (get_or l r no_list_entry))) j no_list_entry).info.mutated ≡ (get_or l j no_list_entry).info.mutated
set-marks l r f k j = go l r j
  where
    go : (l : List ListEntry) (r j : ℕ) → (get_or (set l r (on_info f (get_or l r no_list_entry))) j no_list_entry).info.mutated ≡ (get_or l j no_list_entry).info.mutated
    go [] r j = refl
    go (x ∷ l) zero zero = k x.info
    go (x ∷ l) zero (suc j) = refl
    go (x ∷ l) (suc r) zero = refl
    go (x ∷ l) (suc r) (suc j) = go l r j

-- the same entries are mutated
abbrev SameMarks : State → State → Type 0
SameMarks s t = (j : ℕ) → (list_entry_at t j).info.mutated ≡ (list_entry_at s j).info.mutated

numbered-marks : (heap : Bool) (r i : ℕ) (s : State) → SameMarks s (numbered_row heap r i s)
unfolding number_row
numbered-marks heap r i s =
    set-marks s.facts.captured r (numbered_by heap i (near s (list_entry_at s r).binder.name)) (mutated_kept heap i (near s (list_entry_at s r).binder.name))

either_marks : (b : Bool) (s t u : State) → SameMarks s t → SameMarks s u → SameMarks s (cond b t u)
either_marks true s t u p q = p
either_marks false s t u p q = q

row-marks : (heap : Bool) (r i : ℕ) (s : State) → SameMarks s (row_done heap r i s)
row-marks heap r i s = either_marks (is_due heap (list_entry_at s r)) s (numbered_row heap r i s) s (numbered-marks heap r i s) (λ j. refl)

marked : (heap : Bool) (x y : ListEntry) → y.info.mutated ≡ x.info.mutated → is_due heap y ≡ is_due heap x
marked heap x y e = ap (λ (b : Bool). cond heap b (not b)) e

due_same : (heap : Bool) (k r : ℕ) (s t : State) → SameMarks s t → due heap k r t ≡ due heap k r s
unfolding due
due_same heap zero r s t m = refl
due_same heap (suc k) r s t m =
    ap (λ (b : Bool). cond b 1 0 + due heap k (suc r) t) (marked heap (list_entry_at s r) (list_entry_at t r) (m r))
    ∙ ap (λ (n : ℕ). cond (is_due heap (list_entry_at s r)) 1 0 + n) (due_same heap k (suc r) s t m)

numbered-size : (heap : Bool) (r i : ℕ) (s : State) → length (numbered_row heap r i s).captures.live ≤ suc (length s.captures.live)
unfolding number_row
numbered-size heap r i s =
    let x = list_entry_at s r in
    define-size x.binder.name (capture_of heap (numbered_by heap) r (is_near (near s x.binder.name)) x) s.captures

row-size : (heap : Bool) (r i : ℕ) (s : State) → length (row_done heap r i s).captures.live ≤ length s.captures.live + cond (is_due heap (list_entry_at s r)) 1 0
row-size heap r i s = go (is_due heap (list_entry_at s r))
  where
    go : (b : Bool) → length (cond b (numbered_row heap r i s) s).captures.live ≤ length s.captures.live + cond b 1 0
    go true = omega (arith, numbered-size heap r i s)
    go false = omega arith

-- over k rows
rows-marks : (heap : Bool) (k r i : ℕ) (s : State) → SameMarks s (rows_done heap k r i s)
unfolding number_rows
rows-marks heap zero r i s j = refl
rows-marks heap (suc k) r i s j = rows-marks heap k (suc r) _ (row_done heap r i s) j ∙ row-marks heap r i s j

rows-size : (heap : Bool) (k r i : ℕ) (s : State) → length (rows_done heap k r i s).captures.live ≤ length s.captures.live + due heap k r s
unfolding number_rows due
rows-size heap zero r i s = omega arith
rows-size heap (suc k) r i s =
    let next = rows-size heap k (suc r) (cond (is_due heap (list_entry_at s r)) (suc i) i) (row_done heap r i s) in
    omega (arith, next, row-size heap r i s, due_same heap k (suc r) s (row_done heap r i s) (row-marks heap r i s))

rows_good : {rs : List ℕ} (heap : Bool) (k r i : ℕ) (s : State) → r + k ≤ list_entries_most → Good rs s → Good rs (rows_done heap k r i s)
unfolding number_rows
rows_good heap zero r i s h g = g
rows_good heap (suc k) r i s h g = rows_good heap k (suc r) _ (row_done heap r i s) (omega arith) (row_good heap r i s (omega arith) g)

-- the mutated entries and the others are all
due-both : (k r : ℕ) (s : State) → due false k r s + due true k r s ≡ k
unfolding due
due-both zero r s = omega arith
due-both (suc k) r s = omega (arith, due-both k (suc r) s, one (list_entry_at s r).info.mutated)
  where
    one : (b : Bool) → cond (not b) 1 0 + cond b 1 0 ≡ 1
    one true = refl
    one false = refl

-- the first of those left, and the others
pub first-due : (heap : Bool) {n k : ℕ} (first : ℕ) (s : State) → k < n
    → due heap (n - k) (first + k) s ≡ cond (is_due heap (list_entry_at s (first + k))) 1 0 + due heap (n - (k + 1)) (first + (k + 1)) s
unfolding due
first-due heap {n} {k} first s h =
    let y : n - k ≡ suc (n - (k + 1)) = omega arith in
    let z : suc (first + k) ≡ first + (k + 1) = omega arith in
    ap (λ (j : ℕ). due heap j (first + k) s) y ∙ ap (λ (j : ℕ). cond (is_due heap (list_entry_at s (first + k))) 1 0 + due heap (n - (k + 1)) j s) z

-- where none is due, nothing is done
none-due : (heap : Bool) (k r i : ℕ) (s : State) → due heap k r s ≡ 0 → rows_done heap k r i s ≡ s
unfolding number_rows due
none-due heap zero r i s z = refl
none-due heap (suc k) r i s z = go (is_due heap (list_entry_at s r)) z (none-due heap k (suc r) i s)
  where
    go : (b : Bool) → cond b 1 0 + due heap k (suc r) s ≡ 0 → (due heap k (suc r) s ≡ 0 → rows_done heap k (suc r) i s ≡ s)
        → rows_done heap k (suc r) (cond b (suc i) i) (cond b (numbered_row heap r i s) s) ≡ s
    go true y f = absurd (omega arith)
    go false y f = f (omega arith)

-- One row

module _ (heap : Bool) {r : ℕ} {p : Pass} {C w : List ℕ} {x : Coded} (l : LoadsListEntry C w r x) {b : Bool} (q : beq x.info.mutated heap ≡ b) where
  due_is : {F A : List ℕ} {s : State} → Tied (raw p F C A w) s → is_due heap (list_entry_at s r) ≡ b
  due_is t =
      go heap _ ∙ ap (λ (v : ScopeInfo). beq v.mutated heap) (sym (l.is _ _ _ _ t).info) ∙ q
    where
      go : (heap m : Bool) → cond heap m (not m) ≡ beq m heap
      go true true = refl
      go true false = refl
      go false true = refl
      go false false = refl

  pub row-taken : RowHeld heap r p C w → b ≡ true → TakeHeld r x p C w
  row-taken h e =
      let d : is_due heap (list_entry_at h.held.s r) ≡ true = due_is h.held.tied ∙ e in
      record {
        rs = h.rs;
        held = h.held;
        list_entry = l.is _ _ _ _ h.held.tied;
        inside = h.inside;
        room = omega (arith, h.room, ap {B = ℕ} (λ (c : Bool). cond c 1 0) d);
      }

  pub row-left : {i : ℕ} → b ≡ false → NumbersRow heap r i p C w (p, i) C w
  row-left {i} e = record {
    is = λ rs F A s g t. subst (λ (c : Bool). Tied (raw p F C A w) (cond c (numbered_row heap r i s) s)) (sym (due_is t ∙ e)) t;
    next = λ rs F A s g t. ap (λ (c : Bool). cond c (suc i) i) (sym (due_is t ∙ e));
  }

  pub row-numbered : {i : ℕ} {u : Pass} {C' w' : List ℕ} → b ≡ true → TakesRow heap r i x p C w u C' w'
      → NumbersRow heap r i p C w (u, i + 1) C' w'
  row-numbered {i} {u} {C'} {w'} e k = record {
    is = λ rs F A s g t.
        subst (λ (c : Bool). Tied (raw u F C' A w') (cond c (numbered_row heap r i s) s)) (sym (due_is t ∙ e)) (k.is rs F A s g t (l.is _ _ _ _ t));
    next = λ rs F A s g t. add-one i ∙ ap (λ (c : Bool). cond c (suc i) i) (sym (due_is t ∙ e));
  }

-- The loop: what is left of the rows gives the whole

pub record Left (rs : List ℕ) (heap : Bool) (n first : ℕ) (s : State) (k i : ℕ) (q : Pass) (F C A w : List ℕ) : Type 0 where
  pub t : State
  pub good : Good rs t
  pub tied : Tied (raw q F C A w) t
  pub rest : rows_done heap (n - k) (first + k) i t ≡ rows_done heap n first 0 s

pub record Numbering (heap : Bool) (n first : ℕ) (p : Pass) (C w : List ℕ) (k i : ℕ) (q : Pass) (C' w' : List ℕ) : Type 0 where
  pub left : (rs F A : List ℕ) (s : State) → Good rs s → Tied (raw p F C A w) s → Left rs heap n first s k i q F C' A w'
  pub room : RowsHeld heap (n - k) (first + k) q C' w'

pub rows_at : {heap : Bool} {p : Pass} {C w : List ℕ} (e : ListAt) {first n : ℕ} → first ≡ e.first → n ≡ e.length
    → RowsHeld heap e.length e.first p C w
    → RowsHeld heap n first p C w
rows_at e a b h = rw (a, b) h

module _ {heap : Bool} {n first : ℕ} {p : Pass} {C w : List ℕ} where
  pub numbering_start : RowsHeld heap n first p C w → Numbering heap n first p C w 0 0 p C w
  numbering_start h =
      let y : n - 0 ≡ n = omega arith in
      let z : first + 0 ≡ first = omega arith in
      record {
        left = λ rs F A s g t. record { t = s; good = g; tied = t; rest = rw (y, z) };
        room = record { rs = h.rs; held = h.held; room = rw (y, z) h.room };
      }

  module _ {k i : ℕ} {q : Pass} {C' w' : List ℕ} (m : Numbering heap n first p C w k i q C' w') (h : k < n) (g : first + n ≤ list_entries_most) where
    pub numbering_row : RowHeld heap (first + k) q C' w'
    numbering_row = record { rs = m.room.rs; held = m.room.held; inside = omega arith; room = omega (arith, m.room.room, first-due heap first m.room.held.s h) }

    first_done : (s : State) {j : ℕ} → j ≡ cond (is_due heap (list_entry_at s (first + k))) (suc i) i
        → rows_done heap (n - (k + 1)) (first + (k + 1)) j (row_done heap (first + k) i s) ≡ rows_done heap (n - k) (first + k) i s
    unfolding number_rows
    first_done s {j} e =
        let y : n - k ≡ suc (n - (k + 1)) = omega arith in
        let z : first + (k + 1) ≡ suc (first + k) = omega arith in
        let t = row_done heap (first + k) i s in
        ap (λ (a : ℕ). rows_done heap (n - (k + 1)) a j t) z
        ∙ ap (λ (a : ℕ). rows_done heap (n - (k + 1)) (suc (first + k)) a t) e
        ∙ sym (ap (λ (a : ℕ). rows_done heap a (first + k) i s) y)

    pub numbering_next : {o : Pass × ℕ} {C'' w'' : List ℕ} → NumbersRow heap (first + k) i q C' w' o C'' w''
        → Numbering heap n first p C w (k + 1) o.1 o.0 C'' w''
    numbering_next {o} {C''} {w''} a = record {
      left = λ rs F A s y z.
          let l = m.left rs F A s y z in
          record {
            t = row_done heap (first + k) i l.t;
            good = row_good heap (first + k) i l.t (omega arith) l.good;
            tied = a.is rs F A l.t l.good l.tied;
            rest = first_done l.t (a.next rs F A l.t l.good l.tied) ∙ l.rest;
          };
      room =
          let d = m.room.held in
          let t = row_done heap (first + k) i d.s in
          record {
            rs = m.room.rs;
            held = record {
              facts = d.facts;
              arguments = d.arguments;
              s = t;
              good = row_good heap (first + k) i d.s (omega arith) d.good;
              tied = a.is m.room.rs d.facts d.arguments d.s d.good d.tied;
            };
            room =
                omega (
                  arith,
                  m.room.room,
                  first-due heap first d.s h,
                  row-size heap (first + k) i d.s,
                  due_same heap (n - (k + 1)) (first + (k + 1)) d.s t (row-marks heap (first + k) i d.s),
                );
          };
    }

  pub numbering_last : {k i : ℕ} {q : Pass} {C' w' : List ℕ} → Numbering heap n first p C w k i q C' w' → n ≤ k → (e : ListAt) → first ≡ e.first
      → n ≡ e.length
      → NumbersRows heap e p C w q C' w'
  unfolding number_rows
  numbering_last {k} {i} {q} {C'} {w'} m h e a b = record {
    is = λ rs F A s g t.
        let l = m.left rs F A s g t in
        let z : n - k ≡ 0 = omega arith in
        let ended : l.t ≡ rows_done heap n first 0 s = sym (ap (λ (j : ℕ). rows_done heap j (first + k) i l.t) z) ∙ l.rest in
        let whole : rows_done heap n first 0 s ≡ rows_done heap e.length e.first 0 s = rw (a, b) in
        subst (Tied (raw q F C' A w')) (ended ∙ whole) l.tied;
  }

-- Both

module _ (e : ListAt) {p : Pass} {C w : List ℕ} (inside : Inside e) where
  pub first-held : CapturesRoom p e → SomeHeld p C w → RowsHeld false e.length e.first p C w
  first-held room h = record {
    rs = h.rs;
    held = h.held;
    room = omega (arith, room, captures_many h.held.tied.works, due-both e.length e.first h.held.s);
  }

  module _ {q : Pass} {C' w' : List ℕ} (a : NumbersRows false e p C w q C' w') where
    pub second_held : CapturesRoom p e → SomeHeld p C w → RowsHeld true e.length e.first q C' w'
    second_held room h =
        let d = h.held in
        let t = rows_done false e.length e.first 0 d.s in
        record {
          rs = h.rs;
          held = record {
            facts = d.facts;
            arguments = d.arguments;
            s = t;
            good = rows_good false e.length e.first 0 d.s inside d.good;
            tied = a.is h.rs d.facts d.arguments d.s d.good d.tied;
          };
          room =
              omega (
                arith,
                room,
                captures_many d.tied.works,
                due-both e.length e.first d.s,
                rows-size false e.length e.first 0 d.s,
                due_same true e.length e.first d.s t (rows-marks false e.length e.first 0 d.s),
              );
        }

    pub both : {u : Pass} {C'' w'' : List ℕ} → NumbersRows true e q C' w' u C'' w'' → Numbers e p C w u C'' w''
    unfolding number_list
    both b = record {
      is = λ rs. record {
        is = λ F A s g t.
            b.is rs F A (rows_done false e.length e.first 0 s) (rows_good false e.length e.first 0 s inside g) (a.is rs F A s g t);
      };
    }

    -- no entry is mutated
    pub first_alone : TellsMutated C' w' e false → Numbers e p C w q C' w'
    unfolding number_list
    first_alone m = record {
      is = λ rs. record {
        is = λ F A s g t.
            let u = rows_done false e.length e.first 0 s in
            let k = a.is rs F A s g t in
            let z : due true e.length e.first u ≡ 0 = omega (arith, ltb-false 0 (due true e.length e.first u) (sym (m.is q F A u k))) in
            subst (Tied (raw q F C' A w')) (sym (none-due true e.length e.first 0 u z)) k;
      };
    }

-- a list of no entries
pub none-numbered : (e : ListAt) {p : Pass} {C w : List ℕ} → e.length ≡ 0 → Numbers e p C w p C w
unfolding number_list number_rows
none-numbered e z = record { is = λ rs. record { is = λ F A s g t. rw z t } }
