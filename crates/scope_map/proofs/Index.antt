-- The hints and links stay bounds: where a hint is set, and where rows enter, leave or move.
use Prim.Native.Nat.{ℕ, suc, ◌+◌, ◌*◌, ◌≤◌, ◌<◌}
use mathlib.Core.List.{List}
use mathlib.Core.Bool.{Bool, true, false, cond}
use mathlib.Core.Path.{◌≡◌, refl, ap, sym, ◌∙◌}
use native.Mathlib.Omega.{arith}
use borrow.Author.Tests.{ltb-true, lt-ltb, eqb-true, eqb-false}
use lib.ListN.{length, get_or, set, drop, length-set}
use lib.Seq.{get_or-drop, get_or-set_same, get_or-set_other, drop-set-lt}
use lib.Dec.{eqb, ltb}
use Rattle.scope_map.specs.Rows.{values_most, row_at, link_at, written}
use Rattle.scope_map.specs.Hints.{rows_length, hints_length, map_length, Roomy, hint_of, with_hint, Indexed, Bounds, Inside, Enters, Leaves, Moves}
use Rattle.scope_map.proofs.Write.{length-written, drop-written, row_written, link_written, other_written, other_link}

-- A hint is set

module _ (t : List ℕ) (x n : ℕ) (h : map_length ≤ length t) where
  length_hint : length (with_hint t x n) ≡ length t
  length_hint = pick (ltb x hints_length)
    where
      pick : (b : Bool) → length (cond b (set t (rows_length + x) n) t) ≡ length t
      pick true = length-set t (rows_length + x) n
      pick false = refl

  drop_hint : drop map_length (with_hint t x n) ≡ drop map_length t
  drop_hint = pick (ltb x hints_length) refl
    where
      pick : (b : Bool) → ltb x hints_length ≡ b → drop map_length (cond b (set t (rows_length + x) n) t) ≡ drop map_length t
      pick true q = drop-set-lt map_length t (rows_length + x) n (omega (arith, ltb-true x hints_length q))
      pick false q = refl

  -- every other number
  cell_hint : (j : ℕ) → (j ≡ rows_length + x → ⊥) → get_or (with_hint t x n) j 0 ≡ get_or t j 0
  cell_hint j g = pick (ltb x hints_length)
    where
      pick : (b : Bool) → get_or (cond b (set t (rows_length + x) n) t) j 0 ≡ get_or t j 0
      pick true = get_or-set_other t (rows_length + x) j n 0 g
      pick false = refl

  row_hint : (k : ℕ) → 3 * k + 3 ≤ rows_length → row_at (with_hint t x n) k ≡ row_at t k
  row_hint k g =
      rw (cell_hint (3 * k) (λ e. omega arith), cell_hint (3 * k + 1) (λ e. omega arith), cell_hint (3 * k + 2) (λ e. omega arith))

  link_hint : (k : ℕ) → 3 * k + 3 ≤ rows_length → link_at (with_hint t x n) k ≡ link_at t k
  link_hint k g = rw (cell_hint (3 * k + 2) (λ e. omega arith))

  hint_here : x < hints_length → hint_of (with_hint t x n) x ≡ n
  hint_here g = rw (lt-ltb x hints_length g) (get_or-set_same t (rows_length + x) n 0 (omega arith))

  hint_other : (y : ℕ) → (y ≡ x → ⊥) → hint_of (with_hint t x n) y ≡ hint_of t y
  hint_other y g = cell_hint (rows_length + y) (λ e. g (omega arith))

-- Where a search starts

pub bounds_hint : {n : ℕ} {t : List ℕ} {x r : ℕ} → x < hints_length → r ≡ hint_of t x → r ≤ n → Bounds n t x r
bounds_hint {x = x} g q l = record { over = λ i k a. i.hinted x g k (omega arith); most = l }

-- The same names, links and hints

pub index_same : {n : ℕ} {t t' : List ℕ} → ((k : ℕ) → k < n → (row_at t' k).name ≡ (row_at t k).name) → ((k : ℕ) → k < n → link_at t' k ≡ link_at t k) →
    drop rows_length t' ≡ drop rows_length t → Indexed n t → Indexed n t'
index_same {t = t} {t'} r l e i = record {
  hinted = λ x g k a b q. i.hinted x g k (omega (arith, hint x)) b (sym (r k b) ∙ q);
  linked = λ j g k a b q. i.linked j g k (omega (arith, l j g)) b (sym (r k (omega arith)) ∙ q ∙ r j g);
}
  where
    hint : (x : ℕ) → hint_of t' x ≡ hint_of t x
    hint x = sym (get_or-drop rows_length t' x 0) ∙ ap (λ (k : List ℕ). get_or k x 0) e ∙ get_or-drop rows_length t x 0

-- A row enters: it is written, then the name's hint is set

module _ (t : List ℕ) (n x d v r : ℕ) (h : Roomy (n + 1) t) (g : v < values_most) (b : Bounds n t x r) where
  abbrev put : List ℕ
  put = written t n x d v r

  abbrev last : List ℕ
  last = with_hint put x (n + 1)

  long : map_length ≤ length put
  long = omega (arith, length-written t n x d v r, h.long)

  entered : row_at last n ≡ record { name = x; layer = d; value = v }
  entered = row_hint put x (n + 1) long n (omega (arith, h.rows)) ∙ row_written t n x d v r g (omega (arith, h.rows, h.long))

  other : (k : ℕ) → 3 * k + 3 ≤ rows_length → (k ≡ n → ⊥) → row_at last k ≡ row_at t k
  other k i e = row_hint put x (n + 1) long k i ∙ other_written t n x d v r k e

  older : (k : ℕ) → k < n → (row_at last k).name ≡ (row_at t k).name
  older k i = ap (λ e. e.name) (other k (omega (arith, h.rows)) (λ e. omega arith))

  hint_older : (y : ℕ) → (y ≡ x → ⊥) → hint_of last y ≡ hint_of t y
  hint_older y e =
      hint_other put x (n + 1) long y e
      ∙ sym (get_or-drop rows_length put y 0)
      ∙ ap (λ (k : List ℕ). get_or k y 0) (drop-written t n x d v r rows_length (omega (arith, h.rows)))
      ∙ get_or-drop rows_length t y 0

  enters_hinted : Indexed n t → (y : ℕ) → y < hints_length → (k : ℕ) → hint_of last y ≤ k → k < n + 1 → (row_at last k).name ≡ y → ⊥
  enters_hinted i y a k l m e = pick (eqb y x) refl (eqb k n) refl
    where
      pick : (c : Bool) → eqb y x ≡ c → (p : Bool) → eqb k n ≡ p → ⊥
      pick true q p w = let z = eqb-true y x q in omega (arith, ap (hint_of last) z, hint_here put x (n + 1) long (omega arith))
      pick false q true w =
          eqb-false y x q (sym e ∙ ap (λ (j : ℕ). (row_at last j).name) (eqb-true k n w) ∙ ap (λ e. e.name) entered)
      pick false q false w =
          let z = eqb-false k n w in
          let y : k < n = omega arith in
          i.hinted _ a k (omega (arith, hint_older _ (eqb-false _ x q))) y (sym (older k y) ∙ e)

  enters_linked : Indexed n t → (j : ℕ) → j < n + 1 → (k : ℕ) → link_at last j ≤ k → k < j → (row_at last k).name ≡ (row_at last j).name → ⊥
  enters_linked i j a k l m e = pick (eqb j n) refl
    where
      link : link_at last n ≡ r
      link = link_hint put x (n + 1) long n (omega (arith, h.rows)) ∙ link_written t n x d v r g (omega (arith, h.rows, h.long))

      pick : (c : Bool) → eqb j n ≡ c → ⊥
      pick true q =
          let z = eqb-true j n q in
          let y : k < n = omega arith in
          b.over i k (omega (arith, ap (link_at last) z, link)) y
          (sym (older k y) ∙ e ∙ ap (λ (j : ℕ). (row_at last j).name) z ∙ ap (λ e. e.name) entered)
      pick false q =
          let z = eqb-false j n q in
          let y : j < n = omega arith in
          let u : link_at last j ≡ link_at t j =
          link_hint put x (n + 1) long j (omega (arith, h.rows)) ∙ other_link t n x d v r j z in
          i.linked j y k (omega arith) m (sym (older k (omega arith)) ∙ e ∙ older j y)

  enters_last : Enters t n x d v last
  enters_last = record {
    inside = record {
      long = length_hint put x (n + 1) long ∙ length-written t n x d v r;
      rest = drop_hint put x (n + 1) long ∙ drop-written t n x d v r map_length (omega (arith, h.rows));
    };
    row = entered;
    others = other;
    index = λ i. record { hinted = enters_hinted i; linked = enters_linked i };
  }

  pub enters : {t₁ t₂ : List ℕ} → t₁ ≡ put → t₂ ≡ with_hint t₁ x (n + 1) → Enters t n x d v t₂
  enters w w' = rw (w', w) enters_last

-- The last row leaves: the name's hint is the row's link

module _ (t : List ℕ) (n : ℕ) (h : Roomy (n + 1) t) where
  abbrev x : ℕ
  x = (row_at t n).name

  abbrev back : List ℕ
  back = with_hint t x (link_at t n)

  back-rows : (k : ℕ) → 3 * k + 3 ≤ rows_length → row_at back k ≡ row_at t k
  back-rows = row_hint t x (link_at t n) h.long

  back_name : (k : ℕ) → k < n → (row_at back k).name ≡ (row_at t k).name
  back_name k g = ap (λ e. e.name) (back-rows k (omega (arith, h.rows)))

  back_hinted : Indexed (n + 1) t → (y : ℕ) → y < hints_length → (k : ℕ) → hint_of back y ≤ k → k < n → (row_at t k).name ≡ y → ⊥
  back_hinted i y g k a b e = pick (eqb y x) refl
    where
      pick : (c : Bool) → eqb y x ≡ c → ⊥
      pick true q =
          let z = eqb-true y x q in
          i.linked n (omega arith) k (omega (arith, ap (hint_of back) z, hint_here t x (link_at t n) h.long (omega arith))) b (e ∙ z)
      pick false q = i.hinted y g k (omega (arith, hint_other t x (link_at t n) h.long y (eqb-false y x q))) (omega arith) e

  leaves_back : Leaves t n (n + 1) back
  leaves_back = record {
    inside = record { long = length_hint t x (link_at t n) h.long; rest = drop_hint t x (link_at t n) h.long };
    rows = back-rows;
    index = λ i. record {
      hinted = λ y g k a b e. back_hinted i y g k a b (sym (back_name k b) ∙ e);
      linked = λ j g k a b e.
          i.linked j (omega arith) k (omega (arith, link_hint t x (link_at t n) h.long j (omega (arith, h.rows)))) b
          (sym (back_name k (omega arith)) ∙ e ∙ back_name j g);
    };
  }

  pub leaves_last : {t' : List ℕ} → t' ≡ back → Leaves t n (n + 1) t'
  leaves_last w = rw w leaves_back

pub inside_same : {t : List ℕ} → Inside t t
inside_same = record { long = refl; rest = refl }

pub inside-then : {t t' t'' : List ℕ} → Inside t t' → Inside t' t'' → Inside t t''
inside-then a b = record { long = b.long ∙ a.long; rest = b.rest ∙ a.rest }

-- Rows leave one after another

pub leaves_more : {t t' t'' : List ℕ} {k i n : ℕ} → Leaves t i n t' → Leaves t' k i t'' → Leaves t k n t''
leaves_more a b = record {
  inside = inside-then a.inside b.inside;
  rows = λ k g. b.rows k g ∙ a.rows k g;
  index = λ i. b.index (a.index i);
}

-- Rows move one after another

pub moves_more : {t t' t'' : List ℕ} {i n x d v : ℕ} → i ≤ n → 3 * (n + 1) + 3 ≤ rows_length → Moves t i n t' →
    record { name = x; layer = d; value = v } ≡ row_at t' (n + 1) → Enters t' n x d v t'' → Moves t i (n + 1) t''
moves_more {t} {t'} {t''} {i} {n} l g a y b = record {
  inside = inside-then a.inside b.inside;
  under = λ k m. b.others k (omega arith) (λ e. omega arith) ∙ a.under k m;
  over = over;
  later = λ k m r. b.others k r (λ e. omega arith) ∙ a.later k (omega arith) r;
  index = λ i. b.index (a.index i);
}
  where
    over : (k : ℕ) → i ≤ k → k < n + 1 → row_at t'' k ≡ row_at t (suc k)
    over k m r = pick (eqb k n) refl
      where
        pick : (c : Bool) → eqb k n ≡ c → row_at t'' k ≡ row_at t (suc k)
        pick true e =
            let z = eqb-true k n e in
            let w : n + 1 ≡ suc n = omega arith in
            ap (row_at t'') z
            ∙ b.row
            ∙ y
            ∙ ap (row_at t') w
            ∙ a.later (suc n) (omega arith) (omega arith)
            ∙ ap (λ (j : ℕ). row_at t (suc j)) (sym z)
        pick false e =
            let z = eqb-false k n e in
            b.others k (omega arith) z ∙ a.over k m (omega arith)
