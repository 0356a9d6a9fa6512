-- The offsets that a second run gives to the entries of a lambda's list: an entry that is not mutated has a read offset; its capture offset is missing
-- exactly if its name stands once in the list and the lambda around took the name without a read offset.
use Prim.Native.Nat.{ℕ, zero, suc, ◌+◌, ◌-◌, ◌≤◌, ◌<◌}
use mathlib.Core.List.{List, [], ◌∷◌, ◌++◌}
use Rattle.std.specs.Prelude.{Bool, ◌≡◌, length, get_or, set, eqb, leb, Option, None, Some}
use Rattle.std.proofs.lemmas.Option.{same_Some, none-some}
use Rattle.std.proofs.Math.Bool.{true, false, cond, not, true≢false}
use Rattle.std.proofs.Math.Path.{refl, ap, subst}
use Rattle.std.proofs.Common.{sym, ◌∙◌, ne_eqb}
use native.Mathlib.Omega.{arith}
use Rattle.std.proofs.Math.Decide.{ℕ_discrete, dec_lt}
use Rattle.std.proofs.Math.ListN.{length-set}
use Rattle.std.proofs.Math.Seq.{get_or-set_same, get_or-set_other, set_out}
use Rattle.scope_map.specs.ScopeMap.{Live, get_in}
use Rattle.semantic.specs.Information.{NONE}
use Rattle.semantic.specs.Rows.{ListEntry, no_list_entry}
use Rattle.semantic.specs.ListEntries.{on_info}
use Rattle.semantic.specs.declared.ScopeInfo.{ScopeInfo}
use Rattle.semantic.specs.declared.ListAt.{ListAt}
use Rattle.pass.specs.State.{Capture, State, list_entry_at, info_at}
use Rattle.pass.specs.Read.{has_number}
use Rattle.pass.specs.Lists.{name_of, near, near_in, is_of, capture_from, capture_of, is_near, number_row, number_rows, numbered_capture, numbered_heap, number_list}
use Rattle.pass_laws.specs.Laws.Keeps.{Off}
use Rattle.execution.proofs.Laws.Settled.Layer.{Lives, InLayer, Below, or_else, get-append, Puts, puts}
use Rattle.execution.proofs.Laws.Settled.Numbered.{Same, Got, got_old, got_new, Pass, passes, starts, next}

-- What no numbering changes
module _ (which : Bool) (numbered : ℕ → Option ScopeInfo → ScopeInfo → ScopeInfo) (part : ScopeInfo
    → ℕ) (keeps : (i : ℕ) (o : Option ScopeInfo) (v : ScopeInfo) → part (numbered i o v) ≡ part v) where
  row_keeps : (r i : ℕ) (s : State) (q : ℕ) → part (info_at (number_row which numbered r i (list_entry_at s r) s) q) ≡ part (info_at s q)
  unfolding number_row
  row_keeps r i s q = go (ℕ_discrete q r) (dec_lt r (length s.facts.captured))
    where
      D : List ListEntry
      D = s.facts.captured

      v : ListEntry
      v = on_info (numbered i (near s (list_entry_at s r).binder.name)) (list_entry_at s r)

      go : Dec (q ≡ r) → Dec (r < length D) → part (get_or (set D r v) q no_list_entry).info ≡ part (info_at s q)
      go (no d) h = ap (λ (x : ListEntry). part x.info) (get_or-set_other D r q v no_list_entry d)
      go (yes d) (yes h) =
          ap (λ (k : ℕ). part (get_or (set D r v) k no_list_entry).info) d ∙ ap (λ (x : ListEntry). part x.info) (get_or-set_same D r v no_list_entry h)
          ∙ keeps i (near s (list_entry_at s r).binder.name) (info_at s r) ∙ ap (λ (k : ℕ). part (info_at s k)) (sym d)
      go (yes d) (no h) = ap (λ (l : List ListEntry). part (get_or l q no_list_entry).info) (set_out D r v (omega arith))

  pub rows-keep : (k r i : ℕ) (s : State) (q : ℕ) → part (info_at (number_rows which numbered k r i s) q) ≡ part (info_at s q)
  unfolding number_rows
  rows-keep zero r i s q = refl
  rows-keep (suc k) r i s q = rows-keep k (suc r) _ _ q ∙ go (is_of which numbered (list_entry_at s r))
    where
      go : (b : Bool) → part (info_at (cond b (number_row which numbered r i (list_entry_at s r) s) s) q) ≡ part (info_at s q)
      go true = row_keeps r i s q
      go false = refl

-- an offset that is missing in what the lambda around took
abbrev pub is_unread : Option ScopeInfo → Bool
is_unread None = false
is_unread (Some o) = eqb o.read_capture_offset NONE

abbrev unmutated : State → ℕ → Bool
unmutated s q = is_of false numbered_capture (list_entry_at s q)

-- The capture of the name x at a row, once the rows from lo up to r are numbered
pub data Flag (lo r : ℕ) (s t : State) (x row : ℕ) : Type 0 where
  once : ((q : ℕ) → lo ≤ q → q < r → unmutated s q ≡ true → name_of (list_entry_at s q) ≡ x → q ≡ row)
      → eqb (info_at t row).capture_offset NONE ≡ is_unread (near s x) → Flag lo r s t x row
  twice : (q : ℕ) → lo ≤ q → q < r → ¬ (q ≡ row) → unmutated s q ≡ true → name_of (list_entry_at s q) ≡ x → eqb (info_at t row).capture_offset NONE ≡ false
      → Flag lo r s t x row

pub record Offsets (lo r d : ℕ) (s t : State) : Type 0 where
  pub long : length t.facts.captured ≡ length s.facts.captured
  pub same : (q : ℕ) → unmutated s q ≡ false → list_entry_at t q ≡ list_entry_at s q
  pub reads : (q : ℕ) → lo ≤ q → q < r → unmutated s q ≡ true → has_number (info_at t q).read_capture_offset ≡ true
  pub flags : (x : ℕ) (c : Live Capture) → get_in t.captures.live x ≡ Some c → c.layer ≡ d → Flag lo r s t x c.value.row

abbrev CapturePass : ℕ → ℕ → ℕ → Lives → State → State → Type 0
CapturePass lo r d old s t = Pass false numbered_capture (λ i o v. refl) lo r d [] old s t

pub old_layer : {d : ℕ} (old : Lives) → Below d old → (x : ℕ) (c : Live Capture) → get_in old x ≡ Some c → c.layer < d
unfolding get_in
old_layer [] b x c e = absurd (none-some c e)
old_layer {d} (a ∷ old) b x c e = go (eqb a.name x) (λ q. old_layer old b.1 x c q) e
  where
    go : (q : Bool) → (get_in old x ≡ Some c → c.layer < d) → cond q (Some a) (get_in old x) ≡ Some c → c.layer < d
    go true k z = subst (λ (l : Live Capture). l.layer < d) (same_Some a c z) b.0
    go false k z = k z

pub get_layer : {d : ℕ} (l : Lives) → InLayer d l → (x : ℕ) (c : Live Capture) → get_in l x ≡ Some c → c.layer ≡ d
unfolding get_in
get_layer [] b x c e = absurd (none-some c e)
get_layer {d} (a ∷ l) b x c e = go (eqb a.name x) (λ q. get_layer l b.1 x c q) e
  where
    go : (q : Bool) → (get_in l x ≡ Some c → c.layer ≡ d) → cond q (Some a) (get_in l x) ≡ Some c → c.layer ≡ d
    go true k z = ap (λ (v : Live Capture). v.layer) (sym (same_Some a c z)) ∙ b.0
    go false k z = k z

pub no_number : (n : ℕ) → has_number n ≡ true → eqb n NONE ≡ false
no_number n e = go (eqb n NONE) e
  where
    go : (b : Bool) → not b ≡ true → b ≡ false
    go true q = sym q
    go false q = refl

-- a capture of the newest layer stands among its captures
pub in_newest : {d : ℕ} (l top old : Lives) → l ≡ top ++ old → Below d old → (x : ℕ) (c : Live Capture) → get_in l x ≡ Some c → c.layer ≡ d
    → get_in top x ≡ Some c
in_newest {d} l top old w below x c e h = go (get_in top x) refl (sym (ap (λ (m : Lives). get_in m x) w ∙ get-append top old x) ∙ e)
  where
    go : (z : Option (Live Capture)) → get_in top x ≡ z → or_else (get_in top x) (get_in old x) ≡ Some c → get_in top x ≡ Some c
    go None q k = absurd (omega (arith, old_layer old below x c (ap (λ (z : Option (Live Capture)). or_else z (get_in old x)) (sym q) ∙ k)))
    go (Some a) q k = q ∙ ap (λ (z : Option (Live Capture)). or_else z (get_in old x)) (sym q) ∙ k

-- numbers are no missing offset
small : (i : ℕ) → i ≤ 4096 → eqb i NONE ≡ false
small i h = ne_eqb i NONE (λ e. omega arith)

module _ {lo hi d : ℕ} {old : Lives} {s : State} (below : Below d old) (apart : (x : ℕ) (c : Live Capture) → get_in old x ≡ Some c → leb (d - c.layer) 1 ≡ true
    → Off lo hi c.value.row)
    (depth : s.captures.depth ≡ d) (live : s.captures.live ≡ old) (room : hi ≤ length s.facts.captured) (few : hi ≤ 4096) where
  module _ (r i : ℕ) (t : State) (p : CapturePass lo r d old s t) (o : Offsets lo r d s t) (h : lo ≤ r) (g : r < hi) (small-i : i ≤ r) where
    -- a capture of the newest layer is of an earlier row
    in_top : (x : ℕ) (c : Live Capture) → get_in t.captures.live x ≡ Some c → c.layer ≡ d → get_in p.top x ≡ Some c
    in_top x c e l = in_newest t.captures.live p.top old p.live below x c e l

    earlier : (x : ℕ) (c : Live Capture) → get_in p.top x ≡ Some c → c.value.row < r
    unfolding get_in
    earlier x c e = go (subst (Got false numbered_capture (λ i o v. refl) lo r s x None) e (p.got x)) refl
      where
        go : {z : Option (Live Capture)} → Got false numbered_capture (λ i o v. refl) lo r s x None z → z ≡ Some c → c.value.row < r
        go (got_old f) q = absurd (none-some c q)
        go (got_new {c = a} x₁ y₁ u v w) q = subst (λ (l : Live Capture). l.value.row < r) (same_Some a c q) y₁

    -- the row r is no new row of a name
    more : {x row : ℕ} (u : State) → (unmutated s r ≡ true → ¬ (name_of (list_entry_at s r) ≡ x)) → (info_at u row).capture_offset ≡ (info_at t row).capture_offset
        → Flag lo r s t x row → Flag lo (suc r) s u x row
    more {x} {row} u n e (once f k) = once (λ q a b m z. go q a b m z (ℕ_discrete q r)) (ap (λ (v : ℕ). eqb v NONE) e ∙ k)
      where
        go : (q : ℕ) → lo ≤ q → q < suc r → unmutated s q ≡ true → name_of (list_entry_at s q) ≡ x → Dec (q ≡ r) → q ≡ row
        go q a b m z (yes w) = absurd (n (ap (unmutated s) (sym w) ∙ m) (ap (λ (v : ℕ). name_of (list_entry_at s v)) (sym w) ∙ z))
        go q a b m z (no w) = f q a (omega arith) m z
    more u n e (twice q a b c m z k) = twice q a (omega arith) c m z (ap (λ (v : ℕ). eqb v NONE) e ∙ k)

    skipped : unmutated s r ≡ false → Offsets lo (suc r) d s t
    skipped e =
        record {
          long = o.long;
          same = o.same;
          reads = λ q a b m. go q a b m (ℕ_discrete q r);
          flags = λ x c k l. more t (λ m. absurd (true≢false (sym m ∙ e))) refl (o.flags x c k l);
        }
      where
        go : (q : ℕ) → lo ≤ q → q < suc r → unmutated s q ≡ true → Dec (q ≡ r) → has_number (info_at t q).read_capture_offset ≡ true
        go q a b m (yes w) = absurd (true≢false (sym m ∙ ap (unmutated s) w ∙ e))
        go q a b m (no w) = o.reads q a (omega arith) m

    abbrev x₀ : ℕ
    x₀ = (list_entry_at t r).binder.name

    abbrev numbered_here : State
    numbered_here = number_row false numbered_capture r i (list_entry_at t r) t

    -- what the row r holds then
    here : list_entry_at numbered_here r ≡ on_info (numbered_capture i (near t x₀)) (list_entry_at t r)
    unfolding number_row
    here = get_or-set_same t.facts.captured r _ no_list_entry (omega (arith, o.long))

    others : (q : ℕ) → ¬ (q ≡ r) → list_entry_at numbered_here q ≡ list_entry_at t q
    unfolding number_row
    others q n = get_or-set_other t.facts.captured r q _ no_list_entry n

    -- what the name took before
    near-old : get_in p.top x₀ ≡ None → is_unread (near t x₀) ≡ is_unread (near s x₀)
    near-old e =
        let got : get_in t.captures.live x₀ ≡ get_in old x₀ =
        ap (λ (m : Lives). get_in m x₀) p.live ∙ get-append p.top old x₀ ∙ ap (λ (z : Option (Live Capture)). or_else z (get_in old x₀)) e in
        ap (λ (z : Option (Live Capture)). is_unread (near_in t z)) got ∙ go (get_in old x₀) refl ∙ ap (λ (m : Lives). is_unread (near_in s (get_in m x₀))) (sym live)
      where
        go : (z : Option (Live Capture)) → get_in old x₀ ≡ z → is_unread (near_in t z) ≡ is_unread (near_in s z)
        go None q = refl
        go (Some c) q = cases (leb (d - c.layer) 1) refl
          where
            cases : (b : Bool) → leb (d - c.layer) 1 ≡ b → is_unread (near_in t (Some c)) ≡ is_unread (near_in s (Some c))
            cases true w = rw (p.depth, depth, w) (ap (λ (v : ListEntry). eqb v.info.read_capture_offset NONE)
                (p.outside c.value.row (λ a b. apart x₀ c q w a (omega arith))))
            cases false w = rw (p.depth, depth, w)

    from_near : (z : Option ScopeInfo) → eqb (capture_from z i) NONE ≡ is_unread z
    from_near None = small i (omega arith)
    from_near (Some v) = refl

    -- the capture that is made
    put : Puts d x₀ (capture_of false numbered_capture r (is_near (near t x₀)) (list_entry_at t r)) p.top old numbered_here.captures.live
    unfolding number_row
    put = puts d x₀ _ p.top old t.captures p.depth p.live p.layer below

    layer_of : (c : Live Capture) → get_in p.top x₀ ≡ Some c → c.layer ≡ d
    layer_of c e = get_layer p.top p.layer x₀ c e

    close : (c : Live Capture) → c.layer ≡ d → has_number (info_at t c.value.row).read_capture_offset ≡ true
        → eqb (capture_from (near_in t (Some c)) i) NONE ≡ false
    close c l k =
        let deep : t.captures.depth - c.layer ≡ 0 = omega (arith, p.depth) in
        rw deep (no_number (info_at t c.value.row).read_capture_offset k)

    new_flag : unmutated s r ≡ true → Flag lo (suc r) s numbered_here x₀ r
    unfolding get_in
    new_flag m = go (get_in p.top x₀) refl (p.got x₀)
      where
        at : (info_at numbered_here r).capture_offset ≡ capture_from (near t x₀) i
        at = ap (λ (v : ListEntry). v.info.capture_offset) here

        name : x₀ ≡ name_of (list_entry_at s r)
        name = ap name_of (p.outside r (λ a b. omega arith))

        go : (z : Option (Live Capture)) → get_in p.top x₀ ≡ z → Got false numbered_capture (λ i o v. refl) lo r s x₀ None (get_in p.top x₀)
            → Flag lo (suc r) s numbered_here x₀ r
        go z e g = by_got (subst (Got false numbered_capture (λ i o v. refl) lo r s x₀ None) e g) e
          where
            by_got : {z : Option (Live Capture)} → Got false numbered_capture (λ i o v. refl) lo r s x₀ None z → get_in p.top x₀ ≡ z
                → Flag lo (suc r) s numbered_here x₀ r
            by_got (got_old f) e = once (λ q a b m z. only q a b m z (ℕ_discrete q r)) (ap (λ (v : ℕ). eqb v NONE) at ∙ from_near (near t x₀) ∙ near-old e)
              where
                only : (q : ℕ) → lo ≤ q → q < suc r → unmutated s q ≡ true → name_of (list_entry_at s q) ≡ x₀ → Dec (q ≡ r) → q ≡ r
                only q a b m z (yes w) = w
                only q a b m z (no w) = absurd (f q a (omega arith) m z)
            by_got (got_new {c = c} a b u v w) e =
                let got : get_in t.captures.live x₀ ≡ Some c =
                ap (λ (m : Lives). get_in m x₀) p.live ∙ get-append p.top old x₀ ∙ ap (λ (z : Option (Live Capture)). or_else z (get_in old x₀)) e in
                twice c.value.row a (omega arith) (λ q. omega arith) u v
                (ap (λ (v : ℕ). eqb v NONE) at ∙ ap (λ (z : Option (Live Capture)). eqb (capture_from (near_in t z) i) NONE) got ∙ close c (layer_of c e)
                (o.reads c.value.row a b u))

    numbered_offsets : unmutated s r ≡ true → Offsets lo (suc r) d s numbered_here
    unfolding number_row
    numbered_offsets m =
        record {
          long = length-set t.facts.captured r _ ∙ o.long;
          same = λ q n. others q (λ w. true≢false (sym m ∙ ap (unmutated s) (sym w) ∙ n)) ∙ o.same q n;
          reads = λ q a b n. go q a b n (ℕ_discrete q r);
          flags = λ x c k l. flagged x c k l (ℕ_discrete x x₀);
        }
      where
        go : (q : ℕ) → lo ≤ q → q < suc r → unmutated s q ≡ true → Dec (q ≡ r) → has_number (info_at numbered_here q).read_capture_offset ≡ true
        go q a b n (yes w) =
            ap (λ (k : ℕ). has_number (info_at numbered_here k).read_capture_offset) w ∙ ap (λ (v : ListEntry). has_number v.info.read_capture_offset) here ∙
            ap not (small i (omega arith))
        go q a b n (no w) = ap (λ (v : ListEntry). has_number v.info.read_capture_offset) (others q w) ∙ o.reads q a (omega arith) n

        flagged : (x : ℕ) (c : Live Capture) → get_in numbered_here.captures.live x ≡ Some c → c.layer ≡ d → Dec (x ≡ x₀)
            → Flag lo (suc r) s numbered_here x c.value.row
        flagged x c k l (yes w) =
            let found : get_in numbered_here.captures.live x₀ ≡ Some (record {
              name = x₀;
              layer = d;
              value = capture_of false numbered_capture r
                  (is_near (near t x₀)) (list_entry_at t r);
            }) =
            ap (λ (m : Lives). get_in m x₀) put.is ∙ get-append put.top old x₀ ∙ ap (λ (z : Option (Live Capture)). or_else z (get_in old x₀)) put.here in
            let same = same_Some _ c (sym found ∙ ap (get_in numbered_here.captures.live) (sym w) ∙ k) in
            subst (λ (y : ℕ). Flag lo (suc r) s numbered_here y c.value.row) (sym w)
            (subst (λ (row : ℕ). Flag lo (suc r) s numbered_here x₀ row) (ap (λ (v : Live Capture). v.value.row) same) (new_flag m))
        flagged x c k l (no w) =
            let found : get_in numbered_here.captures.live x ≡ get_in t.captures.live x =
            ap (λ (m : Lives). get_in m x) put.is ∙ get-append put.top old x ∙ ap (λ (z : Option (Live Capture)). or_else z (get_in old x)) (put.others x w)
            ∙ sym (ap (λ (m : Lives). get_in m x) p.live ∙ get-append p.top old x) in
            let before = earlier x c (in_top x c (sym found ∙ k) l) in
            more numbered_here (λ n z. w (sym z ∙ ap name_of (sym (p.outside r (λ a b. omega arith)))))
            (ap (λ (v : ListEntry). v.info.capture_offset) (others c.value.row (λ z. omega arith)))
            (o.flags x c (sym found ∙ k) l)

    next_offsets : Offsets lo (suc r) d s (cond (unmutated t r) numbered_here t)
    next_offsets = go (unmutated s r) refl
      where
        unnumbered : unmutated t r ≡ unmutated s r
        unnumbered = ap (is_of false numbered_capture) (p.outside r (λ a b. omega arith))

        go : (b : Bool) → unmutated s r ≡ b → Offsets lo (suc r) d s (cond (unmutated t r) numbered_here t)
        go true e = rw (unnumbered ∙ e) (numbered_offsets e)
        go false e = rw (unnumbered ∙ e) (skipped e)

  pub all_offsets : (k r i : ℕ) (t : State) → lo ≤ r → r + k ≡ hi → i ≤ r → CapturePass lo r d old s t → Offsets lo r d s t
      → Offsets lo hi d s (number_rows false numbered_capture k r i t)
  unfolding number_rows
  all_offsets zero r i t h e j p o = subst (λ (m : ℕ). Offsets lo m d s t) (omega arith) o
  all_offsets (suc k) r i t h e j p o =
      all_offsets k (suc r) _ _ (omega arith) (omega arith) (step (unmutated t r)) (next false numbered_capture (λ i o v. refl) below i p h)
      (next_offsets r i t p o h (omega arith) j)
    where
      step : (b : Bool) → cond b (suc i) i ≤ suc r
      step true = omega arith
      step false = omega arith

-- Both passes

pub record Flagged (lo hi : ℕ) (s t : State) (x row : ℕ) : Type 0 where
  pub mutated : (list_entry_at s row).info.mutated ≡ true → (info_at t row).read_capture_offset ≡ (info_at s row).read_capture_offset
  pub read : (list_entry_at s row).info.mutated ≡ false → has_number (info_at t row).read_capture_offset ≡ true
  pub flag : (list_entry_at s row).info.mutated ≡ false → Flag lo hi s t x row

-- a capture of an entry that is not mutated is of the first pass
record Origin (lo hi x : ℕ) (top : Lives) (c : Live Capture) : Type 0 where
  found : get_in top x ≡ Some c
  from : lo ≤ c.value.row
  to : c.value.row < hi

origin : (lo hi x : ℕ) (s u : State) (top : Lives) (c : Live Capture) {g : Option (Live Capture)} → Same (list_entry_at s c.value.row) (list_entry_at u c.value.row)
    → (list_entry_at s c.value.row).info.mutated ≡ false → Got false numbered_capture (λ i o v. refl) lo hi s x None (get_in top x)
    → Got true numbered_heap (λ i o v. refl) lo hi u x (get_in top x) g → g ≡ Some c → Origin lo hi x top c
origin lo hi x s u top c w m p (got_old f) e = go (subst (Got false numbered_capture (λ i o v. refl) lo hi s x None) e p) refl
  where
    go : {z : Option (Live Capture)} → Got false numbered_capture (λ i o v. refl) lo hi s x None z → z ≡ Some c → Origin lo hi x top c
    go (got_old f) q = absurd (none-some c q)
    go (got_new {c = a} x₁ y₁ k v z) q =
        let same = ap (λ (l : Live Capture). l.value.row) (same_Some a c q) in
        record { found = e; from = omega arith; to = omega arith }
origin lo hi x s u top c w m p (got_new {c = a} x₁ y₁ k v z) e =
    let same = ap (λ (l : Live Capture). l.value.row) (same_Some a c e) in
    absurd (true≢false (sym k ∙ ap (λ (r : ℕ). (list_entry_at u r).info.mutated) same ∙ w.mutated ∙ m))

kept_flag : {lo hi : ℕ} {s : State} {x row : ℕ} (u t : State) → (info_at t row).capture_offset ≡ (info_at u row).capture_offset → Flag lo hi s u x row
    → Flag lo hi s t x row
kept_flag u t e (once f k) = once f (ap (λ (v : ℕ). eqb v NONE) e ∙ k)
kept_flag u t e (twice q a b c m z k) = twice q a b c m z (ap (λ (v : ℕ). eqb v NONE) e ∙ k)

pub flagged-list : (e : ListAt) (d : ℕ) (old : Lives) (s : State) → s.captures.depth ≡ d → s.captures.live ≡ old → Below d old
    → ((x : ℕ) (c : Live Capture) → get_in old x ≡ Some c → leb (d - c.layer) 1 ≡ true → Off e.first (e.first + e.length) c.value.row)
    → e.first + e.length ≤ length s.facts.captured → e.first + e.length ≤ 4096
    → (x : ℕ) (c : Live Capture) → get_in (number_list e s).captures.live x ≡ Some c → c.layer ≡ d
    → Flagged e.first (e.first + e.length) s (number_list e s) x c.value.row
unfolding number_list get_in
flagged-list e d old s h g below apart room few x c k l =
    let lo = e.first in
    let hi = e.first + e.length in
    let u = number_rows false numbered_capture e.length lo 0 s in
    let p = passes false numbered_capture (λ i o v. refl) below e.length lo 0 s (omega arith)
    (starts false numbered_capture (λ i o v. refl) lo d [] old s h g tt) in
    let o = all_offsets below apart h g room few e.length lo 0 s (omega arith) refl (omega arith)
    (starts false numbered_capture (λ i o v. refl) lo d [] old s h g tt)
    (record {
      long = refl;
      same = λ q n. refl;
      reads = λ q a b. absurd (omega arith);
      flags = λ x c k l. absurd
          (omega (arith, old_layer old below x c (ap (λ (m : Lives). get_in m x) (sym g) ∙ k)));
    }) in
    let q = passes true numbered_heap (λ i o v. refl) below e.length lo 0 u (omega arith)
    (starts true numbered_heap (λ i o v. refl) lo d p.top old u p.depth p.live p.layer) in
    let t = number_list e s in
    let read = rows-keep true numbered_heap (λ v. v.read_capture_offset) (λ i o v. refl) e.length lo 0 u in
    let offset = rows-keep true numbered_heap (λ v. v.capture_offset) (λ i o v. refl) e.length lo 0 u in
    record {
      mutated = λ m. read c.value.row ∙ ap (λ (v : ListEntry). v.info.read_capture_offset) (o.same c.value.row (ap not m));
      read = λ m.
          let a = origin lo hi x s u p.top c (p.list_entries c.value.row) m (p.got x) (q.got x)
          (in_newest t.captures.live q.top old q.live below x c k l) in
          ap has_number (read c.value.row) ∙ o.reads c.value.row a.from a.to (ap not m);
      flag = λ m.
          let a = origin lo hi x s u p.top c (p.list_entries c.value.row) m (p.got x) (q.got x)
          (in_newest t.captures.live q.top old q.live below x c k l) in
          let first : get_in u.captures.live x ≡ Some c =
          ap (λ (z : Lives). get_in z x) p.live ∙ get-append p.top old x ∙ ap (λ (z : Option (Live Capture)). or_else z (get_in old x)) a.found in
          kept_flag u t (offset c.value.row) (o.flags x c first l);
    }
