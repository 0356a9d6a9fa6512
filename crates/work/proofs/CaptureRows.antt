-- What is known of each capture, row by row: one row is written, or the newest layer goes.
use Rattle.std.specs.Prelude.{Some}
use Prim.Native.Nat.{ℕ, suc, ◌-◌, ◌*◌, ◌≤◌, ◌<◌}
use mathlib.Core.List.{List, [], ◌∷◌}
use mathlib.Core.Bool.{Bool, true, false, cond}
use mathlib.Core.Path.{◌≡◌, refl, ap, sym, subst, ◌∙◌}
use native.Mathlib.Omega.{arith}
use borrow.Author.Tests.{ltb-true, ltb-false}
use lib.ListN.{length}
use lib.Dec.{eqb, ltb}
use Rattle.table.specs.Region.{region}
use Rattle.table.specs.Laws.Region.{Elsewhere}
use Rattle.scope_map.specs.ScopeMap.{ScopeMap, Live, is_at, replace_in, below_layer, get_in, pop_layer, has_at_top, define}
use Rattle.scope_map.proofs.Laws.Size.{replace_size}
use Rattle.scope_map.specs.Map.{map_value, map_live}
use Rattle.scope_map.proofs.Laws.Map.{map-length}
use Rattle.scope_map.proofs.Laws.Rows.{place_below}
use Rattle.scope_map.specs.Held.{found_at, found_in, place_in}
use Rattle.scope_map.specs.declared.Found.{Found}
use Rattle.pass.specs.State.{Capture}
use Rattle.pass.specs.Read.{used_capture, use_in}
use Rattle.work.specs.Coded.{capture_width}
use Rattle.work.specs.Works.{row_of, CaptureAt, TakenIn}
use Rattle.work.specs.Laws.Captures.{found_below}

-- The newest layer goes

taken-below : (t : List ℕ) (d : ℕ) (l : List (Live Capture)) → TakenIn t l → TakenIn t (below_layer d l)
unfolding TakenIn below_layer
taken-below t d [] h = h
taken-below t d (e ∷ l) h = pick (eqb e.layer d) (taken-below t d l h.1)
  where
    pick : (b : Bool) → TakenIn t (below_layer d l) → TakenIn t (cond b (below_layer d l) (e ∷ l))
    pick true r = r
    pick false r = h

pub taken_pop : (t : List ℕ) (m : ScopeMap Capture) → TakenIn t m.live → TakenIn t (pop_layer m).live
taken_pop t m h = pick (ltb 1 m.depth)
  where
    pick : (b : Bool) → TakenIn t (cond b (record { depth = m.depth - 1; live = below_layer m.depth m.live }) m).live
    pick true = taken-below t m.depth m.live h
    pick false = h

-- Row i is written

module _ (t t' : List ℕ) (i : ℕ) (e : Elsewhere (capture_width * i) capture_width t t') where
  under : (j : ℕ) → j < i → region t' (capture_width * j) capture_width ≡ region t (capture_width * j) capture_width
  under j h = e.before (capture_width * j) capture_width (omega arith)

  over : (j : ℕ) → i < j → region t' (capture_width * j) capture_width ≡ region t (capture_width * j) capture_width
  over j h = e.after (capture_width * j) capture_width (omega arith)

  moved : {j k : ℕ} {c : Capture} → j ≡ k → region t' (capture_width * k) capture_width ≡ region t (capture_width * k) capture_width → CaptureAt t k c → CaptureAt t' j c
  moved z q h = record { row = ap (λ (j : ℕ). region t' (capture_width * j) capture_width) z ∙ q ∙ h.row; small = h.small }

  -- captures in the rows before it
  taken_older : (l : List (Live Capture)) → length l ≤ i → TakenIn t l → TakenIn t' l
  unfolding TakenIn
  taken_older [] h k = k
  taken_older (c ∷ l) h k = (moved refl (under (length l) (omega arith)) k.0, taken_older l (omega arith) k.1)

  module _ (d x : ℕ) (c : Capture) (r : CaptureAt t' i c) where
    taken-new : (l : List (Live Capture)) → length l ≡ i → TakenIn t l → TakenIn t' (record { name = x; layer = d; value = c } ∷ l)
    unfolding TakenIn
    taken-new l z k = (subst (λ (j : ℕ). CaptureAt t' j c) (sym z) r, taken_older l (omega arith) k)

    taken_replace : (n : ℕ) (l : List (Live Capture)) → place_in d x n (map_live row_of l) ≡ i → i < n → TakenIn t l → TakenIn t' (replace_in d x c l)
    unfolding TakenIn replace_in place_in map_live
    taken_replace n [] q g k = absurd (omega arith)
    taken_replace n (a ∷ l) q g k = pick (is_at d x a) q (λ z. taken_replace n l z g k.1)
      where
        pick : (b : Bool) → cond b (length (map_live row_of l)) (place_in d x n (map_live row_of l)) ≡ i
            → (place_in d x n (map_live row_of l) ≡ i → TakenIn t' (replace_in d x c l))
            → TakenIn t' (cond b (record { name = x; layer = d; value = c } ∷ l) (a ∷ replace_in d x c l))
        pick true q f = taken-new l (sym (map-length row_of l) ∙ q) k.1
        pick false q f =
            let s : i < length l = omega (arith, place_below d x n (map_live row_of l) (omega arith), map-length row_of l) in
            (moved (replace_size d x c l) (over (length l) s) k.0, f q)

    -- the name's capture is written at its place
    pub taken-define : (m : ScopeMap Capture) → d ≡ m.depth → i ≡ place_in d x (length m.live) (map_live row_of m.live) → i ≤ length m.live
        → ltb i (length m.live) ≡ has_at_top m x → TakenIn t m.live → TakenIn t' (define x c m).live
    taken-define m z q h g k = rw (← g, ← z) (pick (ltb i (length m.live)) refl)
      where
        pick : (b : Bool) → ltb i (length m.live) ≡ b → TakenIn t' (cond b (replace_in d x c m.live) (record { name = x; layer = d; value = c } ∷ m.live))
        pick true y = taken_replace (length m.live) m.live (sym q) (ltb-true i (length m.live) y) k
        pick false y = let a = ltb-false i (length m.live) y in taken-new m.live (omega arith) k

-- The capture of row i is used once more

use_size : (x : ℕ) (l : List (Live Capture)) → length (use_in x l) ≡ length l
unfolding use_in
use_size x [] = refl
use_size x (e ∷ l) = pick (eqb e.name x) (use_size x l)
  where
    pick : (b : Bool) → length (use_in x l) ≡ length l
        → length (cond b (record { name = e.name; layer = e.layer; value = used_capture e.value } ∷ l) (e ∷ use_in x l)) ≡ suc (length l)
    pick true r = refl
    pick false r = ap suc r

pub use_rows : (x : ℕ) (l : List (Live Capture)) → map_live row_of (use_in x l) ≡ map_live row_of l
unfolding use_in map_live
use_rows x [] = refl
use_rows x (e ∷ l) = pick (eqb e.name x) (use_rows x l)
  where
    pick : (b : Bool) → map_live row_of (use_in x l) ≡ map_live row_of l
        → map_live row_of (cond b (record { name = e.name; layer = e.layer; value = used_capture e.value } ∷ l) (e ∷ use_in x l))
        ≡ map_value row_of e ∷ map_live row_of l
    pick true r = refl
    pick false r = ap (λ (k : List (Live ℕ)). map_value row_of e ∷ k) r

module _ (t t' : List ℕ) (f : Found) (x : ℕ) (e : Elsewhere (capture_width * f.row) capture_width t t') where
  pub taken_use : (l : List (Live Capture)) → found_in (map_live row_of l) x ≡ Some f
      → ((c : Live Capture) → get_in l x ≡ Some c → CaptureAt t' f.row (used_capture c.value))
      → TakenIn t l → TakenIn t' (use_in x l)
  unfolding TakenIn use_in found_in get_in map_live
  taken_use [] q r k = k
  taken_use (a ∷ l) q r k = pick (eqb a.name x) q r (λ q r. taken_use l q r k.1)
    where
      pick : (b : Bool) → cond b (Some (found_at (length (map_live row_of l)) (map_value row_of a))) (found_in (map_live row_of l) x) ≡ Some f
          → ((c : Live Capture) → cond b (Some a) (get_in l x) ≡ Some c → CaptureAt t' f.row (used_capture c.value))
          → (found_in (map_live row_of l) x ≡ Some f
          → ((c : Live Capture) → get_in l x ≡ Some c → CaptureAt t' f.row (used_capture c.value))
          → TakenIn t' (use_in x l))
          → TakenIn t' (cond b (record { name = a.name; layer = a.layer; value = used_capture a.value } ∷ l) (a ∷ use_in x l))
      pick true q r g =
          let y : found_at (length (map_live row_of l)) (map_value row_of a) ≡ f = cc in
          let z : length l ≡ f.row = sym (map-length row_of l) ∙ ap (λ (h : Found). h.row) y in
          (subst (λ (j : ℕ). CaptureAt t' j (used_capture a.value)) (sym z) (r a refl), taken_older t t' f.row e l (omega arith) k.1)
      pick false q r g =
          let s = found_below l x q in
          (moved t t' f.row e (use_size x l) (over t t' f.row e (length l) s) k.0, g q r)
