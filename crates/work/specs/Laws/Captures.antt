-- The captures as the work table holds them: a lookup, and what is known of the capture that it finds.
use Rattle.std.specs.Prelude.{ℕ, ◌+◌, ◌*◌, ◌≤◌, ◌<◌, Bool, true, false, cond, ◌≡◌, refl, length, drop, eqb, None, Some}
use mathlib.Core.List.{List, [], ◌∷◌}
use Rattle.std.proofs.Math.Path.{ap, sym}
use Rattle.std.proofs.Common.{subst, ◌∙◌, get_or-take, get_or-drop}
use native.Mathlib.Omega.{arith}
use Rattle.std.proofs.Math.ListN.{get_or}
use Rattle.table.specs.Region.{region}
use Rattle.tree.specs.Tree.{bit}
use Rattle.scope_map.specs.ScopeMap.{Live, get, get_in}
use Rattle.scope_map.specs.Map.{map_value, map_live}
use Rattle.scope_map.proofs.Laws.Map.{map-length}
use Rattle.scope_map.specs.Hints.{rows_length}
use Rattle.scope_map.specs.Held.{found_at, found_in}
use Rattle.scope_map.specs.declared.Found.{Found}
use Rattle.pass.specs.State.{State, Capture}
use Rattle.pass.specs.Run.{rows_most}
use Rattle.work.specs.Coded.{put_capture}
use Rattle.work.specs.Works.{capture_data_first, capture_data_length, row_of, CaptureAt, TakenIn, Works}
use Rattle.work.specs.Laws.Works.{spacious, captures_many}
use Rattle.work.specs.Captures.{capture_found}
use Rattle.work.specs.declared.Pass.{Pass}

-- what a lookup finds: nothing, or the name's newest capture, whose place is the number of older ones
pub data Looked (l : List (Live Capture)) (x : ℕ) : Type 0 where
  no_capture : get_in l x ≡ None → found_in (map_live row_of l) x ≡ None → Looked l x
  the_capture : (c : Live Capture) (place : ℕ) → get_in l x ≡ Some c → found_in (map_live row_of l) x ≡ Some (found_at place (map_value row_of c))
      → place < length l → Looked l x

pub found_capture : (l : List (Live Capture)) (x : ℕ) → Looked l x
unfolding get_in found_in map_live
found_capture [] x = no_capture refl refl
found_capture (e ∷ l) x = pick (eqb e.name x) refl (found_capture l x)
  where
    pick : (b : Bool) → eqb e.name x ≡ b → Looked l x → Looked (e ∷ l) x
    pick true q r = the_capture e (length l) (rw q) (rw q (ap (λ (n : ℕ). Some (found_at n (map_value row_of e))) (map-length row_of l))) (omega arith)
    pick false q (no_capture g f) = no_capture (rw q g) (rw q f)
    pick false q (the_capture c i g f h) = the_capture c i (rw q g) (rw q f) (omega arith)

pub found_below : (l : List (Live Capture)) (x : ℕ) {f : Found} → found_in (map_live row_of l) x ≡ Some f → f.row < length l
found_below l x {f} q = pick (found_capture l x)
  where
    pick : Looked l x → f.row < length l
    pick (no_capture g e) = cc
    pick (the_capture c j g e h) = let z : found_at j (map_value row_of c) ≡ f = cc in omega (arith, ap (λ (g : Found). g.row) z)

-- the row of the capture that is found
pub taken_found : (t : List ℕ) (l : List (Live Capture)) → TakenIn t l → (x : ℕ) {f : Found} {c : Live Capture}
    → found_in (map_live row_of l) x ≡ Some f → get_in l x ≡ Some c → CaptureAt t f.row c.value
unfolding TakenIn get_in found_in map_live
taken_found t [] h x q g = cc
taken_found t (e ∷ l) h x {f} {c} q g = pick (eqb e.name x) q g (taken_found t l h.1 x)
  where
    pick : (b : Bool) → cond b (Some (found_at (length (map_live row_of l)) (map_value row_of e))) (found_in (map_live row_of l) x) ≡ Some f
        → cond b (Some e) (get_in l x) ≡ Some c
        → (found_in (map_live row_of l) x ≡ Some f → get_in l x ≡ Some c → CaptureAt t f.row c.value)
        → CaptureAt t f.row c.value
    pick true q g r =
        let z : found_at (length (map_live row_of l)) (map_value row_of e) ≡ f = cc in
        let a : length l ≡ f.row = sym (map-length row_of l) ∙ ap (λ (g : Found). g.row) z in
        let b : e ≡ c = cc in
        subst (λ (k : ℕ). CaptureAt t k c.value) a (subst (λ (c : Live Capture). CaptureAt t (length l) c.value) b h.0)
    pick false q g r = r q g

module _ {p : Pass} {w : List ℕ} {s : State} (k : Works p w s) where
  pub captures_few : 3 * length s.captures.live ≤ rows_length
  captures_few = omega (arith, captures_many k, (spacious k).captures)

  -- the second number: the binder, whether the lambda around takes the name too, and the uses
  pub taken-uses : (x : ℕ) {f : Found} {c : Live Capture} → f.row < length s.captures.live → capture_found s x ≡ Some f → get s.captures x ≡ Some c
      → get_or w (capture_data_first + 2 * f.row + 1) 0 ≡ c.value.binder.at + rows_most * (2 * c.value.usage_count + bit c.value.from_enclosing)
  unfolding put_capture
  taken-uses x {f} h q g =
      let i = f.row in
      let t = region w capture_data_first capture_data_length in
      let z : capture_data_first + 2 * i + 1 ≡ capture_data_first + (2 * i + 1) = omega arith in
      ap (λ (j : ℕ). get_or w j 0) z
      ∙ sym (get_or-drop capture_data_first w (2 * i + 1) 0)
      ∙ sym (get_or-take capture_data_length (drop capture_data_first w) (2 * i + 1) 0 (omega (arith, captures_few)))
      ∙ sym (get_or-drop (2 * i) t 1 0)
      ∙ sym (get_or-take 2 (drop (2 * i) t) 1 0 (omega arith))
      ∙ ap (λ (l : List ℕ). get_or l 1 0) (taken_found t s.captures.live k.taken x q g).row
