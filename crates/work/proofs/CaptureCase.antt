-- The captures, against the map of the code and their rows.
use Rattle.std.specs.Prelude.{Option, Some}
use Prim.Native.Nat.{ℕ, ◌+◌, ◌*◌, ◌/◌, ◌%◌, ◌≤◌, ◌<◌}
use mathlib.Core.List.{List, [], ◌∷◌}
use mathlib.Core.Path.{◌≡◌, ap, sym, subst, ◌∙◌}
use native.Mathlib.Omega.{arith}
use lib.ListN.{length, get_or, set}
use Rattle.table.specs.Region.{region, replaced}
use Rattle.table.specs.Laws.Region.{set-region, set_elsewhere, elsewhere_same, elsewhere_wider}
use Rattle.tree.specs.Tree.{bit}
use Rattle.scope_map.specs.ScopeMap.{Live, push_layer, pop_layer, get_in}
use Rattle.scope_map.specs.Map.{map_values}
use Rattle.scope_map.proofs.Laws.Map.{map-pop_layer}
use Rattle.scope_map.specs.Held.{Gets}
use Rattle.scope_map.specs.Held as map
use Rattle.scope_map.specs.declared.ScopeMap.{ScopeMap as Map}
use Rattle.scope_map.specs.declared.Found.{Found}
use Rattle.semantic.specs.Laws.Numbers.{bit-one}
use Rattle.semantic.specs.Laws.Marks.{bit_low}
use Rattle.pass.specs.State.{Capture}
use Rattle.pass.specs.Lambda.{close_captures}
use Rattle.pass.specs.Run.{rows_most, list_entries_most}
use Rattle.pass.specs.Read.{used_capture, use_in}
use Rattle.work.specs.Coded.{capture_of, capture_width, put_capture}
use Rattle.work.specs.Works.{work_long, captures_first, captures_length, capture_data_first, capture_data_length, row_of, CaptureAt}
use Rattle.work.specs.Laws.Works.{part_length}
use Rattle.work.specs.Passes.{in_captures}
use Rattle.work.specs.Leaves.{Becomes}
use Rattle.work.specs.Captures.{capture_in, opened, GetsCapture, LoadsCapture, UsesCapture}
use Rattle.work.specs.Laws.Captures.{found_below, taken_found, taken-uses}
use Rattle.work.specs.declared.Pass.{Pass}
use Rattle.work.specs.declared.captures.Capture.{Capture as CodedCapture}
use Rattle.work.proofs.Changes.{read-part, captures_changed, map_elsewhere, map_back}
use Rattle.work.proofs.CaptureRows.{taken_pop, use_rows, taken_use}

-- What is told

pub capture_gets : {p : Pass} {w : List ℕ} {x : ℕ} {f : Option Found} → Gets p.captures (region w captures_first captures_length) x f → GetsCapture p w x f
capture_gets g = record { is = λ s k. g.row (map_values row_of s.captures) k.captures }

taken_back : (t : CodedCapture) → t.binder < rows_most → capture_in (put_capture t) ≡ t
unfolding capture_in put_capture
taken_back t h =
    let n = 2 * t.uses + bit t.enclosing in
    let m = t.binder + rows_most * n in
    let a : m % rows_most ≡ t.binder = omega arith in
    let b : m / rows_most ≡ n = omega arith in
    let c : n / 2 ≡ t.uses = omega (arith, bit_low t.enclosing) in
    let d : n % 2 ≡ bit t.enclosing = omega (arith, bit_low t.enclosing) in
    rw (a, b, c, d, bit-one t.enclosing)

pub loads_taken : (w : List ℕ) (i : ℕ) → i < list_entries_most → {row : List ℕ} → row ≡ region w (capture_data_first + capture_width * i) capture_width
    → LoadsCapture w i (capture_in row)
loads_taken w i b e = record {
  is = λ p s x d v c k f g.
      let q = read-part w capture_data_first capture_data_length (omega (arith, k.long)) (capture_width * i) capture_width (omega arith) in
      let h = taken_found (region w capture_data_first capture_data_length) s.captures.live k.taken x f g in
      ap capture_in (e ∙ q ∙ h.row) ∙ taken_back (capture_of c.value) h.small;
}

-- A layer opens, and the table stays; or one goes, and the map comes back as ys

module _ {p : Pass} {w : List ℕ} {m : Map} where
  pub captures_open : map.Becomes p.captures (region w captures_first captures_length) push_layer m (region w captures_first captures_length)
      → Becomes p w opened (in_captures m p) w
  captures_open b = record {
    is = λ s k. captures_changed k m (push_layer s.captures) elsewhere_same (b.held (map_values row_of s.captures) k.captures) k.taken;
  }

  pub captures_close : {ys : List ℕ} → length ys ≡ length (region w captures_first captures_length)
      → map.Becomes p.captures (region w captures_first captures_length) pop_layer m ys
      → Becomes p w close_captures (in_captures m p) (replaced w captures_first captures_length ys)
  unfolding close_captures
  captures_close {ys} l b = record {
    is = λ s k.
        let e = map_elsewhere w ys k.long l in
        captures_changed k m (pop_layer s.captures) (elsewhere_wider (omega arith) (omega arith) e)
        (rw (map_back w ys k.long l, map-pop_layer row_of s.captures) (b.held (map_values row_of s.captures) k.captures))
        (rw (e.after capture_data_first capture_data_length (omega arith)) (taken_pop (region w capture_data_first capture_data_length) s.captures k.taken));
  }

-- One use more

module _ (w : List ℕ) (i : ℕ) (z : length w ≡ work_long) (h : i < list_entries_most) where
  uses-at : UsesCapture w i (set w (capture_data_first + (2 * i + 1)) (get_or w (capture_data_first + (2 * i + 1)) 0 + 8192))
  unfolding put_capture
  uses-at =
      let v = get_or w (capture_data_first + (2 * i + 1)) 0 + 8192 in
      let t = region w capture_data_first capture_data_length in
      let l : length t ≡ capture_data_length = part_length w z capture_data_first capture_data_length (omega arith) in
      let b : capture_data_first + capture_data_length ≤ length w = omega arith in
      let j : 2 * i + 1 < capture_data_length = omega arith in
      let q : 2 * i + 2 ≤ length t = omega arith in
      let e = set_elsewhere w capture_data_first capture_data_length b (2 * i + 1) v j in
      record {
        is = λ p s x d n k f.
            let m = s.captures.live in
            let row : (c : Live Capture) → get_in m x ≡ Some c → CaptureAt (set t (2 * i + 1) v) i (used_capture c.value) =
            λ c g.
            let a : capture_data_first + 2 * i + 1 ≡ capture_data_first + (2 * i + 1) = omega arith in
            let u = ap (λ (k : ℕ). get_or w k 0) (sym a) ∙ taken-uses k x (found_below m x f) f g in
            let h = taken_found t m k.taken x f g in
            record {
              row =
                  set-region t (2 * i) 2 q 1 v (omega arith)
                  ∙ ap (λ (r : List ℕ). set r 1 v) h.row
                  ∙ ap (λ (n : ℕ). c.value.binder.id ∷ n ∷ []) (omega (arith, u));
              small = h.small;
            } in
            captures_changed k p.captures (record { depth = s.captures.depth; live = use_in x m }) (elsewhere_wider (omega arith) (omega arith) e)
            (rw (e.before captures_first captures_length (omega arith), use_rows x m) k.captures)
            (rw (set-region w capture_data_first capture_data_length b (2 * i + 1) v j)
            (taken_use t (set t (2 * i + 1) v) (record { row = i; layer = d; value = n }) x (set_elsewhere t (2 * i) 2 q 1 v (omega arith)) m f row k.taken));
      }

  pub uses-capture : UsesCapture w i (set w (capture_data_first + 2 * i + 1) (get_or w (capture_data_first + 2 * i + 1) 0 + 8192))
  uses-capture =
      let a : capture_data_first + (2 * i + 1) ≡ capture_data_first + 2 * i + 1 = omega arith in
      subst (λ (n : ℕ). UsesCapture w i (set w n (get_or w n 0 + 8192))) a uses-at
