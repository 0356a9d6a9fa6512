-- A capture is defined: in the map, which comes back as ys, and in the rows.
use Prim.Native.Nat.{ℕ, ◌+◌, ◌*◌, ◌≤◌, ◌<◌}
use mathlib.Core.List.{List}
use mathlib.Core.Path.{◌≡◌, refl, ap, sym, subst, ◌∙◌}
use native.Mathlib.Omega.{arith}
use lib.ListN.{length}
use lib.Seq.{sets}
use lib.Dec.{ltb}
use Rattle.table.specs.Region.{region, replaced}
use Rattle.table.specs.Laws.Region.{Elsewhere, replaced-region, replaced_elsewhere, sets_replaced, elsewhere_then, elsewhere_wider}
use Rattle.scope_map.specs.ScopeMap.{ScopeMap, define}
use Rattle.scope_map.specs.Map.{map_live, map_values}
use Rattle.scope_map.proofs.Laws.Map.{map-length, map-has_at_top, map-define}
use Rattle.scope_map.specs.Hints.{rows_length}
use Rattle.scope_map.specs.Held.{Held, place_in, Places}
use Rattle.scope_map.specs.Held as map
use Rattle.scope_map.specs.declared.ScopeMap.{ScopeMap as Map}
use Rattle.pass.specs.State.{State, Capture, with_captures}
use Rattle.pass.specs.Run.{rows_most, list_entries_most}
use Rattle.work.specs.Coded.{capture_of, capture_width, put_capture, Packable}
use Rattle.work.specs.Works.{work_long, captures_first, captures_length, capture_data_first, capture_data_length, row_of, TakenIn, Works, Spacious}
use Rattle.work.specs.Laws.Works.{part_length}
use Rattle.work.specs.Passes.{in_captures}
use Rattle.work.specs.Captures.{DefinesRow, capture_put, DefinesCapture}
use Rattle.work.specs.declared.Pass.{Pass}
use Rattle.work.specs.declared.captures.Capture.{Capture as CodedCapture}
use Rattle.work.proofs.Changes.{write_part, write_elsewhere, captures_changed, map_elsewhere, map_back}
use Rattle.work.proofs.CaptureRows.{taken-define}

taken_long : (t : CodedCapture) → length (put_capture t) ≡ capture_width
unfolding put_capture
taken_long t = refl

-- In the map

map-defined : {m m' : Map} {t ys : List ℕ} (x : ℕ) {r : ℕ} (n : ScopeMap Capture) (c : Capture) → c.row ≡ r → map.Becomes m t (define x r) m' ys
    → Held m t (map_values row_of n) → Held m' ys (map_values row_of (define x c n))
map-defined {m} {m'} {t} {ys} x n c q b h =
    subst (λ (s : ScopeMap ℕ). Held m' ys s)
    (ap (λ (j : ℕ). define x j (map_values row_of n)) (sym q) ∙ sym (map-define row_of x c n))
    (b.held (map_values row_of n) h)

-- In the rows

module _ (t zs : List ℕ) (i : ℕ) (c : Capture) (small : c.binder.at < rows_most) (h : capture_width * i + capture_width ≤ length t)
    (e : zs ≡ sets t (capture_width * i) (put_capture (capture_of c))) where
  row_put : zs ≡ replaced t (capture_width * i) capture_width (put_capture (capture_of c))
  unfolding put_capture
  row_put = e ∙ sets_replaced t (capture_width * i) (put_capture (capture_of c)) h

  rows-defined : (m : Map) (x : ℕ) (n : ScopeMap Capture) {T : List ℕ} → Places m T x i → Held m T (map_values row_of n)
      → TakenIn t n.live → TakenIn zs (define x c n).live
  rows-defined m x n u g k =
      let l : m.length ≡ length n.live = g.many ∙ map-length row_of n.live in
      taken-define t zs i
      (subst (Elsewhere (capture_width * i) capture_width t) (sym row_put)
      (replaced_elsewhere t (capture_width * i) capture_width h (put_capture (capture_of c)) (taken_long (capture_of c))))
      n.depth x c
      (record {
        row =
            ap (λ (l : List ℕ). region l (capture_width * i) capture_width) row_put
            ∙ replaced-region t (capture_width * i) capture_width h (put_capture (capture_of c)) (taken_long (capture_of c));
        small = small;
      })
      n refl
      (u.is (map_values row_of n) g ∙ ap (λ (j : ℕ). place_in n.depth x j (map_live row_of n.live)) (map-length row_of n.live))
      (subst (λ (j : ℕ). i ≤ j) l u.most)
      (ap (ltb i) (sym l) ∙ u.has (map_values row_of n) g ∙ map-has_at_top row_of n x)
      k

-- In both

abbrev first : List ℕ → List ℕ → List ℕ
first w ys = replaced w captures_first captures_length ys

module _ (w ys : List ℕ) (i : ℕ) (c : Capture) (h : length w ≡ work_long) (g : i < list_entries_most)
    (l : length ys ≡ length (region w captures_first captures_length)) where
  abbrev both : List ℕ
  both = capture_put (first w ys) i (capture_of c)

  abbrev zs : List ℕ
  zs = sets (region (first w ys) capture_data_first capture_data_length) (capture_width * i) (put_capture (capture_of c))

  first_elsewhere : Elsewhere captures_first captures_length w (first w ys)
  first_elsewhere = map_elsewhere w ys h l

  b : capture_data_first + capture_data_length ≤ length (first w ys)
  b = omega (arith, first_elsewhere.long)

  room : capture_width * i + length (put_capture (capture_of c)) ≤ capture_data_length
  room = omega (arith, taken_long (capture_of c))

  second_elsewhere : Elsewhere capture_data_first capture_data_length (first w ys) both
  second_elsewhere = write_elsewhere (put_capture (capture_of c)) (first w ys) capture_data_first capture_data_length (capture_width * i) b room

  both_elsewhere : Elsewhere captures_first (captures_length + capture_data_length) w both
  both_elsewhere =
      elsewhere_then (elsewhere_wider (omega arith) (omega arith) first_elsewhere) (elsewhere_wider (omega arith) (omega arith) second_elsewhere)

  both-map : region both captures_first captures_length ≡ ys
  both-map = second_elsewhere.before captures_first captures_length (omega arith) ∙ map_back w ys h l

  both-rows : region both capture_data_first capture_data_length ≡ zs
  both-rows = write_part (put_capture (capture_of c)) (first w ys) capture_data_first capture_data_length (capture_width * i) b room

  rows_kept : zs ≡ sets (region w capture_data_first capture_data_length) (capture_width * i) (put_capture (capture_of c))
  rows_kept = ap (λ (l : List ℕ). sets l (capture_width * i) (put_capture (capture_of c))) (first_elsewhere.after capture_data_first capture_data_length (omega arith))

  works_defined : {p : Pass} {s : State} {m : Map} (x : ℕ) {r : ℕ} → c.binder.at < rows_most → c.row ≡ r → Places p.captures (region w captures_first captures_length) x i
      → map.Becomes p.captures (region w captures_first captures_length) (define x r) m ys → Works p w s
      → Works (in_captures m p) both (with_captures (define x c s.captures) s)
  works_defined {p} {s} {m} x small q u d k =
      let z : length (region w capture_data_first capture_data_length) ≡ capture_data_length = part_length w h capture_data_first capture_data_length (omega arith) in
      let n = s.captures in
      captures_changed k m (define x c n) both_elsewhere
      (subst (λ (l : List ℕ). Held m l (map_values row_of (define x c n))) (sym both-map) (map-defined x n c q d k.captures))
      (subst (λ (l : List ℕ). TakenIn l (define x c n).live) (sym both-rows)
      (rows-defined (region w capture_data_first capture_data_length) zs i c small (omega arith) rows_kept p.captures x n u k.captures k.taken))

pub row-defined : {p : Pass} {w ys : List ℕ} {m : Map} (x : ℕ) {v r : ℕ} → v ≡ r → length ys ≡ length (region w captures_first captures_length)
    → map.Becomes p.captures (region w captures_first captures_length) (define x v) m ys → DefinesRow p w x r (in_captures m p) (first w ys)
row-defined {p} {w} {ys} {m} x e l d = record {
  m = m;
  ys = ys;
  long = l;
  pass = refl;
  table = refl;
  becomes = subst (λ (j : ℕ). map.Becomes p.captures (region w captures_first captures_length) (define x j) m ys) e d;
}

pub defines_capture : {p q : Pass} {w v v' : List ℕ} {x r i : ℕ} {t : CodedCapture} → Spacious p w → 3 * p.captures.length + 3 ≤ rows_length → Packable t
    → Places p.captures (region w captures_first captures_length) x i → DefinesRow p w x r q v → v' ≡ capture_put v i t → DefinesCapture p w x r t q v'
defines_capture {p} {q} {w} {v} {v'} {x} {r} {i} {t} h room g u d e = record {
  is = λ s c z y k.
      let n = define x c s.captures in
      let f : capture_put (first w d.ys) i (capture_of c) ≡ v' =
      ap (λ (o : CodedCapture). capture_put (first w d.ys) i o) y ∙ ap (λ (l : List ℕ). capture_put l i t) (sym d.table) ∙ sym e in
      subst (λ (o : Pass). Works o v' (with_captures n s)) (sym d.pass)
      (subst (λ (l : List ℕ). Works (in_captures d.m p) l (with_captures n s)) f
      (works_defined w d.ys i c h.long (omega (arith, u.most)) d.long x (omega (arith, g.binder, ap (λ (o : CodedCapture). o.binder) y)) z u d.becomes k));
}
