-- The live names of the bottom layer, which come first and give nothing, and those above it. No place of the code stands here.
use Rattle.std.specs.Prelude.{ℕ, suc, ◌+◌, ◌-◌, ◌≤◌, ◌<◌, List, [], ◌∷◌, Bool, true, false, cond, ◌≡◌, refl, get_or, drop, ltb, None}
use Rattle.std.proofs.Math.Path.{ap, sym}
use Rattle.std.proofs.Common.{◌∙◌, ltb-true, ltb-false, le-ltb, lt-ltb, length-drop}
use native.Mathlib.Omega.{arith}
use Rattle.std.proofs.Math.ListN.{length}
use Rattle.tree.specs.Tree.{Ident}
use Rattle.scope_map.specs.ScopeMap.{Live}
use Rattle.scope_map.specs.Map.{map_live}
use Rattle.scope_map.specs.Held.{Sorted}
use Rattle.scope_map.specs.declared.Row.{Row}
use Rattle.pass.specs.State.{State}
use Rattle.pass.specs.Lists.{captured_in, captured_vars}
use Rattle.work.specs.Works.{Works, record_at}
use Rattle.work.specs.Laws.Works.{names-many}
use Rattle.work.specs.Scope.{before, LiveRow, TellsLive}
use Rattle.work.specs.declared.Pass.{Pass}
use Rattle.lists.specs.Index.{offered}
use Rattle.lists.specs.Given.{with_given, bottom_of, StartsAbove}
use Rattle.lists.specs.Laws.Given.{captured_step, captured_more}
use Rattle.lists.specs.Laws.Live.{before-none, before-all, live_is, Upto, upto_all, upto_back}

-- a name above the bottom layer, and one that is not

bottom_over : (e : Live Ident) (l : List (Live Ident)) → 1 < e.layer → bottom_of (e ∷ l) ≡ bottom_of l
unfolding bottom_of
bottom_over e l h = ap (λ (q : Bool). cond q (bottom_of l) (e ∷ l)) (lt-ltb 1 e.layer h)

bottom_at : (e : Live Ident) (l : List (Live Ident)) → e.layer ≤ 1 → bottom_of (e ∷ l) ≡ e ∷ l
unfolding bottom_of
bottom_at e l h = ap (λ (q : Bool). cond q (bottom_of l) (e ∷ l)) (le-ltb 1 e.layer h)

-- by the layer of the newest name
by_layer : {P : Type 0} (e : Live Ident) → (1 < e.layer → P) → (e.layer ≤ 1 → P) → P
by_layer {P} e f g = go (ltb 1 e.layer) refl
  where
    go : (q : Bool) → ltb 1 e.layer ≡ q → P
    go true k = f (ltb-true 1 e.layer k)
    go false k = g (ltb-false 1 e.layer k)

-- The search for the first row above the bottom layer: no row from i on is of that layer

abbrev pub SameBottom : State → List (Live Ident) → Type 0
SameBottom s l = bottom_of s.scope.names.live ≡ bottom_of l

abbrev pub Above : Pass → List ℕ → ℕ → Type 0
Above p w i = Upto p w SameBottom i

module _ {p : Pass} {w : List ℕ} where
  pub above_start : Above p w p.scope.length
  above_start = upto_all (λ s works. refl)

  pub above_last : {i : ℕ} → Above p w i → i ≤ 0 → StartsAbove p w 0
  unfolding bottom_of
  above_last {i} a h = record {
    is = λ s works.
        let l = s.scope.names.live in
        let z : i ≡ 0 = omega arith in
        sym (ap length (a.is s works ∙ ap (λ (k : ℕ). bottom_of (before k l)) z ∙ ap bottom_of (before-none l)));
    most = omega arith;
  }

  module _ {i : ℕ} (a : Above p w i) (h : 0 < i) (m : i ≤ p.scope.length) {r : Row} (t : TellsLive p w (i - 1) r) where
    pub above_next : 1 < r.layer → Above p w (i - 1)
    above_next g = upto_back a h m (λ s works e up q. q ∙ bottom_over e (before (i - 1) s.scope.names.live) (omega (arith, (live_is t works up).1)))

    pub above_found : r.layer ≤ 1 → StartsAbove p w i
    above_found g = record {
      is = λ s works.
          let l = s.scope.names.live in
          let v = t.is s works in
          let z : i ≡ suc (i - 1) = omega arith in
          let e =
          ap length (a.is s works ∙ ap (λ (k : ℕ). bottom_of (before k l)) z ∙ ap bottom_of v.up ∙ bottom_at v.live (before (i - 1) l) (omega (arith, v.layer))) in
          omega (arith, e, length-drop (length l - (i - 1)) l, names-many works);
      most = m;
    }

-- Layers do not fall from older names to newer: the names of the bottom layer give nothing

low_gives : (ps : List ℕ) (s : State) (d : ℕ) (l : List (Live Ident)) → d ≤ 1 → Sorted d (map_live record_at l) → captured_in ps s l ≡ []
unfolding captured_in map_live Sorted
low_gives ps s d [] h o = refl
low_gives ps s d (e ∷ l) h o =
    captured_step ps s e l
    ∙ ap (λ (q : Bool). with_given s.scope (cond q (offered ps s.scope e.name) None) (captured_in ps s l)) (le-ltb 1 e.layer (omega (arith, o.0)))
    ∙ low_gives ps s e.layer l (omega (arith, o.0)) o.1

bottom_gives : (ps : List ℕ) (s : State) (d : ℕ) (l : List (Live Ident)) → Sorted d (map_live record_at l) → captured_in ps s (bottom_of l) ≡ []
unfolding captured_in bottom_of map_live Sorted
bottom_gives ps s d [] o = refl
bottom_gives ps s d (e ∷ l) o =
    by_layer e (λ h. ap (captured_in ps s) (bottom_over e l h) ∙ bottom_gives ps s e.layer l o.1)
    (λ h. ap (captured_in ps s) (bottom_at e l h) ∙ low_gives ps s 1 (e ∷ l) (omega arith) (h, o.1))

-- and there are at most as many entries as names above it
above_few : (ps : List ℕ) (s : State) (d : ℕ) (l : List (Live Ident)) → Sorted d (map_live record_at l) → length (captured_in ps s l) + length (bottom_of l) ≤ length l
unfolding captured_in bottom_of map_live Sorted
above_few ps s d [] o = omega arith
above_few ps s d (e ∷ l) o =
    by_layer e (λ h. omega (arith, ap length (bottom_over e l h), above_few ps s e.layer l o.1, captured_more ps s e l))
    (λ h. omega (arith, ap length (bottom_at e l h), ap length (low_gives ps s 1 (e ∷ l) (omega arith) (h, o.1))))

bottom_few : (l : List (Live Ident)) → length (bottom_of l) ≤ length l
unfolding bottom_of
bottom_few [] = omega arith
bottom_few (e ∷ l) = by_layer e (λ h. omega (arith, ap length (bottom_over e l h), bottom_few l)) (λ h. omega (arith, ap length (bottom_at e l h)))

-- they are those before the row
bottom_before : (l : List (Live Ident)) → before (length (bottom_of l)) l ≡ bottom_of l
unfolding bottom_of
bottom_before [] = refl
bottom_before (e ∷ l) =
    by_layer e
    (λ h.
    let n = length (bottom_of l) in
    let z : suc (length l) - n ≡ suc (length l - n) = omega (arith, bottom_few l) in
    ap (λ (m : List (Live Ident)). before (length m) (e ∷ l)) (bottom_over e l h)
    ∙ ap (λ (k : ℕ). drop k (e ∷ l)) z
    ∙ bottom_before l
    ∙ sym (bottom_over e l h))
    (λ h. ap (λ (m : List (Live Ident)). before (length m) (e ∷ l)) (bottom_at e l h) ∙ before-all (e ∷ l) (suc (length l)) (omega arith) ∙ sym (bottom_at e l h))

-- and no other is of that layer
above_low : (l : List (Live Ident)) {i : ℕ} (v : Live Ident) → i < length l → before (suc i) l ≡ v ∷ before i l → length (bottom_of l) ≤ i → 1 < v.layer
unfolding bottom_of
above_low [] v g e h = absurd (omega arith)
above_low (f ∷ l) {i} v g e h = by_layer f (λ k. go (ltb i (length l)) refl k (above_low l v)) (λ k. absurd (omega (arith, ap length (bottom_at f l k))))
  where
    go : (q : Bool) → ltb i (length l) ≡ q → 1 < f.layer
        → (i < length l → before (suc i) l ≡ v ∷ before i l → length (bottom_of l) ≤ i → 1 < v.layer) → 1 < v.layer
    go true t k r =
        let under = ltb-true i (length l) t in
        let y : suc (length l) - suc i ≡ suc (length l - suc i) = omega arith in
        let z : suc (length l) - i ≡ suc (length l - i) = omega arith in
        r under (sym (ap (λ (k : ℕ). drop k (f ∷ l)) y) ∙ e ∙ ap (λ (k : ℕ). v ∷ drop k (f ∷ l)) z) (omega (arith, ap length (bottom_over f l k)))
    go false t k r =
        let last = ltb-false i (length l) t in
        let same : v ≡ f = ap (λ (m : List (Live Ident)). get_or m 0 v) (sym e ∙ before-all (f ∷ l) (suc i) (omega arith)) in
        omega (arith, ap (λ (d : Live Ident). d.layer) same)

module _ {p : Pass} {w : List ℕ} {low : ℕ} (a : StartsAbove p w low) where
  pub none_before : (s : State) (ps : List ℕ) → Works p w s → captured_in ps s (before low s.scope.names.live) ≡ []
  none_before s ps works =
      let l = s.scope.names.live in
      ap (λ (n : ℕ). captured_in ps s (before n l)) (a.is s works)
      ∙ ap (captured_in ps s) (bottom_before l)
      ∙ bottom_gives ps s s.scope.names.depth l works.names.sorted

  pub few_above : (s : State) (ps : List ℕ) → Works p w s → length (captured_vars ps s) ≤ p.scope.length - low
  unfolding captured_vars
  few_above s ps works =
      omega (arith, a.is s works, names-many works, above_few ps s s.scope.names.depth s.scope.names.live works.names.sorted)

  pub row_above : {s : State} → Works p w s → {i : ℕ} {r : Row} → LiveRow s.scope.names.live i r → low ≤ i → i < p.scope.length → 1 < r.layer
  row_above {s} works v h g =
      omega (arith, v.layer, above_low s.scope.names.live v.live (omega (arith, names-many works)) v.up (omega (arith, a.is s works)))
