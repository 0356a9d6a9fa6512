-- An index of the live names, row by row. No place of the code stands here.
use Rattle.std.specs.Prelude.{Option, None, Some}
use Rattle.std.specs.Bool.{then_some}
use Prim.Native.Nat.{ℕ, zero, suc, ◌+◌, ◌-◌, ◌≤◌, ◌<◌}
use mathlib.Core.List.{List, [], ◌∷◌, map}
use mathlib.Core.Bool.{Bool, true, false, cond, not, ◌||◌}
use mathlib.Core.Path.{◌≡◌, refl, ap, sym, subst, ◌∙◌}
use native.Mathlib.Omega.{arith}
use native.Mathlib.Numerals.{add-one}
use borrow.Author.Tests.{eqb-true, eqb-false}
use lib.ListN.{length, get_or, set, drop, length-map, drop_of_length-le}
use lib.Seq.{get_or-set_same, get_or-set_other, drop-cons}
use lib.Dec.{eqb}
use Rattle.tree.specs.Record.{Record, nth}
use Rattle.tree.specs.Tree.{Ident}
use Rattle.tree.specs.Check.{member}
use Rattle.tree.specs.Accepted.{All}
use Rattle.tree.specs.Stands.{NamesStand}
use Rattle.tree.proofs.Laws.Stands.{first_name, first_place, later-names}
use Rattle.scope_map.specs.ScopeMap.{Live, get_in}
use Rattle.scope_map.specs.declared.Row.{Row}
use Rattle.pass.specs.State.{State, Scope, binder_in}
use Rattle.pass.specs.Lambda.{name_in}
use Rattle.pass.specs.Run.{rows_most}
use Rattle.pass_laws.specs.Laws.Sound.Lists.{all_drop}
use Rattle.work.specs.Known.{Known}
use Rattle.work.specs.Coded.{record_in}
use Rattle.work.specs.Leaves.{LoadsEntry}
use Rattle.work.specs.Scope.{before, KnownHere, TellsLive}
use Rattle.work.specs.declared.Pass.{Pass}
use Rattle.work.specs.declared.entries.Entry.{Entry as Coded}
use Rattle.walk.specs.declared.uses.Names.{Names}
use Rattle.lists.specs.Contract.{Told}
use Rattle.lists.specs.Index.{entry_in, where_captured, captured_newest, Indexed, TellsCaptured, PutsRow, Empty, PutsRows, ClearsName, ClearsNames}
use Rattle.lists.specs.Laws.Live.{live_is, Upto, upto_none, all_upto, upto_next}

-- A binder, where it is captured

pub tells_captured : {w : List ℕ} {b : ℕ} {e : Coded} → LoadsEntry w b e → (q : Bool) → e.captured ≡ q → TellsCaptured w b (cond q (Some b) None)
tells_captured {b = b} {e} l q h = record {
  is = λ p s y works at.
      let captured : (entry_in s.scope y.at).captured ≡ q =
      ap (λ (j : ℕ). (entry_in s.scope j).captured) at ∙ sym (ap (λ (d : Coded). d.captured) (l.is p s works)) ∙ h in
      ap (λ (j : ℕ). cond q (Some j) None) (sym at) ∙ go s.scope y q captured;
}
  where
    go : (c : Scope) (y : Ident) (q : Bool) → (entry_in c y.at).captured ≡ q → cond q (Some y.at) None ≡ record_in (where_captured c (Some y))
    go c y true z = rw z
    go c y false z = rw z

-- and by its number in a row
pub tells_some : {w : List ℕ} {b x : ℕ} {e : Coded} → LoadsEntry w b e → b ≡ x → {v : Option ℕ} → v ≡ then_some e.captured x → TellsCaptured w b v
tells_some {w} {b} {x} {e} l z q =
    subst (TellsCaptured w b) (sym (q ∙ go e.captured x ∙ ap (λ (j : ℕ). cond e.captured (Some j) None) (sym z))) (tells_captured l e.captured refl)
  where
    go : (d : Bool) (j : ℕ) → then_some d j ≡ cond d (Some j) None
    go true j = refl
    go false j = refl

-- One place of an index is written, if the index has the name n; q tells whether x is n

module _ (a : List (Option ℕ)) (n : ℕ) (v : Option ℕ) (x : ℕ) (q : Bool) (same : q ≡ true → n ≡ x) (other : q ≡ false → n ≡ x → ⊥) (h : x < length a) where
  written : get_or (set a n v) x None ≡ cond q v (get_or a x None)
  written = go q refl
    where
      go : (b : Bool) → q ≡ b → get_or (set a n v) x None ≡ cond b v (get_or a x None)
      go true e = ap (λ (i : ℕ). get_or (set a i v) x None) (same e) ∙ get_or-set_same a x v None h
      go false e = get_or-set_other a n x v None (λ z. other e (sym z))

  past : length a ≤ n → get_or a x None ≡ cond q v (get_or a x None)
  past g = go q refl
    where
      go : (b : Bool) → q ≡ b → get_or a x None ≡ cond b v (get_or a x None)
      go true e = absurd (omega (arith, same e))
      go false e = refl

-- The live names

-- the record of each lies inside the table
pub value_inside : {rs : List ℕ} {p : Pass} {w : List ℕ} {i : ℕ} {r : Row} → KnownHere rs p w → TellsLive p w i r → r.value < rows_most
value_inside {rs} {i = i} h t =
    let l = h.s.scope.names.live in
    let v = t.is h.s h.works in
    let known = subst (All (λ (e : Live Ident). Known rs e.value)) v.up (all_drop (λ e. Known rs e.value) (length l - suc i) l h.binders) in
    omega (arith, v.value, known.0.few)

module _ {p : Pass} {w : List ℕ} {i : ℕ} {r : Row} (t : TellsLive p w i r) {n : ℕ} (named : n ≡ r.name) {a : List (Option ℕ)} where
  pub put_in : {b : ℕ} → b ≡ r.value → {v : Option ℕ} → TellsCaptured w b v → PutsRow p w i a (set a n v)
  put_in {b} q {v} c = record {
    is = λ s e works up x h.
        let row = live_is t works up in
        let z : n ≡ e.name = named ∙ row.0 in
        written a n v x (eqb e.name x) (λ b. z ∙ eqb-true e.name x b) (λ b k. eqb-false e.name x b (sym z ∙ k)) h
        ∙ ap (λ (k : Option ℕ). cond (eqb e.name x) k (get_or a x None)) (c.is p s e.value works (sym (q ∙ row.2)));
  }

  pub put_past : length a ≤ n → PutsRow p w i a a
  put_past g = record {
    is = λ s e works up x h.
        let z : n ≡ e.name = named ∙ (live_is t works up).0 in
        past a n (record_in (where_captured s.scope (Some e.value))) x (eqb e.name x) (λ b. z ∙ eqb-true e.name x b)
        (λ b k. eqb-false e.name x b (sym z ∙ k)) h g;
  }

-- those before row i are put

abbrev pub PutIn : List (Option ℕ) → State → List (Live Ident) → Type 0
PutIn a s l = (x : ℕ) → x < length a → get_or a x None ≡ record_in (where_captured s.scope (binder_in (get_in l x)))

pub put-start : {p : Pass} {w : List ℕ} (a : List (Option ℕ)) → Empty a → Upto p w (PutIn a) 0
unfolding get_in
put-start a z = upto_none (λ s works x h. z x)

module _ {p : Pass} {w : List ℕ} {a : List (Option ℕ)} where
  module _ {i : ℕ} (u : Upto p w (PutIn a) i) where
    pub put_next : {b : List (Option ℕ)} → PutsRow p w i a b → length b ≡ length a → i < p.scope.length → Upto p w (PutIn b) (i + 1)
    unfolding get_in
    put_next {b} f g h =
        upto_next u h
        (λ s works e up r x k.
        f.is s e works up x (omega arith)
        ∙ ap (λ (n : Option ℕ). cond (eqb e.name x) (record_in (where_captured s.scope (Some e.value))) n) (r x (omega arith))
        ∙ go s.scope e (get_in (before i s.scope.names.live) x) (eqb e.name x))
      where
        go : (c : Scope) (e : Live Ident) (o : Option (Live Ident)) (q : Bool)
            → cond q (record_in (where_captured c (Some e.value))) (record_in (where_captured c (binder_in o))) ≡ record_in (where_captured c (binder_in (cond q (Some e) o)))
        go c e o true = refl
        go c e o false = refl

    pub put_last : p.scope.length ≤ i → PutsRows p w a
    put_last h = record { is = all_upto u h }

-- The parameters

module _ {a : List (Option ℕ)} {y : ℕ} where
  pub clear_in : ClearsName a y (set a y None)
  clear_in = record { is = λ x h. written a y None x (eqb x y) (λ e. sym (eqb-true x y e)) (λ e z. eqb-false x y e (sym z)) h }

  pub clear_past : length a ≤ y → ClearsName a y a
  clear_past g = record { is = λ x h. past a y None x (eqb x y) (λ e. sym (eqb-true x y e)) (λ e z. eqb-false x y e (sym z)) h g }

-- the name of each
name_nth : {N : ℕ} {rs : List ℕ} (i : ℕ) (xs : List Ident) → NamesStand N rs i xs → (k : ℕ) → k < length xs → (nth rs (i + k)).name ≡ get_or (map name_in xs) k 0
name_nth i [] s k h = absurd (omega arith)
name_nth {rs = rs} i (y ∷ xs) s zero h =
    let z : i + 0 ≡ y.at = omega (arith, first_place s) in
    ap (λ (j : ℕ). (nth rs j).name) z ∙ ap (λ (r : Record). r.name) (first_name s).is
name_nth {rs = rs} i (y ∷ xs) s (suc k) h =
    let z : i + suc k ≡ i + 1 + k = omega arith in
    ap (λ (j : ℕ). (nth rs j).name) z ∙ name_nth (i + 1) xs (later-names s) k (omega arith)

-- those after the first i are still to be cleared
pub record ClearFrom (rs : List ℕ) (n : Names) (a : List (Option ℕ)) (i : ℕ) (b : List (Option ℕ)) : Type 0 where
  pub long : length b ≡ length a
  pub is : (xs : List Ident) → Told rs n xs → (x : ℕ) → x < length a
      → cond (member x (map name_in xs)) None (get_or a x None) ≡ cond (member x (drop i (map name_in xs))) None (get_or b x None)

pub clear_start : {rs : List ℕ} {n : Names} {a : List (Option ℕ)} → ClearFrom rs n a 0 a
clear_start = record { long = refl; is = λ xs k x h. refl }

module _ {rs : List ℕ} {n : Names} {a : List (Option ℕ)} {i : ℕ} {b : List (Option ℕ)} (u : ClearFrom rs n a i b) where
  pub clear_next : {y : ℕ} {c : List (Option ℕ)} → y ≡ (nth rs (n.first + i)).name → i < n.count → ClearsName b y c → length c ≡ length b → ClearFrom rs n a (i + 1) c
  clear_next {y} {c} e h f g = record {
    long = g ∙ u.long;
    is = λ xs k x q.
        let l = map name_in xs in
        let long : length l ≡ n.count = length-map xs name_in ∙ k.count in
        let z : get_or l i 0 ≡ y = sym (e ∙ name_nth n.first xs k.stand i (omega (arith, k.count))) in
        let rest : drop i l ≡ y ∷ drop (i + 1) l =
        drop-cons l i 0 (omega arith) ∙ ap (λ (j : ℕ). j ∷ drop (suc i) l) z ∙ ap (λ (j : ℕ). y ∷ drop j l) (sym (add-one i)) in
        u.is xs k x q
        ∙ ap (λ (m : List ℕ). cond (member x m) None (get_or b x None)) rest
        ∙ go (eqb x y) (member x (drop (i + 1) l)) (get_or b x None)
        ∙ sym (ap (λ (j : Option ℕ). cond (member x (drop (i + 1) l)) None j) (f.is x (omega (arith, u.long))));
  }
    where
      go : (p q : Bool) (j : Option ℕ) → cond (p || q) None j ≡ cond q None (cond p None j)
      go true true j = refl
      go true false j = refl
      go false q j = refl

  pub clear_last : n.count ≤ i → ClearsNames rs n a b
  clear_last h = record {
    is = λ xs k x q.
        let l = map name_in xs in
        sym (u.is xs k x q ∙ ap (λ (m : List ℕ). cond (member x m) None (get_or b x None)) (drop_of_length-le l {i = i} (omega (arith, length-map xs name_in, k.count))));
  }

-- The whole

pub indexed : {rs : List ℕ} {n : Names} {p : Pass} {w : List ℕ} {a b : List (Option ℕ)} → PutsRows p w a → ClearsNames rs n a b → length b ≡ length a → Indexed rs n p w b
indexed {a = a} f g e = record {
  is = λ xs s k works x h.
      let ps = map name_in xs in
      g.is xs k x (omega arith)
      ∙ ap (λ (j : Option ℕ). cond (member x ps) None j) (f.is s works x (omega arith))
      ∙ go (member x ps) (captured_newest s.scope x);
}
  where
    go : (q : Bool) (o : Option Ident) → cond q None (record_in o) ≡ record_in (cond (not q) o None)
    go true o = refl
    go false o = refl
