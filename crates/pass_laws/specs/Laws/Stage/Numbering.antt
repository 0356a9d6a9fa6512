-- A lambda's list becomes captures: as many more as it has entries, all in the newest layer.
use Prim.Native.Nat.{ℕ, zero, suc, ◌+◌, ◌≤◌, ◌<◌}
use Rattle.std.specs.Prelude.{List, [], ◌∷◌, ◌++◌, Bool, not, ◌&&◌, ◌≡◌, length, get_or, set, replicate, eqb, Option, None, Some}
use Rattle.std.proofs.Common.{append_assoc, ap, sym, ◌∙◌, eqb-true, get_or-set_same, get_or-set_other}
use Rattle.std.proofs.Math.Bool.{true, false, cond}
use Rattle.std.proofs.Math.Path.{refl, subst}
use Rattle.std.proofs.Math.Decide.{ℕ_discrete, dec_lt}
use native.Mathlib.Omega.{arith}
use Rattle.std.proofs.lemmas.List.{replicate-append-replicate}
use Rattle.std.proofs.Math.Seq.{set_out}
use Rattle.tree.specs.Tree.{bit}
use Rattle.scope_map.specs.ScopeMap.{ScopeMap, Live, is_at, replace_in, has_at_top, push_layer}
use Rattle.scope_map.specs.ScopeMap as map
use Rattle.scope_map.proofs.Laws.Size.{define-size}
use Rattle.semantic.specs.Rows.{ListEntry, no_list_entry}
use Rattle.semantic.specs.declared.ListAt.{ListAt}
use Rattle.semantic.specs.declared.FunctionInformation.{FunctionInformation}
use Rattle.semantic.specs.declared.ScopeInfo.{ScopeInfo}
use Rattle.pass.specs.State.{Capture, State, with_captures, list_entry_at}
use Rattle.pass.specs.Lists.{on_info, near, is_near, is_of, capture_of, number_row, number_rows, number_list, numbered_capture, numbered_heap}
use Rattle.pass.specs.Lambda.{open_captures}
use Rattle.pass_laws.specs.Stage.{layers_of, list_length, of_kind}

-- Whether an entry is mutated stays as it is

abbrev Plain : (ℕ → Option ScopeInfo → ScopeInfo → ScopeInfo) → Type 0
Plain numbered = (i : ℕ) (o : Option ScopeInfo) (v : ScopeInfo) → (numbered i o v).mutated ≡ v.mutated

module _ (which : Bool) (numbered : ℕ → Option ScopeInfo → ScopeInfo → ScopeInfo) (plain : Plain numbered) where
  row_mutated : (b : Bool) (r i : ℕ) (s : State) (x : ℕ)
      → (list_entry_at (cond b (number_row which numbered r i (list_entry_at s r) s) s) x).info.mutated ≡ (list_entry_at s x).info.mutated
  unfolding number_row
  row_mutated false r i s x = refl
  row_mutated true r i s x = go (ℕ_discrete x r) (dec_lt r (length s.facts.captured))
    where
      v : ListEntry
      v = on_info (numbered i (near s (list_entry_at s r).binder.name)) (list_entry_at s r)

      go : Dec (x ≡ r) → Dec (r < length s.facts.captured) → (get_or (set s.facts.captured r v) x no_list_entry).info.mutated ≡ (list_entry_at s x).info.mutated
      go (no d) g = ap (λ (k : ListEntry). k.info.mutated) (get_or-set_other s.facts.captured r x v no_list_entry d)
      go (yes d) (yes g) = rw d (ap (λ (k : ListEntry). k.info.mutated) (get_or-set_same s.facts.captured r v no_list_entry g) ∙ plain i _ _)
      go (yes d) (no g) = ap (λ (l : List ListEntry). (get_or l x no_list_entry).info.mutated) (set_out s.facts.captured r v (omega arith))

  rows_mutated : (k r i : ℕ) (s : State) (x : ℕ) → (list_entry_at (number_rows which numbered k r i s) x).info.mutated ≡ (list_entry_at s x).info.mutated
  unfolding number_rows
  rows_mutated zero r i s x = refl
  rows_mutated (suc k) r i s x =
      let b = is_of which numbered (list_entry_at s r) in
      rows_mutated k (suc r) _ (cond b (number_row which numbered r i (list_entry_at s r) s) s) x ∙ row_mutated b r i s x

-- so there are as many of each kind
kind_same : (which : Bool) (s t : State) → ((x : ℕ) → (list_entry_at t x).info.mutated ≡ (list_entry_at s x).info.mutated) → (r k : ℕ)
    → of_kind which t r k ≡ of_kind which s r k
kind_same which s t e r zero = refl
kind_same which s t e r (suc k) =
    let p = ap (λ (b : Bool). bit (cond which b (not b))) (e r) in omega (arith, p, kind_same which s t e (suc r) k)

-- and together all
pub kinds : (s : State) (r k : ℕ) → of_kind false s r k + of_kind true s r k ≡ k
kinds s r zero = refl
kinds s r (suc k) = omega (arith, one (list_entry_at s r).info.mutated, kinds s (suc r) k)
  where
    one : (b : Bool) → bit (not b) + bit b ≡ 1
    one true = refl
    one false = refl

-- The captures grow by as many as have the kind

module _ (which : Bool) (numbered : ℕ → Option ScopeInfo → ScopeInfo → ScopeInfo) (plain : Plain numbered) where
  -- at one row: there is room for it, and then for what is left
  row-size : (b : Bool) (r i : ℕ) (s : State)
      → length (cond b (number_row which numbered r i (list_entry_at s r) s) s).captures.live ≤ length s.captures.live + bit b
  unfolding number_row
  row-size true r i s =
      let x = (list_entry_at s r).binder.name in
      omega (arith, define-size x (capture_of which numbered r (is_near (near s x)) (list_entry_at s r)) s.captures)
  row-size false r i s = omega arith

  pub number_room : (k r i : ℕ) (s : State)
      → let t = cond (is_of which numbered (list_entry_at s r)) (number_row which numbered r i (list_entry_at s r) s) s in
      length t.captures.live + of_kind which t (suc r) k ≤ length s.captures.live + of_kind which s r (suc k)
  number_room k r i s =
      let b = is_of which numbered (list_entry_at s r) in
      let t = cond b (number_row which numbered r i (list_entry_at s r) s) s in
      omega (arith, row-size b r i s, kind_same which s t (row_mutated which numbered plain b r i s) (suc r) k)

  numbers-size : (k r i : ℕ) (s : State) → length (number_rows which numbered k r i s).captures.live ≤ length s.captures.live + of_kind which s r k
  unfolding number_rows
  numbers-size zero r i s = omega arith
  numbers-size (suc k) r i s =
      let t = cond (is_of which numbered (list_entry_at s r)) (number_row which numbered r i (list_entry_at s r) s) s in
      omega (arith, number_room k r i s, numbers-size k (suc r) (cond (is_of which numbered (list_entry_at s r)) (suc i) i) t)

-- the first pass leaves room for the second
pub first_pass : (e : ListAt) (s : State)
    → let t = number_rows false numbered_capture e.length e.first 0 s in
    length t.captures.live + of_kind true t e.first e.length ≤ length s.captures.live + e.length
first_pass e s =
    let t = number_rows false numbered_capture e.length e.first 0 s in
    omega (
      arith,
      numbers-size false numbered_capture (λ i o v. refl) e.length e.first 0 s,
      kind_same true s t (rows_mutated false numbered_capture (λ i o v. refl) e.length e.first 0 s) e.first e.length,
      kinds s e.first e.length,
    )

pub list-size : (e : ListAt) (s : State) → length (number_list e s).captures.live ≤ length s.captures.live + e.length
unfolding number_list
list-size e s =
    let t = number_rows false numbered_capture e.length e.first 0 s in
    omega (arith, first_pass e s, numbers-size true numbered_heap (λ i o v. refl) e.length e.first 0 t)

pub open_size : (f : Option FunctionInformation) (s : State) → length (open_captures f s).captures.live ≤ length s.captures.live + list_length f
unfolding open_captures
open_size None s = omega arith
open_size (Some v) s = list-size v.captured_vars (with_captures (push_layer s.captures) s)

-- and all of them lie in the newest layer

pub record Opened (d : ℕ) (s t : State) : Type 0 where
  pub depth : t.captures.depth ≡ d
  pub more : ℕ
  pub layers : layers_of t.captures.live ≡ replicate more d ++ layers_of s.captures.live

opened-then : {d : ℕ} {s t u : State} → Opened d s t → Opened d t u → Opened d s u
opened-then {d} {s} p q =
    record {
      depth = q.depth;
      more = q.more + p.more;
      layers =
          q.layers ∙ ap (λ (l : List ℕ). replicate q.more d ++ l) p.layers
          ∙ sym (append_assoc (replicate q.more d) (replicate p.more d) (layers_of s.captures.live))
          ∙ ap (λ (l : List ℕ). l ++ layers_of s.captures.live) (replicate-append-replicate q.more p.more d);
    }

unopened : (s : State) → Opened s.captures.depth s s
unopened s = record { depth = refl; more = 0; layers = refl }

and_first : (a b : Bool) → a && b ≡ true → a ≡ true
and_first true b e = refl
and_first false b e = e

replace_layers : (d x : ℕ) (v : Capture) (l : List (Live Capture)) → layers_of (replace_in d x v l) ≡ layers_of l
unfolding replace_in
replace_layers d x v [] = refl
replace_layers d x v (e ∷ l) = pick (is_at d x e) refl (replace_layers d x v l)
  where
    pick : (b : Bool) → is_at d x e ≡ b → layers_of (replace_in d x v l) ≡ layers_of l
        → layers_of (cond b (record { name = x; layer = d; value = v } ∷ l) (e ∷ replace_in d x v l)) ≡ e.layer ∷ layers_of l
    pick true q h = ap (λ (k : ℕ). k ∷ layers_of l) (sym (eqb-true e.layer d (and_first (eqb e.layer d) (eqb e.name x) q)))
    pick false q h = ap (λ (k : List ℕ). e.layer ∷ k) h

define-opened : (x : ℕ) (v : Capture) {s t : State} → t.captures ≡ map.define x v s.captures → Opened s.captures.depth s t
define-opened x v {s} {t} e = go (has_at_top m x) e
  where
    m : ScopeMap Capture
    m = s.captures

    d : ℕ
    d = m.depth

    go : (b : Bool) → t.captures ≡ record { depth = d; live = cond b (replace_in d x v m.live) (record { name = x; layer = d; value = v } ∷ m.live) }
        → Opened d s t
    go true e =
        record {
          depth = ap (λ (k : ScopeMap Capture). k.depth) e;
          more = 0;
          layers = ap (λ (k : ScopeMap Capture). layers_of k.live) e ∙ replace_layers d x v m.live;
        }
    go false e = record { depth = ap (λ (k : ScopeMap Capture). k.depth) e; more = 1; layers = ap (λ (k : ScopeMap Capture). layers_of k.live) e }

module _ (which : Bool) (numbered : ℕ → Option ScopeInfo → ScopeInfo → ScopeInfo) where
  row_opened : (b : Bool) (r i : ℕ) (x : ListEntry) (s : State) → Opened s.captures.depth s (cond b (number_row which numbered r i x s) s)
  unfolding number_row
  row_opened true r i x s = define-opened x.binder.name (capture_of which numbered r (is_near (near s x.binder.name)) x) refl
  row_opened false r i x s = unopened s

  rows-opened : (d k r i : ℕ) (s : State) → s.captures.depth ≡ d → Opened d s (number_rows which numbered k r i s)
  unfolding number_rows
  rows-opened d zero r i s e = subst (λ (j : ℕ). Opened j s s) e (unopened s)
  rows-opened d (suc k) r i s e =
      let b = is_of which numbered (list_entry_at s r) in
      let t = cond b (number_row which numbered r i (list_entry_at s r) s) s in
      let p = subst (λ (j : ℕ). Opened j s t) e (row_opened b r i (list_entry_at s r) s) in
      opened-then p (rows-opened d k (suc r) (cond b (suc i) i) t p.depth)

pub open_opened : (f : Option FunctionInformation) (s : State) → Opened (suc s.captures.depth) s (open_captures f s)
unfolding open_captures number_list
open_opened None s = record { depth = refl; more = 0; layers = refl }
open_opened (Some v) s =
    let e = v.captured_vars in
    let d = suc s.captures.depth in
    let p = rows-opened false numbered_capture d e.length e.first 0 (with_captures (push_layer s.captures) s) refl in
    let q = opened-then p (rows-opened true numbered_heap d e.length e.first 0 _ p.depth) in
    record { depth = q.depth; more = q.more; layers = q.layers }
