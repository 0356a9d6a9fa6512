-- Check 6: while every name's place so far held a name, only the innermost open record has names to come.
use Rattle.std.specs.Prelude.{None, Some}
use Prim.Native.Nat.{ℕ, zero, suc, ◌+◌, ◌-◌, ◌≤◌, ◌<◌}
use mathlib.Core.List.{List, [], ◌∷◌}
use mathlib.Core.Bool.{true, false}
use mathlib.Core.Path.{◌≡◌, refl, ap, sym, subst, ◌∙◌}
use native.Mathlib.Omega.{arith}
use native.Mathlib.Decide.{dec_lt}
use borrow.Author.Tests.{eqb-true, not-false, ne_eqb, lt-ltb, le-ltb}
use lib.ListN.{length, drop}
use Rattle.tree.specs.Record.{Record, records, blank, nth}
use Rattle.tree.specs.Form.{form_of, names_of, others_of}
use Rattle.tree.proofs.Laws.Acceptance.Walk.{notAName, placing}
use Rattle.scans.specs.ToCome.{to_come, below}
use Rattle.tree.specs.Place.{Open, closed, take_one, taken, after, Placed, is_name_place, placed}
use Rattle.tree.specs.First.{on, first}
use Rattle.scans.proofs.First.{on-zero, first_hit, first_next, first-none}
use Rattle.tree.specs.Check.{check6}
use Rattle.scans.proofs.Places.{opened, closed_done, closed_open, by_closing, placed-next, placed_end}

-- no open record has names to come
abbrev Quiet : List Open → Type 0
Quiet [] = Unit {0}
Quiet (o ∷ s) = (o.names ≡ 0) × Quiet s

-- the innermost one's names to come
abbrev due : List Open → ℕ
due [] = 0
due (o ∷ s) = o.names

closed_quiet : (s : List Open) → Quiet s → Quiet (closed s)
closed_quiet = by_closing (λ s t. Quiet s → Quiet t) (λ q. q) (λ o s h p q. p q.1) (λ o s h q. q)

quiet_due : (s : List Open) → Quiet s → due s ≡ 0
quiet_due [] q = refl
quiet_due (o ∷ s) q = q.0

quiet_below : (s : List Open) → Quiet s → Quiet (below s)
quiet_below [] q = tt
quiet_below (o ∷ s) q = q.1

-- the stack s has d names to come, all of the innermost
pub record Due (s : List Open) (d : ℕ) : Type 0 where
  pub is : d ≡ due s
  pub quiet : Quiet (below s)

due-none : (s : List Open) → Quiet s → Due s 0
due-none s q = record { is = sym (quiet_due s q); quiet = quiet_below s q }

due-closed : (o : Open) (s : List Open) → Quiet s → Dec (0 < to_come o) → Due (closed (o ∷ s)) o.names
due-closed o s q (yes h) = subst (λ t. Due t o.names) (sym (closed_open o s h)) (record { is = refl; quiet = q })
due-closed o s q (no h) =
    let z : o.names ≡ 0 = omega arith in
    subst (λ t. Due t o.names) (sym (closed_done o s (omega arith))) (subst (Due (closed s)) (sym z) (due-none (closed s) (closed_quiet s q)))

taken-names : (n k : ℕ) → (take_one n k).names ≡ n - 1
taken-names zero k = refl
taken-names (suc n) k = omega arith

taken_quiet : (s : List Open) → Due s 0 → Quiet (taken s)
taken_quiet [] u = tt
taken_quiet (o ∷ s) u = (taken-names o.names o.others ∙ omega (arith, u.is), u.quiet)

-- a record in another place brings its own names
due-after : (s : List Open) (r : Record) → Due s 0 → Due (after s r) (names_of r.form r.count)
unfolding after
due-after s r u = due-closed (opened r) (taken s) (taken_quiet s u) (dec_lt 0 (to_come (opened r)))

pub no_children : (r : Record) → r.form ≡ 1 → to_come (opened r) ≡ 0
unfolding form_of names_of others_of
no_children r e = rw e

-- a name takes one of them
due_name : (s : List Open) (r : Record) (d : ℕ) → 0 < d → r.form ≡ 1 → Due s d → Due (after s r) (d - 1)
unfolding after
due_name [] r d h e u = absurd (omega (arith, u.is))
due_name (o ∷ s) r d h e u =
    let p = take_one o.names o.others in
    let n : p.names ≡ d - 1 = taken-names o.names o.others ∙ omega (arith, u.is) in
    subst (λ (t : List Open). Due t (d - 1)) (sym (closed_done (opened r) (p ∷ s) (no_children r e)))
    (subst (Due (closed (p ∷ s))) n (due-closed p s u.quiet (dec_lt 0 (to_come p))))

not-due : (s : List Open) → Due s 0 → is_name_place s ≡ false
not-due [] u = refl
not-due (o ∷ s) u = le-ltb 0 o.names (omega (arith, u.is))

is_due_lem : (s : List Open) (d : ℕ) → 0 < d → Due s d → is_name_place s ≡ true
is_due_lem [] d h u = absurd (omega (arith, u.is))
is_due_lem (o ∷ s) d h u = lt-ltb 0 o.names (omega (arith, u.is))

-- the loop has come to record i, with d names due
pub record Naming (rs : List ℕ) (i d : ℕ) : Type 0 where
  pub s : List Open
  pub names : Due s d
  pub rest : first notAName (placed [] (records rs)) ≡ on i (first notAName (placed s (drop i (records rs))))
  pub within : i ≤ length (records rs)

pub naming_begin : (rs : List ℕ) → Naming rs 0 0
naming_begin rs = record { s = []; names = record { is = refl; quiet = tt }; rest = sym (on-zero _); within = omega arith }

module _ {rs : List ℕ} {i d : ℕ} (a : Naming rs i d) where
  module _ (h : i < length (records rs)) where
    at_record : first notAName (placed [] (records rs)) ≡ on i (first notAName (placing a.s (nth rs i) ∷ placed (after a.s (nth rs i)) (drop (i + 1) (records rs))))
    at_record = a.rest ∙ ap (λ (l : List Placed). on i (first notAName l)) (placed-next (records rs) blank i a.s h)

    go_on_lem : (e : ℕ) → Due (after a.s (nth rs i)) e → notAName (placing a.s (nth rs i)) ≡ false → Naming rs (i + 1) e
    go_on_lem e u t = record {
      s = after a.s (nth rs i);
      names = u;
      rest = at_record ∙ first_next notAName i (placing a.s (nth rs i)) _ t;
      within = omega arith;
    }

    pub no_name_due : d ≡ 0 → (f c n : ℕ) → f ≡ (nth rs i).form → c ≡ (nth rs i).count → n ≡ names_of f c → Naming rs (i + 1) n
    no_name_due z f c n ef ec en =
        let u = subst (Due a.s) z a.names in
        let e : names_of (nth rs i).form (nth rs i).count ≡ n = sym (en ∙ rw (ef, ec)) in
        go_on_lem n (subst (Due (after a.s (nth rs i))) e (due-after a.s (nth rs i) u)) (rw (not-due a.s u))

    pub name_here : 0 < d → (f : ℕ) → f ≡ (nth rs i).form → f ≡ 1 → Naming rs (i + 1) (d - 1)
    name_here z f ef e = go_on_lem (d - 1) (due_name a.s (nth rs i) d z (sym ef ∙ e) a.names) (rw (is_due_lem a.s d z a.names, ← ef, e))

    either : (n : ℕ) → (0 < d → (nth rs i).form ≡ 1) → n ≡ d - 1 + names_of (nth rs i).form (nth rs i).count → Dec (0 < d) → Naming rs (i + 1) n
    either n g e (yes z) =
        let k : d - 1 ≡ n = omega (arith, no_children (nth rs i) (g z)) in
        subst (Naming rs (i + 1)) k (name_here z (nth rs i).form refl (g z))
    either n g e (no z) =
        let k : names_of (nth rs i).form (nth rs i).count ≡ n = omega arith in
        subst (Naming rs (i + 1)) k (no_name_due (omega arith) (nth rs i).form (nth rs i).count (names_of (nth rs i).form (nth rs i).count) refl refl refl)

    -- both at once, since a name has no names
    pub naming-next : (n : ℕ) → (0 < d → (nth rs i).form ≡ 1) → n ≡ d - 1 + names_of (nth rs i).form (nth rs i).count → Naming rs (i + 1) n
    naming-next n g e = either n g e (dec_lt 0 d)

    pub misnamed_here : 0 < d → (f : ℕ) → f ≡ (nth rs i).form → (f ≡ 1 → ⊥) → (N : ℕ) → Some i ≡ check6 N rs
    unfolding check6
    misnamed_here z f ef e N = sym (at_record ∙ first_hit notAName i (placing a.s (nth rs i)) _ (rw (is_due_lem a.s d z a.names, ← ef, ne_eqb f 1 e)))

    pub none-due : 0 < d → (N : ℕ) → check6 N rs ≡ None → (nth rs i).form ≡ 1
    unfolding check6
    none-due z N e =
        let f = first-none notAName i (placing a.s (nth rs i)) _ (sym at_record ∙ e) in
        eqb-true _ 1 (not-false _ (rw (is_due_lem a.s d z a.names) at f))

  pub none_misnamed : length (records rs) ≤ i → (N : ℕ) → None ≡ check6 N rs
  unfolding check6 first
  none_misnamed h N = sym (a.rest ∙ ap (λ (l : List Placed). on i (first notAName l)) (placed_end (records rs) blank i a.s h))
