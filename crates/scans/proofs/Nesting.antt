-- Check 5: the walk of a tree. It stands at record `at` of l, at the nesting level.
use Rattle.std.specs.Prelude.{None, Some, Err}
use Prim.Native.Nat.{ℕ, suc, ◌+◌, ◌-◌, ◌≤◌, ◌<◌}
use mathlib.Core.List.{List, [], ◌∷◌}
use mathlib.Core.Path.{◌≡◌, refl, ap, sym, ◌∙◌}
use native.Mathlib.Omega.{arith}
use borrow.Author.Tests.{lt-ltb, le-ltb}
use lib.ListN.{length, get_or, drop}
use Rattle.tree.specs.Record.{Record, blank}
use Rattle.tree.specs.Form.{children_of}
use Rattle.tree.proofs.Laws.Acceptance.Walk.{length_taken, placing}
use Rattle.scans.specs.ToCome.{to_come}
use Rattle.tree.specs.Place.{Open, closed, take_one, taken, after, Placed, placed}
use Rattle.tree.specs.First.{on, first}
use Rattle.scans.proofs.First.{first_hit, first_next}
use Rattle.scans.specs.Deep.{is_deep, first_deep}
use Rattle.scans.specs.declared.nest.Stop.{Stop}
use Rattle.scans.specs.declared.nest.Stop.TheVariants.{Deep, Ended}
use Rattle.scans.specs.Private.Walked.{Passed, DeepAt, EndsFirst, Walked}
use Rattle.scans.proofs.Places.{opened, closed_done, closed_open, taken-one, placed-next, placed_end}

-- s is open before the tree. At record `next` the tree's first one has so many children left, names and others as o says.
pub record Child (l : List Record) (at left next : ℕ) (s : List Open) : Type 0 where
  pub o : Open
  pub many : to_come o ≡ left
  pub rest : on at (first_deep s (drop at l)) ≡ on next (first_deep (closed (o ∷ taken s)) (drop next l))

-- i of the n children of the tree's first record are walked
pub record Walking (l : List Record) (at level n i next : ℕ) : Type 0 where
  pub some : at < next
  pub within : next ≤ length l
  pub child : (s : List Open) → suc (length s) ≡ level → Child l at (n - i) next s

module _ (l : List Record) (at level : ℕ) where
  pub ends : length l ≤ at → EndsFirst l at level
  unfolding first
  ends h = record { none = λ s e. ap (λ (k : List Placed). on at (first is_deep k)) (placed_end l blank at s h) }

  module _ (h : at < length l) where
    -- the tree's first record
    at_record : (s : List Open) → on at (first_deep s (drop at l)) ≡ on at (first is_deep (placing s (get_or l at blank) ∷ placed (after s (get_or l at blank)) (drop (at + 1) l)))
    at_record s = ap (λ (k : List Placed). on at (first is_deep k)) (placed-next l blank at s h)

    pub deep_here : 64 < level → DeepAt l at level at
    deep_here g = record { within = h; here = λ s e. at_record s ∙ first_hit is_deep at _ _ (lt-ltb 64 (suc (length s)) (omega arith)) }

    pub walk_begin : level ≤ 64 → (n : ℕ) → n ≡ children_of (get_or l at blank).form (get_or l at blank).count → Walking l at level n 0 (at + 1)
    unfolding after children_of
    walk_begin g n e = record {
      some = omega arith;
      within = omega arith;
      child = λ s q. record { o = opened (get_or l at blank); many = omega (arith, e); rest = at_record s ∙ first_next is_deep at _ _ (le-ltb 64 (suc (length s)) (omega arith)) };
    }

module _ {l : List Record} {at level n i next : ℕ} (a : Walking l at level n i next) where
  module _ (h : i < n) where
    -- the next child stands in a place of the tree's first record
    inside : (s : List Open) (c : Child l at (n - i) next s) → on at (first_deep s (drop at l)) ≡ on next (first_deep (c.o ∷ taken s) (drop next l))
    inside s c = c.rest ∙ ap (λ (t : List Open). on next (first_deep t (drop next l))) (closed_open c.o (taken s) (omega (arith, c.many)))

    level_in : (s : List Open) (o : Open) → suc (length s) ≡ level → suc (length (o ∷ taken s)) ≡ level + 1
    level_in s o e = omega (arith, length_taken s)

    pub walk_next : (m : ℕ) → Passed l next (level + 1) m → Walking l at level n (i + 1) m
    walk_next m u = record {
      some = omega (arith, a.some, u.some);
      within = u.within;
      child = λ s e. let c = a.child s e in
          record {
            o = take_one c.o.names c.o.others;
            many = taken-one c.o.names c.o.others ∙ omega (arith, c.many);
            rest = inside s c ∙ u.rest (c.o ∷ taken s) (level_in s c.o e);
          };
    }

    deep_below : (j : ℕ) → DeepAt l next (level + 1) j → DeepAt l at level j
    deep_below j d = record { within = d.within; here = λ s e. let c = a.child s e in inside s c ∙ d.here (c.o ∷ taken s) (level_in s c.o e) }

    ends_below : EndsFirst l next (level + 1) → EndsFirst l at level
    ends_below d = record { none = λ s e. let c = a.child s e in inside s c ∙ d.none (c.o ∷ taken s) (level_in s c.o e) }

    -- the walk ends with the child's
    pub stops : (e : Stop) → Walked l next (level + 1) (Err e) → Walked l at level (Err e)
    stops (Deep j) d = deep_below j d
    stops Ended d = ends_below d

  pub walk_end : n ≤ i → Passed l at level next
  walk_end h = record {
    some = a.some;
    within = a.within;
    rest = λ s e. let c = a.child s e in
        c.rest ∙ ap (λ (t : List Open). on next (first_deep t (drop next l))) (closed_done c.o (taken s) (omega (arith, c.many)));
  }

-- At top level nothing is open. The trees before record `next` are walked.

pub record Top (l : List Record) (next : ℕ) : Type 0 where
  pub within : next ≤ length l
  pub rest : first_deep [] l ≡ on next (first_deep [] (drop next l))

module _ {l : List Record} {next : ℕ} (a : Top l next) where
  pub top_next : (m : ℕ) → Passed l next 1 m → Top l m
  unfolding closed
  top_next m u = record { within = u.within; rest = a.rest ∙ u.rest [] refl }

  pub top_deep : (j : ℕ) → DeepAt l next 1 j → Some j ≡ first_deep [] l
  top_deep j d = sym (a.rest ∙ d.here [] refl)

  pub top_ends : EndsFirst l next 1 → None ≡ first_deep [] l
  top_ends d = sym (a.rest ∙ d.none [] refl)

  pub top_end : length l ≤ next → None ≡ first_deep [] l
  unfolding first
  top_end h = sym (a.rest ∙ ap (λ (k : List Placed). on next (first is_deep k)) (placed_end l blank next [] h))
