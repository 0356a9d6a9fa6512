-- The records one after another with their places: each stands where it may, and at the end no place is open.
use Rattle.std.specs.Prelude.{ℕ, suc, ◌+◌, ◌<◌, List, [], ◌∷◌, Bool, false, not, ◌&&◌, ◌≡◌, refl, length, eqb, ltb}
use Rattle.std.proofs.Common.{arith, ne_eqb}
use Rattle.tree.specs.Record.{Record}
use Rattle.tree.specs.Place.{Open, closed, taken, is_name_place, after, Placed, placed, left}
use Rattle.tree.specs.Check.{untested}
use Rattle.tree.specs.Accepted.{All}

-- how deep records may nest
abbrev pub deepest : ℕ
deepest = 64

-- what the checks 5, 6 and 7 refuse
abbrev pub too_deep : Placed → Bool
too_deep p = ltb deepest p.nesting

abbrev pub notAName : Placed → Bool
notAName p = p.is_name && not (eqb p.of.form 1)

abbrev pub empty_call : Record → Bool
empty_call r = eqb r.form 8 && eqb r.count 0

abbrev pub placing : List Open → Record → Placed
placing s r = record { of = r; nesting = suc (length s); is_name = is_name_place s }

pub record Stands (s : List Open) (r : Record) : Type 0 where
  pub deep : too_deep (placing s r) ≡ false
  pub named : notAName (placing s r) ≡ false
  pub full : empty_call r ≡ false
  pub tested : untested r ≡ false

abbrev pub Walk : List Open → List Record → Type 0
Walk s [] = s ≡ []
Walk s (r ∷ l) = Stands s r × Walk (after s r) l

-- the same, check by check
pub record ByCheck (s : List Open) (l : List Record) : Type 0 where
  pub ends : left s l ≡ []
  pub deep : All (λ p. too_deep p ≡ false) (placed s l)
  pub named : All (λ p. notAName p ≡ false) (placed s l)
  pub full : All (λ r. empty_call r ≡ false) l
  pub tested : All (λ r. untested r ≡ false) l

pub walk_of : (s : List Open) (l : List Record) → ByCheck s l → Walk s l
unfolding left placed
walk_of s [] c = c.ends
walk_of s (r ∷ l) c =
    (record { deep = c.deep.0; named = c.named.0; full = c.full.0; tested = c.tested.0 }, walk_of (after s r) l (record { ends = c.ends; deep = c.deep.1; named = c.named.1; full = c.full.1; tested = c.tested.1 }))

pub by_check : (s : List Open) (l : List Record) → Walk s l → ByCheck s l
unfolding left placed
by_check s [] w = record { ends = w; deep = tt; named = tt; full = tt; tested = tt }
by_check s (r ∷ l) w =
    let c = by_check (after s r) l w.1 in
    let h = w.0 in
    record { ends = c.ends; deep = (h.deep, c.deep); named = (h.named, c.named); full = (h.full, c.full); tested = (h.tested, c.tested) }

abbrev pub opened : ℕ → ℕ → Open
opened n k = record { names = n; others = k }

pub still_open : (n k : ℕ) (s : List Open) → 0 < n + k → closed (opened n k ∷ s) ≡ opened n k ∷ s
unfolding closed
still_open n k s h = rw (ne_eqb (n + k) 0 (λ e. absurd (omega arith)))

pub length_taken : (s : List Open) → length (taken s) ≡ length s
length_taken [] = refl
length_taken (o ∷ s) = refl
