-- The n records from record p on.
use Prim.Native.Nat.{ℕ, zero, suc, ◌+◌, ◌-◌, ◌≤◌, ◌<◌}
use mathlib.Core.List.{List, ◌∷◌}
use mathlib.Core.Bool.{Bool, ◌||◌}
use mathlib.Core.Path.{◌≡◌, refl, ap, sym, ◌∙◌}
use native.Mathlib.Omega.{arith}
use native.Mathlib.Numerals.{add-one}
use lib.ListN.{length, take, drop}
use lib.Seq.{drop-cons, take_at}
use Rattle.std.specs.List.{list_any, range_with_len}
use Rattle.tree.specs.Record.{Record, records, blank, nth}
use Rattle.tree.specs.Tree.{Tree, flat, size}
use Rattle.tree.proofs.Laws.Tree.{length_flat}
use Rattle.tree.specs.Stands.{Within, Stands}
use Rattle.tree.proofs.Laws.Within.{records-at}

abbrev pub slice : List ℕ → ℕ → ℕ → List Record
slice rs p n = take n (drop p (records rs))

pub slice-next : (rs : List ℕ) (p n : ℕ) → p < length (records rs) → slice rs p (suc n) ≡ nth rs p ∷ slice rs (p + 1) n
slice-next rs p n h = rw (add-one, drop-cons (records rs) p blank)

-- records that stand there
pub slice-within : {N : ℕ} {rs : List ℕ} {p : ℕ} {l : List Record} → Within N rs p l → {n : ℕ} → length l ≡ n → slice rs p n ≡ l
slice-within {l = l} w {n} e = ap (take n) (records-at w) ∙ take_at l _ n e

pub slice_tree : {N : ℕ} {rs : List ℕ} {first stop : ℕ} {t : Tree} → Stands N rs first t → first + size t ≡ stop → slice rs first (stop - first) ≡ flat t
slice_tree {first = first} {stop} {t} s e = slice-within s.within {n = stop - first} (omega (arith, length_flat t))

-- what an iterator over the records' numbers finds
pub any_slice : (rs : List ℕ) (test : Record → Bool) (p n : ℕ) → p + n ≤ length (records rs)
    → list_any (λ i. test (nth rs i)) (range_with_len p n) ≡ list_any test (slice rs p n)
any_slice rs test p zero h = refl
any_slice rs test p (suc n) h =
    ap (λ (b : Bool). test (nth rs p) || b) (any_slice rs test (p + 1) n (omega arith))
    ∙ ap (list_any test) (sym (slice-next rs p n (omega arith)))
