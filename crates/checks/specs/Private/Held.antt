-- The open records, the script as the outermost: the innermost by itself, the others in a table. Kept in it are those alone that have a
-- child to come, the next one out at p, the outermost at 1. So a record that takes the last place of several closes them all in one step.
use Rattle.std.specs.Prelude.{ℕ, ◌+◌, ◌-◌, ◌*◌, ◌≤◌, ◌<◌, List, [], ◌∷◌, ◌≡◌, length, get_or}
use Rattle.tree.specs.Place.{Open, closed, taken}
use Rattle.scans.specs.ToCome.{to_come, below}
use Rattle.checks.specs.declared.sweep.Innermost.{Innermost}

-- the innermost one's children to come
abbrev pub to_come_in : List Open → ℕ
to_come_in [] = 0
to_come_in (o ∷ s) = to_come o

-- the script holds the records that no other does: one more open record, with m to come
abbrev pub in_script : ℕ → List Open → List Open
in_script m [] = record { names = 0; others = m } ∷ []
in_script m (o ∷ s) = o ∷ in_script m s

-- an open record as one number: so many children to come, and its nesting, which is below 128
abbrev pub word : ℕ → ℕ → ℕ
word many nesting = 128 * many + nesting

-- the record w is kept at p
pub record Kept (kept : List ℕ) (w p : ℕ) : Type 0 where
  pub some : 0 < p
  pub is : get_or kept p 0 ≡ w

abbrev pub Held : List ℕ → List Open → ℕ → Type 0
Held kept [] p = p ≡ 0
Held kept (o ∷ s) p = (to_come o ≡ 0 → Held kept s p) × (0 < to_come o → Kept kept (word (to_come o) (length s)) p × Held kept s (p - 1))

-- the innermost of the open records is a
pub record Inner (kept : List ℕ) (s : List Open) (a : Innermost) : Type 0 where
  pub is : a.word ≡ word (to_come_in s) (length (below s))
  pub under : Held kept (below s) a.under

-- a record takes a place, and is open, unless it has no children
pub record Steps (kept : List ℕ) (a : Innermost) (children : ℕ) (kept' : List ℕ) (b : Innermost) : Type 0 where
  pub long : length kept' ≡ length kept
  pub few : b.word ≤ 4294967295
  pub is : (s : List Open) (o : Open) → length s ≤ 64 → Inner kept s a → children ≡ to_come o → Inner kept' (closed (o ∷ taken s)) b
