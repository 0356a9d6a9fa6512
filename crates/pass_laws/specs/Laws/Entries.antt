-- Steps make the entries of their own records alone: any other entry is at most used and set.
use Rattle.std.specs.Prelude.{ℕ, ◌≤◌, ◌<◌, List, ◌≡◌, refl, length, get_or}
use Rattle.std.proofs.Common.{ap, ◌∙◌, arith, get_or-set_same, get_or-set_other}
use Rattle.std.proofs.Math.Decide.{ℕ_discrete, dec_lt}
use Rattle.std.proofs.Math.Seq.{set_out}
use Rattle.pass.specs.State.{Entry, State, no_entry, insert, amend, entry_at, put_entry}
use Rattle.pass.specs.Lambda.{open_scope, close_scope}
use Rattle.pass_laws.specs.Laws.Changes.{Used, Steps, same, ◌⨾◌, row, site, mark, entry, used, names, layer, lists, captures, context, note}
use Rattle.pass_laws.specs.Laws.Moves.{Moves, by, opens, closes, ◌⨟◌}

pub unused : {e : Entry} → Used e e
unused = record { captured = λ h. h; mutated = λ h. h; kept = refl }

pub used-again : {d e f : Entry} → Used d e → Used e f → Used d f
used-again u v = record { captured = λ h. v.captured (u.captured h); mutated = λ h. v.mutated (u.mutated h); kept = v.kept ∙ u.kept }

-- An entry is put

pub entry_same : (i : ℕ) (e : Entry) (s : State) → i < length s.scope.entries → entry_at (put_entry i e s) i ≡ e
unfolding put_entry
entry_same i e s h = get_or-set_same s.scope.entries i e no_entry h

pub entry_other : (i : ℕ) (e : Entry) (s : State) (x : ℕ) → ¬ (x ≡ i) → entry_at (put_entry i e s) x ≡ entry_at s x
unfolding put_entry
entry_other i e s x h = get_or-set_other s.scope.entries i x e no_entry h

entry_out : (i : ℕ) (e : Entry) (s : State) (x : ℕ) → length s.scope.entries ≤ i → entry_at (put_entry i e s) x ≡ entry_at s x
unfolding put_entry
entry_out i e s x h = ap (λ (l : List Entry). get_or l x no_entry) (set_out s.scope.entries i e h)

put-used : (i : ℕ) (e : Entry) (s : State) → Used (entry_at s i) e → (x : ℕ) → Used (entry_at s x) (entry_at (put_entry i e s) x)
put-used i e s u x = go (ℕ_discrete x i) (dec_lt i (length s.scope.entries))
  where
    go : Dec (x ≡ i) → Dec (i < length s.scope.entries) → Used (entry_at s x) (entry_at (put_entry i e s) x)
    go (no d) h = rw (entry_other i e s x d) unused
    go (yes d) (yes h) = rw (d, entry_same i e s h) u
    go (yes d) (no h) = rw (entry_out i e s x (omega arith)) unused

pub keeps_entry : {free : Type 0} {own : ℕ → Type 0} {s t : State} → Steps free own s t → (x : ℕ) → (own x → ⊥) → Used (entry_at s x) (entry_at t x)
unfolding open_scope close_scope amend insert
keeps_entry same x o = unused
keeps_entry (c ⨾ d) x o = used-again (keeps_entry c x o) (keeps_entry d x o)
keeps_entry (row i r w p) x o = unused
keeps_entry (site i v w) x o = unused
keeps_entry (mark f i m) x o = unused
keeps_entry (entry {s} n i e w) x o = rw (entry_other i e s x (λ q. o (rw q w))) unused
keeps_entry (used {s} n i e u) x o = put-used i e s u x
keeps_entry (names n m e) x o = unused
keeps_entry (layer n c) x o = keeps_entry c x o
keeps_entry (lists f l) x o = unused
keeps_entry (captures n m) x o = unused
keeps_entry (context c) x o = unused
keeps_entry (note n l) x o = unused

pub moves_entry : {own : ℕ → Type 0} {s t : State} → Moves own s t → (x : ℕ) → (own x → ⊥) → Used (entry_at s x) (entry_at t x)
unfolding open_scope close_scope
moves_entry (by c) x o = keeps_entry c x o
moves_entry opens x o = unused
moves_entry closes x o = unused
moves_entry (c ⨟ d) x o = used-again (moves_entry c x o) (moves_entry d x o)
