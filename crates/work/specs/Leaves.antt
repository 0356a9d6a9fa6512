-- What the functions over the work table promise, of every state that it holds.
use Rattle.std.specs.Prelude.{ℕ, List, ◌≡◌}
use Rattle.pass.specs.State.{State, Entry, entry_at, put_entry}
use Rattle.work.specs.Coded.{coded}
use Rattle.work.specs.Works.{Works}
use Rattle.work.specs.declared.Pass.{Pass}
use Rattle.work.specs.declared.entries.Entry.{Entry as Coded}

-- a state becomes f of it
pub record Becomes (p : Pass) (w : List ℕ) (f : State → State) (p' : Pass) (w' : List ℕ) : Type 0 where
  pub is : (s : State) → Works p w s → Works p' w' (f s)

-- r is what f says of the state
pub record Tells {A : Type 0} (p : Pass) (w : List ℕ) (f : State → A) (r : A) : Type 0 where
  pub is : (s : State) → Works p w s → r ≡ f s

-- the entry of the record at is e now
pub record StoresEntry (w : List ℕ) (at : ℕ) (e : Coded) (w' : List ℕ) : Type 0 where
  pub is : (p : Pass) (s : State) (v : Entry) → Works p w s → e ≡ coded v → Works p w' (put_entry at v s)

pub record LoadsEntry (w : List ℕ) (at : ℕ) (e : Coded) : Type 0 where
  pub is : (p : Pass) (s : State) → Works p w s → e ≡ coded (entry_at s at)
