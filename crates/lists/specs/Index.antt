-- What a name gives to the list of a lambda that ends, and an index of it by name.
use Rattle.std.specs.Prelude.{ℕ, suc, ◌<◌, List, ◌∷◌, map, cond, not, ◌≡◌, length, get_or, eqb, Option, None, Some}
use Rattle.tree.specs.Tree.{Ident}
use Rattle.tree.specs.Check.{member}
use Rattle.scope_map.specs.ScopeMap.{Live, get}
use Rattle.pass.specs.State.{State, Scope, Entry, no_entry, binder_in}
use Rattle.pass.specs.Lambda.{name_in}
use Rattle.work.specs.Coded.{record_in}
use Rattle.work.specs.Works.{Works}
use Rattle.work.specs.Scope.{before, KnownHere}
use Rattle.work.specs.declared.Pass.{Pass}
use Rattle.walk.specs.declared.uses.Names.{Names}
use Rattle.lists.specs.Contract.{Told}

-- how many names an array by name has
abbrev pub names_most : ℕ
names_most = 1024

abbrev pub entry_in : Scope → ℕ → Entry
entry_in c i = get_or c.entries i no_entry

-- a binder, where its entry is captured
abbrev pub where_captured : Scope → Option Ident → Option Ident
where_captured c None = None
where_captured c (Some b) = cond (entry_in c b.at).captured (Some b) None

abbrev pub captured_newest : Scope → ℕ → Option Ident
captured_newest c x = where_captured c (binder_in (get c.names x))

-- what a name above the bottom layer gives to the list of a lambda with the parameters ps
abbrev pub offered : List ℕ → Scope → ℕ → Option Ident
offered ps c x = cond (not (member x ps)) (captured_newest c x) None

-- the index a tells of each name that it has what the name gives: the binder's record
abbrev pub Indexes : List (Option ℕ) → List ℕ → Scope → Type 0
Indexes a ps c = (x : ℕ) → x < length a → get_or a x None ≡ record_in (offered ps c x)

-- in every state held, for the parameters told
pub record Indexed (rs : List ℕ) (n : Names) (p : Pass) (w : List ℕ) (a : List (Option ℕ)) : Type 0 where
  pub is : (xs : List Ident) (s : State) → Told rs n xs → Works p w s → Indexes a (map name_in xs) s.scope

-- What the functions promise

-- the binders of the live names are identifiers of some tree
pub record SomeHere (p : Pass) (w : List ℕ) : Type 0 where
  pub rs : List ℕ
  pub here : KnownHere rs p w

-- the record b of a binder, where its entry is captured
pub record TellsCaptured (w : List ℕ) (b : ℕ) (r : Option ℕ) : Type 0 where
  pub is : (p : Pass) (s : State) (y : Ident) → Works p w s → y.at ≡ b → r ≡ record_in (where_captured s.scope (Some y))

-- the live name in row i is the newest of its name
pub record PutsRow (p : Pass) (w : List ℕ) (i : ℕ) (a a' : List (Option ℕ)) : Type 0 where
  pub is : (s : State) (e : Live Ident) → Works p w s → before (suc i) s.scope.names.live ≡ e ∷ before i s.scope.names.live
      → (x : ℕ) → x < length a → get_or a' x None ≡ cond (eqb e.name x) (record_in (where_captured s.scope (Some e.value))) (get_or a x None)

abbrev pub Zeros : List ℕ → Type 0
Zeros a = (x : ℕ) → get_or a x 0 ≡ 0

abbrev pub Empty : List (Option ℕ) → Type 0
Empty a = (x : ℕ) → get_or a x None ≡ None

-- all live names are put
pub record PutsRows (p : Pass) (w : List ℕ) (a : List (Option ℕ)) : Type 0 where
  pub is : (s : State) → Works p w s → (x : ℕ) → x < length a → get_or a x None ≡ record_in (captured_newest s.scope x)

-- a name gives nothing; nor do the names told
pub record ClearsName (a : List (Option ℕ)) (y : ℕ) (a' : List (Option ℕ)) : Type 0 where
  pub is : (x : ℕ) → x < length a → get_or a' x None ≡ cond (eqb x y) None (get_or a x None)

pub record ClearsNames (rs : List ℕ) (n : Names) (a a' : List (Option ℕ)) : Type 0 where
  pub is : (xs : List Ident) → Told rs n xs → (x : ℕ) → x < length a → get_or a' x None ≡ cond (member x (map name_in xs)) None (get_or a x None)

-- what a name gives, by an index
pub record Offers (rs : List ℕ) (n : Names) (p : Pass) (w : List ℕ) (a : List (Option ℕ)) (x : ℕ) (r : Option ℕ) : Type 0 where
  pub is : (xs : List Ident) (s : State) → Told rs n xs → Works p w s → Indexes a (map name_in xs) s.scope
      → r ≡ record_in (offered (map name_in xs) s.scope x)
