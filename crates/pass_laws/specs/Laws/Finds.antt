-- What a fresh visit finds at a place of R7RS's walk: the names in scope are live above those of the bottom layer, each with its entry, and its own
-- records have no fact yet.
use Rattle.std.specs.Prelude.{ℕ, ◌≤◌, ◌<◌, List, [], ◌∷◌, Bool, true, false, cond, ◌≡◌, refl, length, get_or, eqb, ltb, Option, None, Some}
use Rattle.std.proofs.Common.{ap, sym, subst, ◌∙◌, arith}
use Rattle.tree.specs.Tree.{Ident}
use Rattle.tree.specs.Accepted.{All}
use Rattle.scope_map.specs.ScopeMap.{ScopeMap, Live, get_in}
use Rattle.semantic.specs.Rows.{Blank}
use Rattle.r7rs.specs.Binding.{Binder, Place, Use, find}
use Rattle.pass.specs.State.{Entry, State, no_entry, row_at, depth}
use Rattle.pass_laws.specs.Laws.Layers.{Within, live_at}
use Rattle.pass_laws.specs.Laws.Leaves.{names, in_layer, Layered}
use Rattle.pass_laws.specs.Laws.Says.{used_inside, is_set_in}

-- A name in scope

-- as a live name, above the bottom's
abbrev pub lives_of : List Binder → List (Live Ident) → List (Live Ident)
lives_of [] bottom = bottom
lives_of (b ∷ sc) bottom = live_at b.home.layer b.ident ∷ lives_of sc bottom

-- it is bound around a place of this layer, in these lambdas: in the same body and layer, or both further out
pub record Around (layer : ℕ) (lambdas : List ℕ) (b : Binder) : Type 0 where
  pub above : 2 ≤ b.home.layer
  pub most : length b.around ≤ length lambdas
  pub own : ltb (length b.around) (length lambdas) ≡ false → b.home.layer ≡ layer
  pub outer : ltb (length b.around) (length lambdas) ≡ true → b.home.layer < layer

abbrev pub entry_in : List Entry → ℕ → Entry
entry_in E i = get_or E i no_entry

-- its entry, after the uses `before`
pub record Held (E : List Entry) (before : List Use) (b : Binder) : Type 0 where
  pub depth : (entry_in E b.ident.at).depth ≡ b.home.layer
  pub slot : (entry_in E b.ident.at).stack_offset ≡ b.home.slot
  pub captured : (entry_in E b.ident.at).captured ≡ used_inside b.ident.at before
  pub mutated : (entry_in E b.ident.at).mutated ≡ is_set_in b.ident.at before

-- no record that is left is its
pub record Stands (own : ℕ → Type 0) (E : List Entry) (before : List Use) (b : Binder) : Type 0 where
  pub held : Held E before b
  pub apart : own b.ident.at → ⊥

-- a name of the bottom layer
pub record Global (own : ℕ → Type 0) (E : List Entry) (e : Live Ident) : Type 0 where
  pub layer : e.layer ≤ 1
  pub depth : (entry_in E e.value.at).depth ≡ 1
  pub apart : own e.value.at → ⊥

-- a record that no use before means
pub record Unused (before : List Use) (x : ℕ) : Type 0 where
  pub captured : used_inside x before ≡ false
  pub mutated : is_set_in x before ≡ false

-- The tables, where the records in `own` are left to visit
pub record Untouched (own : ℕ → Type 0) (bottom : List (Live Ident)) (s : State) : Type 0 where
  pub rows : (x : ℕ) → own x → x < length s.facts.rows
  pub entries : (x : ℕ) → own x → x < length s.scope.entries
  pub blank : (x : ℕ) → own x → row_at s x ≡ Blank
  pub globals : All (Global own s.scope.entries) bottom

pub record Finds (own : ℕ → Type 0) (bottom : List (Live Ident)) (before : List Use) (p : Place) (s : State) : Type 0 where
  pub tables : Untouched own bottom s
  pub unused : (x : ℕ) → own x → Unused before x
  pub captures : s.captures.live ≡ []
  pub one : 1 ≤ p.site.layer
  pub live : names s ≡ in_layer p.site.layer (lives_of p.scope bottom)
  pub around : All (Around p.site.layer p.around) p.scope
  pub stands : All (Stands own s.scope.entries before) p.scope

-- Lists

pub all_map : {A : Type 0} {P Q : A → Type 0} → ((a : A) → P a → Q a) → (l : List A) → All P l → All Q l
all_map f [] p = tt
all_map f (a ∷ l) p = (f a p.0, all_map f l p.1)

pub all_zip : {A : Type 0} (P Q : A → Type 0) (l : List A) → All P l → All Q l → All (λ a. P a × Q a) l
all_zip P Q [] p q = tt
all_zip P Q (a ∷ l) p q = ((p.0, q.0), all_zip P Q l p.1 q.1)

-- Search

-- a live name that the search finds: of the scope, or of the bottom
abbrev pub live_in : Option Binder → Option (Live Ident) → Option (Live Ident)
live_in None o = o
live_in (Some b) o = Some (live_at b.home.layer b.ident)

pub get_live : (sc : List Binder) (bottom : List (Live Ident)) (x : ℕ) → get_in (lives_of sc bottom) x ≡ live_in (find sc x) (get_in bottom x)
unfolding get_in
get_live [] bottom x = refl
get_live (b ∷ sc) bottom x = go (eqb b.ident.name x) (get_live sc bottom x)
  where
    go : (q : Bool) → get_in (lives_of sc bottom) x ≡ live_in (find sc x) (get_in bottom x)
        → cond q (Some (live_at b.home.layer b.ident)) (get_in (lives_of sc bottom) x) ≡ live_in (cond q (Some b) (find sc x)) (get_in bottom x)
    go true e = refl
    go false e = e

-- what holds of each holds of the one that is found

pub data Of (P : Binder → Type 0) : Option Binder → Type 0 where
  of_none : Of P None
  of_some : {b : Binder} → P b → Of P (Some b)

pub find-all : {P : Binder → Type 0} (sc : List Binder) → All P sc → (x : ℕ) → Of P (find sc x)
find-all [] a x = of_none
find-all {P} (b ∷ sc) a x = go (eqb b.ident.name x) (find-all sc a.1 x)
  where
    go : (q : Bool) → Of P (find sc x) → Of P (cond q (Some b) (find sc x))
    go true o = of_some a.0
    go false o = o

pub data Got (P : Live Ident → Type 0) : Option (Live Ident) → Type 0 where
  got_none : Got P None
  got_some : {e : Live Ident} → P e → Got P (Some e)

pub get-all : {P : Live Ident → Type 0} (l : List (Live Ident)) → All P l → (x : ℕ) → Got P (get_in l x)
unfolding get_in
get-all [] a x = got_none
get-all {P} (e ∷ l) a x = go (eqb e.name x) (get-all l a.1 x)
  where
    go : (q : Bool) → Got P (get_in l x) → Got P (cond q (Some e) (get_in l x))
    go true g = got_some a.0
    go false g = g

-- Layers

module _ (layer : ℕ) (h : 1 ≤ layer) where
  pub within_bottom : (own : ℕ → Type 0) (E : List Entry) (bottom : List (Live Ident)) → All (Global own E) bottom → Within layer bottom
  within_bottom own E [] a = tt
  within_bottom own E (e ∷ bottom) a = (omega (arith, a.0.layer), within_bottom own E bottom a.1)

  pub layer_most : {lambdas : List ℕ} {b : Binder} → Around layer lambdas b → b.home.layer ≤ layer
  layer_most {lambdas} {b} a = go (ltb (length b.around) (length lambdas)) refl
    where
      go : (q : Bool) → ltb (length b.around) (length lambdas) ≡ q → b.home.layer ≤ layer
      go true e = omega (arith, a.outer e)
      go false e = omega (arith, a.own e)

  pub within_lives : (lambdas : List ℕ) (sc : List Binder) → All (Around layer lambdas) sc → (bottom : List (Live Ident)) → Within layer bottom → Within layer (lives_of sc bottom)
  within_lives lambdas [] a bottom w = w
  within_lives lambdas (b ∷ sc) a bottom w = (layer_most a.0, within_lives lambdas sc a.1 bottom w)

module _ {own : ℕ → Type 0} {bottom : List (Live Ident)} {before : List Use} {p : Place} {s : State} (f : Finds own bottom before p s) where
  pub deep : depth s ≡ p.site.layer
  deep = ap (λ (m : ScopeMap Ident). m.depth) f.live

  pub layered : Layered (names s)
  layered =
      let w = within_bottom p.site.layer f.one own s.scope.entries bottom f.tables.globals in
      let l : Layered (in_layer p.site.layer (lives_of p.scope bottom)) = record { one = f.one; within = within_lives p.site.layer f.one p.around p.scope f.around bottom w } in
      subst Layered (sym f.live) l

  -- what a name means is around the place
  pub around_of : (x : ℕ) → Of (Around p.site.layer p.around) (find p.scope x)
  around_of x = find-all p.scope f.around x

  -- the name x: the parameter or let name that it means, and the entry that the search finds
  pub record Search (x : ℕ) : Type 0 where
    pub meant : Of (λ b. Around p.site.layer p.around b × Stands own s.scope.entries before b) (find p.scope x)
    pub global : Got (Global own s.scope.entries) (get_in bottom x)
    pub found : get_in (names s).live x ≡ live_in (find p.scope x) (get_in bottom x)

  pub search_for : (x : ℕ) → Search x
  search_for x =
      record {
        meant = find-all p.scope (all_zip _ _ p.scope f.around f.stands) x;
        global = get-all bottom f.tables.globals x;
        found = ap (λ (m : ScopeMap Ident). get_in m.live x) f.live ∙ get_live p.scope bottom x;
      }
