-- `ScopeMap`: layers of names, each with a value, as the list of live names. Document 01, "Parts, leaves first", 1.
use Rattle.std.specs.Prelude.{ℕ, suc, ◌-◌, List, [], ◌∷◌, ◌++◌, Bool, false, cond, ◌&&◌, ◌||◌, eqb, ltb, Option, None, Some}

-- a live name: the layer it was defined in, the bottom one being 1, and its value
pub record Live (A : Type 0) : Type 0 where
  pub name : ℕ
  pub layer : ℕ
  pub value : A

pub record ScopeMap (A : Type 0) : Type 0 where
  pub depth : ℕ  -- how many layers
  pub live : List (Live A)  -- newest first

module _ {A : Type 0} where
  -- the live name x of the layer d
  abbrev pub is_at : ℕ → ℕ → Live A → Bool
  is_at d x e = eqb e.layer d && eqb e.name x

  unfoldable pub has_in : ℕ → ℕ → List (Live A) → Bool
  has_in d x [] = false
  has_in d x (e ∷ l) = is_at d x e || has_in d x l

  unfoldable pub replace_in : ℕ → ℕ → A → List (Live A) → List (Live A)
  replace_in d x v [] = []
  replace_in d x v (e ∷ l) = cond (is_at d x e) (record { name = x; layer = d; value = v } ∷ l) (e ∷ replace_in d x v l)

  unfoldable pub remove_in : ℕ → ℕ → List (Live A) → List (Live A)
  remove_in d x [] = []
  remove_in d x (e ∷ l) = cond (is_at d x e) l (e ∷ remove_in d x l)

  -- the names of the layer d, if it is the newest, in the order they were defined; and the names below it
  unfoldable pub layer_in : ℕ → List (Live A) → List (Live A)
  layer_in d [] = []
  layer_in d (e ∷ l) = cond (eqb e.layer d) (layer_in d l ++ (e ∷ [])) []

  unfoldable pub below_layer : ℕ → List (Live A) → List (Live A)
  below_layer d [] = []
  below_layer d (e ∷ l) = cond (eqb e.layer d) (below_layer d l) (e ∷ l)

  -- The operations

  abbrev pub new : ScopeMap A
  new = record { depth = 1; live = [] }

  -- the newest value of a name
  unfoldable pub get_in : List (Live A) → ℕ → Option (Live A)
  get_in [] x = None
  get_in (e ∷ l) x = cond (eqb e.name x) (Some e) (get_in l x)

  abbrev pub get : ScopeMap A → ℕ → Option (Live A)
  get m x = get_in m.live x

  -- how many layers down from the newest a live name lies
  abbrev pub depth_of : ScopeMap A → Live A → ℕ
  depth_of m e = m.depth - e.layer

  abbrev pub push_layer : ScopeMap A → ScopeMap A
  push_layer m = record { depth = suc m.depth; live = m.live }

  abbrev pub has_at_top : ScopeMap A → ℕ → Bool
  has_at_top m x = has_in m.depth x m.live

  -- in a layer that has the name the value is replaced
  abbrev pub define : ℕ → A → ScopeMap A → ScopeMap A
  define x v m = record {
    depth = m.depth;
    live = cond (has_at_top m x) (replace_in m.depth x v m.live) (record { name = x; layer = m.depth; value = v } ∷ m.live);
  }

  -- out of the newest layer alone
  abbrev pub remove : ℕ → ScopeMap A → ScopeMap A
  remove x m = record { depth = m.depth; live = remove_in m.depth x m.live }

  abbrev pub newest_layer : ScopeMap A → List (Live A)
  newest_layer m = layer_in m.depth m.live

  -- the bottom layer is never popped
  abbrev pub pop_layer : ScopeMap A → ScopeMap A
  pop_layer m = cond (ltb 1 m.depth) (record { depth = m.depth - 1; live = below_layer m.depth m.live }) m
