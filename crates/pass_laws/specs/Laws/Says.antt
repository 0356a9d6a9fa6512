-- What the rows of a fresh run say of each name, event by event of R7RS's walk over a tree without inner define.
use Rattle.std.specs.Prelude.{ℕ, List, [], ◌∷◌, ◌++◌, Bool, true, false, cond, ◌&&◌, ◌||◌, ◌≡◌, refl, get_or, eqb, Option, None, Some}
use Rattle.std.proofs.Common.{append_assoc, append-nil, ap, sym, subst, ◌∙◌}
use Rattle.tree.specs.Tree.{Ident}
use Rattle.scope_map.specs.ScopeMap.{Live, get_in}
use Rattle.semantic.specs.Information.{NONE}
use Rattle.semantic.specs.Rows.{Row, Blank, Variable}
use Rattle.semantic.specs.declared.IdentifierStatus.{IdentifierStatus}
use Rattle.semantic.specs.declared.IdentifierStatus.TheVariants.{Global, Local, LetVar, Captured, Free, HeapAllocated}
use Rattle.semantic.specs.declared.SemanticInformation.{SemanticInformation}
use Rattle.r7rs.specs.Binding.{Binder, Mention, Event, enters, mentions, ends, entering, mentions_in, meant, is_inner, Use, use_of, uses_of}
use Rattle.pass.specs.State.{binder_in}
use Rattle.pass.specs.Read.{is_prelude}
use Rattle.pass_laws.specs.Static.{Presumption}

-- Each mention of a walk

abbrev pub Each : (Mention → Type 0) → List Event → Type 0
Each Q [] = Unit {0}
Each Q (enters b sc ∷ l) = Each Q l
Each Q (mentions m ∷ l) = Q m × Each Q l
Each Q (ends i xs sc ∷ l) = Each Q l

-- The uses that a walk meets

abbrev pub uses_in : List Event → List Use
uses_in l = uses_of (mentions_in l)

pub uses_of_lem : (l r : List Mention) → uses_of (l ++ r) ≡ uses_of l ++ uses_of r
uses_of_lem [] r = refl
uses_of_lem (m ∷ l) r = ap (λ (k : List Use). use_of m (meant m) ++ k) (uses_of_lem l r) ∙ sym (append_assoc (use_of m (meant m)) (uses_of l) (uses_of r))

pub mentions_in_lem : (l r : List Event) → mentions_in (l ++ r) ≡ mentions_in l ++ mentions_in r
mentions_in_lem [] r = refl
mentions_in_lem (enters b sc ∷ l) r = mentions_in_lem l r
mentions_in_lem (mentions m ∷ l) r = ap (λ (k : List Mention). m ∷ k) (mentions_in_lem l r)
mentions_in_lem (ends i xs sc ∷ l) r = mentions_in_lem l r

pub uses_in_lem : (l r : List Event) → uses_in (l ++ r) ≡ uses_in l ++ uses_in r
uses_in_lem l r = ap uses_of (mentions_in_lem l r) ∙ uses_of_lem (mentions_in l) (mentions_in r)

-- uses before, then those of l, then those of r
pub uses-then : (before : List Use) (l r : List Event) → (before ++ uses_in l) ++ uses_in r ≡ before ++ uses_in (l ++ r)
uses-then before l r = append_assoc before (uses_in l) (uses_in r) ∙ ap (λ (u : List Use). before ++ u) (sym (uses_in_lem l r))

-- names that enter are no uses
pub mentions_entering : (bs sc : List Binder) → mentions_in (entering bs sc) ≡ []
unfolding entering
mentions_entering [] sc = refl
mentions_entering (b ∷ bs) sc = mentions_entering bs (b ∷ sc)

pub uses-entering : (before : List Use) (bs sc : List Binder) → before ≡ before ++ uses_in (entering bs sc)
uses-entering before bs sc = sym (ap (λ (l : List Mention). before ++ uses_of l) (mentions_entering bs sc) ∙ append-nil before)

-- a lambda inside uses the name that is bound at the record b; it is set

abbrev pub is_inner_use : ℕ → Use → Bool
is_inner_use b u = u.is_inner && eqb u.binder b

abbrev pub is_set_use : ℕ → Use → Bool
is_set_use b u = u.is_set && eqb u.binder b

abbrev pub any_use : (Use → Bool) → List Use → Bool
any_use p [] = false
any_use p (u ∷ l) = p u || any_use p l

pub any_append : (p : Use → Bool) (l r : List Use) → any_use p (l ++ r) ≡ any_use p l || any_use p r
any_append p [] r = refl
any_append p (u ∷ l) r = go (p u) (any_append p l r)
  where
    go : (b : Bool) → any_use p (l ++ r) ≡ any_use p l || any_use p r → b || any_use p (l ++ r) ≡ (b || any_use p l) || any_use p r
    go true e = refl
    go false e = e

abbrev pub used_inside : ℕ → List Use → Bool
used_inside b = any_use (is_inner_use b)

abbrev pub is_set_in : ℕ → List Use → Bool
is_set_in b = any_use (is_set_use b)

-- What a row says

pub record Tells (T : List Row) (i : ℕ) (k : IdentifierStatus) (r d s : ℕ) : Type 0 where
  pub fact : SemanticInformation
  pub is : get_or T i Blank ≡ Variable fact
  pub kind : fact.kind ≡ k
  pub refers : fact.refers_to ≡ r
  pub depth : fact.depth ≡ d
  pub slot : fact.stack_offset ≡ s

-- `before` are the uses before the mention m, which means b
abbrev pub kind_of : List Use → Mention → Binder → IdentifierStatus
kind_of before m b =
    cond (is_inner m b) Captured
    (cond (used_inside b.ident.at before && (m.is_set || is_set_in b.ident.at before)) HeapAllocated Local)

abbrev pub binder_kind : Binder → IdentifierStatus
binder_kind b = cond b.is_let LetVar Local

-- the bottom entry of an identifier's name, by the live names of the bottom layer
abbrev pub cell_of : List (Live Ident) → Ident → Option Ident
cell_of bottom x = binder_in (get_in bottom x.name)

-- `cell` tells an identifier's bottom entry, where it has one
module _ (classes : List ℕ) (T : List Row) (cell : Ident → Option Ident) where
  -- the bottom entry of the name, if it has one
  abbrev pub SaysCell : Ident → ℕ → Option Ident → Type 0
  SaysCell x layer (Some d) = Tells T x.at Global d.id 1 NONE
  SaysCell x layer None = Tells T x.at (cond (is_prelude classes x.name) Global Free) NONE layer NONE

  abbrev pub SaysOf : List Use → Mention → Option Binder → Type 0
  SaysOf before m None = SaysCell m.ident m.place.site.layer (cell m.ident)
  SaysOf before m (Some b) = Tells T m.ident.at (kind_of before m b) b.ident.id m.place.site.layer b.home.slot

  -- along the walk
  abbrev pub Says : List Use → List Event → Type 0
  Says before [] = Unit {0}
  Says before (enters b sc ∷ l) = Tells T b.ident.at (binder_kind b) NONE b.home.layer NONE × Says before l
  Says before (mentions m ∷ l) = SaysOf before m (meant m) × Says (before ++ use_of m (meant m)) l
  Says before (ends i xs sc ∷ l) = Says before l

  pub says_append : (before : List Use) (l r : List Event) → Says before l → Says (before ++ uses_in l) r → Says before (l ++ r)
  says_append before [] r p q = rw append-nil at q
  says_append before (enters b sc ∷ l) r p q = (p.0, says_append before l r p.1 q)
  says_append before (mentions m ∷ l) r p q =
      (p.0, says_append (before ++ use_of m (meant m)) l r p.1 (rw (append_assoc before (use_of m (meant m)) (uses_in l)) q))
  says_append before (ends i xs sc ∷ l) r p q = says_append before l r p q

-- with the same bottom entries
pub says_cell : (classes : List ℕ) (T : List Row) (c d : Ident → Option Ident) (before : List Use) (l : List Event) → Each (λ m. c m.ident ≡ d m.ident) l
    → Says classes T c before l → Says classes T d before l
says_cell classes T c d before [] e p = tt
says_cell classes T c d before (enters b sc ∷ l) e p = (p.0, says_cell classes T c d before l e p.1)
says_cell classes T c d before (mentions m ∷ l) e p = (go (meant m) p.0, says_cell classes T c d (before ++ use_of m (meant m)) l e.1 p.1)
  where
    go : (o : Option Binder) → SaysOf classes T c before m o → SaysOf classes T d before m o
    go None q = subst (SaysCell classes T c m.ident m.place.site.layer) e.0 q
    go (Some b) q = q
says_cell classes T c d before (ends i xs sc ∷ l) e p = says_cell classes T c d before l e p

-- What is presumed of a use

module _ (P : Presumption) where
  pub record PresumedOf (m : Mention) (b : Binder) : Type 0 where
    pub ReadInside : m.is_set ≡ false → is_inner m b ≡ true → P.ReadInside b.ident
    pub SetOwn : m.is_set ≡ true → is_inner m b ≡ false → P.SetOwn b.ident
    pub SetInside : m.is_set ≡ true → is_inner m b ≡ true → P.SetInside b.ident

  abbrev pub Presumed : Mention → Option Binder → Type 0
  Presumed m None = Unit {0}
  Presumed m (Some b) = PresumedOf m b

  -- along the walk
  abbrev pub Presumes : List Event → Type 0
  Presumes [] = Unit {0}
  Presumes (enters b sc ∷ l) = Presumes l
  Presumes (mentions m ∷ l) = Presumed m (meant m) × Presumes l
  Presumes (ends i xs sc ∷ l) = Presumes l

  pub presumes_left : (l r : List Event) → Presumes (l ++ r) → Presumes l
  presumes_left [] r p = tt
  presumes_left (enters b sc ∷ l) r p = presumes_left l r p
  presumes_left (mentions m ∷ l) r p = (p.0, presumes_left l r p.1)
  presumes_left (ends i xs sc ∷ l) r p = presumes_left l r p

  pub presumes_right : (l r : List Event) → Presumes (l ++ r) → Presumes r
  presumes_right [] r p = p
  presumes_right (enters b sc ∷ l) r p = presumes_right l r p
  presumes_right (mentions m ∷ l) r p = presumes_right l r p.1
  presumes_right (ends i xs sc ∷ l) r p = presumes_right l r p
