-- What the facts have to say of each name, by R7RS's binding. Demand 2; document 01, "Rules of the pass".
use Rattle.std.specs.Prelude.{ℕ, ◌+◌, List, [], ◌∷◌, ◌++◌, Bool, true, false, cond, not, ◌&&◌, ◌||◌, ◌≡◌, eqb, Option, None, Some}
use Rattle.tree.specs.Tree.{Ident, Trees}
use Rattle.tree.specs.Define.{top_level}
use Rattle.tree.specs.Site.{lambdas_in}
use Rattle.tree.specs.Check.{member}
use Rattle.tree.specs.Accepted.{All}
use Rattle.semantic.specs.Information.{NONE}
use Rattle.semantic.specs.Rows.{Row, Blank, Variable, Function, CallSite, Let}
use Rattle.semantic.specs.declared.IdentifierStatus.{IdentifierStatus}
use Rattle.semantic.specs.declared.IdentifierStatus.TheVariants.{Global, Local, LetVar, Captured, Free, HeapAllocated}
use Rattle.pass.specs.Read.{is_prelude}
use Rattle.r7rs.specs.Binding.{Binder, Mention, events, mentions_in, binders_in, meant, is_inner}
use Rattle.r7rs.specs.Bottom.{defines_of, bottom_entry}
use Rattle.lockstep.specs.Facts.{row_of}

-- what a fact says of a name
pub record Reference : Type 0 where
  pub kind : IdentifierStatus
  pub refers : ℕ
  pub depth : ℕ
  pub slot : ℕ

abbrev pub reference : IdentifierStatus → ℕ → ℕ → ℕ → Reference
reference k r d s = record { kind = k; refers = r; depth = d; slot = s }

abbrev pub reference_in : Row → Option Reference
reference_in Blank = None
reference_in (Variable v) = Some (reference v.kind v.refers_to v.depth v.stack_offset)
reference_in (Function v) = None
reference_in (CallSite v) = None
reference_in (Let v) = None

-- the depth that a lambda's fact tells
abbrev pub depth_in : Row → Option ℕ
depth_in Blank = None
depth_in (Variable v) = None
depth_in (Function v) = Some v.depth
depth_in (CallSite v) = None
depth_in (Let v) = None

-- the uses that a name's fact has counted
abbrev pub uses_in : Row → Option ℕ
uses_in Blank = None
uses_in (Variable v) = Some v.usage_count
uses_in (Function v) = None
uses_in (CallSite v) = None
uses_in (Let v) = None

-- Mentions of a binder

abbrev pub is_it : Binder → Option Binder → Bool
is_it b None = false
is_it b (Some c) = eqb b.ident.at c.ident.at

abbrev pub is_set_of : Binder → Mention → Bool
is_set_of b m = m.is_set && is_it b (meant m)

abbrev pub is_inner_of : Binder → Mention → Bool
is_inner_of b m = is_inner m b && is_it b (meant m)

unfoldable pub any : (Mention → Bool) → List Mention → Bool
any p [] = false
any p (m ∷ l) = p m || any p l

-- the mention stands in the innermost of the lambdas given
abbrev pub is_within : List ℕ → Mention → Bool
is_within [] m = false
is_within (i ∷ is) m = member i m.place.around

-- how many mentions pass a test
unfoldable pub count : (Mention → Bool) → List Mention → ℕ
count p [] = 0
count p (m ∷ l) = cond (p m) 1 0 + count p l

abbrev pub is_of : Binder → Mention → Bool
is_of b m = is_it b (meant m)

-- an inner lambda mentions b, and a set! sets it
abbrev pub is_shared : Binder → List Mention → Bool
is_shared b l = any (is_inner_of b) l && any (is_set_of b) l

-- A name with no parameter or let name to mean. Its bottom entry d: "An entry of depth 1 is read as Global." Else: "no entry is Free, or Global
-- for a prelude name."
abbrev pub global_reference : Bool → ℕ → Option Ident → Reference
global_reference prelude layer (Some d) = reference Global d.id 1 NONE
global_reference prelude layer None = reference (cond prelude Global Free) NONE layer NONE

module _ (classes : List ℕ) (ts : Trees) where
  abbrev pub bottom_reference : Mention → Reference
  bottom_reference m = global_reference (is_prelude classes m.ident.name) m.place.site.layer (bottom_entry ts m.ident.name m.ident.at)

  abbrev pub all_mentions : List Mention
  all_mentions = mentions_in (events ts)

  -- The fresh run. "An entry of the current depth is Local with its slot, or HeapAllocated with it if by then captured and mutated; any other, on a
  -- fresh run, is Captured with its home slot." `before` are the mentions before m, which means b.

  abbrev pub fresh_kind : List Mention → Mention → Binder → IdentifierStatus
  fresh_kind before m b = cond (is_inner m b) Captured (cond (any (is_inner_of b) before && (is_set_of b m || any (is_set_of b) before)) HeapAllocated Local)

  abbrev pub fresh_bound : List Mention → Mention → Option Binder → Reference
  fresh_bound before m None = bottom_reference m
  fresh_bound before m (Some b) = reference (fresh_kind before m b) b.ident.id m.place.site.layer b.home.slot

  abbrev pub fresh_reference : List Mention → Mention → Reference
  fresh_reference before m = fresh_bound before m (meant m)

  abbrev pub fresh_binder : Binder → Reference
  fresh_binder b = reference (cond b.is_let LetVar Local) NONE b.home.layer NONE

  -- The settled run: a name that an inner lambda mentions and that is set lies in the heap, and a captured one has no slot

  abbrev pub settled_own : Bool → Mention → Binder → Reference
  settled_own true m b = reference HeapAllocated b.ident.id m.place.site.layer b.place
  settled_own false m b = reference Local b.ident.id m.place.site.layer b.home.slot

  -- a set! of b comes before the end of m's innermost lambda
  abbrev pub is_set_by_end : List Mention → Mention → Binder → Bool
  is_set_by_end before m b = any (is_set_of b) before || any (λ o. is_set_of b o && is_within m.place.around o) all_mentions

  abbrev pub settled_inner : List Mention → Mention → Binder → Reference
  settled_inner before m b = reference (cond (is_set_by_end before m b) HeapAllocated Captured) b.ident.id m.place.site.layer NONE

  abbrev pub settled_bound : List Mention → Mention → Option Binder → Reference
  settled_bound before m None = bottom_reference m
  settled_bound before m (Some b) = cond (is_inner m b) (settled_inner before m b) (settled_own (is_shared b all_mentions) m b)

  abbrev pub settled_reference : List Mention → Mention → Reference
  settled_reference before m = settled_bound before m (meant m)

  abbrev pub settled_binder : Binder → Reference
  settled_binder b = reference (cond (is_shared b all_mentions) HeapAllocated (cond b.is_let LetVar Local)) NONE b.home.layer NONE

-- the facts T say, of each identifier read or set and of each parameter and let name, what `wanted` and `wantedBinder` say
pub record Referred (ts : Trees) (T : List Row) (wanted : List Mention → Mention → Reference) (wantedBinder : Binder → Reference) : Type 0 where
  pub mentioned : (before after : List Mention) (m : Mention) → mentions_in (events ts) ≡ before ++ (m ∷ after)
      → reference_in (row_of T m.ident.at) ≡ Some (wanted before m)
  pub bound : All (λ b. reference_in (row_of T b.ident.at) ≡ Some (wantedBinder b)) (binders_in (events ts))

-- each lambda's fact tells the layer that it is made at
abbrev pub LambdasMade : Trees → List Row → Type 0
LambdasMade ts T = All (λ l. depth_in (row_of T l.0) ≡ Some l.1) (lambdas_in ts 1)

-- The name of a define at top level: "An entry of depth 1", which refers to nothing and has no slot

abbrev pub defined_name : Reference
defined_name = reference Global NONE 1 NONE

abbrev pub DefinesNamed : Trees → List Row → Type 0
DefinesNamed ts T = All (λ d. reference_in (row_of T d.name.at) ≡ Some defined_name) (defines_of (top_level ts))

-- Uses. "On a fresh run a set! adds two uses to a local name and one to a global definition's fact."

abbrev pub is_none : {A : Type 0} → Option A → Bool
is_none None = true
is_none (Some a) = false

abbrev pub is_ident : Ident → Option Ident → Bool
is_ident d None = false
is_ident d (Some e) = eqb d.at e.at

-- the identifier m refers to the define of the name d: it means no parameter or let name, and d is its bottom entry
abbrev pub refers_to : Trees → Ident → Mention → Bool
refers_to ts d m = is_none (meant m) && is_ident d (bottom_entry ts m.ident.name m.ident.at)

-- it refers to a parameter, a let name or a define
abbrev pub has_entry : Trees → Mention → Bool
has_entry ts m = not (is_none (meant m)) || not (is_none (bottom_entry ts m.ident.name m.ident.at))

-- every mention of b, read or set, and every set! once more
abbrev pub bound_uses : Binder → List Mention → ℕ
bound_uses b l = count (is_of b) l + count (is_set_of b) l

-- the facts T count the uses
pub record UsesCounted (ts : Trees) (T : List Row) : Type 0 where
  -- of each parameter and let name
  pub bound : All (λ b. uses_in (row_of T b.ident.at) ≡ Some (bound_uses b (mentions_in (events ts)))) (binders_in (events ts))
  -- of each name that is defined at top level: every mention
  pub defined : All (λ d. uses_in (row_of T d.name.at) ≡ Some (count (refers_to ts d.name) (mentions_in (events ts)))) (defines_of (top_level ts))
  -- of each identifier read or set: its own, if it refers to anything
  pub mentioned : All (λ m. uses_in (row_of T m.ident.at) ≡ Some (cond (has_entry ts m) 1 0)) (mentions_in (events ts))
