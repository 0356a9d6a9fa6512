-- What the rows of a second run tell of each name, event by event of R7RS's walk.
use Rattle.std.specs.Prelude.{ℕ, List, [], ◌∷◌, ◌++◌, true, cond, ◌≡◌, Option, None, Some}
use Rattle.tree.specs.Tree.{Ident}
use Rattle.semantic.specs.Information.{NONE}
use Rattle.semantic.specs.Rows.{Row}
use Rattle.semantic.specs.declared.IdentifierStatus.{IdentifierStatus}
use Rattle.semantic.specs.declared.IdentifierStatus.TheVariants.{Local, Captured, HeapAllocated}
use Rattle.pass_laws.specs.Laws.Says.{used_inside, is_set_in, Tells, SaysCell, binder_kind}
use Rattle.r7rs.specs.Binding.{Binder, Mention, Event, enters, mentions, ends, meant, is_inner, Use}
use Rattle.execution.proofs.Laws.Settled.Again.{Script, shared}

abbrev pub head_of : List ℕ → ℕ
head_of [] = 0
head_of (i ∷ is) = i

abbrev pub told_kind : Script → Mention → Binder → IdentifierStatus
told_kind S m b =
    cond (is_inner m b) (cond (is_set_in b.ident.at (S.G (head_of m.place.around))) HeapAllocated Captured)
    (cond (shared S.U b.ident.at) HeapAllocated Local)

abbrev pub told_slot : Script → Mention → Binder → ℕ
told_slot S m b = cond (is_inner m b) NONE (cond (shared S.U b.ident.at) b.place b.home.slot)

abbrev pub told_binder : Script → Binder → IdentifierStatus
told_binder S b = cond (shared S.U b.ident.at) HeapAllocated (binder_kind b)

module _ (classes : List ℕ) (S : Script) (R : List Row) (cell : Ident → Option Ident) where
  abbrev pub TellsOf : Mention → Option Binder → Type 0
  TellsOf m None = SaysCell classes R cell m.ident m.place.site.layer (cell m.ident)
  TellsOf m (Some b) = Tells R m.ident.at (told_kind S m b) b.ident.id m.place.site.layer (told_slot S m b)

  abbrev pub TellsAll : List Event → Type 0
  TellsAll [] = Unit {0}
  TellsAll (enters b sc ∷ l) = Tells R b.ident.at (told_binder S b) NONE b.home.layer NONE × TellsAll l
  TellsAll (mentions m ∷ l) = TellsOf m (meant m) × TellsAll l
  TellsAll (ends i xs sc ∷ l) = TellsAll l

  pub tells_append : (l r : List Event) → TellsAll l → TellsAll r → TellsAll (l ++ r)
  tells_append [] r p q = q
  tells_append (enters b sc ∷ l) r p q = (p.0, tells_append l r p.1 q)
  tells_append (mentions m ∷ l) r p q = (p.0, tells_append l r p.1 q)
  tells_append (ends i xs sc ∷ l) r p q = tells_append l r p q

-- an inner mention m is among the uses W
abbrev pub InnerIn : List Use → Mention → Type 0
InnerIn W m = (b : Binder) → meant m ≡ Some b → is_inner m b ≡ true → used_inside b.ident.at W ≡ true

-- the mention m is among them
pub record Noticed (W : List Use) (m : Mention) : Type 0 where
  pub inner : InnerIn W m
  pub set : (b : Binder) → meant m ≡ Some b → m.is_set ≡ true → is_set_in b.ident.at W ≡ true
