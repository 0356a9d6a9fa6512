-- What keeps a state good: names that enter, and names that leave.
use Rattle.std.specs.Prelude.{ℕ, List, [], ◌∷◌, Bool, ◌≡◌, refl, Option, None, Some}
use Rattle.std.proofs.Math.Bool.{true, false}
use Rattle.tree.specs.Tree.{Ident}
use Rattle.semantic.specs.Rows.{ListEntry}
use Rattle.semantic.specs.declared.IdentifierStatus.{IdentifierStatus}
use Rattle.pass.specs.State.{State, note_second}
use Rattle.pass.specs.Lambda.{is_heap, note_heap, enter_name, enter_names, mark_last, end_parameters}
use Rattle.pass_laws.specs.Sound.{Grows, IsNamed}
use Rattle.pass_laws.specs.Laws.Sound.Each.{each_noted, each_live}
use Rattle.pass_laws.specs.Laws.Sound.Lists.{removed_values, removed_live}
use Rattle.pass_laws.specs.Laws.Sound.Scopes.{each_name, each_last, each_ended}
use Rattle.pass_laws.specs.Laws.Sound.Rooms.{grows_names}
use Rattle.work.specs.Known.{Known}
use Rattle.work.specs.Scope.{removed}
use Rattle.work.specs.Tied.{Good}
use Rattle.work.specs.Laws.Good.{Sized, sized_then, sized_facts, sized_enter, sized_insert, sized_amend, sized_last, good_where, good_each}

-- a name of a lambda or a let
heap_facts : (o : Option ℕ) (x : Ident) (s : State) → (note_heap o x s).facts ≡ s.facts
heap_facts None x s = refl
heap_facts (Some n) x s = refl

module _ (kind : IdentifierStatus) (base : ℕ) (heaps : Option ℕ) (before : List ListEntry) where
  sized_name : (b : Bool) (x : Ident) (j h : ℕ) (s : State) → Sized s (enter_name kind base heaps before b x j h s)
  unfolding enter_name
  sized_name true x j h s = sized_then (sized_facts (heap_facts heaps x s)) (sized_then (sized_enter x _ _) (sized_insert x.at _ _))
  sized_name false x j h s = sized_then (sized_enter x _ s) (sized_insert x.at _ _)

  pub good_name : {rs : List ℕ} {s : State} (b : Bool) (x : Ident) (j h : ℕ) → Known rs x → Good rs s → Good rs (enter_name kind base heaps before b x j h s)
  good_name {s = s} b x j h k g =
      good_where (λ Q. Q.ident x) k tt g (sized_name b x j h s) (λ Q l q F z e. each_name l z kind base heaps before b x j h q e)

  -- one live name more at most
  pub grows_name : (x : Ident) (j h : ℕ) (s : State) → Grows 0 1 s (enter_name kind base heaps before (is_heap before j) x j h s)
  unfolding enter_names
  grows_name x j h s = grows_names kind base heaps before (x ∷ []) j h s

-- a refusal noted
pub good_second : {rs : List ℕ} {s : State} (n i : ℕ) → Good rs s → Good rs (note_second n i s)
good_second n i g = good_each g (record { rows = refl; arguments = refl }) (λ Q l F z h. each_noted _ h)

-- names at their end

pub good_last : {rs : List ℕ} {s : State} (o : Option Ident) → Good rs s → Good rs (mark_last o s)
good_last {s = s} o g = good_each g (sized_last o s) (λ Q l F z h. each_last l z o h)

pub good_ended : {rs : List ℕ} {s : State} (x : Ident) → Good rs s → Good rs (end_parameters (x ∷ []) s)
unfolding end_parameters
good_ended {s = s} x g = good_each g (sized_amend _ x.at s) (λ Q l F z h. each_ended l z (x ∷ []) h)

pub good_removed : {rs : List ℕ} {s : State} (x : ℕ) → Good rs s → Good rs (removed x s)
good_removed {s = s} x g =
    good_each g (record { rows = refl; arguments = refl }) (λ Q l F z h. each_live _ (removed_live IsNamed x s.scope.names h.named)
    (removed_values Q.ident x s.scope.names h.binders) h)
