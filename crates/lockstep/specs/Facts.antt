-- What the recorded facts tell: whether a call is a tail call, how deep a lambda is made, and where a name's value lies.
use Rattle.std.specs.Prelude.{ℕ, zero, suc, List, get_or, eqb, Option, None, Some}
use Rattle.tree.specs.Tree.{Trees, flats}
use Rattle.tree.specs.First.{first}
use Rattle.semantic.specs.Rows.{Row, Blank, Variable, Function, CallSite, Let}
use Rattle.semantic.specs.declared.IdentifierStatus.{IdentifierStatus}
use Rattle.semantic.specs.declared.IdentifierStatus.TheVariants.{Global, Local, LocallyDefinedFunction, LetVar, Captured, Free, HeapAllocated}
use Rattle.semantic.specs.declared.SemanticInformation.{SemanticInformation}
-- a recorded tail call: "A SelfTailCall acts as a TailCall"; "a call without a fact gives up none"
pub use Rattle.semantic.specs.Kinds.{is_tail_row as is_tail}

-- the depth that a lambda is made at
abbrev pub made_at : Row → ℕ
made_at Blank = 0
made_at (Variable v) = 0
made_at (Function v) = v.depth
made_at (CallSite v) = 0
made_at (Let v) = 0

-- which of the frames of depths 2, 3, .. is the one of depth d
abbrev pub frame_of : ℕ → Option ℕ
frame_of zero = None
frame_of (suc zero) = None
frame_of (suc (suc d)) = Some d

-- the one of a binder's depth
abbrev pub frame_in : Row → Option ℕ
frame_in Blank = None
frame_in (Variable v) = frame_of v.depth
frame_in (Function v) = None
frame_in (CallSite v) = None
frame_in (Let v) = None

-- the fact of a record
abbrev pub row_of : List Row → ℕ → Row
row_of T i = get_or T i Blank

abbrev pub row_of? : List Row → Option ℕ → Row
row_of? T None = Blank
row_of? T (Some i) = row_of T i

-- where the facts say that a name's value lies
pub data Spot : Type 0 where
  cell : Spot
  own : ℕ → Spot  -- the body's own frame: the slot
  kept : ℕ → ℕ → Spot  -- a frame that the body's lambda copied: which one, and the slot
  nowhere : Spot

abbrev pub kept_at : Option (ℕ × ℕ) → Spot
kept_at None = nowhere
kept_at (Some p) = kept p.0 p.1

abbrev pub with_slot : Option ℕ → ℕ → Option (ℕ × ℕ)
with_slot None s = None
with_slot (Some f) s = Some (f, s)

-- ts: the tree; T: the facts
module _ (ts : Trees) (T : List Row) where
  -- the fact of the record that has the id i
  unfoldable pub row_of_id : ℕ → Row
  row_of_id i = row_of? T (first (λ r. eqb r.id i) (flats ts))

  -- "the frame of the depth of the binder that its refers names", and the slot
  unfoldable pub home : SemanticInformation → Option (ℕ × ℕ)
  home v = with_slot (frame_in (row_of_id v.refers_to)) v.stack_offset

  abbrev pub spot_by : IdentifierStatus → SemanticInformation → Spot
  spot_by Global v = cell
  spot_by Local v = own v.stack_offset
  spot_by LocallyDefinedFunction v = nowhere
  spot_by LetVar v = nowhere
  spot_by Captured v = kept_at (home v)
  spot_by Free v = cell
  spot_by HeapAllocated v = own v.stack_offset

  -- the spot that an identifier with this fact reads or sets
  abbrev pub spot_in : Row → Spot
  spot_in Blank = nowhere
  spot_in (Variable v) = spot_by v.kind v
  spot_in (Function v) = nowhere
  spot_in (CallSite v) = nowhere
  spot_in (Let v) = nowhere

  -- the frame and slot of the name that it means
  abbrev pub home_in : Row → Option (ℕ × ℕ)
  home_in Blank = None
  home_in (Variable v) = home v
  home_in (Function v) = None
  home_in (CallSite v) = None
  home_in (Let v) = None
