-- A kind comes back from its number, and yes or no from theirs.
use Rattle.std.specs.Prelude.{Bool, true, false, ◌≡◌, refl, eqb}
use Rattle.tree.specs.Tree.{bit}
use Rattle.semantic.specs.Rows.{kind_number}
use Rattle.semantic.specs.Numbers.{status_of}
use Rattle.semantic.specs.declared.IdentifierStatus.{IdentifierStatus}
use Rattle.semantic.specs.declared.IdentifierStatus.TheVariants.{Global, Local, LocallyDefinedFunction, LetVar, Captured, Free, HeapAllocated}

pub status_kind : (k : IdentifierStatus) → status_of (kind_number k) ≡ k
status_kind Global = refl
status_kind Local = refl
status_kind LocallyDefinedFunction = refl
status_kind LetVar = refl
status_kind Captured = refl
status_kind Free = refl
status_kind HeapAllocated = refl

pub bit-one : (b : Bool) → eqb (bit b) 1 ≡ b
bit-one true = refl
bit-one false = refl
