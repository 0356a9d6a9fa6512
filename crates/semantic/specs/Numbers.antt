-- The kind of an identifier's fact from its number.
use Rattle.std.specs.Prelude.{ℕ, cond, eqb}
use Rattle.semantic.specs.declared.IdentifierStatus.{IdentifierStatus}
use Rattle.semantic.specs.declared.IdentifierStatus.TheVariants.{Global, Local, LocallyDefinedFunction, LetVar, Captured, Free, HeapAllocated}

-- a number that is no kind's gives the last
abbrev pub status_of : ℕ → IdentifierStatus
status_of n =
    cond (eqb n 1) Global
    (cond (eqb n 2) Local
    (cond (eqb n 3) LocallyDefinedFunction (cond (eqb n 4) LetVar (cond (eqb n 5) Captured (cond (eqb n 6) Free HeapAllocated)))))
