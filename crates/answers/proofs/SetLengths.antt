-- Lent tables of their set lengths, cleared.
use Prim.Native.Nat.{ℕ}
use mathlib.Core.Bool.{true}
use mathlib.Core.List.{List}
use mathlib.Core.Path.{◌≡◌, ap, sym, subst, ◌∙◌}
use lib.ListN.{length, replicate}
use Rattle.pass.specs.Run.{lengths_fit, zeros}
use Rattle.work.specs.Works.{binders_first, binders_length}
use Rattle.answers.specs.Answer.{tables}
use Rattle.answers.specs.Clear.{zeroed, names_cleared, Emptied, Blank}
use Rattle.answers.specs.Laws.Lengths.{long}
use Rattle.answers.proofs.Work.{emptied}

all : {m k : ℕ} {v : List ℕ} → v ≡ replicate m 0 → m ≡ k → v ≡ replicate k 0
all g e = g ∙ ap (λ (i : ℕ). replicate i 0) e

module _ (F C A w : List ℕ) (F' C' A' w' : List ℕ) where
  -- tables of zeros
  pub all-zero : lengths_fit (tables F C A w) ≡ true → F' ≡ replicate (length F) 0 → C' ≡ replicate (length C) 0
      → A' ≡ replicate (length A) 0 → w' ≡ replicate (length w) 0 → tables F' C' A' w' ≡ zeros
  unfolding zeros
  all-zero h f c a z =
      let l = long (tables F C A w) h in
      rw (f, l.facts, c, l.captured, a, l.arguments, z, l.work)

  -- tables that a run can start with
  pub all-blank : {v : List ℕ} → lengths_fit (tables F C A w) ≡ true → F' ≡ replicate (length F) 0 → C' ≡ replicate (length C) 0
      → A' ≡ replicate (length A) 0 → v ≡ names_cleared w → w' ≡ zeroed binders_first binders_length v → Blank (tables F' C' A' w')
  all-blank h f c a n z =
      let l = long (tables F C A w) h in
      record {
        facts = all f l.facts;
        captured = all c l.captured;
        arguments = all a l.arguments;
        work = subst Emptied (sym (z ∙ ap (zeroed binders_first binders_length) n)) (emptied w l.work);
      }
