-- The end of the input: what the state answers.
use Rattle.std.specs.Prelude.{None, Some, Result}
use Prim.Native.Nat.{ℕ, ◌+◌, ◌≤◌, ◌<◌}
use mathlib.Core.List.{List, [], ◌∷◌, append-nil}
use mathlib.Core.Path.{◌≡◌, refl, ap, sym, ◌∙◌}
use native.Mathlib.Omega.{arith}
use borrow.Author.Tests.{lt-ltb, le-ltb, eq-eqb, ne_eqb}
use lib.ListN.{length}
use Rattle.reading.specs.Reading.{Said, nothing, says, differs, next, bad, ending, answer, read}
use Rattle.reading.specs.Laws.Lost.{reached, read_is}
use Rattle.reading.specs.declared.reader.Reading.{Reading}
use Rattle.reading.specs.declared.reader.Counts.{Counts}
use Rattle.reading.specs.declared.reader.BadLine.{BadLine}
use Rattle.reading.specs.Held.{shown, Tied, tied_nothing, tied_says, Going, Holds, going, lost, Answers, is_bad, is_good, bad_line, counts, ended as held_ended, Finished}
use Rattle.reading.proofs.Bytes.{tied_fine, tied_next}

pub ends_lost : (r : Reading) (m : ℕ) → r.bad ≡ Some m → Finished r (bad_line m)
unfolding held_ended
ends_lost r m h = record { is = λ b L T R x. go b L T R x; any = rw (held_ended, h) }
  where
    go : (b L T R : List ℕ) → Holds r b L T R → Answers b T R (bad_line m)
    go b L T R (going g) = let z = tied_fine g.tied in cc
    go b L T R (lost n p e k) = let q : m ≡ shown n = cc in is_bad n (ap read (sym (append-nil b)) ∙ k []) q

ends : (r : Reading) {a : Result Counts BadLine} → r.bad ≡ None → a ≡ held_ended r → ((b L T R : List ℕ) → Going r (reached b) L T R → Answers b T R a) → Finished r a
ends r {a} h e f = record { is = λ b L T R x. go b L T R x; any = e }
  where
    go : (b L T R : List ℕ) → Holds r b L T R → Answers b T R a
    go b L T R (going g) = f b L T R g
    go b L T R (lost n p e k) = cc

-- the last line has no LF
unended : (s : Said) (l : List ℕ) → (length l ≡ 0 → ⊥) → answer s l ≡ bad (next s)
unfolding answer
unended s [] h = absurd (h refl)
unended s (x ∷ l) h = refl

pub ends_open : (r : Reading) {k : ℕ} → r.bad ≡ None → (r.length ≡ 0 → ⊥) → k ≡ shown (r.lines + 1) → Finished r (bad_line k)
unfolding held_ended
ends_open r h z e =
    ends r h (ap bad_line e ∙ rw (held_ended, h, ne_eqb r.length 0 z))
    (λ b L T R g.
    let s = reached b in
    is_bad (next s.said) (read_is b ∙ unended s.said s.rest (λ q. z (g.many ∙ q))) (e ∙ tied_next g.tied))

-- it has one
ended : (s : Said) (l : List ℕ) → length l ≡ 0 → answer s l ≡ ending s
unfolding answer
ended s [] h = refl
ended s (x ∷ l) h = absurd (omega arith)

module _ (r : Reading) (fine : r.bad ≡ None) (none : r.length ≡ 0) where
  by_said : {a : Result Counts BadLine} → a ≡ held_ended r → ((b T R : List ℕ) (s : Said) → read b ≡ ending s → Tied r T R s → Answers b T R a) → Finished r a
  by_said e f =
      ends r fine e
      (λ b L T R g.
      let s = reached b in
      f b T R s.said (read_is b ∙ ended s.said s.rest (sym g.many ∙ none)) g.tied)

  pub ends_empty : r.lines ≡ 0 → Finished r (bad_line 1)
  unfolding ending held_ended
  ends_empty z = by_said (rw (held_ended, fine, eq-eqb r.length 0 none, eq-eqb r.lines 0 z)) go
    where
      go : (b T R : List ℕ) (s : Said) → read b ≡ ending s → Tied r T R s → Answers b T R (bad_line 1)
      go b T R nothing e (tied_nothing h i) = is_bad 1 e refl
      go b T R (differs k) e t = elim t [ ]
      go b T R (says n cs rs) e (tied_says v) = absurd (omega (arith, v.lines))

  pub ends_short : {k : ℕ} → (r.lines ≡ 0 → ⊥) → r.classes < r.names → k ≡ shown (r.lines + 1) → Finished r (bad_line k)
  unfolding ending held_ended
  ends_short {k} z h q =
      by_said
      (ap bad_line q
      ∙ rw (held_ended, fine, eq-eqb r.length 0 none, ne_eqb r.lines 0 z, lt-ltb r.classes r.names h))
      go
    where
      go : (b T R : List ℕ) (s : Said) → read b ≡ ending s → Tied r T R s → Answers b T R (bad_line k)
      go b T R nothing e (tied_nothing g i) = absurd (z g)
      go b T R (differs k) e t = elim t [ ]
      go b T R (says n cs rs) e (tied_says v) =
          is_bad (next (says n cs rs)) (e ∙ rw (ending, lt-ltb (length cs) n (omega (arith, v.classes, v.names)))) (q ∙ tied_next (tied_says v))

  pub ends_whole : (r.lines ≡ 0 → ⊥) → r.names ≤ r.classes → Finished r (counts r.classes r.records)
  unfolding ending held_ended
  ends_whole z h =
      by_said (rw (held_ended, fine, eq-eqb r.length 0 none, ne_eqb r.lines 0 z, le-ltb r.classes r.names h)) go
    where
      go : (b T R : List ℕ) (s : Said) → read b ≡ ending s → Tied r T R s → Answers b T R (counts r.classes r.records)
      go b T R nothing e (tied_nothing g i) = absurd (z g)
      go b T R (differs k) e t = elim t [ ]
      go b T R (says n cs rs) e (tied_says v) =
          is_good cs rs (e ∙ rw (ending, le-ltb (length cs) n (omega (arith, v.classes, v.names)))) v.classes v.records v.kept
