-- Runs of and, when and unless on the plain machine, moment by moment. Document 02, order 7; R7RS 4.2.1.
use Rattle.std.specs.Prelude.{ℕ, zero, suc, List, [], ◌∷◌, ◌++◌, true, false, ◌≡◌, refl, Option, None, Some}
use Rattle.tree.specs.Tree.{Tree, Trees, ident, const, if, lambda, sequence, call, nil, cons, ands, whens}
use Rattle.r7rs.specs.Machine.{at, Moment, start, entered, read, pushed, next, ended, stopped, outside}
use Rattle.r7rs.specs.Plain.{PVal, POut}
use Rattle.r7rs.specs.Steps
use Rattle.r7rs.specs.Run.{run, plain}
use Rattle.r7rs.proofs.Laws.Examples.{Last, constant, falsity, unspecified, procedure, stop, value_p, last_p, x, nd, bare, one}

-- a moment at a record
pub data Made : Type 0 where
  begun : Made
  enter : ℕ → Made
  push : ℕ → Made
  reads : ℕ → Made

abbrev made : Moment → Made
made (start ts) = begun
made (entered e) = enter (at e)
made (read i) = reads i
made (pushed i w n es) = push i

abbrev in_hand : Option PVal → Option Last
in_hand None = None
in_hand (Some v) = Some (value_p v)

-- the moment that a run is at, and the value then in hand
abbrev shown : POut → List (Made × Option Last)
shown (next s) = (made s.moment, in_hand s.hand) ∷ []
shown (ended v m) = []
shown stopped = []
shown outside = []

-- the first n moments
abbrev moments : Trees → ℕ → List (Made × Option Last)
moments ts zero = []
moments ts (suc n) = moments ts n ++ shown (plain ts (suc n)).now

record Ran : Type 0 where
  pub moments : List (Made × Option Last)
  pub last : Last

-- a run of at most nine moments, from the first to the last
abbrev comes : Tree → Ran
comes t = record { moments = moments (one t) 9; last = last_p (plain (one t) 9).now }

-- the constant of this id at a record, and #f
abbrev pub number : ℕ → ℕ → Tree
number i c = const (record { at = i; id = c; from = 0; to = 0 }) false

abbrev pub wrong : ℕ → ℕ → Tree
wrong i c = const (record { at = i; id = c; from = 0; to = 0 }) true

abbrev pub and : ℕ → Trees → Tree
and i es = sequence (ands (bare i)) es

abbrev pub when : ℕ → Trees → Tree
when i es = sequence (whens true (bare i)) es

abbrev pub unless : ℕ → Trees → Tree
unless i es = sequence (whens false (bare i)) es

-- a moment with nothing in hand; with the constant of this id; with #f; with the procedure of the lambda at record j
abbrev bar : Made → Made × Option Last
bar m = (m, None)

abbrev has : Made → ℕ → Made × Option Last
has m c = (m, Some (constant c))

abbrev not : Made → ℕ → Made × Option Last
not m c = (m, Some (falsity c))

abbrev proc : Made → ℕ → Made × Option Last
proc m j = (m, Some (procedure j))

record Case : Type 0 where
  pub tree : Tree
  pub says : Ran

abbrev ran : List (Made × Option Last) → Last → Ran
ran ms l = record { moments = ms; last = l }

-- What each comes to. Of ten the moments and the last value were given with the order; (when 5 6 7), (unless #f 5) and (unless 5 6), and the value in
-- hand at moments for which none was given, are read off its statement.
abbrev cases : List Case
cases =
    -- (and): its value is given in the moment of entering
    record { tree = and 0 nil; says = ran (has (enter 0) 0 ∷ []) (constant 0) }
    -- (and 5)
    ∷ record { tree = and 0 (one (number 1 1)); says = ran (bar (enter 0) ∷ has (enter 1) 1 ∷ []) (constant 1) }
    -- (and #f 5): the added #f, not the child's value
    ∷ record { tree = and 0 (cons (wrong 1 1) (one (number 2 2))); says = ran (bar (enter 0) ∷ not (enter 1) 1 ∷ []) (falsity 0) }
    -- (if (and 5 #f 7) 8 9): the value in hand is the added #f where the branch is entered
    ∷ record {
      tree = if (bare 0) (and 1 (cons (number 2 1) (cons (wrong 3 2) (one (number 4 3))))) (number 5 4) (number 6 5);
      says = ran (bar (enter 0) ∷ bar (enter 1) ∷ has (enter 2) 1 ∷ not (enter 3) 2 ∷ has (enter 6) 5 ∷ []) (constant 5);
    }
    -- (when #f 5)
    ∷ record { tree = when 0 (cons (wrong 1 1) (one (number 2 2))); says = ran (bar (enter 0) ∷ not (enter 1) 1 ∷ []) unspecified }
    -- (when 5 6 7)
    ∷ record {
      tree = when 0 (cons (number 1 1) (cons (number 2 2) (one (number 3 3))));
      says = ran (bar (enter 0) ∷ has (enter 1) 1 ∷ has (enter 2) 2 ∷ has (enter 3) 3 ∷ []) (constant 3);
    }
    -- (unless #f 5), (unless 5 6)
    ∷ record { tree = unless 0 (cons (wrong 1 1) (one (number 2 2))); says = ran (bar (enter 0) ∷ not (enter 1) 1 ∷ has (enter 2) 2 ∷ []) (constant 2) }
    ∷ record { tree = unless 0 (cons (number 1 1) (one (number 2 2))); says = ran (bar (enter 0) ∷ has (enter 1) 1 ∷ []) unspecified }
    -- (when 5), (unless 5): not the test's value
    ∷ record { tree = when 0 (one (number 1 1)); says = ran (bar (enter 0) ∷ has (enter 1) 1 ∷ []) unspecified }
    ∷ record { tree = unless 0 (one (number 1 1)); says = ran (bar (enter 0) ∷ has (enter 1) 1 ∷ []) unspecified }
    -- (if (when #f 5) 6 7): the unspecified value is true
    ∷ record {
      tree = if (bare 0) (when 1 (cons (wrong 2 1) (one (number 3 2)))) (number 4 3) (number 5 4);
      says = ran (bar (enter 0) ∷ bar (enter 1) ∷ not (enter 2) 1 ∷ has (enter 4) 3 ∷ []) (constant 3);
    }
    -- ((lambda (x) x) (and 5)): the push is at the and
    ∷ record {
      tree = call (nd 0) (lambda (nd 1) (x 2 0 ∷ []) (ident (x 3 0))) (one (and 4 (one (number 5 5))));
      says = ran (bar (enter 0) ∷ bar (enter 4) ∷ has (enter 5) 5 ∷ has (push 4) 5 ∷ proc (enter 1) 1 ∷ proc (enter 3) 1 ∷ has (reads 3) 5 ∷ []) (constant 5);
    }
    -- ((and) 1): stops after 4 moments
    ∷ record {
      tree = call (nd 0) (and 1 nil) (one (number 2 2));
      says = ran (bar (enter 0) ∷ has (enter 2) 2 ∷ has (push 2) 2 ∷ has (enter 1) 0 ∷ []) stop;
    }
    ∷ []

abbrev computed : List Case → List Ran
computed [] = []
computed (c ∷ cs) = comes c.tree ∷ computed cs

abbrev said : List Case → List Ran
said [] = []
said (c ∷ cs) = c.says ∷ said cs

pub all_as_said : computed cases ≡ said cases
unfolding plain run Steps.give
all_as_said = refl
