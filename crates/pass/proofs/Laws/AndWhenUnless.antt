-- Scripts with and, when and unless, each with facts or refusals that were given with order 7 of document 02, where they had been compared with the
-- original on the expanded tree, and that the definitions say so.
use Rattle.std.specs.Prelude.{List, [], ◌∷◌, map, true, false, ◌≡◌, refl, None, Some}
use Rattle.tree.specs.Tree.{if, letin, define, lambda, sequence, call, set!, nil, cons, begins, ands, whens}
use Rattle.tree.specs.Accepted.{All}
use Rattle.semantic.specs.declared.IdentifierStatus.TheVariants.{Global, Local, LocallyDefinedFunction, Free}
use Rattle.semantic.specs.declared.CallKind.TheVariants.{Normal, TailCall, SelfTailCall}
use Rattle.pass.proofs.Laws.Scripts.{Script, computed, computed_as, expected, AsSaid, as_said, call_at, kind_at, depth_at, slot_at, uses_at, refers_at, alias_at, last_at, escapes_at, at, bare, named, reads, number, only, refused}

abbrev pub scripts : List Script
scripts =
    -- (define f (and (lambda (x) (f x)))): a lambda define
    record {
      names = 2;
      tree = only (define (bare 0) (named 1 0) (sequence (ands (bare 2)) (only (lambda (at 3) (named 4 1 ∷ []) (call (at 5) (reads 6 0) (only (reads 7 1)))))));
      fresh = None;
      settled = None;
      says = kind_at 1 (Some Global) ∷ call_at 5 (Some (SelfTailCall 1)) ∷ refers_at 6 2 ∷ [];
    }
    -- f (define f (and (and (lambda () 1)))): it enters first
    ∷ record {
      names = 1;
      tree = cons (reads 0 0) (only (define (bare 1) (named 2 0) (sequence (ands (bare 3)) (only (sequence (ands (bare 4)) (only (lambda (at 5) [] (number 6))))))));
      fresh = None;
      settled = None;
      says = kind_at 0 (Some Global) ∷ refers_at 0 3 ∷ [];
    }
    -- f (define f (and 1 (lambda () 1))): an if, so a value define
    ∷ record {
      names = 1;
      tree = cons (reads 0 0) (only (define (bare 1) (named 2 0) (sequence (ands (bare 3)) (cons (number 4) (only (lambda (at 5) [] (number 6)))))));
      fresh = None;
      settled = None;
      says = kind_at 0 (Some Free) ∷ [];
    }
    -- (and (define f (lambda () (f)))) (f): a define at top level
    ∷ record {
      names = 1;
      tree = cons (sequence (ands (bare 0)) (only (define (bare 1) (named 2 0) (lambda (at 3) [] (call (at 4) (reads 5 0) nil))))) (only (call (at 6) (reads 7 0) nil));
      fresh = None;
      settled = None;
      says = kind_at 2 (Some Global) ∷ uses_at 2 2 ∷ call_at 4 (Some (SelfTailCall 1)) ∷ kind_at 7 (Some Global) ∷ refers_at 7 3 ∷ [];
    }
    -- f (and (begin (and (define f (lambda () 1))))): a top-level begin and in it a top-level define
    ∷ record {
      names = 1;
      tree = cons (reads 0 0) (only (sequence (ands (bare 1)) (only (sequence (begins (bare 2)) (only (sequence (ands (bare 3)) (only (define (bare 4) (named 5 0) (lambda (at 6) [] (number 7))))))))));
      fresh = None;
      settled = None;
      says = kind_at 0 (Some Global) ∷ refers_at 0 6 ∷ [];
    }
    -- f (when 1 (define f (lambda () 1))): an inner define
    ∷ record {
      names = 1;
      tree = cons (reads 0 0) (only (sequence (whens true (bare 1)) (cons (number 2) (only (define (bare 3) (named 4 0) (lambda (at 5) [] (number 6)))))));
      fresh = None;
      settled = None;
      says = kind_at 0 (Some Free) ∷ kind_at 4 (Some Global) ∷ depth_at 4 1 ∷ [];
    }
    -- (lambda () (when 1 (f) (define f (lambda () (f))))): entered first
    ∷ record {
      names = 1;
      tree = only (lambda (at 0) [] (sequence (whens true (bare 1)) (cons (number 2) (cons (call (at 3) (reads 4 0) nil) (only (define (bare 5) (named 6 0) (lambda (at 7) [] (call (at 8) (reads 9 0) nil))))))));
      fresh = None;
      settled = None;
      says = kind_at 6 (Some LocallyDefinedFunction) ∷ uses_at 6 2 ∷ refers_at 4 7 ∷ call_at 8 (Some (SelfTailCall 1)) ∷ [];
    }
    -- (lambda () (when 1 (define f 2) (define f (lambda () 3)))): the lambda define has entered first
    ∷ record {
      names = 1;
      tree = only (lambda (at 0) [] (sequence (whens true (bare 1)) (cons (number 2) (cons (define (bare 3) (named 4 0) (number 5)) (only (define (bare 6) (named 7 0) (lambda (at 8) [] (number 9))))))));
      fresh = refused 9 4;
      settled = refused 9 4;
      says = [];
    }
    -- (lambda () (unless 1 (define f 2) (define f (lambda () 3))))
    ∷ record {
      names = 1;
      tree = only (lambda (at 0) [] (sequence (whens false (bare 1)) (cons (number 2) (cons (define (bare 3) (named 4 0) (number 5)) (only (define (bare 6) (named 7 0) (lambda (at 8) [] (number 9))))))));
      fresh = refused 9 4;
      settled = refused 9 4;
      says = [];
    }
    -- (lambda () (begin (and (define f (lambda () (f)))))): directly in a begin
    ∷ record {
      names = 1;
      tree = only (lambda (at 0) [] (sequence (begins (bare 1)) (only (sequence (ands (bare 2)) (only (define (bare 3) (named 4 0) (lambda (at 5) [] (call (at 6) (reads 7 0) nil))))))));
      fresh = None;
      settled = None;
      says = kind_at 4 (Some LocallyDefinedFunction) ∷ call_at 6 (Some (SelfTailCall 1)) ∷ [];
    }
    -- (lambda () (and (define f (lambda () (f))))): not in a begin, so the counter goes on
    ∷ record {
      names = 1;
      tree = only (lambda (at 0) [] (sequence (ands (bare 1)) (only (define (bare 2) (named 3 0) (lambda (at 4) [] (call (at 5) (reads 6 0) nil))))));
      fresh = None;
      settled = None;
      says = kind_at 3 (Some Local) ∷ call_at 5 (Some (SelfTailCall 2)) ∷ [];
    }
    -- (lambda () (begin (and 1 (define f (lambda () 1))))): nor here
    ∷ record {
      names = 1;
      tree = only (lambda (at 0) [] (sequence (begins (bare 1)) (only (sequence (ands (bare 2)) (cons (number 3) (only (define (bare 4) (named 5 0) (lambda (at 6) [] (number 7)))))))));
      fresh = None;
      settled = None;
      says = kind_at 5 (Some Local) ∷ [];
    }
    -- (define f (lambda (x) ((and f) x))): the head is f
    ∷ record {
      names = 2;
      tree = only (define (bare 0) (named 1 0) (lambda (at 2) (named 3 1 ∷ []) (call (at 4) (sequence (ands (bare 5)) (only (reads 6 0))) (only (reads 7 1)))));
      fresh = None;
      settled = None;
      says = call_at 4 (Some (SelfTailCall 1)) ∷ [];
    }
    -- ((and 1 f) 1)
    ∷ record {
      names = 1;
      tree = only (call (at 0) (sequence (ands (bare 1)) (cons (number 2) (only (reads 3 0)))) (only (number 4)));
      fresh = None;
      settled = None;
      says = call_at 0 (Some Normal) ∷ [];
    }
    -- ((and 7) 1) ((and) 1) ((and (and)) 1): constant heads
    ∷ record {
      names = 0;
      tree = cons (call (at 0) (sequence (ands (bare 1)) (only (number 2))) (only (number 3))) (cons (call (at 4) (sequence (ands (bare 5)) nil) (only (number 6))) (only (call (at 7) (sequence (ands (bare 8)) (only (sequence (ands (bare 9)) nil))) (only (number 10)))));
      fresh = None;
      settled = None;
      says = call_at 0 None ∷ call_at 4 None ∷ call_at 7 None ∷ [];
    }
    -- (lambda () ((and (lambda () 1))))
    ∷ record {
      names = 0;
      tree = only (lambda (at 0) [] (call (at 1) (sequence (ands (bare 2)) (only (lambda (at 3) [] (number 4)))) nil));
      fresh = None;
      settled = None;
      says = escapes_at 3 false ∷ [];
    }
    -- (lambda () ((and 1 (lambda () 1))))
    ∷ record {
      names = 0;
      tree = only (lambda (at 0) [] (call (at 1) (sequence (ands (bare 2)) (cons (number 3) (only (lambda (at 4) [] (number 5))))) nil));
      fresh = None;
      settled = None;
      says = escapes_at 4 true ∷ [];
    }
    -- (lambda (x) (if 1 (f (and x)) (g x)))
    ∷ record {
      names = 3;
      tree = only (lambda (at 0) (named 1 0 ∷ []) (if (bare 2) (number 3) (call (at 4) (reads 5 1) (only (sequence (ands (bare 6)) (only (reads 7 0))))) (call (at 8) (reads 9 2) (only (reads 10 0)))));
      fresh = None;
      settled = None;
      says = last_at 7 true ∷ [];
    }
    -- (lambda (x) (if 1 (f (and 1 x)) (g x)))
    ∷ record {
      names = 3;
      tree = only (lambda (at 0) (named 1 0 ∷ []) (if (bare 2) (number 3) (call (at 4) (reads 5 1) (only (sequence (ands (bare 6)) (cons (number 7) (only (reads 8 0)))))) (call (at 9) (reads 10 2) (only (reads 11 0)))));
      fresh = None;
      settled = None;
      says = last_at 8 false ∷ [];
    }
    -- (lambda (c) (and (c) (c)))
    ∷ record {
      names = 1;
      tree = only (lambda (at 0) (named 1 0 ∷ []) (sequence (ands (bare 2)) (cons (call (at 3) (reads 4 0) nil) (only (call (at 5) (reads 6 0) nil)))));
      fresh = None;
      settled = None;
      says = call_at 3 (Some Normal) ∷ call_at 5 (Some TailCall) ∷ [];
    }
    -- (lambda (c) (if (c) (when (c) (c) (c)) (unless (c) (c))))
    ∷ record {
      names = 1;
      tree = only (lambda (at 0) (named 1 0 ∷ []) (if (bare 2) (call (at 3) (reads 4 0) nil) (sequence (whens true (bare 5)) (cons (call (at 6) (reads 7 0) nil) (cons (call (at 8) (reads 9 0) nil) (only (call (at 10) (reads 11 0) nil))))) (sequence (whens false (bare 12)) (cons (call (at 13) (reads 14 0) nil) (only (call (at 15) (reads 16 0) nil))))));
      fresh = None;
      settled = None;
      says = call_at 3 (Some Normal) ∷ call_at 6 (Some Normal) ∷ call_at 8 (Some Normal) ∷ call_at 10 (Some TailCall) ∷ call_at 13 (Some Normal) ∷ call_at 15 (Some TailCall) ∷ [];
    }
    -- (lambda (c) (when (c))): a test is no tail position
    ∷ record {
      names = 1;
      tree = only (lambda (at 0) (named 1 0 ∷ []) (sequence (whens true (bare 2)) (only (call (at 3) (reads 4 0) nil))));
      fresh = None;
      settled = None;
      says = call_at 3 (Some Normal) ∷ [];
    }
    -- (define g (and f))
    ∷ record {
      names = 2;
      tree = only (define (bare 0) (named 1 0) (sequence (ands (bare 2)) (only (reads 3 1))));
      fresh = None;
      settled = None;
      says = alias_at 1 4 ∷ [];
    }
    -- (lambda (p) (g (and p (let ((y 1)) y))))
    ∷ record {
      names = 3;
      tree = only (lambda (at 0) (named 1 0 ∷ []) (call (at 2) (reads 3 1) (only (sequence (ands (bare 4)) (cons (reads 5 0) (only (letin (at 6) (named 7 2 ∷ []) (only (number 8)) (reads 9 2))))))));
      fresh = None;
      settled = None;
      says = slot_at 9 1 ∷ [];
    }
    -- (let ((x 1)) (and (lambda () (set! x 2))))
    ∷ record {
      names = 1;
      tree = only (letin (at 0) (named 1 0 ∷ []) (only (number 2)) (sequence (ands (bare 3)) (only (lambda (at 4) [] (set! (bare 5) (named 6 0) (number 7))))));
      fresh = None;
      settled = refused 11 1;
      says = [];
    }
    -- (lambda (x) (lambda () (when (lambda () x) (set! x 1))))
    ∷ record {
      names = 1;
      tree = only (lambda (at 0) (named 1 0 ∷ []) (lambda (at 2) [] (sequence (whens true (bare 3)) (cons (lambda (at 4) [] (reads 5 0)) (only (set! (bare 6) (named 7 0) (number 8)))))));
      fresh = None;
      settled = refused 12 5;
      says = [];
    }
    ∷ []

pub scripts_hold : map computed scripts ≡ map expected scripts
unfolding computed_as
scripts_hold = refl

pub all_as_said : All AsSaid scripts
all_as_said = as_said scripts scripts_hold
