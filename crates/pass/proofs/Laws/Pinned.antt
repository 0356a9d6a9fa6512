-- Scripts whose answers are the original's, one for each rule that the starred scripts leave open: what it was seen to say of each, every field
-- printed after one run and after two, and that the definitions say so.
use Rattle.std.specs.Prelude.{List, [], ◌∷◌, map, true, false, ◌≡◌, refl, replicate, None, Some}
use Rattle.tree.specs.Tree.{letin, define, lambda, sequence, call, set!, nil, cons, begins}
use Rattle.tree.specs.Accepted.{All}
use Rattle.semantic.specs.Information.{NONE}
use Rattle.semantic.specs.Rows.{no_list_entry}
use Rattle.semantic.specs.declared.IdentifierStatus.TheVariants.{Global, Local, Captured, HeapAllocated}
use Rattle.semantic.specs.declared.CallKind.TheVariants.{Normal, TailCall, SelfTailCall}
use Rattle.pass.specs.State.{State}
use Rattle.pass.specs.Lists.{store_captured}
use Rattle.pass.specs.Run.{start}
use Rattle.pass.proofs.Laws.Scripts.{Script, computed, computed_as, expected, AsSaid, as_said, call_at, kind_at, slot_at, uses_at, refers_at, alias_at, shadows_at, capture_at, read_capture_at, heap_at, read_heap_at, last_at, builtin_at, shadowed_at, required_at, escapes_at, arguments_at, captured_at, twice, at, bare, named, reads, number, only}

abbrev pub scripts : List Script
scripts =
    -- (define f 1) f: a read of a define counts one use of its own, and one of the define's
    record {
      names = 1;
      tree = cons (define (bare 0) (named 1 0) (number 2)) (only (reads 3 0));
      fresh = None;
      settled = None;
      says = uses_at 1 1 ∷ kind_at 3 (Some Global) ∷ uses_at 3 1 ∷ refers_at 3 2 ∷ [];
    }
    -- (lambda (x) (x x)): the head comes after the argument, so it is the last use
    ∷ record {
      names = 1;
      tree = only (lambda (at 0) (named 1 0 ∷ []) (call (at 2) (reads 3 0) (only (reads 4 0))));
      fresh = None;
      settled = None;
      says = call_at 2 (Some TailCall) ∷ last_at 3 true ∷ last_at 4 false ∷ [];
    }
    -- (lambda (p) ((let ((y p)) y) 7)): the head stands above the arguments
    ∷ record {
      names = 2;
      tree = only (lambda (at 0) (named 1 0 ∷ []) (call (at 2) (letin (at 3) (named 4 1 ∷ []) (only (reads 5 0)) (reads 6 1)) (only (number 7))));
      fresh = None;
      settled = None;
      says = slot_at 6 2 ∷ [];
    }
    -- (lambda () (f (g))): an argument is no tail position
    ∷ record {
      names = 2;
      tree = only (lambda (at 0) [] (call (at 1) (reads 2 0) (only (call (at 3) (reads 4 1) nil))));
      fresh = None;
      settled = None;
      says = call_at 1 (Some TailCall) ∷ call_at 3 (Some Normal) ∷ twice (call_at 1 (Some TailCall)) ∷ twice (call_at 3 (Some Normal)) ∷ [];
    }
    -- (lambda () (begin (define a (f)))): nor is a define's body
    ∷ record {
      names = 2;
      tree = only (lambda (at 0) [] (sequence (begins (bare 1)) (only (define (bare 2) (named 3 0) (call (at 4) (reads 5 1) nil)))));
      fresh = None;
      settled = None;
      says = call_at 4 (Some Normal) ∷ [];
    }
    -- (lambda (x y) (lambda () (begin (set! x 1) y))): unmutated entries are numbered, and mutated ones apart from them
    ∷ record {
      names = 2;
      tree = only (lambda (at 0) (named 1 0 ∷ named 2 1 ∷ []) (lambda (at 3) [] (sequence (begins (bare 4))
          (cons (set! (bare 5) (named 6 0) (number 7)) (only (reads 8 1))))));
      fresh = None;
      settled = None;
      says =
          kind_at 6 (Some Captured) ∷ slot_at 6 0 ∷ kind_at 8 (Some Captured) ∷ slot_at 8 1
          ∷ twice (kind_at 1 (Some HeapAllocated)) ∷ twice (kind_at 2 (Some Local))
          ∷ twice (kind_at 6 (Some HeapAllocated)) ∷ twice (capture_at 6 NONE) ∷ twice (read_capture_at 6 NONE) ∷ twice (heap_at 6 0) ∷ twice (read_heap_at 6 0)
          ∷ twice (kind_at 8 (Some Captured)) ∷ twice (capture_at 8 0) ∷ twice (read_capture_at 8 0) ∷ twice (heap_at 8 NONE) ∷ twice (read_heap_at 8 NONE)
          ∷ [];
    }
    -- (lambda (x y) (lambda () (begin (lambda () y) x))): the inner lambda takes y, its first, from where the one around has it, second
    ∷ record {
      names = 2;
      tree = only (lambda (at 0) (named 1 0 ∷ named 2 1 ∷ []) (lambda (at 3) [] (sequence (begins (bare 4))
          (cons (lambda (at 5) [] (reads 6 1)) (only (reads 7 0))))));
      fresh = None;
      settled = None;
      says = twice (capture_at 6 1) ∷ twice (read_capture_at 6 0) ∷ twice (capture_at 7 0) ∷ twice (read_capture_at 7 0) ∷ [];
    }
    -- (lambda (p) (let ((y p)) (begin (set! y 1) (lambda () y)))): a heap let name's slot is its place in the let
    ∷ record {
      names = 2;
      tree = only (lambda (at 0) (named 1 0 ∷ []) (letin (at 2) (named 3 1 ∷ []) (only (reads 4 0)) (sequence (begins (bare 5))
          (cons (set! (bare 6) (named 7 1) (number 8)) (only (lambda (at 9) [] (reads 10 1)))))));
      fresh = None;
      settled = None;
      says =
          slot_at 7 1 ∷ twice (kind_at 7 (Some HeapAllocated)) ∷ twice (slot_at 7 0) ∷ twice (heap_at 7 0) ∷ twice (read_heap_at 7 0)
          ∷ twice (slot_at 10 NONE) ∷ twice (heap_at 10 1) ∷ twice (read_heap_at 10 0) ∷ [];
    }
    -- (lambda (x y) (begin (lambda () x) (lambda () y))): x, captured by then, stands in the second list, and leaves it on a second run
    ∷ record {
      names = 2;
      tree = only (lambda (at 0) (named 1 0 ∷ named 2 1 ∷ []) (sequence (begins (bare 3))
          (cons (lambda (at 4) [] (reads 5 0)) (only (lambda (at 6) [] (reads 7 1))))));
      fresh = None;
      settled = None;
      says =
          captured_at 4 (2 ∷ []) ∷ captured_at 6 (2 ∷ 3 ∷ []) ∷ twice (captured_at 4 (2 ∷ [])) ∷ twice (captured_at 6 (3 ∷ []))
          ∷ twice (capture_at 7 1) ∷ twice (read_capture_at 7 1) ∷ [];
    }
    -- (lambda () (let ((x 1)) (lambda () x))): a read that takes a capture is one use more than the first run counted
    ∷ record {
      names = 1;
      tree = only (lambda (at 0) [] (letin (at 1) (named 2 0 ∷ []) (only (number 3)) (lambda (at 4) [] (reads 5 0))));
      fresh = None;
      settled = None;
      says = uses_at 2 1 ∷ uses_at 5 1 ∷ twice (uses_at 2 2) ∷ twice (uses_at 5 1) ∷ [];
    }
    -- (lambda (x) (lambda (x) x)): a parameter hides a parameter
    ∷ record {
      names = 1;
      tree = only (lambda (at 0) (named 1 0 ∷ []) (lambda (at 2) (named 3 0 ∷ []) (reads 4 0)));
      fresh = None;
      settled = None;
      says = shadows_at 1 NONE ∷ shadows_at 3 2 ∷ refers_at 4 4 ∷ [];
    }
    -- (lambda () (f (lambda () 1))): an argument escapes
    ∷ record {
      names = 1;
      tree = only (lambda (at 0) [] (call (at 1) (reads 2 0) (only (lambda (at 3) [] (number 4)))));
      fresh = None;
      settled = None;
      says = escapes_at 0 false ∷ escapes_at 3 true ∷ [];
    }
    -- (define f (lambda () (g (lambda () (f))))): in it, on a second run, a call of f is no self call
    ∷ record {
      names = 2;
      tree = only (define (bare 0) (named 1 0) (lambda (at 2) [] (call (at 3) (reads 4 1) (only (lambda (at 5) [] (call (at 6) (reads 7 0) nil))))));
      fresh = None;
      settled = None;
      says = call_at 6 (Some (SelfTailCall 2)) ∷ twice (call_at 6 (Some TailCall)) ∷ [];
    }
    -- (define f (lambda () (begin (set! f 1) (f)))): nor where f was set
    ∷ record {
      names = 1;
      tree = only (define (bare 0) (named 1 0) (lambda (at 2) [] (sequence (begins (bare 3)) (cons (set! (bare 4) (named 5 0) (number 6)) (only (call (at 7) (reads 8 0) nil))))));
      fresh = None;
      settled = None;
      says = call_at 7 (Some (SelfTailCall 1)) ∷ twice (call_at 7 (Some TailCall)) ∷ [];
    }
    -- (define f 1) (define g f): g's alias is the read of f
    ∷ record {
      names = 2;
      tree = cons (define (bare 0) (named 1 0) (number 2)) (only (define (bare 3) (named 4 1) (reads 5 0)));
      fresh = None;
      settled = None;
      says = alias_at 1 NONE ∷ alias_at 4 6 ∷ [];
    }
    -- (lambda (a) (begin (define b a) (define c (lambda () 1)))): parameters, then inner defines as they enter
    ∷ record {
      names = 3;
      tree = only (lambda (at 0) (named 1 0 ∷ []) (sequence (begins (bare 2))
          (cons (define (bare 3) (named 4 1) (reads 5 0)) (only (define (bare 6) (named 7 2) (lambda (at 8) [] (number 9)))))));
      fresh = None;
      settled = None;
      says = arguments_at 0 (2 ∷ 8 ∷ 5 ∷ []) ∷ arguments_at 8 [] ∷ [];
    }
    -- (define f (lambda (x) (let ((y (lambda () (f x)))) (f y)))): the context is none in a let's initial expressions, and again f's in its body
    ∷ record {
      names = 3;
      tree = only (define (bare 0) (named 1 0) (lambda (at 2) (named 3 1 ∷ []) (letin (at 4) (named 5 2 ∷ [])
          (only (lambda (at 6) [] (call (at 7) (reads 8 0) (only (reads 9 1))))) (call (at 10) (reads 11 0) (only (reads 12 2))))));
      fresh = None;
      settled = None;
      says =
          call_at 7 (Some TailCall) ∷ call_at 10 (Some (SelfTailCall 1)) ∷ twice (call_at 7 (Some TailCall)) ∷ twice (call_at 10 (Some (SelfTailCall 1))) ∷ [];
    }
    ∷ []

pub scripts_hold : map computed scripts ≡ map expected scripts
unfolding computed_as
scripts_hold = refl

pub all_as_said : All AsSaid scripts
all_as_said = as_said scripts scripts_hold

-- (define a (b c)) (define a (r 1)) p, where b is of class 2, c of 4, r of 8 and p of 1: a builtin that is hidden, a required name, a prelude name
abbrev pub classed : Script
classed = record {
  names = 5;
  tree = cons (define (bare 0) (named 1 0) (call (at 2) (reads 3 1) (only (reads 4 2))))
      (cons (define (bare 5) (named 6 0) (call (at 7) (reads 8 3) (only (number 9)))) (only (reads 10 4)));
  fresh = None;
  settled = None;
  says =
      builtin_at 1 true ∷ shadowed_at 1 true ∷ required_at 1 false
      ∷ shadows_at 6 2 ∷ builtin_at 6 false ∷ shadowed_at 6 false ∷ required_at 6 true
      ∷ kind_at 10 (Some Global) ∷ builtin_at 10 true ∷ [];
}

pub classed-holds : computed_as (0 ∷ 2 ∷ 4 ∷ 8 ∷ 1 ∷ []) classed ≡ expected classed
unfolding computed_as
classed-holds = refl

-- Document 01, refusal 10: "more than 4,096 captured entries over all lambdas". A list of one entry and one of two, of a lambda at 7, after 4,095.
abbrev nearly_full : State
nearly_full = start (record { rows = []; captured = []; captured_top = 4095; arguments = []; arguments_top = 0 })

pub captured_limit : map (λ k. (store_captured 7 (replicate k no_list_entry) nearly_full).noted.ten) (1 ∷ 2 ∷ []) ≡ None ∷ Some 7 ∷ []
unfolding store_captured start
captured_limit = refl
