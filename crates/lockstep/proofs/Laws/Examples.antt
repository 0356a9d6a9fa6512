-- Both machines run: the last value and the number of moments of some scripts; and that demand 3 needs both of its premises.
use Rattle.std.specs.Prelude.{ℕ, [], ◌∷◌, true, false, ◌≡◌, refl, replicate, Option, None}
use Rattle.tree.specs.Tree.{Tree, Trees, ident, const, letin, define, lambda, sequence, call, nil, cons, begins, ands, whens}
use Rattle.tree.specs.Check.{Refusal}
use Rattle.r7rs.specs.Machine.{next, ended, stopped, outside}
use Rattle.r7rs.specs.Run.{plain}
use Rattle.r7rs.proofs.Laws.Examples.{Last, running, constant, falsity, unspecified, procedure, stop, astray, last_p, x, nd, bare, one, shared}
use Rattle.pass.specs.Run.{fresh, refused_first}
use Rattle.lockstep.specs.Slot.{sconst, sunit, sclo, SOut, slots}
-- for what `examples` unfolds
use Rattle.tree.specs.Define
use Rattle.tree.specs.Tree
use Rattle.tree.specs.First
use Rattle.scope_map.specs.ScopeMap
use Rattle.r7rs.specs.Run as Machines
use Rattle.r7rs.specs.Steps
use Rattle.pass.specs.Lambda
use Rattle.pass.specs.Lists
use Rattle.pass.specs.Read
use Rattle.pass.specs.Run as Pass
use Rattle.pass.specs.State
use Rattle.pass.specs.Visit
use Rattle.lockstep.specs.Facts

abbrev last_s : SOut → Last
last_s (next s) = running
last_s (ended (sconst c false) m) = constant c
last_s (ended (sconst c true) m) = falsity c
last_s (ended sunit m) = unspecified
last_s (ended (sclo i xs e C) m) = procedure i
last_s stopped = stop
last_s outside = astray

pub record Seen : Type 0 where
  pub refused : Option Refusal  -- by the fresh run
  pub moments : ℕ  -- that the plain machine has made
  pub by_slots : Last
  pub plainly : Last

-- the script ts over so many names, after n moments
abbrev seen : ℕ → Trees → ℕ → Seen
seen names ts n =
    let s = fresh (replicate names 0) ts in
    let p = plain ts n in
    record { refused = refused_first s.noted; moments = p.made; by_slots = last_s (slots ts s.facts.rows n).now; plainly = last_p p.now }

-- ((lambda (x) (let ((f (lambda () x))) (f))) 3), within the premises
abbrev unshared : Trees
unshared = one (call (nd 0) (lambda (nd 1) (x 2 0 ∷ []) (letin (nd 3) (x 4 1 ∷ []) (one (lambda (nd 5) [] (ident (x 6 0))))
    (call (nd 7) (ident (x 8 1)) nil))) (one (const (nd 9) false)))

-- ((lambda (x) (begin (let ((y 2)) y) (let ((z 3)) z))) 1), within the premises: both names have slot 1
abbrev lets : Trees
lets = one (call (nd 0) (lambda (nd 1) (x 2 0 ∷ []) (sequence (begins (bare 3)) (cons (letin (nd 4) (x 5 1 ∷ []) (one (const (nd 6) false)) (ident (x 7 1)))
    (one (letin (nd 8) (x 9 2 ∷ []) (one (const (nd 10) false)) (ident (x 11 2))))))) (one (const (nd 12) false)))

-- ((lambda (x) ((lambda () (begin (define x 1) x)))) 2): an inner define
abbrev inner : Trees
inner = one (call (nd 0) (lambda (nd 1) (x 2 0 ∷ []) (call (nd 3) (lambda (nd 4) []
    (sequence (begins (bare 5)) (cons (define (bare 6) (x 7 0) (const (nd 8) false)) (one (ident (x 9 0)))))) nil)) (one (const (nd 10) false)))

-- ((lambda (x) (and x (when x x))) 3), within the premises
abbrev tested : Trees
tested = one (call (nd 0) (lambda (nd 1) (x 2 0 ∷ []) (sequence (ands (bare 3)) (cons (ident (x 4 0))
    (one (sequence (whens true (bare 5)) (cons (ident (x 6 0)) (one (ident (x 7 0))))))))) (one (const (nd 8) false)))

-- ((lambda (x) (and x #f x)) 3), within the premises: the added #f
abbrev failed : Trees
failed = one (call (nd 0) (lambda (nd 1) (x 2 0 ∷ []) (sequence (ands (bare 3)) (cons (ident (x 4 0)) (cons (const (nd 5) true) (one (ident (x 6 0)))))))
    (one (const (nd 7) false)))

-- `shared`: a set! of a parameter that an inner lambda mentions
examples : (seen 2 unshared 40 ∷ seen 3 lets 40 ∷ seen 1 tested 40 ∷ seen 1 failed 40 ∷ seen 2 shared 40 ∷ seen 1 inner 40 ∷ []) ≡ (
    record { refused = None; moments = 12; by_slots = constant 10; plainly = constant 10 }
    ∷ record { refused = None; moments = 15; by_slots = constant 11; plainly = constant 11 }
    ∷ record { refused = None; moments = 12; by_slots = constant 9; plainly = constant 9 }
    ∷ record { refused = None; moments = 8; by_slots = falsity 0; plainly = falsity 0 }
    ∷ record { refused = None; moments = 15; by_slots = constant 14; plainly = constant 11 }
    ∷ record { refused = None; moments = 11; by_slots = constant 9; plainly = constant 11 }
    ∷ [])
unfolding Define.◌⊕◌ Define.top_of Define.top_level Tree.flats ScopeMap.has_in ScopeMap.remove_in ScopeMap.layer_in ScopeMap.below_layer ScopeMap.get_in Machines.run plain Lambda.enter_name Lambda.enter_names Lambda.open_captures Lambda.open_scope Lambda.enter_parameters Lambda.open_lambda Lambda.mark_lasts Lambda.close_scope Lambda.close_captures Lambda.end_parameters Lambda.make_function Lambda.close_lambda Lambda.open_layer Lambda.close_layer Lambda.open_let Lambda.leave_names Lambda.close_let Lists.captured_in Lists.captured_vars Lists.insert_by_id Lists.sort_by_id Lists.store_captured Lists.store_arguments Lists.number_row Lists.amend_list Read.enter Read.define_fact Read.enter_define Read.enter_top_level_value Read.rule_of Read.use_in Read.read Read.mutate Pass.no_facts Pass.start Pass.run fresh State.insert State.amend State.put_entry Visit.mark_arguments Visit.close_call Visit.clear_context Visit.enter_children Visit.visit Visit.visit_arguments Visit.visit_children Visit.visit_top Visit.visit_tops Facts.row_of_id Facts.home slots Steps.give First.first
examples = refl
