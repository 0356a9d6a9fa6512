-- Document 01, "Scripts to try (* proved)": each starred script with what the document says of it, and that the definitions say so.
use Rattle.std.specs.Prelude.{ℕ, suc, Bool, true, false, ◌≡◌, refl, length, replicate, Option, None, Some}
use mathlib.Core.List.{List, [], ◌∷◌, map, head-eq_of_cons-eq, tail-eq_of_cons-eq}
use Rattle.std.proofs.Common.{ap}
use Rattle.table.specs.Layout.{layout}
use Rattle.tree.specs.Record.{numbers, records}
use Rattle.tree.specs.Form.{form_of, names_of, others_of, fits}
use Rattle.tree.specs.Tree.{Ident, Node, Tree, Trees, ident, const, if, letin, define, lambda, sequence, call, set!, nil, cons, begins, flat, flats, size}
use Rattle.tree.specs.Define.{top_level, top_of, ◌⊕◌}
use Rattle.tree.specs.Place.{closed, after, placed, left}
use Rattle.tree.specs.First.{first}
use Rattle.tree.specs.Check.{Refusal, repeated, check1, check2, check3, check4, check5, check6, check7, check16, check8, refusal}
use Rattle.tree.specs.Accepted.{All, Accepted}
use Rattle.scope_map.specs.ScopeMap.{get_in, has_in, replace_in, remove_in, layer_in, below_layer}
use Rattle.semantic.specs.Information.{NONE}
use Rattle.semantic.specs.Rows.{Row, Blank, Variable, Function, CallSite, Let, ListEntry}
use Rattle.semantic.specs.declared.IdentifierStatus.{IdentifierStatus}
use Rattle.semantic.specs.declared.IdentifierStatus.TheVariants.{Captured, Free}
use Rattle.semantic.specs.declared.CallKind.{CallKind}
use Rattle.semantic.specs.declared.CallKind.TheVariants.{Normal, TailCall}
use Rattle.semantic.specs.declared.SemanticInformation.{SemanticInformation}
use Rattle.semantic.specs.declared.FunctionInformation.{FunctionInformation}
use Rattle.pass.specs.State.{State, row_at, insert, amend, put_entry}
use Rattle.pass.specs.Read.{enter, define_fact, enter_define, enter_top_level_value, rule_of, use_in, read, mutate}
use Rattle.pass.specs.Lists.{list_entry_id, captured_in, captured_vars, insert_by_id, sort_by_id, store_captured, store_arguments, rewrite_captured, number_row, number_rows, number_list, heap_count, keep, count_of, first_of, amend_list}
use Rattle.pass.specs.Lambda.{function_in, captured_list, argument_list, enter_name, enter_names, open_captures, open_scope, enter_parameters, open_lambda, names_used, holds_lambda, mark_lasts, close_scope, close_captures, end_parameters, make_function, amend_function, close_lambda, open_layer, close_layer, open_let, leave_names, entered, close_let}
use Rattle.pass.specs.Visit.{mark_arguments, close_call, clear_context, enter_children, visit, visit_top, visit_tops}
use Rattle.pass.specs.Run.{start, no_facts, run, fresh, settled, fresh_outcome, settled_outcome, zeros, tables_of}
use Rattle.tree.proofs.Laws.Numbered.{numbered, names_numbered, accepted_as}

-- What is said of the facts after the fresh run; with `twice`, after the settled run. A number before another is a record.

pub data Saying : Type 0 where
  call_at : ℕ → Option CallKind → Saying
  kind_at : ℕ → Option IdentifierStatus → Saying
  depth_at : ℕ → ℕ → Saying
  slot_at : ℕ → ℕ → Saying
  uses_at : ℕ → ℕ → Saying
  refers_at : ℕ → ℕ → Saying  -- the id
  alias_at : ℕ → ℕ → Saying  -- the id
  shadows_at : ℕ → ℕ → Saying  -- the id
  capture_at : ℕ → ℕ → Saying
  read_capture_at : ℕ → ℕ → Saying
  heap_at : ℕ → ℕ → Saying
  read_heap_at : ℕ → ℕ → Saying
  last_at : ℕ → Bool → Saying
  builtin_at : ℕ → Bool → Saying
  shadowed_at : ℕ → Bool → Saying
  required_at : ℕ → Bool → Saying
  escapes_at : ℕ → Bool → Saying  -- a lambda's
  arguments_at : ℕ → List ℕ → Saying  -- the ids in a lambda's list of arguments
  captured_at : ℕ → List ℕ → Saying  -- the ids in its captured list
  twice : Saying → Saying  -- after the settled run

pub record Script : Type 0 where
  pub names : ℕ
  pub tree : Trees
  pub fresh : Option Refusal  -- the fresh run's; none where it is accepted
  pub settled : Option Refusal
  pub says : List Saying

abbrev pub classes : Script → List ℕ
classes s = replicate s.names 0

abbrev pub records_of : Script → List ℕ
records_of s = numbers (flats s.tree)

-- What the definitions say instead

abbrev call_in : Row → Option CallKind
call_in Blank = None
call_in (Variable v) = None
call_in (Function v) = None
call_in (CallSite v) = Some v.kind
call_in (Let v) = None

abbrev variable_in : Row → Option SemanticInformation
variable_in Blank = None
variable_in (Variable v) = Some v
variable_in (Function v) = None
variable_in (CallSite v) = None
variable_in (Let v) = None

abbrev kind_in : Option SemanticInformation → Option IdentifierStatus
kind_in None = None
kind_in (Some v) = Some v.kind

-- a number of an identifier's fact, NONE without a fact; a mark of it
abbrev number_in : (SemanticInformation → ℕ) → Option SemanticInformation → ℕ
number_in f None = NONE
number_in f (Some v) = f v

abbrev mark_in : (SemanticInformation → Bool) → Option SemanticInformation → Bool
mark_in f None = false
mark_in f (Some v) = f v

abbrev escapes_in : Option FunctionInformation → Bool
escapes_in None = false
escapes_in (Some v) = v.escapes

-- the ids in a list of a lambda's
abbrev ids_in : (FunctionInformation → List ListEntry) → Option FunctionInformation → List ℕ
ids_in f None = []
ids_in f (Some v) = map list_entry_id (f v)

abbrev variable_at : State → ℕ → Option SemanticInformation
variable_at a i = variable_in (row_at a i)

-- in the state a after the fresh run and b after the settled run
unfoldable defined : State → State → Saying → Saying
defined a b (call_at i k) = call_at i (call_in (row_at a i))
defined a b (kind_at i k) = kind_at i (kind_in (variable_at a i))
defined a b (depth_at i n) = depth_at i (number_in (λ v. v.depth) (variable_at a i))
defined a b (slot_at i n) = slot_at i (number_in (λ v. v.stack_offset) (variable_at a i))
defined a b (uses_at i n) = uses_at i (number_in (λ v. v.usage_count) (variable_at a i))
defined a b (refers_at i n) = refers_at i (number_in (λ v. v.refers_to) (variable_at a i))
defined a b (alias_at i n) = alias_at i (number_in (λ v. v.aliases_to) (variable_at a i))
defined a b (shadows_at i n) = shadows_at i (number_in (λ v. v.shadows) (variable_at a i))
defined a b (capture_at i n) = capture_at i (number_in (λ v. v.capture_index) (variable_at a i))
defined a b (read_capture_at i n) = read_capture_at i (number_in (λ v. v.read_capture_offset) (variable_at a i))
defined a b (heap_at i n) = heap_at i (number_in (λ v. v.heap_offset) (variable_at a i))
defined a b (read_heap_at i n) = read_heap_at i (number_in (λ v. v.read_heap_offset) (variable_at a i))
defined a b (last_at i m) = last_at i (mark_in (λ v. v.last_usage) (variable_at a i))
defined a b (builtin_at i m) = builtin_at i (mark_in (λ v. v.builtin) (variable_at a i))
defined a b (shadowed_at i m) = shadowed_at i (mark_in (λ v. v.is_shadowed) (variable_at a i))
defined a b (required_at i m) = required_at i (mark_in (λ v. v.is_required_identifier) (variable_at a i))
defined a b (escapes_at i m) = escapes_at i (escapes_in (function_in (row_at a i)))
defined a b (arguments_at i l) = arguments_at i (ids_in (argument_list a) (function_in (row_at a i)))
defined a b (captured_at i l) = captured_at i (ids_in (captured_list a) (function_in (row_at a i)))
defined a b (twice w) = twice (defined b b w)

pub record Answer : Type 0 where
  pub numbered : Bool  -- is the tree numbered in preorder
  pub checked : Option Refusal  -- by checks 1 to 8 and 16, of the tree's records
  pub fresh : Option Refusal
  pub settled : Option Refusal
  pub says : List Saying

-- to unfold it is to unfold all that a fresh run computes with
unfoldable pub fresh_run : Script → State
unfolding top_level top_of ◌⊕◌ get_in has_in replace_in remove_in layer_in below_layer insert amend put_entry enter define_fact enter_define enter_top_level_value rule_of use_in read mutate captured_in captured_vars insert_by_id sort_by_id store_captured store_arguments rewrite_captured number_row number_rows number_list heap_count keep count_of first_of amend_list enter_name enter_names open_captures open_scope enter_parameters open_lambda names_used holds_lambda mark_lasts close_scope close_captures end_parameters make_function amend_function close_lambda open_layer close_layer open_let leave_names entered close_let mark_arguments close_call clear_context enter_children visit visit_top visit_tops start no_facts run fresh
fresh_run s = fresh (classes s) s.tree

-- and this is to unfold all that `scripts_hold` computes with; the classes may be others than the script's
unfoldable pub computed_as : List ℕ → Script → Answer
unfolding fresh_run numbered names_numbered flat size layout records fits form_of names_of others_of closed after placed left first repeated check1 check2 check3 check4 check5 check6 check7 check16 check8 refusal settled fresh_outcome settled_outcome zeros tables_of defined
computed_as c s = record {
  numbered = numbered 0 s.tree;
  checked = refusal (length c) (records_of s);
  fresh = (fresh_outcome c s.tree).refused;
  settled = (settled_outcome c s.tree).refused;
  says = map (defined (fresh c s.tree) (settled c s.tree)) s.says;
}

abbrev pub computed : Script → Answer
computed s = computed_as (classes s) s

abbrev pub expected : Script → Answer
expected s = record { numbered = true; checked = None; fresh = s.fresh; settled = s.settled; says = s.says }

-- Writing trees: what has an id has its record's number plus 1; an if, a begin, a define and a set! have none

abbrev node_of : ℕ → ℕ → Node
node_of i id = record { at = i; id = id; from = 0; to = 0 }

abbrev ident_of : ℕ → ℕ → ℕ → Ident
ident_of i id x = record { at = i; id = id; name = x; from = 0; to = 0 }

abbrev pub at : ℕ → Node
at i = node_of i (suc i)

abbrev pub bare : ℕ → Node
bare i = node_of i 0

-- the name x in a name's place, and read; a number
abbrev pub named : ℕ → ℕ → Ident
named i x = ident_of i (suc i) x

abbrev pub reads : ℕ → ℕ → Tree
reads i x = ident (named i x)

abbrev pub number : ℕ → Tree
number i = const (at i) false

abbrev pub only : Tree → Trees
only t = cons t nil

abbrev pub refused : ℕ → ℕ → Option Refusal
refused n i = Some (record { number = n; at = i })

-- The scripts in the document's order, each under the document's words. Names are numbered as they come.

-- "(define f (lambda (x) (f x))), f id 1, lambda 2, x 3, call 4, then 5 and 6, prints": the lines are in listing/specs/Laws/Scripts.antt
abbrev pub sample : Script
sample = record {
  names = 2;
  tree = only (define (bare 0) (ident_of 1 1 0) (lambda (node_of 2 2) (ident_of 3 3 1 ∷ []) (call (node_of 4 4) (ident (ident_of 5 5 0)) (only (ident (ident_of 6 6 1))))));
  fresh = None;
  settled = None;
  says = [];
}

-- "No records: the last line alone, all 0.": the line is there too
abbrev pub no_records : Script
no_records = record { names = 0; tree = nil; fresh = None; settled = None; says = [] }

abbrev pub scripts : List Script
scripts =
    sample
    ∷ no_records
    -- "(f x) alone: Normal; both Free."
    ∷ record {
      names = 2;
      tree = only (call (at 0) (reads 1 0) (only (reads 2 1)));
      fresh = None;
      settled = None;
      says = call_at 0 (Some Normal) ∷ kind_at 1 (Some Free) ∷ kind_at 2 (Some Free) ∷ [];
    }
    -- "(lambda (c) (if (p c) (q c) (r c))): Normal, TailCall, TailCall."
    ∷ record {
      names = 4;
      tree = only (lambda (at 0) (named 1 0 ∷ []) (if (bare 2)
          (call (at 3) (reads 4 1) (only (reads 5 0)))
          (call (at 6) (reads 7 2) (only (reads 8 0)))
          (call (at 9) (reads 10 3) (only (reads 11 0)))));
      fresh = None;
      settled = None;
      says = call_at 3 (Some Normal) ∷ call_at 6 (Some TailCall) ∷ call_at 9 (Some TailCall) ∷ [];
    }
    -- "(lambda (p) (g 7 (let ((y p)) y))): y's slot 2."
    ∷ record {
      names = 3;
      tree = only (lambda (at 0) (named 1 0 ∷ []) (call (at 2) (reads 3 1) (cons (number 4) (only (letin (at 5) (named 6 2 ∷ []) (only (reads 7 0)) (reads 8 2))))));
      fresh = None;
      settled = None;
      says = slot_at 8 2 ∷ [];
    }
    -- "(lambda (x) (lambda () x)): Captured, slot 0, depth 3."
    ∷ record {
      names = 1;
      tree = only (lambda (at 0) (named 1 0 ∷ []) (lambda (at 2) [] (reads 3 0)));
      fresh = None;
      settled = None;
      says = kind_at 3 (Some Captured) ∷ slot_at 3 0 ∷ depth_at 3 3 ∷ [];
    }
    -- "(lambda (x) (set! x 1)): x has 2 uses."
    ∷ record {
      names = 1;
      tree = only (lambda (at 0) (named 1 0 ∷ []) (set! (bare 2) (named 3 0) (number 4)));
      fresh = None;
      settled = None;
      says = uses_at 1 2 ∷ [];
    }
    -- "(lambda (x) (let ((x 1)) x)): 9 at 3."
    ∷ record {
      names = 1;
      tree = only (lambda (at 0) (named 1 0 ∷ []) (letin (at 2) (named 3 0 ∷ []) (only (number 4)) (reads 5 0)));
      fresh = refused 9 3;
      settled = refused 9 3;
      says = [];
    }
    -- "(lambda (x) (lambda () (begin (lambda () x) (set! x 1)))), settled: 12 at 5; fresh: accepted."
    ∷ record {
      names = 1;
      tree = only (lambda (at 0) (named 1 0 ∷ []) (lambda (at 2) [] (sequence (begins (bare 3))
          (cons (lambda (at 4) [] (reads 5 0)) (only (set! (bare 6) (named 7 0) (number 8)))))));
      fresh = None;
      settled = refused 12 5;
      says = [];
    }
    -- "(let ((x 1)) (lambda () (set! x 2))), settled: 11 at 1."
    ∷ record {
      names = 1;
      tree = only (letin (at 0) (named 1 0 ∷ []) (only (number 2)) (lambda (at 3) [] (set! (bare 4) (named 5 0) (number 6))));
      fresh = None;
      settled = refused 11 1;
      says = [];
    }
    ∷ []

pub scripts_hold : map computed scripts ≡ map expected scripts
unfolding computed_as
scripts_hold = refl

-- So each tree is the one that its records say, and both runs refuse or accept it as the document says

pub record AsSaid (s : Script) : Type 0 where
  pub accepted : Accepted (length (classes s)) (records_of s) s.tree
  pub fresh : (fresh_outcome (classes s) s.tree).refused ≡ s.fresh
  pub settled : (settled_outcome (classes s) s.tree).refused ≡ s.settled

pub as_said : (l : List Script) → map computed l ≡ map expected l → All AsSaid l
unfolding computed_as
as_said [] e = tt
as_said (s ∷ l) e =
    let h : computed s ≡ expected s = head-eq_of_cons-eq e in (
      record {
        accepted = accepted_as (length (classes s)) s.tree (ap (λ (a : Answer). a.numbered) h) (ap (λ (a : Answer). a.checked) h);
        fresh = ap (λ (a : Answer). a.fresh) h;
        settled = ap (λ (a : Answer). a.settled) h;
      },
      as_said l (tail-eq_of_cons-eq e),
    )

pub all_as_said : All AsSaid scripts
all_as_said = as_said scripts scripts_hold
