-- The visits, one for each form; and a run over the top level. docs/RULES.md, 2, 4 and 7.
use Rattle.std.specs.Prelude.{ℕ, suc, ◌+◌, List, Bool, true, false, cond, not, ◌&&◌, length, eqb, ltb, Option, None, Some}
use Rattle.tree.specs.Tree.{Ident, Node, Tree, Trees, ident, const, if, letin, define, lambda, sequence, call, set!, nil, cons, begins, ands, whens, many}
use Rattle.tree.specs.Core.{core, cores}
use Rattle.semantic.specs.Information.{NONE}
use Rattle.semantic.specs.Rows.{CallSite}
use Rattle.semantic.specs.declared.IdentifierStatus.{IdentifierStatus}
use Rattle.semantic.specs.declared.IdentifierStatus.TheVariants.{Local, LocallyDefinedFunction}
use Rattle.semantic.specs.declared.CallKind.{CallKind}
use Rattle.semantic.specs.declared.CallKind.TheVariants.{Normal, TailCall, SelfTailCall}
use Rattle.semantic.specs.declared.Span.{Span}
use Rattle.pass.specs.State.{State, with_context, insert, row_at, entry_at, newest, depth}
use Rattle.pass.specs.Read.{span, enter_define, enter_top_level_value, read, mutate}
use Rattle.pass.specs.Lambda.{open_lambda, close_lambda, open_let, close_let, mark_last, at_bottom}
pub use Rattle.tree.specs.Core.{is_lambda_form, is_lambda}
pub use Rattle.semantic.specs.Kinds.{refers_in}

-- What a visit inherits
pub record Flags : Type 0 where
  pub tail : Bool  -- `tail_call_eligible`
  pub escape : Bool  -- `escape_analysis`
  pub height : ℕ  -- `stack_offset`
  pub counter : ℕ  -- `defining_context_depth`
  pub function : Option Node  -- `function_context`: the innermost lambda
  pub direct : Bool  -- the expression stands directly in an inner begin

abbrev pub top_flags : Flags
top_flags = record { tail = false; escape = false; height = 0; counter = 0; function = None; direct = false }

-- a part that is no tail position; one that is where the whole is
abbrev pub not_tail : Flags → Flags
not_tail f = record { tail = false; escape = f.escape; height = f.height; counter = f.counter; function = f.function; direct = false }

abbrev pub same_tail : Flags → Flags
same_tail f = record { tail = f.tail; escape = f.escape; height = f.height; counter = f.counter; function = f.function; direct = false }

abbrev pub pushed : Flags → Flags
pushed f = record { tail = f.tail; escape = f.escape; height = suc f.height; counter = f.counter; function = f.function; direct = f.direct }

abbrev pub let_body_flags : ℕ → Flags → Flags
let_body_flags k f = record { tail = f.tail; escape = f.escape; height = f.height + k; counter = f.counter; function = f.function; direct = false }

abbrev pub body_flags : Node → ℕ → Flags → Flags
body_flags n k f = record { tail = true; escape = f.escape; height = k; counter = suc f.counter; function = Some n; direct = false }

abbrev pub argument_flags : Flags → Flags
argument_flags f = record { tail = false; escape = true; height = f.height; counter = f.counter; function = f.function; direct = false }

abbrev pub head_flags : Tree → ℕ → Flags → Flags
head_flags h k f = record { tail = false; escape = f.tail && not (is_lambda h); height = f.height + k; counter = f.counter; function = f.function; direct = false }

abbrev pub is_nil : Trees → Bool
is_nil nil = true
is_nil (cons t ts) = false

abbrev pub child_flags : Bool → Flags → Flags
child_flags last f = record { tail = last && f.tail; escape = f.escape; height = f.height; counter = f.counter; function = f.function; direct = f.direct }

-- an inner begin's children; an and's, of which an only child stands where the and does, and more are the parts of an if
abbrev pub in_begin : Flags → Flags
in_begin f = record { tail = f.tail; escape = f.escape; height = f.height; counter = f.counter; function = f.function; direct = true }

abbrev pub is_alone : Trees → Bool
is_alone nil = false
is_alone (cons t nil) = true
is_alone (cons t (cons u us)) = false

abbrev pub in_and : Bool → Flags → Flags
in_and alone f = record { tail = f.tail; escape = f.escape; height = f.height; counter = f.counter; function = f.function; direct = alone && f.direct }

abbrev pub define_flags : Flags → Flags
define_flags f = record { tail = false; escape = f.escape; height = f.height; counter = cond f.direct 0 f.counter; function = f.function; direct = false }

-- Call

abbrev pub last_use_of : State → Option Ident → Option Ident
last_use_of s None = None
last_use_of s (Some b) = (entry_at s b.at).last_used

abbrev pub same_ident : Option Ident → Ident → Bool
same_ident None x = false
same_ident (Some y) x = eqb y.id x.id

-- an argument that is an identifier is marked where it is its name's last use so far
abbrev pub mark_argument : Tree → State → State
mark_argument (ident x) s = cond (same_ident (last_use_of s (newest s x.name)) x) (mark_last (Some x) s) s
mark_argument (const n q) s = s
mark_argument (if n a b c) s = s
mark_argument (letin n xs es b) s = s
mark_argument (define n x b) s = s
mark_argument (lambda n xs b) s = s
mark_argument (sequence n es) s = s
mark_argument (call n h es) s = s
mark_argument (set! n x e) s = s

unfoldable pub mark_arguments : Trees → State → State
mark_arguments nil s = s
mark_arguments (cons t ts) s = mark_arguments ts (mark_argument t s)

-- a call is self where its head refers to the define that the walk is in
abbrev pub is_self : State → Ident → Bool
is_self s x = not (eqb s.context NONE) && eqb (refers_in (row_at s x.at)) s.context

abbrev pub call_kind : Bool → Bool → ℕ → CallKind
call_kind false self k = Normal
call_kind true false k = TailCall
call_kind true true k = SelfTailCall k

abbrev pub node_span : Node → Span
node_span n = record { start = n.from; end = n.to }

abbrev pub call_site : Node → CallKind → Span → State → State
call_site n k p s = insert n.at (CallSite (record { kind = k; span = p })) s

-- a constant head leaves no fact
abbrev pub call_fact : Tree → Node → Bool → ℕ → State → State
call_fact (ident x) n tail k s = call_site n (call_kind tail (is_self s x) k) (span x) s
call_fact (const m q) n tail k s = s
call_fact (if m a b c) n tail k s = call_site n (call_kind tail false k) (node_span n) s
call_fact (letin m xs es b) n tail k s = call_site n (call_kind tail false k) (node_span n) s
call_fact (define m x b) n tail k s = call_site n (call_kind tail false k) (node_span n) s
call_fact (lambda m xs b) n tail k s = call_site n (call_kind tail false k) (node_span n) s
call_fact (sequence m es) n tail k s = call_site n (call_kind tail false k) (node_span n) s
call_fact (call m h es) n tail k s = call_site n (call_kind tail false k) (node_span n) s
call_fact (set! m x e) n tail k s = call_site n (call_kind tail false k) (node_span n) s

abbrev pub mark_if_tail : Bool → Trees → State → State
mark_if_tail true es s = mark_arguments es s
mark_if_tail false es s = s

unfoldable pub close_call : Node → Tree → Trees → Flags → State → State
close_call n h es f s =
    let tail = f.tail && ltb 1 (depth s) in
    call_fact (core h) n tail f.counter (mark_if_tail tail (cores es) s)

-- set!: on a second run the context ends where the target referred to it
unfoldable pub clear_context : Ident → State → State
clear_context x s = cond (is_self s x) (with_context NONE s) s

module _ (classes : List ℕ) where
  -- Define: an inner begin has entered its lambda defines; any other lambda define enters before its body, a value define after it

  abbrev pub open_define : Bool → Bool → Ident → Tree → State → State
  open_define true true x b s = with_context x.id s
  open_define true false x b s = with_context x.id s
  open_define false true x b s = with_context x.id (enter_define classes Local NONE x b s)
  open_define false false x b s = s

  abbrev pub close_define : Bool → Bool → ℕ → Ident → Tree → State → State
  close_define true true c x b s = with_context c s
  close_define true false c x b s = with_context c (enter_define classes Local NONE x b s)
  close_define false true c x b s = with_context c s
  close_define false false c x b s = enter_define classes Local NONE x b s

  -- the lambda defines among the expressions of an inner begin, or at top level, enter first, with this kind
  module _ (kind : IdentifierStatus) where
    abbrev pub enter_if_lambda : Bool → Ident → Tree → State → State
    enter_if_lambda true x b s = enter_define classes kind NONE x b s
    enter_if_lambda false x b s = s

    abbrev pub enter_child : Tree → State → State
    enter_child (ident x) s = s
    enter_child (const n q) s = s
    enter_child (if n a b c) s = s
    enter_child (letin n xs es b) s = s
    enter_child (define n x b) s = enter_if_lambda (is_lambda b) x b s
    enter_child (lambda n xs b) s = s
    enter_child (sequence n es) s = s
    enter_child (call n h es) s = s
    enter_child (set! n x e) s = s

    unfoldable pub enter_children : Trees → State → State
    enter_children nil s = s
    enter_children (cons t ts) s = enter_children ts (enter_child t s)

  unfoldable mutual
    pub visit : Tree → Flags → State → State
    visit (ident x) f s = read classes x s
    visit (const n q) f s = s
    visit (if n a b c) f s = visit c (same_tail f) (visit b (same_tail f) (visit a (not_tail f) s))
    visit (letin n xs es b) f s =
        close_let (at_bottom s) n xs f.height f.function
        (visit b (let_body_flags (many es) f)
        (open_let n xs f.height f.function (with_context s.context (visit_arguments es (not_tail f) (with_context NONE s)))))
    visit (define n x b) f s =
        close_define f.direct (is_lambda b) s.context x b (visit b (define_flags f) (open_define f.direct (is_lambda b) x b s))
    visit (lambda n xs b) f s = close_lambda n xs b f.escape (visit b (body_flags n (length xs) f) (open_lambda n xs s))
    visit (sequence (begins n) es) f s = visit_children es (in_begin f) (enter_children LocallyDefinedFunction (cores es) s)
    visit (sequence (ands n) es) f s = visit_children es (in_and (is_alone es) f) s
    visit (sequence (whens b n) es) f s = visit_tested es f s
    visit (call n h es) f s = close_call n h es f (visit h (head_flags h (many es) f) (visit_arguments es (argument_flags f) s))
    visit (set! n x e) f s = read classes x (mutate x.name (visit e (not_tail f) (clear_context x s)))

    -- arguments or initial expressions: each pushes a value
    pub visit_arguments : Trees → Flags → State → State
    visit_arguments nil f s = s
    visit_arguments (cons t ts) f s = visit_arguments ts (pushed f) (visit t f s)

    -- the children of a sequence, one after another
    pub visit_children : Trees → Flags → State → State
    visit_children nil f s = s
    visit_children (cons t ts) f s = visit_children ts f (visit t (child_flags (is_nil ts) f) s)

    -- a test and what follows it, which is as an inner begin
    pub visit_tested : Trees → Flags → State → State
    visit_tested nil f s = s
    visit_tested (cons t ts) f s = visit_children ts (in_begin f) (enter_children LocallyDefinedFunction (cores ts) (visit t (not_tail f) s))

  -- The top level

  abbrev pub visit_top_define : Bool → Ident → Tree → State → State
  visit_top_define true x b s = with_context NONE (visit b top_flags (with_context x.id s))
  visit_top_define false x b s = visit b top_flags (enter_top_level_value classes x b s)

  unfoldable pub visit_top : Tree → State → State
  visit_top (ident x) s = visit (ident x) top_flags s
  visit_top (const n q) s = s
  visit_top (if n a b c) s = visit (if n a b c) top_flags s
  visit_top (letin n xs es b) s = visit (letin n xs es b) top_flags s
  visit_top (define n x b) s = visit_top_define (is_lambda b) x b s
  visit_top (lambda n xs b) s = visit (lambda n xs b) top_flags s
  visit_top (sequence n es) s = visit (sequence n es) top_flags s
  visit_top (call n h es) s = visit (call n h es) top_flags s
  visit_top (set! n x e) s = visit (set! n x e) top_flags s

  unfoldable pub visit_tops : Trees → State → State
  visit_tops nil s = s
  visit_tops (cons t ts) s = visit_tops ts (visit_top t s)
