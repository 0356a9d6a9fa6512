-- A visit of the expansion of a tree does what a visit of the tree does.
use Rattle.std.specs.Prelude.{ℕ, List, Bool, true, false, ◌≡◌, refl, length}
use Rattle.std.proofs.Math.Bool.{and-false}
use Rattle.std.proofs.Common.{ap, ap₂, ◌∙◌}
use Rattle.tree.specs.Tree.{Node, Tree, Trees, ident, const, if, letin, define, lambda, sequence, call, set!, nil, cons, begins, ands, whens, many}
use Rattle.tree.specs.Core.{cores}
use Rattle.tree.specs.Expand.{expand, expands, expand_and, expand_tested}
use Rattle.semantic.specs.Information.{NONE}
use Rattle.semantic.specs.declared.IdentifierStatus.TheVariants.{LocallyDefinedFunction}
use Rattle.pass.specs.State.{State, with_context}
use Rattle.pass.specs.Lambda.{close_lambda}
use Rattle.pass.specs.Visit.{Flags, not_tail, same_tail, pushed, in_begin, is_alone, in_and, let_body_flags, body_flags, argument_flags, is_lambda, head_flags, is_nil, child_flags, define_flags, clear_context, enter_children, visit, visit_arguments, visit_children, visit_tested}
use Rattle.r7rs.proofs.Laws.Expansion.{many_expands}
use Rattle.pass_laws.specs.Laws.Expansion.Holds.{used, holding, ends}
use Rattle.pass_laws.specs.Laws.Expansion.Looks.{looks, same_lambda, same_children, same_call, same_before, same_after}

nil_expands : (ts : Trees) → is_nil (expands ts) ≡ is_nil ts
unfolding expand
nil_expands nil = refl
nil_expands (cons t ts) = refl

module _ (classes : List ℕ) where
  mutual
    unfolding visit expand enter_children

    pub visit_expand : (t : Tree) (f : Flags) (s : State) → visit classes (expand t) f s ≡ visit classes t f s
    visit_expand (ident x) f s = refl
    visit_expand (const n q) f s = refl
    visit_expand (if n a b c) f s = rw (visit_expand a (not_tail f) s, visit_expand b (same_tail f) _, visit_expand c (same_tail f) _)
    visit_expand (letin n xs es b) f s = rw (many_expands es, arguments_expand es (not_tail f) (with_context NONE s), visit_expand b (let_body_flags (many es) f) _)
    visit_expand (define n x b) f s =
        rw (same_lambda (looks b), same_before classes f.direct (is_lambda b) x b s, visit_expand b (define_flags f) _, same_after classes f.direct (is_lambda b) s.context x b _)
    visit_expand (lambda n xs b) f s = ends n xs (expand b) b f.escape _ (used b) (holding b) ∙ ap (close_lambda n xs b f.escape) (visit_expand b (body_flags n (length xs) f) _)
    visit_expand (sequence (begins n) es) f s = children_expand es (in_begin f) _ ∙ ap (visit_children classes es (in_begin f)) (same_children classes _ es s)
    visit_expand (sequence (ands n) es) f s = and_expand es n f s
    visit_expand (sequence (whens q n) es) f s = tested_expand es q n f s
    visit_expand (call n h es) f s =
        same_call n h es f _
        ∙ rw (many_expands es, same_lambda (looks h), arguments_expand es (argument_flags f) s, visit_expand h (head_flags h (many es) f) _)
    visit_expand (set! n x e) f s = rw (visit_expand e (not_tail f) (clear_context x s))

    arguments_expand : (ts : Trees) (f : Flags) (s : State) → visit_arguments classes (expands ts) f s ≡ visit_arguments classes ts f s
    arguments_expand nil f s = refl
    arguments_expand (cons t ts) f s = arguments_expand ts (pushed f) _ ∙ ap (visit_arguments classes ts (pushed f)) (visit_expand t f s)

    children_expand : (ts : Trees) (f : Flags) (s : State) → visit_children classes (expands ts) f s ≡ visit_children classes ts f s
    children_expand nil f s = refl
    children_expand (cons t ts) f s = children_expand ts f _ ∙ ap (visit_children classes ts f) (ap (λ (b : Bool). visit classes (expand t) (child_flags b f) s) (nil_expands ts) ∙ visit_expand t (child_flags (is_nil ts) f) s)

    and_expand : (ts : Trees) (n : Node) (f : Flags) (s : State) → visit classes (expand_and ts n) f s ≡ visit_children classes ts (in_and (is_alone ts) f) s
    and_expand nil n f s = refl
    and_expand (cons t nil) n f s = visit_expand t f s
    and_expand (cons t (cons u us)) n f s =
        and_expand (cons u us) n (same_tail f) _
        ∙ ap₂ (λ (b : Bool) (v : State). visit_children classes (cons u us) (record {
          tail = f.tail;
          escape = f.escape;
          height = f.height;
          counter = f.counter;
          function = f.function;
          direct = b;
        }) v) (and-false (is_alone (cons u us))) (visit_expand t (not_tail f) s)

    tested_expand : (ts : Trees) (q : Bool) (n : Node) (f : Flags) (s : State) → visit classes (expand_tested ts q n) f s ≡ visit_tested classes ts f s
    tested_expand nil true n f s = refl
    tested_expand nil false n f s = refl
    tested_expand (cons t ts) true n f s =
        children_expand ts (in_begin f) _
        ∙ ap (visit_children classes ts (in_begin f)) (same_children classes _ ts _ ∙ ap (enter_children classes LocallyDefinedFunction (cores ts)) (visit_expand t (not_tail f) s))
    tested_expand (cons t ts) false n f s =
        children_expand ts (in_begin f) _
        ∙ ap (visit_children classes ts (in_begin f)) (same_children classes _ ts _ ∙ ap (enter_children classes LocallyDefinedFunction (cores ts)) (visit_expand t (not_tail f) s))
