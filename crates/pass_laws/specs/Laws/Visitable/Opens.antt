-- Every lambda that a visit enters finds its captured list inside the table: by the stage of the run.
use Rattle.std.specs.Prelude.{ℕ, ◌+◌, List, Bool, length, Option, None, Some}
use Rattle.std.proofs.Math.Bool.{true, false}
use Rattle.tree.specs.Tree.{Ident, Node, Tree, Trees, ident, const, if, letin, define, lambda, sequence, call, set!, nil, cons, size, sizes, Num, Nums, begins, ands, whens}
use Rattle.semantic.specs.Kinds.{function_in}
use Rattle.semantic.specs.declared.FunctionInformation.{FunctionInformation}
use Rattle.pass.specs.State.{State, row_at}
use Rattle.pass.specs.Visit.{Flags, top_flags, is_lambda}
use Rattle.pass_laws.specs.Sound.{Inside, Opens, OpensArguments, OpensChildren, OpensDefine, OpensTop, OpensTops, OpensTested}
use Rattle.pass_laws.specs.Stage.{EntersWithin, Stage, StageArguments, StageChildren, StageTops}
use Rattle.pass_laws.specs.Spread.{Spread}
use Rattle.pass_laws.specs.Laws.Stage.Parts.{first_argument, next_arguments, first_child, next_children, begin_children, and_children, when-test, when_children, if_first, if_second, if_third, let_initials, let_body_lem, define-body, call_arguments, call_head, set_expression}
use Rattle.pass_laws.specs.Laws.Stage.Lambdas.{lambda_body_lem, lambda_enters}
use Rattle.pass_laws.specs.Laws.Stage.Top.{lambda_define-body, value_define-body}
use Rattle.pass_laws.specs.Laws.Stage.Tops.{first-top, next_tops}

found_inside : (s : State) (o : Option FunctionInformation) → EntersWithin s o → Inside o
found_inside s None h = tt
found_inside s (Some v) h = h.0

module _ (classes : List ℕ) where
  mutual
    unfolding Num Opens

    pub opens : (i : ℕ) (t : Tree) → Num i t → (f : Flags) (s : State) → Stage i t f s → Opens Inside classes t f s
    opens i (ident x) n f s w = tt
    opens i (const m q) n f s w = tt
    opens i (if m a b c) n f s w = (
      opens (i + 1) a n.1 _ _ (if_first classes i f s m a b c w),
      opens (i + 1 + size a) b n.2 _ _ (if_second classes i f s m a b c n w),
      opens (i + 1 + size a + size b) c n.3 _ _ (if_third classes i f s m a b c n w),
    )
    opens i (letin m xs es b) n f s w = (
      opens_arguments (i + 1 + length xs) es n.3 _ _ (let_initials classes i f s m xs es b w),
      opens (i + 1 + length xs + sizes es) b n.4 _ _ (let_body_lem classes i f s m xs es b n w),
    )
    opens i (define m x b) n f s w = opens (i + 2) b n.2 _ _ (define-body classes i f s m x b n w)
    opens i (lambda m xs b) n f s w = (
      found_inside s (function_in (row_at s m.at)) (lambda_enters classes i f s m xs b n w),
      opens (i + 1 + length xs) b n.2 _ _ (lambda_body_lem classes i f s m xs b n w),
    )
    opens i (sequence (begins m) es) n f s w = opens_children (i + 1) es n.1 _ _ (begin_children classes i f s m es n w)
    opens i (sequence (ands m) es) n f s w = opens_children (i + 1) es n.1 _ _ (and_children classes i f s m es w)
    opens i (sequence (whens b m) es) n f s w = opens_tested i b m es n f s w
    opens i (call m e es) n f s w = (
      opens_arguments (i + 1 + size e) es n.2 _ _ (call_arguments classes i f s m e es w),
      opens (i + 1) e n.1 _ _ (call_head classes i f s m e es n w),
    )
    opens i (set! m x e) n f s w = opens (i + 2) e n.2 _ _ (set_expression classes i f s m x e n w)

    pub opens_arguments : (i : ℕ) (ts : Trees) → Nums i ts → (f : Flags) (s : State) → StageArguments i ts f s → OpensArguments Inside classes ts f s
    opens_arguments i nil n f s w = tt
    opens_arguments i (cons t ts) n f s w =
        (opens i t n.0 _ _ (first_argument classes i f s t ts w), opens_arguments (i + size t) ts n.1 _ _ (next_arguments classes i f s t ts n w))

    opens_tested : (i : ℕ) (b : Bool) (m : Node) (ts : Trees) → Num i (sequence (whens b m) ts) → (f : Flags) (s : State) → Stage i (sequence (whens b m) ts) f s
        → OpensTested Inside classes ts f s
    opens_tested i b m nil n f s w = tt
    opens_tested i b m (cons t ts) n f s w = (
      opens (i + 1) t n.1.0 _ _ (when-test classes i f s b m t ts w),
      opens_children (i + 1 + size t) ts n.1.1 _ _ (when_children classes i f s b m t ts n w),
    )

    pub opens_children : (i : ℕ) (ts : Trees) → Nums i ts → (f : Flags) (s : State) → StageChildren i ts f s → OpensChildren Inside classes ts f s
    opens_children i nil n f s w = tt
    opens_children i (cons t ts) n f s w =
        (opens i t n.0 _ _ (first_child classes i f s t ts w), opens_children (i + size t) ts n.1 _ _ (next_children classes i f s t ts n w))

  -- At top level

  opens_define : (l : Bool) (k : ℕ) (m : Node) (x : Ident) (b : Tree) → Num k (define m x b) → (s : State) → Stage k (define m x b) top_flags s
      → OpensDefine Inside classes l x b s
  unfolding Num
  opens_define true k m x b n s w = opens (k + 2) b n.2 _ _ (lambda_define-body classes k m x b s n w)
  opens_define false k m x b n s w = opens (k + 2) b n.2 _ _ (value_define-body classes k m x b s n w)

  pub opens_top : (k : ℕ) (t : Tree) → Num k t → (s : State) → Stage k t top_flags s → OpensTop Inside classes t s
  unfolding OpensTop
  opens_top k (ident x) n s w = tt
  opens_top k (const m q) n s w = tt
  opens_top k (if m a b c) n s w = opens k (if m a b c) n top_flags s w
  opens_top k (letin m xs es b) n s w = opens k (letin m xs es b) n top_flags s w
  opens_top k (define m x b) n s w = opens_define (is_lambda b) k m x b n s w
  opens_top k (lambda m xs b) n s w = opens k (lambda m xs b) n top_flags s w
  opens_top k (sequence m es) n s w = opens k (sequence m es) n top_flags s w
  opens_top k (call m e es) n s w = opens k (call m e es) n top_flags s w
  opens_top k (set! m x e) n s w = opens k (set! m x e) n top_flags s w

  pub opens_tops : (i j : ℕ) (ts : Trees) → Spread i j ts → (s : State) → StageTops i j ts s → OpensTops Inside classes ts s
  unfolding OpensTops
  opens_tops i j nil p s w = tt
  opens_tops i j (cons t ts) p s w =
      (opens_top p.0 t p.2 s (first-top classes i j t ts p s w), opens_tops (p.0 + size t) j ts p.3 _ (next_tops classes i j t ts p s w))
